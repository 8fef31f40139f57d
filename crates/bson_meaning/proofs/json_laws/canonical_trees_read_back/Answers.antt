use Rattle.std.proofs.Common.{◌≡◌, ◌≤◌, Option, Some, None, Ok, refl, false}
use Rattle.std.specs.Prelude.{option_map}
use Rattle.serde_json.specs.Data as json
use Rattle.serde_json.specs.Data.{Data}
use Rattle.bson_base.specs.Kinds.{IsPlain, IsSound}
use Rattle.bson_base.specs.Value.{document, levels, Members}
use Rattle.bson_model.specs.JsonRead.{read_members}
use Rattle.bson_model.specs.JsonWrite.{write_members}
use Rattle.bson_model.specs.declared.extjson.ser.Mode.TheVariants.{Canonical}
use Rattle.bson_meaning.specs.JsonReserved.{has_reserved}
use Rattle.bson_meaning.specs.Meaning.{norm_members_in_order}
use Rattle.bson_meaning.proofs.JsonReadLemmas.{canonical_comes, raised}
use Rattle.bson_meaning.proofs.json_laws.canonical_trees_read_back.Goals as goal

tree_back : (d : Members) (j : Data) → IsSound (document d) → has_reserved d ≡ false → (o : Option json.Members) → write_members Canonical d json.no_members ≡ o
    → option_map json.object o ≡ Some j
    → (js : json.Members) × (e : Members) × (j ≡ json.object js) × (read_members js ≡ Ok e) × (norm_members_in_order e ≡ norm_members_in_order d)
    × (IsPlain (document d) → IsPlain (document e)) × (levels (document e) ≤ levels (document d))
tree_back d j s r None is w = cc
tree_back d j s r (Some js) is w = let a = canonical_comes d s r js is in (js, a.values, cc, a.reads, a.same, a.plain, raised a.deep)

pub returns-clause-members : goal.returns-clause-members
returns-clause-members c = λ d js s r e. let a = canonical_comes d s r js e in (a.values, a.reads, a.same, a.plain, raised a.deep)

pub returns-clause-tree : goal.returns-clause-tree
returns-clause-tree c = λ d j s r w. tree_back d j s r (write_members Canonical d json.no_members) refl w
