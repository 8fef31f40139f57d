-- A document that takes the place of another one.
use Rattle.std.proofs.Common.{◌≡◌, List, Bool, true, false, ap, ◌∙◌}
use Rattle.bson_base.specs.Value.{Value, Members, has_key, member, put}
use Rattle.bson_model.specs.Keyed.{Key}
use Rattle.bson_model.specs.Keyed as keyed
use Rattle.bson_model.specs.View.{content, members_of, pairs_of}
use Rattle.bson_model.specs.declared.document.Document.{Document}
use Rattle.store_model.specs.State.{id_key}
use Rattle.fallowtime_commands.specs.Changing.{identified_by}
use Rattle.cli_convert.proofs.IdLemmas.{has_id}

pub copied : (id : Value) (d e : Document) (m : Members) → pairs_of e ≡ pairs_of d → m ≡ identified_by id (content e) → m ≡ identified_by id (content d)
copied id d e m same made = made ∙ ap (λ (ps : List (Key × Value)). identified_by id (members_of ps)) same

module _ (ps : List (Key × Value)) (b : Bool) (is : b ≡ keyed.has_key id_key ps) where
  pub none_own : b ≡ false → has_key id_key (members_of ps) ≡ false
  none_own none = has_id ps b is ∙ none

  pub placed_front : (id : Value) (m : Members) → b ≡ false → m ≡ member id_key id (members_of ps) → m ≡ identified_by id (members_of ps)
  placed_front id m none made = rw (has_id ps b is ∙ none) made

  pub placed_own : (id : Value) (m : Members) → b ≡ true → m ≡ put id_key id (members_of ps) → m ≡ identified_by id (members_of ps)
  placed_own id m has made = rw (has_id ps b is ∙ has) made
