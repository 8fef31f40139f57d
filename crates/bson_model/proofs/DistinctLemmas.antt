-- Distinct keys, said of the tree.
use Rattle.std.proofs.Common.{◌≡◌, ℕ, ◌+◌, ◌<◌, false, if◌then◌else◌, List, [], ◌∷◌, ◌++◌, map, take, length, get_or, Some, None, bytes_eq, refl, sym, ap, ◌∙◌, subst}
use Rattle.std.specs.List.{IsDistinct, AllByRecursion}
use Rattle.std.specs.Map.{keys_of, values_of}
use Rattle.std.proofs.lemmas.List.{take_more}
use Rattle.bson_base.specs.Value.{Value, look_up, HasDistinctKeys, ItemsHaveDistinctKeys, MembersHaveDistinctKeys}
use Rattle.bson_pairs.specs.Keyed.{Key}
use Rattle.bson_pairs.specs.Over.{keys_of-over}
use Rattle.bson_pairs.proofs.KeyedLemmas.{values_of-over}
use Rattle.bson_model.specs.View.{view, items_of, members_of, pairs_of}
use Rattle.bson_model.specs.declared.bson.Bson.{Bson}
use Rattle.bson_model.specs.declared.document.Document.{Document}

push_distinct : (vs : List Bson) (v : Bson) → ItemsHaveDistinctKeys (items_of (map view vs)) → HasDistinctKeys (view v) → ItemsHaveDistinctKeys (items_of (map view (vs ++ v ∷ [])))
push_distinct [] v h g = (g, tt)
push_distinct (x ∷ vs) v h g = (h.0, push_distinct vs v h.1 g)

-- one item more
pub more_distinct : (vs : List Bson) (i : ℕ) (d : Bson) → i < length vs → ItemsHaveDistinctKeys (items_of (map view (take i vs))) → HasDistinctKeys (view (get_or vs i d)) → ItemsHaveDistinctKeys (items_of (map view (take (i + 1) vs)))
more_distinct vs i d h a b =
    let P : List Bson → Type 0 = λ l. ItemsHaveDistinctKeys (items_of (map view l)) in
    subst P (sym (take_more vs i d h)) (push_distinct (take i vs) (get_or vs i d) a b)

pub none_there : (k : Key) (ps : List (Key × Value)) → AllByRecursion (λ l. bytes_eq k l ≡ false) (keys_of ps) → look_up k (members_of ps) ≡ None
none_there k [] h = refl
none_there k (p ∷ ps) h = ap (λ b. if b then Some p.1 else look_up k (members_of ps)) h.0 ∙ none_there k ps h.1

members_distinct : (ps : List (Key × Value)) → IsDistinct bytes_eq (keys_of ps) → ItemsHaveDistinctKeys (items_of (values_of ps)) → MembersHaveDistinctKeys (members_of ps)
unfolding IsDistinct
members_distinct [] h g = tt
members_distinct (p ∷ ps) h g = (none_there p.0 ps h.0, g.0, members_distinct ps h.1 g.1)

-- the keys of a document, whose values are seen as trees
pub level_distinct : (d : Document) → IsDistinct bytes_eq (keys_of d.pairs) → IsDistinct bytes_eq (keys_of (pairs_of d))
level_distinct d h = subst (IsDistinct bytes_eq) (sym (keys_of-over view d.pairs)) h

pub document_distinct : (d : Document) → IsDistinct bytes_eq (keys_of d.pairs) → ItemsHaveDistinctKeys (items_of (map view (values_of d.pairs))) → MembersHaveDistinctKeys (members_of (pairs_of d))
document_distinct d h g =
    let P : List Value → Type 0 = λ l. ItemsHaveDistinctKeys (items_of l) in
    members_distinct (pairs_of d) (level_distinct d h) (subst P (sym (values_of-over view d.pairs)) g)
