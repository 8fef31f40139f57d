-- What calls over pages find, in the words of the table.
use Rattle.std.proofs.Common.{◌≡◌, ◌∙◌, ◌||◌, ℕ, List, [], ◌∷◌, ◌++◌, map, Vec, bytes_eq, ap, sym, refl}
use Rattle.std.specs.List.{list_any}
use Rattle.std.specs.declared.alloc.Global.{Global}
use Rattle.std.proofs.lemmas.List.{map-append}
use Rattle.sqlite_trees.proofs.ListLemmas.{map-map}
use Rattle.store_table.specs.Moves.{bodies_of}
use Rattle.store_table.specs.Names.{has_name}
use Rattle.store_table.specs.Rows.{TableRow}
use Rattle.store_table.specs.Documents.{Doc, of_collection}
use Rattle.store_table.specs.PageNames.{names_in}
use Rattle.store_table.specs.Bridge.{as_doc}
use Rattle.store_table.proofs.BridgeLemmas.{visits_alike}

abbrev body_in : Doc → List ℕ
body_in d = d.body

pub bodies_alike : (coll : List ℕ) (docs : List TableRow) → map (λ (d : Doc). d.body) (of_collection coll (map as_doc docs)) ≡ bodies_of coll docs
bodies_alike coll docs = ap (map body_in) (visits_alike coll docs) ∙ map-map body_in as_doc _

pub bodies_parted : (coll : List ℕ) (docs : List TableRow) (given rest : List Doc) → of_collection coll (map as_doc docs) ≡ given ++ rest
    → map (λ (d : Doc). d.body) given ++ map (λ (d : Doc). d.body) rest ≡ bodies_of coll docs
bodies_parted coll docs given rest is = sym (map-append body_in given rest) ∙ ap (map body_in) (sym is) ∙ bodies_alike coll docs

pub name_in : (c : List ℕ) (names : List (Vec ℕ Global)) → has_name names c ≡ list_any (bytes_eq c) (names_in names)
name_in c [] = refl
name_in c (n ∷ names) = ap (λ b. bytes_eq c n.items || b) (name_in c names)
