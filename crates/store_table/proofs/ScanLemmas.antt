-- The text that reads a collection in order of place, without its index.
use Rattle.std.proofs.Common.{◌≡◌, ℕ, ℤ, List, [], ◌∷◌, ◌++◌, map, filter, codes, bytes_eq, ap, ◌∙◌, refl, inl, inr, sym, subst}
use Rattle.sqlite.specs.declared.types.Value.TheVariants.{Null, Int, Text, Blob}
use Rattle.sqlite.specs.Order.{Row}
use Rattle.sqlite.specs.Term.{col}
use Rattle.sqlite_sql.specs.Term.{holds}
use Rattle.sqlite_sql.specs.Ops.{binary, is_true}
use Rattle.sqlite_sql.specs.declared.ops.BinaryOp.TheVariants.{Compare, Coalesce}
use Rattle.sqlite_sql.specs.declared.ops.CompareOp.TheVariants.{Eq}
use Rattle.sqlite.specs.Collation.TheVariants.{Binary}
use Rattle.std.specs.List.{list_all}
use Rattle.sqlite.specs.Command.TheVariants.{Select}
use Rattle.sqlite.specs.State.{State}
use Rattle.sqlite.proofs.Callers.{begins_as}
use Rattle.sqlite_tied.specs.Compute.{everything}
use Rattle.store_table.specs.Rows.{TableRow, columns_of, HoldsRows, is_in}
use Rattle.store_table.specs.Visit.{IsSelect, TookRows, TookSome, first_value, scan_text, placed, placed_text}
use Rattle.store_table.specs.Moves.{bodies_of, placed_of, parts_of_row}
use Rattle.store_table.proofs.StatementLemmas.{seen}
use Rattle.store_table.proofs.TextLemmas.{query_at, program, by_place}
use Rattle.store_table.proofs.FilterLemmas.{scan_terms}
use Rattle.store_table.proofs.MeansLemmas.{scan_is, placed_is}
use Rattle.store_table.proofs.AnswerLemmas.{and_true, outputs_of, equal_is}
use Rattle.store_table.proofs.ReadLemmas.{in_order, answers_of, text_test}

coalesced : (a : List ℕ) → binary Coalesce (Text a) Null ≡ Text a
unfolding binary
coalesced a = refl

scan_test : (coll : List ℕ) (d : TableRow) → list_all (holds ((Text coll ∷ []) ∷ columns_of d ∷ [])) scan_terms ≡ is_in coll d
scan_test coll d =
    and_true _ ∙ ap (λ v. is_true (binary (Compare Eq Binary) v (Text coll))) (coalesced d.coll) ∙ equal_is (Text d.coll) (Text coll) (bytes_eq d.coll coll) refl refl (text_test d.coll coll)

pub scan_asks : IsSelect scan_text
unfolding everything
scan_asks = (refl, refl)

values_are : (docs : List TableRow) → map first_value (map (λ (d : TableRow). Blob d.body ∷ []) docs) ≡ map (λ (d : TableRow). d.body) docs
values_are [] = refl
values_are (d ∷ docs) = ap (λ vs. d.body ∷ vs) (values_are docs)

some_values : (taken rest : List Row) → map first_value (taken ++ rest) ≡ map first_value taken ++ map first_value rest
some_values [] rest = refl
some_values (r ∷ taken) rest = ap (λ vs. first_value r ∷ vs) (some_values taken rest)

module _ {V : Type 0} (took : V → List (List ℕ) → Type 0) (v : V) (coll : List ℕ) (old : State) (docs : List TableRow) (h : HoldsRows old docs) where
  pub whole_scan : (new : State) → TookRows (λ (w : V) rows. took w (map first_value rows)) v scan_text (Text coll ∷ []) old new → took v (bodies_of coll docs)
  whole_scan new t =
      let params = Text coll ∷ [] in
      let project = col 1 4 ∷ [] in
      let m = scan_is old.now.schema (seen h.table).place (seen h.table).tree (seen h.table).stands in
      let answer = answers_of scan_text params old new docs (codes "body" ∷ []) scan_terms project by_place t.0 h m t.1 in
      let all = in_order scan_terms project params (is_in coll) docs t.0 (seen h.table).rising (outputs_of scan_terms project by_place params (is_in coll) docs old.now t.0 (seen h.table) (scan_test coll) answer) in
      subst (λ vs. took v vs) (ap (map first_value) all ∙ values_are (filter (is_in coll) docs)) t.2

  pub some_scan : TookSome (λ (w : V) rows. took w (map first_value rows)) v scan_text (Text coll ∷ []) old → (taken : List (List ℕ)) × (rest : List (List ℕ)) × (taken ++ rest ≡ bodies_of coll docs) × took v taken
  some_scan (rows, inl none, t) = ([], bodies_of coll docs, refl, subst (λ (rs : List Row). took v (map first_value rs)) none t)
  some_scan (rows, inr begun, t) =
      let params = Text coll ∷ [] in
      let project = col 1 4 ∷ [] in
      let m = scan_is old.now.schema (seen h.table).place (seen h.table).tree (seen h.table).stands in
      let got = begins_as scan_text params old old old.now.schema refl (Select (program (query_at (seen h.table).tree scan_terms project by_place)) (codes "body" ∷ [])) m.is m.plain m.unlisted rows begun.1 in
      let all = in_order scan_terms project params (is_in coll) docs (rows ++ got.1.0) (seen h.table).rising
      (outputs_of scan_terms project by_place params (is_in coll) docs old.now (rows ++ got.1.0) (seen h.table) (scan_test coll) (record { typed = got.0; answer = got.1.1 })) in
      (map first_value rows, map first_value got.1.0, sym (some_values rows got.1.0) ∙ ap (map first_value) all ∙ values_are (filter (is_in coll) docs), t)

-- ---- with their places

pub placed_asks : IsSelect placed_text
unfolding everything
placed_asks = (refl, refl)

placed_are : (docs : List TableRow) → map placed (map (λ (d : TableRow). Int d.place ∷ Blob d.body ∷ []) docs) ≡ map parts_of_row docs
placed_are [] = refl
placed_are (d ∷ docs) = ap (λ vs. (d.place, d.body) ∷ vs) (placed_are docs)

some_placed_values : (taken rest : List Row) → map placed (taken ++ rest) ≡ map placed taken ++ map placed rest
some_placed_values [] rest = refl
some_placed_values (r ∷ taken) rest = ap (λ vs. placed r ∷ vs) (some_placed_values taken rest)

module _ {V : Type 0} (took : V → List (ℤ × List ℕ) → Type 0) (v : V) (coll : List ℕ) (old : State) (docs : List TableRow) (h : HoldsRows old docs) where
  pub whole_placed : (new : State) → TookRows (λ (w : V) rows. took w (map placed rows)) v placed_text (Text coll ∷ []) old new → took v (placed_of coll docs)
  whole_placed new t =
      let params = Text coll ∷ [] in
      let project = col 1 0 ∷ col 1 4 ∷ [] in
      let m = placed_is old.now.schema (seen h.table).place (seen h.table).tree (seen h.table).stands in
      let answer = answers_of placed_text params old new docs (codes "place" ∷ codes "body" ∷ []) scan_terms project by_place t.0 h m t.1 in
      let all = in_order scan_terms project params (is_in coll) docs t.0 (seen h.table).rising (outputs_of scan_terms project by_place params (is_in coll) docs old.now t.0 (seen h.table) (scan_test coll) answer) in
      subst (λ vs. took v vs) (ap (map placed) all ∙ placed_are (filter (is_in coll) docs)) t.2

  pub some_placed : TookSome (λ (w : V) rows. took w (map placed rows)) v placed_text (Text coll ∷ []) old → (taken : List (ℤ × List ℕ)) × (rest : List (ℤ × List ℕ)) × (taken ++ rest ≡ placed_of coll docs) × took v taken
  some_placed (rows, inl none, t) = ([], placed_of coll docs, refl, subst (λ (rs : List Row). took v (map placed rs)) none t)
  some_placed (rows, inr begun, t) =
      let params = Text coll ∷ [] in
      let project = col 1 0 ∷ col 1 4 ∷ [] in
      let m = placed_is old.now.schema (seen h.table).place (seen h.table).tree (seen h.table).stands in
      let got = begins_as placed_text params old old old.now.schema refl (Select (program (query_at (seen h.table).tree scan_terms project by_place)) (codes "place" ∷ codes "body" ∷ [])) m.is m.plain m.unlisted rows begun.1 in
      let all = in_order scan_terms project params (is_in coll) docs (rows ++ got.1.0) (seen h.table).rising
      (outputs_of scan_terms project by_place params (is_in coll) docs old.now (rows ++ got.1.0) (seen h.table) (scan_test coll) (record { typed = got.0; answer = got.1.1 })) in
      (map placed rows, map placed got.1.0, sym (some_placed_values rows got.1.0) ∙ ap (map placed) all ∙ placed_are (filter (is_in coll) docs), t)
