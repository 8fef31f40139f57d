-- What a SELECT over the table means, wherever the table is in a schema.
use Rattle.std.proofs.Common.{◌≡◌, ℕ, ◌-◌, suc, List, [], ◌∷◌, map, codes, negsuc, Bool, true, false, Option, None, Some, Ok, refl, nat_lt}
use Rattle.sqlite.specs.declared.types.Value.TheVariants.{Int}
use Rattle.sqlite.specs.Schema.{Schema}
use Rattle.sqlite.specs.Term.{Term, lit, col}
use Rattle.sqlite.specs.Collation.TheVariants.{Binary}
use Rattle.sqlite_value.specs.declared.keys.Key.{Key}
use Rattle.sqlite_value.specs.declared.keys.Collation.{Collation}
use Rattle.sqlite_ast.specs.declared.Expr.{Expr, roll-Expr}
use Rattle.sqlite_ast.specs.declared.Expr.TheOpen.{Expr-F}
use Rattle.sqlite_ast.specs.declared.Shown.{Shown}
use Rattle.sqlite_ast.specs.declared.Source.{Source, roll-Source}
use Rattle.sqlite_ast.specs.declared.Core.{Core, roll-Core}
use Rattle.sqlite_ast.specs.declared.Sort.{Sort, roll-Sort}
use Rattle.sqlite_ast.specs.declared.Select.{Select, roll-Select}
use Rattle.sqlite_ast.specs.declared.Origin.TheVariants.{Table}
use Rattle.sqlite_draft.specs.declared.join.Step.TheVariants.{Inner}
use Rattle.sqlite_draft.specs.declared.query.Draft.{Draft}
use Rattle.sqlite_draft.specs.Join.{chain}
use Rattle.sqlite_schema.specs.declared.program.Program.{Program}
use Rattle.sqlite_schema.specs.declared.command.Command.TheVariants.{Select as Selects}
use Rattle.sqlite_resolve.specs.declared.scope.Level.{Level}
use Rattle.sqlite_resolve.specs.declared.scope.Output.{Output}
use Rattle.sqlite_resolve.specs.declared.state.State.{State}
use Rattle.sqlite_resolve.specs.declared.state.Carried.{Carried}
use Rattle.sqlite_resolve.specs.Lowering.{fresh, max_budget, take_slot}
use Rattle.sqlite_resolve.specs.Terms.{number}
use Rattle.sqlite_resolve.specs.Scope.{alias_of}
use Rattle.sqlite_resolve.specs.Expr.{lower}
use Rattle.sqlite_resolve.specs.Body.{bound, bounds, tests, shared, outputs, inner_join, join, joins, result, matching, body}
use Rattle.sqlite_resolve.specs.Order.{is_numeral, alias_in, written_on, peeled, collation_of, placed, key, keys, sort, sorts}
use Rattle.sqlite_resolve.specs.Select.{outermost, inside, having, parts, ungrouped, assembled, named, paging}
use Rattle.sqlite_resolve.specs.Program.{Building, Shown as Answer, source, sources, viewing, single, alone, with, whole, level, query_to, query, program as typed}
use Rattle.sqlite_resolve.specs.Compile.{read}
use Rattle.sqlite_tied.specs.Compute.{everything}
use Rattle.store_table.specs.Schema.{HasDocuments}
use Rattle.store_table.proofs.TreeLemmas.{trees}
use Rattle.store_table.proofs.LookLemmas.{bound_at, by_bytes, by_nothing, named_column, shown_column, output_of, scope_at, IsColumn, lowers, shows_column, table_is, place_column, coll_column, idkey_column, body_column}
use Rattle.store_table.proofs.FilterLemmas.{collected, after, by_collate, named_terms, scan_terms, named_test, scan_test, named_lowered, scan_lowered, place_test, place_lowered}
use Rattle.store_table.proofs.TextLemmas.{query_at, program, equals}

abbrev pub table_source : Source
table_source = roll-Source (record { is_left = false; origin = Table (codes "documents"); alias = None; on = None; using = [] })

abbrev pub core_of : List Shown → Option Expr → Core
core_of shown filter = roll-Core (record { distinct = false; shown = shown; from = table_source ∷ []; filter = filter; group = []; having = None })

abbrev pub sort_of : Bool → Sort
sort_of descending = roll-Sort (record { key = named_column (codes "place"); descending = descending; nulls_first = None })

abbrev pub select_of : Core → Bool → Option Expr → Select
select_of core descending limit = roll-Select (record { with = []; first = core; others = []; order = sort_of descending ∷ []; limit = limit; offset = None })

abbrev pub place_key : Bool → List (Term × Key)
place_key descending = (col 1 0, record { collation = Binary; descending = descending }) ∷ []

abbrev pub draft_of : ℕ → List Term → List Term → List (Term × Key) → Term × Term → Draft
draft_of tree filter project order page = record { from = chain (Inner tree ∷ []); filter = filter; group = None; project = project; distinct = false; collations = []; order = order; limit = page.0; offset = page.1 }

abbrev pub level_at : ℕ → List Output → Level
level_at n shown = record { tables = bound_at n ∷ []; shown = shown }

abbrev pub no_page : Term × Term
no_page = (lit (Int (negsuc 0)), number 0)

abbrev pub one_page : Term × Term
one_page = (number 1, number 0)

abbrev pub one : Expr
one = roll-Expr (Expr-F.Integer (codes "1"))

abbrev pub names_select : Select
names_select = select_of (core_of (shown_column (codes "coll") ∷ []) None) false None

abbrev pub all_shown : List Shown
all_shown = shown_column (codes "place") ∷ shown_column (codes "coll") ∷ shown_column (codes "idkey") ∷ shown_column (codes "body") ∷ []

abbrev pub all_select : Select
all_select = select_of (core_of all_shown None) false None

abbrev pub greatest_select : Select
greatest_select = select_of (core_of (shown_column (codes "place") ∷ []) None) true (Some one)

abbrev pub found_select : Select
found_select = select_of (core_of (shown_column (codes "place") ∷ shown_column (codes "body") ∷ []) (Some named_test)) false None

abbrev pub places_select : Select
places_select = select_of (core_of (shown_column (codes "place") ∷ []) (Some named_test)) false None

abbrev pub scan_select : Select
scan_select = select_of (core_of (shown_column (codes "body") ∷ []) (Some scan_test)) false None

abbrev pub placed_select : Select
placed_select = select_of (core_of (shown_column (codes "place") ∷ shown_column (codes "body") ∷ []) (Some scan_test)) false None

abbrev pub at_select : Select
at_select = select_of (core_of (shown_column (codes "coll") ∷ shown_column (codes "body") ∷ []) (Some place_test)) false None

unpaged : (core : Core) (schema : Schema) → paging schema (select_of core false None) ≡ Ok no_page
unfolding paging Rattle.sqlite_resolve.specs.Select.constant_or trees
unpaged core schema = refl

paged_once : (core : Core) (schema : Schema) → paging schema (select_of core true (Some one)) ≡ Ok one_page
unfolding everything
paged_once core schema = refl

-- ---- the parts, put together

named_by : (schema : Schema) (n tree : ℕ) (shown : List Shown) (filter : Option Expr) (outs : List Output) (terms : List Term) (order : List Sort) (by_keys : List (Term × Key)) (page : Term × Term) (s : State) (b d : ℕ) (v w : Option Collation) (c e : Carried)
    → bounds schema (table_source ∷ []) (fresh 1 max_budget) ≡ Ok (bound_at n ∷ [], fresh 2 max_budget)
    → result lower (outermost schema) (level_at n []) (core_of shown filter) (fresh 2 max_budget) ≡ Ok (outs, s)
    → matching lower (outermost schema) (level_at n outs) (core_of shown filter) s ≡ Ok (record { steps = Inner tree ∷ []; filter = terms }, collected b v c)
    → sorts lower (inside schema (level_at n outs) false) outs order (collected b v c) ≡ Ok (by_keys, collected d w e)
    → named schema (core_of shown filter) order page ≡ Ok (draft_of tree terms (map (λ (o : Output). o.term) outs) by_keys page, map (λ (o : Output). o.name) outs, map (λ (o : Output). o.carried.collation) outs)
unfolding named parts body keys having tests assembled ungrouped trees
named_by schema n tree shown filter outs terms order by_keys page s b d v w c e from gives meets sorted = rw (from, gives, meets, sorted) refl

viewed : (q : Schema → Select → Building Answer) (schema : Schema) (core : Core) (order : List Sort) (page : Term × Term) (more : ℕ) (x : Answer) → named schema core order page ≡ Ok x
    → viewing q schema core order page (suc more) schema [] ≡ Ok ((x, schema), [])
unfolding viewing
viewed q schema core order page more x h = rw h refl

levelled : (q : Schema → Select → Building Answer) (schema : Schema) (shown : List Shown) (filter : Option Expr) (descending : Bool) (limit : Option Expr) (page : Term × Term) (x : Answer)
    → paging schema (select_of (core_of shown filter) descending limit) ≡ Ok page → viewing q schema (core_of shown filter) (sort_of descending ∷ []) page 64 schema [] ≡ Ok ((x, schema), [])
    → level q schema (select_of (core_of shown filter) descending limit) [] ≡ Ok (x, [])
unfolding level with whole alone single sources source trees
levelled q schema shown filter descending limit page x paged seen = rw (paged, seen) refl

query_is : (depth : ℕ) (schema : Schema) (s : Select) (x : Answer) → level (query_to depth) schema s [] ≡ Ok (x, []) → query_to (suc depth) schema s [] ≡ Ok (x, [])
unfolding query_to
query_is depth schema s x h = h

read_by : (schema : Schema) (s : Select) (d : Draft) (names : List (List ℕ)) (hows : List (Option Collation)) (p : Program) → query_to 16 schema s [] ≡ Ok ((d, names, hows), []) → typed schema [] d ≡ Ok p
    → read schema s ≡ Ok (Selects p names)
unfolding read query
read_by schema s d names hows p asked types = rw (asked, types) refl

module _ (schema : Schema) (n tree : ℕ) (h : HasDocuments schema.tables n tree) where
  bounded : bounds schema (table_source ∷ []) (fresh 1 max_budget) ≡ Ok (bound_at n ∷ [], fresh 2 max_budget)
  unfolding bounds bound take_slot trees
  bounded = rw (table_is schema n tree h 1) refl

  sorted_by_place : (outs : List Output) (descending : Bool) (s : State) → alias_of (codes "place") outs ≡ None → nat_lt 1 s.budget ≡ true
      → sorts lower (inside schema (level_at n outs) false) outs (sort_of descending ∷ []) s ≡ Ok (place_key descending, record s { budget = s.budget - 1; last = by_nothing })
  unfolding sorts sort key peeled alias_in collation_of written_on is_numeral placed Rattle.sqlite_resolve.specs.Lowering.alone trees
  sorted_by_place outs descending s no_alias enough = rw (no_alias, lowers schema n (codes "place") 0 by_nothing (place_column schema n tree h) 699 (named_column (codes "place")) refl outs false s enough) refl

  joined : (outs : List Output) (s : State) → joins lower (scope_at schema n outs false) (bound_at n ∷ []) (table_source ∷ []) s ≡ Ok (record { steps = Inner tree ∷ []; filter = [] }, s)
  unfolding joins join inner_join shared tests trees
  joined outs s = rw h.at refl

  matches_all : (shown : List Shown) (outs : List Output) (s : State) → matching lower (outermost schema) (level_at n outs) (core_of shown None) s ≡ Ok (record { steps = Inner tree ∷ []; filter = [] }, s)
  unfolding matching tests trees
  matches_all shown outs s = rw (joined outs s) refl

  matches_some : (shown : List Shown) (e : Expr) (outs : List Output) (t : Term) (s u : State) → lower (scope_at schema n outs false) e s ≡ Ok (t, u)
      → matching lower (outermost schema) (level_at n outs) (core_of shown (Some e)) s ≡ Ok (record { steps = Inner tree ∷ []; filter = Rattle.sqlite_resolve.specs.Terms.conjuncts t }, u)
  unfolding matching tests trees
  matches_some shown e outs t s u lowered = rw (joined outs s, lowered) refl

  gives_one : (name : List ℕ) (k : ℕ) (c : Carried) → IsColumn schema n name k c → (filter : Option Expr)
      → result lower (outermost schema) (level_at n []) (core_of (shown_column name ∷ []) filter) (fresh 2 max_budget) ≡ Ok (output_of name k c ∷ [], after 99999 c)
  unfolding result outputs trees
  gives_one name k c column filter = rw (shows_column schema n name k c column [] (fresh 2 max_budget) refl) refl

  gives_two : (name other : List ℕ) (k j : ℕ) (c d : Carried) → IsColumn schema n name k c → IsColumn schema n other j d → (filter : Option Expr)
      → result lower (outermost schema) (level_at n []) (core_of (shown_column name ∷ shown_column other ∷ []) filter) (fresh 2 max_budget) ≡ Ok (output_of name k c ∷ output_of other j d ∷ [], after 99998 d)
  unfolding result outputs trees
  gives_two name other k j c d one two filter =
      rw (shows_column schema n name k c one [] (fresh 2 max_budget) refl, shows_column schema n other j d two (output_of name k c ∷ []) (after 99999 c) refl) refl

  gives_four : (filter : Option Expr) → result lower (outermost schema) (level_at n []) (core_of (shown_column (codes "place") ∷ shown_column (codes "coll") ∷ shown_column (codes "idkey") ∷ shown_column (codes "body") ∷ []) filter) (fresh 2 max_budget)
      ≡ Ok (output_of (codes "place") 0 by_nothing ∷ output_of (codes "coll") 1 by_bytes ∷ output_of (codes "idkey") 2 by_bytes ∷ output_of (codes "body") 3 by_bytes ∷ [], after 99996 by_bytes)
  unfolding result outputs trees
  gives_four filter =
      let place = output_of (codes "place") 0 by_nothing in
      let coll = output_of (codes "coll") 1 by_bytes in
      let idkey = output_of (codes "idkey") 2 by_bytes in
      rw (
        shows_column schema n (codes "place") 0 by_nothing (place_column schema n tree h) [] (fresh 2 max_budget) refl,
        shows_column schema n (codes "coll") 1 by_bytes (coll_column schema n tree h) (place ∷ []) (after 99999 by_nothing) refl,
        shows_column schema n (codes "idkey") 2 by_bytes (idkey_column schema n tree h) (place ∷ coll ∷ []) (after 99998 by_bytes) refl,
        shows_column schema n (codes "body") 3 by_bytes (body_column schema n tree h) (place ∷ coll ∷ idkey ∷ []) (after 99997 by_bytes) refl,
      ) refl

  -- a SELECT of these columns and this filter
  selects : (shown : List Shown) (filter : Option Expr) (outs : List Output) (terms : List Term) (descending : Bool) (limit : Option Expr) (page : Term × Term) (s : State) (b : ℕ) (v : Option Collation) (c : Carried)
      → result lower (outermost schema) (level_at n []) (core_of shown filter) (fresh 2 max_budget) ≡ Ok (outs, s)
      → matching lower (outermost schema) (level_at n outs) (core_of shown filter) s ≡ Ok (record { steps = Inner tree ∷ []; filter = terms }, collected b v c)
      → alias_of (codes "place") outs ≡ None → nat_lt 1 b ≡ true → ((schema : Schema) → paging schema (select_of (core_of shown filter) descending limit) ≡ Ok page)
      → (p : Program) → typed schema [] (draft_of tree terms (map (λ (o : Output). o.term) outs) (place_key descending) page) ≡ Ok p
      → read schema (select_of (core_of shown filter) descending limit) ≡ Ok (Selects p (map (λ (o : Output). o.name) outs))
  selects shown filter outs terms descending limit page s b v c gives meets no_alias enough paged p types =
      let d = draft_of tree terms (map (λ (o : Output). o.term) outs) (place_key descending) page in
      let names = map (λ (o : Output). o.name) outs in
      let hows = map (λ (o : Output). o.carried.collation) outs in
      let whole = select_of (core_of shown filter) descending limit in
      let order = sort_of descending ∷ [] in
      let is = named_by schema n tree shown filter outs terms order (place_key descending) page s b (b - 1) v v c by_nothing bounded gives meets (sorted_by_place outs descending (collected b v c) no_alias enough) in
      read_by schema whole d names hows p
      (query_is 15 schema whole (d, names, hows) (levelled (query_to 15) schema shown filter descending limit page (d, names, hows) (paged schema) (viewed (query_to 15) schema (core_of shown filter) order page 63 (d, names, hows) is))) types

  -- ---- SELECT coll FROM documents ORDER BY place

  names_typed : typed schema [] (draft_of tree [] (col 1 2 ∷ []) (place_key false) no_page) ≡ Ok (program (query_at tree [] (col 1 2 ∷ []) (place_key false)))
  unfolding everything
  names_typed = rw (h.stored, h.own) refl

  pub names_read : read schema names_select ≡ Ok (Selects (program (query_at tree [] (col 1 2 ∷ []) (place_key false))) (codes "coll" ∷ []))
  names_read =
      selects (shown_column (codes "coll") ∷ []) None (output_of (codes "coll") 1 by_bytes ∷ []) [] false None no_page (after 99999 by_bytes) 99999 None by_bytes
      (gives_one (codes "coll") 1 by_bytes (coll_column schema n tree h) None) (matches_all (shown_column (codes "coll") ∷ []) (output_of (codes "coll") 1 by_bytes ∷ []) (after 99999 by_bytes)) refl refl (unpaged _) _ names_typed

  -- ---- SELECT place, coll, idkey, body FROM documents ORDER BY place

  all_typed : typed schema [] (draft_of tree [] (col 1 0 ∷ col 1 2 ∷ col 1 3 ∷ col 1 4 ∷ []) (place_key false) no_page) ≡ Ok (program (query_at tree [] (col 1 0 ∷ col 1 2 ∷ col 1 3 ∷ col 1 4 ∷ []) (place_key false)))
  unfolding everything
  all_typed = rw (h.stored, h.own) refl

  pub all_read : read schema all_select ≡ Ok (Selects (program (query_at tree [] (col 1 0 ∷ col 1 2 ∷ col 1 3 ∷ col 1 4 ∷ []) (place_key false))) (codes "place" ∷ codes "coll" ∷ codes "idkey" ∷ codes "body" ∷ []))
  all_read =
      selects all_shown None (output_of (codes "place") 0 by_nothing ∷ output_of (codes "coll") 1 by_bytes ∷ output_of (codes "idkey") 2 by_bytes ∷ output_of (codes "body") 3 by_bytes ∷ []) [] false None no_page (after 99996 by_bytes) 99996 None by_bytes
      (gives_four None)
      (matches_all all_shown (output_of (codes "place") 0 by_nothing ∷ output_of (codes "coll") 1 by_bytes ∷ output_of (codes "idkey") 2 by_bytes ∷ output_of (codes "body") 3 by_bytes ∷ []) (after 99996 by_bytes)) refl refl (unpaged _) _ all_typed

  -- ---- SELECT place FROM documents ORDER BY place DESC LIMIT 1

  greatest_typed : typed schema [] (draft_of tree [] (col 1 0 ∷ []) (place_key true) one_page) ≡ Ok (program (record (query_at tree [] (col 1 0 ∷ []) (place_key true)) { limit = number 1 }))
  unfolding everything
  greatest_typed = rw (h.stored, h.own) refl

  pub greatest_read : read schema greatest_select ≡ Ok (Selects (program (record (query_at tree [] (col 1 0 ∷ []) (place_key true)) { limit = number 1 })) (codes "place" ∷ []))
  greatest_read =
      selects (shown_column (codes "place") ∷ []) None (output_of (codes "place") 0 by_nothing ∷ []) [] true (Some one) one_page (after 99999 by_nothing) 99999 None by_nothing
      (gives_one (codes "place") 0 by_nothing (place_column schema n tree h) None) (matches_all (shown_column (codes "place") ∷ []) (output_of (codes "place") 0 by_nothing ∷ []) (after 99999 by_nothing)) refl refl (paged_once _) _ greatest_typed

  -- ---- SELECT place, body FROM documents WHERE coll = ?1 COLLATE BINARY AND idkey = ?2 ORDER BY place

  found_typed : typed schema [] (draft_of tree named_terms (col 1 0 ∷ col 1 4 ∷ []) (place_key false) no_page) ≡ Ok (program (query_at tree named_terms (col 1 0 ∷ col 1 4 ∷ []) (place_key false)))
  unfolding everything
  found_typed = rw (h.stored, h.own) refl

  pub found_read : read schema found_select ≡ Ok (Selects (program (query_at tree named_terms (col 1 0 ∷ col 1 4 ∷ []) (place_key false))) (codes "place" ∷ codes "body" ∷ []))
  found_read =
      let outs = output_of (codes "place") 0 by_nothing ∷ output_of (codes "body") 3 by_bytes ∷ [] in
      let shown = shown_column (codes "place") ∷ shown_column (codes "body") ∷ [] in
      selects shown (Some named_test) outs named_terms false None no_page (after 99998 by_bytes) 99990 (Some Binary) by_collate
      (gives_two (codes "place") (codes "body") 0 3 by_nothing by_bytes (place_column schema n tree h) (body_column schema n tree h) (Some named_test))
      (matches_some shown named_test outs _ (after 99998 by_bytes) (collected 99990 (Some Binary) by_collate) (named_lowered schema n tree h outs 99998 by_bytes refl refl refl refl refl refl refl refl)) refl refl (unpaged _) _ found_typed

  -- ---- SELECT place FROM documents WHERE coll = ?1 COLLATE BINARY AND idkey = ?2 ORDER BY place

  places_typed : typed schema [] (draft_of tree named_terms (col 1 0 ∷ []) (place_key false) no_page) ≡ Ok (program (query_at tree named_terms (col 1 0 ∷ []) (place_key false)))
  unfolding everything
  places_typed = rw (h.stored, h.own) refl

  pub places_read : read schema places_select ≡ Ok (Selects (program (query_at tree named_terms (col 1 0 ∷ []) (place_key false))) (codes "place" ∷ []))
  places_read =
      let outs = output_of (codes "place") 0 by_nothing ∷ [] in
      let shown = shown_column (codes "place") ∷ [] in
      selects shown (Some named_test) outs named_terms false None no_page (after 99999 by_nothing) 99991 (Some Binary) by_collate
      (gives_one (codes "place") 0 by_nothing (place_column schema n tree h) (Some named_test))
      (matches_some shown named_test outs _ (after 99999 by_nothing) (collected 99991 (Some Binary) by_collate) (named_lowered schema n tree h outs 99999 by_nothing refl refl refl refl refl refl refl refl)) refl refl (unpaged _) _ places_typed

  -- ---- SELECT body FROM documents WHERE +coll = ?1 COLLATE BINARY ORDER BY place

  scan_typed : typed schema [] (draft_of tree scan_terms (col 1 4 ∷ []) (place_key false) no_page) ≡ Ok (program (query_at tree scan_terms (col 1 4 ∷ []) (place_key false)))
  unfolding everything
  scan_typed = rw (h.stored, h.own) refl

  pub scan_read : read schema scan_select ≡ Ok (Selects (program (query_at tree scan_terms (col 1 4 ∷ []) (place_key false))) (codes "body" ∷ []))
  scan_read =
      let outs = output_of (codes "body") 3 by_bytes ∷ [] in
      let shown = shown_column (codes "body") ∷ [] in
      selects shown (Some scan_test) outs scan_terms false None no_page (after 99999 by_bytes) 99994 (Some Binary) by_collate
      (gives_one (codes "body") 3 by_bytes (body_column schema n tree h) (Some scan_test))
      (matches_some shown scan_test outs _ (after 99999 by_bytes) (collected 99994 (Some Binary) by_collate) (scan_lowered schema n tree h outs 99999 by_bytes refl refl refl refl refl)) refl refl (unpaged _) _ scan_typed

  -- ---- SELECT coll, body FROM documents WHERE place = ?1 ORDER BY place

  at_typed : typed schema [] (draft_of tree (equals 0 0 ∷ []) (col 1 2 ∷ col 1 4 ∷ []) (place_key false) no_page) ≡ Ok (program (query_at tree (equals 0 0 ∷ []) (col 1 2 ∷ col 1 4 ∷ []) (place_key false)))
  unfolding everything
  at_typed = rw (h.stored, h.own) refl

  pub at_read : read schema at_select ≡ Ok (Selects (program (query_at tree (equals 0 0 ∷ []) (col 1 2 ∷ col 1 4 ∷ []) (place_key false))) (codes "coll" ∷ codes "body" ∷ []))
  at_read =
      let outs = output_of (codes "coll") 1 by_bytes ∷ output_of (codes "body") 3 by_bytes ∷ [] in
      let shown = shown_column (codes "coll") ∷ shown_column (codes "body") ∷ [] in
      selects shown (Some place_test) outs (equals 0 0 ∷ []) false None no_page (after 99998 by_bytes) 99995 None by_nothing
      (gives_two (codes "coll") (codes "body") 1 3 by_bytes by_bytes (coll_column schema n tree h) (body_column schema n tree h) (Some place_test))
      (matches_some shown place_test outs _ (after 99998 by_bytes) (after 99995 by_nothing) (place_lowered schema n tree h outs 99998 by_bytes refl refl refl)) refl refl (unpaged _) _ at_typed

  -- ---- SELECT place, body FROM documents WHERE +coll = ?1 COLLATE BINARY ORDER BY place

  placed_typed : typed schema [] (draft_of tree scan_terms (col 1 0 ∷ col 1 4 ∷ []) (place_key false) no_page) ≡ Ok (program (query_at tree scan_terms (col 1 0 ∷ col 1 4 ∷ []) (place_key false)))
  unfolding everything
  placed_typed = rw (h.stored, h.own) refl

  pub placed_read : read schema placed_select ≡ Ok (Selects (program (query_at tree scan_terms (col 1 0 ∷ col 1 4 ∷ []) (place_key false))) (codes "place" ∷ codes "body" ∷ []))
  placed_read =
      let outs = output_of (codes "place") 0 by_nothing ∷ output_of (codes "body") 3 by_bytes ∷ [] in
      let shown = shown_column (codes "place") ∷ shown_column (codes "body") ∷ [] in
      selects shown (Some scan_test) outs scan_terms false None no_page (after 99998 by_bytes) 99993 (Some Binary) by_collate
      (gives_two (codes "place") (codes "body") 0 3 by_nothing by_bytes (place_column schema n tree h) (body_column schema n tree h) (Some scan_test))
      (matches_some shown scan_test outs _ (after 99998 by_bytes) (collected 99993 (Some Binary) by_collate) (scan_lowered schema n tree h outs 99998 by_bytes refl refl refl refl refl)) refl refl (unpaged _) _ placed_typed
