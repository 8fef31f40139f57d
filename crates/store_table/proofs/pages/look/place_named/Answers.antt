use Rattle.std.proofs.Common.{◌≡◌, Option, false, true, option_map, ℤ, Some, w64, to_z, of_z, sym, ap, ◌∙◌, rules}
use Rattle.sqlite_record.specs.Record.{decode}
use Rattle.store_table.specs.Documents.{Doc}
use Rattle.store_table.proofs.DocumentLemmas.{finds_none, finds_place, finds_other}
use Rattle.store_table.proofs.pages.look.place_named.Goals as goal

abbrev place_in : Option Doc → Option ℤ
place_in found = option_map (λ (d : Doc). d.place) found

pub returns-then-not-some-clause-found : goal.returns-then-not-some-clause-found
returns-then-not-some-clause-found g c clean docs are =
    let is_no : c.in_ok-some.some ≡ false = search rules in
    ap place_in (sym (finds_none g.P.Pages c.args.pages.now c.find_first.new.pages _ _ _ c.args.roots.table c.args.roots.index docs c.in_ok-key.ensures clean are _ _ is_no c.in_ok-some.ensures.done))

pub returns-then-not-is_same-clause-found : goal.returns-then-not-is_same-clause-found
returns-then-not-is_same-clause-found g c clean docs are =
    let is_yes : c.in_ok-some.some ≡ true = search rules in
    let reads = ap decode (sym c.payload.ensures) ∙ c.in-Some.ensures in
    ap place_in (sym (finds_other g.P.Pages c.args.pages.now c.find_first.new.pages _ _ _ c.args.roots.table c.args.roots.index docs c.in_ok-key.ensures clean are _ _ _ _ _ is_yes c.in_ok-some.ensures.done reads
    (λ both. let r = c.is_same.ensures.1 both.0 in let s = c.if-not-is_same.true in cc)))

pub returns-then-not-is_same-2-clause-found : goal.returns-then-not-is_same-2-clause-found
returns-then-not-is_same-2-clause-found g c clean docs are =
    let is_yes : c.in_ok-some.some ≡ true = search rules in
    let reads = ap decode (sym c.payload.ensures) ∙ c.in-Some.ensures in
    ap place_in (sym (finds_other g.P.Pages c.args.pages.now c.find_first.new.pages _ _ _ c.args.roots.table c.args.roots.index docs c.in_ok-key.ensures clean are _ _ _ _ _ is_yes c.in_ok-some.ensures.done reads
    (λ both. let r = c.is_same-2.ensures.1 both.1 in let s = c.if-not-is_same-2.true in cc)))

pub returns-clause-found : goal.returns-clause-found
returns-clause-found g c clean docs are =
    let is_yes : c.in_ok-some.some ≡ true = search rules in
    let reads = ap decode (sym c.payload.ensures) ∙ c.in-Some.ensures in
    let coll = c.is_same.ensures.0 (search rules) in
    let idkey = c.is_same-2.ensures.0 (search rules) in
    let place : to_z w64 (of_z w64 c.in-Some.entry.place) ≡ c.in-Some.entry.place = search rules in
    ap Some place ∙ sym (finds_place g.P.Pages c.args.pages.now c.find_first.new.pages _ _ _ c.args.roots.table c.args.roots.index docs c.in_ok-key.ensures clean are _ _ _ _ _ is_yes c.in_ok-some.ensures.done reads coll idkey)
