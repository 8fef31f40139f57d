use Rattle.std.proofs.Common.{◌≡◌, ◌∙◌, ◌++◌, ◌∷◌, [], ℕ, List, Option, MatchOption, option_map, Vec, ap, sym, refl, subst, subst₂, arith, rules}
use Rattle.std.specs.Bool.{⊤}
use Rattle.std.specs.declared.alloc.Global.{Global}
use Rattle.std.proofs.lemmas.List.{map-append}
use Rattle.sqlite_btree.proofs.Results.{steps_on}
use Rattle.sqlite_pages.specs.PageMap.{PageMap}
use Rattle.sqlite_value.specs.declared.value.Value.TheVariants.{Null, Text}
use Rattle.store_table.specs.Documents.{AreDocuments}
use Rattle.store_table.specs.PageNames.{AreUpTo, IsNext, names_in}
use Rattle.store_table.proofs.PageNameLemmas.{at_first, ends, goes_on}
use Rattle.store_table.proofs.pages.names.each_name.Goals as goal

abbrev bytes_of : Option (Vec ℕ Global) → Option (List ℕ)
bytes_of found = option_map (λ (v : Vec ℕ Global). v.items) found

pub names-init : goal.names-init
names-init g c =
    record {
      kept = search rules;
      pages = refl;
      met = (Null, search rules, λ clean docs are. subst (λ ns. AreUpTo Null ns docs) (ap names_in (sym c.new-names.ensures.items)) (at_first docs));
    }

pub returns-in-None-clause-names : goal.returns-in-None-clause-names
returns-in-None-clause-names g c clean docs are =
    let m = c.names.invariant.met in
    let here = subst₂ (λ (n : ℕ) (p : PageMap). AreDocuments n p c.args.roots.table c.args.roots.index docs) (sym c.names.invariant.kept.same_size) (sym c.names.invariant.pages) are in
    let found = c.in_ok-name.ensures.found clean m.0 c.args.roots.table docs m.1 here in
    ends m.0 (names_in c.names.names.items) docs (m.2 (omega (arith, clean, c.next_name.ensures.kept.clean)) docs are) (subst (λ o. IsNext m.0 docs (bytes_of o)) c.in-None.is found)

pub names-preserved : goal.names-preserved
names-preserved g c =
    let m = c.names.invariant.met in
    let name = c.in-Some.name in
    record {
      kept = steps_on g.met.P.Pages.follows_trans c.names.invariant.kept c.next_name.ensures.kept;
      pages = c.next_name.ensures.pages ∙ c.names.invariant.pages;
      met = (
        Text name.items,
        subst (λ (o : Option (Vec ℕ Global)). MatchOption o ⊤ (λ v. c.next_name.new.key ≡ Text v.items ∷ [])) c.in-Some.is c.in_ok-name.ensures.key,
        λ clean docs are.
            let here = subst₂ (λ (n : ℕ) (p : PageMap). AreDocuments n p c.args.roots.table c.args.roots.index docs) (sym c.names.invariant.kept.same_size) (sym c.names.invariant.pages) are in
            let found = c.in_ok-name.ensures.found clean m.0 c.args.roots.table docs m.1 here in
            let next = subst (λ o. IsNext m.0 docs (bytes_of o)) c.in-Some.is found in
            let on = goes_on m.0 (names_in c.names.names.items) docs name.items (m.2 (omega (arith, clean, c.next_name.ensures.kept.clean)) docs are) next in
            let all : names_in c.push-in-Some.new.self.items ≡ names_in c.names.names.items ++ name.items ∷ [] = ap names_in (search rules) ∙ map-append (λ (v : Vec ℕ Global). v.items) c.names.names.items (name ∷ []) in
            subst (λ ns. AreUpTo (Text name.items) ns docs) (sym all) on,
      );
    }

pub returns-in-None-clause-kept : goal.returns-in-None-clause-kept
returns-in-None-clause-kept g c = steps_on g.met.P.Pages.follows_trans c.names.invariant.kept c.next_name.ensures.kept

pub returns-in-None-clause-pages : goal.returns-in-None-clause-pages
returns-in-None-clause-pages g c = c.next_name.ensures.pages ∙ c.names.invariant.pages
