use Rattle.std.proofs.Common.{◌≡◌, not, true, false, ap, ◌∙◌, is_eq, rules, List, ℕ, Bor, sym}
use Rattle.std.specs.List.{list_any}
use Rattle.store_documents.proofs.KeyLemmas.{key_cmp, contains_is, inserted}
use Rattle.std.specs.Str.{bytes_eq}
use Rattle.store_documents.proofs.keys.Keys.meet.Goals as goal
use Rattle.std.proofs.lemmas.Bool.{not-true}

pub returns-clause-new : goal.returns-clause-new
returns-clause-new c = c.in_ok-is_new.ensures.added ∙ ap not (contains_is c.args.key c.args.self.now.met.keys)

pub returns-clause-added : goal.returns-clause-added
returns-clause-added c fresh k =
    let keys = c.args.self.now.met.keys in
    let is : c.in_ok-is_new.is_new ≡ true = search rules in
    let absent : list_any (λ y. is_eq (key_cmp c.args.key y)) keys ≡ false = not-true _ (sym c.in_ok-is_new.ensures.added ∙ is) in
    ap (λ ks. list_any (λ (y : Bor (List ℕ)). bytes_eq k y.now) ks) c.in_ok-is_new.ensures.keys ∙ inserted c.args.key keys k absent
