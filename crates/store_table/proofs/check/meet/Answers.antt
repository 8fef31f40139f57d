use Rattle.std.proofs.Common.{◌≡◌, ◌&&◌, ◌||◌, not, bytes_eq, true, false, ap, ap₂, ◌∙◌, is_eq, rules, sym}
use Rattle.std.specs.List.{list_any}
use Rattle.store_table.specs.Seen.{Pair, pair_cmp, has_pair}
use Rattle.store_table.proofs.SeenLemmas.{contains_is, and_swap, inserted}
use Rattle.store_table.proofs.check.meet.Goals as goal
use Rattle.std.proofs.lemmas.Bool.{not-true}

pub returns-clause-new : goal.returns-clause-new
returns-clause-new c =
    let key : Pair = (c.in_ok-key.key, c.in_ok-name.name) in
    let keys = c.args.seen.now.keys in
    c.in_ok-is_new.ensures.added ∙ ap not (contains_is key keys ∙ ap₂ (λ a b. has_pair keys a b) c.in_ok-name.ensures.items c.in_ok-key.ensures.items)

pub returns-clause-added : goal.returns-clause-added
returns-clause-added c fresh coll idkey =
    let key : Pair = (c.in_ok-key.key, c.in_ok-name.name) in
    let keys = c.args.seen.now.keys in
    let is : c.in_ok-is_new.is_new ≡ true = search rules in
    let absent : list_any (λ (y : Pair). is_eq (pair_cmp key y)) keys ≡ false = not-true _ (sym c.in_ok-is_new.ensures.added ∙ is) in
    ap (λ ks. has_pair ks coll idkey) c.in_ok-is_new.ensures.keys ∙ inserted key keys coll idkey absent
    ∙ ap (λ b. b || has_pair keys coll idkey) (and_swap (bytes_eq idkey key.0.items) (bytes_eq coll key.1.items))
    ∙ ap₂ (λ a b. (bytes_eq coll a && bytes_eq idkey b) || has_pair keys coll idkey) c.in_ok-name.ensures.items c.in_ok-key.ensures.items
