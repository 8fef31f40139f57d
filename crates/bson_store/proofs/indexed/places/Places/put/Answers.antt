use Rattle.std.proofs.Common.{◌≡◌, ◌∙◌, Bool, true, false, cond, is_eq, None, Some, ap, sym, rules, Option, w64}
use Rattle.std.proofs.lemmas.Int.{to_z-of_z}
use Rattle.std.specs.Cmp.Lexicographic.{slice_cmp}
use Rattle.std.specs.Ordering.{nat_cmp}
use Rattle.std.specs.BTreeMap.{get_by}
use Rattle.bson_store.specs.declared.indexed.place_list.PlaceList.{PlaceList}
use Rattle.bson_store.proofs.MovedLemmas.{at_key, back_list, moved_list, other_list, twice}
use Rattle.bson_store.proofs.AmongLemmas.{not_alone}
use Rattle.bson_store.proofs.indexed.places.Places.put.Goals as goal

pub returns-in_default-clause-kept : goal.returns-in_default-clause-kept
returns-in_default-clause-kept c k p h =
    moved_list c.args.self.now.lists c.insert.new.self c.args.key k None (Some _) p (sym c.in_default.is ∙ c.in_ok-old.ensures.old) (λ t. absurd (let x : false ≡ true = t in cc)) (c.in_ok-old.ensures.updates.0 k) h

pub returns-clause-kept : goal.returns-clause-kept
returns-clause-kept c k p h =
    let lists = c.args.self.now.lists in
    let list = c.in_ok-list.list in
    let b = is_eq (slice_cmp nat_cmp c.args.key.items k.items) in
    let same : c.in_ok-copy.copy.items ≡ c.args.key.items = (let s = c.as_slice.ensures.value in let t = c.in_ok-copy.ensures.items in search rules) in
    let out : is_eq (slice_cmp nat_cmp c.in_ok-copy.copy.items k.items) ≡ b = ap (λ ks. is_eq (slice_cmp nat_cmp ks k.items)) same in
    let last = c.in_ok-insert.ensures.updates.0 k ∙ ap (λ (x : Bool). cond x (Some list) (get_by (at_key k.items) c.insert.new.self)) out in
    moved_list lists c.insert-2.new.self c.args.key k (Some c.in-Some.old) (Some list) p (sym c.in-Some.is ∙ c.in_ok-old.ensures.old) (c.in_ok-list.ensures.kept p)
    (last ∙ ap (λ (x : Option PlaceList). cond b (Some list) x) (c.in_ok-old.ensures.updates.0 k) ∙ twice b (Some list) _ (get_by (at_key k.items) lists)) h

pub returns-in_default-clause-others : goal.returns-in_default-clause-others
returns-in_default-clause-others c k p other h = other_list c.args.self.now.lists c.insert.new.self c.args.key k (Some _) p other (c.in_ok-old.ensures.updates.0 k) h

pub returns-clause-others : goal.returns-clause-others
returns-clause-others c k p other h =
    let lists = c.args.self.now.lists in
    let list = c.in_ok-list.list in
    let b = is_eq (slice_cmp nat_cmp c.args.key.items k.items) in
    let same : c.in_ok-copy.copy.items ≡ c.args.key.items = (let s = c.as_slice.ensures.value in let t = c.in_ok-copy.ensures.items in search rules) in
    let out : is_eq (slice_cmp nat_cmp c.in_ok-copy.copy.items k.items) ≡ b = ap (λ ks. is_eq (slice_cmp nat_cmp ks k.items)) same in
    let last = c.in_ok-insert.ensures.updates.0 k ∙ ap (λ (x : Bool). cond x (Some list) (get_by (at_key k.items) c.insert.new.self)) out in
    other_list lists c.insert-2.new.self c.args.key k (Some list) p other (last ∙ ap (λ (x : Option PlaceList). cond b (Some list) x) (c.in_ok-old.ensures.updates.0 k) ∙ twice b (Some list) _ (get_by (at_key k.items) lists)) h

pub returns-in_default-clause-only : goal.returns-in_default-clause-only
returns-in_default-clause-only c k p n h =
    back_list c.args.self.now.lists c.insert.new.self c.args.key k None (Some _) p (sym c.in_default.is ∙ c.in_ok-old.ensures.old) (λ t. absurd (not_alone _ p (λ e. n (e ∙ to_z-of_z w64 c.args.place c.ranges.place)) t)) (c.in_ok-old.ensures.updates.0 k) h

pub returns-clause-only : goal.returns-clause-only
returns-clause-only c k p n h =
    let lists = c.args.self.now.lists in
    let list = c.in_ok-list.list in
    let b = is_eq (slice_cmp nat_cmp c.args.key.items k.items) in
    let same : c.in_ok-copy.copy.items ≡ c.args.key.items = (let s = c.as_slice.ensures.value in let t = c.in_ok-copy.ensures.items in search rules) in
    let out : is_eq (slice_cmp nat_cmp c.in_ok-copy.copy.items k.items) ≡ b = ap (λ ks. is_eq (slice_cmp nat_cmp ks k.items)) same in
    let last = c.in_ok-insert.ensures.updates.0 k ∙ ap (λ (x : Bool). cond x (Some list) (get_by (at_key k.items) c.insert.new.self)) out in
    back_list lists c.insert-2.new.self c.args.key k (Some c.in-Some.old) (Some list) p (sym c.in-Some.is ∙ c.in_ok-old.ensures.old) (c.in_ok-list.ensures.only p (λ e. n (e ∙ to_z-of_z w64 c.args.place c.ranges.place)))
    (last ∙ ap (λ (x : Option PlaceList). cond b (Some list) x) (c.in_ok-old.ensures.updates.0 k) ∙ twice b (Some list) _ (get_by (at_key k.items) lists)) h
