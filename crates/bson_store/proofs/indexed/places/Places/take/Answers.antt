use Rattle.std.proofs.Common.{◌≡◌, ◌∙◌, cond, is_eq, None, Some, ap, rules, Option, w64, to_z, of_z}
use Rattle.std.proofs.lemmas.Int.{to_z-of_z}
use Rattle.std.specs.Cmp.Lexicographic.{slice_cmp}
use Rattle.std.specs.Ordering.{nat_cmp}
use Rattle.std.specs.BTreeMap.{get_by}
use Rattle.bson_store.specs.declared.indexed.place_list.PlaceList.{PlaceList}
use Rattle.bson_store.proofs.MovedLemmas.{at_key, back_list, gone_list, moved_list, twice}
use Rattle.bson_store.proofs.indexed.places.Places.take.Goals as goal

pub returns-in-None : goal.returns-in-None
returns-in-None c = record {
  gone = (let key = c.args.key in
      let out : get_by (at_key key.items) c.remove-old.new.self ≡ cond (is_eq (slice_cmp nat_cmp key.items key.items)) None (get_by (at_key key.items) c.args.self.now.lists) = (let u = c.remove-old.ensures.updates.0 key in let s = c.as_slice.ensures.value in search rules) in
      gone_list c.remove-old.new.self key None (get_by (at_key key.items) c.args.self.now.lists) c.args.place c.in-None.ensures.gone out);
  kept = λ k p other h.
      let out : get_by (at_key k.items) c.remove-old.new.self ≡ cond (is_eq (slice_cmp nat_cmp c.args.key.items k.items)) None (get_by (at_key k.items) c.args.self.now.lists) = (let u = c.remove-old.ensures.updates.0 k in let s = c.as_slice.ensures.value in search rules) in
      moved_list c.args.self.now.lists c.remove-old.new.self c.args.key k c.remove-old.result None p
      (let v = c.remove-old.ensures.value in let s = c.as_slice.ensures.value in search rules) (c.in-None.ensures.kept p (λ e. other (e ∙ to_z-of_z w64 c.args.place c.ranges.place))) out h;
  only = λ k p h.
      let out : get_by (at_key k.items) c.remove-old.new.self ≡ cond (is_eq (slice_cmp nat_cmp c.args.key.items k.items)) None (get_by (at_key k.items) c.args.self.now.lists) = (let u = c.remove-old.ensures.updates.0 k in let s = c.as_slice.ensures.value in search rules) in
      back_list c.args.self.now.lists c.remove-old.new.self c.args.key k c.remove-old.result None p
      (let v = c.remove-old.ensures.value in let s = c.as_slice.ensures.value in search rules) (c.in-None.ensures.only p) out h;
}

pub returns-in_ok-insert-in-Some : goal.returns-in_ok-insert-in-Some
returns-in_ok-insert-in-Some c = record {
  gone = (let key = c.args.key in
      let same : to_z w64 (of_z w64 c.args.place) ≡ c.args.place = to_z-of_z w64 c.args.place c.ranges.place in
      gone_list c.insert.new.self key (Some c.in-Some.rest) (get_by (at_key key.items) c.remove-old.new.self) c.args.place (rw same at c.in-Some.ensures.gone) (c.in_ok-insert-in-Some.ensures.updates.0 key));
  kept = λ k p other h.
      let b = is_eq (slice_cmp nat_cmp c.args.key.items k.items) in
      let out : get_by (at_key k.items) c.remove-old.new.self ≡ cond b None (get_by (at_key k.items) c.args.self.now.lists) = (let u = c.remove-old.ensures.updates.0 k in let s = c.as_slice.ensures.value in search rules) in
      moved_list c.args.self.now.lists c.insert.new.self c.args.key k c.remove-old.result (Some c.in-Some.rest) p
      (let v = c.remove-old.ensures.value in let s = c.as_slice.ensures.value in search rules) (c.in-Some.ensures.kept p (λ e. other (e ∙ to_z-of_z w64 c.args.place c.ranges.place)))
      (c.in_ok-insert-in-Some.ensures.updates.0 k ∙ ap (λ (x : Option PlaceList). cond b (Some c.in-Some.rest) x) out ∙ twice b (Some c.in-Some.rest) None (get_by (at_key k.items) c.args.self.now.lists)) h;
  only = λ k p h.
      let b = is_eq (slice_cmp nat_cmp c.args.key.items k.items) in
      let out : get_by (at_key k.items) c.remove-old.new.self ≡ cond b None (get_by (at_key k.items) c.args.self.now.lists) = (let u = c.remove-old.ensures.updates.0 k in let s = c.as_slice.ensures.value in search rules) in
      back_list c.args.self.now.lists c.insert.new.self c.args.key k c.remove-old.result (Some c.in-Some.rest) p
      (let v = c.remove-old.ensures.value in let s = c.as_slice.ensures.value in search rules) (c.in-Some.ensures.only p)
      (c.in_ok-insert-in-Some.ensures.updates.0 k ∙ ap (λ (x : Option PlaceList). cond b (Some c.in-Some.rest) x) out ∙ twice b (Some c.in-Some.rest) None (get_by (at_key k.items) c.args.self.now.lists)) h;
}
