use Rattle.std.proofs.Common.{◌≡◌, ℤ, List, length, arith, ◌++◌, sym, ap, subst, ◌∙◌, w64, to_z, of_z}
use Rattle.std.proofs.lemmas.Int.{to_z-of_z}
use Rattle.std.specs.Vec.Iter.{into_iter_items}
use Rattle.std.proofs.lemmas.List.{nil_from_length}
use Rattle.bson_store.specs.Find.{FindEach, MissEach, MissesIn, RenewEach, RenewsIn, kinds_of}
use Rattle.bson_store.specs.declared.indexed.index.Index.{Index}
use Rattle.bson_store.proofs.IndexFindLemmas.{all_more, each_first, each_more, kinds_first, kinds_all}
use Rattle.bson_store.proofs.indexed.indexes.noting_all.Goals as goal

pub loop-index-init : goal.loop-index-init
loop-index-init c =
    let gives = c.into_iter-index-iterator.ensures.into_iter_gives in
    let none = c.in_ok-new.ensures.items in
    let at = to_z w64 (of_z w64 c.args.place) in
    record {
      kept = λ k p b h. (subst (λ (xs : List Index). FindEach xs k p b) (sym gives.0) h, subst (λ (xs : List Index). FindEach xs k p b) (sym none) tt);
      renewed = λ p b h. (subst (λ (xs : List Index). MissEach xs p b) (sym gives.0) h, subst (λ (xs : List Index). RenewEach xs p b c.args.body.now) (sym none) tt);
      others = λ p b n h. (subst (λ (xs : List Index). MissEach xs p b) (sym gives.0) h, subst (λ (xs : List Index). MissEach xs p b) (sym none) tt);
      same = ap (λ (xs : List Index). kinds_of (xs ++ into_iter_items c.into_iter-index-iterator.result)) none ∙ ap kinds_of gives.0;
      long = (let items = ap length gives.0 in let len = gives.1 in omega (arith, items, len));
      noted = λ k. subst (λ (xs : List Index). FindEach xs k at c.args.body.now) (sym none) tt;
      next = tt;
      finite = tt;
    }

pub loop-index-preserved : goal.loop-index-preserved
loop-index-preserved c =
    let l = c.loop-index in
    let split = c.in-Some.ensures.steps.0 in
    let put = c.in_ok-push.ensures.items in
    let at = to_z w64 (of_z w64 c.args.place) in
    record {
      kept = λ k p b h.
          each_first k p b (into_iter_items c.next.new.self) (into_iter_items l.index-iterator) l.new.items c.push.new.self.items c.in-Some.index c.note_any.new.self split put (c.in_ok-note_any.ensures.kept k p b) (l.invariant.kept k p b h);
      renewed = λ p b h.
          let was = l.invariant.renewed p b h in
          let first = subst (λ (xs : List Index). MissEach xs p b) split was.0 in
          (first.1, subst (λ (xs : List Index). RenewEach xs p b c.args.body.now) (sym put) (all_more (λ (ix : Index). RenewsIn ix p b c.args.body.now) l.new.items c.note_any.new.self was.1 (c.in_ok-note_any.ensures.renewed p b first.0)));
      others = λ p b n h.
          let was = l.invariant.others p b n h in
          let first = subst (λ (xs : List Index). MissEach xs p b) split was.0 in
          (first.1, subst (λ (xs : List Index). MissEach xs p b) (sym put) (all_more (λ (ix : Index). MissesIn ix p b) l.new.items c.note_any.new.self was.1 (c.in_ok-note_any.ensures.others p b n first.0)));
      same = kinds_first c.args.list.items (into_iter_items c.next.new.self) (into_iter_items l.index-iterator) l.new.items c.push.new.self.items c.in-Some.index c.note_any.new.self split put c.in_ok-note_any.ensures.same l.invariant.same;
      long = (let items = ap length split in let len = c.in-Some.ensures.steps.1 in omega (arith, items, len, l.invariant.long));
      noted = λ k. subst (λ (xs : List Index). FindEach xs k at c.args.body.now) (sym put) (each_more k at c.args.body.now l.new.items c.note_any.new.self (l.invariant.noted k) (c.in_ok-note_any.ensures.noted k));
      next = tt;
      finite = tt;
    }

pub returns-clause-noted : goal.returns-clause-noted
returns-clause-noted c k =
    let same : to_z w64 (of_z w64 c.args.place) ≡ c.args.place = to_z-of_z w64 c.args.place c.ranges.place in
    subst (λ (p : ℤ). FindEach c.loop-index.new.items k p c.args.body.now) same (c.loop-index.invariant.noted k)

pub returns-clause-kept : goal.returns-clause-kept
returns-clause-kept c k p b h = (c.loop-index.invariant.kept k p b h).1

pub returns-clause-same : goal.returns-clause-same
returns-clause-same c = kinds_all c.args.list.items c.loop-index.new.items (into_iter_items c.loop-index.index-iterator) (nil_from_length (into_iter_items c.loop-index.index-iterator) (c.loop-index.invariant.long ∙ c.in-None.ensures.steps.0)) c.loop-index.invariant.same

pub returns-clause-renewed : goal.returns-clause-renewed
returns-clause-renewed c p b h = (c.loop-index.invariant.renewed p b h).1

pub returns-clause-others : goal.returns-clause-others
returns-clause-others c p b n h = (c.loop-index.invariant.others p b (λ e. n (e ∙ to_z-of_z w64 c.args.place c.ranges.place)) h).1
