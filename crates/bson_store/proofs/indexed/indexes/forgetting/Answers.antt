use Rattle.std.proofs.Common.{◌≡◌, ◌++◌, ℤ, List, length, arith, sym, ap, subst, ◌∙◌, w64, to_z, of_z}
use Rattle.std.proofs.lemmas.Int.{to_z-of_z}
use Rattle.std.specs.Vec.Iter.{into_iter_items}
use Rattle.std.proofs.lemmas.List.{nil_from_length}
use Rattle.bson_store.specs.Find.{FindEach, MissEach, MissesIn, kinds_of}
use Rattle.bson_store.specs.declared.indexed.index.Index.{Index}
use Rattle.bson_store.proofs.IndexFindLemmas.{all_more, each_first, kinds_first, kinds_all}
use Rattle.bson_store.proofs.indexed.indexes.forgetting.Goals as goal

pub loop-index-init : goal.loop-index-init
loop-index-init c =
    let gives = c.into_iter-index-iterator.ensures.into_iter_gives in
    let none = c.in_ok-new.ensures.items in
    let at = to_z w64 (of_z w64 c.args.place) in
    record {
      kept = λ k p b other h. (subst (λ (xs : List Index). FindEach xs k p b) (sym gives.0) h, subst (λ (xs : List Index). FindEach xs k p b) (sym none) tt);
      gone = subst (λ (xs : List Index). MissEach xs at c.args.body.now) (sym none) tt;
      missed = λ p b h. (subst (λ (xs : List Index). MissEach xs p b) (sym gives.0) h, subst (λ (xs : List Index). MissEach xs p b) (sym none) tt);
      same = ap (λ (xs : List Index). kinds_of (xs ++ into_iter_items c.into_iter-index-iterator.result)) none ∙ ap kinds_of gives.0;
      long = (let items = ap length gives.0 in let len = gives.1 in omega (arith, items, len));
      next = tt;
      finite = tt;
    }

pub loop-index-preserved : goal.loop-index-preserved
loop-index-preserved c =
    let l = c.loop-index in
    let split = c.in-Some.ensures.steps.0 in
    let put = c.in_ok-push.ensures.items in
    let at = to_z w64 (of_z w64 c.args.place) in
    record {
      kept = λ k p b other h.
          each_first k p b (into_iter_items c.next.new.self) (into_iter_items l.index-iterator) l.new.items c.push.new.self.items c.in-Some.index c.forget.new.self split put (c.in_ok-forget.ensures.kept k p b other)
          (l.invariant.kept k p b other h);
      gone = subst (λ (xs : List Index). MissEach xs at c.args.body.now) (sym put) (all_more (λ (ix : Index). MissesIn ix at c.args.body.now) l.new.items c.forget.new.self l.invariant.gone c.in_ok-forget.ensures.gone);
      missed = λ p b h.
          let was = l.invariant.missed p b h in
          let first = subst (λ (xs : List Index). MissEach xs p b) split was.0 in
          (first.1, subst (λ (xs : List Index). MissEach xs p b) (sym put) (all_more (λ (ix : Index). MissesIn ix p b) l.new.items c.forget.new.self was.1 (c.in_ok-forget.ensures.missed p b first.0)));
      same = kinds_first c.args.list.items (into_iter_items c.next.new.self) (into_iter_items l.index-iterator) l.new.items c.push.new.self.items c.in-Some.index c.forget.new.self split put c.in_ok-forget.ensures.same l.invariant.same;
      long = (let items = ap length split in let len = c.in-Some.ensures.steps.1 in omega (arith, items, len, l.invariant.long));
      next = tt;
      finite = tt;
    }

pub returns : goal.returns
returns c =
    let same : to_z w64 (of_z w64 c.args.place) ≡ c.args.place = to_z-of_z w64 c.args.place c.ranges.place in
    record {
      gone = subst (λ (p : ℤ). MissEach c.loop-index.new.items p c.args.body.now) same c.loop-index.invariant.gone;
      kept = λ k p b other h. (c.loop-index.invariant.kept k p b (λ e. other (e ∙ same)) h).1;
      missed = λ p b h. (c.loop-index.invariant.missed p b h).1;
      same = kinds_all c.args.list.items c.loop-index.new.items (into_iter_items c.loop-index.index-iterator) (nil_from_length (into_iter_items c.loop-index.index-iterator) (c.loop-index.invariant.long ∙ c.in-None.ensures.steps.0)) c.loop-index.invariant.same;
    }
