use Rattle.std.proofs.Common.{◌<◌, ◌+◌, inl, List, length, drop, refl, ap, sym, subst, arith}
use Rattle.std.proofs.lemmas.List.{drop_all}
use Rattle.store_question.specs.Filters.{path_of}
use Rattle.bson_store.specs.Find.{Has, HasOn}
use Rattle.bson_store.specs.declared.indexed.index.Index.{Index}
use Rattle.bson_store.proofs.IndexFindLemmas.{not_first}
use Rattle.bson_store.proofs.ServingLemmas.{at_head}
use Rattle.bson_store.proofs.indexed.indexes.Indexes.has.Goals as goal

pub loop-index-preserved : goal.loop-index-preserved
loop-index-preserved c =
    let ixs = c.args.self.now in
    let xs = ixs.list.items in
    let coll = c.args.coll.now in
    let path = path_of c.args.path.now in
    let i = c.loop-index.index-index in
    let ix = c.index-item.result in
    let is = rw c.as_slice-index-items.ensures.value at c.index-item.is in
    let low : i < length xs = (let n = ap length c.as_slice-index-items.ensures.value in omega (arith, n, c.loop-index-test.true, c.loop-index.auto.index-index-end)) in
    let head = at_head xs i ix low is in
    record { all = not_first coll path (drop i xs) (drop (i + 1) xs) ix (Has ixs coll path) head (λ one. let t = c.is_on.ensures.1 one in let f = c.if-is_on.false in absurd (cc)) c.loop-index.invariant.all }

pub returns-then-is_on : goal.returns-then-is_on
returns-then-is_on c =
    let xs = c.args.self.now.list.items in
    let coll = c.args.coll.now in
    let path = path_of c.args.path.now in
    let i = c.loop-index.index-index in
    let ix = c.index-item.result in
    let is = rw c.as_slice-index-items.ensures.value at c.index-item.is in
    let low : i < length xs = (let n = ap length c.as_slice-index-items.ensures.value in omega (arith, n, c.loop-index-test.true, c.loop-index.auto.index-index-end)) in
    let head = at_head xs i ix low is in
    (λ t. c.loop-index.invariant.all.0 (subst (λ (ys : List Index). HasOn ys coll path) (sym head) (inl (c.is_on.ensures.0 c.if-is_on.true))), λ h. refl)

pub returns : goal.returns
returns c =
    let xs = c.args.self.now.list.items in
    let coll = c.args.coll.now in
    let path = path_of c.args.path.now in
    let i = c.loop-index.index-index in
    let n = ap length c.as_slice-index-items.ensures.value in
    let none = drop_all i xs (omega (arith, n, c.loop-index-test.false)) in
    (λ t. absurd (cc), λ h. absurd (subst (λ (ys : List Index). HasOn ys coll path) none (c.loop-index.invariant.all.1 h)))
