use Rattle.std.proofs.Common.{◌≡◌, [], arith}
use Rattle.std.specs.Vec.Iter.{into_iter_items}
use Rattle.std.proofs.lemmas.List.{nil_from_length}
use Rattle.std.proofs.lemmas.Result.{err_from_is_err_and}
use Rattle.bson_store.proofs.NameLemmas.{so_far_all, so_far_more, so_far_start, so_far_utf8}
use Rattle.store_asked.proofs.names.texts_of.Goals as goal

pub loop-name-init : goal.loop-name-init
loop-name-init c = so_far_start c.args.names.items (into_iter_items c.into_iter-name-iterator.result) c.new-texts.result.items c.into_iter-name-iterator.ensures.into_iter_gives.0 c.new-texts.ensures.items

pub loop-name-preserved : goal.loop-name-preserved
loop-name-preserved c =
    so_far_more c.args.names.items (into_iter_items c.loop-name.name-iterator) (into_iter_items c.next.new.self) c.in-Some.name c.loop-name.texts.items c.push_text.new.texts.items c.in-Some.ensures.steps.0 c.in_ok-push_text.ensures.added c.loop-name.invariant

pub returns-in_err-push_text-clause-refused : goal.returns-in_err-push_text-clause-refused
returns-in_err-push_text-clause-refused c texts =
    let p = err_from_is_err_and c.from_residual.result c.from_residual.ensures.1 in
    rw (p.1, p.2) (c.in_err-push_text.ensures.refused (so_far_utf8 c.args.names.items (into_iter_items c.loop-name.name-iterator) (into_iter_items c.next.new.self) c.in-Some.name c.loop-name.texts.items c.in-Some.ensures.steps.0 c.loop-name.invariant texts))

pub returns-clause-same : goal.returns-clause-same
returns-clause-same c =
    let it = c.loop-name.name-iterator in
    let none : into_iter_items it ≡ [] = nil_from_length (into_iter_items it) (omega (arith, c.in-None.ensures.steps.0, it.rest.ok.0)) in
    so_far_all c.args.names.items (into_iter_items it) c.loop-name.texts.items none c.loop-name.invariant
