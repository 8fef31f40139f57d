use Rattle.std.proofs.Common.{◌++◌, string_bytes, sym, ap, ◌∙◌}
use Rattle.bson_pairs.specs.Keyed.{get}
use Rattle.bson_pairs.proofs.KeyedLemmas.{on_err}
use Rattle.bson_pairs.proofs.growing.GrowingPairs.put_each.Goals as goal

pub returns-in_err-put-clause-err : goal.returns-in_err-put-clause-err
returns-in_err-put-clause-err g c =
    let done = c.loop-pair.yielded in
    let whole = c.loop-pair.invariant.left ∙ c.into_iter-pair-iterator.ensures.into_iter_gives.0 in
    on_err c.from_residual.result (
      done,
      _,
      c.in-Some.pair,
      sym whole ∙ ap (λ l. done ++ l) c.in-Some.ensures.steps.0,
      c.in_err-put.ensures.err ∙ c.loop-pair.invariant.put,
      ap (get (string_bytes c.in-Some.pair.0)) c.in_err-put.ensures.err ∙ c.in_err-put.ensures.absent,
    )
