use Rattle.std.proofs.Common.{◌≡◌, ◌+◌, [], ◌∷◌, length, ap, subst, arith}
use Rattle.std.specs.Fmt.{decimal}
use Rattle.std.specs.Vec.Iter.{into_iter_items}
use Rattle.std.proofs.lemmas.Result.{err_from_is_err_and}
use Rattle.bson_raw.specs.Append.{empty_bytes}
use Rattle.bson_raw.specs.Buffer.{array_buffer_bytes, next_place}
use Rattle.bson_raw.specs.Pairs.{items_from}
use Rattle.bson_raw.specs.Raw.{own_value}
use Rattle.bson_raw.proofs.BuildLemmas.{OnTheWay, begins, goes_on, stops, ends, no_memory}
use Rattle.bson_raw.proofs.array_buf.RawArrayBuf.from_iter.Goals as goal
use Rattle.std.proofs.lemmas.List.{nil_from_length}

pub returns-in_err-array-clause-bytes : goal.returns-in_err-array-clause-bytes
returns-in_err-array-clause-bytes c =
    let p = err_from_is_err_and c.from_residual.result c.from_residual.ensures.1 in
    rw p.1 (no_memory empty_bytes (items_from 0 c.args.values.items) p.0 p.2)

pub loop-value-init : goal.loop-value-init
loop-value-init c =
    let all = items_from 0 c.args.values.items in
    let made = c.in_ok-array.ensures in
    let array = c.in_ok-array.array in
    let items = c.into_iter-value-iterator.ensures.into_iter_gives.0 in
    let start = begins all (array_buffer_bytes array) made.bytes in
    record {
      way = rw (items, made.place) start;
      place = rw (items, made.place) (omega arith);
    }

pub loop-value-preserved : goal.loop-value-preserved
loop-value-preserved c =
    let array = c.loop-value.array in
    let next = c.next.new.self in
    let left = c.in-Some.ensures.steps.0 in
    let done = c.in_ok-push.ensures in
    let way = subst (λ l. OnTheWay (items_from 0 c.args.values.items) (items_from (next_place array) l) (array_buffer_bytes array)) left c.loop-value.invariant.way in
    let place : next_place array + length (c.in-Some.value ∷ into_iter_items next) ≡ length c.args.values.items = subst (λ l. next_place array + length l ≡ length c.args.values.items) left c.loop-value.invariant.place in
    record {
      way = rw done.place (goes_on (items_from 0 c.args.values.items) (decimal (next_place array), own_value c.in-Some.value) _ (array_buffer_bytes array) (array_buffer_bytes c.push.new.self) way done.value);
      place = omega (arith, place, done.place);
    }

pub returns-in_err-push-clause-bytes : goal.returns-in_err-push-clause-bytes
returns-in_err-push-clause-bytes c =
    let array = c.loop-value.array in
    let way = subst (λ l. OnTheWay (items_from 0 c.args.values.items) (items_from (next_place array) l) (array_buffer_bytes array)) c.in-Some.ensures.steps.0 c.loop-value.invariant.way in
    let p = err_from_is_err_and c.from_residual-in_err-push.result c.from_residual-in_err-push.ensures.1 in
    rw (p.1, p.2) (stops (items_from 0 c.args.values.items) (decimal (next_place array), own_value c.in-Some.value) _ (array_buffer_bytes array) c.in_err-push.field-0.0 way (c.in_err-push.ensures).value.0)

pub returns-clause-bytes : goal.returns-clause-bytes
returns-clause-bytes c =
    let it = c.loop-value.value-iterator in
    let none : into_iter_items it ≡ [] = nil_from_length (into_iter_items it) (omega (arith, c.in-None.ensures.steps.0, it.rest.ok.0)) in
    ends (items_from 0 c.args.values.items) _ (array_buffer_bytes c.loop-value.array) c.loop-value.invariant.way (ap (λ l. items_from (next_place c.loop-value.array) l) none)

pub returns-clause-place : goal.returns-clause-place
returns-clause-place c =
    let it = c.loop-value.value-iterator in
    omega (arith, c.loop-value.invariant.place, c.in-None.ensures.steps.0, it.rest.ok.0)
