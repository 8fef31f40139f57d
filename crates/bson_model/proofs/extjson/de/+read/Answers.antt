use Rattle.std.proofs.Common.{Ok, ap, arith, string_bytes, option_map, subst, sym, ◌∙◌}
use Rattle.std.proofs.lemmas.List.{nil_from_length}
use Rattle.serde_json.specs.View.{view as data_of}
use Rattle.bson_model.specs.View.{view, pairs_of, members_of}
use Rattle.bson_model.proofs.JsonReadLemmas.{Gives-err, parts_fail, scope_fails, scoped_read, items_step, items_end, SoFar, members_begin, members_step, members_end}
use Rattle.bson_model.proofs.extjson.de.+read.Goals as goal

pub read_items-loop-item-preserved : goal.read_items-loop-item-preserved
read_items-loop-item-preserved t c =
    items_step _ _ _ _ _ c.in-Some.item c.in_ok-read.field-0 c.loop-item.invariant c.in-Some.ensures.steps.0 c.in_ok-read.ensures c.in_ok-push.ensures.items

pub read_items-returns : goal.read_items-returns
read_items-returns t c =
    let left = c.loop-item.item-iterator.rest in
    items_end _ _ _ c.loop-item.invariant (nil_from_length left.items (sym left.ok.0 ∙ c.in-None.ensures.steps.0))

pub read_members-loop-key-init : goal.read_members-loop-key-init
read_members-loop-key-init t c = subst (SoFar c.args.members.entries c.into_iter-key-iterator.result) (sym c.new-document.ensures) (members_begin _ _ c.into_iter-key-iterator.ensures.into_iter_gives.0)

pub read_members-loop-key-preserved : goal.read_members-loop-key-preserved
read_members-loop-key-preserved t c =
    members_step _ _ _ _ _ c.in-Some.key c.in-Some.value c.in_ok-read.field-0 c.into_iter-key-iterator.ensures.into_iter_gives.5 c.loop-key.invariant c.in-Some.ensures.steps c.in_ok-read.ensures c.in_ok-put.ensures.ok

pub read_members-returns : goal.read_members-returns
read_members-returns t c = members_end _ _ _ c.loop-key.invariant c.in-None.ensures.steps.0

pub read_typed-returns-in_err-code : goal.read_typed-returns-in_err-code
read_typed-returns-in_err-code t c =
    let e = c.in_err-code.field-0.0 in
    Gives-err view c.from_residual.result e _ c.from_residual.ensures.1 (parts_fail e c.args.members.entries (omega arith) c.in_err-code.ensures)

pub read_typed-returns-in_err-read_scope : goal.read_typed-returns-in_err-read_scope
read_typed-returns-in_err-read_scope t c =
    let e = c.in_err-read_scope.field-0.0 in
    Gives-err view c.from_residual-in_err-read_scope.result e _ c.from_residual-in_err-read_scope.ensures.1
    (scope_fails e c.args.members.entries (string_bytes c.in_ok-code.code) (data_of c.in_ok-code.scope) (omega arith) c.in_ok-code.ensures c.in_err-read_scope.ensures)

pub read_typed-returns : goal.read_typed-returns
read_typed-returns t c =
    scoped_read c.args.members.entries (string_bytes c.in_ok-code.code) (data_of c.in_ok-code.scope) (option_map (λ d. members_of (pairs_of d)) c.in_ok-read_scope.field-0) (omega arith) c.in_ok-code.ensures c.in_ok-read_scope.ensures
    ∙ ap Ok (sym c.with_scope.ensures)
