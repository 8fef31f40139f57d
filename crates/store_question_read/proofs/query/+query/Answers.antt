use Rattle.std.proofs.Common.{◌≡◌, ◌+◌, ℕ, Bor, map, List, [], drop, Option, Some, Ok, Err, sym, subst, ap, ◌∙◌, refl, arith}
use Rattle.json.specs.Value.{items_view, members_view, value_view}
use Rattle.store_question.specs.Asked.{all_of, any_of, no, whole, has_item}
use Rattle.store_question.specs.declared.question.Question.{Question}
use Rattle.store_question_read.proofs.LoopLemmas.{each_halt, each_over, each_turn, entries_halt, entries_over, entries_turn, test_of, tests_halt, tests_over, tests_turn}
use Rattle.store_question_read.proofs.OnwardLemmas.{SoFar, array_seen, failed, leaves_by, names_fails, none_yet, object_seen, onward, when_false, when_true}
use Rattle.store_question_read.proofs.QueryLemmas.{alone, kinds_of_array, lone_refused, not_alone, other_alone, put_together}
use Rattle.store_question_read.specs.Outcome.{AskEach, Asks, Fails, Gives}
use Rattle.store_question_read.specs.Query.{are_of_items, are_operators, options_in, begins_with_dollar, condition, each, entries, equal, every, filled, has_operators, holds, is_array, items, keys, match_alone, matching, no_operand, no_operator, one_at_least, operators, query, tests, together}
use Rattle.store_question_read.specs.declared.error.QueryError.TheVariants.{Memory}
use Rattle.store_question_read.specs.declared.words.Listed.TheVariants.{Kinds}
use Rattle.store_question_read.proofs.query.+query.Goals.{match_alone-in_default-as_slice-via-then-as_slice-lt1, match_alone-in_default-as_slice-via-in-len1+else-eq, match_alone-in_default-as_slice-via-else-as_slice-lt1+else-this-lt2}
use Rattle.store_question_read.proofs.query.+query.Goals as goal

pub query_of-returns-in_err-list : goal.query_of-returns-in_err-list
query_of-returns-in_err-list t c =
    let seen = object_seen c.args.tree.now c.in-Object.members c.as_slice.result.now c.in-Object.is c.as_slice.ensures.value in
    let error = c.in_err-list.field-0.0 in
    leaves_by Asks c.from_residual.result error (query (value_view c.args.tree.now)) c.from_residual.ensures.1
    (subst (λ j. Fails error (query j)) (sym seen) (failed error (entries (members_view c.as_slice.result.now)) (λ qs. Ok (all_of qs)) c.in_err-list.ensures))

pub query_of-returns : goal.query_of-returns
query_of-returns t c =
    let seen = object_seen c.args.tree.now c.in-Object.members c.as_slice.result.now c.in-Object.is c.as_slice.ensures.value in
    subst (λ j. Gives Asks (Ok c.all.result) (query j)) (sym seen)
    (onward AskEach Asks c.in_ok-list.list (Ok c.all.result) _ (λ qs. Ok (all_of qs)) c.in_ok-list.ensures c.all.ensures)

pub entries-loop-key-init : goal.entries-loop-key-init
entries-loop-key-init t c = subst (λ (l : List Question). SoFar l (entries (members_view c.args.members.now)) (entries (members_view c.args.members.now))) (sym c.new-questions.ensures.items) (none_yet (entries (members_view c.args.members.now)))

pub entries-loop-key-preserved : goal.entries-loop-key-preserved
entries-loop-key-preserved t c =
    subst (λ (l : List Question). SoFar l (entries (members_view c.args.members.now)) (entries (members_view (drop (c.loop-key.key-index + 1) c.args.members.now)))) (sym c.in_ok-push.ensures.items)
    (entries_turn c.args.members.now c.loop-key.key-index c.loop-key-item.result c.loop-key.questions.items c.in_ok-question.question c.loop-key-item.is c.loop-key-test.true c.loop-key.invariant c.in_ok-question.ensures)

pub entries-returns-in_err-question : goal.entries-returns-in_err-question
entries-returns-in_err-question t c =
    leaves_by AskEach c.from_residual.result c.in_err-question.field-0.0 _ c.from_residual.ensures.1
    (entries_halt c.args.members.now c.loop-key.key-index c.loop-key-item.result c.loop-key.questions.items c.in_err-question.field-0.0 c.loop-key-item.is c.loop-key-test.true c.loop-key.invariant c.in_err-question.ensures)

pub entries-returns-in_err-push : goal.entries-returns-in_err-push
entries-returns-in_err-push t c = leaves_by AskEach c.from_residual-in_err-push.result Memory _ c.from_residual-in_err-push.ensures.1 tt

pub entries-returns : goal.entries-returns
entries-returns t c = entries_over c.args.members.now c.loop-key.key-index c.loop-key.questions c.loop-key-test.false c.loop-key.invariant

pub entry-returns-in-Some-And : goal.entry-returns-in-Some-And
entry-returns-in-Some-And t c =
    rw (← c.in-Some-And.ensures, c.in-Some-And.field-0-is)
    (onward AskEach Asks c.in_ok-list-in-Some-And.list (Ok c.all.result) _ (λ qs. Ok (all_of qs)) c.in_ok-list-in-Some-And.ensures c.all.ensures)

pub entry-returns-in-Some-Or : goal.entry-returns-in-Some-Or
entry-returns-in-Some-Or t c =
    rw (← c.in-Some-Or.ensures, c.in-Some-Or.field-0-is)
    (onward AskEach Asks c.in_ok-list-in-Some-Or.list (Ok c.any.result) _ (λ qs. Ok (any_of qs)) c.in_ok-list-in-Some-Or.ensures c.any.ensures)

pub entry-returns-in_err-none-in-Some-Nor : goal.entry-returns-in_err-none-in-Some-Nor
entry-returns-in_err-none-in-Some-Nor t c = leaves_by Asks c.from_residual-in_err-none-in-Some-Nor.result Memory _ c.from_residual-in_err-none-in-Some-Nor.ensures.1 tt

pub entry-returns-in_err-pieces-in-None-2 : goal.entry-returns-in_err-pieces-in-None-2
entry-returns-in_err-pieces-in-None-2 t c = leaves_by Asks c.from_residual-in_err-pieces-in-None-2.result Memory _ c.from_residual-in_err-pieces-in-None-2.ensures.1 tt

pub entry-returns-in-Some-Nor : goal.entry-returns-in-Some-Nor
entry-returns-in-Some-Nor t c =
    rw (← c.in-Some-Nor.ensures, c.in-Some-Nor.field-0-is)
    (onward AskEach Asks c.in_ok-list-in-Some-Nor.list (Ok c.in_ok-none-in-Some-Nor.field-0) _ (λ qs. Ok (no (any_of qs))) c.in_ok-list-in-Some-Nor.ensures c.in_ok-none-in-Some-Nor.ensures)

pub entry-returns-in-None : goal.entry-returns-in-None
entry-returns-in-None t c =
    let key = c.args.key.now in
    rw (← c.in-None.ensures)
    (when_true (begins_with_dollar key) (Err c.operator.result) (Err (no_operator key)) _ (sym c.begins_with_dollar.ensures ∙ c.if-begins_with_dollar.true)
    (names_fails _ c.operator.result (no_operator key) c.operator.ensures))

pub entry-returns-then-has_operators : goal.entry-returns-then-has_operators
entry-returns-then-has_operators t c =
    let key = c.args.key.now in
    let j = value_view c.args.body.now in
    let path = subst (λ (l : List (Bor (List ℕ))). map (λ x. x.now) l ≡ keys key) (sym c.as_slice.ensures.value) c.in_ok-pieces-in-None-2.ensures in
    rw (← c.in-None-2.ensures)
    (when_false (begins_with_dollar key) c.operators.result (Err (no_operator key)) (condition key j) (sym c.begins_with_dollar.ensures ∙ c.if-begins_with_dollar.false)
    (when_true (has_operators j) c.operators.result (operators (keys key) key j) (equal (keys key) key j) (sym c.has_operators.ensures ∙ c.if-has_operators.true)
    (subst (λ p. Gives Asks c.operators.result (operators p key j)) path c.operators.ensures)))

pub entry-returns : goal.entry-returns
entry-returns t c =
    let key = c.args.key.now in
    let j = value_view c.args.body.now in
    let path = subst (λ (l : List (Bor (List ℕ))). map (λ x. x.now) l ≡ keys key) (sym c.as_slice-else-has_operators.ensures.value) c.in_ok-pieces-in-None-2.ensures in
    rw (← c.in-None-2.ensures)
    (when_false (begins_with_dollar key) c.equals.result (Err (no_operator key)) (condition key j) (sym c.begins_with_dollar.ensures ∙ c.if-begins_with_dollar.false)
    (when_false (has_operators j) c.equals.result (operators (keys key) key j) (equal (keys key) key j) (sym c.has_operators.ensures ∙ c.if-has_operators.false)
    (subst (λ p. Gives Asks c.equals.result (equal p key j)) path c.equals.ensures)))

pub queries-returns-in_err-list : goal.queries-returns-in_err-list
queries-returns-in_err-list t c =
    leaves_by AskEach c.from_residual.result c.in_err-list.field-0.0 _ c.from_residual.ensures.1 (failed c.in_err-list.field-0.0 _ (λ qs. filled c.args.key.now qs) c.in_err-list.ensures)

pub queries-returns : goal.queries-returns
queries-returns t c = onward AskEach AskEach c.in_ok-list.list c.filled.result _ (λ qs. filled c.args.key.now qs) c.in_ok-list.ensures c.filled.ensures

pub operators-returns-in_err-list : goal.operators-returns-in_err-list
operators-returns-in_err-list t c =
    let seen = object_seen c.args.body.now c.in-Object.object c.as_slice-members.result.now c.in-Object.is c.as_slice-members.ensures.value in
    let error = c.in_err-list.field-0.0 in
    let js = members_view c.as_slice-members.result.now in
    leaves_by Asks c.from_residual.result error (operators (map (λ x. x.now) c.args.path.now) c.args.key.now (value_view c.args.body.now)) c.from_residual.ensures.1
    (subst (λ j. Fails error (operators (map (λ x. x.now) c.args.path.now) c.args.key.now j)) (sym seen)
    (when_true (are_operators js) (Err error) _ _ (sym c.are_operators.ensures ∙ c.if-are_operators.true)
    (failed error (together js (tests (map (λ x. x.now) c.args.path.now) (options_in js) js)) (λ qs. Ok (all_of qs)) c.in_err-list.ensures)))

pub operators-returns-in_ok-list : goal.operators-returns-in_ok-list
operators-returns-in_ok-list t c =
    let seen = object_seen c.args.body.now c.in-Object.object c.as_slice-members.result.now c.in-Object.is c.as_slice-members.ensures.value in
    subst (λ j. Gives Asks (Ok c.all.result) (operators (map (λ x. x.now) c.args.path.now) c.args.key.now j)) (sym seen)
    (when_true (are_operators (members_view c.as_slice-members.result.now)) (Ok c.all.result) _ _ (sym c.are_operators.ensures ∙ c.if-are_operators.true)
    (onward AskEach Asks c.in_ok-list.list (Ok c.all.result) _ (λ qs. Ok (all_of qs)) c.in_ok-list.ensures c.all.ensures))

pub operators-returns-else-are_operators : goal.operators-returns-else-are_operators
operators-returns-else-are_operators t c =
    let seen = object_seen c.args.body.now c.in-Object.object c.as_slice-members.result.now c.in-Object.is c.as_slice-members.ensures.value in
    subst (λ j. Fails c.operand-else-are_operators.result (operators (map (λ x. x.now) c.args.path.now) c.args.key.now j)) (sym seen)
    (when_false (are_operators (members_view c.as_slice-members.result.now)) (Err c.operand-else-are_operators.result) _ _ (sym c.are_operators.ensures ∙ c.if-are_operators.false)
    (names_fails _ c.operand-else-are_operators.result (no_operand c.args.key.now) c.operand-else-are_operators.ensures))

pub tests-returns-then-has_lone_options : goal.tests-returns-then-has_lone_options
tests-returns-then-has_lone_options t c =
    lone_refused (members_view c.args.members.now) (tests (map (λ x. x.now) c.args.path.now) (options_in (members_view c.args.members.now)) (members_view c.args.members.now)) c.operand.result (sym c.has_lone_options.ensures ∙ c.if-has_lone_options.true) c.operand.ensures

pub tests-loop-key-init : goal.tests-loop-key-init
tests-loop-key-init t c = subst (λ (l : List Question). SoFar l (tests (map (λ x. x.now) c.args.path.now) (options_in (members_view c.args.members.now)) (members_view c.args.members.now)) (tests (map (λ x. x.now) c.args.path.now) (options_in (members_view c.args.members.now)) (members_view c.args.members.now))) (sym c.new-questions.ensures.items) (none_yet (tests (map (λ x. x.now) c.args.path.now) (options_in (members_view c.args.members.now)) (members_view c.args.members.now)))

pub tests-loop-key-preserved : goal.tests-loop-key-preserved
tests-loop-key-preserved t c =
    subst (λ (l : List Question). SoFar l (tests (map (λ x. x.now) c.args.path.now) (options_in (members_view c.args.members.now)) (members_view c.args.members.now)) (tests (map (λ x. x.now) c.args.path.now) (options_in (members_view c.args.members.now)) (members_view (drop (c.loop-key.key-index + 1) c.args.members.now)))) (sym c.in_ok-push.ensures.items)
    (tests_turn (map (λ x. x.now) c.args.path.now) (options_in (members_view c.args.members.now)) c.args.members.now c.loop-key.key-index c.loop-key-item.result c.loop-key.questions.items c.in_ok-question.question c.loop-key-item.is c.loop-key-test.true c.loop-key.invariant
    (subst (λ (o : List ℕ). Gives Asks (Ok c.in_ok-question.question) (test_of (map (λ x. x.now) c.args.path.now) o c.loop-key-item.result)) c.options_in-options.ensures c.in_ok-question.ensures))

pub tests-returns-in_err-push : goal.tests-returns-in_err-push
tests-returns-in_err-push t c = leaves_by AskEach c.from_residual-in_err-push.result Memory _ c.from_residual-in_err-push.ensures.1 tt

pub tests-returns : goal.tests-returns
tests-returns t c =
    put_together (members_view c.args.members.now) (tests (map (λ x. x.now) c.args.path.now) (options_in (members_view c.args.members.now)) (members_view c.args.members.now)) (Ok c.loop-key.questions) (sym c.has_lone_options.ensures ∙ c.if-has_lone_options.false)
    (tests_over (map (λ x. x.now) c.args.path.now) (options_in (members_view c.args.members.now)) c.args.members.now c.loop-key.key-index c.loop-key.questions c.loop-key-test.false c.loop-key.invariant)

pub tests-returns-in_err-question : goal.tests-returns-in_err-question
tests-returns-in_err-question t c =
    put_together (members_view c.args.members.now) (tests (map (λ x. x.now) c.args.path.now) (options_in (members_view c.args.members.now)) (members_view c.args.members.now)) c.from_residual.result (sym c.has_lone_options.ensures ∙ c.if-has_lone_options.false)
    (leaves_by AskEach c.from_residual.result c.in_err-question.field-0.0 _ c.from_residual.ensures.1
    (tests_halt (map (λ x. x.now) c.args.path.now) (options_in (members_view c.args.members.now)) c.args.members.now c.loop-key.key-index c.loop-key-item.result c.loop-key.questions.items c.in_err-question.field-0.0 c.loop-key-item.is c.loop-key-test.true c.loop-key.invariant
    (subst (λ (o : List ℕ). Fails c.in_err-question.field-0.0 (test_of (map (λ x. x.now) c.args.path.now) o c.loop-key-item.result)) c.options_in-options.ensures c.in_err-question.ensures)))

pub test-returns-in-Eq : goal.test-returns-in-Eq
test-returns-in-Eq t c = rw (← c.in-Some.ensures, c.in-Eq.is) c.exactly.ensures

pub test-returns-in-Ne : goal.test-returns-in-Ne
test-returns-in-Ne t c = rw (← c.in-Some.ensures, c.in-Ne.is) c.differs.ensures

pub test-returns-in-Lies : goal.test-returns-in-Lies
test-returns-in-Lies t c = rw (← c.in-Some.ensures, c.in-Lies.is) c.lies.ensures

pub test-returns-in-Size : goal.test-returns-in-Size
test-returns-in-Size t c = rw (← c.in-Some.ensures, c.in-Size.is) c.sized.ensures

pub test-returns-in-Exists : goal.test-returns-in-Exists
test-returns-in-Exists t c = rw (← c.in-Some.ensures, c.in-Exists.is) c.there.ensures

pub test-returns-in-Mod : goal.test-returns-in-Mod
test-returns-in-Mod t c = rw (← c.in-Some.ensures, c.in-Mod.is) c.divided.ensures

pub test-returns-in-Regex : goal.test-returns-in-Regex
test-returns-in-Regex t c = rw (← c.in-Some.ensures, c.in-Regex.is) c.found.ensures

pub test-returns-in-Options : goal.test-returns-in-Options
test-returns-in-Options t c = rw (← c.in-Some.ensures, c.in-Options.is) c.with_options.ensures

pub test-returns-in-ElementMatch : goal.test-returns-in-ElementMatch
test-returns-in-ElementMatch t c = rw (← c.in-Some.ensures, c.in-ElementMatch.is) c.matching.ensures

pub test-returns-in-Kind : goal.test-returns-in-Kind
test-returns-in-Kind t c = rw (← c.in-Some.ensures, c.in-Kind.is) c.of_kinds.ensures

pub test-returns-in_err-inner-in-Not : goal.test-returns-in_err-inner-in-Not
test-returns-in_err-inner-in-Not t c =
    rw (← c.in-Some.ensures, c.in-Not.is)
    (leaves_by Asks c.from_residual.result c.in_err-inner-in-Not.field-0.0 _ c.from_residual.ensures.1 (failed c.in_err-inner-in-Not.field-0.0 _ (λ q. Ok (no q)) c.in_err-inner-in-Not.ensures))

pub test-returns-in_err-list-in-In : goal.test-returns-in_err-list-in-In
test-returns-in_err-list-in-In t c =
    rw (← c.in-Some.ensures, c.in-In.is)
    (leaves_by Asks c.from_residual-in_err-list-in-In.result c.in_err-list-in-In.field-0.0 _ c.from_residual-in_err-list-in-In.ensures.1 (failed c.in_err-list-in-In.field-0.0 _ (λ qs. Ok (any_of qs)) c.in_err-list-in-In.ensures))

pub test-returns-in_err-list-in-Nin : goal.test-returns-in_err-list-in-Nin
test-returns-in_err-list-in-Nin t c =
    rw (← c.in-Some.ensures, c.in-Nin.is)
    (leaves_by Asks c.from_residual-in_err-list-in-Nin.result c.in_err-list-in-Nin.field-0.0 _ c.from_residual-in_err-list-in-Nin.ensures.1 (failed c.in_err-list-in-Nin.field-0.0 _ (λ qs. Ok (no (any_of qs))) c.in_err-list-in-Nin.ensures))

pub test-returns-in_err-list-in-All : goal.test-returns-in_err-list-in-All
test-returns-in_err-list-in-All t c =
    rw (← c.in-Some.ensures, c.in-All.is)
    (leaves_by Asks c.from_residual-in_err-list-in-All.result c.in_err-list-in-All.field-0.0 _ c.from_residual-in_err-list-in-All.ensures.1 (failed c.in_err-list-in-All.field-0.0 _ (λ qs. Ok (every qs)) c.in_err-list-in-All.ensures))

pub entry-returns-in_err-list-in-Some-And : goal.entry-returns-in_err-list-in-Some-And
entry-returns-in_err-list-in-Some-And t c =
    rw (← c.in-Some-And.ensures, c.in-Some-And.field-0-is)
    (leaves_by Asks c.from_residual.result c.in_err-list-in-Some-And.field-0.0 _ c.from_residual.ensures.1 (failed c.in_err-list-in-Some-And.field-0.0 _ (λ qs. Ok (all_of qs)) c.in_err-list-in-Some-And.ensures))

pub entry-returns-in_err-list-in-Some-Or : goal.entry-returns-in_err-list-in-Some-Or
entry-returns-in_err-list-in-Some-Or t c =
    rw (← c.in-Some-Or.ensures, c.in-Some-Or.field-0-is)
    (leaves_by Asks c.from_residual-in_err-list-in-Some-Or.result c.in_err-list-in-Some-Or.field-0.0 _ c.from_residual-in_err-list-in-Some-Or.ensures.1 (failed c.in_err-list-in-Some-Or.field-0.0 _ (λ qs. Ok (any_of qs)) c.in_err-list-in-Some-Or.ensures))

pub entry-returns-in_err-list-in-Some-Nor : goal.entry-returns-in_err-list-in-Some-Nor
entry-returns-in_err-list-in-Some-Nor t c =
    rw (← c.in-Some-Nor.ensures, c.in-Some-Nor.field-0-is)
    (leaves_by Asks c.from_residual-in_err-list-in-Some-Nor.result c.in_err-list-in-Some-Nor.field-0.0 _ c.from_residual-in_err-list-in-Some-Nor.ensures.1 (failed c.in_err-list-in-Some-Nor.field-0.0 _ (λ qs. Ok (no (any_of qs))) c.in_err-list-in-Some-Nor.ensures))

pub test-returns-in_err-not-in-Not : goal.test-returns-in_err-not-in-Not
test-returns-in_err-not-in-Not t c = leaves_by Asks c.from_residual-in_err-not-in-Not.result Memory _ c.from_residual-in_err-not-in-Not.ensures.1 tt

pub test-returns-in_err-none-in-Nin : goal.test-returns-in_err-none-in-Nin
test-returns-in_err-none-in-Nin t c = leaves_by Asks c.from_residual-in_err-none-in-Nin.result Memory _ c.from_residual-in_err-none-in-Nin.ensures.1 tt

pub test-returns-in_ok-not-in-Not : goal.test-returns-in_ok-not-in-Not
test-returns-in_ok-not-in-Not t c =
    rw (← c.in-Some.ensures, c.in-Not.is)
    (onward Asks Asks c.in_ok-inner-in-Not.inner (Ok c.in_ok-not-in-Not.field-0) _ (λ q. Ok (no q)) c.in_ok-inner-in-Not.ensures c.in_ok-not-in-Not.ensures)

pub test-returns-in_ok-list-in-In : goal.test-returns-in_ok-list-in-In
test-returns-in_ok-list-in-In t c =
    rw (← c.in-Some.ensures, c.in-In.is)
    (onward AskEach Asks c.in_ok-list-in-In.list (Ok c.any.result) _ (λ qs. Ok (any_of qs)) c.in_ok-list-in-In.ensures c.any.ensures)

pub test-returns-in_ok-none-in-Nin : goal.test-returns-in_ok-none-in-Nin
test-returns-in_ok-none-in-Nin t c =
    rw (← c.in-Some.ensures, c.in-Nin.is)
    (onward AskEach Asks c.in_ok-list-in-Nin.list (Ok c.in_ok-none-in-Nin.field-0) _ (λ qs. Ok (no (any_of qs))) c.in_ok-list-in-Nin.ensures c.in_ok-none-in-Nin.ensures)

pub test-returns-in_ok-list-in-All : goal.test-returns-in_ok-list-in-All
test-returns-in_ok-list-in-All t c =
    rw (← c.in-Some.ensures, c.in-All.is)
    (onward AskEach Asks c.in_ok-list-in-All.list (Ok c.every.result) _ (λ qs. Ok (every qs)) c.in_ok-list-in-All.ensures c.every.ensures)

pub of_kinds-returns-in_err-list-in-Array : goal.of_kinds-returns-in_err-list-in-Array
of_kinds-returns-in_err-list-in-Array t c =
    let path = map (λ x. x.now) c.args.path.now in
    let error = c.in_err-list-in-Array.field-0.0 in
    let list = items path c.args.key.now Kinds (value_view c.args.body.now) in
    let is = ap is_array (array_seen c.args.body.now c.in-Array.field-0 c.in-Array.field-0.items c.in-Array.is refl) in
    kinds_of_array path c.args.key.now (value_view c.args.body.now) list c.from_residual.result is
    (leaves_by Asks c.from_residual.result error _ c.from_residual.ensures.1
    (failed error (one_at_least c.args.key.now list) (λ qs. Ok (any_of qs)) (failed error list (λ qs. filled c.args.key.now qs) c.in_err-list-in-Array.ensures)))

pub of_kinds-returns-in_err-kinds-in-Array : goal.of_kinds-returns-in_err-kinds-in-Array
of_kinds-returns-in_err-kinds-in-Array t c =
    let path = map (λ x. x.now) c.args.path.now in
    let error = c.in_err-kinds-in-Array.field-0.0 in
    let list = items path c.args.key.now Kinds (value_view c.args.body.now) in
    let is = ap is_array (array_seen c.args.body.now c.in-Array.field-0 c.in-Array.field-0.items c.in-Array.is refl) in
    let fails = onward AskEach AskEach c.in_ok-list-in-Array.list (Err error) list (λ qs. filled c.args.key.now qs) c.in_ok-list-in-Array.ensures c.in_err-kinds-in-Array.ensures in
    kinds_of_array path c.args.key.now (value_view c.args.body.now) list c.from_residual-in_err-kinds-in-Array.result is
    (leaves_by Asks c.from_residual-in_err-kinds-in-Array.result error _ c.from_residual-in_err-kinds-in-Array.ensures.1 (failed error (one_at_least c.args.key.now list) (λ qs. Ok (any_of qs)) fails))

pub of_kinds-returns-in_ok-kinds-in-Array : goal.of_kinds-returns-in_ok-kinds-in-Array
of_kinds-returns-in_ok-kinds-in-Array t c =
    let path = map (λ x. x.now) c.args.path.now in
    let kinds = c.in_ok-kinds-in-Array.kinds in
    let list = items path c.args.key.now Kinds (value_view c.args.body.now) in
    let is = ap is_array (array_seen c.args.body.now c.in-Array.field-0 c.in-Array.field-0.items c.in-Array.is refl) in
    let given = onward AskEach AskEach c.in_ok-list-in-Array.list (Ok kinds) list (λ qs. filled c.args.key.now qs) c.in_ok-list-in-Array.ensures c.in_ok-kinds-in-Array.ensures in
    kinds_of_array path c.args.key.now (value_view c.args.body.now) list (Ok c.any.result) is
    (onward AskEach Asks kinds (Ok c.any.result) (one_at_least c.args.key.now list) (λ qs. Ok (any_of qs)) given c.any.ensures)

pub matching-returns-in_err-list : goal.matching-returns-in_err-list
matching-returns-in_err-list t c =
    let seen = object_seen c.args.body.now c.in-Object.object c.as_slice-members.result.now c.in-Object.is c.as_slice-members.ensures.value in
    let error = c.in_err-list.field-0.0 in
    let js = members_view c.as_slice-members.result.now in
    leaves_by Asks c.from_residual.result error (matching (map (λ x. x.now) c.args.path.now) c.args.key.now (value_view c.args.body.now)) c.from_residual.ensures.1
    (subst (λ j. Fails error (matching (map (λ x. x.now) c.args.path.now) c.args.key.now j)) (sym seen)
    (when_true (are_of_items js) (Err error) _ _ (sym c.are_of_items.ensures ∙ c.if-are_of_items.true)
    (failed error (together js (tests [] (options_in js) js)) (λ qs. Ok (whole (map (λ x. x.now) c.args.path.now) (has_item (all_of qs)))) c.in_err-list.ensures)))

pub matching-returns-in_err-item : goal.matching-returns-in_err-item
matching-returns-in_err-item t c = leaves_by Asks c.from_residual-in_err-item.result Memory _ c.from_residual-in_err-item.ensures.1 tt

pub matching-returns-in_ok-item : goal.matching-returns-in_ok-item
matching-returns-in_ok-item t c =
    let seen = object_seen c.args.body.now c.in-Object.object c.as_slice-members.result.now c.in-Object.is c.as_slice-members.ensures.value in
    subst (λ j. Gives Asks (Ok c.in_ok-item.field-0) (matching (map (λ x. x.now) c.args.path.now) c.args.key.now j)) (sym seen)
    (when_true (are_of_items (members_view c.as_slice-members.result.now)) (Ok c.in_ok-item.field-0) _ _ (sym c.are_of_items.ensures ∙ c.if-are_of_items.true)
    (onward AskEach Asks c.in_ok-list.list (Ok c.in_ok-item.field-0) _ (λ qs. Ok (whole (map (λ x. x.now) c.args.path.now) (has_item (all_of qs)))) c.in_ok-list.ensures (λ ts h. c.in_ok-item.ensures (all_of ts) (c.all.ensures ts h))))

pub matching-returns-in_err-list-2 : goal.matching-returns-in_err-list-2
matching-returns-in_err-list-2 t c =
    let seen = object_seen c.args.body.now c.in-Object.object c.as_slice-members.result.now c.in-Object.is c.as_slice-members.ensures.value in
    let error = c.in_err-list-2.field-0.0 in
    let js = members_view c.as_slice-members.result.now in
    leaves_by Asks c.from_residual-in_err-list-2.result error (matching (map (λ x. x.now) c.args.path.now) c.args.key.now (value_view c.args.body.now)) c.from_residual-in_err-list-2.ensures.1
    (subst (λ j. Fails error (matching (map (λ x. x.now) c.args.path.now) c.args.key.now j)) (sym seen)
    (when_false (are_of_items js) (Err error) _ _ (sym c.are_of_items.ensures ∙ c.if-are_of_items.false)
    (failed error (entries js) (λ qs. Ok (whole (map (λ x. x.now) c.args.path.now) (has_item (holds qs)))) c.in_err-list-2.ensures)))

pub matching-returns-in_err-holds : goal.matching-returns-in_err-holds
matching-returns-in_err-holds t c = leaves_by Asks c.from_residual-in_err-holds.result Memory _ c.from_residual-in_err-holds.ensures.1 tt

pub matching-returns-in_err-item-2 : goal.matching-returns-in_err-item-2
matching-returns-in_err-item-2 t c = leaves_by Asks c.from_residual-in_err-item-2.result Memory _ c.from_residual-in_err-item-2.ensures.1 tt

pub matching-returns-in_ok-item-2 : goal.matching-returns-in_ok-item-2
matching-returns-in_ok-item-2 t c =
    let seen = object_seen c.args.body.now c.in-Object.object c.as_slice-members.result.now c.in-Object.is c.as_slice-members.ensures.value in
    subst (λ j. Gives Asks (Ok c.in_ok-item-2.field-0) (matching (map (λ x. x.now) c.args.path.now) c.args.key.now j)) (sym seen)
    (when_false (are_of_items (members_view c.as_slice-members.result.now)) (Ok c.in_ok-item-2.field-0) _ _ (sym c.are_of_items.ensures ∙ c.if-are_of_items.false)
    (onward AskEach Asks c.in_ok-list-2.list (Ok c.in_ok-item-2.field-0) _ (λ qs. Ok (whole (map (λ x. x.now) c.args.path.now) (has_item (holds qs)))) c.in_ok-list-2.ensures (λ ts h. c.in_ok-item-2.ensures (holds ts) (c.in_ok-holds.ensures ts h))))

pub match_alone-returns-in-len1 : goal.match_alone-returns-in-len1
match_alone-returns-in-len1 t c =
    let seen = object_seen c.args.body.now c.in-Object.members c.as_slice.result.now c.in-Object.is c.as_slice.ensures.value in
    subst (λ j. Gives Asks c.matching.result (match_alone (map (λ x. x.now) c.args.path.now) c.args.key.now j)) (sym seen)
    (alone (map (λ x. x.now) c.args.path.now) c.args.key.now c.as_slice.result.now c.index-name-0.result c.index-wanted-0.result c.matching.result c.in-len1.len_at_least c.in-len1.len_below
    (sym c.eq.ensures ∙ c.if-eq.true) c.matching.ensures)

pub match_alone-returns-in_default-as_slice : goal.match_alone-returns-in_default-as_slice
match_alone-returns-in_default-as_slice t c =
    let seen = object_seen c.args.body.now c.in-Object.members c.as_slice.result.now c.in-Object.is c.as_slice.ensures.value in
    let error = c.operand-in_default-as_slice.result in
    let names = c.operand-in_default-as_slice.ensures in
    let ms = c.as_slice.result.now in
    subst (λ j. Fails error (match_alone (map (λ x. x.now) c.args.path.now) c.args.key.now j)) (sym seen)
    (elim c.in_default-as_slice.branch [
      | match_alone-in_default-as_slice-via-then-as_slice-lt1 w ↦ not_alone (map (λ x. x.now) c.args.path.now) c.args.key.now ms error names (λ e. grind arith)
      | match_alone-in_default-as_slice-via-in-len1+else-eq w ↦ other_alone (map (λ x. x.now) c.args.path.now) c.args.key.now ms w.index-name-0.result error names w.in-len1.len_at_least w.in-len1.len_below (sym w.eq.ensures ∙ w.if-eq.false)
      | match_alone-in_default-as_slice-via-else-as_slice-lt1+else-this-lt2 w ↦ not_alone (map (λ x. x.now) c.args.path.now) c.args.key.now ms error names (λ e. grind arith)
    ])

pub items-loop-item-init : goal.items-loop-item-init
items-loop-item-init t c = subst (λ (l : List Question). SoFar l (each (map (λ x. x.now) c.args.path.now) c.args.key.now c.args.listed (items_view c.as_slice-items.result.now)) (each (map (λ x. x.now) c.args.path.now) c.args.key.now c.args.listed (items_view c.as_slice-items.result.now))) (sym c.new-questions.ensures.items) (none_yet (each (map (λ x. x.now) c.args.path.now) c.args.key.now c.args.listed (items_view c.as_slice-items.result.now)))

pub items-loop-item-preserved : goal.items-loop-item-preserved
items-loop-item-preserved t c =
    subst (λ (l : List Question). SoFar l (each (map (λ x. x.now) c.args.path.now) c.args.key.now c.args.listed (items_view c.as_slice-items.result.now)) (each (map (λ x. x.now) c.args.path.now) c.args.key.now c.args.listed (items_view (drop (c.loop-item.item-index + 1) c.as_slice-items.result.now)))) (sym c.in_ok-push.ensures.items)
    (each_turn (map (λ x. x.now) c.args.path.now) c.args.key.now c.args.listed c.as_slice-items.result.now c.loop-item.item-index c.item-item.result c.loop-item.questions.items c.in_ok-question.question c.item-item.is c.loop-item-test.true c.loop-item.invariant c.in_ok-question.ensures)

pub items-returns-in_err-question : goal.items-returns-in_err-question
items-returns-in_err-question t c =
    let seen = array_seen c.args.body.now c.in-Array.array c.as_slice-items.result.now c.in-Array.is c.as_slice-items.ensures.value in
    let error = c.in_err-question.field-0.0 in
    leaves_by AskEach c.from_residual.result error (items (map (λ x. x.now) c.args.path.now) c.args.key.now c.args.listed (value_view c.args.body.now)) c.from_residual.ensures.1
    (subst (λ j. Fails error (items (map (λ x. x.now) c.args.path.now) c.args.key.now c.args.listed j)) (sym seen)
    (each_halt (map (λ x. x.now) c.args.path.now) c.args.key.now c.args.listed c.as_slice-items.result.now c.loop-item.item-index c.item-item.result c.loop-item.questions.items error c.item-item.is c.loop-item-test.true c.loop-item.invariant c.in_err-question.ensures))

pub items-returns-in_err-push : goal.items-returns-in_err-push
items-returns-in_err-push t c = leaves_by AskEach c.from_residual-in_err-push.result Memory _ c.from_residual-in_err-push.ensures.1 tt

pub items-returns : goal.items-returns
items-returns t c =
    let seen = array_seen c.args.body.now c.in-Array.array c.as_slice-items.result.now c.in-Array.is c.as_slice-items.ensures.value in
    subst (λ j. Gives AskEach (Ok c.loop-item.questions) (items (map (λ x. x.now) c.args.path.now) c.args.key.now c.args.listed j)) (sym seen)
    (each_over (map (λ x. x.now) c.args.path.now) c.args.key.now c.args.listed c.as_slice-items.result.now c.loop-item.item-index c.loop-item.questions c.loop-item-test.false c.loop-item.invariant)

pub one-returns-in-Queries : goal.one-returns-in-Queries
one-returns-in-Queries t c = rw (c.in-Queries.is) c.query_of.ensures

pub one-returns-then-has_operators : goal.one-returns-then-has_operators
one-returns-then-has_operators t c =
    rw (c.in-Values.is)
    (when_true (has_operators (value_view c.args.item.now)) (Err c.operand.result) _ _ (sym c.has_operators.ensures ∙ c.if-has_operators.true)
    (names_fails _ c.operand.result (no_operand c.args.key.now) c.operand.ensures))

pub one-returns-else-has_operators : goal.one-returns-else-has_operators
one-returns-else-has_operators t c =
    rw (c.in-Values.is)
    (when_false (has_operators (value_view c.args.item.now)) c.equals.result _ _ (sym c.has_operators.ensures ∙ c.if-has_operators.false) c.equals.ensures)

pub one-returns-in-Kinds : goal.one-returns-in-Kinds
one-returns-in-Kinds t c = rw (c.in-Kinds.is) c.of_kind.ensures
