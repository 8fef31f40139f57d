use Rattle.std.proofs.Common.{false, ◌≡◌, ◌==◌, ◌+◌, ◌++◌, ◌∷◌, [], length, drop, suc, refl, sym, ap, ◌∙◌, subst, rules, tests, arith, length-append}
use Rattle.std.proofs.lemmas.Iterator.Consumers.{YieldsList-turn, YieldsList-end}
use Rattle.std.proofs.lemmas.Iterator.Splits.{YieldsList-from_slice_split}
use Rattle.std.proofs.lemmas.Result.{err_from_is_err_and}
use Rattle.std.specs.Slice.Iter.{split_done, split_rest}
use Rattle.store_documents.specs.Loading.{HasTaken}
use Rattle.cli_commands.specs.Inputs.{HaveTrees, lines_in}
use Rattle.cli_commands.proofs.LineLemmas.{cut_at, front_more, length-shown, shown, stops_here, trees_more}
use Rattle.cli_commands.proofs.texts.judged_lines.Goals as goal

pub loop-line-init : goal.loop-line-init
loop-line-init c = record { front = refl; taken = ([], refl, c.new-loader.ensures); counts = refl }

pub loop-line-preserved : goal.loop-line-preserved
loop-line-preserved c =
    let l = c.loop-line in
    let rest : split_rest c.into_iter-line-iterator.result ≡ c.args.bytes.now = search rules in
    let more : split_done c.into_iter-line-iterator.result ≡ false = search rules in
    let next = YieldsList-turn (YieldsList-from_slice_split {s = c.into_iter-line-iterator.result} _ (λ b. b == 10) c.args.bytes.now rest more refl (λ x r q k. search (rules, tests))) l.yielded _ l.yielded_by _ _ c.in-Some.line c.in-Some.is c.next.ensures.steps in
    let taken = l.invariant.taken in
    record {
      front = front_more l.yielded c.in-Some.line (lines_in c.args.bytes.now) l.invariant.front next;
      taken = trees_more l.yielded c.in-Some.line taken.0 (HasTaken c.take_line.new.loader) taken.1 (c.in_ok-take_line.ensures.ok taken.0 taken.2);
      counts = grind (arith, length-append, l.invariant.counts);
    }

pub returns-in_err-take_line : goal.returns-in_err-take_line
returns-in_err-take_line c =
    let l = c.loop-line in
    let rest : split_rest c.into_iter-line-iterator.result ≡ c.args.bytes.now = search rules in
    let more : split_done c.into_iter-line-iterator.result ≡ false = search rules in
    let next = YieldsList-turn (YieldsList-from_slice_split {s = c.into_iter-line-iterator.result} _ (λ b. b == 10) c.args.bytes.now rest more refl (λ x r q k. search (rules, tests))) l.yielded _ l.yielded_by _ _ c.in-Some.line c.in-Some.is c.next.ensures.steps in
    let p = err_from_is_err_and c.from_residual.result c.from_residual.ensures.1 in
    rw (p.1, p.2) (stops_here (lines_in c.args.bytes.now) (shown l.yielded) (drop (suc (length l.yielded)) (lines_in c.args.bytes.now)) c.in-Some.line.now l.invariant.taken.0 _ c.in_err-take_line.field-0.0
    (cut_at l.yielded c.in-Some.line (lines_in c.args.bytes.now) l.invariant.front next) l.invariant.taken.1 (grind (arith, length-shown l.yielded, l.invariant.counts)) c.in_err-take_line.ensures.err)

pub returns : goal.returns
returns c =
    let l = c.loop-line in
    let rest : split_rest c.into_iter-line-iterator.result ≡ c.args.bytes.now = search rules in
    let more : split_done c.into_iter-line-iterator.result ≡ false = search rules in
    let end = YieldsList-end (YieldsList-from_slice_split {s = c.into_iter-line-iterator.result} _ (λ b. b == 10) c.args.bytes.now rest more refl (λ x r q k. search (rules, tests))) l.yielded _ l.yielded_by _ _ c.in-None.is c.next.ensures.steps in
    let taken = l.invariant.taken in
    (taken.0, subst (λ lines. HaveTrees lines taken.0) end.0 taken.1, taken.2)
