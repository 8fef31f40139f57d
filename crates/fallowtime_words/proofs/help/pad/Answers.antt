use Rattle.std.proofs.Common.{◌≤◌, ◌<◌, length, string_bytes, subst, sym, ◌∙◌, ap}
use Rattle.fallowtime_words.specs.Overview.{padded}
use Rattle.fallowtime_words.proofs.PadLemmas.{pad_done, pad_more}
use Rattle.fallowtime_words.proofs.help.pad.Goals as goal

pub loop-text-preserved : goal.loop-text-preserved
loop-text-preserved c = ap (padded c.args.column) c.in_ok-push_str.ensures.bytes
    ∙ (pad_more c.args.column (string_bytes c.loop-text.text) (subst (λ n. n < c.args.column) (ap length c.as_str.ensures.value) c.loop-text-test.true)
    ∙ c.loop-text.invariant)

pub returns : goal.returns
returns c = sym (pad_done c.args.column (string_bytes c.loop-text.text) (subst (λ n. c.args.column ≤ n) (ap length c.as_str.ensures.value) c.loop-text-test.false))
    ∙ c.loop-text.invariant
