use Rattle.std.proofs.Common.{map, string_bytes, sym}
use Rattle.fallowtime_words.specs.Options.{AreOptions}
use Rattle.fallowtime_words.proofs.GatherLemmas.{Left, goes_on, no_option, no_more, nothing, everything, no_words, some_words}
use Rattle.fallowtime_words.proofs.options.read_options.Goals as goal

pub returns-in_err-given : goal.returns-in_err-given
returns-in_err-given c = nothing (AreOptions (map string_bytes c.args.words.now)) (Left c.loop-rest.options (map string_bytes c.loop-rest.rest.now)) _
    c.from_residual.ensures c.loop-rest.invariant
    (λ all. no_option _ c.loop-rest.options all (some_words c.loop-rest.rest.now c.loop-rest-test.ensures) c.in_err-given.ensures.lead)

pub returns-in_err-options : goal.returns-in_err-options
returns-in_err-options c = nothing (AreOptions (map string_bytes c.args.words.now)) (Left c.loop-rest.options (map string_bytes c.loop-rest.rest.now)) _
    c.from_residual-in_err-options.ensures c.loop-rest.invariant
    (λ all. no_more _ c.in_ok-given.given _ c.loop-rest.options all c.in_ok-given.ensures.lead (sym c.in_err-options.ensures))

pub loop-rest-preserved : goal.loop-rest-preserved
loop-rest-preserved c all =
    let step = goes_on _ c.in_ok-given.given _ c.loop-rest.options c.in_ok-options.options all c.in_ok-given.ensures.lead (sym c.in_ok-options.ensures) in
    (λ p. step.0 ((c.loop-rest.invariant all).0 p), λ l. (c.loop-rest.invariant all).1 (step.1 l))

pub returns : goal.returns
returns c = everything (AreOptions (map string_bytes c.args.words.now)) c.loop-rest.options _ (no_words c.loop-rest.rest.now c.loop-rest-test.ensures) c.loop-rest.invariant
