use Rattle.std.proofs.Common.{ℕ, Vec, Global, ap, sym, ◌∙◌}
use Rattle.store_question_read.proofs.PatternLemmas.{broken_off, complete, kept, none_kept, opened, refused}
use Rattle.store_question_read.proofs.patterns.literal.Goals.{then-opens, else-opens+else-not-stands+in_ok-push}
use Rattle.store_question_read.proofs.patterns.literal.Goals as goal

pub loop-byte-init : goal.loop-byte-init
loop-byte-init c = none_kept c.args.pattern.now c.new-bytes.result.items c.new-bytes.ensures.items

pub loop-byte-preserved : goal.loop-byte-preserved
loop-byte-preserved c =
    elim c.if-opens.branch [
      | then-opens w ↦
          opened c.args.pattern.now c.loop-byte.bytes.items c.loop-byte.escaped c.loop-byte.byte-index _ c.loop-byte-test.true c.loop-byte.invariant
          c.if-opens.bytes.items c.if-opens.escaped (ap (λ (v : Vec ℕ Global). v.items) w.bytes-is) w.escaped-is (sym c.opens.ensures ∙ w.if-opens.true)
      | else-opens+else-not-stands+in_ok-push w ↦
          kept c.args.pattern.now c.loop-byte.bytes.items c.loop-byte.escaped c.loop-byte.byte-index _ c.loop-byte-test.true c.loop-byte.invariant
          c.if-opens.bytes.items c.if-opens.escaped (ap (λ (v : Vec ℕ Global). v.items) w.bytes-is ∙ w.in_ok-push.ensures.items) w.escaped-is (sym c.opens.ensures ∙ w.if-opens.false) (sym w.stands.ensures ∙ w.if-not-stands.false)
    ]

pub returns-then-not-stands : goal.returns-then-not-stands
returns-then-not-stands c =
    refused c.args.pattern.now c.loop-byte.bytes.items c.loop-byte.escaped c.loop-byte.byte-index _ c.loop-byte-test.true c.loop-byte.invariant (sym c.opens.ensures ∙ c.if-opens.false) (sym c.stands.ensures ∙ c.if-not-stands.true)

pub returns-then-escaped : goal.returns-then-escaped
returns-then-escaped c = broken_off c.args.pattern.now c.loop-byte.bytes.items c.loop-byte.escaped c.loop-byte.byte-index c.loop-byte-test.false c.loop-byte.invariant c.if-escaped.true

pub returns-else-escaped : goal.returns-else-escaped
returns-else-escaped c = complete c.args.pattern.now c.loop-byte.bytes.items c.loop-byte.escaped c.loop-byte.byte-index c.loop-byte-test.false c.loop-byte.invariant c.if-escaped.false
