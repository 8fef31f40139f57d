use Rattle.std.proofs.Common.{◌≡◌, ◌+◌, ◌∙◌, ℕ, length, ap, arith, rules, length-append}
use Rattle.bson_bytes.specs.Encode.{value_bytes, value_size}
use Rattle.bson_bytes.specs.Writing.{CanBeWritten}
use Rattle.bson_bytes.proofs.LengthLemmas.{value_length}
use Rattle.bson_model.specs.View.{view}
use Rattle.bson_bytes.proofs.write.write_value.Goals as goal

pub returns-then-len-start-gt-LENGTH_LIMIT-clause-refused : goal.returns-then-len-start-gt-LENGTH_LIMIT-clause-refused
returns-then-len-start-gt-LENGTH_LIMIT-clause-refused c =
    let value = view c.args.value.now in
    let long : length c.put_value.new.out.items ≡ length c.args.out.now.items + value_size value = ap length c.in_ok-put_value.ensures.ok ∙ length-append {A = ℕ} c.args.out.now.items (value_bytes value) ∙ ap (λ n. length c.args.out.now.items + n) (value_length value) in
    let start : c.len-start.result ≡ length c.args.out.now.items = search rules in
    let end : c.len.result ≡ length c.put_value.new.out.items = search rules in
    let too_long : CanBeWritten value → ⊥ = λ can. omega (arith, can.1, long, start, end, c.if-len-start-gt-LENGTH_LIMIT.true) in
    (rw c.refusal.ensures.0 too_long, c.refusal.ensures.1)

pub returns-clause-fits : goal.returns-clause-fits
returns-clause-fits c =
    let value = view c.args.value.now in
    let long : length c.put_value.new.out.items ≡ length c.args.out.now.items + value_size value = ap length c.in_ok-put_value.ensures.ok ∙ length-append {A = ℕ} c.args.out.now.items (value_bytes value) ∙ ap (λ n. length c.args.out.now.items + n) (value_length value) in
    let start : c.len-start.result ≡ length c.args.out.now.items = search rules in
    let end : c.len.result ≡ length c.put_value.new.out.items = search rules in
    (c.in_ok-put_value.ensures.plain, omega (arith, long, start, end, c.if-len-start-gt-LENGTH_LIMIT.false))
