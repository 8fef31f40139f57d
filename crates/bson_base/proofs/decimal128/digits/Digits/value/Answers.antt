use Rattle.std.proofs.Common.{◌≡◌, ◌∙◌, ◌+◌, ◌++◌, length, ap, sym, arith}
use Rattle.std.proofs.lemmas.List.{length-append}
use Rattle.bson_base.specs.Decimal.{all_digits, value_after}
use Rattle.bson_base.proofs.DecimalLemmas.{all_digits-both, below_last_power}
use Rattle.bson_base.proofs.PrintedDecimalLemmas.{value_after-append}
use Rattle.bson_base.proofs.decimal128.digits.Digits.value.Goals as goal
use Rattle.std.proofs.lemmas.Bool.{and_parts}

pub value_after-front-requires-clause-all : goal.value_after-front-requires-clause-all
value_after-front-requires-clause-all c =
    let whole = c.args.self.whole.now in let part = c.args.self.part.now in
    (and_parts (all_digits whole) (all_digits part) (sym (all_digits-both whole part) ∙ c.requires.all)).0

pub value_after-requires-clause-all : goal.value_after-requires-clause-all
value_after-requires-clause-all c =
    let whole = c.args.self.whole.now in let part = c.args.self.part.now in
    (and_parts (all_digits whole) (all_digits part) (sym (all_digits-both whole part) ∙ c.requires.all)).1

pub returns-clause-value : goal.returns-clause-value
returns-clause-value c =
    let whole = c.args.self.whole.now in let part = c.args.self.part.now in
    c.value_after.ensures.value ∙ ap (λ n. value_after n part) c.value_after-front.ensures.value ∙ sym (value_after-append 0 whole part)

pub returns-clause-bound : goal.returns-clause-bound
returns-clause-bound c =
    let whole = c.args.self.whole.now in let part = c.args.self.part.now in
    below_last_power c.value_after.result (length whole + length part) c.value_after.ensures.bound (omega (arith, length-append whole part))

pub returns-clause-small : goal.returns-clause-small
returns-clause-small c =
    let whole = c.args.self.whole.now in let part = c.args.self.part.now in
    let wide : length (whole ++ part) ≡ length whole + length part = length-append whole part in
    rw wide c.value_after.ensures.bound
