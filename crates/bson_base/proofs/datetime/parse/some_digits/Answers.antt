use Rattle.std.proofs.Common.{ℕ, List, ap, ◌∙◌}
use Rattle.bson_base.specs.Decimal.{all_digits}
use Rattle.bson_base.proofs.DateLemmas.{all_digits-digit_run}
use Rattle.bson_base.proofs.datetime.parse.some_digits.Goals as goal

pub digits_worth-requires : goal.digits_worth-requires
digits_worth-requires c = ap (λ (p : List ℕ × List ℕ). all_digits p.0) c.split_digits.ensures ∙ all_digits-digit_run c.args.text.now
