use Rattle.std.proofs.Common.{◌≡◌, ◌∙◌, true, false, pos, ◌≤ℤ◌, refl, subst, arith, rules}
use Rattle.std.specs.Int.{w64}
use Rattle.std.proofs.lemmas.Int.{by_lt_z, to_z-of_z}
use Rattle.jiff_core.specs.Calendar.{days_from_civil, IsCivilDate, IsEpochDay}
use Rattle.jiff_core.proofs.SignedLemmas.{signed_arith}
use Rattle.bson_base.specs.DateText.{IsTextDay}
use Rattle.bson_base.proofs.DateLemmas.{from_zero, before_zero}
use Rattle.bson_base.proofs.datetime.calendar.civil_day.Goals as goal

pub returns-in_err-year-clause-found : goal.returns-in_err-year-clause-found
returns-in_err-year-clause-found c =
    let date = c.in_ok-date.date in
    let civil : IsCivilDate date.year date.month date.day = (date.year_in, date.month_in, date.day_in) in
    let same = to_z-of_z w64 c.args.number (search rules) in
    let at : days_from_civil date.year date.month date.day ≡ c.args.number = c.in_ok-date.ensures.at ∙ same in
    let early : IsTextDay c.args.number → false ≡ true = λ h. by_lt_z date.year (pos 0)
    (λ lt. absurd (let before = before_zero date.year c.args.number date.month date.day civil at lt in omega (arith, signed_arith, h.0)))
    (λ le. c.in_err-year.ensures.found.1 le) in
    (λ s. absurd (let f : false ≡ true = rw c.from_residual-in_err-year.ensures at s in cc f), λ h. absurd (let f = early h in cc f))

pub returns-clause-found : goal.returns-clause-found
returns-clause-found c =
    let date = c.in_ok-date.date in
    let civil : IsCivilDate date.year date.month date.day = (date.year_in, date.month_in, date.day_in) in
    let same = to_z-of_z w64 c.args.number (search rules) in
    let at : days_from_civil date.year date.month date.day ≡ c.args.number = c.in_ok-date.ensures.at ∙ same in
    let positive : pos 0 ≤ℤ date.year = c.in_ok-year.ensures.found.0 refl in
    let range : IsEpochDay c.args.number = subst IsEpochDay same (c.in_ok-date.ensures.found.0 refl) in
    (λ _. (from_zero date.year c.args.number date.month date.day civil at positive, range.1), λ _. refl)
