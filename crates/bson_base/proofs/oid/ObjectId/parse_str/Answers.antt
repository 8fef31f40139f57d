use Rattle.std.proofs.Common.{◌≡◌, ◌%◌, ◌==◌, ◌∙◌, true, false, Ok, length, refl, sym, ap, arith}
use Rattle.bson_base.proofs.ObjectIdLemmas.{reads_digits, refuses_digits}
use Rattle.bson_base.proofs.oid.ObjectId.parse_str.Goals as goal

pub returns-in-Ok : goal.returns-in-Ok
returns-in-Ok c =
    let text = c.args.text.now in
    let even : length text % 2 ≡ 0 = omega arith in
    let none = sym c.first_other.ensures ∙ c.in_default.is in
    let read = reads_digits text c.in-Ok.id even none (sym c.from_hex.ensures ∙ c.in-Ok.is) in
    let odd : (length text % 2 == 1) ≡ false = grind arith in
    let long : (length text == 24) ≡ true = let l = read.0 in grind arith in
    rw (odd, none, long) (ap Ok read.1)

pub returns-in-Err : goal.returns-in-Err
returns-in-Err c =
    let text = c.args.text.now in
    let even : length text % 2 ≡ 0 = omega arith in
    let none = sym c.first_other.ensures ∙ c.in_default.is in
    let other = refuses_digits text c.in-Err.field-0 even none (sym c.from_hex.ensures ∙ c.in-Err.is) in
    let odd : (length text % 2 == 1) ≡ false = grind arith in
    let long : (length text == 24) ≡ false = grind arith in
    rw (odd, none, long) refl
