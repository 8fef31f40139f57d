use Rattle.std.proofs.Common.{◌≡◌, ◌∙◌, [], ◌∷◌, OnOk, ap, codes, subst, rules, to_z, of_z, w64}
use Rattle.std.proofs.Math.Facts.{sfits_widen}
use Rattle.std.proofs.lemmas.Int.{to_z-of_z}
use Rattle.std.specs.Fmt.{signed_decimal}
use Rattle.json.specs.Token.{begin_object, end_object, key, string}
use Rattle.bson_json.specs.Prints.{Adds}
use Rattle.bson_json.proofs.scalars.print_i32.Goals as goal

pub returns : goal.returns
returns c =
    let wide : c.from.result ≡ c.args.number = search rules in
    let same : to_z w64 (of_z w64 c.from.result) ≡ c.args.number = ap (λ z. to_z w64 (of_z w64 z)) wide ∙ to_z-of_z w64 c.args.number (sfits_widen tt c.ranges.number) in
    subst (λ z. OnOk c.wrap_digits.result (Adds (begin_object ∷ key (codes "$numberInt") ∷ string (signed_decimal z) ∷ end_object ∷ []) c.args.out.now c.wrap_digits.new.out)) same c.wrap_digits.ensures
