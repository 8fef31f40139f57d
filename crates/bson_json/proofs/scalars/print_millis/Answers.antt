use Rattle.std.proofs.Common.{◌≡◌, List, [], ◌∷◌, ◌++◌, codes, subst, rules, to_z, of_z, w64}
use Rattle.std.proofs.lemmas.Result.{on_ok_weaker}
use Rattle.std.specs.Fmt.{signed_decimal}
use Rattle.json.specs.Token.{Token, begin_object, end_object, key, string}
use Rattle.bson_base.specs.Scalars.{millis_of}
use Rattle.bson_json.specs.Prints.{Adds}
use Rattle.bson_json.proofs.PrintLemmas.{behind}
use Rattle.bson_json.proofs.scalars.print_millis.Goals as goal

pub returns : goal.returns
returns c =
    let old = c.args.out.now in
    let a : List Token = begin_object ∷ key (codes "$date") ∷ [] in
    let b : List Token = begin_object ∷ key (codes "$numberLong") ∷ string (signed_decimal (millis_of c.args.moment)) ∷ end_object ∷ [] in
    let same : to_z w64 (of_z w64 c.timestamp_millis.result) ≡ millis_of c.args.moment = search rules in
    let inner : Adds b c.begin.new.out c.wrap_digits.new.out = subst (λ z. Adds (begin_object ∷ key (codes "$numberLong") ∷ string (signed_decimal z) ∷ end_object ∷ []) c.begin.new.out c.wrap_digits.new.out) same c.in_ok-wrap_digits.ensures in
    let both = behind a b old c.begin.new.out c.wrap_digits.new.out c.in_ok-begin.ensures inner in
    on_ok_weaker c.end_object.result (λ h. behind (a ++ b) (end_object ∷ []) old c.wrap_digits.new.out c.end_object.new.self both (h, c.end_object.ensures.room.0)) c.end_object.ensures.ok
