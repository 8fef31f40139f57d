use Rattle.std.proofs.Common.{List, [], ◌∷◌, ◌++◌, codes, decimal}
use Rattle.std.proofs.lemmas.Result.{on_ok_weaker}
use Rattle.json.specs.Token.{Token, begin_object, end_object, key, number}
use Rattle.bson_json.proofs.PrintLemmas.{behind}
use Rattle.bson_json.proofs.stored.print_timestamp.Goals as goal

pub returns : goal.returns
returns c =
    let old = c.args.out.now in
    let a : List Token = begin_object ∷ key (codes "$timestamp") ∷ [] in
    let b : List Token = begin_object ∷ [] in
    let d : List Token = key (codes "i") ∷ number (decimal c.args.timestamp.increment) ∷ [] in
    let e : List Token = key (codes "t") ∷ number (decimal c.args.timestamp.time) ∷ [] in
    let one = behind a b old c.begin.new.out c.begin_object.new.self c.in_ok-begin.ensures (c.in_ok-begin_object.ensures.ok, c.in_ok-begin_object.ensures.room.0) in
    let two = behind (a ++ b) d old c.begin_object.new.self c.put_number.new.out one c.in_ok-put_number.ensures in
    let three = behind (a ++ b ++ d) e old c.put_number.new.out c.put_number-2.new.out two c.in_ok-put_number-2.ensures in
    on_ok_weaker c.end_both.result (λ h. behind (a ++ b ++ d ++ e) (end_object ∷ end_object ∷ []) old c.put_number-2.new.out c.end_both.new.out three h) c.end_both.ensures
