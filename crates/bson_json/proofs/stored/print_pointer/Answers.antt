use Rattle.std.proofs.Common.{List, [], ◌∷◌, ◌++◌, codes}
use Rattle.std.proofs.lemmas.Result.{on_ok_weaker}
use Rattle.json.specs.Token.{Token, begin_object, end_object, key, string}
use Rattle.bson_base.specs.Scalars.{id_bytes}
use Rattle.bson_model.specs.JsonWrite.{write_id}
use Rattle.bson_json.specs.Prints.{tokens_of}
use Rattle.bson_json.proofs.PrintLemmas.{behind}
use Rattle.bson_json.proofs.stored.print_pointer.Goals as goal

pub returns : goal.returns
returns c =
    let old = c.args.out.now in
    let a : List Token = begin_object ∷ key (codes "$dbPointer") ∷ [] in
    let b : List Token = begin_object ∷ key (codes "$id") ∷ [] in
    let d : List Token = tokens_of (write_id (id_bytes c.args.id.now)) in
    let e : List Token = key (codes "$ref") ∷ string c.args.namespace.now ∷ [] in
    let one = behind a b old c.begin.new.out c.begin-2.new.out c.in_ok-begin.ensures c.in_ok-begin-2.ensures in
    let two = behind (a ++ b) d old c.begin-2.new.out c.print_id.new.out one c.in_ok-print_id.ensures in
    let three = behind (a ++ b ++ d) e old c.print_id.new.out c.put_text.new.out two c.in_ok-put_text.ensures in
    on_ok_weaker c.end_both.result (λ h. behind (a ++ b ++ d ++ e) (end_object ∷ end_object ∷ []) old c.put_text.new.out c.end_both.new.out three h) c.end_both.ensures
