use Rattle.std.proofs.Common.{◌≡◌, ◌∙◌, List, ℕ, [], ◌∷◌, OnOk, codes, subst}
use Rattle.json.specs.Token.{begin_object, end_object, key, string}
use Rattle.base64.specs.Engines.{standard}
use Rattle.base64.specs.GeneralPurpose.{encode_of}
use Rattle.hex.specs.Hex.{encode_lower}
use Rattle.bson_base.specs.Tags.{subtype_byte}
use Rattle.bson_json.specs.Prints.{Adds}
use Rattle.bson_json.proofs.scalars.print_binary.Goals as goal

pub returns : goal.returns
returns c =
    let P : List ℕ → List ℕ → Type 0
    = λ t u. OnOk c.wrap_texts.result (Adds (begin_object ∷ key (codes "$binary") ∷ begin_object ∷ key (codes "base64") ∷ string t ∷ key (codes "subType") ∷ string u ∷ end_object ∷ end_object ∷ []) c.args.out.now c.wrap_texts.new.out) in
    let first : c.as_str-text.result.now ≡ encode_of standard c.args.binary.now.bytes.items = c.as_str-text.ensures.value ∙ c.in_ok-bytes.ensures in
    let second : c.as_str-digits.result.now ≡ encode_lower (subtype_byte c.args.binary.now.subtype ∷ []) = c.as_str-digits.ensures.value ∙ c.in_ok-subtype.ensures in
    subst (P (encode_of standard c.args.binary.now.bytes.items)) second (subst (λ t. P t c.as_str-digits.result.now) first c.wrap_texts.ensures)
