use Rattle.std.proofs.Common.{◌≡◌, ◌↔◌, inl, inr, ◌<◌, ◌≤◌, List, [], ◌∷◌, length, map, get_or, Bool, IsTrue, String, Global, string_bytes, ap, ◌∙◌, sym, subst, arith}
use Rattle.std.specs.Str.{bytes_eq}
use Rattle.std.proofs.lemmas.Slice.Eq.{bytes_eq-Decides}
use Rattle.cli_commands.specs.Words.{Takes, relaxed_word}
use Rattle.cli_commands.specs.declared.call.Call.TheVariants.{Get}
use Rattle.cli_commands.proofs.call.Call.takes.Goals as goal

-- of two words the second asks for the relaxed form
relaxed_form : (rest : List (String Global)) (form : String Global) (r : Bool) → form ≡ get_or rest 1 form → 2 ≤ length rest → length rest < 3
    → r ≡ bytes_eq (string_bytes form) relaxed_word → IsTrue r ↔ Takes Get (map string_bytes rest)
relaxed_form [] form r e low high is = absurd (omega arith)
relaxed_form (a ∷ []) form r e low high is = absurd (omega arith)
relaxed_form (a ∷ b ∷ []) form r e low high is = (λ t. inr (string_bytes a, forth t), back)
  where
    forth : IsTrue r → string_bytes a ∷ string_bytes b ∷ [] ≡ string_bytes a ∷ relaxed_word ∷ []
    forth t =
        let same : string_bytes form ≡ relaxed_word = (bytes_eq-Decides (string_bytes form) relaxed_word).0 (sym is ∙ t) in
        ap (λ x. string_bytes a ∷ x ∷ []) (ap string_bytes (sym e) ∙ same)

    back : Takes Get (string_bytes a ∷ string_bytes b ∷ []) → IsTrue r
    back (inl one) = absurd (omega (arith, one))
    back (inr (id, all)) =
        let same : string_bytes b ≡ relaxed_word = cc in
        is ∙ (bytes_eq-Decides (string_bytes form) relaxed_word).1 (ap string_bytes e ∙ same)
relaxed_form (a ∷ b ∷ x ∷ more) form r e low high is = absurd (omega arith)

pub returns-in-len2 : goal.returns-in-len2
returns-in-len2 c =
    subst (λ call. IsTrue c.eq.result ↔ Takes call (map string_bytes c.args.rest.now)) (sym c.in-Get.is)
    (relaxed_form c.args.rest.now c.form-item.result c.eq.result c.form-item.is c.in-len2.len_at_least c.in-len2.len_below (c.eq.ensures ∙ ap (λ t. bytes_eq t relaxed_word) c.as_str.ensures.value))
