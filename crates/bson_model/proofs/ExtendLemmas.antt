-- Pairs put one after the other, with their values seen.
use Rattle.std.proofs.Common.{◌≡◌, ◌∷◌, [], List, length, take, String, Global, string_bytes, option_map, refl, sym, ap, ◌∙◌, arith, length-append}
use Rattle.std.proofs.Math.Seq.{take-append_seam}
use Rattle.bson_pairs.specs.Keyed.{Key, put}
use Rattle.bson_pairs.specs.Putting.{put_each, PutsBeforeNew}
use Rattle.bson_pairs.proofs.KeyedLemmas.{over, get-over, put-over}
use Rattle.bson_model.specs.Extend.{put_all, PutsSome, PutsUpToNew}
use Rattle.bson_model.specs.View.{view}
use Rattle.bson_model.specs.declared.bson.Bson.{Bson}

pub put_all-over : (xs : List (String Global × Bson)) (ps : List (Key × Bson)) → over view (put_each xs ps) ≡ put_all xs (over view ps)
put_all-over [] ps = refl
put_all-over (x ∷ xs) ps = put_all-over xs (put (string_bytes x.0) x.1 ps) ∙ ap (put_all xs) (sym (put-over view (string_bytes x.0) x.1 ps))

pub puts_some : (xs : List (String Global × Bson)) (ps qs : List (Key × Bson)) → PutsBeforeNew xs ps qs → PutsSome xs (over view ps) (over view qs)
puts_some xs ps qs h =
    let before = h.0 in
    let rest = h.2 ∷ h.1 in
    let whole = h.3 in
    let long = ap length whole ∙ length-append before rest in (
      length before,
      omega (arith, long),
      ap (over view) h.4 ∙ put_all-over before ps ∙ ap (λ l. put_all l (over view ps)) (sym (ap (take (length before)) whole ∙ take-append_seam before rest)),
    )

pub puts_up_to_new : (xs : List (String Global × Bson)) (ps qs : List (Key × Bson)) → PutsBeforeNew xs ps qs → PutsUpToNew xs (over view ps) (over view qs)
puts_up_to_new xs ps qs h = (h.0, h.1, h.2, h.3, ap (over view) h.4 ∙ put_all-over h.0 ps, get-over view (string_bytes h.2.0) qs ∙ ap (option_map view) h.5)
