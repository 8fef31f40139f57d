-- Texts of values, part by part.
use Rattle.std.proofs.Common.{◌≡◌, ℕ, ◌+◌, ◌<◌, Bool, true, false, List, [], ◌∷◌, ◌++◌, map, length, get_or, drop, refl, sym, ap, ◌∙◌}
use Rattle.std.specs.Prelude.{codes}
use Rattle.std.specs.Fmt.{HasWritten, IsPlainFormatter}
use Rattle.std.specs.declared.fmt.Formatter.{Formatter}
use Rattle.std.proofs.lemmas.List.{append_assoc, drop_more}
use Rattle.bson_base.specs.Value.{Value}
use Rattle.bson_pairs.specs.Keyed.{Key}
use Rattle.bson_model.specs.Display.{mark_before, in_quotes, display_text, shown_document, shown_items, shown_members}
use Rattle.bson_model.specs.View.{view, pair_view, items_of, members_of}
use Rattle.bson_model.specs.declared.bson.Bson.{Bson}

pub shown_some : (ps : List (Key × Value)) → ¬ (ps ≡ []) → codes "{ " ++ shown_members true (members_of ps) ++ codes " }" ≡ shown_document (members_of ps)
shown_some [] n = absurd (n refl)
shown_some (p ∷ ps) n = refl

-- each in its place
pub item_at : (vs : List Bson) (i : ℕ) (b : Bson) → i < length vs → b ≡ get_or vs i b → drop i vs ≡ b ∷ drop (i + 1) vs
item_at vs i b lt is = drop_more vs i b lt ∙ ap (λ c. c ∷ drop (i + 1) vs) (sym is)

pub nothing_written : {W : Type 0} (took : W → List ℕ → W → Type 0) (f : Formatter W) → IsPlainFormatter f → HasWritten took f [] f
nothing_written took f plain = record { wrote = record { parts = []; calls = refl; whole = refl }; plain = plain }

pub items_more : (all t : List ℕ) (vs us : List Bson) (b : Bson) (first : Bool) → all ≡ t ++ shown_items first (items_of (map view vs)) → vs ≡ b ∷ us
    → all ≡ (t ++ (mark_before first ++ display_text (view b))) ++ shown_items false (items_of (map view us))
items_more all t vs us b first so is =
    so ∙ ap (λ ws. t ++ shown_items first (items_of (map view ws))) is
    ∙ sym (append_assoc t (mark_before first ++ display_text (view b)) (shown_items false (items_of (map view us))))

-- m, q, s and then r
regroup : (t m q s r : List ℕ) → t ++ (m ++ q ++ s ++ r) ≡ (t ++ (m ++ (q ++ s))) ++ r
regroup t m q s r = ap (λ u. t ++ (u ++ r)) (append_assoc m q s) ∙ sym (append_assoc t (m ++ (q ++ s)) r)

pub members_more : (all t : List ℕ) (ps qs : List (Key × Bson)) (k : Key) (b : Bson) (first : Bool) → all ≡ t ++ shown_members first (members_of (map pair_view ps)) → ps ≡ (k, b) ∷ qs
    → all ≡ (t ++ (mark_before first ++ ((in_quotes k ++ codes ": ") ++ display_text (view b)))) ++ shown_members false (members_of (map pair_view qs))
members_more all t ps qs k b first so is =
    so ∙ ap (λ rs. t ++ shown_members first (members_of (map pair_view rs))) is
    ∙ regroup t (mark_before first) (in_quotes k ++ codes ": ") (display_text (view b)) (shown_members false (members_of (map pair_view qs)))
