-- Texts of different values, one after the other.
use Rattle.std.proofs.Common.{◌≡◌, ◌<◌, ◌≤◌, ℕ, suc, Bool, true, false, List, [], ◌∷◌, ◌++◌, length, drop, get_or, inl, inr, Option, None, Some, Result, Ok, Err, codes, decimal, string_bytes, Vec, refl, ap, sym, ◌∙◌, subst, append-nil}
use Rattle.std.proofs.Math.Seq.{drop-cons}
use Rattle.std.proofs.lemmas.List.{drop_all}
use Rattle.std.specs.declared.alloc.AllocError.{AllocError}
use Rattle.std.specs.declared.alloc.Global.{Global}
use Rattle.json.specs.Json.{Json, Items, no_items, item, member, number, object}
use Rattle.json.specs.Print.{print}
use Rattle.json.specs.Tree.{json_tokens}
use Rattle.bson_model.specs.View.{view}
use Rattle.bson_model.specs.declared.extjson.ser.Mode.TheVariants.{Canonical}
use Rattle.fallowtime_commands.specs.Printing.{counted_text, value_text}
use Rattle.cli_convert.specs.Printed.{PrintsValue}
use Rattle.cli_convert.specs.declared.printed.PrintFault.{PrintFault}
use Rattle.cli_convert.specs.declared.printed.PrintFault.TheVariants.{ReservedKey, Damaged, Memory}
use Rattle.store_pipeline.specs.declared.sorted.counted.Counted.{Counted}
use Rattle.fallowtime_commands.specs.Answers.{HaveTexts, IsLineOf, IsUntold, ShowEach, ShowsValues, one, refusal}
use Rattle.fallowtime_commands.specs.Objects.{Makes, PutsValue, PutsValues, ShowsFault, comma_before, items_text}
use Rattle.fallowtime_commands.proofs.TextLemmas.{text_moved}
use Rattle.fallowtime_commands.proofs.WriteLemmas.{counted_print}

-- one that has a text
pub told : (counts : Bool) (c : Counted) (i : ℕ) (text old new : List ℕ) → PrintsValue Canonical (view c.value) text (Ok tt) → new ≡ old ++ (comma_before i ++ value_text counts text c.documents) → PutsValue i counts c old new (Ok tt)
told false c i text old new (free, (j, writes, is, back)) put = (free, j, writes, put ∙ ap (λ t. old ++ (comma_before i ++ t)) is)
told true c i text old new (free, (j, writes, is, back)) put = (
  free,
  object (member (codes "value") j (one (codes "count") (number (decimal c.documents)))),
  (j, writes, refl),
  put ∙ ap (λ t. old ++ (comma_before i ++ t)) (ap (λ t. counted_text t (decimal c.documents)) is ∙ sym (counted_print j c.documents)),
)

-- and one that has none
pub untold : (counts : Bool) (c : Counted) (i : ℕ) (text old new : List ℕ) (fault : PrintFault) → PrintsValue Canonical (view c.value) text (Err fault) → PutsValue i counts c old new (Err fault)
untold counts c i text old new (ReservedKey path) is = is
untold counts c i text old new Damaged is = is
untold counts c i text old new Memory is = tt

-- after the first i values: what holds of the rest holds of all
pub record ValuesSoFar (counts : Bool) (cs : List Counted) (old now : List ℕ) (i : ℕ) : Type 0 where
  pub texts : HaveTexts (drop i cs) → HaveTexts cs
  pub ends : (js : Items) → ShowEach counts (drop i cs) js → (all : Items) × ShowEach counts cs all × (now ++ items_text i js ≡ old ++ items_text 0 all)
  pub first : (path : List ℕ) → IsUntold (drop i cs) path → IsUntold cs path

pub no_value_yet : (counts : Bool) (cs : List Counted) (old : List ℕ) → ValuesSoFar counts cs old old 0
no_value_yet counts cs old = record { texts = λ h. h; ends = λ js h. (js, h, refl); first = λ path h. h }

-- c is the one after the first i
module _ (counts : Bool) (cs : List Counted) (old now new : List ℕ) (i : ℕ) (d c : Counted) (below : i < length cs) (is : c ≡ get_or cs i d) (so : ValuesSoFar counts cs old now i) where
  from : c ∷ drop (suc i) cs ≡ drop i cs
  from = ap (λ x. x ∷ drop (suc i) cs) is ∙ sym (drop-cons cs i d below)

  pub one_value_more : PutsValue i counts c now new (Ok tt) → ValuesSoFar counts cs old new (suc i)
  one_value_more (free, j, shows, put) = record {
    texts = λ h. so.texts (subst HaveTexts from (free, h));
    ends = λ js h.
        let all = so.ends (item j js) (subst (λ l. ShowEach counts l (item j js)) from (j, js, shows, h, refl)) in
        (all.0, all.1, text_moved old now new (comma_before i) (print (json_tokens j)) (items_text (suc i) js) put ∙ all.2);
    first = λ path h. so.first path (subst (λ l. IsUntold l path) from (inr (free, h)));
  }

  pub at_untold : (fault : PrintFault) → PutsValue i counts c now new (Err fault) → PutsValues counts cs old new (Err fault)
  at_untold (ReservedKey path) reserved = so.first (string_bytes path) (subst (λ l. IsUntold l (string_bytes path)) from (inl reserved))
  at_untold Damaged never = never
  at_untold Memory is = tt

pub all_values : (counts : Bool) (cs : List Counted) (old now : List ℕ) (i : ℕ) → length cs ≤ i → ValuesSoFar counts cs old now i → PutsValues counts cs old now (Ok tt)
all_values counts cs old now i all so =
    let none : [] ≡ drop i cs = sym (drop_all i cs all) in
    let last = so.ends no_items (subst (λ l. ShowEach counts l no_items) none refl) in
    (so.texts (subst HaveTexts none tt), last.0, last.1, sym (append-nil now) ∙ last.2)

-- the line for the first one that has no text
pub untold_line : (id : Option Json) (counts : Bool) (cs : List Counted) (old new : List ℕ) (fault : PrintFault) (r : Result (Vec ℕ Global) AllocError) → PutsValues counts cs old new (Err fault) → Makes (ShowsFault id None fault) r
    → Makes (IsLineOf id (ShowsValues counts cs)) r
untold_line id counts cs old new (ReservedKey path) (Ok line) first is = (refusal (codes "ReservedKey") None (Some (string_bytes path)), inr (string_bytes path, first, refl), is)
untold_line id counts cs old new Damaged (Ok line) first is = absurd first
untold_line id counts cs old new Memory (Ok line) first is = absurd is
untold_line id counts cs old new fault (Err e) first is = tt
