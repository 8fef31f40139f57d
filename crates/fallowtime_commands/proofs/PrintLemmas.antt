-- What is printed of documents, of names and of values, one after the other, and of an update.
use Rattle.std.proofs.Common.{◌≡◌, inl, inr, ℕ, suc, ◌+◌, ◌<◌, Bool, true, false, List, [], ◌∷◌, ◌++◌, length, map, take, drop, get_or, add-one, append_assoc, codes, decimal, Result, Ok, Err, refl, sym, ap, ◌∙◌, subst}
use Rattle.std.proofs.Math.Seq.{take-suc, drop-cons}
use Rattle.std.proofs.lemmas.List.{map-append, take-append-drop}
use Rattle.bson_base.specs.Device.{Tally}
use Rattle.bson_base.specs.Value.{Members}
use Rattle.bson_json.specs.Prints.{IsTextOf}
use Rattle.bson_model.specs.View.{view}
use Rattle.bson_model.specs.declared.extjson.ser.Mode.{Mode}
use Rattle.cli_convert.specs.Parts.{InParts, Passed}
use Rattle.cli_commands.specs.Lines.{line}
use Rattle.cli_convert.proofs.PartLemmas.{more_parts, one_part, passed_both}
use Rattle.store_pipeline.specs.declared.sorted.counted.Counted.{Counted}
use Rattle.store_model.specs.Refusal.{refusal}
use Rattle.cli_convert.specs.Printed as texts
use Rattle.cli_convert.specs.declared.printed.PrintFault.{PrintFault}
use Rattle.cli_convert.specs.declared.printed.PrintFault.TheVariants as faults
use Rattle.fallowtime_commands.specs.Printing.{IsUnprinted, IsValueLine, PrintsLine, PrintsValue, counted_text, key_of_fault, kind_of_fault, update_text, upsert_text}
use Rattle.fallowtime_commands.specs.declared.refusal.Refusal.{Refusal}

-- a document without a text
pub without_text : (m : Mode) (d : Members) (text : List ℕ) (fault : PrintFault) (tally : Tally) (r : Refusal) → texts.PrintsDocument m d text (Err fault) → r.error ≡ refusal (kind_of_fault fault) → r.key ≡ key_of_fault fault → IsUnprinted d tally tally r
without_text m d text (faults.ReservedKey path) tally r there is key = inl ((is, (path, there, key)), refl)
without_text m d text faults.Damaged tally r there is key = absurd there
without_text m d text faults.Memory tally r there is key = inr (inl (is, refl))

-- parts were printed, and one more
behind : {Y : Type 0} (P : List ℕ → Y → Type 0) (ys zs : List Y) (y : Y) (part : List ℕ) (a b c : Tally) → zs ≡ ys ++ y ∷ [] → (out : List ℕ) × Passed a b out × InParts P out ys → Passed b c part → P part y
    → (out : List ℕ) × Passed a c out × InParts P out zs
behind P ys zs y part a b c is (out, passed, parts) next holds = (out ++ part, passed_both a b c out part passed next, subst (λ l. InParts P (out ++ part) l) (sym is) (more_parts P out ys part (y ∷ []) parts (one_part P part y holds)))

module _ {X : Type 0} (xs : List X) (i : ℕ) (d : X) (below : i < length xs) where
  -- one more of the first ones
  longer : take (i + 1) xs ≡ take i xs ++ get_or xs i d ∷ []
  longer = rw add-one (take-suc xs i d below)

  -- the next one comes between the first ones and the rest
  parted : xs ≡ take i xs ++ get_or xs i d ∷ drop (suc i) xs
  parted = sym (take-append-drop i xs) ∙ ap (λ l. take i xs ++ l) (drop-cons xs i d below)

  -- so does what is equal to it
  pub parted_by : (x : X) → x ≡ get_or xs i d → xs ≡ take i xs ++ x ∷ drop (suc i) xs
  parted_by x is = parted ∙ ap (λ y. take i xs ++ y ∷ drop (suc i) xs) (sym is)

module _ {X : Type 0} (seen : X → List ℕ) (P : List ℕ → List ℕ → Type 0) (xs : List X) where
  -- the parts of the first ones were printed
  abbrev pub Before : ℕ → Tally → Tally → Type 0
  Before i a b = (out : List ℕ) × Passed a b out × InParts P out (map seen (take i xs))

  -- and one more
  pub more : (i : ℕ) (d : X) (x part : List ℕ) (a b c : Tally) → i < length xs → x ≡ seen (get_or xs i d) → Before i a b → Passed b c part → P part x → Before (i + 1) a c
  more i d x part a b c below is before next holds =
      let step : map seen (take (i + 1) xs) ≡ map seen (take i xs) ++ seen (get_or xs i d) ∷ [] = ap (map seen) (longer xs i d below) ∙ map-append seen (take i xs) (get_or xs i d ∷ []) in
      behind P (map seen (take i xs)) (map seen (take (i + 1) xs)) (seen (get_or xs i d)) part a b c step before next (subst (P part) is holds)

  -- so do their parts
  pub between : (i : ℕ) (d : X) (x : List ℕ) → i < length xs → x ≡ seen (get_or xs i d) → map seen xs ≡ map seen (take i xs) ++ x ∷ map seen (drop (suc i) xs)
  between i d x below is =
      ap (map seen) (parted xs i d below) ∙ map-append seen (take i xs) (get_or xs i d ∷ drop (suc i) xs)
      ∙ ap (λ y. map seen (take i xs) ++ y ∷ map seen (drop (suc i) xs)) (sym is)

-- the line of an update, by its parts
pub of_update : (m c : ℕ) (a b : List ℕ) → a ≡ decimal m → b ≡ decimal c → codes "{\"matched\":" ++ (a ++ (codes ",\"changed\":" ++ (b ++ codes "}\n"))) ≡ line (update_text m c)
of_update m c a b is same = rw (is, same) (simp append_assoc)

pub of_upsert : (id : List ℕ) → codes "{\"matched\":0,\"changed\":0,\"upserted\":" ++ (id ++ codes "}\n") ≡ line (upsert_text id)
of_upsert id = simp append_assoc

-- ---- values

-- the line of one that is counted, by its parts
pub of_counted : (text digits : List ℕ) → codes "{\"value\":" ++ (text ++ (codes ",\"count\":" ++ (digits ++ codes "}\n"))) ≡ line (counted_text text digits)
of_counted text digits = simp append_assoc

module _ (m : Mode) (counts : Bool) (c : Counted) where
  -- one without a text
  pub untold : (text : List ℕ) (fault : PrintFault) (tally : Tally) (r : Refusal) → texts.PrintsValue m (view c.value) text (Err fault) → r.error ≡ refusal (kind_of_fault fault) → r.key ≡ key_of_fault fault → PrintsValue m counts c tally tally (Err r)
  untold text (faults.ReservedKey path) tally r there is key = inl ((is, (path, there, key)), refl)
  untold text faults.Damaged tally r there is key = absurd there
  untold text faults.Memory tally r there is key = inr (inl (is, refl))

  -- one that isn't counted
  pub told : (text : List ℕ) (before after : Tally) (r : Result (Unit {0}) Refusal) → counts ≡ false → IsTextOf m (view c.value) text → PrintsLine text before after r → PrintsValue m counts c before after r
  told text before after (Ok x) bare is passed = (line text, passed, (text, is, rw bare refl))
  told text before after (Err e) bare is failed = inr (inr failed)

  -- one that is
  pub told_counted : (text digits : List ℕ) (before after : Tally) (r : Result (Unit {0}) Refusal) → counts ≡ true → IsTextOf m (view c.value) text → digits ≡ decimal c.documents → PrintsLine (counted_text text digits) before after r
      → PrintsValue m counts c before after r
  told_counted text digits before after (Ok x) full is same passed = (line (counted_text text digits), passed, (text, is, rw (full, same) refl))
  told_counted text digits before after (Err e) full is same failed = inr (inr failed)

module _ (m : Mode) (counts : Bool) (cs : List Counted) where
  -- the first ones were printed
  abbrev pub ValuesBefore : ℕ → Tally → Tally → Type 0
  ValuesBefore i a b = (out : List ℕ) × Passed a b out × InParts (IsValueLine m counts) out (take i cs)

  -- and one more
  pub more_values : (i : ℕ) (d x : Counted) (a b c : Tally) → i < length cs → x ≡ get_or cs i d → ValuesBefore i a b → PrintsValue m counts x b c (Ok tt) → ValuesBefore (i + 1) a c
  more_values i d x a b c below is before (part, next, holds) =
      behind (IsValueLine m counts) (take i cs) (take (i + 1) cs) (get_or cs i d) part a b c (longer cs i d below) before next (subst (IsValueLine m counts part) is holds)
