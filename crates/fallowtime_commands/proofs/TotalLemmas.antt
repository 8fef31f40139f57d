-- The documents of all collections, counted one collection after the other.
use Rattle.std.proofs.Common.{◌≡◌, ◌≢◌, ◌<◌, ◌≤◌, ◌+◌, inl, inr, ℕ, List, [], ◌∷◌, length, map, take, get_or, true, String, Global, string_bytes, Some, None, Ok, Err, refl, sym, ap, ap₂, subst, ◌∙◌}
use Rattle.std.proofs.lemmas.List.{get_or-map, length-map, take_all}
use Rattle.std.proofs.lemmas.List.Folds.{list_any_at}
use Rattle.std.proofs.lemmas.List.Sums.{sum_by_more}
use Rattle.std.specs.List.{list_any, sum_by}
use Rattle.std.specs.Str.{bytes_eq}
use Rattle.sqlite.specs.State.{State}
use Rattle.bson_base.proofs.MemberLemmas.{same_key}
use Rattle.store_asked.specs.Asking.{AnsweredFrom, AskedFrom}
use Rattle.store_question.specs.Keeps.{Keeps}
use Rattle.store_model.proofs.KeyLemmas.{rows_are_a_state}
use Rattle.store_model.proofs.RowLemmas.{list_of-state_of}
use Rattle.store_model.proofs.UnmovedLemmas.{unmoved}
use Rattle.store_model.specs.Reading.{Documents}
use Rattle.store_model.specs.Refusal.{refusal}
use Rattle.store_model.specs.State.{AreNames, IsName, collections, holds, list_of, names, refused}
use Rattle.store_model.specs.Table.{DocumentTable, Serves, documents_of, state_of}
use Rattle.store_model.specs.declared.error.ErrorKind.TheVariants.{Database}
use Rattle.store_model.specs.declared.error.StoreError.{StoreError}
use Rattle.store_question.specs.Asked.{all_of, no_asked}
use Rattle.store_question.specs.Reads.{Form, Reads}
use Rattle.store_table.specs.Moves.{Moves, WasOpen}
use Rattle.store_table.specs.Rows.{TableRow}
use Rattle.store_table.specs.declared.fault.Fault.TheVariants as faults
use Rattle.bson_store.proofs.ServeLemmas.{denied}
use Rattle.bson_store.specs.Calls.{Does}
use Rattle.bson_store.specs.Refusals.{IsDenied}
use Rattle.bson_store.specs.Shown.{Represents}
use Rattle.fallowtime_commands.specs.Asking.{IsNumberOf, Totals}

-- how many documents a name has
abbrev pub size_of : DocumentTable → List ℕ → ℕ
size_of a n = length (list_of (state_of a) n)

-- these are the names, and those of the first i have k documents; the rows go on to show their table
pub record Summed (ns : List (List ℕ)) (i k : ℕ) (docs after : List TableRow) (a : DocumentTable) : Type 0 where
  pub shown : Represents after a
  pub are : AreNames (state_of a) ns
  pub sum : k ≡ sum_by (size_of a) (take i ns)

abbrev pub Sums : List (List ℕ) → ℕ → ℕ → List TableRow → List TableRow → Type 0
Sums ns i k docs after = (a : DocumentTable) → Represents docs a → Summed ns i k docs after a

-- ---- the names

named : (ns : List (List ℕ)) (docs after : List TableRow) (a b : DocumentTable) → Represents after b → Serves a collections (names ns) b → Summed ns 0 0 docs after a
named ns docs after a b shown (None, turn) =
    let step = turn.0 in
    let is = step.0.2 in
    let these : step.0.0 ≡ ns = cc in
    record {
      shown = subst (Represents after) (unmoved a b turn.1 step.1) shown;
      are = subst (AreNames (state_of a)) these step.0.1;
      sum = refl;
    }
named ns docs after a b shown (Some x, turn) = let is = turn.0.0 in absurd cc

pub none_yet : (ns : List (List ℕ)) (docs after : List TableRow) → Does collections (names ns) docs after → Sums ns 0 0 docs after
none_yet ns docs after does a shown = let d = does a shown in named ns docs after a d.0 d.1 d.2

-- ---- refusals

-- what is denied is denied to `collections`
refused_so : (mid after : List TableRow) (a : DocumentTable) (e : StoreError) → after ≡ mid → Represents mid a → IsDenied e → (b : DocumentTable) × Represents after b × Serves a collections (refused e.kind e.document) b
refused_so mid after a e same shown (x, other, is) = rw (same, is) (denied mid collections x other (λ d. d) a shown)

-- ---- one more

pub keeps_all : (ds kept : Documents) → Keeps (all_of no_asked) ds kept → kept ≡ ds
keeps_all [] kept is = is
keeps_all (d ∷ ds) kept (inl (answers, (rest, is, more))) = is ∙ ap (λ l. d ∷ l) (keeps_all ds rest more)
keeps_all (d ∷ ds) kept (inr (other, more)) = absurd (other tt)

some_there : (ds : Documents) → holds ds ≡ true → ds ≢ []
some_there [] h = cc
some_there (d ∷ ds) h = λ e. cc

-- each is a good name
is_good : (docs : List TableRow) (a : DocumentTable) (ns : List (List ℕ)) (i : ℕ) (n : List ℕ) → Represents docs a → AreNames (state_of a) ns → i < length ns → n ≡ get_or ns i n → IsName n
is_good docs a ns i n shown are low is =
    let among : list_any (bytes_eq n) ns ≡ true = list_any_at (bytes_eq n) ns i n low (ap (bytes_eq n) (sym is) ∙ same_key n) in
    (rows_are_a_state a shown.good).named n (some_there (list_of (state_of a) n) (sym (are.each n) ∙ among))

module _ (ns : List (List ℕ)) (i k : ℕ) (n : List ℕ) (form : Form) (docs mid after : List TableRow) (low : i < length ns) (is : n ≡ get_or ns i n) (reads : Reads form (all_of no_asked)) (sums : Sums ns i k docs mid) where
  pub one_more : (m l : ℕ) → l ≡ k + m → AskedFrom IsNumberOf n form (Ok m) mid after → Sums ns (i + 1) l docs after
  one_more m l adds asked a shown = by (sums a shown) (asked (all_of no_asked) reads)
    where
      by : Summed ns i k docs mid a → AnsweredFrom IsNumberOf n (all_of no_asked) (Ok m) mid after → Summed ns (i + 1) l docs after a
      by s (inl (good, answered)) =
          let t = answered.taken a s.shown in
          let all : m ≡ size_of a n = t.2 ∙ ap length (keeps_all (documents_of a n) t.0 t.1 ∙ sym (list_of-state_of a n)) in
          record {
            shown = subst (λ rows. Represents rows a) (sym answered.same) s.shown;
            are = s.are;
            sum = adds ∙ ap₂ (λ x y. x + y) s.sum (all ∙ ap (size_of a) is) ∙ sym (sum_by_more (size_of a) ns i n low);
          }
      by s (inr (bad, refuses, stays)) = absurd cc

  pub uncounted : (e : StoreError) → AskedFrom IsNumberOf n form (Err e) mid after → Totals (Err e) docs after
  uncounted e asked a shown = by (sums a shown) (asked (all_of no_asked) reads)
    where
      by : Summed ns i k docs mid a → AnsweredFrom IsNumberOf n (all_of no_asked) (Err e) mid after → (b : DocumentTable) × Represents after b × Serves a collections (refused e.kind e.document) b
      by s (inl (good, answered)) = refused_so mid after a e answered.same s.shown (answered.denied a s.shown)
      by s (inr (bad, refuses, stays)) = absurd (bad (is_good mid a ns i n s.shown s.are low is))

-- there are more than can be counted
pub too_many : (ns : List (List ℕ)) (i k : ℕ) (e : StoreError) (docs after : List TableRow) → e ≡ refusal Database → Sums ns i k docs after → Totals (Err e) docs after
too_many ns i k e docs after is sums a shown = refused_so after after a e refl (sums a shown).shown (faults.Database, (λ same. cc), is)

pub counted : (ns : List (List ℕ)) (i k : ℕ) (docs after : List TableRow) → length ns ≤ i → Sums ns i k docs after → Totals (Ok k) docs after
counted ns i k docs after end sums a shown =
    let s = sums a shown in
    (s.shown, (ns, s.are, s.sum ∙ ap (sum_by (size_of a)) (take_all i ns end)))

-- ---- the connection

-- what was done on an open connection, and then one more thing
pub opened_then : (s m t : State) (P Q : List TableRow → List TableRow → Type 0) (k l n : ℕ) → Moves s m P → Moves m t Q → WasOpen {E = StoreError} s m (Ok k) → WasOpen {E = StoreError} m t (Ok n) → WasOpen {E = StoreError} s t (Ok l)
opened_then s m t P Q k l n first second was now clean docs stands =
    let early = (second clean).0 in
    let y = (first early).1 docs stands in
    ((was early docs stands).0, (now clean y.0 y.1).1)

-- ---- an item of the names

pub at_name : (all : List (String Global)) (i : ℕ) (d : String Global) (n : List ℕ) → i < length all → n ≡ string_bytes (get_or all i d) → (i < length (map string_bytes all)) × (n ≡ get_or (map string_bytes all) i n)
at_name all i d n low is = (subst (λ k. i < k) (sym (length-map all string_bytes)) low, is ∙ sym (get_or-map string_bytes all i d n low))
