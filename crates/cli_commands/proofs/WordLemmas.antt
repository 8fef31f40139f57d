-- The texts among the words.
use Rattle.std.proofs.Common.{◌≡◌, ◌≢◌, inl, inr, ℕ, suc, ◌<◌, ◌≤◌, List, [], ◌∷◌, length, map, drop, Err, String, Global, string_bytes, refl, sym, ap, ◌∙◌, subst, arith}
use Rattle.serde_json.specs.View.{view as data_of}
use Rattle.serde_json.specs.declared.value.Value.{Value as Json}
use Rattle.bson_base.specs.Value.{Value}
use Rattle.bson_model.specs.declared.extjson.ser.Mode.{Mode}
use Rattle.bson_model.specs.declared.extjson.ser.Mode.TheVariants.{Canonical, Relaxed}
use Rattle.store_model.specs.Filter.{Filter}
use Rattle.store_model.specs.Reading.{Reading, ReadsTree, read_value}
use Rattle.store_model.specs.State.{Call, on, set, unset, get_json}
use Rattle.cli_commands.specs.declared.call.Call.{Call as Asked}
use Rattle.cli_commands.specs.declared.call.Call.TheVariants as words
use Rattle.cli_commands.specs.Filters.{AnswersFilter, IsFilterText}
use Rattle.cli_commands.specs.Texts.{AnswersId, AnswersText}
use Rattle.cli_commands.specs.Words.{Takes, relaxed_word}
use Rattle.cli_commands.specs.declared.lines.UsageError.{UsageError}
use Rattle.cli_commands.specs.declared.word_texts.TextError.TheVariants.{Unreadable}
use Rattle.cli_commands.specs.Commands.{HasId, IsIdText, IsNoFilter, IsNoId, IsNoJson, IsOfFilter, IsOfTree, IsOfId, IsCommandOf, IsUnread, first_key, mode_of}
use Rattle.cli_commands.specs.Execute.{StopsFor}
use Rattle.cli_commands.specs.Requests.{IsTreeText, Stops, text_at}
use Rattle.cli_commands.specs.declared.stop.Failure.{Failure}
use Rattle.cli_commands.specs.declared.stop.Failure.TheVariants.{Words, Refused}

-- ---- so many texts

only_text : (texts : List (List ℕ)) → length texts ≡ 1 → texts ≡ text_at texts 0 ∷ []
only_text [] e = absurd (omega (arith, e))
only_text (x ∷ []) e = refl
only_text (x ∷ y ∷ more) e = absurd (omega (arith, e))

three_texts : (texts : List (List ℕ)) → length texts ≡ 3 → texts ≡ text_at texts 0 ∷ text_at texts 1 ∷ text_at texts 2 ∷ []
three_texts [] e = absurd (omega (arith, e))
three_texts (x ∷ []) e = absurd (omega (arith, e))
three_texts (x ∷ y ∷ []) e = absurd (omega (arith, e))
three_texts (x ∷ y ∷ z ∷ []) e = refl
three_texts (x ∷ y ∷ z ∷ u ∷ more) e = absurd (omega (arith, e))

first_text : (texts : List (List ℕ)) → texts ≢ [] → texts ≡ text_at texts 0 ∷ drop 1 texts
first_text [] some = absurd (some refl)
first_text (x ∷ more) some = refl

second_text : (texts : List (List ℕ)) → length texts ≡ 2 → first_key (drop 1 texts) ≡ text_at texts 1
second_text [] e = absurd (omega (arith, e))
second_text (x ∷ []) e = absurd (omega (arith, e))
second_text (x ∷ y ∷ more) e = refl

pub some_texts : (k : ℕ) (texts : List (List ℕ)) → length texts ≡ suc k → texts ≢ []
some_texts k [] e is = absurd (omega (arith, e))
some_texts k (x ∷ more) e is = cc

pub get_texts : (texts : List (List ℕ)) → Takes words.Get texts → texts ≢ []
get_texts texts (inl one) = some_texts 0 texts one
get_texts texts (inr (id, is)) = λ none. let both : id ∷ relaxed_word ∷ [] ≡ [] = sym is ∙ none in cc

-- the form that two words ask for, or more
pub relaxed : (ws : List (String Global)) → 2 ≤ length ws → Relaxed ≡ mode_of (drop 1 (map string_bytes ws))
relaxed [] e = absurd (omega (arith, e))
relaxed (x ∷ []) e = absurd (omega (arith, e))
relaxed (x ∷ y ∷ more) e = refl

-- or fewer
pub canonical : (ws : List (String Global)) → length ws < 2 → Canonical ≡ mode_of (drop 1 (map string_bytes ws))
canonical [] e = refl
canonical (x ∷ []) e = refl
canonical (x ∷ y ∷ more) e = absurd (omega (arith, e))

-- ---- commands

pub of_tree : (call : Reading → Call) (n : List ℕ) (texts : List (List ℕ)) (json : Json) → length texts ≡ 1 → IsTreeText (text_at texts 0) json → (x : Reading) → ReadsTree (data_of json) x → IsOfTree call n texts (on n (call x))
of_tree call n texts json one tree x reads = (text_at texts 0, data_of json, x, only_text texts one, tree, reads, refl)

pub of_id : (call : Value → List (List ℕ) → Call) (n : List ℕ) (texts : List (List ℕ)) (id : Value) → texts ≢ [] → IsIdText (text_at texts 0) id → IsOfId call n texts (on n (call id (drop 1 texts)))
of_id call n texts id some is = (text_at texts 0, drop 1 texts, id, first_text texts some, is, refl)

pub of_get : (n : List ℕ) (texts : List (List ℕ)) (id : Value) (mode : Mode) → Takes words.Get texts → IsIdText (text_at texts 0) id × (mode ≡ mode_of (drop 1 texts)) → IsCommandOf words.Get n texts (on n (get_json mode id))
of_get n texts id mode takes (is, asked) = (text_at texts 0, drop 1 texts, id, first_text texts (get_texts texts takes), is, ap (λ m. on n (get_json m id)) asked)

pub of_unset : (n : List ℕ) (texts : List (List ℕ)) (id : Value) (key : List ℕ) → length texts ≡ 2 → IsIdText (text_at texts 0) id × (key ≡ text_at texts 1) → IsCommandOf words.Unset n texts (on n (unset id key))
of_unset n texts id key two (is, key_is) = (text_at texts 0, drop 1 texts, id, first_text texts (some_texts 1 texts two), is, ap (λ k. on n (unset id k)) (key_is ∙ sym (second_text texts two)))

pub of_set : (n : List ℕ) (texts : List (List ℕ)) (id : Value) (key : List ℕ) (json : Json) → length texts ≡ 3 → IsIdText (text_at texts 0) id × (key ≡ text_at texts 1) × IsTreeText (text_at texts 2) json
    → IsCommandOf words.Set n texts (on n (set id key (read_value (data_of json))))
of_set n texts id key json three (is, key_is, tree) =
    (text_at texts 0, text_at texts 1, text_at texts 2, id, data_of json, three_texts texts three, is, tree, ap (λ k. on n (set id k (read_value (data_of json)))) key_is)

pub of_filter : (call : Filter → Call) (n : List ℕ) (texts : List (List ℕ)) (f : Filter) → length texts ≡ 1 → IsFilterText (text_at texts 0) f → IsOfFilter call n texts (on n (call f))
of_filter call n texts f one is = (text_at texts 0, f, only_text texts one, is, refl)

-- ---- texts that can't be read

pub no_json : (texts : List (List ℕ)) (text : List ℕ) → text ≡ text_at texts 0 → length texts ≡ 1 → AnswersText text (Err Unreadable) → IsNoJson texts
no_json texts text is one none = ([], text_at texts 0, only_text texts one, subst (λ t. AnswersText t (Err Unreadable)) is none)

-- the last of three
pub no_json_last : (texts : List (List ℕ)) (text : List ℕ) → text ≡ text_at texts 2 → length texts ≡ 3 → AnswersText text (Err Unreadable) → IsNoJson texts
no_json_last texts text is three none = (text_at texts 0 ∷ text_at texts 1 ∷ [], text_at texts 2, three_texts texts three, subst (λ t. AnswersText t (Err Unreadable)) is none)

pub has_id : (texts : List (List ℕ)) (text : List ℕ) (id : Value) → text ≡ text_at texts 0 → texts ≢ [] → IsIdText text id → HasId texts
has_id texts text id is some read = (text_at texts 0, drop 1 texts, id, first_text texts some, subst (λ t. IsIdText t id) is read)

pub no_filter : (texts : List (List ℕ)) (text : List ℕ) → text ≡ text_at texts 0 → length texts ≡ 1 → AnswersFilter text (Err Unreadable) → IsNoFilter texts
no_filter texts text is one none = (text_at texts 0, only_text texts one, subst (λ t. AnswersFilter t (Err Unreadable)) is none)

pub no_id : (texts : List (List ℕ)) (text : List ℕ) → text ≡ text_at texts 0 → texts ≢ [] → AnswersId text (Err Unreadable) → IsNoId texts
no_id texts text is some none = (text_at texts 0, drop 1 texts, first_text texts some, subst (λ t. AnswersId t (Err Unreadable)) is none)

-- a text of the call isn't such
pub stops : (asked call : Asked) (texts : List (List ℕ)) (w : UsageError) (Text : Type 0) (stop : Failure) → asked ≡ call → Takes asked texts → (Takes call texts → texts ≢ []) → (Takes call texts → Text → IsUnread call texts w)
    → StopsFor w Text stop → Stops asked texts stop
stops asked call texts w Text (Words c) is takes some says (same, unread) =
    subst (λ x. IsUnread x texts c) (sym is) (subst (IsUnread call texts) (sym same) (says (subst (λ x. Takes x texts) is takes) unread))
stops asked call texts w Text (Refused e) is takes some says memory = (memory, takes, some (subst (λ x. Takes x texts) is takes))
