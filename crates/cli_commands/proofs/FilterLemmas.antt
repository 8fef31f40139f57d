-- Arrays of texts and of filters.
use Rattle.std.proofs.Common.{◌≡◌, ℕ, List, [], ◌∷◌, ◌++◌, Err, map, ap, ◌∙◌, sym, subst}
use Rattle.std.proofs.lemmas.List.{append-nil}
use Rattle.serde_json.specs.Data.{Data, string, array, item, no_items}
use Rattle.serde_json.specs.View.{view as data_of, items_of, items_view}
use Rattle.serde_json.specs.declared.value.Value.{Value as Json}
use Rattle.store_model.specs.Filter.{Filter, Filters, no_filters, filter, Path}
use Rattle.store_question.specs.Filters.{filter_of, tests_of}
use Rattle.store_question.specs.declared.filter.Filter.{Filter as Test}
use Rattle.cli_commands.specs.Filters.{IsFilter, AreFilters, AnswersTree, AnswersTrees}
use Rattle.cli_commands.specs.declared.word_texts.TextError.{TextError}
use Rattle.cli_commands.specs.declared.word_texts.TextError.TheVariants.{Unreadable, Memory}

-- ---- arrays of texts

-- an item that is no text is in no path
pub no_key_among : (done : List Json) (x : Json) (left : List Json) (path : Path) → ((text : List ℕ) → data_of x ≡ string text → ⊥) → items_view (done ++ x ∷ left) ≡ items_of (map string path) → ⊥
no_key_among [] x left [] h e = cc
no_key_among [] x left (k ∷ ks) h e = h k cc
no_key_among (y ∷ done) x left [] h e = cc
no_key_among (y ∷ done) x left (k ∷ ks) h e = no_key_among done x left ks h cc

-- one key more
pub one_more : (done : List Json) (x : Json) (found : List (List ℕ)) (text : List ℕ) → items_view done ≡ items_of (map string found) → data_of x ≡ string text → items_view (done ++ x ∷ []) ≡ items_of (map string (found ++ text ∷ []))
one_more [] x [] text e is = ap (λ d. item d no_items) is
one_more [] x (k ∷ ks) text e is = absurd cc
one_more (y ∷ done) x [] text e is = absurd cc
one_more (y ∷ done) x (k ∷ ks) text e is =
    let first : data_of y ≡ string k = cc in
    let rest : items_view done ≡ items_of (map string ks) = cc in
    ap (λ d. item d (items_view (done ++ x ∷ []))) first ∙ ap (item (string k)) (one_more done x ks text rest is)

-- ---- arrays of filters

-- an item that is no filter is in no array of filters
none_among : (done : List Json) (x : Json) (left : List Json) (fs : Filters) → ((f : Filter) → IsFilter (data_of x) f → ⊥) → AreFilters (items_view (done ++ x ∷ left)) fs → ⊥
none_among [] x left no_filters none h = h
none_among [] x left (filter f fs) none h = none f h.0
none_among (y ∷ done) x left no_filters none h = h
none_among (y ∷ done) x left (filter f fs) none h = none_among done x left fs none h.1

pub no_filters_of : (tree : Data) (done : List Json) (x : Json) (left : List Json) (e : TextError) → tree ≡ array (items_view (done ++ x ∷ left)) → AnswersTree (data_of x) (Err e) → AnswersTrees tree (Err e)
no_filters_of tree done x left Unreadable whole none = λ js fs is are. let same : js ≡ items_view (done ++ x ∷ left) = let e = sym is ∙ whole in cc in none_among done x left fs none (subst (λ items. AreFilters items fs) same are)
no_filters_of tree done x left Memory whole none = tt

-- one filter more
pub one_filter : (done : List Json) (x : Json) (fs : List Test) (f : Test) → AreFilters (items_view done) (tests_of (map filter_of fs)) → IsFilter (data_of x) (filter_of f) → AreFilters (items_view (done ++ x ∷ [])) (tests_of (map filter_of (fs ++ f ∷ [])))
one_filter [] x [] f h is = (is, tt)
one_filter [] x (g ∷ fs) f h is = absurd h
one_filter (y ∷ done) x [] f h is = absurd h
one_filter (y ∷ done) x (g ∷ fs) f h is = (h.0, one_filter done x fs f h.1 is)
