-- What a question that is put together asks.
use Rattle.std.proofs.Common.{◌≡◌, ℕ, List, [], map, Global, None, refl, sym, subst, rules}
use Rattle.std.specs.Prelude.{Box}
use Rattle.bson_base.specs.Value.{double, scalar}
use Rattle.store_question.specs.Asked.{Asked, exists, has_item, lies, matches, no_asked}
use Rattle.store_question.specs.Reads.{Form, exists_form, item_form, matches_form, form_of, forms_of, Reads, ReadEach}
use Rattle.store_question.specs.declared.question.Comparison.{Comparison}
use Rattle.store_question.specs.declared.question.Comparison.TheVariants.{Equal}
use Rattle.store_question.specs.declared.question.Question.{Question, Exists, Item, Matches, the_lemmas}
use Rattle.regex.specs.Strings.{regex_pattern}
use Rattle.regex.specs.declared.string.regex.Regex.{Regex}
use Rattle.store_question.specs.Patterns.{IsReadFrom}
use Rattle.store_question_read.specs.Outcome.{Asks}
use Rattle.store_question_read.specs.Query.{others_lie}

of_form : (q : Question) (f : Form) (t : Asked) → form_of q ≡ f → Reads f t → Asks q t
of_form q f t e r = subst (λ (g : Form). Reads g t) (sym e) r

pub item_asks : (b : Box Question Global) (t : Asked) → Asks b.value t → Asks (Item b) (has_item t)
item_asks b t r = of_form (Item b) (item_form (form_of b.value)) (has_item t) (search (rules, the_lemmas)) (t, refl, r)

pub search_asks : (b : Box Regex Global) (options source : List ℕ) → IsReadFrom options source (regex_pattern b.value) → Asks (Matches b) (matches options source)
search_asks b options source r = of_form (Matches b) (matches_form (regex_pattern b.value)) (matches options source) (search (rules, the_lemmas)) (options, source, refl, r)

pub exists_asks : Asks Exists exists
exists_asks = of_form Exists exists_form exists (search (rules, the_lemmas)) refl

-- ---- lists

pub none_read : (l : List Question) → l ≡ [] → ReadEach (forms_of (map form_of l)) no_asked
none_read l e = subst (λ (x : List Question). ReadEach (forms_of (map form_of x)) no_asked) (sym e) refl

-- ---- numerals

pub beyond_asks : (c : Comparison) (n : ℕ) (q : Question) → (c ≡ Equal → ⊥) → Asks q (lies c (scalar (double n))) → Asks q (others_lie c n None)
beyond_asks Equal n q never h = absurd (never refl)
beyond_asks c n q never h = h
