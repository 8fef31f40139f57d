-- A line that is answered.
use Rattle.std.proofs.Common.{arith, ◌≡◌, ◌≢◌, ◌<◌, ◌≤◌, ℕ, List, [], ◌∷◌, ◌++◌, None, Some, ap, codes, inl, inr, length, refl, subst, sym, ◌∙◌}
use Rattle.sqlite.specs.State.{State}
use Rattle.json.specs.Print.{escape_byte, print_from}
use Rattle.cli_convert.specs.Line.{Keeps, KeepsSo}
use Rattle.cli_convert.specs.declared.line.Kept.{Kept}
use Rattle.cli_convert.specs.declared.line.Kept.TheVariants.{Memory, TooLong, Whole}
use Rattle.cli_convert.specs.declared.line.Line.{Line}
use Rattle.cli_convert.specs.declared.made.IdMaker.{IdMaker}
use Rattle.fallowtime_commands.specs.Answers.{line_of, memory}
use Rattle.fallowtime_commands.specs.Acts.{DoesOne}
use Rattle.fallowtime_commands.specs.Turns.{AnswersLine, Comes, IsEmptyLine, IsOf, IsOfBytes, Outcome, empty, too_long, no_tree, no_question, no_list, done, done_all, no_memory}
use Rattle.fallowtime_commands.proofs.AnswerLemmas.{idle, so}

-- a line with a byte has one, whatever is kept of it
some_byte : (l : Line) (text : List ℕ) → ((l.kept ≡ Whole) × IsEmptyLine l.bytes.items → ⊥) → Keeps l text → text ≢ []
some_byte l text some keeps none = by l.kept refl keeps
  where
    by : (k : Kept) → l.kept ≡ k → KeepsSo k l.bytes.items text → ⊥
    by Whole is kept = some (is, inl (kept.0 ∙ none))
    by TooLong is long = omega (arith, long, ap length none)
    by Memory is long = omega (arith, long, ap length none)

-- a line that is read is empty only if it is kept so
some_text : (l : Line) (text : List ℕ) → ((l.kept ≡ Whole) × IsEmptyLine l.bytes.items → ⊥) → (l.kept ≡ Memory → ⊥) → Keeps l text → ¬ IsEmptyLine text
some_text l text some room keeps none = by l.kept refl keeps
  where
    short : length text ≤ 1
    short = elim none [ inl e ↦ omega (arith, ap length e) | inr e ↦ omega (arith, ap length e) ]

    by : (k : Kept) → l.kept ≡ k → KeepsSo k l.bytes.items text → ⊥
    by Whole is kept = some (is, subst IsEmptyLine (sym kept.0) none)
    by TooLong is long = let longer : 67108864 < length text = long in omega (arith, longer, short)
    by Memory is long = room is

pub line_answered : (s t : State) (m n : IdMaker) (l : Line) (text line : List ℕ) → ((l.kept ≡ Whole) × IsEmptyLine l.bytes.items → ⊥) → (l.kept ≡ Memory → ⊥) → Keeps l text
    → DoesOne (Comes (IsOfBytes m n text) line) s t → DoesOne (AnswersLine m n text line) s t
line_answered s t m n l text line some room keeps h = so s t (Comes (IsOfBytes m n text) line) (AnswersLine m n text line) (λ act (o, is, writes, e). (o, by o is, writes, e)) h
  where
    has : ¬ IsEmptyLine text
    has = some_text l text some room keeps

    by : (o : Outcome) → IsOfBytes m n text o → IsOf m n text o
    by empty is = absurd is.1.2
    by too_long is = (has, is)
    by (no_tree id place) is = (has, is)
    by (no_question id place) is = (has, is)
    by (no_list id i place) is = (has, is)
    by (done id layout d) is = (has, is)
    by (done_all id qs r) is = (has, is)
    by (no_memory None) is = (some_byte l text some keeps, is)
    by (no_memory (Some i)) is = (has, is)

-- a line for which there was no memory
pub unkept_line : (s : State) (m : IdMaker) (l : Line) (text : List ℕ) → l.kept ≡ Memory → Keeps l text → DoesOne (AnswersLine m m text (line_of None memory)) s s
unkept_line s m l text is keeps =
    let long : 0 < length text = subst (λ k. KeepsSo k l.bytes.items text) is keeps in
    idle s (AnswersLine m m text (line_of None memory)) (no_memory None, (λ none. omega (arith, long, ap length none), refl), refl, refl)

-- an empty line is passed over
pub skipped : (s : State) (m : IdMaker) (l : Line) (text : List ℕ) → l.kept ≡ Whole → IsEmptyLine l.bytes.items → Keeps l text → DoesOne (AnswersLine m m text []) s s
skipped s m l text whole none keeps =
    let kept = subst (λ k. KeepsSo k l.bytes.items text) whole keeps in
    idle s (AnswersLine m m text []) (empty, (subst IsEmptyLine kept.0 none, refl), refl, refl)

-- the line for out of memory, when there is none for its id either
pub memory_line : codes "{\"error\":\"Memory\"}" ++ 10 ∷ [] ≡ line_of None memory
unfolding print_from escape_byte
memory_line = refl
