-- A line that is read piece by piece.
use Rattle.std.proofs.Common.{arith, ◌≡◌, ◌≢◌, ◌⊎◌, IsTrue, inl, inr, ℕ, ◌+◌, ◌<◌, ◌≤◌, List, [], ◌∷◌, ◌++◌, Bool, true, false, length, refl, ap, sym, ◌∙◌, subst, append_assoc, length-append}
use Rattle.std.proofs.lemmas.Grind.{common_steps}
use Rattle.std.proofs.lemmas.Bool.{false≢true}
use Rattle.std.proofs.lemmas.List.{append-nil}
use Rattle.std.proofs.lemmas.List.Elements.{All-append}
use Rattle.bson_base.specs.Device.{Supply, Gives}
use Rattle.bson_base.proofs.DeviceLemmas.{Gives-trans}
use Rattle.cli_convert.specs.Line.{IsUnbroken, Keeps}
use Rattle.cli_convert.specs.LineReader.{Reads}
use Rattle.cli_convert.specs.declared.line.Line.{Line}
use Rattle.cli_convert.specs.declared.line_reader.Next.TheVariants.{Whole}

-- whether the line has a byte
abbrev pub Begins : Bool → List ℕ → Type 0
Begins true text = 0 < length text
Begins false text = text ≡ []

-- of what waited and was given this text was handed out, in n pieces or more, and the rest waits
abbrev pub Collects : List ℕ → Supply → Supply → List ℕ → Line → Bool → ℕ → Type 0
Collects waited old new waits l begun n =
    (given : List ℕ) × (text : List ℕ) × Gives old new given × IsUnbroken text × Keeps l text × (waited ++ given ≡ text ++ waits) × (n ≤ length text) × Begins begun text

-- the next line was read
abbrev Found : List ℕ → Supply → Supply → List ℕ → Line → Type 0
Found waited old new waits l = (given : List ℕ) × Gives old new given × Reads Whole (waited ++ given) waits new l

-- of what waits this piece was handed out, and this is left
abbrev Piece : List ℕ → List ℕ → Line → Line → Type 0
Piece waits left l m = (piece : List ℕ) × IsUnbroken piece × (waits ≡ piece ++ left) × ((text : List ℕ) → Keeps l text → Keeps m (text ++ piece))

module _ (waited : List ℕ) (old : Supply) where
  pub begin : (l : Line) → Gives old old [] → Keeps l [] → Collects waited old old waited l false 0
  begin l none keeps = ([], [], none, (λ k d h. absurd (omega (arith, h))), keeps, append-nil waited, omega arith, refl)

  pub filled : (mid new : Supply) (waits all : List ℕ) (l : Line) (begun : Bool) (n : ℕ) → Collects waited old mid waits l begun n → (more : List ℕ) × Gives mid new more × (all ≡ waits ++ more) → Collects waited old new all l begun n
  filled mid new waits all l begun n (given, text, gives, unbroken, keeps, whole, many, begins) (more, next, e) =
      (given ++ more, text, Gives-trans old mid new given more gives next, unbroken, keeps, there, many, begins)
    where
      there : waited ++ (given ++ more) ≡ text ++ all
      there = sym (append_assoc waited given more) ∙ ap (λ bs. bs ++ more) whole ∙ append_assoc text waits more ∙ ap (λ bs. text ++ bs) (sym e)

  -- a piece and a line feed are handed out
  pub finished : (new : Supply) (waits left : List ℕ) (l m : Line) (begun : Bool) (n : ℕ) → Collects waited old new waits l begun n → Piece waits (10 ∷ left) l m → Found waited old new left m
  finished new waits left l m begun n (given, text, gives, unbroken, keeps, whole, many, begins) (piece, more, e, takes) =
      (given, gives, (text ++ piece, All-append (λ b. b ≢ 10) text piece unbroken more, takes text keeps, whole ∙ ap (λ bs. text ++ bs) e ∙ sym (append_assoc text piece (10 ∷ left))))

  -- a piece is handed out, which is all that waits
  pub went_on : (new : Supply) (waits left : List ℕ) (l m : Line) (begun : Bool) (n : ℕ) → Collects waited old new waits l begun n → Piece waits left l m → IsTrue false ⊎ (left ≡ []) → 0 < length waits → Collects waited old new left m true (n + 1)
  went_on new waits left l m begun n so_far handed (inl wrong) some = absurd (false≢true wrong)
  went_on new waits left l m begun n (given, text, gives, unbroken, keeps, whole, many, begins) (piece, more, e, takes) (inr none) some =
      let longer : n + 1 ≤ length (text ++ piece) = grind (arith, common_steps, e, none, some, many) in (
        given,
        text ++ piece,
        gives,
        All-append (λ b. b ≢ 10) text piece unbroken more,
        takes text keeps,
        whole ∙ ap (λ bs. text ++ bs) e ∙ sym (append_assoc text piece left),
        longer,
        omega (arith, longer),
      )

  pub endless : (new : Supply) (waits : List ℕ) (l : Line) (begun : Bool) (n m : ℕ) → Collects waited old new waits l begun n → m ≤ n → (given : List ℕ) × Gives old new given × (m ≤ length (waited ++ given))
  endless new waits l begun n m (given, text, gives, unbroken, keeps, whole, many, begins) h = (given, gives, subst (λ bs. m ≤ length bs) (sym whole) (grind (arith, length-append, many, h)))

  -- a read fails: what was given up to there has no line feed
  pub failed : (mid new : Supply) (waits : List ℕ) (l : Line) (begun : Bool) (n : ℕ) → Collects waited old mid waits l begun n → waits ≡ [] → Gives mid new [] → (given : List ℕ) × Gives old new given × IsUnbroken (waited ++ given)
  failed mid new waits l begun n (given, text, gives, unbroken, keeps, whole, many, begins) none more = (given ++ [], Gives-trans old mid new given [] gives more, subst IsUnbroken (sym there) unbroken)
    where
      there : waited ++ (given ++ []) ≡ text
      there = ap (λ bs. waited ++ bs) (append-nil given) ∙ whole ∙ ap (λ bs. text ++ bs) none ∙ append-nil text
