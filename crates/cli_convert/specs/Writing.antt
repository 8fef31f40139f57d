-- What a writer to a terminal has taken and not given yet.
use Rattle.std.specs.Prelude.{◌≡◌, ℕ, List, [], ◌∷◌, ◌++◌, Bool, true, false, cond, slice_range, Option, None, ⊤}
use Rattle.std.specs.Io.KnownBytes.{Appends, Keeps, append_known}
use Rattle.cli_convert.specs.Terminal.{at_terminal}
use Rattle.cli_convert.specs.declared.waiting.Waiting.{Waiting}
use Rattle.cli_convert.specs.declared.writer.TerminalWriter.{TerminalWriter}
use Rattle.cli_convert.specs.declared.output.Output.{Output}
use Rattle.cli_convert.specs.declared.output.Output.TheVariants.{Terminal, Other}

-- bytes that the inner writer is given next
abbrev pub text : Waiting → List ℕ
text w = slice_range w.bytes w.start 7

-- a byte C2, which may be the first one of a character, or none
abbrev pub begun : Bool → List ℕ
begun is_begun = cond is_begun (194 ∷ []) []

-- what waits in an output was given
abbrev pub IsGiven : {W : Type 0} → Output W → Type 0
IsGiven (Terminal w) = text w.waiting ≡ []
IsGiven (Other w) = ⊤

module _ {W : Type 0} (contents : W → Option (List ℕ)) where
  -- what the inner writer holds once `rest` is written too, and all is given
  abbrev pub given_in_the_end : TerminalWriter W → List ℕ → Option (List ℕ)
  given_in_the_end w rest = append_known (contents w.inner) (text w.waiting ++ at_terminal (begun w.is_begun ++ rest))

  -- the writer took these bytes
  abbrev pub Takes : TerminalWriter W → TerminalWriter W → List ℕ → Type 0
  Takes old new bytes = (rest : List ℕ) → Keeps (given_in_the_end old (bytes ++ rest)) (given_in_the_end new rest)

  -- an output to which nothing was written: a terminal's, or another's, over a writer that is known to hold `known`
  abbrev pub Begins : Output W → Bool → Option (List ℕ) → Type 0
  Begins (Terminal w) is_terminal known = (is_terminal ≡ true) × ((rest : List ℕ) → given_in_the_end w rest ≡ append_known known (at_terminal rest))
  Begins (Other w) is_terminal known = (is_terminal ≡ false) × (contents w ≡ known)

  -- the bytes that were written to an output, where they are known: what a terminal holds doesn't tell them
  abbrev pub output_contents : Output W → Option (List ℕ)
  output_contents (Terminal w) = None
  output_contents (Other w) = contents w

  -- the output took these bytes, and stays what it is: a terminal, or something else
  abbrev pub OutputTakes : Output W → Output W → List ℕ → Type 0
  OutputTakes (Terminal old) (Terminal new) bytes = Takes old new bytes
  OutputTakes (Other old) (Other new) bytes = Appends (contents old) (contents new) bytes
  OutputTakes _ _ bytes = ⊥
