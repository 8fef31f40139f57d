-- Documents that were taken with their ids.
use Rattle.std.proofs.Common.{◌≡◌, inl, inr, ℕ, ◌+◌, List, [], ◌∷◌, ◌++◌, length, None, Some, Option, Ok, Err, refl, sym, ap, subst, ◌∙◌, append_assoc, append-nil, arith}
use Rattle.bson_base.specs.Device.{Feed}
use Rattle.bson_base.specs.Value.{Members}
use Rattle.bson_bytes.specs.Encode.{encode}
use Rattle.cli_convert.specs.Lines.{TakesLines, EndsLines, TakesAll}
use Rattle.cli_convert.specs.Parts.{InParts}
use Rattle.cli_convert.specs.ToBson.{IsWritten, Unwritable}
use Rattle.cli_convert.specs.declared.stop.Stop.{Stop}
use Rattle.cli_convert.specs.declared.stop.Stop.TheVariants as stop
use Rattle.cli_convert.proofs.TakeLemmas.{taken_more}
use Rattle.cli_convert.specs.IdLines.{identified_each, maker_behind, places_behind, HasTaken, EndsReading, ReadsLines, TakesWithId}
use Rattle.cli_convert.specs.Made.{identified}
use Rattle.cli_convert.specs.declared.id_lines.Taking.{Taking}
use Rattle.cli_convert.specs.declared.made.IdMaker.{IdMaker}

-- the documents of the lines after line n were put after those that were there
pub record Added (n : ℕ) (os : List (Option Members)) (x y : Taking) : Type 0 where
  pub bytes : List ℕ
  pub stream : y.taken.stream.items ≡ x.taken.stream.items ++ bytes
  pub documents : InParts IsWritten bytes (identified_each x.maker os)
  pub lines : y.taken.lines.items ≡ x.taken.lines.items ++ places_behind n os
  pub maker : y.maker ≡ maker_behind x.maker os

none_added : (n : ℕ) (x : Taking) → Added n [] x x
none_added n x = record { bytes = []; stream = sym (append-nil x.taken.stream.items); documents = refl; lines = sym (append-nil x.taken.lines.items); maker = refl }

passed_over : (n : ℕ) (os : List (Option Members)) (x y : Taking) → Added (n + 1) os x y → Added n (None ∷ os) x y
passed_over n os x y a = record { bytes = a.bytes; stream = a.stream; documents = ([], a.bytes, refl, refl, a.documents); lines = a.lines; maker = a.maker }

one_added : (n : ℕ) (d : Members) (os : List (Option Members)) (x mid y : Taking) → TakesWithId (n + 1) d x mid (Ok tt) → Added (n + 1) os mid y → Added n (Some d ∷ os) x y
one_added n d os x mid y ((can, stream, lines), maker) a =
    let own = encode (identified x.maker d) in
    record {
      bytes = own ++ a.bytes;
      stream = a.stream ∙ ap (λ l. l ++ a.bytes) stream ∙ append_assoc x.taken.stream.items own a.bytes;
      documents = (own, a.bytes, refl, (can, refl), subst (λ m. InParts IsWritten a.bytes (identified_each m os)) maker a.documents);
      lines = a.lines ∙ ap (λ l. l ++ places_behind (n + 1) os) lines ∙ append_assoc x.taken.lines.items ((n + 1) ∷ []) (places_behind (n + 1) os);
      maker = a.maker ∙ ap (λ m. maker_behind m os) maker;
    }

lines_added : (n : ℕ) (os : List (Option Members)) (x y : Taking) → TakesLines TakesWithId n os x y → Added n os x y
lines_added n [] x y same = subst (λ z. Added n [] x z) (sym same) (none_added n x)
lines_added n (None ∷ os) x y (mid, same, rest) = passed_over n os x y (subst (λ z. Added (n + 1) os z y) same (lines_added (n + 1) os mid y rest))
lines_added n (Some d ∷ os) x y (mid, first, rest) = one_added n d os x mid y first (lines_added (n + 1) os mid y rest)

-- nothing was taken before
abbrev pub IsBegun : IdMaker → Taking → Type 0
IsBegun maker x = (x.taken.stream.items ≡ []) × (x.taken.lines.items ≡ []) × (x.maker ≡ maker)

all_taken : (maker : IdMaker) (os : List (Option Members)) (x y : Taking) → IsBegun maker x → TakesLines TakesWithId 0 os x y → HasTaken os maker y.maker y.taken
all_taken maker os x y (stream, lines, same) took =
    let a = lines_added 0 os x y took in (
      subst (λ bytes. InParts IsWritten bytes (identified_each maker os)) (sym (a.stream ∙ ap (λ l. l ++ a.bytes) stream)) (subst (λ m. InParts IsWritten a.bytes (identified_each m os)) same a.documents),
      a.lines ∙ ap (λ l. l ++ places_behind 0 os) lines,
      a.maker ∙ ap (λ m. maker_behind m os) same,
    )

module _ (maker : IdMaker) (old new : Feed) (x y : Taking) (begun : IsBegun maker x) where
  pub read_so : TakesAll TakesWithId old new x y (Ok tt) → ReadsLines old new maker y.maker (Ok y.taken)
  read_so all =
      let (given, o, took, unbroken, read, taken) = all.end in
      record {
        lines = all.lines;
        read = all.read;
        waiting = all.waiting;
        gives = all.gives;
        end = (given, o, took, unbroken, read, all_taken maker (all.lines ++ o ∷ []) x y begun (taken_more TakesWithId 0 (length all.lines) all.lines o x all.mid y (omega arith) all.taken taken));
      }

  refused_so : (os : List (Option Members)) (e : Stop) (mid : Taking) (read : Feed) (waits : List ℕ) → TakesLines TakesWithId 0 os x mid → EndsLines TakesWithId (length os) read new waits mid y (Err e) → EndsReading os read new waits maker maker (Err e)
  refused_so os (stop.Document i fault) mid read waits took (inl (h, same)) = absurd h
  refused_so os (stop.Document i fault) mid read waits took (inr (text, d, next, reads, h)) = absurd h
  refused_so os (stop.Line i fault) mid read waits took (inl ((at, (text, next, refuses)), same)) = (at, (text, next, inl refuses), refl)
  refused_so os (stop.Line i fault) mid read waits took (inr (text, d, next, reads, (at, bad))) =
      let now = (all_taken maker os x mid begun took).2 in
      (at, (text, next, inr (d, reads, subst (λ m. Unwritable (identified m d) fault) now bad)), refl)
  refused_so os stop.Reader mid read waits took (inl (h, same)) = (h, refl)
  refused_so os stop.Reader mid read waits took (inr (text, d, next, reads, h)) = absurd h
  refused_so os stop.Writer mid read waits took (inl (h, same)) = absurd h
  refused_so os stop.Writer mid read waits took (inr (text, d, next, reads, h)) = absurd h
  refused_so os stop.Memory mid read waits took (inl (h, same)) = (h, refl)
  refused_so os stop.Memory mid read waits took (inr (text, d, next, reads, h)) = (next.1.0, refl)

  pub stopped_so : (e : Stop) → TakesAll TakesWithId old new x y (Err e) → ReadsLines old new maker maker (Err e)
  stopped_so e all = record { lines = all.lines; read = all.read; waiting = all.waiting; gives = all.gives; end = refused_so all.lines e all.mid all.read all.waiting all.taken all.end }
