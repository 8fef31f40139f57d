-- Lines whose documents are taken, one after the other.
use Rattle.std.proofs.Common.{◌≡◌, inl, inr, ℕ, ◌+◌, ◌<◌, ◌^◌, ◌-◌, List, [], ◌∷◌, ◌++◌, length, true, Some, Option, Result, Ok, Err, refl, sym, ap, subst, ◌∙◌, append_assoc, arith}
use Rattle.std.specs.Prelude.{IsUtf8}
use Rattle.std.proofs.lemmas.List.{length-append, append-nil}
use Rattle.bson_base.specs.Device.{Feed, CanFail}
use Rattle.bson_base.specs.Value.{Members}
use Rattle.bson_json_read.specs.Reading.{ReadsText}
use Rattle.bson_model.specs.View.{content}
use Rattle.bson_model.specs.declared.document.Document.{Document}
use Rattle.cli_convert.specs.Line.{Keeps}
use Rattle.cli_convert.specs.LineReader.{waiting, ReadsNext}
use Rattle.cli_convert.specs.declared.line.Line.{Line}
use Rattle.cli_convert.specs.declared.line_reader.Lines.{Lines}
use Rattle.cli_convert.specs.declared.line_reader.Next.TheVariants.{Whole}
use Rattle.cli_convert.specs.Lines.{Reads, IsLine, GivesLines, TakesLine, TakesLines, EndsLines, TakesAll, TakesText, TakesNext}
use Rattle.cli_convert.specs.declared.stop.Stop.{Stop}
use Rattle.cli_convert.specs.declared.stop.Stop.TheVariants as stop
use Rattle.cli_convert.proofs.PartLemmas.{one_part, more_parts, took_both, took_none}

-- ---- lines after lines

pub text_read : (text : List ℕ) (d : Document) → 0 < length text → IsUtf8 text → ReadsText text (Ok d) → Reads text (content d)
text_read text d some utf8 read = (some, utf8, (d, refl, read))

pub none_given : (feed : Feed) (held : List ℕ) → GivesLines [] feed feed held held
none_given feed held = record { given = []; took = took_none feed; bytes = []; whole = append-nil held; lines = refl }

rejoined : (held g h b c w v : List ℕ) → held ++ g ≡ b ++ w → w ++ h ≡ c ++ v → held ++ (g ++ h) ≡ (b ++ c) ++ v
rejoined held g h b c w v first second =
    sym (append_assoc held g h) ∙ ap (λ l. l ++ h) first ∙ append_assoc b w h ∙ ap (λ l. b ++ l) second ∙ sym (append_assoc b c v)

pub more_given : (os ps : List (Option Members)) (old mid new : Feed) (held waits left : List ℕ) → GivesLines os old mid held waits → GivesLines ps mid new waits left → GivesLines (os ++ ps) old new held left
more_given os ps old mid new held waits left a b = record {
  given = a.given ++ b.given;
  took = took_both old mid new a.given b.given a.took b.took;
  bytes = a.bytes ++ b.bytes;
  whole = rejoined held a.given b.given a.bytes b.bytes waits left a.whole b.whole;
  lines = more_parts IsLine a.bytes os b.bytes ps a.lines b.lines;
}

-- one more call of the source can fail
pub can_go_on : (o : Option Members) (old new : Feed) (held left : List ℕ) → GivesLines (o ∷ []) old new held left → CanFail old → CanFail new
can_go_on o old new held left h can = subst (λ k. k < 2 ^ 64 - 1) (sym h.took.0) can

module _ {S : Type 0} (Takes : ℕ → Members → S → S → Result (Unit {0}) Stop → Type 0) where
  -- ---- one line

  pub document_taken : (n : ℕ) (text : List ℕ) (d : Members) (s t : S) (r : Result (Unit {0}) Stop) → Reads text d → Takes n d s t r → TakesText Takes n text s t r
  document_taken n text d s t (Ok x) read taken = (Some d, read, taken)
  document_taken n text d s t (Err e) read taken = inr (d, read, taken)

  module _ (before after : Lines) (old new : Feed) (l : Line) (n : ℕ) (s t : S) where
    pub whole_taken : ReadsNext (Ok Whole) before after old new l → ((text : List ℕ) → Keeps l text → TakesText Takes (n + 1) text s t (Ok tt)) → TakesNext Takes n old new (waiting before) (waiting after) s t (Ok true)
    whole_taken (fine, (given, gives, (text, unbroken, keeps, is))) takes =
        let (o, read, taken) = takes text keeps in (
          o,
          record {
            given = given;
            took = (fine, gives);
            bytes = text ++ 10 ∷ [];
            whole = is ∙ sym (append_assoc text (10 ∷ []) (waiting after));
            lines = one_part IsLine (text ++ 10 ∷ []) o (text, refl, unbroken, read);
          },
          taken,
        )

  -- ---- all of them

  pub taken_more : (k n : ℕ) (os : List (Option Members)) (o : Option Members) (s m t : S) → k + length os ≡ n → TakesLines Takes k os s m → TakesLine Takes (n + 1) o m t → TakesLines Takes k (os ++ o ∷ []) s t
  taken_more k n [] o s m t count same last =
      let here : k ≡ n = omega (arith, count) in
      (t, subst (λ i. TakesLine Takes (i + 1) o s t) (sym here) (subst (λ x. TakesLine Takes (n + 1) o x t) same last), refl)
  taken_more k n (p ∷ os) o s m t count (mid, first, rest) last = (mid, first, taken_more (k + 1) n os o mid m t (omega (arith, count)) rest last)

  -- n lines so far
  pub record SoFar (n : ℕ) (old new : Feed) (waits : List ℕ) (before after : S) : Type 0 where
    pub lines : List (Option Members)
    pub gives : GivesLines lines old new [] waits
    pub taken : TakesLines Takes 0 lines before after
    pub count : length lines ≡ n

  pub begun : (feed : Feed) (s : S) (waits : List ℕ) → waits ≡ [] → SoFar 0 feed feed waits s s
  begun feed s waits e = record { lines = []; gives = subst (λ w. GivesLines [] feed feed [] w) (sym e) (none_given feed []); taken = refl; count = refl }

  pub went_on : (n : ℕ) (old mid new : Feed) (waits left : List ℕ) (before now after : S) → SoFar n old mid waits before now → TakesNext Takes n mid new waits left now after (Ok true) → SoFar (n + 1) old new left before after
  went_on n old mid new waits left before now after so (o, gives, taken) = record {
    lines = so.lines ++ o ∷ [];
    gives = more_given so.lines (o ∷ []) old mid new [] waits left so.gives gives;
    taken = taken_more 0 n so.lines o before now after (omega (arith, so.count)) so.taken taken;
    count = length-append so.lines (o ∷ []) ∙ ap (λ k. k + 1) so.count;
  }

  pub ended : (n : ℕ) (old mid new : Feed) (waits : List ℕ) (before now after : S) (r : Result (Unit {0}) Stop) → SoFar n old mid waits before now → EndsLines Takes n mid new waits now after r → TakesAll Takes old new before after r
  ended n old mid new waits before now after r so h = record {
    lines = so.lines;
    read = mid;
    waiting = waits;
    mid = now;
    gives = so.gives;
    taken = so.taken;
    end = subst (λ k. EndsLines Takes k mid new waits now after r) (sym so.count) h;
  }

  pub nothing_read : (feed : Feed) (s : S) → TakesAll Takes feed feed s s (Err stop.Memory)
  nothing_read feed s = ended 0 feed feed feed [] s s s (Err stop.Memory) (begun feed s [] refl) (inl (refl, refl))
