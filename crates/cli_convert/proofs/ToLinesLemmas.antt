-- Documents that become lines, one after the other.
use Rattle.std.proofs.Common.{◌≡◌, ℕ, ◌+◌, ◌-◌, ◌<◌, ◌^◌, List, [], ◌∷◌, ◌++◌, length, true, false, drop, Ok, Err, refl, sym, ap, subst, ◌∙◌}
use Rattle.std.proofs.lemmas.List.{length-append}
use Rattle.bson_base.specs.Device.{Feed, Tally, Took, CanFail, CanRefuse}
use Rattle.bson_base.specs.Value.{Members, document}
use Rattle.bson_bytes.specs.Spells.{SpellsMembers}
use Rattle.bson_frame.specs.Payload.{IsEnvelope}
use Rattle.bson_json.specs.Prints.{IsTextOf}
use Rattle.bson_json.specs.Settling.{SpellsSettled}
use Rattle.bson_meaning.specs.JsonReserved.{has_reserved}
use Rattle.bson_model.specs.declared.extjson.ser.Mode.{Mode}
use Rattle.bson_raw.specs.Input.{AreDeclared}
use Rattle.cli_convert.specs.Reports.{SendsWhole}
use Rattle.cli_convert.specs.ToLines.{EndsLines, IsFree, IsFreeLine, IsFreeText, IsLineOf, Wrote, TurnsLine}
use Rattle.cli_convert.specs.declared.stop.Stop.{Stop}
use Rattle.cli_convert.specs.declared.stop.Stop.TheVariants as stop
use Rattle.cli_convert.proofs.PartLemmas.{one_part, more_parts, took_both, passed_both, took_none, passed_none}

module _ (m : Mode) (n : ℕ) (old new : Feed) (before : Tally) (bytes : List ℕ) (took : Took old new bytes) (declares : AreDeclared bytes) where
  -- one document that became a line
  pub line_sent : (line : List ℕ) (after : Tally) → IsFreeLine m bytes line → SendsWhole line before after (Ok tt) → TurnsLine m n old new before after (Ok true)
  line_sent line after (d, means, free, is) passed = (
    d,
    record {
      bytes = bytes;
      took = took;
      documents = one_part IsFree bytes d ((declares, means), free);
      sent = line;
      passed = passed;
      lines = one_part (IsLineOf m) line d is;
    },
  )

  -- one whose line was refused by the sink
  pub line_unsent : (line : List ℕ) (after : Tally) (e : Stop) → IsFreeLine m bytes line → SendsWhole line before after (Err e) → EndsLines m n old new before after (Err e)
  line_unsent line after (stop.Document i fault) h sends = absurd sends
  line_unsent line after (stop.Line i fault) h sends = absurd sends
  line_unsent line after stop.Reader h sends = absurd sends
  line_unsent line after stop.Writer (d, means, free, is) (failed, begun) = (bytes, line, d, took, ((declares, means), free), is, failed, begun)
  line_unsent line after stop.Memory h sends = absurd sends

-- bytes that spell a document of which nothing is to be settled, and its text
pub straight : (m : Mode) (bytes text : List ℕ) → IsEnvelope bytes → SpellsSettled (drop 4 bytes)
    → ((ms : Members) → SpellsMembers (drop 4 bytes) ms → (has_reserved ms ≡ false) × IsTextOf m (document ms) text) → IsFreeText m bytes text
straight m bytes text whole (ms, spells, settled) written =
    let (free, is) = written ms spells in
    (ms, (ms, whole, spells, sym settled), free, is)

-- the text with a line feed is a line
pub line_of : (m : Mode) (bytes text line : List ℕ) → IsFreeText m bytes text → line ≡ text ++ 10 ∷ [] → IsFreeLine m bytes line
line_of m bytes text line (d, means, free, is) fed = (d, means, free, (text, is, fed))

pub none_written : (m : Mode) (feed : Feed) (tally : Tally) → Wrote m [] feed feed tally tally
none_written m feed tally = record { bytes = []; took = took_none feed; documents = refl; sent = []; passed = passed_none tally; lines = refl }

pub more_written : (m : Mode) (ds es : List Members) (old mid new : Feed) (before sent after : Tally) → Wrote m ds old mid before sent → Wrote m es mid new sent after → Wrote m (ds ++ es) old new before after
more_written m ds es old mid new before sent after a b = record {
  bytes = a.bytes ++ b.bytes;
  took = took_both old mid new a.bytes b.bytes a.took b.took;
  documents = more_parts IsFree a.bytes ds b.bytes es a.documents b.documents;
  sent = a.sent ++ b.sent;
  passed = passed_both before sent after a.sent b.sent a.passed b.passed;
  lines = more_parts (IsLineOf m) a.sent ds b.sent es a.lines b.lines;
}

-- n documents so far
pub record SoFar (m : Mode) (n : ℕ) (old new : Feed) (before after : Tally) : Type 0 where
  pub documents : List Members
  pub wrote : Wrote m documents old new before after
  pub count : length documents ≡ n

pub begun : (m : Mode) (feed : Feed) (tally : Tally) → SoFar m 0 feed feed tally tally
begun m feed tally = record { documents = []; wrote = none_written m feed tally; count = refl }

pub went_on : (m : Mode) (n : ℕ) (old mid new : Feed) (before sent after : Tally) → SoFar m n old mid before sent → TurnsLine m n mid new sent after (Ok true) → SoFar m (n + 1) old new before after
went_on m n old mid new before sent after s (d, w) = record {
  documents = s.documents ++ d ∷ [];
  wrote = more_written m s.documents (d ∷ []) old mid new before sent after s.wrote w;
  count = length-append s.documents (d ∷ []) ∙ ap (λ k. k + 1) s.count;
}

-- one more call of each device can fail
pub can_go_on : (m : Mode) (n : ℕ) (old new : Feed) (before after : Tally) → TurnsLine m n old new before after (Ok true) → CanFail old → CanRefuse before → CanFail new × CanRefuse after
can_go_on m n old new before after (d, w) can may = (subst (λ k. k < 2 ^ 64 - 1) (sym w.took.0) can, subst (λ k. k < 2 ^ 64 - 1) (sym w.passed.0) may)
