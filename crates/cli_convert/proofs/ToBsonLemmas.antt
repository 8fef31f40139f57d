-- Lines whose documents were written to a sink.
use Rattle.std.proofs.Common.{◌≡◌, inl, inr, ℕ, ◌+◌, List, [], ◌∷◌, ◌++◌, length, None, Some, Option, Result, Ok, Err, refl, sym, ap, subst}
use Rattle.bson_base.specs.Device.{Feed, Tally}
use Rattle.bson_base.specs.Value.{Members}
use Rattle.bson_bytes.specs.Encode.{encode}
use Rattle.cli_convert.specs.Lines.{TakesLine, TakesLines, EndsLines, TakesAll}
use Rattle.cli_convert.specs.Parts.{Passed}
use Rattle.cli_convert.specs.ToBson.{IsWritten, Sent, EndsDocuments, EndsBehind, TakesNothing, TakesSpoil, SendsOut}
use Rattle.cli_convert.specs.declared.stop.Stop.{Stop}
use Rattle.cli_convert.specs.declared.stop.Stop.TheVariants as stop
use Rattle.cli_convert.proofs.PartLemmas.{one_part, more_parts, passed_both, passed_none}

module _ {O : Type 0} (tally : O → Tally) where
  abbrev pub Sends : ℕ → Members → O → O → Result (Unit {0}) Stop → Type 0
  Sends n d before after r = SendsOut n d (tally before) (tally after) r

  passed_same : (x y : O) → y ≡ x → Passed (tally x) (tally y) []
  passed_same x y same = subst (λ z. Passed (tally x) (tally z) []) (sym same) (passed_none (tally x))

  line_sent : (n : ℕ) (o : Option Members) (x y : O) → TakesLine Sends n o x y → Sent (o ∷ []) (tally x) (tally y)
  line_sent n None x y same = ([], passed_same x y same, one_part IsWritten [] None refl)
  line_sent n (Some d) x y (can, passed) = (encode d, passed, one_part IsWritten (encode d) (Some d) (can, refl))

  lines_sent : (n : ℕ) (os : List (Option Members)) (x y : O) → TakesLines Sends n os x y → Sent os (tally x) (tally y)
  lines_sent n [] x y same = ([], passed_same x y same, refl)
  lines_sent n (o ∷ os) x y (mid, first, rest) =
      let (bytes, passed, parts) = line_sent (n + 1) o x mid first in
      let (more, passed_more, others) = lines_sent (n + 1) os mid y rest in
      (bytes ++ more, passed_both (tally x) (tally mid) (tally y) bytes more passed passed_more, more_parts IsWritten bytes (o ∷ []) more os parts others)

  end_sent : (n : ℕ) (old new : Feed) (waits : List ℕ) (x y : O) (r : Result (Unit {0}) Stop) → EndsLines Sends n old new waits x y r → EndsDocuments TakesNothing n old new waits (tally x) (tally y) r
  end_sent n old new waits x y (Ok u) (given, o, took, unbroken, read, taken) = (given, o, took, unbroken, read, line_sent (n + 1) o x y taken)
  end_sent n old new waits x y (Err (stop.Document i fault)) (inl (h, same)) = absurd h
  end_sent n old new waits x y (Err (stop.Document i fault)) (inr (text, d, next, read, h)) = absurd h
  end_sent n old new waits x y (Err (stop.Line i fault)) (inl ((at, (text, next, refuses)), same)) = (at, (text, next, inl refuses), ap tally same)
  end_sent n old new waits x y (Err (stop.Line i fault)) (inr (text, d, next, read, (at, bad, same))) = (at, (text, next, inr (d, read, bad)), same)
  end_sent n old new waits x y (Err stop.Reader) (inl (h, same)) = (h, ap tally same)
  end_sent n old new waits x y (Err stop.Reader) (inr (text, d, next, read, h)) = absurd h
  end_sent n old new waits x y (Err stop.Writer) (inl (h, same)) = absurd h
  end_sent n old new waits x y (Err stop.Writer) (inr (text, d, next, read, (can, failed, begun))) = (text, d, next, read, can, failed, begun)
  end_sent n old new waits x y (Err stop.Memory) (inl (h, same)) = (h, ap tally same)
  end_sent n old new waits x y (Err stop.Memory) (inr (text, d, next, read, same)) = (next.1.0, same)

  pub all_sent : (old new : Feed) (x y : O) (r : Result (Unit {0}) Stop) → TakesAll Sends old new x y r → EndsBehind TakesNothing old new (tally x) (tally y) r
  all_sent old new x y r all = record {
    lines = all.lines;
    read = all.read;
    waiting = all.waiting;
    written = tally all.mid;
    gives = all.gives;
    sent = lines_sent 0 all.lines x all.mid all.taken;
    end = end_sent (length all.lines) all.read new all.waiting all.mid y r all.end;
  }

-- ---- what the sink takes after them

module _ (old new : Feed) (before mid : Tally) where
  pub still_well : EndsBehind TakesNothing old new before mid (Ok tt) → EndsBehind TakesSpoil old new before mid (Ok tt)
  still_well all = record { lines = all.lines; read = all.read; waiting = all.waiting; written = all.written; gives = all.gives; sent = all.sent; end = all.end }

  pub still_refused : EndsBehind TakesNothing old new before mid (Err stop.Writer) → EndsBehind TakesSpoil old new before mid (Err stop.Writer)
  still_refused all = record { lines = all.lines; read = all.read; waiting = all.waiting; written = all.written; gives = all.gives; sent = all.sent; end = all.end }

  module _ (after : Tally) (spoils : TakesSpoil mid after) where
    behind_all : (n : ℕ) (read : Feed) (waits : List ℕ) (written : Tally) (e : Stop) → (e ≡ stop.Writer → ⊥) → EndsDocuments TakesNothing n read new waits written mid (Err e) → EndsDocuments TakesSpoil n read new waits written after (Err e)
    behind_all n read waits written (stop.Document i fault) other h = absurd h
    behind_all n read waits written (stop.Line i fault) other (at, refused, same) = (at, refused, subst (λ t. TakesSpoil t after) same spoils)
    behind_all n read waits written stop.Reader other (stops, same) = (stops, subst (λ t. TakesSpoil t after) same spoils)
    behind_all n read waits written stop.Writer other h = absurd (other refl)
    behind_all n read waits written stop.Memory other (fine, same) = (fine, subst (λ t. TakesSpoil t after) same spoils)

    pub spoiled_behind : (e : Stop) → (e ≡ stop.Writer → ⊥) → EndsBehind TakesNothing old new before mid (Err e) → EndsBehind TakesSpoil old new before after (Err e)
    spoiled_behind e other all = record {
      lines = all.lines;
      read = all.read;
      waiting = all.waiting;
      written = all.written;
      gives = all.gives;
      sent = all.sent;
      end = behind_all (length all.lines) all.read all.waiting all.written e other all.end;
    }
