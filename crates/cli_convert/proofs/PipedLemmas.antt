-- Lines that were written of documents are read as these, line by line.
use Rattle.std.proofs.Common.{◌≡◌, ◌≢◌, ℕ, ◌<◌, ◌≤◌, false, List, [], ◌∷◌, ◌++◌, length, Option, Some, None, Result, Ok, refl, sym, ap, ap₂, subst, ◌∙◌, append_assoc, append-nil, arith}
use Rattle.std.proofs.lemmas.List.Elements.{All-nil, All-head, All-tail}
use Rattle.std.specs.Io.KnownBytes.{Appends, Consumes, IsAtEnd}
use Rattle.json.specs.Json.{object}
use Rattle.json.specs.Print.{print, print_from}
use Rattle.json.specs.Tree.{json_tokens}
use Rattle.bson_base.specs.Device.{Feed, Tally}
use Rattle.bson_base.specs.Kinds.{AreBytes, IsSound}
use Rattle.bson_base.specs.Value.{Members, Value, document}
use Rattle.bson_bytes.specs.Encode.{encode}
use Rattle.bson_bytes.proofs.MeaningLemmas.{meaning_is_sound}
use Rattle.bson_json.specs.Prints.{IsTextOf}
use Rattle.bson_json.specs.Settled.{ComesBack, json_levels, settle_members}
use Rattle.bson_json_read.specs.Reading.{ReadsText}
use Rattle.bson_json_read.specs.declared.error.Error.{Error}
use Rattle.bson_meaning.specs.JsonReserved.{has_reserved}
use Rattle.bson_model.specs.declared.document.Document.{Document}
use Rattle.bson_model.specs.declared.extjson.ser.Mode.{Mode}
use Rattle.bson_model.specs.declared.extjson.ser.Mode.TheVariants.{Canonical}
use Rattle.cli_convert.specs.Line.{IsUnbroken}
use Rattle.cli_convert.specs.Lines.{Reads, IsReadAs, IsLine}
use Rattle.cli_convert.specs.Parts.{InParts}
use Rattle.cli_convert.specs.Piped.{AreShallow, settled_bytes}
use Rattle.cli_convert.specs.ToBson.{IsWritten, WritesDocuments}
use Rattle.cli_convert.specs.ToLines.{IsFree, IsLineOf, WritesLines}

-- ---- lines are cut in one way

cut_once : (a b x y : List ℕ) → IsUnbroken a → IsUnbroken b → a ++ 10 ∷ x ≡ b ++ 10 ∷ y → (a ≡ b) × (x ≡ y)
cut_once [] [] x y h k e = let same : x ≡ y = cc e in (refl, same)
cut_once [] (c ∷ b) x y h k e = let first : 10 ≡ c = cc e in absurd (All-head (λ d. d ≢ 10) c b k (sym first))
cut_once (c ∷ a) [] x y h k e = let first : c ≡ 10 = cc e in absurd (All-head (λ d. d ≢ 10) c a h first)
cut_once (c ∷ a) (d ∷ b) x y h k e =
    let first : c ≡ d = cc e in
    let rest : a ++ 10 ∷ x ≡ b ++ 10 ∷ y = cc e in
    let r = cut_once a b x y (All-tail (λ d. d ≢ 10) c a h) (All-tail (λ d. d ≢ 10) d b k) rest in
    (ap₂ (λ e l. e ∷ l) first r.0, r.1)

not_cut : (A : Type 0) (a b y : List ℕ) → IsUnbroken a → a ≡ b ++ 10 ∷ y → A
not_cut A [] [] y h e = absurd (cc e)
not_cut A [] (c ∷ b) y h e = absurd (cc e)
not_cut A (c ∷ a) [] y h e = let first : c ≡ 10 = cc e in absurd (All-head (λ d. d ≢ 10) c a h first)
not_cut A (c ∷ a) (d ∷ b) y h e = let rest : a ≡ b ++ 10 ∷ y = cc e in not_cut A a b y (All-tail (λ d. d ≢ 10) c a h) rest

-- a line and what follows it
led : (whole line text rest last : List ℕ) → whole ≡ line ++ rest → line ≡ text ++ 10 ∷ [] → whole ++ last ≡ text ++ 10 ∷ (rest ++ last)
led whole line text rest last is e = ap (λ l. l ++ last) is ∙ append_assoc line rest last ∙ ap (λ l. l ++ (rest ++ last)) e ∙ append_assoc text (10 ∷ []) (rest ++ last)

led_alone : (whole line text rest : List ℕ) → whole ≡ line ++ rest → line ≡ text ++ 10 ∷ [] → whole ≡ text ++ 10 ∷ rest
led_alone whole line text rest is e = is ∙ ap (λ l. l ++ rest) e ∙ append_assoc text (10 ∷ []) rest

-- ---- devices

-- a source that gave xs, and then ys to its end, had both
gave_both : (sent xs ys : List ℕ) (a b c : Option (List ℕ)) → a ≡ Some sent → Consumes a b xs → Consumes b c ys → IsAtEnd c → sent ≡ xs ++ ys
gave_both sent xs ys None b c h first second end = absurd (cc h)
gave_both sent xs ys (Some l) None c h first second end = absurd first
gave_both sent xs ys (Some l) (Some m) None h first second end = absurd second
gave_both sent xs ys (Some l) (Some m) (Some n) h first second end =
    let same : l ≡ sent = cc h in
    sym same ∙ first ∙ ap (λ r. xs ++ r) (second ∙ ap (λ r. ys ++ r) end ∙ append-nil ys)

-- a sink that had nothing, and took xs and ys
took_both : (xs ys : List ℕ) (a b c : Option (List ℕ)) → a ≡ Some [] → Appends a b xs → Appends b c ys → c ≡ Some (xs ++ ys)
took_both xs ys None b c h first second = absurd (cc h)
took_both xs ys (Some l) None c h first second = absurd first
took_both xs ys (Some l) (Some m) None h first second = absurd second
took_both xs ys (Some l) (Some m) (Some n) h first second =
    let none : l ≡ [] = cc h in
    ap Some (second ∙ ap (λ r. r ++ ys) (first ∙ ap (λ r. r ++ xs) none))

took_one : (xs : List ℕ) (a b : Option (List ℕ)) → a ≡ Some [] → Appends a b xs → b ≡ Some xs
took_one xs None b h first = absurd (cc h)
took_one xs (Some l) None h first = absurd first
took_one xs (Some l) (Some m) h first = let none : l ≡ [] = cc h in ap Some (first ∙ ap (λ r. r ++ xs) none)

-- ---- one line

bytes_front : (a b : List ℕ) → AreBytes (a ++ b) → AreBytes a × AreBytes b
bytes_front [] b h = (tt, h)
bytes_front (x ∷ a) b h = let r = bytes_front a b h.1 in ((h.0, r.0), r.1)

-- the text of a document has a byte
not_empty : (A : Type 0) (d : Members) (t : List ℕ) → IsTextOf Canonical (document d) t → t ≡ [] → A
unfolding print_from
not_empty A d t (j, (js, members, is), e, tree) none =
    let text : print (json_tokens (object js)) ≡ [] = sym (e ∙ ap (λ i. print (json_tokens i)) is) ∙ none in
    absurd (cc text)

last_read : (last : List ℕ) (o : Option Members) → last ≡ [] → IsReadAs last o → o ≡ None
last_read last None e read = refl
last_read last (Some d) e read = absurd (omega (arith, subst (λ l. 0 < length l) e read.0))

none_written : (bs : List ℕ) (o : Option Members) → o ≡ None → InParts IsWritten bs (o ∷ []) → bs ≡ []
none_written bs None e (part, rest, is, one, none) = is ∙ ap₂ (λ a b. a ++ b) one none
none_written bs (Some d) e h = absurd (cc e)

abbrev pub ReadBack : Type 0
ReadBack = (ms : Members) (t : List ℕ) (r : Result Document Error) → IsSound (document ms) → has_reserved ms ≡ false → json_levels (document ms) ≤ 125 → IsTextOf Canonical (document ms) t → ReadsText t r → ComesBack Canonical ms r

abbrev pub AreLines : Type 0
AreLines = (m : Mode) (v : Value) (t : List ℕ) → json_levels v ≤ 125 → IsTextOf m v t → IsUnbroken t

module _ (back : ReadBack) (lines : AreLines) where
  line_back : (d e : Members) (bytes t : List ℕ) → AreBytes bytes → IsFree bytes d → json_levels (document d) ≤ 125 → IsTextOf Canonical (document d) t → Reads t e → e ≡ settle_members Canonical d
  line_back d e bytes t good free low text (some, utf8, (read, is, reads)) =
      sym is ∙ back d t (Ok read) (meaning_is_sound bytes d good free.0.1) free.1 low text reads

  -- ---- all lines

  all_back : (ds : List Members) (os : List (Option Members)) (o : Option Members) (bytes sent given last out : List ℕ) → AreBytes bytes → InParts IsFree bytes ds → AreShallow ds → InParts (IsLineOf Canonical) sent ds
      → InParts IsLine given os → IsUnbroken last → IsReadAs last o → sent ≡ given ++ last → InParts IsWritten out os → (out ≡ settled_bytes ds) × (o ≡ None)
  all_back [] [] o bytes sent given last out good free low sends gives whole read e written =
      let none : last ≡ [] = sym (ap (λ g. g ++ last) gives) ∙ sym e ∙ sends in
      (written, last_read last o none read)
  all_back [] (p ∷ os) o bytes sent given last out good free low sends (line, rest, is, (text, cut, unbroken, reads), gives) whole read e written =
      not_cut ((out ≡ []) × (o ≡ None)) [] text (rest ++ last) (All-nil (λ b. b ≢ 10)) (sym sends ∙ e ∙ led given line text rest last is cut)
  all_back (d ∷ ds) [] o bytes sent given last out good free low (line, rest, is, (t, text, cut), sends) gives whole read e written =
      not_cut ((out ≡ settled_bytes (d ∷ ds)) × (o ≡ None)) last t rest whole (sym (ap (λ g. g ++ last) gives) ∙ sym e ∙ led_alone sent line t rest is cut)
  all_back (d ∷ ds) (None ∷ os) o bytes sent given last out good free (low, lows) (line, rest, is, (t, text, cut), sends) (part, more, parts, (u, ends, unbroken, reads), gives) whole read e written =
      let r = cut_once t u rest (more ++ last) (lines Canonical (document d) t low text) unbroken (sym (led_alone sent line t rest is cut) ∙ e ∙ led given part u more last parts ends) in
      not_empty ((out ≡ settled_bytes (d ∷ ds)) × (o ≡ None)) d t text (r.0 ∙ reads)
  all_back (d ∷ ds) (Some f ∷ os) o bytes sent given last out good (front, behind, split, free, frees) (low, lows) (line, rest, is, (t, text, cut), sends) (part, more, parts, (u, ends, unbroken, reads), gives) whole read e (bs, cs, joins, (can, same), written) =
      let r = cut_once t u rest (more ++ last) (lines Canonical (document d) t low text) unbroken (sym (led_alone sent line t rest is cut) ∙ e ∙ led given part u more last parts ends) in
      let goods = bytes_front front behind (subst AreBytes split good) in
      let it : f ≡ settle_members Canonical d = line_back d f front t goods.0 free low text (subst (λ l. Reads l f) (sym r.0) reads) in
      let next = all_back ds os o behind rest more last cs goods.1 frees lows sends gives whole read r.1 written in
      (joins ∙ ap₂ (λ a b. a ++ b) (same ∙ ap encode it) next.0, next.1)

  pub piped : (fed read old new : Feed) (before sent empty after : Tally) (bytes : List ℕ) → AreBytes bytes → fed.supply.left ≡ Some bytes → before.taken ≡ Some [] → WritesLines Canonical fed read before sent (Ok tt)
      → old.supply.left ≡ sent.taken → empty.taken ≡ Some [] → WritesDocuments old new empty after (Ok tt) → (ds : List Members) × InParts IsFree bytes ds × (AreShallow ds → after.taken ≡ Some (settled_bytes ds))
  piped fed read old new before sent empty after bytes good feeds fresh writes piped_on none takes =
      let w = writes.so_far in
      let g = takes.gives in
      let (given, o, took, whole, reads, (tail, tail_passed, tail_written)) = takes.end in
      let (out, passed, written) = takes.sent in
      let all : bytes ≡ w.bytes = gave_both bytes w.bytes [] fed.supply.left writes.read.supply.left read.supply.left feeds w.took.1.1 writes.end.0.0.1.1 writes.end.0.1 ∙ append-nil w.bytes in
      let printed : sent.taken ≡ Some w.sent = ap (λ (t : Tally). t.taken) writes.end.1 ∙ took_one w.sent before.taken writes.written.taken fresh w.passed.1 in
      let got : w.sent ≡ g.given ++ given = gave_both w.sent g.given given old.supply.left takes.read.supply.left new.supply.left (piped_on ∙ printed) g.took.1.1 took.0.1.1 took.1 in
      let cut : w.sent ≡ g.bytes ++ (takes.waiting ++ given) = got ∙ ap (λ l. l ++ given) g.whole ∙ append_assoc g.bytes takes.waiting given in
      let free : InParts IsFree bytes writes.documents = subst (λ l. InParts IsFree l writes.documents) (sym all) w.documents in (
        writes.documents,
        free,
        λ low.
            let r = all_back writes.documents takes.lines o bytes w.sent g.bytes (takes.waiting ++ given) out good free low w.lines g.lines whole reads cut written in
            let no_tail : tail ≡ [] = none_written tail o r.1 tail_written in
            took_both out tail empty.taken takes.written.taken after.taken none passed.1 tail_passed.1 ∙ ap Some (ap₂ (λ a b. a ++ b) r.0 no_tail ∙ append-nil (settled_bytes writes.documents)),
      )
