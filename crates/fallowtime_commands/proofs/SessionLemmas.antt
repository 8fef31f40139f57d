-- A session, line by line.
use Rattle.std.proofs.Common.{arith, ◌≡◌, ◌⊎◌, inl, inr, ℕ, ◌+◌, ◌-◌, ◌^◌, ◌≤◌, Bool, IsTrue, List, [], ◌∷◌, ◌++◌, length, Option, None, Some, Result, Ok, Err, refl, ap, sym, ◌∙◌, subst, append_assoc, length-append}
use Rattle.std.proofs.lemmas.List.{append-nil}
use Rattle.std.proofs.lemmas.Result.{on_ok_weaker}
use Rattle.std.proofs.KnownBytes.{Appends-trans}
use Rattle.std.specs.Io.KnownBytes.{Appends}
use Rattle.sqlite.specs.Effect.{Database}
use Rattle.sqlite.specs.State.{State, HasCleanDisk}
use Rattle.sqlite.specs.Tree.{Trees}
use Rattle.bson_base.specs.Device.{Feed, Gives, Tally}
use Rattle.bson_base.proofs.DeviceLemmas.{Gives-trans}
use Rattle.store_table.proofs.OthersLemmas.{others_then, shows_then}
use Rattle.store_table.specs.Beside.{ShowsOthers}
use Rattle.store_table.specs.Moves.{Moves, Stands}
use Rattle.store_table.specs.Rows.{TableRow}
use Rattle.bson_store.proofs.MoveLemmas.{moved, rests}
use Rattle.cli_convert.specs.Line.{IsUnbroken, Keeps}
use Rattle.cli_convert.specs.LineReader.{Reads, ReadsNext, waiting}
use Rattle.cli_convert.specs.declared.line.Line.{Line}
use Rattle.cli_convert.specs.declared.line_reader.Lines.{Lines}
use Rattle.cli_convert.specs.declared.line_reader.Next.{Next}
use Rattle.cli_convert.specs.declared.line_reader.Next.TheVariants.{Whole, Last, End}
use Rattle.store_model.specs.declared.error.ErrorKind.{ErrorKind}
use Rattle.store_model.specs.declared.error.ErrorKind.TheVariants.{Reader, Writer}
use Rattle.fallowtime_commands.proofs.CrashLemmas.{left_by_request, more_by_request}
use Rattle.fallowtime_commands.specs.Performing.{reply_of}
use Rattle.fallowtime_commands.proofs.SessionCrashLemmas.{more_by_all}
use Rattle.cli_convert.specs.Made.{at_time}
use Rattle.cli_convert.specs.declared.made.IdMaker.{IdMaker}
use Rattle.fallowtime_commands.specs.Acts.{Act, Acted, ChangesBy, DoesOne, IsOpenAfter, LeavesAct, LeftByAct, WasOpenBy, list, single}
use Rattle.fallowtime_commands.specs.Deeds.{IsOpenFor, LeavesDeed, LeftByDeed, WasOpenFor, Deed}
use Rattle.fallowtime_commands.specs.Leaving.{IsOpenAlong, LeavesTurns, LeftAlong}
use Rattle.fallowtime_commands.specs.Sessions.{Turn, lines_of, answers_of, Holds, ReadsSome, WritesAll, Sends, Ends}
use Rattle.fallowtime_commands.specs.Turns.{AnswersLine}

-- ---- a line after others

-- The lines are answered with one more, and what is left of that one after them is left along them all. Before may
-- speak of the tables beside.
goes_on : (Before : Database → Trees → Type 0) (ts : List Turn) (t : Turn) (m mid n : IdMaker) (docs d after : List TableRow) (h : Holds m mid ts docs d) → AnswersLine (at_time t.time mid) n t.text t.answer t.act → ChangesBy t.act d after
    → (more : Holds m n (ts ++ t ∷ []) docs after) × ((base : Database) (db : Trees) → LeftByAct base (LeftAlong base (Before base) m mid ts docs d h) d t.act db → LeftAlong base (Before base) m n (ts ++ t ∷ []) docs after more db)
goes_on Before [] t m mid n docs d after (same, rows) answers changes = (
  (n, after, subst (λ x. AnswersLine (at_time t.time x) n t.text t.answer t.act) same answers, subst (λ x. ChangesBy t.act x after) rows changes, (refl, refl)),
  λ base db h. subst (λ x. LeftByAct base (Before base) x t.act db) rows h,
)
goes_on Before (s ∷ ts) t m mid n docs d after (next, row, a, c, h) answers changes =
    let rest = goes_on (λ base. LeftByAct base (Before base) docs s.act) ts t next mid n row d after h answers changes in
    ((next, row, a, c, rest.0), rest.1)

opens_on : (ts : List Turn) (t : Turn) (x y z : Bool) → IsOpenAlong x ts y → (IsTrue z → IsTrue y) → IsOpenAfter t.act z → IsOpenAlong x (ts ++ t ∷ []) z
opens_on [] t x y z same was own = (z, (λ up. subst IsTrue same (was up)), own, refl)
opens_on (s ∷ ts) t x y z (mid, first, accepted, rest) was own = (mid, first, accepted, opens_on ts t mid y z rest was own)

open_for : (deed : Option Deed) (t u : State) → WasOpenFor deed t u → HasCleanDisk u → (docs : List TableRow) → Stands t docs → IsOpenFor deed u.is_open
open_for None t u stays clean docs stands = tt
open_for (Some d) t u stays clean docs stands = on_ok_weaker d.outcome (λ both. both.1) (stays clean docs stands)

left_by_deed : (deed : Option Deed) (t u : State) → LeavesDeed deed t u → HasCleanDisk u → (base : Database) → ShowsOthers base t → (docs : List TableRow) → Stands t docs → (Before : Trees → Type 0) → ((db : Trees) → t.may_leave db → Before db)
    → (db : Trees) → u.may_leave db → LeftByDeed base Before docs deed db
left_by_deed None t u h clean base beside docs stands Before was db may = elim (h.crash clean db may) [ inl mid ↦ was db mid | inr none ↦ absurd none ]
left_by_deed (Some d) t u h clean base beside docs stands Before was db may = λ a shown.
    more_by_request base t.may_leave Before was d.name a db d.request (reply_of d.outcome) (left_by_request t u clean base docs beside stands a shown db may d.name d.request (reply_of d.outcome) h)

-- so of what a line did
open_after : (act : Act) (t u : State) → WasOpenBy act t u → HasCleanDisk u → (docs : List TableRow) → Stands t docs → IsOpenAfter act u.is_open
open_after (single deed) t u stays clean docs stands = open_for deed t u stays clean docs stands
open_after (list qs r) t u stays clean docs stands = on_ok_weaker r (λ both. both.1) (stays clean docs stands)

left_by_act : (act : Act) (t u : State) → LeavesAct act t u → HasCleanDisk u → (base : Database) → ShowsOthers base t → (docs : List TableRow) → Stands t docs → (Before : Trees → Type 0) → ((db : Trees) → t.may_leave db → Before db)
    → (db : Trees) → u.may_leave db → LeftByAct base Before docs act db
left_by_act (single deed) t u h clean base beside docs stands Before was db may = left_by_deed deed t u h clean base beside docs stands Before was db may
left_by_act (list qs r) t u h clean base beside docs stands Before was db may = λ a shown. more_by_all base t.may_leave Before was a qs r db (h clean base docs beside stands a shown db may)

lines_of-snoc : (ts : List Turn) (t : Turn) → lines_of (ts ++ t ∷ []) ≡ lines_of ts ++ (t.text ++ 10 ∷ [])
lines_of-snoc [] t = refl
lines_of-snoc (s ∷ ts) t = ap (λ bs. s.text ++ 10 ∷ bs) (lines_of-snoc ts t) ∙ sym (append_assoc s.text (10 ∷ lines_of ts) (t.text ++ 10 ∷ []))

answers_of-snoc : (ts : List Turn) (t : Turn) → answers_of (ts ++ t ∷ []) ≡ answers_of ts ++ t.answer
answers_of-snoc [] t = append-nil t.answer
answers_of-snoc (s ∷ ts) t = ap (λ bs. s.answer ++ bs) (answers_of-snoc ts t) ∙ sym (append_assoc s.answer (answers_of ts) t.answer)

length-lines_of : (ts : List Turn) → length ts ≤ length (lines_of ts)
length-lines_of [] = omega arith
length-lines_of (t ∷ ts) = let more = length-lines_of ts in grind (arith, length-append, more)

-- ---- between two lines

-- the lines so far, with what waits after them
pub record SoFar (s t : State) (m n : IdMaker) (fed left : Feed) (old new : Tally) (waits : List ℕ) (number : ℕ) : Type 0 where
  pub turns : List Turn
  pub bytes : List ℕ
  pub fine : left.failures ≡ fed.failures
  pub gives : Gives fed.supply left.supply bytes
  pub whole : bytes ≡ lines_of turns ++ waits
  pub writes : WritesAll turns old new
  pub moves : Moves s t (LeavesTurns m n turns s t)
  pub counts : length turns ≡ number

module _ (s : State) (m : IdMaker) (fed : Feed) (old : Tally) where
  pub begin : (waits : List ℕ) → waits ≡ [] → Gives fed.supply fed.supply [] → Appends old.taken old.taken [] → SoFar s s m m fed fed old old waits 0
  begin waits none gives takes = record {
    turns = [];
    bytes = [];
    fine = refl;
    gives = gives;
    whole = sym none;
    writes = (refl, takes);
    moves = rests s (LeavesTurns m m [] s s) (λ docs. record { holds = (refl, refl); opens = refl; left = λ base beside db may. may });
    counts = refl;
  }

  abbrev next_turn : (text : List ℕ) → ℕ → (answer : List ℕ) → Act → IsUnbroken text → Turn
  next_turn text time answer act unbroken = record { text = text; time = time; answer = answer; act = act; unbroken = unbroken }

  -- what was read, with a line more
  more_read : (ts : List Turn) (t : Turn) (bytes given waits now : List ℕ) → bytes ≡ lines_of ts ++ waits → waits ++ given ≡ t.text ++ now → bytes ++ given ≡ lines_of ts ++ (t.text ++ now)
  more_read ts t bytes given waits now e f = ap (λ bs. bs ++ given) e ∙ append_assoc (lines_of ts) waits given ∙ ap (λ bs. lines_of ts ++ bs) f

  whole_line : (ts : List Turn) (t : Turn) (rest : List ℕ) → lines_of ts ++ (t.text ++ 10 ∷ rest) ≡ lines_of (ts ++ t ∷ []) ++ rest
  whole_line ts t rest =
      ap (λ bs. lines_of ts ++ bs) (sym (append_assoc t.text (10 ∷ []) rest)) ∙ sym (append_assoc (lines_of ts) (t.text ++ 10 ∷ []) rest)
      ∙ ap (λ bs. bs ++ rest) (sym (lines_of-snoc ts t))

  last_line : (ts : List Turn) (t : Turn) (bytes : List ℕ) → bytes ≡ lines_of ts ++ t.text → bytes ++ 10 ∷ [] ≡ lines_of (ts ++ t ∷ [])
  last_line ts t bytes e = ap (λ bs. bs ++ 10 ∷ []) e ∙ append_assoc (lines_of ts) t.text (10 ∷ []) ∙ sym (lines_of-snoc ts t)

  more_held : (t u : State) (n k : IdMaker) (ts : List Turn) (x : Turn) → Moves s t (LeavesTurns m n ts s t) → AnswersLine (at_time x.time n) k x.text x.answer x.act → Acted x.act t u → Moves s u (LeavesTurns m k (ts ++ x ∷ []) s u)
  more_held t u n k ts x moves answers did clean =
      let b = did.moves clean in
      let a = moves b.0 in (
        a.0,
        λ docs stands.
            let y = a.1 docs stands in
            let z = b.1 y.0 y.1 in
            let more = goes_on (λ _. s.may_leave) ts x m n k docs y.0 z.0 y.2.holds answers z.2 in (
              z.0,
              z.1,
              record {
                holds = more.0;
                opens = opens_on ts x s.is_open t.is_open u.is_open y.2.opens z.3.was_open (open_after x.act t u did.stays clean y.0 y.1);
                left = λ base beside db may.
                    more.1 base db (left_by_act x.act t u did.crash clean base (shows_then base s t beside y.3) y.0 y.1 (LeftAlong base s.may_leave m n ts docs y.0 y.2.holds) (y.2.left base beside) db may);
              },
              others_then s t u y.3 z.3,
            ),
      )

  written : (mid new : Tally) (ts : List Turn) (x : Turn) → WritesAll ts old mid → Sends (Ok tt) x.answer mid new → WritesAll (ts ++ x ∷ []) old new
  written mid new ts x all sends =
      (sends.0 ∙ all.0, subst (Appends old.taken new.taken) (sym (answers_of-snoc ts x)) (Appends-trans old.taken mid.taken new.taken (answers_of ts) x.answer all.1 sends.1))

  -- ---- one line more

  -- the line was read whole, and answered
  went_on : (t u : State) (n k : IdMaker) (mid left : Feed) (before new : Tally) (waits now : List ℕ) (line : Line) (number : ℕ) (given : List ℕ) (time : ℕ) (answer : List ℕ) → SoFar s t m n fed mid old before waits number → left.failures ≡ mid.failures
      → Gives mid.supply left.supply given → Reads Whole (waits ++ given) now left.supply line → Sends (Ok tt) answer before new → ((text : List ℕ) → Keeps line text → DoesOne (AnswersLine (at_time time n) k text answer) t u)
      → SoFar s u m k fed left old new now (number + 1)
  went_on t u n k mid left before new waits now line number given time answer so fine gives (text, unbroken, keeps, whole) sends moves =
      let d = moves text keeps in
      let x = next_turn text time answer d.0 unbroken in record {
        turns = so.turns ++ x ∷ [];
        bytes = so.bytes ++ given;
        fine = fine ∙ so.fine;
        gives = Gives-trans fed.supply mid.supply left.supply so.bytes given so.gives gives;
        whole = more_read so.turns x so.bytes given waits (10 ∷ now) so.whole whole ∙ whole_line so.turns x now;
        writes = written before new so.turns x so.writes sends;
        moves = more_held t u n k so.turns x so.moves d.1 d.2;
        counts = grind (arith, length-append, so.counts);
      }

  -- ---- the ends

  abbrev Session : Result (Unit {0}) ErrorKind → State → IdMaker → Feed → Tally → Type 0
  Session result t n left new = (turns : List Turn) × Ends result turns fed left old new × Moves s t (LeavesTurns m n turns s t)

  -- so its lines are answered
  pub held : (result : Result (Unit {0}) ErrorKind) (t : State) (n : IdMaker) (left : Feed) (new : Tally) → Session result t n left new → (turns : List Turn) × Ends result turns fed left old new × Moves s t (Holds m n turns)
  held result t n left new (turns, ends, moves) = (turns, ends, moved s t (LeavesTurns m n turns s t) (Holds m n turns) moves (λ docs after h. h.holds))

  -- the input ends after a line feed
  ends : (t : State) (n : IdMaker) (mid left : Feed) (new : Tally) (waits now : List ℕ) (line : Line) (number : ℕ) (given : List ℕ) → SoFar s t m n fed mid old new waits number → left.failures ≡ mid.failures → Gives mid.supply left.supply given
      → Reads End (waits ++ given) now left.supply line → Session (Ok tt) t n left new
  ends t n mid left new waits now line number given so fine gives (none, left_none, exhausted) =
      let all : so.bytes ++ given ≡ lines_of so.turns = ap (λ bs. bs ++ given) so.whole ∙ append_assoc (lines_of so.turns) waits given ∙ ap (λ bs. lines_of so.turns ++ bs) none ∙ append-nil (lines_of so.turns) in
      (so.turns, ((so.bytes ++ given, fine ∙ so.fine, Gives-trans fed.supply mid.supply left.supply so.bytes given so.gives gives, exhausted, inl all), so.writes), so.moves)

  -- it ends with a line
  ends_with : (t u : State) (n k : IdMaker) (mid left : Feed) (before new : Tally) (waits now : List ℕ) (line : Line) (number : ℕ) (given : List ℕ) (time : ℕ) (answer : List ℕ) → SoFar s t m n fed mid old before waits number → left.failures ≡ mid.failures
      → Gives mid.supply left.supply given → Reads Last (waits ++ given) now left.supply line → Sends (Ok tt) answer before new → ((text : List ℕ) → Keeps line text → DoesOne (AnswersLine (at_time time n) k text answer) t u)
      → Session (Ok tt) u k left new
  ends_with t u n k mid left before new waits now line number given time answer so fine gives (text, unbroken, keeps, whole, some, none, exhausted) sends moves =
      let d = moves text keeps in
      let x = next_turn text time answer d.0 unbroken in
      let all : so.bytes ++ given ≡ lines_of so.turns ++ text = ap (λ bs. bs ++ given) so.whole ∙ append_assoc (lines_of so.turns) waits given ∙ ap (λ bs. lines_of so.turns ++ bs) whole in (
        so.turns ++ x ∷ [],
        ((so.bytes ++ given, fine ∙ so.fine, Gives-trans fed.supply mid.supply left.supply so.bytes given so.gives gives, exhausted, inr (last_line so.turns x (so.bytes ++ given) all)), written before new so.turns x so.writes sends),
        more_held t u n k so.turns x so.moves d.1 d.2,
      )

  -- an answer isn't written
  unsent : (e : ErrorKind) (t u : State) (n k : IdMaker) (left : Feed) (before new : Tally) (ts : List Turn) (x : Turn) → ReadsSome (ts ++ x ∷ []) fed left → WritesAll ts old before → Sends (Err e) x.answer before new
      → Moves s u (LeavesTurns m k (ts ++ x ∷ []) s u) → Session (Err e) u k left new
  unsent Writer t u n k left before new ts x reads writes sends moves = (ts ++ x ∷ [], (reads, (ts, x, refl, (before, writes, sends))), moves)
  unsent _ t u n k left before new ts x reads writes sends moves = absurd sends

  cannot_write : (e : ErrorKind) (t u : State) (n k : IdMaker) (mid left : Feed) (before new : Tally) (waits now : List ℕ) (line : Line) (number : ℕ) (given : List ℕ) (time : ℕ) (answer : List ℕ) → SoFar s t m n fed mid old before waits number → left.failures ≡ mid.failures
      → Gives mid.supply left.supply given → Reads Whole (waits ++ given) now left.supply line → Sends (Err e) answer before new → ((text : List ℕ) → Keeps line text → DoesOne (AnswersLine (at_time time n) k text answer) t u) → Session (Err e) u k left new
  cannot_write e t u n k mid left before new waits now line number given time answer so fine gives (text, unbroken, keeps, whole) sends moves =
      let d = moves text keeps in
      let x = next_turn text time answer d.0 unbroken in
      let all : so.bytes ++ given ≡ lines_of (so.turns ++ x ∷ []) ++ now = more_read so.turns x so.bytes given waits (10 ∷ now) so.whole whole ∙ whole_line so.turns x now in
      let reads : ReadsSome (so.turns ++ x ∷ []) fed left = (so.bytes ++ given, now, fine ∙ so.fine, Gives-trans fed.supply mid.supply left.supply so.bytes given so.gives gives, inl all) in
      unsent e t u n k left before new so.turns x reads so.writes sends (more_held t u n k so.turns x so.moves d.1 d.2)

  -- the last line is answered, or its answer isn't written
  last_answered : (r : Result (Unit {0}) ErrorKind) (t u : State) (n k : IdMaker) (mid left : Feed) (before new : Tally) (waits now : List ℕ) (line : Line) (number : ℕ) (given : List ℕ) (time : ℕ) (answer : List ℕ) → SoFar s t m n fed mid old before waits number
      → left.failures ≡ mid.failures → Gives mid.supply left.supply given → Reads Last (waits ++ given) now left.supply line → Sends r answer before new → ((text : List ℕ) → Keeps line text → DoesOne (AnswersLine (at_time time n) k text answer) t u) → Session r u k left new
  last_answered (Ok x) t u n k mid left before new waits now line number given time answer so fine gives read sends moves = ends_with t u n k mid left before new waits now line number given time answer so fine gives read sends moves
  last_answered (Err e) t u n k mid left before new waits now line number given time answer so fine gives (text, unbroken, keeps, whole, some, none, exhausted) sends moves =
      let d = moves text keeps in
      let x = next_turn text time answer d.0 unbroken in
      let all : so.bytes ++ given ≡ lines_of so.turns ++ text = ap (λ bs. bs ++ given) so.whole ∙ append_assoc (lines_of so.turns) waits given ∙ ap (λ bs. lines_of so.turns ++ bs) whole in
      let reads : ReadsSome (so.turns ++ x ∷ []) fed left =
      (so.bytes ++ given, now, fine ∙ so.fine, Gives-trans fed.supply mid.supply left.supply so.bytes given so.gives gives, inr (last_line so.turns x (so.bytes ++ given) all, exhausted)) in
      unsent e t u n k left before new so.turns x reads so.writes sends (more_held t u n k so.turns x so.moves d.1 d.2)

  -- a read fails, or a line doesn't end
  pub cannot_read : (t : State) (n : IdMaker) (mid left : Feed) (new : Tally) (waits : List ℕ) (number : ℕ) → SoFar s t m n fed mid old new waits number
      → (given : List ℕ) × Gives mid.supply left.supply given × (((left.failures ≡ mid.failures + 1) × IsUnbroken (waits ++ given)) ⊎ (2 ^ 64 - 1 ≤ length (waits ++ given))) → Session (Err Reader) t n left new
  cannot_read t n mid left new waits number so (given, gives, why) =
      (so.turns, ((so.bytes ++ given, waits ++ given, Gives-trans fed.supply mid.supply left.supply so.bytes given so.gives gives, all, ends_so why), so.writes), so.moves)
    where
      all : so.bytes ++ given ≡ lines_of so.turns ++ (waits ++ given)
      all = ap (λ bs. bs ++ given) so.whole ∙ append_assoc (lines_of so.turns) waits given

      ends_so : ((left.failures ≡ mid.failures + 1) × IsUnbroken (waits ++ given)) ⊎ (2 ^ 64 - 1 ≤ length (waits ++ given)) → ((left.failures ≡ fed.failures + 1) × IsUnbroken (waits ++ given)) ⊎ (2 ^ 64 - 2 ≤ length (so.bytes ++ given))
      ends_so (inl (fails, unbroken)) = inl (fails ∙ ap (λ (n : ℕ). n + 1) so.fine, unbroken)
      ends_so (inr many) = inr (grind (arith, length-append, so.whole, many))

  -- the lines don't end
  pub endless : (t : State) (n : IdMaker) (left : Feed) (new : Tally) (waits : List ℕ) (number : ℕ) → SoFar s t m n fed left old new waits number → 2 ^ 64 - 1 ≤ number → Session (Err Reader) t n left new
  endless t n left new waits number so many =
      let long : 2 ^ 64 - 2 ≤ length so.bytes = grind (arith, length-append, length-lines_of so.turns, so.whole, so.counts, many) in
      (so.turns, ((so.bytes, waits, so.gives, so.whole, inr long), so.writes), so.moves)

  -- ---- as the loop knows them

  abbrev Replied : State → State → IdMaker → IdMaker → Result (Unit {0}) ErrorKind → Line → Tally → Tally → Type 0
  Replied t u n k r line before new = (time : ℕ) × (answer : List ℕ) × Sends r answer before new × ((text : List ℕ) → Keeps line text → DoesOne (AnswersLine (at_time time n) k text answer) t u)

  abbrev ReadSo : Next → Lines → Lines → Feed → Feed → Line → Type 0
  ReadSo next from to mid left line = ReadsNext (Ok next) from to mid left line

  pub on_whole : (t u : State) (n k : IdMaker) (mid left : Feed) (before new : Tally) (from to : Lines) (next : Next) (line : Line) (number : ℕ) → next ≡ Whole → SoFar s t m n fed mid old before (waiting from) number → ReadSo next from to mid left line
      → Replied t u n k (Ok tt) line before new → SoFar s u m k fed left old new (waiting to) (number + 1)
  on_whole t u n k mid left before new from to next line number is so read (time, answer, sends, moves) = by (subst (λ n. ReadSo n from to mid left line) is read)
    where
      by : ReadSo Whole from to mid left line → SoFar s u m k fed left old new (waiting to) (number + 1)
      by (fine, (given, gives, reads)) = went_on t u n k mid left before new (waiting from) (waiting to) line number given time answer so fine gives reads sends moves

  pub on_last : (r : Result (Unit {0}) ErrorKind) (t u : State) (n k : IdMaker) (mid left : Feed) (before new : Tally) (from to : Lines) (next : Next) (line : Line) (number : ℕ) → next ≡ Last → SoFar s t m n fed mid old before (waiting from) number
      → ReadSo next from to mid left line → Replied t u n k r line before new → Session r u k left new
  on_last r t u n k mid left before new from to next line number is so read (time, answer, sends, moves) = by (subst (λ n. ReadSo n from to mid left line) is read)
    where
      by : ReadSo Last from to mid left line → Session r u k left new
      by (fine, (given, gives, reads)) = last_answered r t u n k mid left before new (waiting from) (waiting to) line number given time answer so fine gives reads sends moves

  pub on_end : (t : State) (n : IdMaker) (mid left : Feed) (new : Tally) (from to : Lines) (next : Next) (line : Line) (number : ℕ) → next ≡ End → SoFar s t m n fed mid old new (waiting from) number → ReadSo next from to mid left line → Session (Ok tt) t n left new
  on_end t n mid left new from to next line number is so read = by (subst (λ n. ReadSo n from to mid left line) is read)
    where
      by : ReadSo End from to mid left line → Session (Ok tt) t n left new
      by (fine, (given, gives, reads)) = ends t n mid left new (waiting from) (waiting to) line number given so fine gives reads

  pub on_unsent : (e : ErrorKind) (t u : State) (n k : IdMaker) (mid left : Feed) (before new : Tally) (from to : Lines) (next : Next) (line : Line) (number : ℕ) → next ≡ Whole → SoFar s t m n fed mid old before (waiting from) number → ReadSo next from to mid left line
      → Replied t u n k (Err e) line before new → Session (Err e) u k left new
  on_unsent e t u n k mid left before new from to next line number is so read (time, answer, sends, moves) = by (subst (λ n. ReadSo n from to mid left line) is read)
    where
      by : ReadSo Whole from to mid left line → Session (Err e) u k left new
      by (fine, (given, gives, reads)) = cannot_write e t u n k mid left before new (waiting from) (waiting to) line number given time answer so fine gives reads sends moves
