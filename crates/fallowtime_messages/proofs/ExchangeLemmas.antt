-- Messages, one after the other.
use Rattle.std.proofs.Common.{arith, ◌≡◌, inl, inr, ℕ, ◌+◌, ◌-◌, ◌^◌, ◌%◌, ◌≤◌, Bool, true, false, suc, List, [], ◌∷◌, ◌++◌, length, Option, Some, None, Result, Ok, Err, Vec, refl, ap, sym, ◌∙◌, subst, append_assoc, length-append}
use Rattle.std.proofs.lemmas.List.{append-nil}
use Rattle.std.specs.declared.alloc.AllocError.{AllocError}
use Rattle.std.specs.declared.alloc.Global.{Global}
use Rattle.sqlite.specs.Effect.{Database}
use Rattle.sqlite.specs.State.{State}
use Rattle.sqlite.specs.Tree.{Trees}
use Rattle.bson_base.specs.Device.{Feed, Tally, TookAll}
use Rattle.bson_message.specs.Taking.{TakesMessage}
use Rattle.bson_message.specs.declared.fault.ReadFault.{ReadFault}
use Rattle.store_model.specs.declared.error.ErrorKind.{ErrorKind}
use Rattle.store_model.specs.declared.error.ErrorKind.TheVariants.{Reader}
use Rattle.store_table.proofs.OthersLemmas.{others_then, shows_then}
use Rattle.store_table.specs.Rows.{TableRow}
use Rattle.fallowtime_commands.specs.Deeds.{Deed, LeftByDeed}
use Rattle.fallowtime_messages.specs.Waiting.{Wait}
use Rattle.fallowtime_messages.proofs.DoneLemmas.{along_more, none_done}
use Rattle.fallowtime_messages.specs.Done.{AreDone, DidAll, DoesAll, IsOpenAlong, LeftAlong}
use Rattle.fallowtime_messages.specs.Serving.{Serves}
use Rattle.fallowtime_messages.specs.Exchanges.{Answers, Ends, Exchange, Exchanges, Reads, Writes, deeds_of, kind_of}

-- ---- requests behind requests

-- what is left of some behind others is left along them all
done_on : (Before : Database → Trees → Type 0) (ds es : List Deed) (docs mid after : List TableRow) (h : AreDone ds docs mid) (k : AreDone es mid after)
    → (more : AreDone (ds ++ es) docs after) × ((base : Database) (db : Trees) → LeftAlong base (LeftAlong base (Before base) ds docs mid h) es mid after k db → LeftAlong base (Before base) (ds ++ es) docs after more db)
done_on Before [] es docs mid after rows k =
    subst (λ x. (l : AreDone es x after) → (more : AreDone es docs after) × ((base : Database) (db : Trees) → LeftAlong base (Before base) es x after l db → LeftAlong base (Before base) es docs after more db))
    (sym rows) (λ l. (l, λ base db left. left)) k
done_on Before (d ∷ ds) es docs mid after (row, c, h) k =
    let rest = done_on (λ base. LeftByDeed base (Before base) docs (Some d)) ds es row mid after h k in
    ((row, c, rest.0), rest.1)

opens_on : (ds es : List Deed) (x y z : Bool) → IsOpenAlong x ds y → IsOpenAlong y es z → IsOpenAlong x (ds ++ es) z
opens_on [] es x y z same k = subst (λ v. IsOpenAlong v es z) same k
opens_on (d ∷ ds) es x y z (mid, first, accepted, rest) k = (mid, first, accepted, opens_on ds es mid y z rest k)

more_done : (s t u : State) (ds es : List Deed) → DidAll ds s t → DidAll es t u → DidAll (ds ++ es) s u
more_done s t u ds es first second clean =
    let b = second clean in
    let a = first b.0 in (
      a.0,
      λ docs stands.
          let y = a.1 docs stands in
          let z = b.1 y.0 y.1 in
          let more = done_on (λ _. s.may_leave) ds es docs y.0 z.0 y.2.done z.2.done in (
            z.0,
            z.1,
            record {
              done = more.0;
              opens = opens_on ds es s.is_open t.is_open u.is_open y.2.opens z.2.opens;
              left = λ base beside db may.
                  more.1 base db (along_more base t.may_leave (LeftAlong base s.may_leave ds docs y.0 y.2.done) (y.2.left base beside) es y.0 z.0 z.2.done db (z.2.left base (shows_then base s t beside y.3) db may));
            },
            others_then s t u y.3 z.3,
          ),
    )

-- ---- messages behind messages

numbered_on : (database : List ℕ) (m n : ℕ) (x : Exchange) (fed left : Feed) → m ≡ n → Reads database m x fed left → Reads database n x fed left
numbered_on database m n x fed left same reads = subst (λ k. Reads database k x fed left) same reads

answers_on : (database : List ℕ) (n : ℕ) (xs : List Exchange) (x : Exchange) (fed mid left : Feed) (old told new : Tally) (ws us : List Wait) → Answers database n xs fed mid old told ws us → x.before ≡ us → Reads database (n + length xs) x mid left
    → Writes x.sent (Ok tt) told new → Answers database n (xs ++ x ∷ []) fed left old new ws x.after
answers_on database n [] x fed mid left old told new ws us (same, quiet, waits) before reads writes = (
  left,
  new,
  before ∙ waits,
  numbered_on database (n + 0) n x fed left (omega arith) (subst (λ f. Reads database (n + 0) x f left) same reads),
  subst (λ t. Writes x.sent (Ok tt) t new) quiet writes,
  (refl, refl, refl),
)
answers_on database n (y ∷ ys) x fed mid left old told new ws us (f, t, b, r, w, rest) before reads writes =
    (f, t, b, r, w, answers_on database (n + 1) ys x f mid left t told new y.after us rest before (numbered_on database (n + suc (length ys)) ((n + 1) + length ys) x mid left (omega arith) reads) writes)

deeds_of-snoc : (xs : List Exchange) (x : Exchange) → deeds_of (xs ++ x ∷ []) ≡ deeds_of xs ++ x.deeds
deeds_of-snoc [] x = append-nil x.deeds
deeds_of-snoc (y ∷ ys) x = ap (λ ds. y.deeds ++ ds) (deeds_of-snoc ys x) ∙ sym (append_assoc y.deeds (deeds_of ys) x.deeds)

-- ---- between two messages

-- those so far
pub record SoFar (database : List ℕ) (s t : State) (fed left : Feed) (old new : Tally) (ws : List Wait) (number : ℕ) : Type 0 where
  pub exchanges : List Exchange
  pub answers : Answers database 0 exchanges fed left old new [] ws
  pub fine : left.failures ≡ fed.failures
  pub quiet : new.failures ≡ old.failures
  pub moves : DidAll (deeds_of exchanges) s t
  pub counts : length exchanges ≡ number

write_fine : (sent : Result (Option (Vec ℕ Global)) AllocError) (old new : Tally) → Writes sent (Ok tt) old new → new.failures ≡ old.failures
write_fine (Ok (Some answer)) old new (fine, takes) = fine
write_fine (Ok None) old new (is, same) = ap (λ (t : Tally). t.failures) same
write_fine (Err e) old new (is, same) = ap (λ (t : Tally). t.failures) same

abbrev exchange_of : List ℕ → ℕ → List Wait → List Wait → Result (Option (Vec ℕ Global)) AllocError → List Deed → Exchange
exchange_of message n ws vs sent ds = record { message = message; number = n; before = ws; after = vs; sent = sent; deeds = ds }

module _ (database : List ℕ) (s : State) (fed : Feed) (old : Tally) where
  pub begin : (ws : List Wait) → ws ≡ [] → SoFar database s s fed fed old old ws 0
  begin ws none = record { exchanges = []; answers = (refl, refl, none); fine = refl; quiet = refl; moves = none_done s; counts = refl }

  module _ (t : State) (left : Feed) (new : Tally) (ws : List Wait) (number : ℕ) (so : SoFar database s t fed left old new ws number) where
    reads_it : (next : Feed) (message : List ℕ) (n : ℕ) (vs : List Wait) (sent : Result (Option (Vec ℕ Global)) AllocError) (ds : List Deed) → n ≡ number % 2 ^ 32 → TakesMessage left next message (Ok true) → Serves database n message ws vs sent ds
        → Reads database (length so.exchanges) (exchange_of message n ws vs sent ds) left next
    reads_it next message n vs sent ds is (took, declared) served =
        record { numbered = is ∙ ap (λ k. k % 2 ^ 32) (sym so.counts); took = took; declared = declared; served = served }

    fine_still : (next : Feed) (message : List ℕ) → TakesMessage left next message (Ok true) → next.failures ≡ left.failures
    fine_still next message (took, declared) = took.0

    answered : (u : State) (next : Feed) (told : Tally) (vs : List Wait) (message : List ℕ) (n : ℕ) → n ≡ number % 2 ^ 32 → TakesMessage left next message (Ok true) → DoesAll (Exchanges database n message ws vs (Ok tt) new told) t u → SoFar database s u fed next old told vs (number + 1)
    answered u next told vs message n is takes (ds, (sent, served, writes), did) = record {
      exchanges = so.exchanges ++ exchange_of message n ws vs sent ds ∷ [];
      answers = answers_on database 0 so.exchanges (exchange_of message n ws vs sent ds) fed left next old new told [] ws so.answers refl (numbered_on database (length so.exchanges) (0 + length so.exchanges) (exchange_of message n ws vs sent ds) left next (omega arith) (reads_it next message n vs sent ds is takes served)) writes;
      fine = fine_still next message takes ∙ so.fine;
      quiet = write_fine sent new told writes ∙ so.quiet;
      moves = subst (λ es. DidAll es s u) (sym (deeds_of-snoc so.exchanges (exchange_of message n ws vs sent ds))) (more_done s t u (deeds_of so.exchanges) ds so.moves did);
      counts = grind (arith, length-append, so.counts);
    }

    unanswered : (u : State) (next : Feed) (told : Tally) (vs : List Wait) (message : List ℕ) (n : ℕ) (kind : ErrorKind) → n ≡ number % 2 ^ 32 → TakesMessage left next message (Ok true) → DoesAll (Exchanges database n message ws vs (Err kind) new told) t u → DoesAll (Ends database (Err kind) fed next old told) s u
    unanswered u next told vs message n kind is takes (ds, (sent, served, writes), did) = (
      deeds_of so.exchanges ++ ds,
      (so.exchanges, left, new, ws, so.answers, (ds, inr (inl (exchange_of message n ws vs sent ds, refl, reads_it next message n vs sent ds is takes served, writes, refl)), refl)),
      more_done s t u (deeds_of so.exchanges) ds so.moves did,
    )

    ended : (next : Feed) → TookAll left next [] → DoesAll (Ends database (Ok tt) fed next old new) s t
    ended next all = (deeds_of so.exchanges, (so.exchanges, left, ws, so.answers, all, refl), so.moves)

    -- a message more
    module _ (u : State) (next : Feed) (told : Tally) (vs : List Wait) (message bytes : List ℕ) (there : Bool) (n : ℕ) (is_there : there ≡ true) (is : n ≡ number % 2 ^ 32) (lent : bytes ≡ message) (takes : TakesMessage left next message (Ok there)) where
      pub went_on : DoesAll (Exchanges database n bytes ws vs (Ok tt) new told) t u → SoFar database s u fed next old told vs (number + 1)
      went_on does =
          answered u next told vs message n is (subst (λ b. TakesMessage left next message (Ok b)) is_there takes) (subst (λ (bs : List ℕ). DoesAll (Exchanges database n bs ws vs (Ok tt) new told) t u) lent does)

      -- its answer wasn't written
      pub not_answered : (kind : ErrorKind) → DoesAll (Exchanges database n bytes ws vs (Err kind) new told) t u → DoesAll (Ends database (Err kind) fed next old told) s u
      not_answered kind does =
          unanswered u next told vs message n kind is (subst (λ b. TakesMessage left next message (Ok b)) is_there takes) (subst (λ (bs : List ℕ). DoesAll (Exchanges database n bs ws vs (Err kind) new told) t u) lent does)

    -- the input ended
    pub at_end : (next : Feed) (message : List ℕ) (there : Bool) → there ≡ false → TakesMessage left next message (Ok there) → DoesAll (Ends database (Ok tt) fed next old new) s t
    at_end next message there none takes = ended next (subst (λ b. TakesMessage left next message (Ok b)) none takes)

    -- no message could be taken
    pub not_taken : (next : Feed) (message : List ℕ) (e : ReadFault) (kind : ErrorKind) → kind ≡ kind_of e → TakesMessage left next message (Err e) → DoesAll (Ends database (Err kind) fed next old new) s t
    not_taken next message e kind is takes =
        (deeds_of so.exchanges, (so.exchanges, left, new, ws, so.answers, ([], inl (e, message, takes, is, refl, refl), sym (append-nil (deeds_of so.exchanges)))), so.moves)

    -- there were too many
    pub endless : 2 ^ 64 - 1 ≤ number → DoesAll (Ends database (Err Reader) fed left old new) s t
    endless many =
        (deeds_of so.exchanges, (so.exchanges, left, new, ws, so.answers, ([], inr (inr (refl, omega (arith, many, so.counts), refl, refl, refl)), sym (append-nil (deeds_of so.exchanges)))), so.moves)
