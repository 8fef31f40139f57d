-- Runs of the first commands, which go on by one more.
use Rattle.std.proofs.Common.{◌≡◌, ℕ, List, [], ◌∷◌, ◌++◌, length, map, Option, Result, Ok, Err, refl, ap, ◌∙◌, sym, subst, arith, append_assoc, append-nil, length-append}
use Rattle.std.specs.FinMap.{empty}
use Rattle.sqlite.specs.State.{State}
use Rattle.store_table.specs.Rows.{TableRow}
use Rattle.store_table.specs.Moves.{Moves, WasOpen}
use Rattle.store_table.proofs.OthersLemmas.{others_then, shows_then}
use Rattle.bson_store.specs.Refusals.{reply_by}
use Rattle.store_model.specs.declared.error.StoreError.{StoreError}
use Rattle.serde_json.specs.Data.{Data}
use Rattle.store_model.specs.Reading.{Documents, Reading, ReadsBytes, ReadsTree}
use Rattle.bson_store.specs.Calls.{Does, DoesBytes, DoesTree}
use Rattle.bson_store.specs.Many.{DoesMany}
use Rattle.store_model.specs.declared.error.ErrorKind.{ErrorKind}
use Rattle.store_model.specs.State as model
use Rattle.store_model.specs.Table.{IsRefusal, RunThrough}
use Rattle.store_model.proofs.TableRunLemmas.{one_more}
use Rattle.store_model.proofs.TableLemmas.{run_of_states, run_spares}
use Rattle.bson_store.specs.Runs.{Asks, AsksEach, reply_of, Obeys, AnswersThroughTables, AnswersAsLists, IsAccepted, EndsAccepted, EndsOpen, WasOpenFor}
use Rattle.bson_store.specs.declared.command.Command.{Command}
use Rattle.bson_store.specs.declared.command.Reply.{Reply}
use Rattle.bson_store.proofs.MoveLemmas.{rests, moved, moved_twice}
use Rattle.sqlite_trees.specs.Tree.{Trees}
use Rattle.sqlite.specs.Effect.{Database}
use Rattle.store_model.specs.Run.{Denials, Run}
use Rattle.store_model.specs.Table.{DocumentTable, state_of}
use Rattle.store_model.specs.Left.{LeftAlong}
use Rattle.store_model.proofs.LeftLemmas.{left_goes_on, left_in_the_end, left_more}
use Rattle.store_model.proofs.RowLemmas.{rows_not_empty}
use Rattle.bson_store.specs.Left.{Holds, Leaves, LeavesAsLists, LeavesTheEnd, LeavesBytes, LeavesCommand, LeavesMany, LeavesTree}

map_parts : {X Y : Type 0} (f : X → Y) (xs ys : List X) → map f (xs ++ ys) ≡ map f xs ++ map f ys
map_parts f [] ys = refl
map_parts f (x ∷ xs) ys = ap (λ zs. f x ∷ zs) (map_parts f xs ys)

asks_last : (xs : List Command) (cs : List model.Command) (x : Command) (c : model.Command) → AsksEach xs cs → Asks x c → AsksEach (xs ++ x ∷ []) (cs ++ c ∷ [])
asks_last [] [] x c h k = (k, tt)
asks_last [] (d ∷ cs) x c h k = absurd h
asks_last (y ∷ xs) [] x c h k = absurd h
asks_last (y ∷ xs) (d ∷ cs) x c h k = (h.0, asks_last xs cs x c h.1 k)

none_yet : (docs : List TableRow) → AnswersThroughTables [] [] docs docs
none_yet docs a s = record { b = a; shown = s; asked = []; asks = tt; denials = empty; run = refl }

one_command : (old mid new : List TableRow) (xs : List Command) (rs : List Reply) (x : Command) (r : Reply) → AnswersThroughTables xs rs old mid → Obeys x r mid new → AnswersThroughTables (xs ++ x ∷ []) (rs ++ r ∷ []) old new
one_command old mid new xs rs x r so_far one a s =
    let h = so_far a s in
    let d = one.2 h.b h.shown in
    let more = one_more h.denials a h.b d.0 h.asked (map reply_of rs) one.0 (reply_of r) h.run d.2 in
    record {
      b = d.0;
      shown = d.1;
      asked = h.asked ++ one.0 ∷ [];
      asks = asks_last xs h.asked x one.0 h.asks one.1;
      denials = more.0;
      run = subst (λ qs. RunThrough more.0 0 a (h.asked ++ one.0 ∷ []) qs d.0) (sym (map_parts reply_of rs (r ∷ []))) more.1;
    }

on_lists : (xs : List Command) (rs : List Reply) (old new : List TableRow) → AnswersThroughTables xs rs old new → AnswersAsLists xs rs old new
on_lists xs rs old new h a s =
    let k = h a s in
    record {
      b = k.b;
      shown = k.shown;
      asked = k.asked;
      asks = k.asks;
      denials = k.denials;
      spared = run_spares k.denials 0 a k.b k.asked (map reply_of rs) k.run;
      run = run_of_states k.denials 0 a k.b k.asked (map reply_of rs) k.run;
    }

pub lists_moved : (s t : State) (xs : List Command) (rs : List Reply) → Moves s t (AnswersThroughTables xs rs) → Moves s t (AnswersAsLists xs rs)
lists_moved s t xs rs m = moved s t (AnswersThroughTables xs rs) (AnswersAsLists xs rs) m (on_lists xs rs)

-- ---- what a crash leaves

none_left : (s : State) → Moves s s (LeavesAsLists [] [] s s)
none_left s = rests s (LeavesAsLists [] [] s s) (λ docs first beside a shown. record { b = a; shown = shown; asked = []; asks = tt; denials = empty; run = refl; left = λ db may. may })

-- a run, and that what a crash leaves is left along it
abbrev LeftRun : Database → (Trees → Type 0) → (Trees → Type 0) → Denials → DocumentTable → List model.Command → DocumentTable → List model.Reply → Type 0
LeftRun first Before After w a cs b qs = (run : Run w 0 (state_of a) cs qs (state_of b)) × ((db : Trees) → After db → LeftAlong (Holds first) Before w 0 (state_of a) cs qs (state_of b) run db)

one_left : (old mid new : State) (xs : List Command) (rs : List Reply) (x : Command) (r : Reply) → Moves old mid (LeavesAsLists xs rs old mid) → Moves mid new (Obeys x r) → LeavesCommand x r mid new
    → Moves old new (LeavesAsLists (xs ++ x ∷ []) (rs ++ r ∷ []) old new)
one_left old mid new xs rs x r so_far one crash clean =
    let n = one clean in
    let m = so_far n.0 in (
      m.0,
      λ docs stands.
          let y = m.1 docs stands in
          let z = n.1 y.0 y.1 in (
            z.0,
            z.1,
            (λ first beside a shown.
                let h = y.2 first beside a shown in
                let c = z.2.0 in
                let d = z.2.2 h.b h.shown in
                let g = left_goes_on (Holds first) old.may_leave h.denials (state_of a) h.asked (map reply_of rs) (state_of h.b) (state_of d.0) c (reply_of r) h.run d.2.0 d.2.1.0 in
                let both : LeftRun first old.may_leave new.may_leave g.0 a (h.asked ++ c ∷ []) d.0 (map reply_of rs ++ reply_of r ∷ []) = (g.1.0, λ db may. g.1.1 db (left_more (Holds first) mid.may_leave _ h.left (state_of h.b) c (reply_of r) db (crash c z.2.1 clean first y.0 (shows_then first old mid beside y.3) y.1 h.b h.shown db may))) in
                let told = subst (LeftRun first old.may_leave new.may_leave g.0 a (h.asked ++ c ∷ []) d.0) (sym (map_parts reply_of rs (r ∷ []))) both in
                record { b = d.0; shown = d.1; asked = h.asked ++ c ∷ []; asks = asks_last xs h.asked x c h.asks z.2.1; denials = g.0; run = told.0; left = told.1 }),
            others_then old mid new y.3 z.3,
          ),
    )

the_end : (xs : List Command) (rs : List Reply) (old new : State) (docs after : List TableRow) → LeavesAsLists xs rs old new docs after → LeavesTheEnd xs rs old new docs after
the_end xs rs old new docs after h first beside a s alone =
    let k = h first beside a s in
    record {
      b = k.b;
      shown = k.shown;
      asked = k.asked;
      asks = k.asks;
      denials = k.denials;
      run = k.run;
      left = λ db may. left_in_the_end (Holds first) old.may_leave k.denials (state_of a) (state_of k.b) k.asked (map reply_of rs) k.run (rows_not_empty a) alone db (k.left db may);
    }

pub ends_moved : (s t : State) (xs : List Command) (rs : List Reply) → Moves s t (LeavesAsLists xs rs s t) → Moves s t (LeavesTheEnd xs rs s t)
ends_moved s t xs rs m = moved s t (LeavesAsLists xs rs s t) (LeavesTheEnd xs rs s t) m (the_end xs rs s t)

ends_last : (rs : List Reply) (r : Reply) → EndsAccepted (rs ++ r ∷ []) → IsAccepted r
ends_last [] r h = h
ends_last (q ∷ []) r h = h
ends_last (q ∷ p ∷ rs) r h = ends_last (p ∷ rs) r h

-- the commands that were done, and those that are left
pub record SoFar (old : State) (commands rest : List Command) (replies : List Reply) (new : State) : Type 0 where
  pub done : List Command
  pub split : done ++ rest ≡ commands
  pub counted : length replies ≡ length done
  pub run : Moves old new (AnswersThroughTables done replies)
  pub left : Moves old new (LeavesAsLists done replies old new)
  pub still : EndsOpen replies old new

pub so_far_more : (old mid new : State) (commands rest left : List Command) (x : Command) (rs more : List Reply) (r : Reply) → rest ≡ x ∷ left → more ≡ rs ++ r ∷ [] → SoFar old commands rest rs mid → Moves mid new (Obeys x r) → WasOpenFor r mid new → LeavesCommand x r mid new → SoFar old commands left more new
so_far_more old mid new commands rest left x rs more r is put h one opened crash = record {
  done = h.done ++ x ∷ [];
  split = append_assoc h.done (x ∷ []) left ∙ ap (λ y. h.done ++ y) (sym is) ∙ h.split;
  counted = omega (arith, ap length put, h.counted, length-append {A = Reply} rs (r ∷ []), length-append {A = Command} h.done (x ∷ []));
  run = subst (λ qs. Moves old new (AnswersThroughTables (h.done ++ x ∷ []) qs)) (sym put)
      (moved_twice old mid new (AnswersThroughTables h.done rs) (Obeys x r) (AnswersThroughTables (h.done ++ x ∷ []) (rs ++ r ∷ [])) h.run one (λ a b c f g. one_command a b c h.done rs x r f g));
  left = subst (λ qs. Moves old new (LeavesAsLists (h.done ++ x ∷ []) qs old new)) (sym put) (one_left old mid new h.done rs x r h.left one crash);
  still = λ ends clean docs stands. let y = (h.run (one clean).0).1 docs stands in (opened (ends_last rs r (subst EndsAccepted put ends)) clean y.0 y.1).1;
}

pub so_far_all : (old new : State) (commands rest : List Command) (rs : List Reply) → rest ≡ [] → SoFar old commands rest rs new → Moves old new (AnswersThroughTables commands rs)
so_far_all old new commands rest rs none h = subst (λ xs. Moves old new (AnswersThroughTables xs rs)) (sym (append-nil h.done) ∙ ap (λ y. h.done ++ y) (sym none) ∙ h.split) h.run

pub so_far_left : (old new : State) (commands rest : List Command) (rs : List Reply) → rest ≡ [] → SoFar old commands rest rs new → Moves old new (LeavesAsLists commands rs old new)
so_far_left old new commands rest rs none h = subst (λ xs. Moves old new (LeavesAsLists xs rs old new)) (sym (append-nil h.done) ∙ ap (λ y. h.done ++ y) (sym none) ∙ h.split) h.left

pub so_far_open : (old new : State) (commands rest : List Command) (rs : List Reply) → SoFar old commands rest rs new → EndsOpen rs old new
so_far_open old new commands rest rs h = h.still

pub so_far_start : (s : State) (commands rest : List Command) (rs : List Reply) → rest ≡ commands → rs ≡ [] → SoFar s commands rest rs s
so_far_start s commands rest rs is none = record {
  done = [];
  split = is;
  counted = ap length none;
  run = subst (λ qs. Moves s s (AnswersThroughTables [] qs)) (sym none) (rests s (AnswersThroughTables [] []) none_yet);
  left = subst (λ qs. Moves s s (LeavesAsLists [] qs s s)) (sym none) (none_left s);
  still = λ ends. absurd (subst EndsAccepted none ends);
}

-- ---- each command

pub obeys_bytes : (s t : State) (x : Command) (n b : List ℕ) (call : Reading → model.Call) (r : Reply) (q : model.Reply) → ((a : Reading) → ReadsBytes b a → Asks x (model.on n (call a))) → reply_of r ≡ q → Moves s t (DoesBytes n call b q) → Moves s t (Obeys x r)
obeys_bytes s t x n b call r q asks is m =
    moved s t (DoesBytes n call b q) (Obeys x r) m (λ docs after h. (model.on n (call h.0), asks h.0 h.1, subst (λ p. Does (model.on n (call h.0)) p docs after) (sym is) h.2))

pub obeys_tree : (s t : State) (x : Command) (n : List ℕ) (j : Data) (call : Reading → model.Call) (r : Reply) (q : model.Reply) → ((a : Reading) → ReadsTree j a → Asks x (model.on n (call a))) → reply_of r ≡ q → Moves s t (DoesTree n call j q) → Moves s t (Obeys x r)
obeys_tree s t x n j call r q asks is m =
    moved s t (DoesTree n call j q) (Obeys x r) m (λ docs after h. (model.on n (call h.0), asks h.0 h.1, subst (λ p. Does (model.on n (call h.0)) p docs after) (sym is) h.2))

pub obeys : (s t : State) (x : Command) (c : model.Command) (r : Reply) (q : model.Reply) → Asks x c → reply_of r ≡ q → Moves s t (Does c q) → Moves s t (Obeys x r)
obeys s t x c r q asks is m = moved s t (Does c q) (Obeys x r) m (λ docs after h. (c, asks, subst (λ p. Does c p docs after) (sym is) h))

pub obeys_many : (s t : State) (x : Command) (n : List ℕ) (Reads : Documents → Option ErrorKind → Type 0) (r : Reply) (q : model.Reply) → ((ds : Documents) (stop : Option ErrorKind) → Reads ds stop → Asks x (model.on n (model.import ds stop)))
    → reply_of r ≡ q → Moves s t (DoesMany n Reads q) → Moves s t (Obeys x r)
obeys_many s t x n Reads r q asks is m =
    moved s t (DoesMany n Reads q) (Obeys x r) m (λ docs after h. (model.on n (model.import h.0 h.1), asks h.0 h.1 h.2, subst (λ p. Does (model.on n (model.import h.0 h.1)) p docs after) (sym is) h.3))

-- ---- what each command leaves

as_asked : (s t : State) (c d : model.Command) (r : Reply) (q : model.Reply) → reply_of r ≡ q → c ≡ d → Leaves s t d q → Leaves s t c (reply_of r)
as_asked s t c d r q is e h = subst (λ x. Leaves s t x (reply_of r)) (sym e) (subst (λ p. Leaves s t d p) (sym is) h)

pub leaves_bytes : (s t : State) (x : Command) (n b : List ℕ) (call : Reading → model.Call) (r : Reply) (q : model.Reply) → ((c : model.Command) → Asks x c → (a : Reading) × ReadsBytes b a × (c ≡ model.on n (call a))) → reply_of r ≡ q
    → LeavesBytes n call b q s t → LeavesCommand x r s t
leaves_bytes s t x n b call r q asks is h c asked = let k = asks c asked in as_asked s t c (model.on n (call k.0)) r q is k.2 (h k.0 k.1)

pub leaves_tree : (s t : State) (x : Command) (n : List ℕ) (j : Data) (call : Reading → model.Call) (r : Reply) (q : model.Reply) → ((c : model.Command) → Asks x c → (a : Reading) × ReadsTree j a × (c ≡ model.on n (call a))) → reply_of r ≡ q
    → LeavesTree n call j q s t → LeavesCommand x r s t
leaves_tree s t x n j call r q asks is h c asked = let k = asks c asked in as_asked s t c (model.on n (call k.0)) r q is k.2 (h k.0 k.1)

pub leaves_many : (s t : State) (x : Command) (n : List ℕ) (Reads : Documents → Option ErrorKind → Type 0) (r : Reply) (q : model.Reply)
    → ((c : model.Command) → Asks x c → (ds : Documents) × (stop : Option ErrorKind) × Reads ds stop × (c ≡ model.on n (model.import ds stop))) → reply_of r ≡ q → LeavesMany n Reads q s t → LeavesCommand x r s t
leaves_many s t x n Reads r q asks is h c asked = let k = asks c asked in as_asked s t c (model.on n (model.import k.0 k.1)) r q is k.3 (h k.0 k.1 k.2)

pub leaves_one : (s t : State) (x : Command) (d : model.Command) (r : Reply) (q : model.Reply) → ((c : model.Command) → Asks x c → c ≡ d) → reply_of r ≡ q → Leaves s t d q → LeavesCommand x r s t
leaves_one s t x d r q asks is h c asked = as_asked s t c d r q is (asks c asked) h

-- ---- that the connection was open for it

pub reply_open : {A : Type 0} (s t : State) (f : A → model.Reply) (outcome : Result A StoreError) (r : Reply) → reply_of r ≡ reply_by f outcome → WasOpen s t outcome → WasOpenFor r s t
reply_open s t f (Ok x) r is opened accepted = opened
reply_open s t f (Err e) r is opened accepted = absurd (accepted (subst IsRefusal (sym is) tt))
