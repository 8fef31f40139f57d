-- Documents that go to another collection.
use Rattle.std.proofs.Common.{◌≡◌, inl, inr, ℕ, Bool, true, false, List, [], ◌∷◌, Option, Some, None, Result, Ok, Err, IfOk, Vec, String, string_bytes, refl, sym, ◌∙◌, subst, rules}
use Rattle.std.specs.declared.alloc.AllocError.{AllocError}
use Rattle.std.specs.declared.alloc.Global.{Global}
use Rattle.sqlite.specs.State.{State}
use Rattle.store_model.specs.declared.error.StoreError.{StoreError}
use Rattle.store_table.specs.Moves.{Moves, WasOpen}
use Rattle.bson_base.specs.Value.{Members}
use Rattle.bson_model.specs.View.{content}
use Rattle.bson_model.specs.declared.document.Document.{Document}
use Rattle.bson_store.specs.Export.{bytes_of_each}
use Rattle.fallowtime_commands.specs.Left.{LeavesRequest}
use Rattle.fallowtime_commands.specs.Performing.{IsAnswerTo, Performs, reply_of}
use Rattle.fallowtime_commands.specs.declared.answer.Answer.{Answer}
use Rattle.fallowtime_commands.specs.declared.answer.Answer.TheVariants as answer
use Rattle.fallowtime_requests.specs.declared.request.Request.{Request}
use Rattle.fallowtime_messages.specs.Waiting.{Wait}
use Rattle.fallowtime_commands.specs.Deeds.{Deed, Did}
use Rattle.fallowtime_messages.specs.Done.{DoesAll}
use Rattle.fallowtime_messages.specs.Outcomes.{CarriesOrStarts, DidNext, Enters, GoesIn, GoesOr, GoesOut, IsImport, IsRenameTo, Leads, LeadsOr, PutsOr, RenamesOrStarts, StartsIn, StartsLed, StartsOut, TellsBarred, TellsOut, TellsRenamed, TellsUnfound, WasRenamed, is_vacant, joined}
use Rattle.fallowtime_messages.specs.Runs.{deed_of}
use Rattle.fallowtime_statements.specs.declared.plans.asked.Plan.TheVariants as plan
use Rattle.fallowtime_statements.specs.declared.statement.Statement.{Statement}
use Rattle.fallowtime_messages.proofs.DoneLemmas.{none_done, one_before, one_done}

-- ---- another name

pub was_renamed : (name new : List ℕ) (q : Request) (r : Result Answer StoreError) (t u : State) → IsRenameTo new q → Moves t u (Performs name q r) → WasOpen t u r → LeavesRequest name q (reply_of r) t u → IfOk r (IsAnswerTo q) → WasRenamed name new r t u
was_renamed name new q r t u is moves stays crash shape = (record { name = name; request = q; outcome = r }, (refl, is, shape), refl, record { moves = moves; stays = stays; crash = crash })

pub renamed : (name new : List ℕ) (o : Result Answer StoreError) (r : Result Document AllocError) (t u : State) → WasRenamed name new o t u → IfOk r (λ d. TellsRenamed o (content d)) → DoesAll (RenamesOrStarts name new r) t u
renamed name new o (Ok m) t u (d, is, outcome, did) tells = (d ∷ [], (d, is, refl, subst (λ x. TellsRenamed x (content m)) (sym outcome) tells), one_done t u d did)
renamed name new o (Err e) t u (d, is, outcome, did) tells = (d ∷ [], (d, is, refl), one_done t u d did)

pub carried_rename : (name new : String Global) (ws : List Wait) (r : Result Document AllocError) (t u : State) → DoesAll (RenamesOrStarts (string_bytes name) (string_bytes new) r) t u → DoesAll (CarriesOrStarts (plan.Renames name new) ws ws r) t u
carried_rename name new ws (Ok d) t u (ds, is, moves) = (ds, (refl, is), moves)
carried_rename name new ws (Err e) t u (ds, starts, moves) = (ds, starts, moves)

-- ---- what is behind the first of statements

module _ (Goes : List Statement → Result Answer StoreError → List Deed → Members → Type 0) (Starts : List Statement → Result Answer StoreError → List Deed → Type 0) (after : List Statement) (o : Option (Result Answer StoreError)) (t u : State) where
  -- there is none
  pub none_led : (ss : List Statement) → DidNext ss after o t u → (e : AllocError) → o ≡ None → DoesAll (LeadsOr Goes Starts ss (Err e)) t u
  none_led [] (is, moves) e none = ([], refl, moves)
  none_led (y ∷ ys) (d, deed, is, rest, did) e none = absurd (let no = sym none ∙ is in cc)

  pub led_by : (ss : List Statement) → DidNext ss after o t u → (x : Result Answer StoreError) → o ≡ Some x → (r : Result Document AllocError) (v : State) → DoesAll (GoesOr Goes Starts after x r) u v → DoesAll (LeadsOr Goes Starts ss r) t v
  led_by [] (is, moves) x some r v does = absurd (let no = sym some ∙ is in cc)
  led_by (y ∷ ys) (d, deed, is, rest, did) x some (Ok m) v (ds, goes, moves) =
      let same : x ≡ d.outcome = search (rules, some, is) in
      (d ∷ ds, (d, ds, deed, refl, subst (λ l. Goes l d.outcome ds (content m)) rest (subst (λ p. Goes after p ds (content m)) same goes)), one_before t u v d ds did moves)
  led_by (y ∷ ys) (d, deed, is, rest, did) x some (Err e) v (ds, starts, moves) =
      let same : x ≡ d.outcome = search (rules, some, is) in
      (d ∷ ds, inr (d, ds, deed, refl, subst (λ l. Starts l d.outcome ds) rest (subst (λ p. Starts after p ds) same starts)), one_before t u v d ds did moves)

-- ---- what is found goes into a collection

module _ (target space : List ℕ) where
  -- nothing was put in yet
  pub none_out : (bodies : List (List ℕ)) (e : AllocError) (t : State) → DoesAll (PutsOr target space bodies (Err e)) t t
  none_out bodies e t = ([], inl refl, none_done t)

  pub all_out : (bodies : List (List ℕ)) (s : Statement) (o : Result Answer StoreError) (r : Result Document AllocError) (t u : State) → IsImport target (joined bodies) s → Did (Some (deed_of s o)) t u → IfOk o (IsAnswerTo s.request) → IfOk r (λ d. TellsOut space o (content d))
      → DoesAll (PutsOr target space bodies r) t u
  all_out bodies s o (Ok m) t u is did shape tells = (deed_of s o ∷ [], (s, deed_of s o, is, (refl, refl, shape), refl, tells), one_done t u (deed_of s o) did)
  all_out bodies s o (Err e) t u is did shape tells = (deed_of s o ∷ [], inr (s, deed_of s o, is, (refl, refl, shape), refl), one_done t u (deed_of s o) did)

  pub puts : (bodies : Vec (Vec ℕ Global) Global) (o : Result Answer StoreError) (r : Result Document AllocError) (t u : State) → o ≡ Ok (answer.Documents bodies) → DoesAll (PutsOr target space (bytes_of_each bodies.items) r) t u → (ss : List Statement)
      → DoesAll (GoesOr (GoesOut target space) (StartsOut target) ss o r) t u
  puts bodies o r t u is does ss = subst (λ x. DoesAll (GoesOr (GoesOut target space) (StartsOut target) ss x r) t u) (sym is) (by r does)
    where
      by : (q : Result Document AllocError) → DoesAll (PutsOr target space (bytes_of_each bodies.items) q) t u → DoesAll (GoesOr (GoesOut target space) (StartsOut target) ss (Ok (answer.Documents bodies)) q) t u
      by (Ok m) h = h
      by (Err e) h = h

  pub not_out : (o : Result Answer StoreError) (r : Result Document AllocError) (t : State) → IfOk r (λ d. TellsUnfound o (content d)) → (ss : List Statement)
      → DoesAll (GoesOr (GoesOut target space) (StartsOut target) ss o r) t t
  not_out (Ok (answer.Documents bodies)) (Ok m) t tells ss = absurd tells
  not_out (Ok (answer.Documents bodies)) (Err x) t tells ss = ([], inl refl, none_done t)
  not_out (Ok a) (Ok m) t tells ss = absurd tells
  not_out (Ok a) (Err x) t tells ss = ([], refl, none_done t)
  not_out (Err e) (Ok m) t tells ss = ([], (refl, tells), none_done t)
  not_out (Err e) (Err x) t tells ss = ([], refl, none_done t)

  module _ (ss : List Statement) (o : Result Answer StoreError) where
    pub enters : (r : Result Document AllocError) (t u : State) → is_vacant o ≡ true → DoesAll (LeadsOr (GoesOut target space) (StartsOut target) ss r) t u → DoesAll (GoesOr (GoesIn target space) (StartsIn target) ss o r) t u
    enters (Ok m) t u vacant (ds, leads, moves) = (ds, subst (λ b. Enters b target space ss o ds (content m)) (sym vacant) leads, moves)
    enters (Err e) t u vacant does = does

    none_led_yet : (xs : List Statement) → StartsLed (StartsOut target) xs []
    none_led_yet [] = refl
    none_led_yet (x ∷ xs) = inl refl

    pub barred : (r : Result Document AllocError) (t : State) → is_vacant o ≡ false → IfOk r (λ d. TellsBarred o (content d)) → DoesAll (GoesOr (GoesIn target space) (StartsIn target) ss o r) t t
    barred (Ok m) t some tells = ([], subst (λ b. Enters b target space ss o [] (content m)) (sym some) (refl, tells), none_done t)
    barred (Err e) t some tells = ([], none_led_yet ss, none_done t)

pub carried_out : (target space : String Global) (ss : Vec Statement Global) (r : Result Document AllocError) (t u : State) → DoesAll (LeadsOr (GoesIn (string_bytes target) (string_bytes space)) (StartsIn (string_bytes target)) ss.items r) t u → (ws : List Wait)
    → DoesAll (CarriesOrStarts (plan.Outs target space ss) ws ws r) t u
carried_out target space ss (Ok d) t u (ds, leads, moves) ws = (ds, (refl, leads), moves)
carried_out target space ss (Err e) t u (ds, starts, moves) ws = (ds, starts, moves)

-- ---- what is carried out begins

led_starts : (Goes : List Statement → Result Answer StoreError → List Deed → Members → Type 0) (Starts : List Statement → Result Answer StoreError → List Deed → Type 0)
    → ((ss : List Statement) (o : Result Answer StoreError) (ds : List Deed) (m : Members) → Goes ss o ds m → Starts ss o ds) → (ss : List Statement) (ds : List Deed) (m : Members) → Leads Goes ss ds m → StartsLed Starts ss ds
led_starts Goes Starts begins [] ds m h = absurd h
led_starts Goes Starts begins (s ∷ ss) ds m (d, rest, deed, split, goes) = inr (d, rest, deed, split, begins ss d.outcome rest m goes)

out_starts : (target space : List ℕ) (ss : List Statement) (o : Result Answer StoreError) (ds : List Deed) (m : Members) → GoesOut target space ss o ds m → StartsOut target ss o ds
out_starts target space ss (Ok (answer.Documents bodies)) ds m (s, d, is, deed, one, tells) = inr (s, d, is, deed, one)
out_starts target space ss (Ok a) ds m h = h.0
out_starts target space ss (Err e) ds m h = h.0

enters_starts : (b : Bool) (target space : List ℕ) (ss : List Statement) (o : Result Answer StoreError) (ds : List Deed) (m : Members) → Enters b target space ss o ds m → StartsLed (StartsOut target) ss ds
enters_starts true target space ss o ds m h = led_starts (GoesOut target space) (StartsOut target) (out_starts target space) ss ds m h
enters_starts false target space [] o ds m h = h.0
enters_starts false target space (s ∷ ss) o ds m h = inl h.0

pub in_starts : (target space : List ℕ) (ss : List Statement) (ds : List Deed) (m : Members) → Leads (GoesIn target space) ss ds m → StartsLed (StartsIn target) ss ds
in_starts target space ss ds m h = led_starts (GoesIn target space) (StartsIn target) (λ xs o es n g. enters_starts (is_vacant o) target space xs o es n g) ss ds m h
