-- A document that is found and changed, or put in.
use Rattle.std.proofs.Common.{◌≡◌, ℕ, Bool, false, true, List, [], ◌∷◌, Option, Some, None, Result, Ok, Err, IfOk, refl, ap, sym, ◌∙◌, subst, rules}
use Rattle.std.specs.declared.alloc.AllocError.{AllocError}
use Rattle.std.specs.declared.alloc.Global.{Global}
use Rattle.std.proofs.Common.{Vec}
use Rattle.sqlite.specs.State.{State}
use Rattle.bson_base.specs.Value.{Members, Value, null, scalar}
use Rattle.bson_model.specs.View.{content, view}
use Rattle.bson_model.specs.declared.bson.Bson.{Bson}
use Rattle.bson_model.specs.declared.document.Document.{Document}
use Rattle.store_model.specs.Refusal.{kind_name}
use Rattle.store_model.specs.declared.error.StoreError.{StoreError}
use Rattle.store_update.specs.declared.error.UpdateError.{UpdateError}
use Rattle.fallowtime_commands.specs.Performing.{IsAnswerTo}
use Rattle.fallowtime_commands.specs.Reports.{update_name}
use Rattle.fallowtime_commands.specs.declared.answer.Answer.{Answer}
use Rattle.fallowtime_commands.specs.declared.answer.Answer.TheVariants as answer
use Rattle.fallowtime_messages.specs.Waiting.{Wait}
use Rattle.fallowtime_commands.specs.Deeds.{Deed, Did}
use Rattle.fallowtime_messages.specs.Answers as told
use Rattle.fallowtime_messages.specs.Done.{DidAll, DoesAll}
use Rattle.fallowtime_messages.specs.Outcomes.{CarriesOrStarts, DidNext, Follows, GoesFound, GoesOrStarts, GoesPut, Leads, LeadsOrStarts, Shows, ShowsOrStarts, Tells, TellsNotPut, TellsShown, is_none}
use Rattle.fallowtime_messages.specs.Runs.{Begin, deed_of}
use Rattle.fallowtime_statements.specs.Codes.{code_of, update_code}
use Rattle.fallowtime_statements.specs.declared.plans.asked.Plan.TheVariants as plan
use Rattle.fallowtime_statements.specs.declared.statement.Statement.{Statement}
use Rattle.fallowtime_statements.specs.declared.plans.asked.Way.TheVariants as way
use Rattle.fallowtime_messages.proofs.DoneLemmas.{none_done, one_before, one_done}

-- ---- what is carried out begins

none_begun : (ss : List Statement) (ds : List Deed) → ds ≡ [] → Begin ss ds
none_begun ss ds none = subst (Begin ss) (sym none) tt

shown_begins : (ss : List Statement) (id : Value) (ds : List Deed) (m : Members) → Shows ss id ds m → Begin ss ds
shown_begins [] id ds m h = none_begun [] ds h.0
shown_begins (s ∷ ss) id ds m (d, deed, one, tells) = subst (Begin (s ∷ ss)) (sym one) (deed, tt)

put_goes : (ss : List Statement) (o : Result Answer StoreError) (ds : List Deed) (m : Members) → GoesPut ss o ds m → Begin ss ds
put_goes ss (Ok (answer.Upserted id)) ds m h = shown_begins ss (view id) ds m h
put_goes ss (Err e) ds m h = none_begun ss ds h.0
put_goes ss (Ok a) ds m h = none_begun ss ds h.0

put_begins : (ss : List Statement) (ds : List Deed) (m : Members) → Leads GoesPut ss ds m → Begin ss ds
put_begins [] ds m h = absurd h
put_begins (s ∷ ss) ds m (d, rest, deed, split, goes) = subst (Begin (s ∷ ss)) (sym split) (deed, put_goes ss d.outcome rest m goes)

follows_begins : (b : Bool) (ss : List Statement) (o : Result Answer StoreError) (ds : List Deed) (m : Members) → Follows b ss o ds m → Begin ss ds
follows_begins true ss o ds m h = put_begins ss ds m h
follows_begins false ss o ds m h = none_begun ss ds h.0

pub found_begins : (ss : List Statement) (ds : List Deed) (m : Members) → Leads GoesFound ss ds m → Begin ss ds
found_begins [] ds m h = absurd h
found_begins (s ∷ ss) ds m (d, rest, deed, split, goes) = subst (Begin (s ∷ ss)) (sym split) (deed, follows_begins (is_none d.outcome) ss d.outcome rest m goes)

-- ---- the next statement

pub next_done : (ss after : List Statement) (s : Statement) (o : Result Answer StoreError) (t u : State) → ss ≡ s ∷ after → Did (Some (deed_of s o)) t u → IfOk o (IsAnswerTo s.request) → DidNext ss after (Some o) t u
next_done ss after s o t u first did shape = subst (λ xs. DidNext xs after (Some o) t u) (sym first) (deed_of s o, (refl, refl, shape), refl, refl, did)

pub none_next : (ss after : List Statement) (t : State) → ss ≡ [] → DidNext ss after None t t
none_next ss after t none = subst (λ xs. DidNext xs after None t t) (sym none) (refl, none_done t)

module _ (ss after : List Statement) (o : Option (Result Answer StoreError)) (t u : State) (next : DidNext ss after o t u) where
  -- there is none, and no room for anything
  pub led_none : (Goes : List Statement → Result Answer StoreError → List Deed → Members → Type 0) (e : AllocError) → o ≡ None → DoesAll (LeadsOrStarts Goes ss (Err e)) t u
  led_none Goes e none = by ss next
    where
      by : (xs : List Statement) → DidNext xs after o t u → DoesAll (LeadsOrStarts Goes xs (Err e)) t u
      by [] (is, moves) = ([], tt, moves)
      by (x ∷ xs) (d, deed, is, rest, did) = absurd (let no = sym none ∙ is in cc)

  module _ (x : Result Answer StoreError) (some : o ≡ Some x) where
    pub led : (Goes : List Statement → Result Answer StoreError → List Deed → Members → Type 0) (r : Result Document AllocError) (v : State) → DoesAll (GoesOrStarts Goes after x r) u v → DoesAll (LeadsOrStarts Goes ss r) t v
    led Goes r v does = by ss next r does
      where
        by : (xs : List Statement) → DidNext xs after o t u → (q : Result Document AllocError) → DoesAll (GoesOrStarts Goes after x q) u v → DoesAll (LeadsOrStarts Goes xs q) t v
        by [] (is, moves) q h = absurd (let no = sym some ∙ is in cc)
        by (y ∷ ys) (d, deed, is, rest, did) (Ok m) (ds, goes, moves) =
            let same : x ≡ d.outcome = search (rules, some, is) in
            (d ∷ ds, (d, ds, deed, refl, subst (λ l. Goes l d.outcome ds (content m)) rest (subst (λ p. Goes after p ds (content m)) same goes)), one_before t u v d ds did moves)
        by (y ∷ ys) (d, deed, is, rest, did) (Err e) (ds, begins, moves) =
            (d ∷ ds, (deed, subst (λ l. Begin l ds) rest begins), one_before t u v d ds did moves)

    pub shown : (id : Value) (r : Result Document AllocError) → IfOk r (λ d. TellsShown id x (content d)) → DoesAll (ShowsOrStarts ss id r) t u
    shown id r tells = by ss next r tells
      where
        by : (xs : List Statement) → DidNext xs after o t u → (q : Result Document AllocError) → IfOk q (λ d. TellsShown id x (content d)) → DoesAll (ShowsOrStarts xs id q) t u
        by [] (is, moves) q h = absurd (let no = sym some ∙ is in cc)
        by (y ∷ ys) (d, deed, is, rest, did) (Ok m) h =
            let same : x ≡ d.outcome = search (rules, some, is) in
            (d ∷ [], (d, deed, refl, subst (λ p. TellsShown id p (content m)) same h), one_done t u d did)
        by (y ∷ ys) (d, deed, is, rest, did) (Err e) h = (d ∷ [], (deed, tt), one_done t u d did)

  pub not_shown : (id v : Value) (r : Result Document AllocError) → o ≡ None → v ≡ scalar null → IfOk r (λ d. content d ≡ told.put_in id v) → DoesAll (ShowsOrStarts ss id r) t u
  not_shown id v r none empty tells = by ss next r tells
    where
      by : (xs : List Statement) → DidNext xs after o t u → (q : Result Document AllocError) → IfOk q (λ d. content d ≡ told.put_in id v) → DoesAll (ShowsOrStarts xs id q) t u
      by [] (is, moves) (Ok m) h = ([], (refl, h ∙ ap (told.put_in id) empty), moves)
      by [] (is, moves) (Err e) h = ([], tt, moves)
      by (y ∷ ys) (d, deed, is, rest, did) q h = absurd (let no = sym none ∙ is in cc)

-- ---- behind outcomes

-- nothing more is done
pub goes_nowhere : (Goes : List Statement → Result Answer StoreError → List Deed → Members → Type 0) (ss : List Statement) (o : Result Answer StoreError) (r : Result Document AllocError) (t : State) → IfOk r (λ d. Goes ss o [] (content d)) → DoesAll (GoesOrStarts Goes ss o r) t t
goes_nowhere Goes ss o (Ok d) t goes = ([], goes, none_done t)
goes_nowhere Goes ss o (Err e) t goes = ([], tt, none_done t)

-- a document went in
pub goes_on : (ss : List Statement) (id : Bson) (r : Result Document AllocError) (t u : State) → DoesAll (ShowsOrStarts ss (view id) r) t u → DoesAll (GoesOrStarts GoesPut ss (Ok (answer.Upserted id)) r) t u
goes_on ss id (Ok d) t u does = does
goes_on ss id (Err e) t u does = does

-- none did
pub not_put : (ss : List Statement) (o : Result Answer StoreError) (r : Result Document AllocError) (t : State) → IfOk r (λ d. TellsNotPut o (content d)) → DoesAll (GoesOrStarts GoesPut ss o r) t t
not_put ss (Ok (answer.Upserted id)) (Ok d) t tells = absurd tells
not_put ss (Ok a) (Ok d) t tells = ([], (refl, tells), none_done t)
not_put ss (Err e) (Ok d) t tells = ([], (refl, tells), none_done t)
not_put ss o (Err x) t tells = ([], tt, none_done t)

module _ (ss : List Statement) (o : Result Answer StoreError) (r : Result Document AllocError) (t u : State) where
  -- none was found
  pub puts_in : is_none o ≡ true → DoesAll (LeadsOrStarts GoesPut ss r) t u → DoesAll (GoesOrStarts GoesFound ss o r) t u
  puts_in none does = by r does
    where
      by : (q : Result Document AllocError) → DoesAll (LeadsOrStarts GoesPut ss q) t u → DoesAll (GoesOrStarts GoesFound ss o q) t u
      by (Ok d) (ds, leads, moves) = (ds, subst (λ b. Follows b ss o ds (content d)) (sym none) leads, moves)
      by (Err e) does = does

-- one was, or that is refused
pub tells_found : (ss : List Statement) (o : Result Answer StoreError) (r : Result Document AllocError) (t : State) → is_none o ≡ false → IfOk r (λ d. Tells (way.Modified false) o (content d)) → DoesAll (GoesOrStarts GoesFound ss o r) t t
tells_found ss o (Ok d) t some tells = ([], subst (λ b. Follows b ss o [] (content d)) (sym some) (refl, tells), none_done t)
tells_found ss o (Err e) t some tells = ([], tt, none_done t)

pub carried_upserts : (ss : Vec Statement Global) (r : Result Document AllocError) (t u : State) → DoesAll (LeadsOrStarts GoesFound ss.items r) t u → (ws : List Wait) → DoesAll (CarriesOrStarts (plan.Upserts ss) ws ws r) t u
carried_upserts ss (Ok d) t u (ds, leads, moves) ws = (ds, (refl, leads), moves)
carried_upserts ss (Err e) t u (ds, begins, moves) ws = (ds, begins, moves)
