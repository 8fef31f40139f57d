-- What comes of a command.
use Rattle.std.proofs.Common.{◌≡◌, inl, inr, ℤ, pos, ℕ, Bool, false, true, List, [], ◌∷◌, map, Option, Some, None, Result, Ok, Err, IfOk, Vec, String, string_bytes, refl, ap, sym, ◌∙◌, subst}
use Rattle.std.specs.declared.alloc.AllocError.{AllocError}
use Rattle.std.specs.declared.alloc.Global.{Global}
use Rattle.sqlite.specs.State.{State}
use Rattle.std.specs.List.{AllZip}
use Rattle.bson_base.specs.Value.{Items, Members, Value, no_items}
use Rattle.bson_model.specs.declared.bson.Bson.{Bson}
use Rattle.bson_store.specs.Export.{bytes_of_each}
use Rattle.bson_model.specs.View.{content, items_of, view}
use Rattle.bson_model.specs.declared.document.Document.{Document}
use Rattle.bson_message.specs.declared.section.Sequence.{Sequence}
use Rattle.store_model.specs.declared.error.StoreError.{StoreError}
use Rattle.fallowtime_commands.specs.Performing.{IsAnswerTo}
use Rattle.fallowtime_commands.specs.declared.answer.Answer.{Answer}
use Rattle.fallowtime_commands.specs.declared.answer.Answer.TheVariants as answer
use Rattle.fallowtime_commands.specs.Deeds.{Deed, Did}
use Rattle.fallowtime_messages.specs.Answers as told
use Rattle.fallowtime_messages.specs.Done.{DoesAll}
use Rattle.fallowtime_messages.specs.Outcomes.{AreImports, AreMeant, Carries, CarriesOrStarts, Comes, InsertsOrStarts, IsImport, IsMeant, PutsAll, Starts, Tells, TellsBy, TellsClosed, TellsFault, TellsMore, TellsWritten, joined, told_by, told_of}
use Rattle.fallowtime_statements.specs.Plans.{Asks, IsRefused}
use Rattle.fallowtime_messages.specs.Runs.{RunsTo, Sums, changes, counts, deed_of, ids_from}
use Rattle.fallowtime_statements.specs.declared.plans.asked.Plan.{Plan}
use Rattle.fallowtime_statements.specs.declared.plans.asked.Plan.TheVariants as plan
use Rattle.fallowtime_statements.specs.declared.statement.Statement.{Statement}
use Rattle.fallowtime_statements.specs.declared.plans.asked.Way.{Way}
use Rattle.fallowtime_statements.specs.declared.plans.asked.Way.TheVariants as way
use Rattle.fallowtime_statements.specs.declared.fault.Code.{Code}
use Rattle.fallowtime_statements.specs.declared.fault.Fault.{Fault}
use Rattle.fallowtime_statements.specs.declared.fault.Fault.TheVariants.{Memory, Refused}
use Rattle.fallowtime_messages.specs.declared.writing.Written.{Written}
use Rattle.fallowtime_messages.proofs.DoneLemmas.{none_done, one_before, one_done}
use Rattle.fallowtime_statements.proofs.ListLemmas.{zip_seen}
use Rattle.fallowtime_messages.specs.Waiting.{Wait}
use Rattle.fallowtime_messages.proofs.RunLemmas.{run_begins}
use Rattle.fallowtime_messages.proofs.MovingLemmas.{in_starts}
use Rattle.fallowtime_messages.proofs.UpsertLemmas.{found_begins}

-- ---- one thing

pub carried_one : (s : Statement) (w : Way) (o : Result Answer StoreError) (r : Result Document AllocError) (old new : List Wait) (t u : State) → Did (Some (deed_of s o)) t u → IfOk o (IsAnswerTo s.request)
    → IfOk r (λ d. TellsBy w o old new (content d)) → DoesAll (CarriesOrStarts (plan.One s w) old new r) t u
carried_one s w o (Ok d) old new t u did shape tells = (deed_of s o ∷ [], (deed_of s o, (refl, refl, shape), refl, tells), one_done t u (deed_of s o) did)
carried_one s w o (Err e) old new t u did shape tells = (deed_of s o ∷ [], ((refl, refl, shape), tt), one_done t u (deed_of s o) did)

-- those of a batch
pub found_as : (r : Result Document AllocError) (text space : List ℕ) (vs ws : Items) → text ≡ space → vs ≡ ws → IfOk r (λ d. content d ≡ told.found text vs) → IfOk r (λ d. content d ≡ told.found space ws)
found_as (Ok d) text space vs ws same are is = is ∙ ap (λ t. told.found t vs) same ∙ ap (told.found space) are
found_as (Err e) text space vs ws same are is = tt

-- different values
pub values_told : (r : Result Document AllocError) (vs ws : List Value) → vs ≡ ws → IfOk r (λ d. content d ≡ told.values (items_of vs)) → IfOk r (λ d. content d ≡ told.values (items_of ws))
values_told (Ok d) vs ws are is = is ∙ ap (λ xs. told.values (items_of xs)) are
values_told (Err e) vs ws are is = tt

-- the document that was found and changed
pub changed_told : (r : Result Document AllocError) (removes : Bool) (body : Vec ℕ Global) (v : Value) → IsMeant body.items v → IfOk r (λ d. content d ≡ told.modified removes true v) → IfOk r (λ d. Tells (way.Modified removes) (Ok (answer.Found (Some body))) (content d))
changed_told (Ok d) removes body v means is = (v, means, is)
changed_told (Err e) removes body v means is = tt

-- the documents of a batch
pub batch_told : (r : Result Document AllocError) (bodies : List (Vec ℕ Global)) (xs : List Bson) (key space text : List ℕ) (id n : ℤ) → n ≡ id → AllZip (λ (b : Vec ℕ Global) (v : Bson). IsMeant b.items (view v)) bodies xs → text ≡ space
    → IfOk r (λ d. content d ≡ told.batch key n text (items_of (map view xs))) → IfOk r (λ d. (vs : Items) × AreMeant (bytes_of_each bodies) vs × (content d ≡ told.batch key id space vs))
batch_told (Ok d) bodies xs key space text id n number zip same is =
    (items_of (map view xs), (map view xs, refl, zip_seen IsMeant (λ (b : Vec ℕ Global). b.items) view bodies xs zip), is ∙ ap (λ z. told.batch key z text (items_of (map view xs))) number ∙ ap (λ t. told.batch key id t (items_of (map view xs))) same)
batch_told (Err e) bodies xs key space text id n number zip same is = tt

-- ---- changes

-- so they are told
told_written : (changed : Bool) (w : Written) (ds : List Deed) (m : Members) → Sums ds w → TellsWritten changed w m → m ≡ told_of changed ds
told_written changed w ds m sums tells =
    tells ∙ ap (λ n. told.written changed (pos n) (pos w.changed) (items_of (map view w.ids.items)) (items_of (map view w.errors.items))) sums.count
    ∙ ap (λ n. told.written changed (pos (counts ds)) (pos n) (items_of (map view w.ids.items)) (items_of (map view w.errors.items))) sums.changed
    ∙ ap (λ vs. told.written changed (pos (counts ds)) (pos (changes ds)) (items_of vs) (items_of (map view w.errors.items))) sums.ids
    ∙ ap (λ vs. told.written changed (pos (counts ds)) (pos (changes ds)) (items_of (ids_from 0 ds)) (items_of vs)) sums.errors

module _ (ss : Vec Statement Global) (stops changed : Bool) (ws : List Wait) (t u : State) where
  pub all_written : (w : Written) (r : Result Document AllocError) → DoesAll (RunsTo stops ss.items (Ok w)) t u → IfOk r (λ d. TellsWritten changed w (content d)) → DoesAll (CarriesOrStarts (plan.Writes ss stops changed) ws ws r) t u
  all_written w (Ok d) (ds, (run, sums), moves) tells = (ds, (refl, run, told_written changed w ds (content d) sums tells), moves)
  all_written w (Err e) (ds, (run, sums), moves) tells = (ds, run_begins stops ss.items ds run, moves)

  pub some_written : (x e : AllocError) → DoesAll (RunsTo stops ss.items (Err x)) t u → DoesAll (CarriesOrStarts (plan.Writes ss stops changed) ws ws (Err e)) t u
  some_written x e (ds, begins, moves) = (ds, begins, moves)

-- ---- insertions

module _ (name : List ℕ) (documents : List (List ℕ)) (stops : Bool) where
  -- nothing was put in yet
  pub none_put : (e : AllocError) (t : State) → DoesAll (InsertsOrStarts name documents stops (Err e)) t t
  none_put e t = ([], inl refl, none_done t)

  module _ (s : Statement) (t u : State) (is : IsImport name (joined documents) s) where
    -- all were
    pub all_put : (n : ℕ) (o : Option ℕ) (r : Result Document AllocError) → o ≡ Some n → PutsAll s o t u → IfOk r (λ d. content d ≡ told.written false (pos n) (pos 0) no_items no_items) → DoesAll (InsertsOrStarts name documents stops r) t u
    all_put n o (Ok x) some (d, deed, number, did) tells = (d ∷ [], (s, d, [], is, deed, refl, inl (n, sym number ∙ some, refl, tells)), one_done t u d did)
    all_put n o (Err e) some (d, deed, number, did) tells = (d ∷ [], inr (s, d, [], is, deed, refl, inl refl), one_done t u d did)

    -- that is refused, and there is no room to go on
    pub none_left : (o : Option ℕ) (e : AllocError) → PutsAll s o t u → DoesAll (InsertsOrStarts name documents stops (Err e)) t u
    none_left o e (d, deed, number, did) = (d ∷ [], inr (s, d, [], is, deed, refl, inl refl), one_done t u d did)

    module _ (o : Option ℕ) (none : o ≡ None) (ss : List Statement) (are : AreImports name documents ss) (v : State) where
      -- each by itself
      pub each_put : (w : Written) (r : Result Document AllocError) → PutsAll s o t u → DoesAll (RunsTo stops ss (Ok w)) u v → IfOk r (λ x. TellsWritten false w (content x)) → DoesAll (InsertsOrStarts name documents stops r) t v
      each_put w (Ok x) (d, deed, number, did) (ds, (run, sums), moves) tells =
          (d ∷ ds, (s, d, ds, is, deed, refl, inr (sym number ∙ none, (ss, are, run), told_written false w ds (content x) sums tells)), one_before t u v d ds did moves)
      each_put w (Err e) (d, deed, number, did) (ds, (run, sums), moves) tells =
          (d ∷ ds, inr (s, d, ds, is, deed, refl, inr (sym number ∙ none, (ss, are, run_begins stops ss ds run))), one_before t u v d ds did moves)

      pub some_put : (x : AllocError) (e : AllocError) → PutsAll s o t u → DoesAll (RunsTo stops ss (Err x)) u v → DoesAll (InsertsOrStarts name documents stops (Err e)) t v
      some_put x e (d, deed, number, did) (ds, begins, moves) = (d ∷ ds, inr (s, d, ds, is, deed, refl, inr (sym number ∙ none, (ss, are, begins))), one_before t u v d ds did moves)

-- ---- plans

pub carried_told : (d : Document) (ws : List Wait) (t : State) → DoesAll (CarriesOrStarts (plan.Told d) ws ws (Ok d)) t t
carried_told d ws t = ([], (refl, refl, refl), none_done t)

pub carried_more : (space : String Global) (id n : ℤ) (text : List ℕ) (size : ℕ) (old new : List Wait) (r : Result Document AllocError) (t : State) → n ≡ id → text ≡ string_bytes space → IfOk r (λ d. TellsMore text n size old new (content d))
    → DoesAll (CarriesOrStarts (plan.More space id size) old new r) t t
carried_more space id n text size old new (Ok d) t is same tells =
    ([], (refl, subst (λ z. TellsMore (string_bytes space) z size old new (content d)) is (subst (λ x. TellsMore x n size old new (content d)) same tells)), none_done t)
carried_more space id n text size old new (Err e) t is same tells = ([], refl, none_done t)

pub carried_closed : (space : String Global) (ids : Vec ℤ Global) (old new : List Wait) (r : Result Document AllocError) (t : State) → IfOk r (λ d. TellsClosed (string_bytes space) ids.items old new (content d)) → DoesAll (CarriesOrStarts (plan.Closes space ids) old new r) t t
carried_closed space ids old new (Ok d) t tells = ([], (refl, tells), none_done t)
carried_closed space ids old new (Err e) t tells = ([], refl, none_done t)

pub carried_inserts : (name : String Global) (documents : Vec (Vec ℕ Global) Global) (stops : Bool) (ws : List Wait) (r : Result Document AllocError) (t u : State) → DoesAll (InsertsOrStarts (string_bytes name) (bytes_of_each documents.items) stops r) t u
    → DoesAll (CarriesOrStarts (plan.Inserts name documents stops) ws ws r) t u
carried_inserts name documents stops ws (Ok d) t u (ds, inserts, moves) = (ds, (refl, inserts), moves)
carried_inserts name documents stops ws (Err e) t u (ds, begins, moves) = (ds, begins, moves)

-- what is carried out begins
starts : (p : Plan) (old new : List Wait) (ds : List Deed) (m : Members) → Carries p old new ds m → Starts p ds
starts (plan.Told d) old new ds m h = h.0
starts (plan.One s w) old new ds m (d, deed, one, tells) = subst (λ xs. Starts (plan.One s w) xs) (sym one) (deed, tt)
starts (plan.More space id size) old new ds m h = h.0
starts (plan.Closes space ids) old new ds m h = h.0
starts (plan.Upserts ss) old new ds m h = found_begins ss.items ds m h.1
starts (plan.Writes ss stops changed) old new ds m h = run_begins stops ss.items ds h.1
starts (plan.Renames name to) old new ds m (same, (d, is, one, tells)) = (d, is, one)
starts (plan.Outs target space ss) old new ds m h = in_starts (string_bytes target) (string_bytes space) ss.items ds m h.1
starts (plan.Inserts name documents stops) old new ds m (same, (s, d, rest, is, deed, split, inl all)) = inr (s, d, rest, is, deed, split, inl all.2)
starts (plan.Inserts name documents stops) old new ds m (same, (s, d, rest, is, deed, split, inr (none, (ss, are, run), tells))) = inr (s, d, rest, is, deed, split, inr (none, (ss, are, run_begins stops ss rest run)))

-- ---- commands

module _ (db : List ℕ) (ms : Members) (ss : List Sequence) (old new : List Wait) where
  pub carried : (p : Plan) (r : Result Document AllocError) (t u : State) → Asks db ms ss p → DoesAll (CarriesOrStarts p old new r) t u → DoesAll (Comes db ms ss old new (told_by r)) t u
  carried p (Ok d) t u asks (ds, is, moves) = (ds, inr (p, asks, inl is), moves)
  carried p (Err e) t u asks (ds, is, moves) = (ds, inr (p, asks, inr (is, refl)), moves)

  pub refused : (f : Fault) (r : Result Document AllocError) (t : State) → new ≡ old → IsRefused ms f → TellsFault f (told_by r) → DoesAll (Comes db ms ss old new (told_by r)) t t
  refused f r t same is tells = ([], inl (refl, same, (f, is, tells)), none_done t)

  -- there may be no room for what is told
  pub no_room_too : (m : Members) (ds : List Deed) → Comes db ms ss old new m ds → Comes db ms ss old new told.no_room ds
  no_room_too m ds (inl h) = inl (h.0, h.1, (Memory, inl tt, refl))
  no_room_too m ds (inr (p, asks, inl carries)) = inr (p, asks, inr (starts p old new ds m carries, refl))
  no_room_too m ds (inr (p, asks, inr begins)) = inr (p, asks, inr (begins.0, refl))

-- ---- what is told

pub tells_refusal : (c : Code) (text : String Global) (r : Result Document AllocError) → IfOk r (λ d. content d ≡ told.refused (string_bytes text) c) → TellsFault (Refused c text) (told_by r)
tells_refusal c text (Ok d) is = inl is
tells_refusal c text (Err e) is = inr refl

pub tells_memory : (r : Result Document AllocError) → IfOk r (λ d. content d ≡ told.no_room) → TellsFault Memory (told_by r)
tells_memory (Ok d) is = is
tells_memory (Err e) is = refl
