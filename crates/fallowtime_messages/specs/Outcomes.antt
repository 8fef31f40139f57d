-- What comes of a command.
use Rattle.std.specs.Prelude.{◌≡◌, ◌⊎◌, ◌==◌, ℤ, pos, ℕ, Bool, true, false, not, List, [], ◌∷◌, ◌++◌, codes, map, Option, Some, None, Result, Ok, Err, IfOk, string_bytes}
use Rattle.std.specs.Option.{option_map}
use Rattle.std.specs.List.{AllZip, flat_map}
use Rattle.std.specs.declared.alloc.AllocError.{AllocError}
use Rattle.std.specs.declared.alloc.Global.{Global}
use Rattle.sqlite.specs.State.{State}
use Rattle.bson_base.specs.Value.{Items, Members, Value, document, int64, no_items, null, scalar}
use Rattle.bson_bytes.specs.Spells.{Means}
use Rattle.bson_message.specs.declared.section.Sequence.{Sequence}
use Rattle.bson_model.specs.View.{content, items_of, view}
use Rattle.bson_model.specs.declared.document.Document.{Document}
use Rattle.bson_store.specs.Export.{bytes_of_each}
use Rattle.store_pipeline.specs.Counted.{value_in}
use Rattle.store_model.specs.Refusal.{kind_name}
use Rattle.store_model.specs.declared.error.StoreError.{StoreError}
use Rattle.fallowtime_commands.specs.Performing.{IsAnswerTo}
use Rattle.fallowtime_commands.specs.Reports.{update_name}
use Rattle.fallowtime_commands.specs.declared.answer.Answer.{Answer}
use Rattle.fallowtime_commands.specs.declared.answer.Answer.TheVariants as answer
use Rattle.fallowtime_requests.specs.declared.request.Existing.TheVariants as existing
use Rattle.fallowtime_requests.specs.declared.request.Request.{Request}
use Rattle.fallowtime_requests.specs.declared.request.Request.TheVariants as request
use Rattle.fallowtime_requests.specs.declared.request.Transfer.TheVariants as transfer
use Rattle.fallowtime_commands.specs.Deeds.{Deed, Did}
use Rattle.fallowtime_messages.specs.Waiting.{BatchTold, ClosedTold, MoreTold, Wait}
use Rattle.fallowtime_messages.specs.declared.batch.Batch.{Batch}
use Rattle.fallowtime_messages.specs.Answers as told
use Rattle.fallowtime_messages.specs.Done.{DidAll}
use Rattle.fallowtime_statements.specs.Codes.{code_of, rename_code, update_code}
use Rattle.fallowtime_statements.specs.Plans.{Asks, IsRefused}
use Rattle.fallowtime_statements.specs.Told.{done}
use Rattle.fallowtime_messages.specs.Runs.{AreRun, Begin, IsDeedOf, changes, counts, errors_from, ids_from}
use Rattle.fallowtime_statements.specs.declared.plans.asked.Plan.{Plan}
use Rattle.fallowtime_statements.specs.declared.plans.asked.Plan.TheVariants as plan
use Rattle.fallowtime_statements.specs.declared.statement.Statement.{Statement}
use Rattle.fallowtime_statements.specs.declared.plans.asked.Way.{Way}
use Rattle.fallowtime_statements.specs.declared.plans.asked.Way.TheVariants as way
use Rattle.fallowtime_statements.specs.declared.fault.Code.TheVariants as code
use Rattle.fallowtime_statements.specs.declared.fault.Fault.{Fault}
use Rattle.fallowtime_statements.specs.declared.fault.Fault.TheVariants.{Memory, Refused}
use Rattle.fallowtime_messages.specs.declared.writing.Written.{Written}

-- ---- one outcome

-- the documents that bytes mean
abbrev pub IsMeant : List ℕ → Value → Type 0
IsMeant b (document ms) = Means b ms
IsMeant b v = ⊥

abbrev pub AreMeant : List (List ℕ) → Items → Type 0
AreMeant bs vs = (xs : List Value) × (vs ≡ items_of xs) × AllZip IsMeant bs xs

-- the document that tells it
abbrev pub Tells : Way → Result Answer StoreError → Members → Type 0
Tells w (Err e) m = m ≡ told.refused (kind_name e.kind) (code_of e.kind)
Tells (way.Counted skip most) (Ok (answer.Number n)) m = m ≡ told.counts (pos (told.counted skip most n))
Tells (way.Grouped space id skip most) (Ok (answer.Number n)) m = m ≡ told.found (string_bytes space) (told.group (view id) (told.counted skip most n))
Tells way.Made (Ok (answer.Number n)) m = m ≡ told.made n
Tells (way.Dropped space) (Ok (answer.Number n)) m = m ≡ told.dropped (string_bytes space) n
Tells (way.Indexed space) (Ok (answer.Number n)) m = m ≡ told.indexes (string_bytes space) n
Tells (way.Unindexed all) (Ok (answer.Number n)) m = m ≡ told.unindexed all n
Tells (way.Modified removes) (Ok (answer.Found None)) m = m ≡ told.modified removes false (scalar null)
Tells (way.Modified removes) (Ok (answer.Found (Some body))) m = (v : Value) × IsMeant body.items v × (m ≡ told.modified removes true v)
Tells (way.Modified removes) (Ok (answer.NotUpdated i e)) m = m ≡ told.refused (update_name e) (update_code e)
Tells way.Different (Ok (answer.Values cs counts)) m = m ≡ told.values (items_of (map value_in cs.items))
Tells (way.Named space only) (Ok (answer.Names ns)) m = m ≡ told.found (string_bytes space) (items_of (told.wanted (option_map string_bytes only) (map string_bytes ns.items)))
Tells w (Ok a) m = ⊥

-- the document that tells what is kept of changes
abbrev pub TellsWritten : Bool → Written → Members → Type 0
TellsWritten told_changed w m = m ≡ told.written told_changed (pos w.count) (pos w.changed) (items_of (map view w.ids.items)) (items_of (map view w.errors.items))

-- the document that tells what was done of changes, and whether it tells how many documents are other ones now
abbrev pub told_of : Bool → List Deed → Members
told_of told_changed ds = told.written told_changed (pos (counts ds)) (pos (changes ds)) (items_of (ids_from 0 ds)) (items_of (errors_from 0 ds))

-- ---- batches

-- the key of the first batch of a find, and of a further one
abbrev pub batch_key : Bool → List ℕ
batch_key true = codes "firstBatch"
batch_key false = codes "nextBatch"

-- the batch is told under this key
abbrev pub TellsBatch : List ℕ → List ℕ → Batch → Members → Type 0
TellsBatch key space b m = (vs : Items) × AreMeant (bytes_of_each b.bodies.items) vs × (m ≡ told.batch key b.id space vs)

-- The documents that were found: those of the first batch are told, and what is left waits.
abbrev pub TellsDocuments : List ℕ → ℕ → Bool → List (List ℕ) → List Wait → List Wait → Members → Type 0
TellsDocuments space size single bodies old new m = (b : Batch) × BatchTold single size space bodies (Ok b) old new × TellsBatch (batch_key true) space b m

abbrev pub TellsFound : List ℕ → ℕ → Bool → Result Answer StoreError → List Wait → List Wait → Members → Type 0
TellsFound space size single (Ok (answer.Documents bodies)) old new m = TellsDocuments space size single (bytes_of_each bodies.items) old new m
TellsFound space size single (Ok (answer.NotCalculated e)) old new m = (new ≡ old) × (m ≡ told.refused (update_name e) (update_code e))
TellsFound space size single (Ok a) old new m = ⊥
TellsFound space size single (Err e) old new m = (new ≡ old) × (m ≡ told.refused (kind_name e.kind) (code_of e.kind))

-- what is told of an outcome, and what waits then
abbrev pub TellsBy : Way → Result Answer StoreError → List Wait → List Wait → Members → Type 0
TellsBy (way.Found space size single) o old new m = TellsFound (string_bytes space) size single o old new m
TellsBy w o old new m = (new ≡ old) × Tells w o m

-- a further batch is told, or that the find doesn't wait
abbrev pub TellsMore : List ℕ → ℤ → ℕ → List Wait → List Wait → Members → Type 0
TellsMore space id size old new m =
    ((b : Batch) × MoreTold size id space (Ok (Some b)) old new × TellsBatch (batch_key false) space b m)
    ⊎ (MoreTold size id space (Ok None) old new × (m ≡ told.refused (codes "getMore") code.CursorNotFound))

abbrev pub number : ℤ → Value
number id = scalar (int64 id)

abbrev pub with_number : Bool → List Value → ℤ → List Value
with_number true vs id = vs ++ number id ∷ []
with_number false vs id = vs

-- Finds are let go, one after the other, behind those whose numbers are told already: which of them waited, and which didn't.
abbrev pub Closes : List ℕ → List ℤ → List Value → List Value → List Wait → List Wait → List Value → List Value → Type 0
Closes space [] killed missing old new ks ms = (new ≡ old) × (ks ≡ killed) × (ms ≡ missing)
Closes space (id ∷ ids) killed missing old new ks ms =
    (is : Bool) × (mid : List Wait) × ClosedTold id space is old mid × Closes space ids (with_number is killed id) (with_number (not is) missing id) mid new ks ms

abbrev pub TellsClosed : List ℕ → List ℤ → List Wait → List Wait → Members → Type 0
TellsClosed space ids old new m = (ks ms : List Value) × Closes space ids [] [] old new ks ms × (m ≡ told.closed (items_of ks) (items_of ms))

-- ---- insertions

-- the request puts the documents of these bytes in, all or none
abbrev pub IsImportOf : List ℕ → Request → Type 0
IsImportOf bytes (request.Import stream existing.Refuse) = stream.items ≡ bytes
IsImportOf bytes r = ⊥

-- the statement does, into this collection
abbrev pub IsImport : List ℕ → List ℕ → Statement → Type 0
IsImport name bytes s = (string_bytes s.name ≡ name) × IsImportOf bytes s.request

-- one for each document
abbrev pub AreImports : List ℕ → List (List ℕ) → List Statement → Type 0
AreImports name ds ss = AllZip (IsImport name) ds ss

abbrev pub joined : List (List ℕ) → List ℕ
joined ds = flat_map (λ (d : List ℕ). d) ds

-- how many documents were put in, if they were
abbrev pub number_of : Result Answer StoreError → Option ℕ
number_of (Ok (answer.Number n)) = Some n
number_of r = None

-- all at once were put in; or that is refused, and each by itself is
abbrev pub Inserts : List ℕ → List (List ℕ) → Bool → List Deed → Members → Type 0
Inserts name ds stops deeds m = (s : Statement) × (d : Deed) × (rest : List Deed) × IsImport name (joined ds) s × IsDeedOf s d × (deeds ≡ d ∷ rest)
    × (((n : ℕ) × (number_of d.outcome ≡ Some n) × (rest ≡ []) × (m ≡ told.written false (pos n) (pos 0) no_items no_items))
    ⊎ ((number_of d.outcome ≡ None) × ((ss : List Statement) × AreImports name ds ss × AreRun stops ss rest)
    × (m ≡ told_of false rest)))

-- a beginning of that
abbrev pub StartsInserts : List ℕ → List (List ℕ) → List Deed → Type 0
StartsInserts name ds deeds = (deeds ≡ []) ⊎ ((s : Statement) × (d : Deed) × (rest : List Deed) × IsImport name (joined ds) s × IsDeedOf s d × (deeds ≡ d ∷ rest)
    × ((rest ≡ []) ⊎ ((number_of d.outcome ≡ None) × ((ss : List Statement) × AreImports name ds ss × Begin ss rest))))

-- ---- a document that is found and changed, or put in

-- as it was found
abbrev pub TellsFirst : Value → List (List ℕ) → Members → Type 0
TellsFirst id [] m = ⊥
TellsFirst id (b ∷ bs) m = (v : Value) × IsMeant b v × (m ≡ told.put_in id v)

abbrev pub TellsShown : Value → Result Answer StoreError → Members → Type 0
TellsShown id (Ok (answer.Documents bodies)) m = TellsFirst id (bytes_of_each bodies.items) m
TellsShown id (Ok a) m = ⊥
TellsShown id (Err e) m = m ≡ told.refused (kind_name e.kind) (code_of e.kind)

-- the first of the statements was done, and what is done and told behind it is by its outcome and the others
abbrev pub Leads : (List Statement → Result Answer StoreError → List Deed → Members → Type 0) → List Statement → List Deed → Members → Type 0
Leads Goes [] ds m = ⊥
Leads Goes (s ∷ ss) ds m = (d : Deed) × (rest : List Deed) × IsDeedOf s d × (ds ≡ d ∷ rest) × Goes ss d.outcome rest m

-- the document with this `_id` went in: it is found if there is a statement for that
abbrev pub Shows : List Statement → Value → List Deed → Members → Type 0
Shows [] id ds m = (ds ≡ []) × (m ≡ told.put_in id (scalar null))
Shows (s ∷ ss) id ds m = (d : Deed) × IsDeedOf s d × (ds ≡ d ∷ []) × TellsShown id d.outcome m

-- why no document was put in
abbrev pub TellsNotPut : Result Answer StoreError → Members → Type 0
TellsNotPut (Ok (answer.NotUpserted e)) m = m ≡ told.refused (update_name e) (update_code e)
TellsNotPut (Ok a) m = ⊥
TellsNotPut (Err e) m = m ≡ told.refused (kind_name e.kind) (code_of e.kind)

-- behind an upsert
abbrev pub GoesPut : List Statement → Result Answer StoreError → List Deed → Members → Type 0
GoesPut ss (Ok (answer.Upserted id)) ds m = Shows ss (view id) ds m
GoesPut ss o ds m = (ds ≡ []) × TellsNotPut o m

-- no document was found
abbrev pub is_none : Result Answer StoreError → Bool
is_none (Ok (answer.Found None)) = true
is_none o = false

abbrev pub Follows : Bool → List Statement → Result Answer StoreError → List Deed → Members → Type 0
Follows true ss o ds m = Leads GoesPut ss ds m
Follows false ss o ds m = (ds ≡ []) × Tells (way.Modified false) o m

-- behind what finds a document and changes it: if there is none, one is put in
abbrev pub GoesFound : List Statement → Result Answer StoreError → List Deed → Members → Type 0
GoesFound ss o ds m = Follows (is_none o) ss o ds m

-- ---- documents that go to another collection

-- the request gives them to the collection of this name
abbrev pub IsRenameTo : List ℕ → Request → Type 0
IsRenameTo new (request.Transfer (transfer.Rename t false)) = t.now ≡ new
IsRenameTo new r = ⊥

-- it was done, of the collection of the first name
abbrev pub IsRename : List ℕ → List ℕ → Deed → Type 0
IsRename name new d = (d.name ≡ name) × IsRenameTo new d.request × IfOk d.outcome (IsAnswerTo d.request)

abbrev pub TellsRenamed : Result Answer StoreError → Members → Type 0
TellsRenamed (Ok a) m = m ≡ done
TellsRenamed (Err e) m = m ≡ told.refused (kind_name e.kind) (rename_code e.kind)

abbrev pub Renames : List ℕ → List ℕ → List Deed → Members → Type 0
Renames name new ds m = (d : Deed) × IsRename name new d × (ds ≡ d ∷ []) × TellsRenamed d.outcome m

abbrev pub StartsRename : List ℕ → List ℕ → List Deed → Type 0
StartsRename name new ds = (d : Deed) × IsRename name new d × (ds ≡ d ∷ [])

-- the documents went into a collection, all of them, or none
abbrev pub TellsOut : List ℕ → Result Answer StoreError → Members → Type 0
TellsOut space (Ok (answer.Number n)) m = m ≡ told.found space no_items
TellsOut space (Ok a) m = ⊥
TellsOut space (Err e) m = m ≡ told.refused (kind_name e.kind) (code_of e.kind)

abbrev pub PutsOut : List ℕ → List ℕ → List (List ℕ) → List Deed → Members → Type 0
PutsOut target space bodies ds m = (s : Statement) × (d : Deed) × IsImport target (joined bodies) s × IsDeedOf s d × (ds ≡ d ∷ []) × TellsOut space d.outcome m

-- nothing was found
abbrev pub TellsUnfound : Result Answer StoreError → Members → Type 0
TellsUnfound (Ok a) m = ⊥
TellsUnfound (Err e) m = m ≡ told.refused (kind_name e.kind) (code_of e.kind)

-- behind a find: what was found goes into the collection
abbrev pub GoesOut : List ℕ → List ℕ → List Statement → Result Answer StoreError → List Deed → Members → Type 0
GoesOut target space ss (Ok (answer.Documents bodies)) ds m = PutsOut target space (bytes_of_each bodies.items) ds m
GoesOut target space ss o ds m = (ds ≡ []) × TellsUnfound o m

-- a collection has no documents
abbrev pub is_vacant : Result Answer StoreError → Bool
is_vacant (Ok (answer.Number n)) = n == 0
is_vacant o = false

-- it has some, or that isn't known
abbrev pub TellsBarred : Result Answer StoreError → Members → Type 0
TellsBarred (Ok a) m = m ≡ told.refused (codes "$out") code.NamespaceExists
TellsBarred (Err e) m = m ≡ told.refused (kind_name e.kind) (code_of e.kind)

abbrev pub Enters : Bool → List ℕ → List ℕ → List Statement → Result Answer StoreError → List Deed → Members → Type 0
Enters true target space ss o ds m = Leads (GoesOut target space) ss ds m
Enters false target space ss o ds m = (ds ≡ []) × TellsBarred o m

-- behind its count
abbrev pub GoesIn : List ℕ → List ℕ → List Statement → Result Answer StoreError → List Deed → Members → Type 0
GoesIn target space ss o ds m = Enters (is_vacant o) target space ss o ds m

-- a beginning of that: the first of the statements was done, and what is behind it begins
abbrev pub StartsLed : (List Statement → Result Answer StoreError → List Deed → Type 0) → List Statement → List Deed → Type 0
StartsLed Starts [] ds = ds ≡ []
StartsLed Starts (s ∷ ss) ds = (ds ≡ []) ⊎ ((d : Deed) × (rest : List Deed) × IsDeedOf s d × (ds ≡ d ∷ rest) × Starts ss d.outcome rest)

abbrev pub StartsPut : List ℕ → List (List ℕ) → List Deed → Type 0
StartsPut target bodies ds = (ds ≡ []) ⊎ ((s : Statement) × (d : Deed) × IsImport target (joined bodies) s × IsDeedOf s d × (ds ≡ d ∷ []))

abbrev pub StartsOut : List ℕ → List Statement → Result Answer StoreError → List Deed → Type 0
StartsOut target ss (Ok (answer.Documents bodies)) ds = StartsPut target (bytes_of_each bodies.items) ds
StartsOut target ss o ds = ds ≡ []

abbrev pub StartsIn : List ℕ → List Statement → Result Answer StoreError → List Deed → Type 0
StartsIn target ss o ds = StartsLed (StartsOut target) ss ds

-- ---- plans

-- what was done, the document that tells it, and what waits before and behind it
abbrev pub Carries : Plan → List Wait → List Wait → List Deed → Members → Type 0
Carries (plan.Told d) old new ds m = (ds ≡ []) × (new ≡ old) × (m ≡ content d)
Carries (plan.One s w) old new ds m = (d : Deed) × IsDeedOf s d × (ds ≡ d ∷ []) × TellsBy w d.outcome old new m
Carries (plan.More space id size) old new ds m = (ds ≡ []) × TellsMore (string_bytes space) id size old new m
Carries (plan.Closes space ids) old new ds m = (ds ≡ []) × TellsClosed (string_bytes space) ids.items old new m
Carries (plan.Upserts ss) old new ds m = (new ≡ old) × Leads GoesFound ss.items ds m
Carries (plan.Renames name to) old new ds m = (new ≡ old) × Renames (string_bytes name) (string_bytes to) ds m
Carries (plan.Outs target space ss) old new ds m = (new ≡ old) × Leads (GoesIn (string_bytes target) (string_bytes space)) ss.items ds m
Carries (plan.Writes ss stops changed) old new ds m = (new ≡ old) × AreRun stops ss.items ds × (m ≡ told_of changed ds)
Carries (plan.Inserts name documents stops) old new ds m = (new ≡ old) × Inserts (string_bytes name) (bytes_of_each documents.items) stops ds m

-- what may have been done if there is no room for that document
abbrev pub Starts : Plan → List Deed → Type 0
Starts (plan.Told d) ds = ds ≡ []
Starts (plan.One s w) ds = Begin (s ∷ []) ds
Starts (plan.More space id size) ds = ds ≡ []
Starts (plan.Closes space ids) ds = ds ≡ []
Starts (plan.Upserts ss) ds = Begin ss.items ds
Starts (plan.Renames name to) ds = StartsRename (string_bytes name) (string_bytes to) ds
Starts (plan.Outs target space ss) ds = StartsLed (StartsIn (string_bytes target)) ss.items ds
Starts (plan.Writes ss stops changed) ds = Begin ss.items ds
Starts (plan.Inserts name documents stops) ds = StartsInserts (string_bytes name) (bytes_of_each documents.items) ds

abbrev pub CarriesOrStarts : Plan → List Wait → List Wait → Result Document AllocError → List Deed → Type 0
CarriesOrStarts p old new (Ok d) ds = Carries p old new ds (content d)
CarriesOrStarts p old new (Err e) ds = Starts p ds

abbrev pub InsertsOrStarts : List ℕ → List (List ℕ) → Bool → Result Document AllocError → List Deed → Type 0
InsertsOrStarts name documents stops (Ok d) ds = Inserts name documents stops ds (content d)
InsertsOrStarts name documents stops (Err e) ds = StartsInserts name documents ds

-- of what is done and told by an outcome, all, or a beginning if there is no room for the answer
abbrev pub GoesOrStarts : (List Statement → Result Answer StoreError → List Deed → Members → Type 0) → List Statement → Result Answer StoreError → Result Document AllocError → List Deed → Type 0
GoesOrStarts Goes ss o (Ok d) ds = Goes ss o ds (content d)
GoesOrStarts Goes ss o (Err e) ds = Begin ss ds

abbrev pub LeadsOrStarts : (List Statement → Result Answer StoreError → List Deed → Members → Type 0) → List Statement → Result Document AllocError → List Deed → Type 0
LeadsOrStarts Goes ss (Ok d) ds = Leads Goes ss ds (content d)
LeadsOrStarts Goes ss (Err e) ds = Begin ss ds

abbrev pub ShowsOrStarts : List Statement → Value → Result Document AllocError → List Deed → Type 0
ShowsOrStarts ss id (Ok d) ds = Shows ss id ds (content d)
ShowsOrStarts ss id (Err e) ds = Begin ss ds

abbrev pub RenamesOrStarts : List ℕ → List ℕ → Result Document AllocError → List Deed → Type 0
RenamesOrStarts name new (Ok d) ds = Renames name new ds (content d)
RenamesOrStarts name new (Err e) ds = StartsRename name new ds

abbrev pub PutsOr : List ℕ → List ℕ → List (List ℕ) → Result Document AllocError → List Deed → Type 0
PutsOr target space bodies (Ok d) ds = PutsOut target space bodies ds (content d)
PutsOr target space bodies (Err e) ds = StartsPut target bodies ds

abbrev pub GoesOr : (List Statement → Result Answer StoreError → List Deed → Members → Type 0) → (List Statement → Result Answer StoreError → List Deed → Type 0) → List Statement → Result Answer StoreError → Result Document AllocError → List Deed → Type 0
GoesOr Goes Starts ss o (Ok d) ds = Goes ss o ds (content d)
GoesOr Goes Starts ss o (Err e) ds = Starts ss o ds

abbrev pub LeadsOr : (List Statement → Result Answer StoreError → List Deed → Members → Type 0) → (List Statement → Result Answer StoreError → List Deed → Type 0) → List Statement → Result Document AllocError → List Deed → Type 0
LeadsOr Goes Starts ss (Ok d) ds = Leads Goes ss ds (content d)
LeadsOr Goes Starts ss (Err e) ds = StartsLed Starts ss ds

-- the documents of a collection were given to another one, with this outcome
abbrev pub WasRenamed : List ℕ → List ℕ → Result Answer StoreError → State → State → Type 0
WasRenamed name new r t u = (d : Deed) × IsRename name new d × (d.outcome ≡ r) × Did (Some d) t u

-- the next statement was done, if there is one
abbrev pub DidNext : List Statement → List Statement → Option (Result Answer StoreError) → State → State → Type 0
DidNext [] after o t u = (o ≡ None) × DidAll [] t u
DidNext (s ∷ ss) after o t u = (d : Deed) × IsDeedOf s d × (o ≡ Some d.outcome) × (after ≡ ss) × Did (Some d) t u

-- the statement was done: how many documents it put in, if it did
abbrev pub PutsAll : Statement → Option ℕ → State → State → Type 0
PutsAll s n t u = (d : Deed) × IsDeedOf s d × (n ≡ number_of d.outcome) × Did (Some d) t u

-- ---- commands

-- the document that tells it, or that there is no room to
abbrev pub TellsFault : Fault → Members → Type 0
TellsFault (Refused c text) m = (m ≡ told.refused (string_bytes text) c) ⊎ (m ≡ told.no_room)
TellsFault Memory m = m ≡ told.no_room

-- The command, with these sequences beside it, is answered by this document: nothing was done, and why; or what it asks was done, or,
-- if there is no room to tell that, a beginning of it.
abbrev pub Comes : List ℕ → Members → List Sequence → List Wait → List Wait → Members → List Deed → Type 0
Comes db ms ss old new m ds = ((ds ≡ []) × (new ≡ old) × ((f : Fault) × IsRefused ms f × TellsFault f m))
    ⊎ ((p : Plan) × Asks db ms ss p × (Carries p old new ds m ⊎ (Starts p ds × (m ≡ told.no_room))))

-- the document that was made, or the one for no room
abbrev pub told_by : Result Document AllocError → Members
told_by (Ok d) = content d
told_by (Err e) = told.no_room
