-- Changes of documents: each becomes what an update makes of it, or another document, or is removed, all of them in one
-- step, or none.
use Rattle.std.specs.Prelude.{◌≡◌, ◌⊎◌, ℕ, List, [], ◌∷◌, ◌++◌, length, map, Bool, false, if◌then◌else◌, Option, Some, None, Result, Ok, Err, Vec, string_bytes}
use Rattle.std.specs.declared.alloc.Global.{Global}
use Rattle.bson_base.specs.Value.{Value, Members, has_key, look_up, member, put}
use Rattle.bson_bytes.specs.Encode.{encode}
use Rattle.bson_model.specs.View.{content, view}
use Rattle.store_model.specs.Reading.{Documents}
use Rattle.store_model.specs.Refusal.{refusal, refusal_at}
use Rattle.store_model.specs.State.{AreKept, id_key, IsName, When}
use Rattle.store_model.specs.Table.{DocumentTable, documents_of}
use Rattle.store_model.specs.declared.error.ErrorKind.{ErrorKind}
use Rattle.store_model.specs.declared.error.ErrorKind.TheVariants.{BadName, Memory}
use Rattle.store_model.specs.declared.error.StoreError.{StoreError}
use Rattle.store_table.specs.Rows.{TableRow}
use Rattle.store_question.specs.Keeps.{Keeps}
use Rattle.store_question.specs.Asked.{Asked}
use Rattle.store_question.specs.Reads.{Form, Reads}
use Rattle.store_update.specs.Plan.{Plan}
use Rattle.store_update.specs.Update.{updated}
use Rattle.store_update.specs.declared.error.UpdateError.{UpdateError}
use Rattle.store_update.specs.declared.error.UpdateError.TheVariants as update_error
use Rattle.store_question_read.specs.UpdateOutcome.{plans_of}
use Rattle.bson_store.specs.Export.{bytes_of_each}
use Rattle.bson_store.specs.Refusals.{IsDenied}
use Rattle.bson_store.specs.Shown.{Represents}
use Rattle.bson_store.specs.Whole.{DoesAll}
use Rattle.bson_store.specs.declared.edit.Edit.{Edit}
use Rattle.bson_store.specs.declared.edit.Edit.TheVariants.{ReplaceRaw, Remove}
use Rattle.bson_store.specs.declared.edit.ListRefusal.{ListRefusal}
use Rattle.fallowtime_commands.specs.Asking.{chosen}
use Rattle.fallowtime_commands.specs.Storing.{IsFit, IsUnkept}
use Rattle.fallowtime_requests.specs.Upserts.{HasOtherId}
use Rattle.fallowtime_requests.specs.declared.request.Work.{Work}
use Rattle.fallowtime_requests.specs.declared.request.Work.TheVariants as work
use Rattle.fallowtime_commands.specs.declared.answer.Answer.{Answer}
use Rattle.fallowtime_commands.specs.declared.answer.Answer.TheVariants as answer
use Rattle.fallowtime_commands.specs.declared.changing.Unmade.{Unmade}
use Rattle.fallowtime_commands.specs.declared.changing.Unmade.TheVariants as unmade

-- ---- one document

-- what becomes of a document, or why nothing does: by an update
abbrev pub Updates : List Plan → Members → Result Members UpdateError → Type 0
Updates plans d r = updated false plans d ≡ r

-- the document with this `_id`, in the place of its own one, or in front
abbrev pub identified_by : Value → Members → Members
identified_by id e = if has_key id_key e then put id_key id e else member id_key id e

-- by the document e, which keeps the `_id` of the one that it replaces
abbrev pub Replaces : Members → Members → Result Members UpdateError → Type 0
Replaces e d (Ok m) = (id : Value) × (look_up id_key d ≡ Some id) × (HasOtherId id e → ⊥) × (m ≡ identified_by id e)
Replaces e d (Err why) = ((id : Value) × (look_up id_key d ≡ Some id) × HasOtherId id e) × (why ≡ update_error.Id)

-- the change puts this document in the place of the one with its `_id`
abbrev pub IsReplacement : List ℕ → Members → Edit → Type 0
IsReplacement n e (ReplaceRaw name bytes) = (string_bytes name ≡ n) × (bytes.items ≡ encode e)
IsReplacement n e _ = ⊥

-- the change takes away the document with the `_id` of this one
abbrev pub IsRemoval : List ℕ → Members → Edit → Type 0
IsRemoval n d (Remove name id) = (string_bytes name ≡ n) × (look_up id_key d ≡ Some (view id))
IsRemoval n d _ = ⊥

-- the change of the document d to e; none if they are the same
abbrev pub Exchanges : List ℕ → Members → Members → Option Edit → Type 0
Exchanges n d e change = When (encode e ≡ encode d) (change ≡ None) ((x : Edit) × IsReplacement n e x × (change ≡ Some x))

-- the change of the document d to what becomes of it, which can be kept
abbrev pub Renews : List ℕ → (Result Members UpdateError → Type 0) → Members → Option Edit → Type 0
Renews n Outcome d change = (e : Members) × Outcome (Ok e) × IsFit e × Exchanges n d e change

-- the change that is to be made of a document, if one is
abbrev pub Becomes : List ℕ → Work → Members → Option Edit → Type 0
Becomes n (work.Update steps) d change = Renews n (Updates (plans_of steps) d) d change
Becomes n (work.Replace e) d change = Renews n (Replaces (content e) d) d change
Becomes n work.Remove d change = (x : Edit) × IsRemoval n d x × (change ≡ Some x)

-- why nothing becomes of the document at the place i: that is refused, what becomes of it can't be kept, or memory ran out
abbrev pub IsUnrenewedAt : (Result Members UpdateError → Type 0) → ℕ → Unmade → Type 0
IsUnrenewedAt Outcome i (unmade.Update j e) = (j ≡ i) × Outcome (Err e)
IsUnrenewedAt Outcome i (unmade.Store e) =
    (e ≡ refusal Memory) ⊎ ((m : Members) × (k : ErrorKind) × Outcome (Ok m) × IsUnkept m k × (e ≡ refusal_at k i))

-- a removal fails for want of memory alone
abbrev pub IsUnmadeAt : Work → Members → ℕ → Unmade → Type 0
IsUnmadeAt (work.Update steps) d i w = IsUnrenewedAt (Updates (plans_of steps) d) i w
IsUnmadeAt (work.Replace e) d i w = IsUnrenewedAt (Replaces (content e) d) i w
IsUnmadeAt work.Remove d i w = w ≡ unmade.Store (refusal Memory)

-- ---- all of them

-- a list of one, or of none
abbrev pub listed : Option Edit → List Edit
listed None = []
listed (Some x) = x ∷ []

-- the changes that are to be made of documents, in their order
abbrev pub AreEdits : List ℕ → Work → Documents → List Edit → Type 0
AreEdits n w [] xs = xs ≡ []
AreEdits n w (d ∷ ds) xs = (change : Option Edit) × (rest : List Edit) × Becomes n w d change × AreEdits n w ds rest × (xs ≡ listed change ++ rest)

-- changes are to be made of the documents before a place, and nothing becomes of the one there
pub record StopsAt (n : List ℕ) (w : Work) (ds : Documents) (why : Unmade) : Type 0 where
  pub front : Documents
  pub d : Members
  pub back : Documents
  pub split : ds ≡ front ++ d ∷ back
  pub xs : List Edit
  pub before : AreEdits n w front xs
  pub there : IsUnmadeAt w d (length front) why

-- what is returned if so many documents are meant and so many of them changed
abbrev pub done_by : Work → ℕ → ℕ → Answer
done_by (work.Update steps) m c = answer.Updated m c
done_by (work.Replace e) m c = answer.Updated m c
done_by work.Remove m c = answer.Number m

-- What comes of a change of these documents: the changes are made as one list; or, if nothing becomes of one of them, or
-- the list is refused, the rows stay.
abbrev pub Changes : List ℕ → Work → Documents → Result Answer StoreError → List TableRow → List TableRow → Type 0
Changes n w ds (Ok (answer.NotUpdated i e)) docs after = StopsAt n w ds (unmade.Update i e) × (after ≡ docs)
Changes n w ds (Ok a) docs after = (xs : List Edit) × AreEdits n w ds xs × (a ≡ done_by w (length ds) (length xs)) × DoesAll xs (Ok tt) docs after
Changes n w ds (Err e) docs after =
    (StopsAt n w ds (unmade.Store e) × (after ≡ docs))
    ⊎ ((xs : List Edit) × (r : ListRefusal) × AreEdits n w ds xs × (e ≡ r.error) × DoesAll xs (Err r) docs after)

-- the same of whatever documents have these bodies
abbrev pub ChangesBodies : List ℕ → Work → List (Vec ℕ Global) → Result Answer StoreError → List TableRow → List TableRow → Type 0
ChangesBodies n w bodies o docs after = (ds : Documents) → AreKept ds → bytes_of_each bodies ≡ map encode ds → Changes n w ds o docs after

-- ---- those that answer a question

-- these are meant: the documents of the collection that answer the question, in their order, or the first of them
abbrev pub AreMeant : List ℕ → Asked → Bool → DocumentTable → Documents → Type 0
AreMeant n q many a ds = (kept : Documents) × Keeps q (documents_of a n) kept × (ds ≡ chosen many kept)

-- the look-up is refused
abbrev pub IsUnfound : List ℕ → Result Answer StoreError → Type 0
IsUnfound n o = (e : StoreError) × (o ≡ Err e) × (((IsName n → ⊥) × (e ≡ refusal BadName)) ⊎ IsDenied e)

-- Whatever table the rows showed: the look-up is refused, and the rows stay; or the documents that are meant are changed.
abbrev pub ChangesFound : List ℕ → Form → Work → Bool → Result Answer StoreError → List TableRow → List TableRow → Type 0
ChangesFound n form w many o old new =
    (q : Asked) → Reads form q → (a : DocumentTable) → Represents old a
    → (IsUnfound n o × (new ≡ old)) ⊎ (IsName n × ((ds : Documents) × AreMeant n q many a ds × Changes n w ds o old new))

-- ---- its parts

-- the document can't be kept, or memory ran out
abbrev pub IsUnkeptAt : Members → ℕ → Unmade → Type 0
IsUnkeptAt e i w = (w ≡ unmade.Store (refusal Memory)) ⊎ ((k : ErrorKind) × IsUnkept e k × (w ≡ unmade.Store (refusal_at k i)))

-- a removal is refused by no update
abbrev pub CanBe : Work → Unmade → Type 0
CanBe work.Remove (unmade.Update i e) = ⊥
CanBe _ _ = Unit {0}

-- what is returned if nothing becomes of a document
abbrev pub outcome_of : Unmade → Result Answer StoreError
outcome_of (unmade.Update i e) = Ok (answer.NotUpdated i e)
outcome_of (unmade.Store e) = Err e

-- a list of changes of so many documents is made; or it is refused, and the rows stay
abbrev pub Applies : Work → List Edit → ℕ → Result Answer StoreError → List TableRow → List TableRow → Type 0
Applies w xs m (Ok a) docs after = (a ≡ done_by w m (length xs)) × DoesAll xs (Ok tt) docs after
Applies w xs m (Err e) docs after = (r : ListRefusal) × (e ≡ r.error) × DoesAll xs (Err r) docs after
