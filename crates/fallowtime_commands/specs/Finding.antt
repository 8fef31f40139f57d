-- The first of the documents that are found is changed, and returned: in one step, or not at all.
use Rattle.std.specs.Prelude.{◌≡◌, ◌⊎◌, ℕ, ◌==◌, if◌then◌else◌, List, [], ◌∷◌, Bool, true, false, Option, Some, None, Result, Ok, Err, Vec}
use Rattle.std.specs.declared.alloc.Global.{Global}
use Rattle.bson_base.specs.Value.{Members}
use Rattle.bson_bytes.specs.Encode.{encode}
use Rattle.bson_model.specs.View.{content}
use Rattle.bson_store.specs.Shown.{Represents}
use Rattle.bson_store.specs.Whole.{DoesAll}
use Rattle.bson_store.specs.declared.edit.Edit.{Edit}
use Rattle.bson_store.specs.declared.edit.Edit.TheVariants.{ReplaceRaw}
use Rattle.bson_store.specs.declared.edit.ListRefusal.{ListRefusal}
use Rattle.store_question.specs.Keeps.{Keeps}
use Rattle.store_pipeline.specs.Views.{left_of}
use Rattle.store_pipeline.specs.declared.sorted.fields.Fields.{Fields}
use Rattle.store_model.specs.Reading.{Documents}
use Rattle.store_model.specs.State.{IsKept, IsName}
use Rattle.store_model.specs.Table.{DocumentTable, documents_of}
use Rattle.store_model.specs.declared.error.StoreError.{StoreError}
use Rattle.store_question.specs.Asked.{Asked}
use Rattle.store_question.specs.Reads.{Form, Reads}
use Rattle.store_pipeline.specs.Bodies.{AreBodies, ArrangedBy}
use Rattle.store_pipeline.specs.declared.sorted.arrangement.Arrangement.{Arrangement}
use Rattle.store_table.specs.Rows.{TableRow}
use Rattle.store_question_read.specs.UpdateOutcome.{plans_of}
use Rattle.fallowtime_requests.specs.declared.request.Wanted.{Wanted}
use Rattle.fallowtime_requests.specs.declared.request.Work.{Work}
use Rattle.fallowtime_requests.specs.declared.request.Work.TheVariants as work
use Rattle.fallowtime_commands.specs.Asking.{chosen}
use Rattle.fallowtime_commands.specs.Changing.{Becomes, IsUnfound, IsUnmadeAt, Replaces, Updates, listed}
use Rattle.fallowtime_commands.specs.declared.answer.Answer.{Answer}
use Rattle.fallowtime_commands.specs.declared.answer.Answer.TheVariants as answer
use Rattle.fallowtime_commands.specs.declared.changing.Unmade.TheVariants as unmade

-- ---- what is returned

-- what the document d is after its change; one that is removed is returned as it was
abbrev pub IsAfter : Work → Members → Members → Type 0
IsAfter (work.Update steps) d e = Updates (plans_of steps) d (Ok e)
IsAfter (work.Replace c) d e = Replaces (content c) d (Ok e)
IsAfter work.Remove d e = e ≡ d

-- the document d as it is afterwards, or as it was before
abbrev pub IsReturned : Work → Bool → Members → Members → Type 0
IsReturned w true d e = IsAfter w d e
IsReturned w false d e = e ≡ d

-- the written form of all of a document, or of what is left of one that a store keeps
abbrev pub IsPartOf : Option Fields → Members → List ℕ → Type 0
IsPartOf None e bytes = bytes ≡ encode e
IsPartOf (Some f) e bytes = IsKept e → bytes ≡ encode (left_of f e)

-- ---- one document

-- What comes of a change of this document: it is made, and what is wanted of the document is returned; or, if nothing
-- becomes of it, or the change is refused, the rows stay.
abbrev pub ChangesOne : List ℕ → Wanted → Work → Members → Result Answer StoreError → List TableRow → List TableRow → Type 0
ChangesOne n w k d (Ok (answer.NotUpdated i e)) docs after = IsUnmadeAt k d 0 (unmade.Update i e) × (after ≡ docs)
ChangesOne n w k d (Ok a) docs after =
    (change : Option Edit) × (e : Members) × (body : Vec ℕ Global) × Becomes n k d change × IsReturned k w.after d e × IsPartOf w.fields e body.items
    × (a ≡ answer.Found (Some body)) × DoesAll (listed change) (Ok tt) docs after
ChangesOne n w k d (Err x) docs after =
    (IsUnmadeAt k d 0 (unmade.Store x) × (after ≡ docs))
    ⊎ ((change : Option Edit) × (r : ListRefusal) × Becomes n k d change × (x ≡ r.error) × DoesAll (listed change) (Err r) docs after)

-- the same of whatever document has this body
abbrev pub ChangesBody : List ℕ → Wanted → Work → List ℕ → Result Answer StoreError → List TableRow → List TableRow → Type 0
ChangesBody n w k body o docs after = (d : Members) → IsKept d → body ≡ encode d → ChangesOne n w k d o docs after

-- of a list of one; of none nothing is changed or returned
abbrev pub ChangesFirst : List ℕ → Wanted → Work → Documents → Result Answer StoreError → List TableRow → List TableRow → Type 0
ChangesFirst n w k [] o docs after = (o ≡ Ok (answer.Found None)) × (after ≡ docs)
ChangesFirst n w k (d ∷ ds) o docs after = ChangesOne n w k d o docs after

-- ---- what is found

-- the first, by an arrangement, of the documents of the collection that answer the question; or none
abbrev pub IsFirstFound : List ℕ → Asked → Arrangement → DocumentTable → Documents → Type 0
IsFirstFound n q g a ds = (kept es : Documents) × Keeps q (documents_of a n) kept × ArrangedBy g kept es × (ds ≡ chosen false es)

-- Whatever table the rows showed: the look-up is refused, and the rows stay; or the first document that is found is
-- changed.
abbrev pub FindsAndChanges : List ℕ → Form → Wanted → Work → Result Answer StoreError → List TableRow → List TableRow → Type 0
FindsAndChanges n form w k o old new =
    (q : Asked) → Reads form q → (a : DocumentTable) → Represents old a
    → (IsUnfound n o × (new ≡ old)) ⊎ (IsName n × ((ds : Documents) × IsFirstFound n q w.arrangement a ds × ChangesFirst n w k ds o old new))

-- the document that was found, if one was; or why nothing is made of it, which a removal never is
abbrev pub IsFound : Work → Answer → Type 0
IsFound k (answer.Found o) = Unit {0}
IsFound (work.Update steps) (answer.NotUpdated i e) = Unit {0}
IsFound (work.Replace d) (answer.NotUpdated i e) = Unit {0}
IsFound _ _ = ⊥

-- ---- its parts

-- one at the most, of as many as there may be
abbrev pub first_limit : Option ℕ → Option ℕ
first_limit None = Some 1
first_limit (Some n) = if n == 0 then Some 0 else Some 1

abbrev pub first_of : Arrangement → Arrangement
first_of g = record { keys = g.keys; skip = g.skip; limit = first_limit g.limit }

-- the bodies are that of the first document that the arrangement has, or none
abbrev pub AreFirst : Arrangement → Vec (Vec ℕ Global) Global → Documents → Type 0
AreFirst g bodies ds = (es : Documents) × ArrangedBy g ds es × AreBodies bodies.items (chosen false es)

-- the bytes that a change puts in the place of others, which stay without one
abbrev pub bytes_after : Option Edit → List ℕ → List ℕ
bytes_after (Some (ReplaceRaw name bytes)) body = bytes.items
bytes_after _ body = body

-- the change of the document d, and what is returned of it
abbrev pub DraftsOne : List ℕ → Work → Bool → Option Fields → Members → List Edit → Vec ℕ Global → Type 0
DraftsOne n k after fields d edits returned = (change : Option Edit) × (e : Members) × Becomes n k d change × (edits ≡ listed change) × IsReturned k after d e × IsPartOf fields e returned.items

-- the changes are made, and the bytes returned; or they are refused
abbrev pub AppliesOne : List Edit → Vec ℕ Global → Result Answer StoreError → List TableRow → List TableRow → Type 0
AppliesOne edits returned (Ok a) docs after = (a ≡ answer.Found (Some returned)) × DoesAll edits (Ok tt) docs after
AppliesOne edits returned (Err e) docs after = (r : ListRefusal) × (e ≡ r.error) × DoesAll edits (Err r) docs after
