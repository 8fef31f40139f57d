-- Whole collections: dropped, renamed, copied, in one step or not at all.
use Rattle.std.specs.Prelude.{◌≡◌, ◌≢◌, ◌⊎◌, ℕ, Bool, true, false, ◌&&◌, not, List, [], ◌++◌, length, map, Result, Ok, Err, MatchResult, Vec, string_bytes}
use Rattle.std.specs.List.{AllZip}
use Rattle.std.specs.Str.{bytes_eq}
use Rattle.std.specs.declared.alloc.Global.{Global}
use Rattle.sqlite.specs.State.{State}
use Rattle.bson_base.specs.Value.{Members}
use Rattle.bson_bytes.specs.Encode.{encode}
use Rattle.store_model.specs.Reading.{Documents}
use Rattle.store_model.specs.Refusal.{refusal}
use Rattle.store_model.specs.State as model
use Rattle.store_model.specs.State.{AreKept, IsName, list_of, store}
use Rattle.store_model.specs.Table.{DocumentTable, IsRefusal, state_of}
use Rattle.store_model.specs.declared.error.ErrorKind.TheVariants.{BadName, DuplicateId, NotFound}
use Rattle.store_model.specs.declared.error.StoreError.{StoreError}
use Rattle.store_table.specs.Rows.{TableRow}
use Rattle.bson_store.specs.Export.{bytes_of_each}
use Rattle.bson_store.specs.Left.{Along, Holds}
use Rattle.bson_store.specs.Shown.{Represents}
use Rattle.bson_store.specs.Drafting.{IsFault}
use Rattle.bson_store.specs.Whole.{DoesAll}
use Rattle.bson_store.specs.declared.edit.Edit.{Edit}
use Rattle.bson_store.specs.declared.edit.Edit.TheVariants.{InsertRaw}
use Rattle.bson_store.specs.declared.edit.ListRefusal.{ListRefusal}
use Rattle.fallowtime_commands.specs.Changing.{AreEdits}
use Rattle.fallowtime_commands.specs.declared.answer.Answer.{Answer}
use Rattle.fallowtime_commands.specs.declared.answer.Answer.TheVariants as answer
use Rattle.fallowtime_requests.specs.declared.request.Transfer.{Transfer}
use Rattle.fallowtime_requests.specs.declared.request.Transfer.TheVariants as transfer
use Rattle.fallowtime_requests.specs.declared.request.Work.TheVariants as work

-- ---- lists of documents

-- the state afterwards: the collection n has no document, or another one has its documents, in their order, or both
abbrev pub transferred : Transfer → List ℕ → model.State → model.State
transferred transfer.Drop n s = store s n []
transferred (transfer.Rename new drops) n s = store (store s n []) new.now (list_of s n)
transferred (transfer.Copy new) n s = store s new.now (list_of s n)

-- those of another collection are removed for those of n, if so; they aren't if n is that one
abbrev pub gives_way : Bool → List ℕ → List ℕ → Bool
gives_way drops n new = drops && not (bytes_eq new n)

-- there are documents to go, and none where they go to, or those there are removed
abbrev pub MayGo : List ℕ → List ℕ → Bool → model.State → Type 0
MayGo n new way s = (list_of s n ≢ []) × IsName new × ((list_of s new ≡ []) ⊎ (way ≡ true))

abbrev pub IsReady : Transfer → List ℕ → model.State → Type 0
IsReady transfer.Drop n s = Unit {0}
IsReady (transfer.Rename new drops) n s = MayGo n new.now (gives_way drops n new.now) s
IsReady (transfer.Copy new) n s = MayGo n new.now false s

-- why documents may not go there
abbrev pub MayNotGo : List ℕ → List ℕ → Bool → model.State → StoreError → Type 0
MayNotGo n new way s e =
    ((list_of s n ≡ []) × (e ≡ refusal NotFound))
    ⊎ ((list_of s n ≢ []) × (((IsName new → ⊥) × (e ≡ refusal BadName)) ⊎ ((list_of s new ≢ []) × (way ≡ false) × (e ≡ refusal DuplicateId))))

abbrev pub IsBarred : Transfer → List ℕ → model.State → StoreError → Type 0
IsBarred transfer.Drop n s e = ⊥
IsBarred (transfer.Rename new drops) n s e = MayNotGo n new.now (gives_way drops n new.now) s e
IsBarred (transfer.Copy new) n s e = MayNotGo n new.now false s e

-- for the name, for want of memory or of places, by the database, or for the lists
abbrev pub IsUnlisted : List ℕ → StoreError → Type 0
IsUnlisted n e = ((IsName n → ⊥) × (e ≡ refusal BadName)) ⊎ IsFault e

abbrev pub IsUntransferred : Transfer → List ℕ → model.State → StoreError → Type 0
IsUntransferred how n s e = IsUnlisted n e ⊎ IsBarred how n s e

-- ---- rows

-- the rows show the state afterwards, and the answer is how many documents the collection had; or the rows stay, and why
abbrev pub TransfersIn : Transfer → List ℕ → model.State → Result Answer StoreError → List TableRow → List TableRow → Type 0
TransfersIn how n s (Ok x) old new =
    IsName n × IsReady how n s × (x ≡ answer.Number (length (list_of s n))) × ((b : DocumentTable) × Represents new b × (state_of b ≡ transferred how n s))
TransfersIn how n s (Err e) old new = IsUntransferred how n s e × (new ≡ old)

-- whatever table the rows showed
abbrev pub Transfers : List ℕ → Transfer → Result Answer StoreError → List TableRow → List TableRow → Type 0
Transfers n how o old new = (a : DocumentTable) → Represents old a → TransfersIn how n (state_of a) o old new

-- ---- its parts

-- the rows stay, and this is known of the collection's documents; or why it isn't
abbrev pub Learns : {T : Type 0} → (Documents → T → Type 0) → List ℕ → Result T StoreError → List TableRow → List TableRow → Type 0
Learns Is n o old new = (a : DocumentTable) → Represents old a → (new ≡ old) × MatchResult o (λ t. IsName n × Is (list_of (state_of a) n) t) (IsUnlisted n)

abbrev pub IsNumber : Documents → ℕ → Type 0
IsNumber ds k = k ≡ length ds

abbrev pub HasBodies : Documents → Vec (Vec ℕ Global) Global → Type 0
HasBodies ds bodies = AreKept ds × (bytes_of_each bodies.items ≡ map encode ds)

-- the documents that are where others take their place
abbrev pub displaced : Transfer → model.State → Documents
displaced (transfer.Rename new drops) s = list_of s new.now
displaced how s = []

abbrev pub IsUndisplaced : Transfer → StoreError → Type 0
IsUndisplaced (transfer.Rename new drops) e = IsUnlisted new.now e
IsUndisplaced how e = ⊥

-- the rows stay, and these are their bodies; or why there are none
abbrev pub Displaces : Transfer → Result (Vec (Vec ℕ Global) Global) StoreError → List TableRow → List TableRow → Type 0
Displaces how o old new = (a : DocumentTable) → Represents old a → (new ≡ old) × MatchResult o (HasBodies (displaced how (state_of a))) (IsUndisplaced how)

-- the rows stay, and these are the bodies of the collection n, and those of the documents that are where others take their place
abbrev pub Gathers : Transfer → List ℕ → Result (Vec (Vec ℕ Global) Global × Vec (Vec ℕ Global) Global) StoreError → List TableRow → List TableRow → Type 0
Gathers how n o old new = (a : DocumentTable) → Represents old a
    → (new ≡ old) × MatchResult o (λ p. IsName n × HasBodies (list_of (state_of a) n) p.0 × HasBodies (displaced how (state_of a)) p.1) (λ e. IsUnlisted n e ⊎ IsUndisplaced how e)

-- the rows stay, and the documents may go; or why not
abbrev pub Readies : Transfer → List ℕ → Result (Unit {0}) StoreError → List TableRow → List TableRow → Type 0
Readies how n o old new = (a : DocumentTable) → Represents old a → (new ≡ old) × MatchResult o (λ _. IsReady how n (state_of a)) (IsUntransferred how n (state_of a))

-- the change puts the document into the collection n
abbrev pub IsInsertion : List ℕ → Edit → Members → Type 0
IsInsertion n (InsertRaw name bytes) d = (string_bytes name ≡ n) × (bytes.items ≡ encode d)
IsInsertion n _ d = ⊥

abbrev pub AreInsertions : List ℕ → List Edit → Documents → Type 0
AreInsertions n xs ds = AllZip (IsInsertion n) xs ds

-- the changes that are to be made of these documents of the collection n, and of those that are where others take their place
abbrev pub IsDraft : Transfer → List ℕ → Documents → Documents → List Edit → Type 0
IsDraft transfer.Drop n ds es xs = AreEdits n work.Remove ds xs
IsDraft (transfer.Rename new drops) n ds es xs =
    (ys rs zs : List Edit) × AreEdits n work.Remove ds ys × AreEdits new.now work.Remove es rs × AreInsertions new.now zs ds × (xs ≡ (ys ++ rs) ++ zs)
IsDraft (transfer.Copy new) n ds es xs = AreInsertions new.now xs ds

-- the changes are made as one list; or they are refused
abbrev pub MakesAll : List Edit → ℕ → Result Answer StoreError → List TableRow → List TableRow → Type 0
MakesAll xs k (Ok a) old new = (a ≡ answer.Number k) × DoesAll xs (Ok tt) old new
MakesAll xs k (Err e) old new = (r : ListRefusal) × (e ≡ r.error) × DoesAll xs (Err r) old new

-- the same as `Transfers`, and a crash leaves no more than before, after a refusal, or the state afterwards: if the documents may go
abbrev pub Carries : List ℕ → Transfer → Result Answer StoreError → List TableRow → List TableRow → Type 0
Carries n how o old new = (a : DocumentTable) → Represents old a → IsReady how n (state_of a) → TransfersIn how n (state_of a) o old new

abbrev pub LeavesCarried : List ℕ → Transfer → model.Reply → State → State → Type 0
LeavesCarried n how r old new = Along old new (λ first a db. IsReady how n (state_of a) → (IsRefusal r × old.may_leave db) ⊎ Holds first db (transferred how n (state_of a)))
