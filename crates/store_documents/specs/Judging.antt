-- What judging many documents returns.
use Rattle.std.specs.Prelude.{◌≡◌, ◌⊎◌, ℕ, List, [], ◌∷◌, Option, Some, None, IsSomeAnd, Result, Ok, Err, Vec}
use Rattle.std.specs.declared.alloc.Global.{Global}
use Rattle.std.specs.Borrow.{Bor}
use Rattle.std.specs.Cow.{cow_slice_items}
use Rattle.bson_base.specs.Value.{Members}
use Rattle.bson_bytes.specs.Encode.{encode}
use Rattle.bson_meaning.specs.Meaning.{key}
use Rattle.store_model.specs.Reading.{Documents, Reading, readable, unreadable, AreRead, IsRead, ReadsStream}
use Rattle.store_model.specs.State.{refusal_of, first_refusal}
use Rattle.store_model.specs.Table.{own_id}
use Rattle.store_model.specs.declared.error.ErrorKind.{ErrorKind}
use Rattle.store_model.specs.declared.error.ErrorKind.TheVariants as kind
use Rattle.store_model.specs.declared.error.StoreError.{StoreError}
use Rattle.store_model.specs.Refusal.{refusal, refusal_at}
use Rattle.store_documents.specs.declared.write.KeptRow.{KeptRow}

-- the row of one document, or why there is none, or memory ran out
abbrev pub AnswersRow : (Reading → Type 0) → Result KeptRow ErrorKind → Type 0
AnswersRow Reads (Ok w) = (d : Members) × Reads (readable d) × IsRead d × (refusal_of d ≡ None) × (cow_slice_items w.body ≡ encode d) × (w.key.items ≡ key (own_id d))
AnswersRow Reads (Err kind.Memory) = Unit {0}
AnswersRow Reads (Err k) = Reads (unreadable k) ⊎ ((d : Members) × Reads (readable d) × (refusal_of d ≡ Some k))

-- the input's first document can't be read or kept, or memory ran out
abbrev pub RefusesFront : (Documents → Option ErrorKind → Type 0) → ErrorKind → Type 0
RefusesFront Reads kind.Memory = Unit {0}
RefusesFront Reads k = Reads [] (Some k) ⊎ ((d : Members) × (more : Documents) × (stop : Option ErrorKind) × Reads (d ∷ more) stop × (refusal_of d ≡ Some k))

-- the row of the first document of a stream, and what follows; or why there is none
abbrev pub AnswersFront : List ℕ → Result (KeptRow × Bor (List ℕ)) ErrorKind → Type 0
AnswersFront bytes (Ok r) = (d : Members) × ((more : Documents) (stop : Option ErrorKind) → ReadsStream r.1.now more stop → ReadsStream bytes (d ∷ more) stop)
    × IsRead d × (refusal_of d ≡ None) × (cow_slice_items r.0.body ≡ encode d) × (r.0.key.items ≡ key (own_id d))
AnswersFront bytes (Err k) = RefusesFront (ReadsStream bytes) k

-- the rows are the documents in their order, as they are written, under the keys of their ids
abbrev pub AreWrittenRows : List KeptRow → Documents → Type 0
AreWrittenRows [] [] = Unit {0}
AreWrittenRows (w ∷ ws) (d ∷ ds) = (cow_slice_items w.body ≡ encode d) × (w.key.items ≡ key (own_id d)) × AreWrittenRows ws ds
AreWrittenRows _ _ = ⊥

-- The input reads as documents that can all be kept, and these are their rows. Or the program is out of memory for what the input
-- reads as, or this is the first of its refusals, with its place.
abbrev pub Judges : (Documents → Option ErrorKind → Type 0) → Result (Vec KeptRow Global) StoreError → Type 0
Judges Reads (Ok rows) = (ds : Documents) × Reads ds None × AreRead ds × (first_refusal 0 ds None ≡ None) × AreWrittenRows rows.items ds
Judges Reads (Err e) = (ds : Documents) × (stop : Option ErrorKind) × Reads ds stop
    × ((e ≡ refusal kind.Memory) ⊎ IsSomeAnd (first_refusal 0 ds stop) (λ x. e ≡ refusal_at x.0 x.1))
