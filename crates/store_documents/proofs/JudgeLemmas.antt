-- How far the judging of many documents has come.
use Rattle.std.proofs.Common.{◌≡◌, inr, ℕ, ◌+◌, add-one, List, [], ◌∷◌, ◌++◌, length, append_assoc, Option, Some, None, Ok, Err, Vec, Global, refl, ap, sym, ◌∙◌, subst}
use Rattle.std.specs.Prelude.{IsSomeAnd}
use Rattle.std.proofs.lemmas.List.{append-nil, length_push}
use Rattle.std.specs.Cow.{cow_slice_items}
use Rattle.bson_base.specs.Value.{Members}
use Rattle.bson_bytes.specs.Encode.{encode}
use Rattle.bson_meaning.specs.Meaning.{key}
use Rattle.store_model.specs.Reading.{Documents, AreRead, IsRead}
use Rattle.store_model.specs.State.{refusal_of, first_refusal}
use Rattle.store_model.specs.Table.{own_id}
use Rattle.store_model.specs.declared.error.ErrorKind.{ErrorKind}
use Rattle.store_documents.specs.declared.write.KeptRow.{KeptRow}
use Rattle.store_model.proofs.DocumentLemmas.{read_join}
use Rattle.store_model.specs.Refusal.{refusal_at}
use Rattle.store_documents.specs.Judging.{AreWrittenRows, Judges}

-- The first `place` documents were read and kept: what the rest reads as comes after them in what the whole reads as,
-- and is refused in both or in neither.
pub record SoFar (Whole Rest : Documents → Option ErrorKind → Type 0) (rows : List KeptRow) (place : ℕ) : Type 0 where
  pub done : Documents
  pub reads : (more : Documents) (stop : Option ErrorKind) → Rest more stop → Whole (done ++ more) stop
  pub kept : (more : Documents) (stop : Option ErrorKind) → first_refusal 0 (done ++ more) stop ≡ first_refusal place more stop
  pub read : AreRead done
  pub are_rows : AreWrittenRows rows done

rows_more : (rows : List KeptRow) (done : Documents) (w : KeptRow) (d : Members) → AreWrittenRows rows done → cow_slice_items w.body ≡ encode d → w.key.items ≡ key (own_id d) → AreWrittenRows (rows ++ w ∷ []) (done ++ d ∷ [])
rows_more [] [] w d h body is = (body, is, tt)
rows_more (r ∷ rows) (e ∷ done) w d h body is = (h.0, h.1, rows_more rows done w d h.2 body is)
rows_more [] (e ∷ done) w d h body is = absurd h
rows_more (r ∷ rows) [] w d h body is = absurd h

-- one document more is kept
pub so_far_more : (Whole Rest Next : Documents → Option ErrorKind → Type 0) (rows : List KeptRow) (place : ℕ) (d : Members) (w : KeptRow)
    → SoFar Whole Rest rows place → ((more : Documents) (stop : Option ErrorKind) → Next more stop → Rest (d ∷ more) stop)
    → IsRead d → refusal_of d ≡ None → cow_slice_items w.body ≡ encode d → w.key.items ≡ key (own_id d) → SoFar Whole Next (rows ++ w ∷ []) (place + 1)
so_far_more Whole Rest Next rows place d w s step read fits body is = record {
  done = s.done ++ d ∷ [];
  reads = λ more stop h. subst (λ ds. Whole ds stop) (sym (append_assoc s.done (d ∷ []) more)) (s.reads (d ∷ more) stop (step more stop h));
  kept = λ more stop. ap (λ ds. first_refusal 0 ds stop) (append_assoc s.done (d ∷ []) more) ∙ s.kept (d ∷ more) stop ∙ rw (fits, add-one) refl;
  read = read_join s.done (d ∷ []) s.read (read, tt);
  are_rows = rows_more rows s.done w d s.are_rows body is;
}

-- the same, if the place is the number of rows
pub so_far_pushed : (Whole Rest Next : Documents → Option ErrorKind → Type 0) (rows pushed : List KeptRow) (d : Members) (w : KeptRow)
    → SoFar Whole Rest rows (length rows) → ((more : Documents) (stop : Option ErrorKind) → Next more stop → Rest (d ∷ more) stop)
    → IsRead d → refusal_of d ≡ None → cow_slice_items w.body ≡ encode d → w.key.items ≡ key (own_id d) → pushed ≡ rows ++ w ∷ [] → SoFar Whole Next pushed (length pushed)
so_far_pushed Whole Rest Next rows pushed d w s step read fits body is e =
    subst (λ r. SoFar Whole Next r (length r)) (sym e) (subst (SoFar Whole Next (rows ++ w ∷ [])) (sym (length_push rows w)) (so_far_more Whole Rest Next rows (length rows) d w s step read fits body is))

-- the first of the refusals, with its place
first_told : (o : Option (ErrorKind × ℕ)) (k : ErrorKind) (i : ℕ) → o ≡ Some (k, i) → IsSomeAnd o (λ x. refusal_at k i ≡ refusal_at x.0 x.1)
first_told o k i is = subst (λ x. IsSomeAnd x (λ y. refusal_at k i ≡ refusal_at y.0 y.1)) (sym is) refl

-- the next document can't be kept
pub so_far_refused : (Whole Rest : Documents → Option ErrorKind → Type 0) (rows : List KeptRow) (place : ℕ) (k : ErrorKind) (d : Members) (more : Documents) (stop : Option ErrorKind)
    → SoFar Whole Rest rows place → Rest (d ∷ more) stop → refusal_of d ≡ Some k → Judges Whole (Err (refusal_at k place))
so_far_refused Whole Rest rows place k d more stop s h why =
    (s.done ++ d ∷ more, stop, s.reads (d ∷ more) stop h, inr (first_told (first_refusal 0 (s.done ++ d ∷ more) stop) k place (s.kept (d ∷ more) stop ∙ rw why refl)))

-- the next can't be read
pub so_far_stopped : (Whole Rest : Documents → Option ErrorKind → Type 0) (rows : List KeptRow) (place : ℕ) (k : ErrorKind)
    → SoFar Whole Rest rows place → Rest [] (Some k) → Judges Whole (Err (refusal_at k place))
so_far_stopped Whole Rest rows place k s h =
    (s.done ++ [], Some k, s.reads [] (Some k) h, inr (first_told (first_refusal 0 (s.done ++ []) (Some k)) k place (s.kept [] (Some k))))

-- nothing more
pub so_far_done : (Whole Rest : Documents → Option ErrorKind → Type 0) (rows : Vec KeptRow Global) (place : ℕ) → SoFar Whole Rest rows.items place → Rest [] None → Judges Whole (Ok rows)
so_far_done Whole Rest rows place s h = (s.done ++ [], s.reads [] None h, subst AreRead (sym (append-nil s.done)) s.read, s.kept [] None, subst (AreWrittenRows rows.items) (sym (append-nil s.done)) s.are_rows)
