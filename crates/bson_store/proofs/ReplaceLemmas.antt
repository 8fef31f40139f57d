-- Exits of calls that put a document in the place of another.
use Rattle.std.proofs.Common.{◌≡◌, inl, inr, ℕ, ◌≤◌, List, ◌∷◌, ◌++◌, Some, None, Ok, Err, refl, ap, ◌∙◌}
use Rattle.std.proofs.lemmas.Bool.{le-ltb}
use Rattle.bson_base.specs.Value.{Value, Members, look_up}
use Rattle.bson_bytes.specs.Encode.{size}
use Rattle.bson_frame.specs.Frame.{size_limit}
use Rattle.bson_meaning.specs.Meaning.{key}
use Rattle.store_table.specs.Rows.{TableRow, with_body_at}
use Rattle.store_table.specs.Moves.{FindsRow, Changes}
use Rattle.store_table.specs.declared.fault.Fault.{Fault}
use Rattle.store_table.specs.declared.fault.Fault.TheVariants as faults
use Rattle.store_table.specs.declared.row.Found.{Found}
use Rattle.store_documents.specs.Bodies.{AnswersWritten}
use Rattle.store_model.specs.Reading.{Documents, readable}
use Rattle.store_model.specs.State.{id_key, Form, replace, on, done, refused, refusal_of, Answers, IsName, AtId, NoneHasId, Refuses}
use Rattle.store_model.specs.Table.{documents_of}
use Rattle.store_model.specs.declared.error.ErrorKind.{ErrorKind}
use Rattle.store_model.specs.declared.error.ErrorKind.TheVariants.{NotFound}
use Rattle.store_model.proofs.IdLemmas.{own_is, has_written}
use Rattle.bson_store.specs.Calls.{DoesRead}
use Rattle.bson_store.specs.Refusals.{kind_of_fault}
use Rattle.bson_store.proofs.ServeLemmas.{Fits, answers_stay, denied, undecided, read_open, memory_other}
use Rattle.bson_store.proofs.FindLemmas.{found_looks, unfound_looks, unlooked, not_there, unchanged}
use Rattle.bson_store.proofs.RewriteLemmas.{Remakes, rewritten}

unfit_answers : (f : Form) (d : Members) (k : ErrorKind) (l : Documents) → refusal_of d ≡ Some k → Answers (replace f (readable d)) l (refused k None) l
unfit_answers f d k l is = rw is (refl, refl)

pub replace_unwritten : (docs : List TableRow) (n : List ℕ) (d : Members) (k : ErrorKind) → IsName n → AnswersWritten d (Err k) → DoesRead n replace d (refused k None) docs docs
replace_unwritten docs n d k good (inl is) f = answers_stay docs n (replace f (readable d)) (refused k None) good (λ a s. unfit_answers f d k (documents_of a n) is)
replace_unwritten docs n d k good (inr is) f = rw is (denied docs (on n (replace f (readable d))) faults.Memory memory_other (undecided n (replace f (readable d)) good (read_open f d)))

pub replace_unfound : (docs after : List TableRow) (n k b : List ℕ) (d : Members) (x : Fault) → IsName n → Fits d k b → FindsRow n k (Err x) docs after → DoesRead n replace d (refused (kind_of_fault x) None) docs after
replace_unfound docs after n k b d x good fits h f = unlooked docs after n fits.id (replace f (readable d)) _ good (read_open f d) (unfound_looks docs after n k fits.id x h)

none_answers : (f : Form) (d : Members) (id : Value) (l : Documents) → look_up id_key d ≡ Some id → size d ≤ size_limit → NoneHasId id l → Answers (replace f (readable d)) l (refused NotFound None) l
none_answers f d id l has short none = rw (has, le-ltb size_limit (size d) short) (inr (none, (refl, refl)))

pub replace_none : (docs after : List TableRow) (n k b : List ℕ) (d : Members) → IsName n → Fits d k b → FindsRow n k (Ok None) docs after → DoesRead n replace d (refused NotFound None) docs after
replace_none docs after n k b d good fits h f =
    not_there docs after n fits.id (replace f (readable d)) good (λ a none. none_answers f d fits.id (documents_of a n) fits.has fits.short none) (found_looks docs after n k fits.id None fits.key h)

at_answers : (f : Form) (d : Members) (id : Value) (l es : Documents) → look_up id_key d ≡ Some id → size d ≤ size_limit → AtId id l (λ front old back. (done ≡ done) × (es ≡ front ++ d ∷ back)) (Refuses NotFound l done es) → Answers (replace f (readable d)) l done es
at_answers f d id l es has short at = rw (has, le-ltb size_limit (size d) short) at

replace_remakes : (f : Form) (d : Members) (k b : List ℕ) (x : Found) (fits : Fits d k b) → Remakes fits.id (replace f (readable d)) done x b
replace_remakes f d k b x fits l front old back was kept at =
    (d, fits.body, at_answers f d fits.id l (front ++ d ∷ back) fits.has fits.short (inl (front, old, back, at, (refl, refl))), ap key (own_is d fits.id fits.has) ∙ (has_written old fits.id kept fits.key.sound at.has).keys)

pub put_in_place : (docs mid after : List TableRow) (n k b : List ℕ) (d : Members) (x : Found) → IsName n → Fits d k b → FindsRow n k (Ok (Some x)) docs mid → Changes (with_body_at x.place b) (Ok tt) mid after → DoesRead n replace d done docs after
put_in_place docs mid after n k b d x good fits h change f =
    rewritten docs mid after n fits.id x (replace f (readable d)) done b good (λ _. fits.read) (found_looks docs mid n k fits.id (Some x) fits.key h) (replace_remakes f d k b x fits) change

pub not_put_in_place : (docs mid after : List TableRow) (n k b : List ℕ) (d : Members) (x : Found) (e : Fault) → IsName n → Fits d k b → FindsRow n k (Ok (Some x)) docs mid → Changes (with_body_at x.place b) (Err e) mid after → DoesRead n replace d (refused (kind_of_fault e) None) docs after
not_put_in_place docs mid after n k b d x e good fits h change f =
    unchanged docs mid after n fits.id x (replace f (readable d)) (with_body_at x.place b) e good (read_open f d) (found_looks docs mid n k fits.id (Some x) fits.key h) change
