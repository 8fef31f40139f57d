-- What a request that only reads returns.
use Rattle.std.proofs.Common.{◌≡◌, ◌≤◌, ℕ, List, Bool, true, false, IsTrue, Option, None, Some, Result, Ok, Err, arith, refl, sym, subst}
use Rattle.std.specs.Prelude.{IfOk, IfSome}
use Rattle.sqlite_pages.specs.Outcome.{doubt}
use Rattle.store_model.specs.declared.error.StoreError.{StoreError}
use Rattle.fallowtime_commands.specs.Printing.{IsOutcomeText, IsRead}
use Rattle.fallowtime_commands.specs.declared.answer.Answer.{Answer}
use Rattle.fallowtime_commands.specs.declared.answer.Answer.TheVariants as answer
use Rattle.fallowtime_commands.specs.declared.printing.Form.{Form}

-- it has no id
pub no_id : (f : Form) (o : Result Answer StoreError) (text : List ℕ) → IfOk o IsRead → IsOutcomeText f o text
no_id f (Ok (answer.Number n)) text h = tt
no_id f (Ok (answer.Document body)) text h = tt
no_id f (Ok (answer.Documents bodies)) text h = tt
no_id f (Ok (answer.Names names)) text h = tt
no_id f (Ok (answer.Values cs counts)) text h = tt
no_id f (Ok (answer.NotCalculated e)) text h = tt
no_id f (Ok answer.Nothing) text h = absurd h
no_id f (Ok (answer.Id v)) text h = absurd h
no_id f (Ok (answer.Flag b)) text h = absurd h
no_id f (Ok (answer.Found found)) text h = absurd h
no_id f (Ok (answer.Updated m c)) text h = absurd h
no_id f (Ok (answer.NotUpdated i e)) text h = absurd h
no_id f (Ok (answer.Upserted v)) text h = absurd h
no_id f (Ok (answer.NotUpserted e)) text h = absurd h
no_id f (Err e) text h = tt

-- what is told is what was returned
pub if_told : (t : Option (Result Answer StoreError)) (o : Result Answer StoreError) (P : Result Answer StoreError → Type 0) → IfSome t (λ x. x ≡ o) → P o → IfSome t P
if_told None o P is p = tt
if_told (Some x) o P is p = subst P (sym is) p

-- no wrong answer of the disks, as a number and as a truth value
pub no_doubt : (clean : Bool) → IsTrue clean → doubt clean ≡ 0
unfolding doubt
no_doubt true h = refl
no_doubt false h = absurd (cc)

without_doubt : (clean : Bool) → doubt clean ≡ 0 → IsTrue clean
unfolding doubt
without_doubt true h = refl
without_doubt false h = absurd (cc)

-- none was taken as true before, if none is at the end
pub was_clean : (old new : Bool) → doubt old ≤ doubt new → IsTrue new → IsTrue old
was_clean old new h clean = let zero = no_doubt new clean in let before : doubt old ≡ 0 = omega (arith, zero, h) in without_doubt old before
