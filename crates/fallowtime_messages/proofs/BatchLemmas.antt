-- What was found, told batch by batch, and finds that are let go, one after the other.
use Rattle.std.proofs.Common.{◌≡◌, ◌<◌, ◌+◌, inl, inr, ℤ, ℕ, suc, zero, Bool, false, true, not, codes, List, [], ◌∷◌, length, drop, get_or, Option, Some, None, Result, Ok, Err, IfOk, Vec, refl, ap, sym, ◌∙◌, subst, arith}
use Rattle.std.specs.declared.alloc.AllocError.{AllocError}
use Rattle.std.specs.declared.alloc.Global.{Global}
use Rattle.bson_base.specs.Value.{Value}
use Rattle.bson_model.specs.View.{content, items_of}
use Rattle.bson_model.specs.declared.document.Document.{Document}
use Rattle.bson_store.specs.Export.{bytes_of_each}
use Rattle.store_model.specs.declared.error.StoreError.{StoreError}
use Rattle.fallowtime_commands.specs.declared.answer.Answer.{Answer}
use Rattle.fallowtime_commands.specs.declared.answer.Answer.TheVariants as answer
use Rattle.fallowtime_messages.specs.Waiting.{BatchTold, ClosedTold, MoreTold, Wait}
use Rattle.fallowtime_messages.specs.declared.batch.Batch.{Batch}
use Rattle.fallowtime_statements.specs.declared.plans.asked.Way.{Way}
use Rattle.fallowtime_statements.specs.declared.plans.asked.Way.TheVariants as way
use Rattle.fallowtime_statements.specs.declared.fault.Code.TheVariants as code
use Rattle.fallowtime_messages.specs.Answers as told
use Rattle.fallowtime_messages.specs.Outcomes.{Closes, Tells, TellsBatch, TellsBy, TellsClosed, TellsDocuments, TellsFound, TellsMore, batch_key, with_number}

-- ---- batches

-- the first one
pub documents_told : (space : List ℕ) (size : ℕ) (single : Bool) (bodies : List (List ℕ)) (old new : List Wait) (b : Batch) (r : Result Document AllocError) → BatchTold single size space bodies (Ok b) old new
    → IfOk r (λ d. TellsBatch (batch_key true) space b (content d)) → IfOk r (λ d. TellsDocuments space size single bodies old new (content d))
documents_told space size single bodies old new b (Ok d) begun tells = (b, begun, tells)
documents_told space size single bodies old new b (Err e) begun tells = tt

-- of what was found
pub found_told : (space : List ℕ) (size : ℕ) (single : Bool) (o : Result Answer StoreError) (bodies taken : Vec (Vec ℕ Global) Global) (old new : List Wait) (r : Result Document AllocError) → o ≡ Ok (answer.Documents bodies) → taken ≡ bodies
    → IfOk r (λ d. TellsDocuments space size single (bytes_of_each taken.items) old new (content d)) → IfOk r (λ d. TellsFound space size single o old new (content d))
found_told space size single o bodies taken old new (Ok d) is same tells =
    subst (λ x. TellsFound space size single x old new (content d)) (sym is) (subst (λ (v : Vec (Vec ℕ Global) Global). TellsDocuments space size single (bytes_of_each v.items) old new (content d)) same tells)
found_told space size single o bodies taken old new (Err e) is same tells = tt

-- what is no batch
pub told_by_way : (w : Way) (o : Result Answer StoreError) (ws : List Wait) (r : Result Document AllocError) → IfOk r (λ d. Tells w o (content d)) → IfOk r (λ d. TellsBy w o ws ws (content d))
told_by_way w o ws (Err e) tells = tt
told_by_way (way.Found space size single) (Err e) ws (Ok d) tells = (refl, tells)
told_by_way (way.Found space size single) (Ok a) ws (Ok d) tells = absurd tells
told_by_way (way.Counted skip most) o ws (Ok d) tells = (refl, tells)
told_by_way (way.Grouped space id skip most) o ws (Ok d) tells = (refl, tells)
told_by_way (way.Modified removes) o ws (Ok d) tells = (refl, tells)
told_by_way way.Different o ws (Ok d) tells = (refl, tells)
told_by_way (way.Named space only) o ws (Ok d) tells = (refl, tells)
told_by_way way.Made o ws (Ok d) tells = (refl, tells)
told_by_way (way.Dropped space) o ws (Ok d) tells = (refl, tells)
told_by_way (way.Indexed space) o ws (Ok d) tells = (refl, tells)
told_by_way (way.Unindexed all) o ws (Ok d) tells = (refl, tells)

-- ---- what is let go

at_front : (ids : List ℤ) (i : ℕ) (id other : ℤ) → i < length ids → id ≡ get_or ids i other → drop i ids ≡ id ∷ drop (i + 1) ids
at_front [] i id other lt is = absurd (omega (arith, lt))
at_front (x ∷ xs) zero id other lt is = ap (λ y. y ∷ xs) (sym is)
at_front (x ∷ xs) (suc i) id other lt is =
    let one : suc i + 1 ≡ suc (i + 1) = omega arith in
    at_front xs i id other (omega (arith, lt)) is ∙ ap (λ n. id ∷ drop n (x ∷ xs)) (sym one)

-- what is let go of those that are left is let go of all
abbrev pub GoesOn : List ℕ → List ℤ → List Wait → List ℤ → List Value → List Value → List Wait → Type 0
GoesOn space ids old rest killed missing now =
    (ks ms : List Value) (new : List Wait) → Closes space rest killed missing now new ks ms → Closes space ids [] [] old new ks ms

-- one more is
pub one_closed : (space : List ℕ) (ids : List ℤ) (old : List Wait) (i : ℕ) (id other : ℤ) (is : Bool) (killed missing more less : List Value) (now next : List Wait) → i < length ids → id ≡ get_or ids i other → ClosedTold id space is now next
    → more ≡ with_number is killed id → less ≡ with_number (not is) missing id → GoesOn space ids old (drop i ids) killed missing now → GoesOn space ids old (drop (i + 1) ids) more less next
one_closed space ids old i id other is killed missing more less now next lt there told put left goes = λ ks ms new h.
    goes ks ms new (subst (λ l. Closes space l killed missing now new ks ms) (sym (at_front ids i id other lt there))
    (is, next, told, subst (λ k. Closes space (drop (i + 1) ids) k (with_number (not is) missing id) next new ks ms) put (subst (λ m. Closes space (drop (i + 1) ids) more m next new ks ms) left h)))

-- all are
pub all_closed : (space : List ℕ) (ids : List ℤ) (old now : List Wait) (killed missing : List Value) (r : Result Document AllocError) → GoesOn space ids old [] killed missing now
    → IfOk r (λ d. content d ≡ told.closed (items_of killed) (items_of missing)) → IfOk r (λ d. TellsClosed space ids old now (content d))
all_closed space ids old now killed missing (Ok d) goes is = (killed, missing, goes killed missing now (refl, refl, refl), is)
all_closed space ids old now killed missing (Err e) goes is = tt

-- a further batch
pub more_told : (space : List ℕ) (id n : ℤ) (size : ℕ) (old new : List Wait) (o : Option Batch) (b : Batch) (r : Result Document AllocError) → n ≡ id → o ≡ Some b → MoreTold size n space (Ok o) old new
    → IfOk r (λ d. TellsBatch (batch_key false) space b (content d)) → IfOk r (λ d. TellsMore space id size old new (content d))
more_told space id n size old new o b (Ok d) same some more tells =
    inl (b, subst (λ z. MoreTold size z space (Ok (Some b)) old new) same (subst (λ x. MoreTold size n space (Ok x) old new) some more), tells)
more_told space id n size old new o b (Err e) same some more tells = tt

pub none_told : (space : List ℕ) (id : ℤ) (size : ℕ) (old new : List Wait) (r : Result Document AllocError) → MoreTold size id space (Ok None) old new → IfOk r (λ d. content d ≡ told.refused (codes "getMore") code.CursorNotFound)
    → IfOk r (λ d. TellsMore space id size old new (content d))
none_told space id size old new (Ok d) none is = inr (none, is)
none_told space id size old new (Err e) none is = tt
