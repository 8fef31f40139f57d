-- Documents that go into a list go by the written keys of their ids.
use Rattle.std.proofs.Common.{◌≡◌, inl, inr, ℕ, suc, ◌+◌, add-zero, zero-add, [], ◌∷◌, ◌++◌, length, append_assoc, Bool, true, false, ◌||◌, cond, Option, Some, None, refl, ap, sym, ◌∙◌, subst, is_some, arith}
use Rattle.std.specs.Prelude.{MatchOption, IsSomeAnd}
use Rattle.std.specs.List.{list_any}
use Rattle.std.specs.Str.{bytes_eq}
use Rattle.std.proofs.lemmas.List.{append-nil, map-append}
use Rattle.std.proofs.lemmas.Slice.Eq.{bytes_eq-Decides}
use Rattle.bson_base.specs.Value.{Value, Members, look_up}
use Rattle.bson_meaning.specs.Meaning.{key, Same}
use Rattle.store_model.specs.Reading.{Documents, AreRead}
use Rattle.store_model.specs.State.{id_key, SomeHasId, IsTaken, number, refused, refusal_of, or_later, first_refusal, Appends, IsKept, AreKept}
use Rattle.store_model.specs.Table.{own_id}
use Rattle.store_model.specs.declared.error.ErrorKind.{ErrorKind}
use Rattle.store_model.specs.declared.error.ErrorKind.TheVariants.{DuplicateId}
use Rattle.store_model.proofs.IdLemmas.{own_of, own_is, key_long, plain_of, has_written, written_has}
use Rattle.store_documents.specs.Keys.{first_taken, keys_of}
use Rattle.store_model.proofs.KeptLemmas.{accepted}

-- ---- what isn't refused is kept

pub all_accepted : (i : ℕ) (ds : Documents) → AreRead ds → first_refusal i ds None ≡ None → AreKept ds
all_accepted i [] r e = tt
all_accepted i (d ∷ ds) r e = by (refusal_of d) refl e (all_accepted (suc i) ds r.1)
  where
    by : (o : Option ErrorKind) → refusal_of d ≡ o → ◌≡◌ {A = Option (ErrorKind × ℕ)} (or_later o i (first_refusal (suc i) ds None)) None
        → (first_refusal (suc i) ds None ≡ None → AreKept ds) → AreKept (d ∷ ds)
    by None h e more = (accepted d r.0 h, more e)
    by (Some k) h e more = cc

-- ---- ids by keys

-- the `_id` of a kept document
record OwnId (d : Members) : Type 0 where
  pub id : Value
  pub found : look_up id_key d ≡ Some id

own_id_of : (d : Members) → IsKept d → OwnId d
own_id_of d k = by (look_up id_key d) refl
  where
    by : (o : Option Value) → look_up id_key d ≡ o → OwnId d
    by None e = let differ : true ≡ false = sym k.identified ∙ ap is_some e in cc
    by (Some id) e = record { id = id; found = e }

-- a document has the id exactly if the keys are equal
same_keys : (d e : Members) → IsKept d → IsKept e → (own : OwnId d) → bytes_eq (key (own_id d)) (key (own_id e)) ≡ true → IsSomeAnd (look_up id_key e) (λ v. Same v own.id)
same_keys d e kd ke own t =
    let o = own_of d own.id kd own.found in
    written_has e own.id ke o.sound (plain_of own.id o.clean) (omega (arith, key_long d own.id o))
    (ap key (sym (own_is d own.id own.found)) ∙ (bytes_eq-Decides (key (own_id d)) (key (own_id e))).0 t)

some_taken : (d : Members) (there : Documents) → IsKept d → AreKept there → (own : OwnId d) → list_any (bytes_eq (key (own_id d))) (keys_of there) ≡ true → SomeHasId own.id there
some_taken d [] kd kt own t = cc
some_taken d (e ∷ there) kd kt own t = by (bytes_eq (key (own_id d)) (key (own_id e))) refl t (some_taken d there kd kt.1 own)
  where
    by : (b : Bool) → bytes_eq (key (own_id d)) (key (own_id e)) ≡ b → b || list_any (bytes_eq (key (own_id d))) (keys_of there) ≡ true
        → (list_any (bytes_eq (key (own_id d))) (keys_of there) ≡ true → SomeHasId own.id there) → SomeHasId own.id (e ∷ there)
    by true i t more = inl (same_keys d e kd kt.0 own i)
    by false i t more = inr (more t)

none_taken : (d : Members) (there : Documents) → IsKept d → AreKept there → (own : OwnId d) → list_any (bytes_eq (key (own_id d))) (keys_of there) ≡ false → SomeHasId own.id there → ⊥
none_taken d [] kd kt own t h = h
none_taken d (e ∷ there) kd kt own t h = by (bytes_eq (key (own_id d)) (key (own_id e))) refl t h (none_taken d there kd kt.1 own)
  where
    by : (b : Bool) → bytes_eq (key (own_id d)) (key (own_id e)) ≡ b → b || list_any (bytes_eq (key (own_id d))) (keys_of there) ≡ false → SomeHasId own.id (e ∷ there)
        → (list_any (bytes_eq (key (own_id d))) (keys_of there) ≡ false → SomeHasId own.id there → ⊥) → ⊥
    by true i t h more = let differ : true ≡ false = t in cc
    by false i t (inl has) more =
        let o = own_of d own.id kd own.found in
        let same = (bytes_eq-Decides (key (own_id d)) (key (own_id e))).1 (ap key (own_is d own.id own.found) ∙ (has_written e own.id kt.0 o.sound has).keys) in
        let differ : true ≡ false = sym same ∙ i in cc
    by false i t (inr has) more = more t has

taken : (d : Members) (there : Documents) → IsKept d → AreKept there → list_any (bytes_eq (key (own_id d))) (keys_of there) ≡ true → IsTaken d there
taken d there kd kt t = let own = own_id_of d kd in subst (λ o. IsSomeAnd o (λ id. SomeHasId id there)) (sym own.found) (some_taken d there kd kt own t)

free : (d : Members) (there : Documents) → IsKept d → AreKept there → list_any (bytes_eq (key (own_id d))) (keys_of there) ≡ false → IsTaken d there → ⊥
free d there kd kt t h = let own = own_id_of d kd in none_taken d there kd kt own t (subst (λ o. IsSomeAnd o (λ id. SomeHasId id there)) own.found h)

-- ---- one after the other

kept_last : (ds : Documents) (d : Members) → AreKept ds → IsKept d → AreKept (ds ++ d ∷ [])
kept_last [] d a k = (k, tt)
kept_last (e ∷ ds) d a k = (a.0, kept_last ds d a.1 k)

-- the reply if this is the first place whose key is there
abbrev Goes : ℕ → Documents → Documents → Documents → Option ℕ → Type 0
Goes i start there more o = MatchOption o (Appends i start there more (number (i + length more)) (there ++ more)) (λ j. Appends i start there more (refused DuplicateId (Some j)) start)

goes_on : (i : ℕ) (start there : Documents) (d : Members) (more : Documents) (o : Option ℕ) → (IsTaken d there → ⊥) → Goes (suc i) start (there ++ d ∷ []) more o → Goes i start there (d ∷ more) o
goes_on i start there d more None fresh h =
    let e : suc i + length more ≡ i + suc (length more) = omega arith in
    inr (fresh, subst (λ n. Appends (suc i) start (there ++ d ∷ []) more (number n) (there ++ d ∷ more)) e (subst (λ es. Appends (suc i) start (there ++ d ∷ []) more (number (suc i + length more)) es) (append_assoc there (d ∷ []) more) h))
goes_on i start there d more (Some j) fresh h = inr (fresh, h)

pub appending : (i : ℕ) (start there more : Documents) → AreKept there → AreKept more → Goes i start there more (first_taken i (keys_of there) (keys_of more))
appending i start there [] kt km = (ap number (add-zero i), append-nil there)
appending i start there (d ∷ more) kt km = by (list_any (bytes_eq (key (own_id d))) (keys_of there)) refl (appending (suc i) start (there ++ d ∷ []) more (kept_last there d kt km.0) km.1)
  where
    by : (b : Bool) → list_any (bytes_eq (key (own_id d))) (keys_of there) ≡ b → Goes (suc i) start (there ++ d ∷ []) more (first_taken (suc i) (keys_of (there ++ d ∷ [])) (keys_of more))
        → Goes i start there (d ∷ more) (cond b (Some i) (first_taken (suc i) (keys_of there ++ key (own_id d) ∷ []) (keys_of more)))
    by true t rest = inl (taken d there km.0 kt t, (refl, refl))
    by false t rest = goes_on i start there d more _ (free d there km.0 kt t)
        (subst (λ ks. Goes (suc i) start (there ++ d ∷ []) more (first_taken (suc i) ks (keys_of more))) (map-append (λ e. key (own_id e)) there (d ∷ [])) rest)

-- all of them, from the start
pub appending_all : (ds more : Documents) → AreKept ds → AreKept more
    → MatchOption (first_taken 0 (keys_of ds) (keys_of more)) (Appends 0 ds ds more (number (length more)) (ds ++ more)) (λ j. Appends 0 ds ds more (refused DuplicateId (Some j)) ds)
appending_all ds more kd km = subst (λ n. MatchOption (first_taken 0 (keys_of ds) (keys_of more)) (Appends 0 ds ds more (number n) (ds ++ more)) (λ j. Appends 0 ds ds more (refused DuplicateId (Some j)) ds))
    (zero-add (length more)) (appending 0 ds ds more kd km)
