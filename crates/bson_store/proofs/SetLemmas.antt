-- What set and unset make of the document whose written form was found.
use Rattle.std.proofs.Common.{◌≡◌, ◌≢◌, ◌⊎◌, inl, inr, ℕ, List, ◌∷◌, ◌++◌, Bool, true, false, cond, Option, Some, None, Ok, Err, refl, ap, ◌∙◌, sym, Vec, Global, Result}
use Rattle.std.specs.Prelude.{bytes_eq, unwrap_or}
use Rattle.std.specs.Option.{option_map}
use Rattle.bson_base.specs.Value.{Value, Members, no_members, look_up, has_key, put, without}
use Rattle.bson_bytes.specs.Encode.{encode}
use Rattle.bson_meaning.specs.Meaning.{norm_in_order, key}
use Rattle.store_table.specs.declared.row.Found.{Found}
use Rattle.store_documents.specs.Bodies.{AnswersChanged, AnswersUnset}
use Rattle.store_documents.specs.declared.change.Unset.{Unset}
use Rattle.store_model.specs.State.{id_key, set, unset, done, flag, on, refused, Answers, IsName, IsFreeKey, IsKept}
use Rattle.store_model.specs.Table.{own_id, only_id}
use Rattle.store_model.specs.declared.error.ErrorKind.{ErrorKind}
use Rattle.store_model.specs.declared.error.ErrorKind.TheVariants as kind
use Rattle.serde_json.specs.Data.{Data}
use Rattle.sqlite.specs.State.{State}
use Rattle.store_table.specs.Moves.{Moves}
use Rattle.store_model.specs.Reading.{read_value}
use Rattle.bson_store.specs.Calls.{Does}
use Rattle.bson_store.proofs.ExitLemmas.{stays_moves, memory_moves}
use Rattle.bson_store.proofs.FindLemmas.{Answered}
use Rattle.bson_store.proofs.RewriteLemmas.{Remakes}
use Rattle.bson_base.proofs.MemberLemmas.{equal_keys, look_up-put, look_up-without, lacks, without_absent}

own_if : (d old : Members) → look_up id_key d ≡ look_up id_key old → own_id d ≡ own_id old
own_if d old e = ap (λ o. unwrap_or (option_map only_id o) no_members) e

-- a free key is another than `_id`
other_key : (k : List ℕ) (x y : Option Value) → k ≢ id_key → cond (bytes_eq id_key k) x y ≡ y
other_key k x y other = by (bytes_eq id_key k) refl
  where
    by : (b : Bool) → bytes_eq id_key k ≡ b → cond b x y ≡ y
    by true e = absurd (other (sym (equal_keys id_key k e)))
    by false e = refl

-- ---- set

abbrev pub SetsIn : List ℕ → Value → Found → Result (Vec ℕ Global) ErrorKind → Type 0
SetsIn k v f r = (d : Members) → IsKept d → f.body.items ≡ encode d → AnswersChanged (put k (norm_in_order v) d) r

set_own : (k : List ℕ) (w : Value) (d : Members) → k ≢ id_key → look_up id_key (put k w d) ≡ look_up id_key d
set_own k w d other = look_up-put id_key k w d ∙ other_key k (Some w) (look_up id_key d) other

pub set_remakes : (id v : Value) (k : List ℕ) (f : Found) (b : Vec ℕ Global) → IsFreeKey k → SetsIn k v f (Ok b) → Remakes id (set id k (Some v)) done f b.items
set_remakes id v k f b free sets l front old back was kept at =
    let h = sets old kept was in (
      put k (norm_in_order v) old,
      h.1,
      inl (free, inl (front, old, back, at, inl (h.0, refl, refl))),
      ap key (own_if (put k (norm_in_order v) old) old (set_own k (norm_in_order v) old free.0)),
    )

-- why a value isn't set
pub set_refused : (id v : Value) (k : List ℕ) (f : Found) (e : ErrorKind) → IsFreeKey k → SetsIn k v f (Err e) → Answered id (set id k (Some v)) (refused e None) f
set_refused id v k f e free sets l front old back was kept at = by (sets old kept was)
  where
    by : AnswersChanged (put k (norm_in_order v) old) (Err e) → Answers (set id k (Some v)) l (refused e None) l ⊎ (refused e None ≡ refused kind.Memory None)
    by (inl h) = inl (inl (free, inl (front, old, back, at, inr (e, h, (refl, refl)))))
    by (inr h) = inr (ap (λ x. refused x None) h)

-- ---- unset

abbrev pub UnsetsIn : List ℕ → Found → Result Unset ErrorKind → Type 0
UnsetsIn k f r = (d : Members) → IsKept d → f.body.items ≡ encode d → AnswersUnset k d r

without_own : (k : List ℕ) (d : Members) → k ≢ id_key → look_up id_key (without k d) ≡ look_up id_key d
without_own k d other = look_up-without id_key k d ∙ other_key k None (look_up id_key d) other

pub unset_remakes : (id : Value) (k : List ℕ) (f : Found) (u : Unset) → IsFreeKey k → u.was_there ≡ true → UnsetsIn k f (Ok u) → Remakes id (unset id k) (flag true) f u.body.items
unset_remakes id k f u free there unsets l front old back was kept at =
    let h = unsets old kept was in (
      without k old,
      h.1,
      inl (free, inl (front, old, back, at, (ap flag (sym there ∙ h.0), refl))),
      ap key (own_if (without k old) old (without_own k old free.0)),
    )

pub unset_stays : (id : Value) (k : List ℕ) (f : Found) (u : Unset) → IsFreeKey k → u.was_there ≡ false → UnsetsIn k f (Ok u) → Answered id (unset id k) (flag false) f
unset_stays id k f u free there unsets l front old back was kept at =
    let h = unsets old kept was in
    let none : has_key k old ≡ false = sym h.0 ∙ there in
    inl (inl (free, inl (front, old, back, at, (ap flag (sym none), at.split ∙ ap (λ d. front ++ d ∷ back) (sym (without_absent k old (lacks k old none)))))))

pub unset_refused : (id : Value) (k : List ℕ) (f : Found) (e : ErrorKind) → UnsetsIn k f (Err e) → Answered id (unset id k) (refused e None) f
unset_refused id k f e unsets l front old back was kept at = inr (ap (λ x. refused x None) (unsets old kept was))

-- ---- keys that can't be set, and values that can't be read

pub set_bad_key : (id : Value) (k : List ℕ) (o : Option Value) (l : List Members) → (IsFreeKey k → ⊥) → Answers (set id k o) l (refused kind.BadKey None) l
set_bad_key id k None l bad = inr (bad, (refl, refl))
set_bad_key id k (Some v) l bad = inr (bad, (refl, refl))

pub unset_bad_key : (id : Value) (k : List ℕ) (l : List Members) → (IsFreeKey k → ⊥) → Answers (unset id k) l (refused kind.BadKey None) l
unset_bad_key id k l bad = inr (bad, (refl, refl))

pub set_unread : (s : State) (n : List ℕ) (id : Value) (k : List ℕ) (j : Data) (e : ErrorKind) → IsName n → IsFreeKey k → ((e ≡ kind.JsonRefused) × (read_value j ≡ None)) ⊎ (e ≡ kind.Memory) → Moves s s (Does (on n (set id k (read_value j))) (refused e None))
set_unread s n id k j e good free (inl h) = rw (h.0, h.1) (stays_moves s n (set id k None) (refused kind.JsonRefused None) good (λ a. inl (free, (refl, refl))))
set_unread s n id k j e good free (inr h) = rw h (memory_moves s n (set id k (read_value j)) good (λ bad. bad free))
