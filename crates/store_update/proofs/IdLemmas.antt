-- The `_id` of a document that is updated.
use Rattle.std.proofs.Common.{◌≡◌, ℕ, List, [], ◌∷◌, Bool, true, false, not, ◌&&◌, ◌||◌, cond, Option, Some, None, is_none, Result, Ok, Err, refl, sym, ap, ◌∙◌, subst}
use Rattle.std.specs.Prelude.{bytes_eq}
use Rattle.bson_base.specs.Value.{Value, document, Members, look_up, put, without}
use Rattle.bson_base.proofs.MemberLemmas.{key_turned, look_up-put, look_up-without}
use Rattle.store_update.specs.Number.{onward}
use Rattle.store_update.specs.Plan.{Change, Path, Plan, changes, renames}
use Rattle.store_update.specs.Update.{altered, changed, found, has_members, id_key, inside, is_left_out, is_of_id, made, moved, renamed, settled, settled_inside, step_made, updated}
use Rattle.store_update.specs.declared.error.UpdateError.{UpdateError}
use Rattle.store_update.specs.declared.error.UpdateError.TheVariants.{Id}

went_on : {A B : Type 0} (x : Result A UpdateError) (f : A → Result B UpdateError) (b : B) → onward x f ≡ Ok b → (a : A) × (x ≡ Ok a) × (f a ≡ Ok b)
went_on (Ok a) f b h = (a, refl, h)
went_on (Err e) f b h = absurd (cc)

same_ok : {A : Type 0} (a b : A) → ◌≡◌ {A = Result A UpdateError} (Ok a) (Ok b) → a ≡ b
same_ok a b h = cc

stays_put : (k : List ℕ) (v : Value) (ms : Members) → bytes_eq k id_key ≡ false → look_up id_key (put k v ms) ≡ look_up id_key ms
stays_put k v ms other = look_up-put id_key k v ms ∙ ap (λ b. cond b (Some v) (look_up id_key ms)) (key_turned id_key k ∙ other)

stays_without : (k : List ℕ) (ms : Members) → bytes_eq k id_key ≡ false → look_up id_key (without k ms) ≡ look_up id_key ms
stays_without k ms other = look_up-without id_key k ms ∙ ap (λ b. cond b None (look_up id_key ms)) (key_turned id_key k ∙ other)

stays_settled : (k : List ℕ) (new : Option Value) (ms : Members) → bytes_eq k id_key ≡ false → look_up id_key (settled k new ms) ≡ look_up id_key ms
stays_settled k (Some v) ms other = stays_put k v ms other
stays_settled k None ms other = stays_without k ms other

stays_inside : (k : List ℕ) (old : Option Value) (d ms : Members) → bytes_eq k id_key ≡ false → look_up id_key (settled_inside k old d ms) ≡ look_up id_key ms
stays_inside k old d ms other = by (is_none old && not (has_members d))
  where
    by : (b : Bool) → look_up id_key (cond b ms (put k (document d) ms)) ≡ look_up id_key ms
    by true = refl
    by false = stays_put k (document d) ms other

abbrev Maker : Type 0
Maker = Option Value → Result (Option Value) UpdateError

stays_altered : (f : Maker) (ks : Path) (ms d : Members) → is_of_id ks ≡ false → altered f ks ms ≡ Ok d → look_up id_key d ≡ look_up id_key ms
stays_altered f [] ms d other h = absurd (cc)
stays_altered f (k ∷ []) ms d other h =
    let p = went_on (f (look_up k ms)) (λ new. Ok (settled k new ms)) d h in
    ap (look_up id_key) (sym (same_ok (settled k p.0 ms) d p.2)) ∙ stays_settled k p.0 ms other
stays_altered f (k ∷ l ∷ ks) ms d other h =
    let p = went_on (inside (look_up k ms)) (λ e. onward (altered f (l ∷ ks) e) (λ x. Ok (settled_inside k (look_up k ms) x ms))) d h in
    let q = went_on (altered f (l ∷ ks) p.0) (λ x. Ok (settled_inside k (look_up k ms) x ms)) d p.2 in
    ap (look_up id_key) (sym (same_ok (settled_inside k (look_up k ms) q.0 ms) d q.2)) ∙ stays_inside k (look_up k ms) q.0 ms other

stays_changed : (inserts : Bool) (path : Path) (c : Change) (ms d : Members) → changed inserts path c ms ≡ Ok d → look_up id_key d ≡ look_up id_key ms
stays_changed inserts path c ms d h = by (is_of_id path) (is_left_out inserts c) refl h
  where
    by : (b e : Bool) → is_of_id path ≡ b → cond b (Err Id) (cond e (Ok ms) (altered (made c) path ms)) ≡ Ok d → look_up id_key d ≡ look_up id_key ms
    by true e other h = absurd (cc)
    by false true other h = ap (look_up id_key) (sym (same_ok ms d h))
    by false false other h = stays_altered (made c) path ms d other h

stays_moved : (path to : Path) (o : Option Value) (ms d : Members) → is_of_id path ≡ false → is_of_id to ≡ false → moved path to o ms ≡ Ok d → look_up id_key d ≡ look_up id_key ms
stays_moved path to None ms d one two h = ap (look_up id_key) (sym (same_ok ms d h))
stays_moved path to (Some v) ms d one two h =
    let p = went_on (altered (λ old. Ok None) path ms) (altered (λ old. Ok (Some v)) to) d h in
    stays_altered (λ old. Ok (Some v)) to p.0 d two p.2 ∙ stays_altered (λ old. Ok None) path ms p.0 one p.1

stays_renamed : (path to : Path) (ms d : Members) → renamed path to ms ≡ Ok d → look_up id_key d ≡ look_up id_key ms
stays_renamed [] to ms d h = absurd (cc)
stays_renamed (k ∷ ks) to ms d h = by (is_of_id (k ∷ ks)) (is_of_id to) refl refl h
  where
    by : (b c : Bool) → is_of_id (k ∷ ks) ≡ b → is_of_id to ≡ c → cond (b || c) (Err Id) (onward (found ks (look_up k ms)) (λ o. moved (k ∷ ks) to o ms)) ≡ Ok d → look_up id_key d ≡ look_up id_key ms
    by true c one two h = absurd (cc)
    by false true one two h = absurd (cc)
    by false false one two h =
        let p = went_on (found ks (look_up k ms)) (λ o. moved (k ∷ ks) to o ms) d h in
        stays_moved (k ∷ ks) to p.0 ms d one two p.2

stays_step : (inserts : Bool) (p : Plan) (ms d : Members) → step_made inserts p ms ≡ Ok d → look_up id_key d ≡ look_up id_key ms
stays_step inserts (changes path c) ms d h = stays_changed inserts path c ms d h
stays_step inserts (renames path to) ms d h = stays_renamed path to ms d h

pub stays : (inserts : Bool) (plans : List Plan) (ms d : Members) → updated inserts plans ms ≡ Ok d → look_up id_key d ≡ look_up id_key ms
stays inserts [] ms d h = ap (look_up id_key) (sym (same_ok ms d h))
stays inserts (p ∷ plans) ms d h = let q = went_on (step_made inserts p ms) (updated inserts plans) d h in stays inserts plans q.0 d q.2 ∙ stays_step inserts p ms q.0 q.1
