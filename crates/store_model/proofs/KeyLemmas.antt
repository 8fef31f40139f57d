-- Rows whose written keys are distinct represent a state.
use Rattle.std.proofs.Common.{◌≡◌, ◌≢◌, inl, inr, ℕ, List, [], ◌∷◌, Bool, true, false, cond, Option, Some, None, refl, ap, ◌∙◌, sym, subst, arith}
use Rattle.std.specs.Prelude.{bytes_eq, IsSomeAnd, is_some}
use Rattle.bson_base.specs.Kinds.{IsSound}
use Rattle.bson_base.specs.Value.{Value, look_up}
use Rattle.bson_meaning.specs.Meaning.{key}
use Rattle.store_model.specs.State.{id_key, SomeHasId, IsTaken, IsName, AreKept, HaveOwnIds, IsStore, HasId, IsKept}
use Rattle.store_model.specs.Table.{DocumentRow, DocumentTable, state_of, documents_of, IsAlone, AreRows, own_id}
use Rattle.store_model.proofs.IdLemmas.{own_of, own_is, has_written, key_long, plain_of, written_has}
use Rattle.store_model.proofs.RowLemmas.{list_of-state_of, rows_not_empty, own_row}
use Rattle.bson_base.proofs.MemberLemmas.{equal_keys, same_key}

pub rows_kept : (rs : DocumentTable) (n : List ℕ) → AreRows rs → AreKept (documents_of rs n)
rows_kept [] n h = tt
rows_kept (r ∷ rs) n h = by (bytes_eq n r.name) (rows_kept rs n h.3)
  where
    by : (b : Bool) → AreKept (documents_of rs n) → AreKept (cond b (r.document ∷ documents_of rs n) (documents_of rs n))
    by true k = (h.1, k)
    by false k = k

none_has : (r : DocumentRow) (id : Value) → look_up id_key r.document ≡ Some id → IsSound id → (rs : DocumentTable) → IsAlone r rs → AreRows rs → SomeHasId id (documents_of rs r.name) → ⊥
none_has r id i s [] a k h = h
none_has r id i s (q ∷ rs) a k h = by (bytes_eq r.name q.name) refl h (none_has r id i s rs a.1 k.3)
  where
    by : (b : Bool) → bytes_eq r.name q.name ≡ b → SomeHasId id (cond b (q.document ∷ documents_of rs r.name) (documents_of rs r.name)) → (SomeHasId id (documents_of rs r.name) → ⊥) → ⊥
    by true e (inl has) rest = a.0 (sym (equal_keys r.name q.name e)) (sym (has_written q.document id k.1 s has).keys ∙ ap key (sym (own_is r.document id i)))
    by true e (inr more) rest = rest more
    by false e h rest = rest h

free : (r : DocumentRow) (rs : DocumentTable) → AreRows (r ∷ rs) → IsTaken r.document (documents_of rs r.name) → ⊥
free r rs h = by (look_up id_key r.document) refl
  where
    by : (o : Option Value) → look_up id_key r.document ≡ o → IsSomeAnd o (λ id. SomeHasId id (documents_of rs r.name)) → ⊥
    by None e t = t
    by (Some id) e t = none_has r id e (own_of r.document id h.1 e).sound rs h.2 h.3 t

rows_own : (rs : DocumentTable) (n : List ℕ) → AreRows rs → HaveOwnIds (documents_of rs n)
rows_own [] n h = tt
rows_own (r ∷ rs) n h = by (bytes_eq n r.name) refl (rows_own rs n h.3)
  where
    by : (b : Bool) → bytes_eq n r.name ≡ b → HaveOwnIds (documents_of rs n) → HaveOwnIds (cond b (r.document ∷ documents_of rs n) (documents_of rs n))
    by true e k = (λ t. free r rs h (subst (λ m. IsTaken r.document (documents_of rs m)) (equal_keys n r.name e) t), k)
    by false e k = k

rows_named : (rs : DocumentTable) (n : List ℕ) → AreRows rs → documents_of rs n ≢ [] → IsName n
rows_named [] n h some = absurd (some refl)
rows_named (r ∷ rs) n h some = by (bytes_eq n r.name) refl some (rows_named rs n h.3)
  where
    by : (b : Bool) → bytes_eq n r.name ≡ b → (cond b (r.document ∷ documents_of rs n) (documents_of rs n) ≡ [] → ⊥) → (documents_of rs n ≢ [] → IsName n) → IsName n
    by true e f rest = subst IsName (sym (equal_keys n r.name e)) h.0
    by false e f rest = rest f

pub rows_are_a_state : (rs : DocumentTable) → AreRows rs → IsStore (state_of rs)
rows_are_a_state rs h = record {
  kept = λ n. subst AreKept (sym (list_of-state_of rs n)) (rows_kept rs n h);
  own_ids = λ n. subst HaveOwnIds (sym (list_of-state_of rs n)) (rows_own rs n h);
  named = λ n some. rows_named rs n h (λ e. some (list_of-state_of rs n ∙ e));
  nonempty = rows_not_empty rs;
}

-- ---- and back

some_of : (r : DocumentRow) (id : Value) (q : DocumentRow) (rs : DocumentTable) → q.name ≡ r.name → HasId id q.document → SomeHasId id (documents_of (q ∷ rs) r.name)
some_of r id q rs e has = subst (λ b. SomeHasId id (cond b (q.document ∷ documents_of rs r.name) (documents_of rs r.name))) (sym (ap (bytes_eq r.name) e ∙ same_key r.name)) (inl has)

some_later : (r : DocumentRow) (id : Value) (q : DocumentRow) (rs : DocumentTable) → SomeHasId id (documents_of rs r.name) → SomeHasId id (documents_of (q ∷ rs) r.name)
some_later r id q rs h = by (bytes_eq r.name q.name)
  where
    by : (b : Bool) → SomeHasId id (cond b (q.document ∷ documents_of rs r.name) (documents_of rs r.name))
    by true = inr h
    by false = h

-- what holds of each list holds of each list without the first row
rest_kept : (r : DocumentRow) (rs : DocumentTable) (n : List ℕ) → AreKept (documents_of (r ∷ rs) n) → AreKept (documents_of rs n)
rest_kept r rs n h = by (bytes_eq n r.name) h
  where
    by : (b : Bool) → AreKept (cond b (r.document ∷ documents_of rs n) (documents_of rs n)) → AreKept (documents_of rs n)
    by true k = k.1
    by false k = k

rest_own : (r : DocumentRow) (rs : DocumentTable) (n : List ℕ) → HaveOwnIds (documents_of (r ∷ rs) n) → HaveOwnIds (documents_of rs n)
rest_own r rs n h = by (bytes_eq n r.name) h
  where
    by : (b : Bool) → HaveOwnIds (cond b (r.document ∷ documents_of rs n) (documents_of rs n)) → HaveOwnIds (documents_of rs n)
    by true k = k.1
    by false k = k

rest_some : (r : DocumentRow) (rs : DocumentTable) (n : List ℕ) → documents_of rs n ≢ [] → documents_of (r ∷ rs) n ≢ []
rest_some r rs n some = by (bytes_eq n r.name)
  where
    by : (b : Bool) → cond b (r.document ∷ documents_of rs n) (documents_of rs n) ≡ [] → ⊥
    by true e = cc
    by false e = some e

alone_of : (r : DocumentRow) → IsKept r.document → (rs : DocumentTable) → ((n : List ℕ) → AreKept (documents_of rs n)) → (IsTaken r.document (documents_of rs r.name) → ⊥) → IsAlone r rs
alone_of r k [] kept none = tt
alone_of r k (q ∷ rs) kept none = (λ e same. none (taken e same (look_up id_key r.document) refl), alone_of r k rs (λ n. rest_kept q rs n (kept n)) (λ t. none (still (look_up id_key r.document) t)))
  where
    other : IsKept q.document
    other = (subst AreKept (own_row q rs) (kept q.name)).0

    taken : q.name ≡ r.name → key (own_id q.document) ≡ key (own_id r.document) → (o : Option Value) → look_up id_key r.document ≡ o → IsSomeAnd o (λ id. SomeHasId id (documents_of (q ∷ rs) r.name))
    taken e same None i = let no : true ≡ false = sym k.identified ∙ ap is_some i in cc
    taken e same (Some id) i =
        let o = own_of r.document id k i in
        some_of r id q rs e (written_has q.document id other o.sound (plain_of id o.clean) (omega (arith, key_long r.document id o)) (sym (ap key (own_is r.document id i)) ∙ sym same))

    still : (o : Option Value) → IsSomeAnd o (λ id. SomeHasId id (documents_of rs r.name)) → IsSomeAnd o (λ id. SomeHasId id (documents_of (q ∷ rs) r.name))
    still None h = h
    still (Some id) h = some_later r id q rs h

rows_from : (rs : DocumentTable) → ((n : List ℕ) → AreKept (documents_of rs n)) → ((n : List ℕ) → HaveOwnIds (documents_of rs n)) → ((n : List ℕ) → documents_of rs n ≢ [] → IsName n) → AreRows rs
rows_from [] kept own named = tt
rows_from (r ∷ rs) kept own named =
    let k = subst AreKept (own_row r rs) (kept r.name) in
    let o = subst HaveOwnIds (own_row r rs) (own r.name) in (
      named r.name (λ e. let no : r.document ∷ documents_of rs r.name ≡ [] = sym (own_row r rs) ∙ e in cc),
      k.0,
      alone_of r k.0 rs (λ n. rest_kept r rs n (kept n)) o.0,
      rows_from rs (λ n. rest_kept r rs n (kept n)) (λ n. rest_own r rs n (own n)) (λ n some. named n (rest_some r rs n some)),
    )

pub a_state_has_rows : (rs : DocumentTable) → IsStore (state_of rs) → AreRows rs
a_state_has_rows rs h = rows_from rs (λ n. subst AreKept (list_of-state_of rs n) (h.kept n)) (λ n. subst HaveOwnIds (list_of-state_of rs n) (h.own_ids n)) (λ n some. h.named n (λ e. some (sym (list_of-state_of rs n) ∙ e)))
