-- Rows that a store can have written.
use Rattle.std.proofs.Common.{◌≡◌, ◌↔◌, ◌⊎◌, inl, inr, ℕ, ◌<◌, ◌≤◌, List, length, Bool, true, false, IsTrue, Some, None, refl, subst, ap, ◌∙◌, sym, arith}
use Rattle.std.specs.Prelude.{IsUtf8, Result, Ok, Err, MatchResult, Vec, is_some}
use Rattle.bson_base.specs.Kinds.{IsClean, IsPlain, IsSound}
use Rattle.bson_base.specs.Value.{Value, document, look_up, Members}
use Rattle.bson_bytes.specs.Encode.{encode}
use Rattle.bson_bytes.specs.Spells.{Means}
use Rattle.bson_bytes.proofs.LengthLemmas.{encode_length}
use Rattle.bson_bytes.proofs.OneTreeLemmas.{one_meaning}
use Rattle.bson_frame.specs.Frame.{size_limit}
use Rattle.bson_meaning.specs.Before as before
use Rattle.bson_meaning.proofs.BeforeLemmas.{size_before}
use Rattle.bson_meaning.specs.Meaning.{key}
use Rattle.bson_model.specs.View.{members_of, pairs_of}
use Rattle.bson_model.specs.declared.document.Document.{Document}
use Rattle.store_model.specs.Reading.{IsRead, readable, ReadsBytes}
use Rattle.store_model.specs.State.{id_key, IsKept, IsName, refusal_of}
use Rattle.store_model.specs.Table.{only_id, own_id}
use Rattle.store_model.proofs.IdLemmas.{own_is, own_of, plain_of}
use Rattle.store_documents.specs.declared.row.RowKey.{RowKey}
use Rattle.store_documents.specs.declared.row.RowKey.TheVariants.{Own, Before, Neither}
use Rattle.std.specs.declared.alloc.Global.{Global}
use Rattle.store_model.specs.declared.error.ErrorKind.{ErrorKind}
use Rattle.store_model.specs.declared.error.ErrorKind.TheVariants.{Memory}
use Rattle.store_documents.specs.Bodies.{AnswersKept, IsRow, TellsKey}
use Rattle.store_documents.proofs.ByteLemmas.{Fails, read_same, wants_memory}
use Rattle.store_model.proofs.KeptLemmas.{accepted}
use Rattle.store_model.proofs.RestoreLemmas.{not_refused, written_reads}

pub unread : (n k b : List ℕ) (x : ErrorKind) → Fails b x → (x ≡ Memory → ⊥) → IsRow n k b → ⊥
unread n k b x fails other row = other (wants_memory b row.document x row.kept row.body fails)

-- what the bytes are read as isn't written
pub unwritten : (n k b : List ℕ) (d : Members) (x : ErrorKind) → ReadsBytes b (readable d) → (refusal_of d ≡ Some x) ⊎ (x ≡ Memory) → (x ≡ Memory → ⊥) → IsRow n k b → ⊥
unwritten n k b d x reads (inl refused) other row =
    let same : d ≡ row.document = read_same b row.document d row.kept row.body reads in
    let none : refusal_of d ≡ None = ap refusal_of same ∙ not_refused row.document row.kept in
    let no : Some x ≡ None = sym refused ∙ none in
    cc
unwritten n k b d x reads (inr memory) other row = absurd (other memory)

-- no row is returned for the bytes
pub not_answered : (n k b : List ℕ) (x : ErrorKind) → AnswersKept b (Err x) → (x ≡ Memory → ⊥) → IsRow n k b → ⊥
not_answered n k b x (inl fails) other row = unread n k b x (inl fails) other row
not_answered n k b x (inr a) other row = unwritten n k b a.0 x a.1 a.3 other row

-- what the bytes are read as is written as these bytes
pub record WritesAs (d : Members) (key_bytes body : List ℕ) : Type 0 where
  pub read : IsRead d
  pub accepted : refusal_of d ≡ None
  pub key_is : key_bytes ≡ key (own_id d)
  pub body_is : body ≡ encode d

pub is_row : (n k b : List ℕ) (d : Members) (key_bytes body : List ℕ) → IsName n × IsUtf8 n → WritesAs d key_bytes body → key_bytes ≡ k → body ≡ b → IsRow n k b
is_row n k b d key_bytes body name w i j = record {
  name = name.0;
  utf8 = name.1;
  document = d;
  kept = accepted d w.read w.accepted;
  key = sym i ∙ w.key_is;
  body = sym j ∙ w.body_is;
}

pub row_back : (n k b : List ℕ) (d : Members) (key_bytes body : List ℕ) → WritesAs d key_bytes body → ReadsBytes b (readable d) → IsRow n k b → (key_bytes ≡ k) × (body ≡ b)
row_back n k b d key_bytes body w reads row =
    let same : d ≡ row.document = read_same b row.document d row.kept row.body reads in (
      w.key_is ∙ ap (λ x. key (own_id x)) same ∙ sym row.key,
      w.body_is ∙ ap encode same ∙ sym row.body,
    )

pub no_row : (b : Bool) (n k bytes : List ℕ) → b ≡ false → (IsRow n k bytes → ⊥) → IsTrue b ↔ IsRow n k bytes
no_row b n k bytes e never = (λ t. absurd (untrue t), λ row. absurd (never row))
  where
    untrue : IsTrue b → ⊥
    untrue t = cc

-- ---- either key

-- the `_id` of a kept document had a key before
pub had_key : (d : Members) (id : Value) → IsKept d → look_up id_key d ≡ Some id → IsPlain (document (only_id id)) × (length (before.key (only_id id)) ≤ size_limit)
had_key d id kept has =
    let o = own_of d id kept has in
    let clean : IsClean (document (only_id id)) = (o.plain_key, o.clean, tt) in
    let sound : IsSound (document (only_id id)) = record { ranged = (o.text, o.sound.ranged, tt); distinct = (refl, o.sound.distinct, tt) } in
    ((o.plain_key, plain_of id o.clean, tt), omega (arith, encode_length (before.norm_members_in_order (only_id id)), size_before (only_id id) clean sound, o.small))

pub kept_means : (d : Members) (b : List ℕ) → IsKept d → b ≡ encode d → Means b d
kept_means d b kept is = subst (λ x. Means x d) (sym is) ((written_reads d kept (readable d)).1 refl).1

-- the document that was read from what was written
pub same_meant : (d m : Members) (b : List ℕ) → IsKept d → b ≡ encode d → Means b m → m ≡ d
same_meant d m b kept is means = one_meaning b m d means (kept_means d b kept is)

-- the same of what reading it came to
pub same_result : (d : Members) (b : List ℕ) (r : Result Document ErrorKind) → IsKept d → b ≡ encode d
    → MatchResult r (λ e. Means b (members_of (pairs_of e))) (λ k. k ≡ Memory) → MatchResult r (λ e. members_of (pairs_of e) ≡ d) (λ k. k ≡ Memory)
same_result d b (Ok e) kept is means = same_meant d (members_of (pairs_of e)) b kept is means
same_result d b (Err k) kept is memory = memory

pub no_id_there : (d m : Members) (b : List ℕ) → IsKept d → b ≡ encode d → Means b m → look_up id_key m ≡ None → ⊥
no_id_there d m b kept is means none =
    let no : true ≡ false = sym kept.identified ∙ ap (λ x. is_some (look_up id_key x)) (sym (same_meant d m b kept is means)) ∙ ap is_some none in
    cc

pub its_key : (d m : Members) (b : List ℕ) (id : Value) (k : List ℕ) → IsKept d → b ≡ encode d → Means b m → look_up id_key m ≡ Some id → k ≡ before.key (only_id id) → k ≡ before.key (own_id d)
its_key d m b id k kept is means has key = key ∙ ap before.key (sym (own_is d id (ap (look_up id_key) (sym (same_meant d m b kept is means)) ∙ has)))

pub its_had_key : (d m : Members) (b : List ℕ) (id : Value) → IsKept d → b ≡ encode d → Means b m → look_up id_key m ≡ Some id → IsPlain (document (only_id id)) × (length (before.key (only_id id)) ≤ size_limit)
its_had_key d m b id kept is means has = had_key d id kept (ap (look_up id_key) (sym (same_meant d m b kept is means)) ∙ has)

pub not_too_long : (n : ℕ) → n ≤ size_limit → 2147483647 < n → ⊥
not_too_long n h k = omega (arith, h, k)

-- a row of the name with this body
module _ (n k b : List ℕ) (name : IsName n) (utf8 : IsUtf8 n) (d : Members) (now own : List ℕ) (w : WritesAs d now own) (reads : ReadsBytes b (readable d)) where
  pub its_document : (x : List ℕ) (row : IsRow n x b) → row.document ≡ d
  its_document x row = sym (read_same b row.document d row.kept row.body reads)

  pub other_body : (own ≡ b → ⊥) → TellsKey n k b Neither
  other_body differ x row = absurd (differ (w.body_is ∙ ap encode (sym (its_document x row)) ∙ sym row.body))

  pub own_key_told : own ≡ b → now ≡ k → TellsKey n k b Own
  own_key_told same is = is_row n k b d now own (name, utf8) w is same

  pub row_now : own ≡ b → IsRow n now b
  row_now same = is_row n now b d now own (name, utf8) w refl same

  pub old_key_told : (now_key : Vec ℕ Global) → now_key.items ≡ now → own ≡ b → (now ≡ k → ⊥) → k ≡ before.key (own_id d) → TellsKey n k b (Before now_key)
  old_key_told now_key is same differ old = (
    record { row = subst (λ x. IsRow n x b) (sym is) (row_now same); old = old ∙ ap (λ e. before.key (own_id e)) (sym (its_document now_key.items (subst (λ x. IsRow n x b) (sym is) (row_now same)))) },
    λ e. differ (sym (e ∙ is)),
  )

  pub no_key_told : (now ≡ k → ⊥) → (k ≡ before.key (own_id d) → ⊥) → TellsKey n k b Neither
  no_key_told differ older x row = (
    λ e. differ (w.key_is ∙ ap (λ m. key (own_id m)) (sym (its_document x row)) ∙ sym row.key ∙ sym e),
    λ e. older (e ∙ ap (λ m. before.key (own_id m)) (its_document x row)),
  )

pub kept_of : (d : Members) → IsRead d → refusal_of d ≡ None → IsKept d
kept_of d read none = accepted d read none

pub untrue_so : {P : Type 0} (b : Bool) → b ≡ false → (P → IsTrue b) → P → ⊥
untrue_so b e f p = let t = f p in cc

-- no row has this body
pub neither_told : (n k b : List ℕ) (r : RowKey) → r ≡ Neither → ((now : List ℕ) → IsRow n now b → ⊥) → TellsKey n k b r
neither_told n k b r e never = subst (TellsKey n k b) (sym e) (λ now row. absurd (never now row))
