-- Documents that get an `_id`, and ids that differ.
use Rattle.std.proofs.Common.{◌≡◌, ℕ, ◌<◌, ◌^◌, List, [], ◌∷◌, map, Bool, true, false, Option, Some, None, String, Global, refl, ap, ◌∙◌, sym, subst}
use Rattle.std.specs.Prelude.{bytes_eq, is_some}
use Rattle.std.specs.Int.{w32, w64, to_be_bytes, from_be_bytes}
use Rattle.std.specs.List.{IsDistinct}
use Rattle.std.specs.Map.{keys_of}
use Rattle.std.proofs.lemmas.List.{append_cancel_left}
use Rattle.std.proofs.lemmas.Nat.{from_be_bytes-to_be_bytes_8}
use Rattle.bson_base.specs.Value.{Value, has_key, member}
use Rattle.bson_meaning.proofs.PutLemmas.{KeysOnce, keys_once, put_all_once}
use Rattle.bson_model.proofs.EqualLemmas.{look_up-members_of}
use Rattle.bson_model.specs.Extend.{put_all}
use Rattle.bson_model.specs.Keyed.{Key, get}
use Rattle.bson_model.specs.Keyed as keyed
use Rattle.bson_model.specs.Rest.{owned_member}
use Rattle.bson_model.specs.View.{content, members_of, pairs_of}
use Rattle.bson_model.specs.declared.bson.Bson.{Bson}
use Rattle.bson_model.specs.declared.document.Document.{Document}
use Rattle.store_model.specs.State.{id_key}
use Rattle.cli_convert.specs.Made.{made_bytes, maker_at, next_maker, seconds_of, id_member, identified, maker_after}
use Rattle.cli_convert.specs.declared.made.IdMaker.{IdMaker}

pub numbers_same : (time m n : ℕ) → m < 2 ^ 64 → n < 2 ^ 64 → made_bytes (maker_at time m) ≡ made_bytes (maker_at time n) → m ≡ n
numbers_same time m n below also same =
    let numbers : to_be_bytes w64 m ≡ to_be_bytes w64 n = append_cancel_left (to_be_bytes w32 (seconds_of time)) (to_be_bytes w64 m) (to_be_bytes w64 n) same in
    sym (from_be_bytes-to_be_bytes_8 m below) ∙ ap (from_be_bytes w64) numbers ∙ from_be_bytes-to_be_bytes_8 n also

-- whether there is an `_id`, of pairs and of members
pub has_id : (ps : List (Key × Value)) (b : Bool) → b ≡ keyed.has_key id_key ps → has_key id_key (members_of ps) ≡ b
has_id ps b is = ap is_some (look_up-members_of id_key ps) ∙ sym is

none_of : (o : Option Value) → is_some o ≡ false → o ≡ None
none_of (Some v) h = cc
none_of None h = refl

-- a pair in front of those of a document without an `_id`
pub in_front : (d e : Document) (id : Value) (xs : List (String Global × Bson)) → has_key id_key (content d) ≡ false → IsDistinct bytes_eq (keys_of (pairs_of d)) → map owned_member xs ≡ (id_key, id) ∷ pairs_of d
    → pairs_of e ≡ put_all xs [] → content e ≡ member id_key id (content d)
in_front d e id xs none distinct pairs made =
    let absent : get id_key (pairs_of d) ≡ None = none_of (get id_key (pairs_of d)) (sym (ap is_some (look_up-members_of id_key (pairs_of d))) ∙ none) in
    let once : KeysOnce (map owned_member xs) = subst KeysOnce (sym pairs) (absent, keys_once (pairs_of d) distinct) in
    ap members_of (made ∙ put_all_once xs [] once ∙ pairs)

module _ (maker : IdMaker) (d : Document) (b : Bool) (is : b ≡ keyed.has_key id_key (pairs_of d)) where
  pub kept_so : b ≡ true → content d ≡ identified maker (content d)
  kept_so has = rw (has_id (pairs_of d) b is ∙ has) refl

  pub maker_kept : b ≡ true → maker ≡ maker_after maker (content d)
  maker_kept has = rw (has_id (pairs_of d) b is ∙ has) refl

  pub maker_moved : b ≡ false → next_maker maker ≡ maker_after maker (content d)
  maker_moved none = rw (has_id (pairs_of d) b is ∙ none) refl

  pub none_yet : b ≡ false → has_key id_key (content d) ≡ false
  none_yet none = has_id (pairs_of d) b is ∙ none

  pub gained : (e : Document) (id : Value) → b ≡ false → id ≡ (id_member maker).1 → content e ≡ member id_key id (content d) → content e ≡ identified maker (content d)
  gained e id none made put = rw (has_id (pairs_of d) b is ∙ none) (put ∙ ap (λ v. member id_key v (content d)) made)
