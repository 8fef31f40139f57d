-- The key of the value at a path, from the bytes of a document.
use Rattle.std.proofs.Common.{◌≡◌, ℕ, List, drop, Option, Some, sym, ap, ◌∙◌, subst}
use Rattle.std.specs.Prelude.{IsSomeAnd}
use Rattle.bson_base.specs.Value.{Value, array, document, scoped_code, Members}
use Rattle.bson_bytes.specs.Encode.{encode}
use Rattle.bson_bytes.specs.Spells.{settle_value}
use Rattle.bson_bytes.proofs.OneTreeLemmas.{one_items, one_list}
use Rattle.bson_bytes.proofs.SettledLemmas.{stays_value}
use Rattle.bson_frame.specs.Payload.{IsEnvelope}
use Rattle.bson_model.specs.View.{view}
use Rattle.bson_model.specs.declared.bson.Bson.{Bson}
use Rattle.bson_raw.specs.Convert.{SpellsRawValue, IsBsonOf}
use Rattle.bson_raw.specs.Raw.{RawValue, ref_value}
use Rattle.bson_raw.specs.Raw as raws
use Rattle.bson_raw.specs.declared.bson_ref.RawBsonRef.{RawBsonRef}
use Rattle.store_question.specs.Views.{ComesBack, Encodes, Finds}
use Rattle.store_question.proofs.MemberLemmas.{at_back, document_back}
use Rattle.store_question.proofs.ViewLemmas.{shows}
use Rattle.store_model.specs.Filter.{Path, at}
use Rattle.store_model.specs.State.{IsKept}
use Rattle.bson_store.specs.Keys.{value_key}

one_raw : (r : RawValue) (v w : Value) → SpellsRawValue r v → SpellsRawValue r w → v ≡ w
one_raw (raws.leaf s) v w h k = h ∙ sym k
one_raw (raws.array bs) v w h k = h.2 ∙ ap array (one_items (drop 4 bs) h.0 k.0 h.1 k.1) ∙ sym k.2
one_raw (raws.document bs) v w h k = h.2 ∙ ap document (one_list (drop 4 bs) h.0 k.0 h.1 k.1) ∙ sym k.2
one_raw (raws.scoped_code t bs) v w h k = h.2 ∙ ap (scoped_code t) (one_list (drop 4 bs) h.0 k.0 h.1 k.1) ∙ sym k.2

converted : (raw : RawBsonRef) (v : Value) (b : Bson) → Encodes raw v → ComesBack v → IsBsonOf (ref_value raw) b → view b ≡ v
converted raw v b e back h = h.2 ∙ ap settle_value (one_raw (ref_value raw) h.0 v h.1 (shows raw v e back)) ∙ stays_value v back.clean back.sound.ranged back.sound.distinct

some_there : (o : Option Value) (v : Value) (k : List ℕ) → o ≡ Some v → k ≡ value_key v → IsSomeAnd o (λ w. k ≡ value_key w)
some_there o v k e h = subst (λ x. IsSomeAnd x (λ w. k ≡ value_key w)) (sym e) h

pub key_there : (d : Members) (bytes : List ℕ) (p : Path) (raw : RawBsonRef) (b : Bson) (k : List ℕ) → IsKept d → bytes ≡ encode d → IsEnvelope bytes → Finds (Some raw) (at (document d) p) → IsBsonOf (ref_value raw) b → k ≡ value_key (view b) → IsSomeAnd (at (document d) p) (λ v. k ≡ value_key v)
key_there d bytes p raw b k kept is envelope f h key =
    let back = at_back p (document d) f.0 (document_back d bytes envelope kept.read.clean kept.read.sound is) f.1 in
    some_there (at (document d) p) f.0 k f.1 (key ∙ ap value_key (converted raw f.0 b f.2 back h))
