-- What comes back from its bytes if it can be written: documents of bodies, values in them, and what is put in and taken out.
use Rattle.std.proofs.Common.{◌≡◌, ℕ, List, Some, arith}
use Rattle.std.specs.List.{AllByRecursion}
use Rattle.bson_base.proofs.MemberLemmas.{distinct_at, key_at, put_distinct, put_each, without_distinct, without_each}
use Rattle.bson_base.proofs.PartLemmas.{each_part}
use Rattle.bson_base.specs.Kinds.{HasNo00, IsCleanScalar, IsPlainScalar, IsRangedScalar}
use Rattle.std.specs.Prelude.{IsUtf8}
use Rattle.bson_base.specs.Value.{Value, Items, no_items, item, Members, document, look_up, put, without, EachItem, ItemsHaveDistinctKeys}
use Rattle.bson_bytes.specs.Encode.{encode}
use Rattle.bson_meaning.proofs.NormalLemmas.{both_each}
use Rattle.store_model.specs.Reading.{IsKeepable}
use Rattle.store_pipeline.specs.Bodies.{IsBody}
use Rattle.store_update.specs.Arrays.{values}
use Rattle.store_pipeline.specs.Faithful.{IsFaithful}

abbrev AnyKey : List ℕ → Type 0
AnyKey k = Unit {0}

-- ---- bodies

pub of_body : (bytes : List ℕ) (d : Members) → IsBody bytes d → IsFaithful (document d)
of_body bytes d b = record { sound = b.back.sound; settled = each_part HasNo00 AnyKey (λ s. IsPlainScalar s × IsCleanScalar s) IsCleanScalar (λ k h. tt) (λ s h. h.1) (document d) b.back.clean }

pub to_body : (bytes : List ℕ) (e : Members) → bytes ≡ encode e → IsKeepable e → IsFaithful (document e) → IsBody bytes e
to_body bytes e is fits f = record {
  written = is;
  back = record {
    clean = each_part (λ k. HasNo00 k × AnyKey k) HasNo00 (λ s. IsPlainScalar s × IsCleanScalar s) (λ s. IsPlainScalar s × IsCleanScalar s) (λ k h. h.0) (λ s h. h) (document e)
        (both_each HasNo00 AnyKey IsPlainScalar IsCleanScalar (document e) fits.plain f.settled);
    sound = f.sound;
    short = omega (arith, fits.small);
  };
  low = omega (arith, fits.shallow);
}

-- ---- members

pub under : (k : List ℕ) (ms : Members) (v : Value) → look_up k ms ≡ Some v → IsFaithful (document ms) → IsFaithful v
under k ms v at f = record {
  sound = record { ranged = (key_at IsUtf8 IsRangedScalar ms k v f.sound.ranged at).1; distinct = distinct_at ms k v f.sound.distinct at };
  settled = (key_at AnyKey IsCleanScalar ms k v f.settled at).1;
}

-- in the place of one that is there
pub put_in : (k : List ℕ) (v w : Value) (ms : Members) → look_up k ms ≡ Some v → IsFaithful w → IsFaithful (document ms) → IsFaithful (document (put k w ms))
put_in k v w ms at new f = record {
  sound = record { ranged = put_each IsUtf8 IsRangedScalar k w ms (key_at IsUtf8 IsRangedScalar ms k v f.sound.ranged at).0 new.sound.ranged f.sound.ranged; distinct = put_distinct k w ms new.sound.distinct f.sound.distinct };
  settled = put_each AnyKey IsCleanScalar k w ms tt new.settled f.settled;
}

pub taken_out : (k : List ℕ) (ms : Members) → IsFaithful (document ms) → IsFaithful (document (without k ms))
taken_out k ms f = record {
  sound = record { ranged = without_each IsUtf8 IsRangedScalar k ms f.sound.ranged; distinct = without_distinct k ms f.sound.distinct };
  settled = without_each AnyKey IsCleanScalar k ms f.settled;
}

-- ---- items

pub items_faithful : (vs : Items) → EachItem IsUtf8 IsRangedScalar vs → ItemsHaveDistinctKeys vs → EachItem AnyKey IsCleanScalar vs → AllByRecursion IsFaithful (values vs)
items_faithful no_items ranged distinct settled = tt
items_faithful (item v vs) ranged distinct settled = (record { sound = record { ranged = ranged.0; distinct = distinct.0 }; settled = settled.0 }, items_faithful vs ranged.1 distinct.1 settled.1)
