use Rattle.std.proofs.Common.{◌∷◌, [], inl, inr, Some, None, refl, arith}
use Rattle.std.specs.Prelude.{codes}
use Rattle.std.specs.Fmt.{digits}
use Rattle.bson_bytes.specs.Encode.{le32, le64, text_bytes, cstring_of, frame_of}
use Rattle.store_model.specs.Rows.{with_a, with_id, with_two, int_one}
use Rattle.store_model.specs.State.{IsFreeKey}
use Rattle.store_model.specs.declared.error.ErrorKind.TheVariants.{EndInside}
use Rattle.store_model.proofs.laws.worked_rows.Goals as goal

free : IsFreeKey (codes "a")
free = (λ e. cc, (omega arith, tt))

pub returns : goal.returns
unfolding le32 le64 text_bytes cstring_of frame_of digits
returns c = record {
  found = refl;
  absent = refl;
  whole = refl;
  second = refl;
  none = refl;
  no_place = refl;
  behind = refl;
  equal = refl;
  kind = refl;
  nothing = λ x. x;
  first_without = refl;
  then_unread = refl;
  cut = (4 ∷ 0 ∷ 0 ∷ 0 ∷ [], refl, (omega arith, omega arith, refl), (omega arith, (omega arith, inl (omega arith))));
  empty = ([], None, refl, refl);
  few = ([], Some EndInside, (omega arith, inl (omega arith)), refl);
  set_a = inl (
    free,
    inl (
      [],
      with_a int_one,
      with_two ∷ [],
      record { split = refl; before = tt; has = refl },
      inl (record { shallow = omega arith; plain = ((omega arith, (omega arith, (omega arith, tt))), tt, ((omega arith, tt), tt, tt)); small = omega arith }, refl, refl),
    ),
  );
  set_id = inr (λ f. f.0 refl, (refl, refl));
  set_none = inl (free, (refl, refl));
  unset_a = inl (free, inl ([], with_a int_one, [], record { split = refl; before = tt; has = refl }, (refl, refl)));
  unset_again = inl (free, inl ([], with_id, [], record { split = refl; before = tt; has = refl }, (refl, refl)));
  in_its_place = inl ([], with_id, with_two ∷ [], record { split = refl; before = tt; has = refl }, (refl, refl));
  again = inr (λ t. elim t [ inl e ↦ cc | inr x ↦ x ], inl (inl refl, (refl, refl)));
}
