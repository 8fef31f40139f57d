use Rattle.std.proofs.Common.{◌≡◌, OnOk, ap, subst, rules, to_z, of_z, w32, w64}
use Rattle.json.specs.Json as json
use Rattle.json.specs.Tree.{json_tokens}
use Rattle.bson_base.specs.Decimal.{decimal_text}
use Rattle.bson_base.specs.Scalars.{decimal_bytes, id_bytes, millis_of}
use Rattle.bson_base.specs.Tags.{subtype_byte}
use Rattle.bson_base.specs.Value as value
use Rattle.bson_json.specs.Form as form
use Rattle.bson_json.specs.Prints.{Adds}
use Rattle.bson_model.specs.JsonKeys.{of_code, of_decimal, of_int, of_long, of_max, of_min, of_symbol, of_undefined}
use Rattle.bson_raw.specs.Raw.{ref_value}
use Rattle.bson_json.proofs.FormLemmas as forms
use Rattle.bson_json.proofs.StepLemmas.{double_leaf, joined_form, joined_scalar, token_adds}
use Rattle.bson_json.proofs.StraightLemmas.{leaf_left}
use Rattle.bson_json.proofs.leaves.print_leaf.Goals as goal
use Rattle.bson_json.proofs.leaves.print_leaf.Goals.{in-String, in-Boolean, in-Null, in-RegularExpression, in-JavaScriptCode, in-Int32, in-Int64, in-Timestamp, in-Binary+in_ok-to_binary-in-Binary, in-ObjectId, in-DateTime, in-Symbol, in-Decimal128, in-Undefined, in-MaxKey, in-MinKey, in-DbPointer}

pub returns-in-Double-clause-form : goal.returns-in-Double-clause-form
returns-in-Double-clause-form c = double_leaf c.args.style c.args.value (value.double c.in-Double.double.0) c.print_double_in.result c.args.out.now c.print_double_in.new.out (ap ref_value c.in-Double.is) c.print_double_in.ensures.form

pub returns-in-Double-clause-seen : goal.returns-in-Double-clause-seen
returns-in-Double-clause-seen c = leaf_left c.args.style (value.double c.in-Double.double.0) (ref_value c.args.value) c.print_double_in.result (ap ref_value c.in-Double.is) c.print_double_in.ensures.seen

pub returns-clause-form : goal.returns-clause-form
returns-clause-form c = elim c.match-value.branch [
  | in-String w ↦
      joined_form c.args.style c.args.value (value.string w.in-String.text.now) (json.string w.in-String.text.now) _ _ _ c.args.out.now w.string-printed.new.self _ (ap ref_value w.in-String.is) (forms.string_is c.args.style w.in-String.text.now) w.printed-is c.in_ok-printed.was w.out-is (token_adds _ _ _ _ w.string-printed.ensures)
  | in-Boolean w ↦
      joined_form c.args.style c.args.value (value.boolean w.in-Boolean.truth) (json.boolean w.in-Boolean.truth) _ _ _ c.args.out.now w.boolean-printed.new.self _ (ap ref_value w.in-Boolean.is) (forms.boolean_is c.args.style w.in-Boolean.truth) w.printed-is c.in_ok-printed.was w.out-is (token_adds _ _ _ _ w.boolean-printed.ensures)
  | in-Null w ↦
      joined_form c.args.style c.args.value value.null json.null _ _ _ c.args.out.now w.null-printed.new.self _ (ap ref_value w.in-Null.is) (forms.null_is c.args.style) w.printed-is c.in_ok-printed.was w.out-is (token_adds _ _ _ _ w.null-printed.ensures)
  | in-RegularExpression w ↦
      joined_scalar c.args.style c.args.value (value.regex w.in-RegularExpression.regex.pattern.now w.in-RegularExpression.regex.options.now) _ _ _ c.args.out.now w.print_regex_in-printed.new.out _ (ap ref_value w.in-RegularExpression.is) w.printed-is c.in_ok-printed.was w.out-is w.print_regex_in-printed.ensures
  | in-JavaScriptCode w ↦
      joined_form c.args.style c.args.value (value.code w.in-JavaScriptCode.code.now) (form.text_wrapper of_code w.in-JavaScriptCode.code.now) _ _ _ c.args.out.now w.wrap_text-printed.new.out _ (ap ref_value w.in-JavaScriptCode.is) (forms.code_is c.args.style w.in-JavaScriptCode.code.now) w.printed-is c.in_ok-printed.was w.out-is w.wrap_text-printed.ensures
  | in-Int32 w ↦
      let z = w.in-Int32.number in
      let same : to_z w32 (of_z w32 z) ≡ z = search rules in
      let given = subst (λ y. OnOk w.print_int-printed.result (Adds (json_tokens (form.integer_form w.mode.result of_int y)) c.args.out.now w.print_int-printed.new.out)) same w.print_int-printed.ensures in
      let printed = subst (λ m. OnOk w.print_int-printed.result (Adds (json_tokens (form.integer_form m of_int z)) c.args.out.now w.print_int-printed.new.out)) w.mode.ensures given in
      joined_form c.args.style c.args.value (value.int32 z) (form.integer_form _ of_int z) _ _ _ c.args.out.now w.print_int-printed.new.out _ (ap ref_value w.in-Int32.is) (forms.int_is c.args.style z) w.printed-is c.in_ok-printed.was w.out-is printed
  | in-Int64 w ↦
      let z = w.in-Int64.number in
      let same : to_z w64 (of_z w64 z) ≡ z = search rules in
      let given = subst (λ y. OnOk w.print_long-printed.result (Adds (json_tokens (form.integer_form w.mode-in-Int64.result of_long y)) c.args.out.now w.print_long-printed.new.out)) same w.print_long-printed.ensures in
      let printed = subst (λ m. OnOk w.print_long-printed.result (Adds (json_tokens (form.integer_form m of_long z)) c.args.out.now w.print_long-printed.new.out)) w.mode-in-Int64.ensures given in
      joined_form c.args.style c.args.value (value.int64 z) (form.integer_form _ of_long z) _ _ _ c.args.out.now w.print_long-printed.new.out _ (ap ref_value w.in-Int64.is) (forms.long_is c.args.style z) w.printed-is c.in_ok-printed.was w.out-is printed
  | in-Timestamp w ↦
      joined_scalar c.args.style c.args.value (value.timestamp w.in-Timestamp.timestamp.time w.in-Timestamp.timestamp.increment) _ _ _ c.args.out.now w.print_timestamp_in-printed.new.out _ (ap ref_value w.in-Timestamp.is) w.printed-is c.in_ok-printed.was w.out-is w.print_timestamp_in-printed.ensures
  | in-Binary+in_ok-to_binary-in-Binary w ↦
      let b = w.in-Binary.bytes in
      let own = w.in_ok-to_binary-in-Binary.ensures in
      let printed = rw (own.subtype, own.bytes) at w.print_binary-printed.ensures in
      joined_form c.args.style c.args.value (value.binary b.subtype b.bytes.now) (form.binary_form (subtype_byte b.subtype) b.bytes.now) _ _ _ c.args.out.now w.print_binary-printed.new.out _ (ap ref_value w.in-Binary.is) (forms.binary_is c.args.style b.subtype b.bytes.now) w.printed-is c.in_ok-printed.was w.out-is printed
  | in-ObjectId w ↦
      joined_form c.args.style c.args.value (value.object_id (id_bytes w.in-ObjectId.id)) (form.id_form (id_bytes w.in-ObjectId.id)) _ _ _ c.args.out.now w.print_id-printed.new.out _ (ap ref_value w.in-ObjectId.is) (forms.id_is c.args.style (id_bytes w.in-ObjectId.id)) w.printed-is c.in_ok-printed.was w.out-is w.print_id-printed.ensures
  | in-DateTime w ↦
      let z = millis_of w.in-DateTime.moment in
      let printed = subst (λ m. OnOk w.print_date-printed.result (Adds (json_tokens (form.date_form m z)) c.args.out.now w.print_date-printed.new.out)) w.mode-in-DateTime.ensures w.print_date-printed.ensures in
      joined_form c.args.style c.args.value (value.date_time z) (form.date_form _ z) _ _ _ c.args.out.now w.print_date-printed.new.out _ (ap ref_value w.in-DateTime.is) (forms.date_is c.args.style z) w.printed-is c.in_ok-printed.was w.out-is printed
  | in-Symbol w ↦
      joined_form c.args.style c.args.value (value.symbol w.in-Symbol.text.now) (form.text_wrapper of_symbol w.in-Symbol.text.now) _ _ _ c.args.out.now w.wrap_text-printed-in-Symbol.new.out _ (ap ref_value w.in-Symbol.is) (forms.symbol_is c.args.style w.in-Symbol.text.now) w.printed-is c.in_ok-printed.was w.out-is w.wrap_text-printed-in-Symbol.ensures
  | in-Decimal128 w ↦
      joined_form c.args.style c.args.value (value.decimal (decimal_bytes w.in-Decimal128.decimal)) (form.text_wrapper of_decimal (decimal_text (decimal_bytes w.in-Decimal128.decimal))) _ _ _ c.args.out.now w.print_decimal-printed.new.out _ (ap ref_value w.in-Decimal128.is) (forms.decimal_is c.args.style (decimal_bytes w.in-Decimal128.decimal)) w.printed-is c.in_ok-printed.was w.out-is w.print_decimal-printed.ensures
  | in-Undefined w ↦
      joined_form c.args.style c.args.value value.undefined (form.wrapper_of of_undefined (json.boolean _)) _ _ _ c.args.out.now w.print_undefined-printed.new.out _ (ap ref_value w.in-Undefined.is) (forms.undefined_is c.args.style) w.printed-is c.in_ok-printed.was w.out-is w.print_undefined-printed.ensures
  | in-MaxKey w ↦
      joined_form c.args.style c.args.value value.max_key (form.wrapper_of of_max form.one_form) _ _ _ c.args.out.now w.print_bound-printed.new.out _ (ap ref_value w.in-MaxKey.is) (forms.max_is c.args.style) w.printed-is c.in_ok-printed.was w.out-is w.print_bound-printed.ensures
  | in-MinKey w ↦
      joined_form c.args.style c.args.value value.min_key (form.wrapper_of of_min form.one_form) _ _ _ c.args.out.now w.print_bound-printed-in-MinKey.new.out _ (ap ref_value w.in-MinKey.is) (forms.min_is c.args.style) w.printed-is c.in_ok-printed.was w.out-is w.print_bound-printed-in-MinKey.ensures
  | in-DbPointer w ↦
      joined_scalar c.args.style c.args.value (value.db_pointer w.in-DbPointer.pointer.namespace.now (id_bytes w.in-DbPointer.pointer.id)) _ _ _ c.args.out.now w.print_pointer_in-printed.new.out _ (ap ref_value w.in-DbPointer.is) w.printed-is c.in_ok-printed.was w.out-is w.print_pointer_in-printed.ensures
]
