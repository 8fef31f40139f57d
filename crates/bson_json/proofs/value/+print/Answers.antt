use Rattle.std.proofs.Common.{◌≡◌, ◌<◌, ◌+◌, List, [], ◌∷◌, ◌++◌, ap, ◌∙◌, sym, subst, arith, rules, length, drop, string_bytes, refl}
use Rattle.std.proofs.lemmas.List.{drop_all}
use Rattle.json.specs.Json as json
use Rattle.json.specs.Token.{Token, begin_object, key, string}
use Rattle.bson_base.specs.Decimal.{decimal_text}
use Rattle.bson_base.specs.Scalars.{id_bytes, millis_of, decimal_bytes}
use Rattle.bson_base.specs.Tags.{subtype_byte}
use Rattle.bson_base.specs.Value as value
use Rattle.bson_base.specs.Value.{Value, scalar}
use Rattle.bson_model.specs.JsonKeys.{key_of, of_code, of_symbol, of_decimal, of_undefined, of_max, of_min, scope_key}
use Rattle.bson_model.specs.Keyed.{Key}
use Rattle.bson_model.specs.Rest.{iter_rest}
use Rattle.bson_model.specs.View.{view, pairs_of, members_of}
use Rattle.bson_model.specs.declared.bson.Bson.{the_lemmas}
use Rattle.bson_model.proofs.ShowLemmas.{item_at}
use Rattle.bson_model.proofs.ViewLemmas.{view-Array}
use Rattle.bson_json.specs.Prints.{Adds}
use Rattle.bson_json.specs.Form as form
use Rattle.bson_json.specs.Prints.{PrintsForm}
use Rattle.bson_json.proofs.PrintLemmas.{behind, prints, items_next, items_done, items_low, levels_more, members_next, members_done, scoped_done}
use Rattle.bson_json.proofs.value.+print.Goals as goal

pub print_items-loop-item-preserved : goal.print_items-loop-item-preserved
print_items-loop-item-preserved t c =
    let l = c.loop-item in
    let xs = c.args.items.now in
    let x = c.item-item.result in
    let rest = drop l.item-index xs in
    let more = drop (l.item-index + 1) xs in
    let within : l.item-index < length xs = omega arith in
    let here = item_at xs l.item-index x within c.item-item.is in
    (items_next c.args.mode xs rest more x c.begin_array.new.self l.out c.print_value.new.out l.invariant.0 here c.in_ok-print_value.ensures, items_low rest more x _ here l.invariant.1)

pub print_items-returns : goal.print_items-returns
print_items-returns t c =
    let l = c.loop-item in
    let xs = c.args.items.now in
    let none = drop_all l.item-index xs c.loop-item-test.false in
    items_done c.args.mode xs (drop l.item-index xs) c.end_array.result c.args.out.now c.begin_array.new.self l.out c.end_array.new.self l.invariant.0 none
    (c.in_ok-begin_array.ensures.ok, c.in_ok-begin_array.ensures.room.0) (search rules)

pub print_members-returns : goal.print_members-returns
print_members-returns t c =
    let l = c.loop-key in
    members_done c.args.mode (pairs_of c.args.document.now) (iter_rest l.key-iterator) c.end_object.result c.args.out.now c.begin_object.new.self l.out c.end_object.new.self l.invariant.0 c.in-None.ensures.steps.0
    (c.in_ok-begin_object.ensures.ok, c.in_ok-begin_object.ensures.room.0) (search rules)

pub print_scoped-returns : goal.print_scoped-returns
print_scoped-returns t c =
    let old = c.args.out.now in
    let text = string_bytes c.args.code.now.code in
    let a : List Token = begin_object ∷ key (key_of of_code) ∷ [] in
    let b : List Token = string text ∷ [] in
    let one = behind a b old c.begin.new.out c.string.new.self c.in_ok-begin.ensures (rw c.as_str.ensures.value at c.in_ok-string.ensures.ok, c.in_ok-string.ensures.room.0) in
    let two = behind (a ++ b) (key scope_key ∷ []) old c.string.new.self c.key.new.self one (c.in_ok-key.ensures.ok, c.in_ok-key.ensures.room.0) in
    scoped_done c.args.mode text (members_of (pairs_of c.args.code.now.scope)) c.end_object.result old c.key.new.self c.print_members.new.out c.end_object.new.self two c.in_ok-print_members.ensures (search rules)

pub print_value-returns-in-String : goal.print_value-returns-in-String
print_value-returns-in-String t c =
    let text = string_bytes c.in-String.text in
    let seen : scalar (value.string text) ≡ view c.args.value.now = rw c.in-String.is (search (rules, the_lemmas)) in
    prints c.args.mode _ (value.string text) (json.string text) c.string.result c.args.out.now c.string.new.self seen refl (search rules)

pub print_value-returns-in-Array : goal.print_value-returns-in-Array
print_value-returns-in-Array t c =
    let printed = rw c.as_slice.ensures.value at c.print_items.ensures in
    subst (λ v. PrintsForm c.args.mode v c.print_items.result c.args.out.now c.print_items.new.out) (sym (view-Array c.in-Array.items) ∙ ap view (sym c.in-Array.is)) printed

pub print_value-returns-in-Boolean : goal.print_value-returns-in-Boolean
print_value-returns-in-Boolean t c =
    let b = c.in-Boolean.truth in
    let seen : scalar (value.boolean b) ≡ view c.args.value.now = rw c.in-Boolean.is (search (rules, the_lemmas)) in
    prints c.args.mode _ (value.boolean b) (json.boolean b) c.boolean.result c.args.out.now c.boolean.new.self seen refl (search rules)

pub print_value-returns-in-Null : goal.print_value-returns-in-Null
print_value-returns-in-Null t c =
    let seen : scalar value.null ≡ view c.args.value.now = rw c.in-Null.is (search (rules, the_lemmas)) in
    prints c.args.mode _ value.null json.null c.null.result c.args.out.now c.null.new.self seen refl (search rules)

pub print_value-returns-in-RegularExpression : goal.print_value-returns-in-RegularExpression
print_value-returns-in-RegularExpression t c =
    let r = c.in-RegularExpression.regex in
    let s = value.regex (string_bytes r.pattern) (string_bytes r.options) in
    let seen : scalar s ≡ view c.args.value.now = rw c.in-RegularExpression.is (search (rules, the_lemmas)) in
    prints c.args.mode _ s (form.regex_form (string_bytes r.pattern) (string_bytes r.options)) c.print_regex.result c.args.out.now c.print_regex.new.out seen refl (rw (c.as_str-in-RegularExpression.ensures.value, c.as_str-in-RegularExpression-2.ensures.value) at c.print_regex.ensures)

pub print_value-returns-in-JavaScriptCode : goal.print_value-returns-in-JavaScriptCode
print_value-returns-in-JavaScriptCode t c =
    let text = string_bytes c.in-JavaScriptCode.code in
    let seen : scalar (value.code text) ≡ view c.args.value.now = rw c.in-JavaScriptCode.is (search (rules, the_lemmas)) in
    prints c.args.mode _ (value.code text) (form.text_wrapper of_code text) c.wrap_text.result c.args.out.now c.wrap_text.new.out seen refl (search rules)

pub print_value-returns-in-Timestamp : goal.print_value-returns-in-Timestamp
print_value-returns-in-Timestamp t c =
    let s = c.in-Timestamp.timestamp in
    let seen : scalar (value.timestamp s.time s.increment) ≡ view c.args.value.now = rw c.in-Timestamp.is (search (rules, the_lemmas)) in
    prints c.args.mode _ (value.timestamp s.time s.increment) (form.timestamp_form s.time s.increment) c.print_timestamp.result c.args.out.now c.print_timestamp.new.out seen refl c.print_timestamp.ensures

pub print_value-returns-in-Binary : goal.print_value-returns-in-Binary
print_value-returns-in-Binary t c =
    let b = c.in-Binary.binary in
    let seen : scalar (value.binary b.subtype b.bytes.items) ≡ view c.args.value.now = rw c.in-Binary.is (search (rules, the_lemmas)) in
    prints c.args.mode _ (value.binary b.subtype b.bytes.items) (form.binary_form (subtype_byte b.subtype) b.bytes.items) c.print_binary.result c.args.out.now c.print_binary.new.out seen refl c.print_binary.ensures

pub print_value-returns-in-ObjectId : goal.print_value-returns-in-ObjectId
print_value-returns-in-ObjectId t c =
    let bs = id_bytes c.in-ObjectId.id in
    let seen : scalar (value.object_id bs) ≡ view c.args.value.now = rw c.in-ObjectId.is (search (rules, the_lemmas)) in
    prints c.args.mode _ (value.object_id bs) (form.id_form bs) c.print_id.result c.args.out.now c.print_id.new.out seen refl c.print_id.ensures

pub print_value-returns-in-DateTime : goal.print_value-returns-in-DateTime
print_value-returns-in-DateTime t c =
    let z = millis_of c.in-DateTime.moment in
    let seen : scalar (value.date_time z) ≡ view c.args.value.now = rw c.in-DateTime.is (search (rules, the_lemmas)) in
    prints c.args.mode _ (value.date_time z) (form.date_form c.args.mode z) c.print_date.result c.args.out.now c.print_date.new.out seen refl c.print_date.ensures

pub print_value-returns-in-Symbol : goal.print_value-returns-in-Symbol
print_value-returns-in-Symbol t c =
    let text = string_bytes c.in-Symbol.text in
    let seen : scalar (value.symbol text) ≡ view c.args.value.now = rw c.in-Symbol.is (search (rules, the_lemmas)) in
    prints c.args.mode _ (value.symbol text) (form.text_wrapper of_symbol text) c.wrap_text-in-Symbol.result c.args.out.now c.wrap_text-in-Symbol.new.out seen refl (search rules)

pub print_value-returns-in-Decimal128 : goal.print_value-returns-in-Decimal128
print_value-returns-in-Decimal128 t c =
    let bs = decimal_bytes c.in-Decimal128.decimal in
    let seen : scalar (value.decimal bs) ≡ view c.args.value.now = rw c.in-Decimal128.is (search (rules, the_lemmas)) in
    prints c.args.mode _ (value.decimal bs) (form.text_wrapper of_decimal (decimal_text bs)) c.print_decimal.result c.args.out.now c.print_decimal.new.out seen refl c.print_decimal.ensures

pub print_value-returns-in-Undefined : goal.print_value-returns-in-Undefined
print_value-returns-in-Undefined t c =
    let seen : scalar value.undefined ≡ view c.args.value.now = rw c.in-Undefined.is (search (rules, the_lemmas)) in
    prints c.args.mode _ value.undefined (form.wrapper_of of_undefined (json.boolean _)) c.print_undefined.result c.args.out.now c.print_undefined.new.out seen refl c.print_undefined.ensures

pub print_value-returns-in-MaxKey : goal.print_value-returns-in-MaxKey
print_value-returns-in-MaxKey t c =
    let seen : scalar value.max_key ≡ view c.args.value.now = rw c.in-MaxKey.is (search (rules, the_lemmas)) in
    prints c.args.mode _ value.max_key (form.wrapper_of of_max form.one_form) c.print_bound.result c.args.out.now c.print_bound.new.out seen refl c.print_bound.ensures

pub print_value-returns-in-MinKey : goal.print_value-returns-in-MinKey
print_value-returns-in-MinKey t c =
    let seen : scalar value.min_key ≡ view c.args.value.now = rw c.in-MinKey.is (search (rules, the_lemmas)) in
    prints c.args.mode _ value.min_key (form.wrapper_of of_min form.one_form) c.print_bound-in-MinKey.result c.args.out.now c.print_bound-in-MinKey.new.out seen refl c.print_bound-in-MinKey.ensures

pub print_value-returns-in-DbPointer : goal.print_value-returns-in-DbPointer
print_value-returns-in-DbPointer t c =
    let p = c.in-DbPointer.pointer in
    let s = value.db_pointer (string_bytes p.namespace) (id_bytes p.id) in
    let seen : scalar s ≡ view c.args.value.now = rw c.in-DbPointer.is (search (rules, the_lemmas)) in
    prints c.args.mode _ s (form.pointer_form (string_bytes p.namespace) (id_bytes p.id)) c.print_pointer.result c.args.out.now c.print_pointer.new.out seen refl (rw c.as_str-in-DbPointer.ensures.value at c.print_pointer.ensures)

pub print_members-loop-key-preserved : goal.print_members-loop-key-preserved
print_members-loop-key-preserved t c =
    let l = c.loop-key in
    let p : Key × Value = (string_bytes c.in-Some.key.now, view c.in-Some.value.now) in
    let named : Adds (key p.0 ∷ []) l.out c.key.new.self = (rw c.as_str.ensures.value at c.in_ok-key.ensures.ok, c.in_ok-key.ensures.room.0) in (
      members_next c.args.mode (pairs_of c.args.document.now) (iter_rest l.key-iterator) (iter_rest c.next.new.self) p c.begin_object.new.self l.out c.key.new.self c.print_value.new.out l.invariant.0 c.in-Some.ensures.steps named c.in_ok-print_value.ensures,
      levels_more (iter_rest l.key-iterator) (iter_rest c.next.new.self) p _ c.in-Some.ensures.steps l.invariant.1,
      tt,
      tt,
    )
