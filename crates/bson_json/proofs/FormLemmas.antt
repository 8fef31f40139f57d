-- The forms of values in each style, from those of their parts.
use Rattle.std.proofs.Common.{◌≡◌, ℕ, ℤ, List, [], ◌∷◌, ◌++◌, Bool, true, false, Option, Some, None, Result, Ok, Err, OnOk, refl, sym, ap, ap₂, ◌∙◌, subst}
use Rattle.std.specs.Prelude.{not, is_some, option_map, option_and_then, IfErr}
use Rattle.std.specs.declared.alloc.AllocError.{AllocError}
use Rattle.std.proofs.lemmas.Result.{on_ok_weaker}
use Rattle.json.specs.Token.{Token, begin_array, end_array, begin_object, end_object, key, string}
use Rattle.json.specs.Json as json
use Rattle.json.specs.Json.{Json, object}
use Rattle.json.specs.Tree.{json_tokens, items_tokens, members_tokens}
use Rattle.json.specs.Written.{Written}
use Rattle.serde_json.specs.Data as sorted
use Rattle.serde_json.specs.Data.{Data, boolean as data_boolean, number as data_number, unsigned}
use Rattle.serde_json.specs.Written.{compact_text, outline}
use Rattle.serde_json.proofs.Texts.{print-outline}
use Rattle.json.specs.Lex.{tokens}
use Rattle.json.specs.Print.{print}
use Rattle.bson_base.specs.Decimal.{decimal_text}
use Rattle.bson_base.specs.Tags.{subtype_byte}
use Rattle.bson_base.specs.declared.spec.BinarySubtype.{BinarySubtype}
use Rattle.bson_base.specs.Value as value
use Rattle.bson_base.specs.Value.{Scalar, Value, scalar, array, document, scoped_code, Items, item, Members}
use Rattle.bson_model.specs.JsonKeys.{key_of, of_code, of_symbol, of_int, of_long, of_decimal, of_undefined, of_max, of_min, scope_key}
use Rattle.bson_model.specs.JsonWrite as written
use Rattle.bson_model.specs.JsonWrite.{write, write_items, write_members, write_double, is_finite_and_not_zero, scalar_is_finite}
use Rattle.bson_model.specs.declared.extjson.ser.Mode.{Mode}
use Rattle.bson_model.specs.declared.extjson.ser.Mode.TheVariants.{Canonical}
use Rattle.bson_model.proofs.FiniteLemmas.{is_written}
use Rattle.bson_json.specs.Form as form
use Rattle.bson_json.specs.Added.{AddsScalar}
use Rattle.bson_json.specs.Prints.{Adds, AddsForm, AddsSome, tokens_of}
use Rattle.bson_json.specs.Straight.{IfUnseen, IsStraightScalar}
use Rattle.bson_json.specs.Styles.{HasForm, HasItemsForm, HasText, mode_of}
use Rattle.bson_json.specs.declared.style.Style.{Style}
use Rattle.bson_json.specs.declared.style.Style.TheVariants.{Stored, Full}
use Rattle.bson_json.specs.declared.unwritten.Unwritten.{Unwritten}
use Rattle.bson_json.specs.declared.unwritten.Unwritten.TheVariants.{Memory, Unseen}
use Rattle.bson_json.proofs.PrintLemmas.{behind, item_more, scoped_done, whole_text}

-- ---- scalars: the form that both styles share, kind by kind

pub string_is : (style : Style) (t : List ℕ) → HasForm style (scalar (value.string t)) (json.string t)
string_is Stored t = (sorted.string t, refl, refl)
string_is (Full m) t = refl

pub boolean_is : (style : Style) (b : Bool) → HasForm style (scalar (value.boolean b)) (json.boolean b)
boolean_is Stored b = (sorted.boolean b, refl, refl)
boolean_is (Full m) b = refl

pub null_is : (style : Style) → HasForm style (scalar value.null) json.null
null_is Stored = (sorted.null, refl, refl)
null_is (Full m) = refl

pub code_is : (style : Style) (t : List ℕ) → HasForm style (scalar (value.code t)) (form.text_wrapper of_code t)
code_is Stored t = (written.text_wrapper of_code t, refl, refl)
code_is (Full m) t = refl

pub symbol_is : (style : Style) (t : List ℕ) → HasForm style (scalar (value.symbol t)) (form.text_wrapper of_symbol t)
symbol_is Stored t = (written.text_wrapper of_symbol t, refl, refl)
symbol_is (Full m) t = refl

pub int_is : (style : Style) (z : ℤ) → HasForm style (scalar (value.int32 z)) (form.integer_form (mode_of style) of_int z)
int_is Stored z = (written.write_integer Canonical of_int z, refl, refl)
int_is (Full m) z = refl

pub long_is : (style : Style) (z : ℤ) → HasForm style (scalar (value.int64 z)) (form.integer_form (mode_of style) of_long z)
long_is Stored z = (written.write_integer Canonical of_long z, refl, refl)
long_is (Full m) z = refl

pub binary_is : (style : Style) (s : BinarySubtype) (bs : List ℕ) → HasForm style (scalar (value.binary s bs)) (form.binary_form (subtype_byte s) bs)
binary_is Stored s bs = (written.write_binary (subtype_byte s) bs, refl, refl)
binary_is (Full m) s bs = refl

pub id_is : (style : Style) (bs : List ℕ) → HasForm style (scalar (value.object_id bs)) (form.id_form bs)
id_is Stored bs = (written.write_id bs, refl, refl)
id_is (Full m) bs = refl

pub date_is : (style : Style) (z : ℤ) → HasForm style (scalar (value.date_time z)) (form.date_form (mode_of style) z)
date_is Stored z = (written.write_date Canonical z, refl, refl)
date_is (Full m) z = refl

pub decimal_is : (style : Style) (bs : List ℕ) → HasForm style (scalar (value.decimal bs)) (form.text_wrapper of_decimal (decimal_text bs))
decimal_is Stored bs = (written.text_wrapper of_decimal (decimal_text bs), refl, refl)
decimal_is (Full m) bs = refl

pub undefined_is : (style : Style) → HasForm style (scalar value.undefined) (form.wrapper_of of_undefined (json.boolean true))
undefined_is Stored = (written.wrapper_of of_undefined (data_boolean true), refl, refl)
undefined_is (Full m) = refl

pub max_is : (style : Style) → HasForm style (scalar value.max_key) (form.wrapper_of of_max form.one_form)
max_is Stored = (written.wrapper_of of_max (data_number (unsigned 1)), refl, refl)
max_is (Full m) = refl

pub min_is : (style : Style) → HasForm style (scalar value.min_key) (form.wrapper_of of_min form.one_form)
min_is Stored = (written.wrapper_of of_min (data_number (unsigned 1)), refl, refl)
min_is (Full m) = refl

-- ---- what a store prints otherwise

-- the tree of the scalar was printed
pub stored_scalar : (s : Scalar) (o : Option Data) (old new : Written) → write Canonical (scalar s) ≡ o → AddsForm tokens_of o old new → AddsScalar Stored s old new
stored_scalar s None old new is a = absurd a
stored_scalar s (Some d) old new is a = record { form = outline d; is_form = (d, is, refl); adds = a }

-- a double that has no tree is finite, and no zero
pub no_tree : (n : ℕ) → write_double n ≡ None → IsStraightScalar Stored (value.double n) → ⊥
no_tree n none straight =
    let both : is_some (write_double n) ≡ not (is_finite_and_not_zero n) = is_written Canonical (scalar (value.double n)) in
    let gone : is_some (write_double n) ≡ false = ap is_some none in
    let there : is_some (write_double n) ≡ true = both ∙ ap not straight in
    let bad : false ≡ true = sym gone ∙ there in
    absurd cc

-- a scalar that is printed in one of the two ways
pub in_store : (style : Style) (s : Scalar) (d : Data) (r : Result (Unit {0}) AllocError) (old new : Written) → style ≡ Stored → write Canonical (scalar s) ≡ Some d → OnOk r (Adds (tokens_of d) old new) → OnOk r (AddsScalar style s old new)
in_store style s d r old new is tree a = subst (λ t. OnOk r (AddsScalar t s old new)) (sym is) (on_ok_weaker r (λ h. record { form = outline d; is_form = (d, tree, refl); adds = h }) a)

pub in_full : (style : Style) (m : Mode) (s : Scalar) (j : Json) (r : Result (Unit {0}) AllocError) (old new : Written) → style ≡ Full m → form.WritesScalar m s j → OnOk r (Adds (json_tokens j) old new) → OnOk r (AddsScalar style s old new)
in_full style m s j r old new is w a = subst (λ t. OnOk r (AddsScalar t s old new)) (sym is) (on_ok_weaker r (λ h. record { form = j; is_form = w; adds = h }) a)

-- a double
pub double_in_store : (style : Style) (n : ℕ) (r : Result (Unit {0}) Unwritten) (old new : Written) → style ≡ Stored → OnOk r (AddsForm tokens_of (write_double n) old new) → OnOk r (AddsScalar style (value.double n) old new)
double_in_store style n r old new is a = subst (λ t. OnOk r (AddsScalar t (value.double n) old new)) (sym is) (on_ok_weaker r (λ h. stored_scalar (value.double n) (write_double n) old new refl h) a)

pub double_in_full : (style : Style) (m : Mode) (n : ℕ) (old new : Written) → style ≡ Full m → AddsSome json_tokens (form.Writes m (scalar (value.double n))) old new → AddsScalar style (value.double n) old new
double_in_full style m n old new is a = subst (λ t. AddsScalar t (value.double n) old new) (sym is) (record { form = a.form; is_form = a.is_form; adds = a.adds })

pub double_unseen : (style : Style) (n : ℕ) (r : Result (Unit {0}) Unwritten) → style ≡ Stored → IfErr r (IfUnseen (write_double n ≡ None)) → IfErr r (IfUnseen (IsStraightScalar style (value.double n) → ⊥))
double_unseen style n r is bad = subst (λ t. IfErr r (IfUnseen (IsStraightScalar t (value.double n) → ⊥))) (sym is) (by r bad)
  where
    by : (q : Result (Unit {0}) Unwritten) → IfErr q (IfUnseen (write_double n ≡ None)) → IfErr q (IfUnseen (IsStraightScalar Stored (value.double n) → ⊥))
    by (Ok x) h = tt
    by (Err Memory) h = tt
    by (Err Unseen) h = no_tree n h

-- ---- items

pub item_added : (style : Style) (v : Value) (vs : Items) (now next end : Written) → AddsSome json_tokens (HasForm style v) now next → AddsSome items_tokens (HasItemsForm style vs) next end
    → AddsSome items_tokens (HasItemsForm style (item v vs)) now end
item_added (Full m) v vs now next end a b = item_more m v vs now next end a b
item_added Stored v vs now next end a b =
    let d = a.is_form in
    let ds = b.is_form in
    record {
      form = json.item a.form b.form;
      is_form = (sorted.item d.0 ds.0, ap₂ (λ o w. option_and_then (λ j. option_map (sorted.item j) w) o) d.1 ds.1, ap₂ json.item d.2 ds.2);
      adds = behind (json_tokens a.form) (items_tokens b.form) now next end a.adds b.adds;
    }

pub none_added : (style : Style) (now end : Written) → Adds (end_array ∷ []) now end → AddsSome items_tokens (HasItemsForm style value.no_items) now end
none_added (Full m) now end e = record { form = json.no_items; is_form = tt; adds = e }
none_added Stored now end e = record { form = json.no_items; is_form = (sorted.no_items, refl, refl); adds = e }

array_is : (style : Style) (vs : Items) (js : json.Items) → HasItemsForm style vs js → HasForm style (array vs) (json.array js)
array_is (Full m) vs js is = (js, is, refl)
array_is Stored vs js is = (sorted.array is.0, ap (option_map sorted.array) is.1, ap json.array is.2)

pub array_added : (style : Style) (vs : Items) (old begun end : Written) → Adds (begin_array ∷ []) old begun → AddsSome items_tokens (HasItemsForm style vs) begun end → AddsSome json_tokens (HasForm style (array vs)) old end
array_added style vs old begun end b a = record {
  form = json.array a.form;
  is_form = array_is style vs a.form a.is_form;
  adds = behind (begin_array ∷ []) (items_tokens a.form) old begun end b a.adds;
}

-- ---- code with its scope

-- a tree of a document is an object
an_object : (w : Option sorted.Members) (d : Data) → option_map sorted.object w ≡ Some d → (ds : sorted.Members) × (w ≡ Some ds) × (d ≡ sorted.object ds)
an_object (Some ds) d is = (ds, refl, cc)
an_object None d is = absurd cc

pub scope_added : (style : Style) (t : List ℕ) (ms : Members) (old begun now end : Written) → Adds (begin_object ∷ key (key_of of_code) ∷ string t ∷ key scope_key ∷ []) old begun
    → AddsSome json_tokens (HasForm style (document ms)) begun now → Adds (end_object ∷ []) now end → AddsSome json_tokens (HasForm style (scoped_code t ms)) old end
scope_added (Full m) t ms old begun now end b a e = scoped_done m t ms (Ok tt) old begun now end b a e
scope_added Stored t ms old begun now end b a e =
    let o = an_object (write_members Canonical ms sorted.no_members) a.is_form.0 a.is_form.1 in
    let ds = o.0 in
    let d : Data = sorted.object ds in
    let inner : Adds (tokens_of d) begun now = subst (λ j. Adds (json_tokens j) begun now) (a.is_form.2 ∙ ap outline o.2) a.adds in
    record {
      form = outline (written.with_scope t ds);
      is_form = (written.with_scope t ds, ap (option_map (written.with_scope t)) o.1, refl);
      adds = behind (begin_object ∷ key (key_of of_code) ∷ string t ∷ key scope_key ∷ []) (tokens_of d ++ end_object ∷ []) old begun end b (behind (tokens_of d) (end_object ∷ []) begun now end inner e);
    }

-- ---- the whole text

pub text_written : (style : Style) (v : Value) (old new : Written) (t : List ℕ) → AddsSome json_tokens (HasForm style v) old new → old.tokens ≡ [] → t ≡ print new.tokens → tokens (print new.tokens) ≡ new.tokens → HasText style v t
text_written (Full m) v old new t a k e back = whole_text m v old new t a k e back
text_written Stored v old new t a k e back =
    let d = a.is_form in
    let all : new.tokens ≡ tokens_of d.0 = a.adds.0 ∙ ap (λ ts. ts ++ json_tokens a.form) k ∙ ap json_tokens d.2 in
    (d.0, d.1, e ∙ ap print all ∙ print-outline d.0)
