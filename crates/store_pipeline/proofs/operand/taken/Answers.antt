use Rattle.std.proofs.Common.{◌∙◌, FitsSigned, Some, rules, string_bytes, ap, subst}
use Rattle.std.proofs.lemmas.Int.{to_z-of_z}
use Rattle.std.proofs.lemmas.Str.{IsUtf8-string_bytes}
use Rattle.std.specs.Int.{w32, w64}
use Rattle.bson_base.specs.Value.{boolean, double, int32, int64, null, scalar, string}
use Rattle.bson_model.proofs.ViewLemmas.{view-Boolean, view-Int32, view-Int64, view-String}
use Rattle.bson_model.specs.declared.bson.Bson as bson
use Rattle.bson_model.specs.declared.bson.Bson.{the_lemmas}
use Rattle.store_pipeline.proofs.LedLemmas.{path_taken, scalar_taken}
use Rattle.store_pipeline.proofs.operand.taken.Goals as goal
use Rattle.store_pipeline.specs.Taken.{IsTreeIfAny}

pub returns-in-Path : goal.returns-in-Path
returns-in-Path c = λ d is. rw c.in-Path.is (path_taken c.in-Path.path.items c.as_slice.result.now c.args.body.now d c.taken_at.result c.as_slice.ensures.value is (c.taken_at.ensures d is))

pub returns-in-Null : goal.returns-in-Null
returns-in-Null c = λ d is. rw c.in-Null.is (scalar_taken bson.Null null (search (rules, the_lemmas)) tt tt)

pub returns-in-Boolean : goal.returns-in-Boolean
returns-in-Boolean c = λ d is. rw c.in-Boolean.is (scalar_taken (bson.Boolean c.in-Boolean.flag) (boolean c.in-Boolean.flag) (view-Boolean c.in-Boolean.flag) tt tt)

pub returns-in-Int32 : goal.returns-in-Int32
returns-in-Int32 c =
    let range : FitsSigned w32 c.in-Int32.number = search rules in
    λ d is. rw c.in-Int32.is (scalar_taken _ (int32 c.in-Int32.number) (view-Int32 _ ∙ ap (λ z. scalar (int32 z)) (to_z-of_z w32 c.in-Int32.number range)) range tt)

pub returns-in-Int64 : goal.returns-in-Int64
returns-in-Int64 c =
    let range : FitsSigned w64 c.in-Int64.number = search rules in
    λ d is. rw c.in-Int64.is (scalar_taken _ (int64 c.in-Int64.number) (view-Int64 _ ∙ ap (λ z. scalar (int64 z)) (to_z-of_z w64 c.in-Int64.number range)) range tt)

pub returns-in-Double : goal.returns-in-Double
returns-in-Double c = λ d is. rw c.in-Double.is (subst (λ n. IsTreeIfAny (Some c.double_of.result) (Some (scalar (double n)))) c.to_bits.ensures (ap Some c.double_of.ensures.0, c.double_of.ensures.1))

pub returns-in_ok-from_str-in-String : goal.returns-in_ok-from_str-in-String
returns-in_ok-from_str-in-String c = λ d is.
    rw c.in-String.is (scalar_taken (bson.String c.in_ok-from_str-in-String.field-0) (string (string_bytes c.in-String.text))
    (view-String c.in_ok-from_str-in-String.field-0 ∙ ap (λ t. scalar (string t)) (c.in_ok-from_str-in-String.ensures.ok ∙ c.as_str.ensures.value)) (IsUtf8-string_bytes c.in-String.text) tt)
