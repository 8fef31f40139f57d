use Rattle.std.proofs.Common.{◌≡◌, ℤ, Some, refl, sym, ap, ◌∙◌, subst, rules, of_z, to_z}
use Rattle.std.specs.Int.{w32, w64}
use Rattle.std.specs.Prelude.{FitsSigned}
use Rattle.bson_base.specs.Kinds.{IsSound}
use Rattle.bson_base.specs.Scalars.{decimal_bytes, id_bytes, millis_of}
use Rattle.bson_base.specs.Value.{Value, boolean, date_time, decimal, double, int32, int64, null, object_id, scalar, string, symbol}
use Rattle.bson_model.proofs.ViewLemmas.{view-Boolean, view-DateTime, view-ObjectId}
use Rattle.bson_order.proofs.WholeLemmas.{whole_at_place}
use Rattle.bson_order.specs.Wholes.{whole_of}
use Rattle.bson_raw.specs.Raw.{ref_value}
use Rattle.store_question.specs.Filters.{filter_of, path_of}
use Rattle.store_question.specs.Asked.{lies}
use Rattle.store_question.specs.declared.question.Comparison.TheVariants.{Equal}
use Rattle.store_asked.specs.Front.{Reaches, nothing_at, texts_at}
use Rattle.store_asked.proofs.AnswerFrontLemmas.{all_meet}
use Rattle.store_asked.proofs.ArmLemmas.{served, served_so, served_view}
use Rattle.store_asked.proofs.PrefilterLemmas.{date_reach, id_reach, nothing_reach, texts_reach, truth_reach}
use Rattle.store_asked.proofs.equal.equal.Goals as goal

pub returns-in-Double : goal.returns-in-Double
returns-in-Double c =
    let path = path_of c.args.path.now in
    let s = double c.in-Double.number.0 in
    served path c.args.value s (λ f. Reaches path (scalar s) (filter_of f)) c.doubles.result (ap ref_value c.in-Double.is) (λ f h. h) c.doubles.ensures

pub returns-in-Int32 : goal.returns-in-Int32
returns-in-Int32 c =
    let path = path_of c.args.path.now in
    let z = c.in-Int32.number in
    let same : to_z w64 (of_z w64 (to_z w32 (of_z w32 z))) ≡ z = search rules in
    let fits : FitsSigned w64 z = subst (λ (y : ℤ). FitsSigned w64 y) same c.wholes.ensures.fits in
    served path c.args.value (int32 z) (λ f. (w : Value) → whole_of w ≡ Some (to_z w64 (of_z w64 (to_z w32 (of_z w32 z)))) → Reaches path w (filter_of f)) c.wholes.result (ap ref_value c.in-Int32.is)
    (λ f h. h (scalar (int32 z)) (whole_at_place z fits ∙ ap Some (sym same))) c.wholes.ensures.reached

pub returns-in-Int64 : goal.returns-in-Int64
returns-in-Int64 c =
    let path = path_of c.args.path.now in
    let z = c.in-Int64.number in
    let same : to_z w64 (of_z w64 z) ≡ z = search rules in
    let fits : FitsSigned w64 z = subst (λ (y : ℤ). FitsSigned w64 y) same c.wholes-in-Int64.ensures.fits in
    served path c.args.value (int64 z) (λ f. (w : Value) → whole_of w ≡ Some (to_z w64 (of_z w64 z)) → Reaches path w (filter_of f)) c.wholes-in-Int64.result (ap ref_value c.in-Int64.is)
    (λ f h. h (scalar (int64 z)) (whole_at_place z fits ∙ ap Some (sym same))) c.wholes-in-Int64.ensures.reached

pub returns-in-String : goal.returns-in-String
returns-in-String c =
    let t = c.in-String.text.now in
    served_so (path_of c.args.path.now) c.args.value (string t) (texts_at (path_of c.args.path.now) t) c.texts.result (ap ref_value c.in-String.is) (texts_reach (path_of c.args.path.now) t (string t) refl refl) c.texts.ensures

pub returns-in-Symbol : goal.returns-in-Symbol
returns-in-Symbol c =
    let t = c.in-Symbol.text.now in
    served_so (path_of c.args.path.now) c.args.value (symbol t) (texts_at (path_of c.args.path.now) t) c.texts-in-Symbol.result (ap ref_value c.in-Symbol.is) (texts_reach (path_of c.args.path.now) t (symbol t) refl refl) c.texts-in-Symbol.ensures

pub returns-in-Null : goal.returns-in-Null
returns-in-Null c = served_so (path_of c.args.path.now) c.args.value null (nothing_at (path_of c.args.path.now)) c.nothing.result (ap ref_value c.in-Null.is) (nothing_reach (path_of c.args.path.now)) c.nothing.ensures

pub returns-in-ObjectId : goal.returns-in-ObjectId
returns-in-ObjectId c =
    let bytes = id_bytes c.in-ObjectId.id in
    served_view (path_of c.args.path.now) c.args.value (object_id bytes) _ c.same.result (ap ref_value c.in-ObjectId.is) (view-ObjectId c.in-ObjectId.id) (id_reach (path_of c.args.path.now) bytes) c.same.ensures.told

pub returns-in-Boolean : goal.returns-in-Boolean
returns-in-Boolean c =
    let truth = c.in-Boolean.truth in
    served_view (path_of c.args.path.now) c.args.value (boolean truth) _ c.same-in-Boolean.result (ap ref_value c.in-Boolean.is) (view-Boolean truth) (truth_reach (path_of c.args.path.now) truth) c.same-in-Boolean.ensures.told

pub returns-in-DateTime : goal.returns-in-DateTime
returns-in-DateTime c =
    let moment = c.in-DateTime.moment in
    let millis = millis_of moment in
    let sound : IsSound (scalar (date_time millis)) = subst (λ (x : Value). IsSound x) (view-DateTime moment) c.same-in-DateTime.ensures.sound in
    served_view (path_of c.args.path.now) c.args.value (date_time millis) _ c.same-in-DateTime.result (ap ref_value c.in-DateTime.is) (view-DateTime moment) (date_reach (path_of c.args.path.now) millis sound.ranged) c.same-in-DateTime.ensures.told

pub returns-in-Decimal128 : goal.returns-in-Decimal128
returns-in-Decimal128 c =
    let path = path_of c.args.path.now in
    let s = decimal (decimal_bytes c.in-Decimal128.number) in
    served path c.args.value s (λ f. Reaches path (scalar s) (filter_of f)) c.decimals.result (ap ref_value c.in-Decimal128.is) (λ f h. h) c.decimals.ensures

pub returns-in_default : goal.returns-in_default
returns-in_default c = λ w s. all_meet (path_of c.args.path.now) (lies Equal w) (filter_of c.everything.result) c.everything.ensures
