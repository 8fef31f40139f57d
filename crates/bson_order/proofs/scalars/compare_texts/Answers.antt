use Rattle.std.proofs.Common.{◌≡◌, ◌∙◌, ap, sym, subst}
use Rattle.std.specs.Cmp.Lexicographic.{slice_cmp}
use Rattle.std.specs.Ordering.{nat_cmp}
use Rattle.bson_meaning.specs.Views.{view_scalar}
use Rattle.bson_raw.specs.declared.bson_ref.RawBsonRef.{RawBsonRef}
use Rattle.bson_raw.specs.declared.bson_ref.RawBsonRef.TheVariants as views
use Rattle.bson_order.specs.Order.{parts, parts_key}
use Rattle.bson_order.proofs.TextLemmas.{texts_level}
use Rattle.bson_order.proofs.scalars.compare_texts.Goals as goal

pub returns-in-String-other : goal.returns-in-String-other
returns-in-String-other c =
    let x = c.in-String.x in
    let y = c.in-String-other.y in
    let told = c.cmp.ensures ∙ ap (λ s. slice_cmp nat_cmp s c.as_bytes-in-String-other.result.now) c.as_bytes.ensures.value ∙ ap (λ t. slice_cmp nat_cmp c.in-String.x.now t) c.as_bytes-in-String-other.ensures.value in
    subst (λ (v : RawBsonRef). c.cmp.result ≡ slice_cmp nat_cmp (parts_key (parts (view_scalar v))) (parts_key (parts (view_scalar c.args.other)))) (sym c.in-String.is)
    (subst (λ (w : RawBsonRef). c.cmp.result ≡ slice_cmp nat_cmp (parts_key (parts (view_scalar (views.String c.in-String.x)))) (parts_key (parts (view_scalar w)))) (sym c.in-String-other.is)
    (texts_level c.in-String.x.now c.in-String-other.y.now c.cmp.result told))
