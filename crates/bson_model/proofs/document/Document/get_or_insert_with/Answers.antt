use Rattle.std.proofs.Common.{◌≡◌, Option, Some, None, is_some, unwrap_or, string_bytes, false, MatchOption, refl, sym, ap, ◌∙◌, true≢false}
use Rattle.std.proofs.lemmas.Result.{IfOk-weaker}
use Rattle.bson_base.specs.Value.{Value}
use Rattle.bson_pairs.specs.Keyed.{get, has_key}
use Rattle.bson_model.specs.View.{view, pairs_of, IsTreeOf}
use Rattle.bson_model.specs.declared.bson.Bson.{Bson}
use Rattle.bson_model.proofs.document.Document.get_or_insert_with.Goals as goal

made : (r : Option Value) (P : Bson → Type 0) (t : Value) (x : Bson) → is_some r ≡ false → P x → t ≡ unwrap_or r (view x) → MatchOption r (IsTreeOf P t) (λ w. t ≡ w)
made None P t x gone p e = (x, p, e)
made (Some w) P t x gone p e = absurd (true≢false gone)

pub returns-else-contains_key : goal.returns-else-contains_key
returns-else-contains_key g c =
    let ps = pairs_of c.args.self.now in
    let k = string_bytes c.args.key in
    let lent = c.get_or_insert-else-contains_key in
    let gone : is_some (get k ps) ≡ false = ap (λ q. has_key q ps) (sym c.as_str.ensures.value) ∙ sym c.contains_key.ensures ∙ c.if-contains_key.false in (
      (refl, λ w ok. lent.follows.holds w ok, lent.follows.holds-at-none),
      record {
        writes_back = tt;
        value = IfOk-weaker lent.result _ _ (λ v e. made (get k ps) _ (view v.now) c.default-value.result gone c.default-value.ensures e) lent.ensures.value;
        absent = lent.ensures.absent;
      },
    )
