-- What calls return of a document's pairs, seen as trees.
use Rattle.std.proofs.Common.{◌≡◌, ℕ, List, Option, None, Result, Bor, MutBor, map, slice_get, unwrap_or, sym, ap, ◌∙◌}
use Rattle.std.specs.Prelude.{IfOk, OnErr}
use Rattle.std.proofs.lemmas.Result.{IfOk-weaker, on_err_weaker}
use Rattle.std.specs.Map.{values_of}
use Rattle.std.specs.Option.{option_map, option_copied, option_copied_mut}
use Rattle.bson_pairs.specs.Keyed.{Key, get, put, without, set_at}
use Rattle.bson_pairs.proofs.KeyedLemmas.{over, get-over, put-over, without-over, set_at-over, slice_get-over, unwrap-map}
use Rattle.bson_model.specs.declared.bson.Bson.{Bson}
use Rattle.bson_model.specs.View.{view, pair_view}
use Rattle.bson_model.proofs.ViewLemmas.{view_of_ref, view_of_mut}

pub seen_under : (key : Key) (ps : List (Key × Bson)) (r : Option (Bor Bson)) → option_copied r ≡ get key ps → option_map (λ v. view v.now) r ≡ get key (map pair_view ps)
seen_under key ps r e = view_of_ref r ∙ ap (option_map view) e ∙ sym (get-over view key ps)

pub seen_out : (key : Key) (ps : List (Key × Bson)) (r : Option Bson) → r ≡ get key ps → option_map view r ≡ get key (map pair_view ps)
seen_out key ps r e = ap (option_map view) e ∙ sym (get-over view key ps)

pub seen_rest : (key : Key) (ps qs : List (Key × Bson)) → qs ≡ without key ps → map pair_view qs ≡ without key (map pair_view ps)
seen_rest key ps qs e = ap (over view) e ∙ sym (without-over view key ps)

pub seen_at : (ps : List (Key × Bson)) (at : ℕ) (r : Option (MutBor Bson)) → option_copied_mut r ≡ slice_get (values_of ps) at → option_map (λ v. view v.now) r ≡ slice_get (values_of (map pair_view ps)) at
seen_at ps at r e = view_of_mut r ∙ ap (option_map view) e ∙ sym (slice_get-over view ps at)

pub set_seen : (ps : List (Key × Bson)) (at : ℕ) (v : Bson) → map pair_view (set_at ps at v) ≡ set_at (map pair_view ps) at (view v)
set_seen ps at v = sym (set_at-over view ps at v)

pub put_seen : (key : Key) (v : Bson) (ps : List (Key × Bson)) → map pair_view (put key v ps) ≡ put key (view v) (map pair_view ps)
put_seen key v ps = sym (put-over view key v ps)

pub seen_absent : {T E : Type 0} (key : Key) (ps : List (Key × Bson)) (r : Result T E) → OnErr r (get key ps ≡ None) → OnErr r (get key (map pair_view ps) ≡ None)
seen_absent key ps r h = on_err_weaker r (λ e. get-over view key ps ∙ ap (option_map view) e) h

pub seen_or_default : {E : Type 0} (key : Key) (ps : List (Key × Bson)) (default : Bson) (r : Result (MutBor Bson) E) → IfOk r (λ v. v.now ≡ unwrap_or (get key ps) default)
    → IfOk r (λ v. view v.now ≡ unwrap_or (get key (map pair_view ps)) (view default))
seen_or_default key ps default r h = IfOk-weaker r _ _ (λ v e. ap view e ∙ unwrap-map view (get key ps) default ∙ ap (λ o. unwrap_or o (view default)) (sym (get-over view key ps))) h
