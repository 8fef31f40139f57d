use Rattle.std.proofs.Common.{map, [], ap, sym, ◌∙◌, string_bytes, subst, refl, arith}
use Rattle.std.proofs.lemmas.Result.{IfOk-weaker}
use Rattle.std.specs.Vec.Iter.{into_iter_items}
use Rattle.bson_base.specs.Value.{scoped_code}
use Rattle.bson_model.specs.View.{view, pairs_of, items_of, members_of}
use Rattle.bson_model.proofs.ViewLemmas.{view-WithScope}
use Rattle.bson_meaning.specs.Meaning.{norm}
use Rattle.bson_meaning.proofs.PutLemmas.{KeysOnce, tops_once, once_changed, put_all_once, normal_members, normal_items, finished}
use Rattle.bson_meaning.proofs.PairwiseLemmas.{stand_once}
use Rattle.bson_meaning.proofs.forms.+normal.Goals as goal
use Rattle.std.proofs.lemmas.List.{nil_from_length}

pub normalize_document-returns-clause-normal : goal.normalize_document-returns-clause-normal
normalize_document-returns-clause-normal t c =
    let ps = pairs_of c.args.document in
    let items = c.in_ok-pairs.pairs.items in
    let once = subst KeysOnce (sym c.in_ok-pairs.ensures.normal) (once_changed norm ps (tops_once ps c.in_ok-pairs.ensures.distinct)) in
    IfOk-weaker c.from_pairs.result _ _ (λ d e. ap members_of (e ∙ put_all_once items [] once ∙ c.in_ok-pairs.ensures.normal) ∙ normal_members ps) c.from_pairs.ensures

pub normal_items-returns-clause-normal : goal.normal_items-returns-clause-normal
normal_items-returns-clause-normal t c =
    let all = c.args.items.items in
    ap items_of (finished (λ b. norm (view b)) (map view c.loop-item.normal.items) (into_iter_items c.loop-item.item-iterator) all c.loop-item.invariant.0 (nil_from_length (into_iter_items c.loop-item.item-iterator) (c.loop-item.invariant.1 ∙ c.in-None.ensures.steps.0))) ∙ normal_items all

pub normalize-returns-in_ok-scope-in-JavaScriptCodeWithScope-clause-normal : goal.normalize-returns-in_ok-scope-in-JavaScriptCodeWithScope-clause-normal
normalize-returns-in_ok-scope-in-JavaScriptCodeWithScope-clause-normal t c =
    let old = c.in-JavaScriptCodeWithScope.code in
    let scope = c.in_ok-scope-in-JavaScriptCodeWithScope in
    view-WithScope (record { code = old.code; scope = scope.scope }) ∙ ap (scoped_code (string_bytes old.code)) scope.ensures.normal
    ∙ ap norm (sym (view-WithScope old)) ∙ ap (λ v. norm (view v)) (sym c.in-JavaScriptCodeWithScope.is)

pub normal_pairs-loop-key-init : goal.normal_pairs-loop-key-init
normal_pairs-loop-key-init t c =
    let once = stand_once (pairs_of c.args.document) c.distinct_keys_of_level.ensures in
    rw (c.in_ok-pairs.ensures.items, c.into_iter-key-iterator.ensures.into_iter_gives) (refl, omega arith, (λ h. h), once, (λ h. h), tt, tt)
