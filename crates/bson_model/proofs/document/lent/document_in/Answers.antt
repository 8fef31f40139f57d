use Rattle.std.specs.Option.{option_map}
use Rattle.std.proofs.Common.{refl, sym, ap, ◌∙◌, true≢false}
use Rattle.bson_pairs.specs.Keyed.{put}
use Rattle.bson_pairs.proofs.KeyedLemmas.{over, get-over, put-over, on_some_use, put-same}
use Rattle.bson_model.specs.Accessors.{of_kind, or_unexpected, as_document}
use Rattle.bson_model.specs.View.{view}
use Rattle.bson_model.specs.declared.bson.Bson as bson
use Rattle.bson_model.proofs.ViewLemmas.{view-Document}
use Rattle.bson_model.proofs.document.lent.document_in.Goals as goal

pub returns-in-Some-as_document_mut : goal.returns-in-Some-as_document_mut
returns-in-Some-as_document_mut c =
    let ps = c.args.pairs.now in
    let k = c.args.key.now in (
      (
        refl,
        λ w _. ap (over view) (on_some_use c.get_mut.result c.in-Some.value c.in-Some.is (c.get_mut.follows.holds (bson.Document w))) ∙ sym (put-over view k (bson.Document w) ps) ∙ ap (λ v. put k v (over view ps)) (view-Document w),
        tt,
      ),
      ap or_unexpected c.in-Some-as_document_mut.ensures.value ∙ ap (of_kind as_document) (ap (option_map view) c.in-Some.ensures.value ∙ sym (get-over view k ps)),
    )

pub returns-in-None-as_document_mut : goal.returns-in-None-as_document_mut
returns-in-None-as_document_mut c =
    let ps = c.args.pairs.now in
    let k = c.args.key.now in (
      (
        refl,
        λ w h. absurd (true≢false (sym h)),
        ap (over view) (on_some_use c.get_mut.result c.in-Some.value c.in-Some.is (c.get_mut.follows.holds c.in-Some.value.now) ∙ put-same k c.in-Some.value.now ps (sym c.in-Some.ensures.value)),
      ),
      ap or_unexpected c.in-None-as_document_mut.ensures.value ∙ ap (of_kind as_document) (ap (option_map view) c.in-Some.ensures.value ∙ sym (get-over view k ps)),
    )

pub returns-in-None : goal.returns-in-None
returns-in-None c =
    let ps = c.args.pairs.now in
    let k = c.args.key.now in (
      (refl, λ w h. absurd (true≢false (sym h)), ap (over view) c.get_mut.follows.holds-at-none),
      ap (of_kind as_document) (ap (option_map view) c.in-None.ensures.value ∙ sym (get-over view k ps)),
    )
