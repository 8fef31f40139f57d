use Rattle.std.proofs.Common.{refl, sym, ap, ◌∙◌, true≢false}
use Rattle.bson_pairs.specs.Keyed.{put}
use Rattle.bson_pairs.proofs.KeyedLemmas.{on_some_use, put-same}
use Rattle.bson_model.specs.Accessors.{of_kind, or_unexpected, as_timestamp}
use Rattle.bson_model.specs.View.{view, pairs_of}
use Rattle.bson_model.specs.declared.bson.Bson as bson
use Rattle.bson_model.proofs.ViewLemmas.{view-Timestamp}
use Rattle.bson_model.proofs.document.Document.get_timestamp_mut.Goals as goal

pub returns-in-Some-as_timestamp_mut : goal.returns-in-Some-as_timestamp_mut
returns-in-Some-as_timestamp_mut c =
    let now = pairs_of c.args.self.now in (
      (
        refl,
        λ w _. on_some_use c.get_mut.result c.in-Some.value c.in-Some.is (c.get_mut.follows.holds (bson.Timestamp w)) ∙ ap (λ v. put c.args.key.now v now) (view-Timestamp w),
        tt,
      ),
      ap or_unexpected c.in-Some-as_timestamp_mut.ensures.value ∙ ap (of_kind as_timestamp) c.in-Some.ensures.value,
    )

pub returns-in-None-as_timestamp_mut : goal.returns-in-None-as_timestamp_mut
returns-in-None-as_timestamp_mut c =
    let now = pairs_of c.args.self.now in
    let k = c.args.key.now in (
      (
        refl,
        λ w h. absurd (true≢false (sym h)),
        on_some_use c.get_mut.result c.in-Some.value c.in-Some.is (c.get_mut.follows.holds c.in-Some.value.now) ∙ put-same k (view c.in-Some.value.now) now (sym c.in-Some.ensures.value),
      ),
      ap or_unexpected c.in-None-as_timestamp_mut.ensures.value ∙ ap (of_kind as_timestamp) c.in-Some.ensures.value,
    )
