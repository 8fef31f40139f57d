use Rattle.std.proofs.Common.{refl, sym, ap, ◌∙◌, true≢false}
use Rattle.bson_pairs.specs.Keyed.{put}
use Rattle.bson_pairs.proofs.KeyedLemmas.{on_some_use, put-same}
use Rattle.bson_model.specs.Accessors.{of_kind, or_unexpected, as_binary_generic}
use Rattle.bson_model.specs.View.{view, pairs_of}
use Rattle.bson_model.proofs.document.Document.get_binary_generic_mut.Goals as goal

pub returns-in-Some-as_binary_generic_mut : goal.returns-in-Some-as_binary_generic_mut
returns-in-Some-as_binary_generic_mut c =
    let now = pairs_of c.args.self.now in
    let bytes = c.as_binary_generic_mut in
    let lent = c.in-Some-as_binary_generic_mut in (
      (
        refl,
        λ w _. on_some_use c.get_mut.result c.in-Some.value c.in-Some.is (c.get_mut.follows.holds (bytes.follows.lender w))
            ∙ ap (λ v. put c.args.key.now v now) (on_some_use bytes.result lent.lent lent.is (bytes.follows.holds w)),
        tt,
      ),
      ap or_unexpected lent.ensures.value ∙ ap (of_kind as_binary_generic) c.in-Some.ensures.value,
    )

pub returns-in-None-as_binary_generic_mut : goal.returns-in-None-as_binary_generic_mut
returns-in-None-as_binary_generic_mut c =
    let now = pairs_of c.args.self.now in
    let k = c.args.key.now in
    let bytes = c.as_binary_generic_mut in (
      (
        refl,
        λ w h. absurd (true≢false (sym h)),
        on_some_use c.get_mut.result c.in-Some.value c.in-Some.is (c.get_mut.follows.holds bytes.follows.lender-at-none)
            ∙ ap (λ v. put k v now) bytes.follows.holds-at-none ∙ put-same k (view c.in-Some.value.now) now (sym c.in-Some.ensures.value),
      ),
      ap or_unexpected c.in-None-as_binary_generic_mut.ensures.value ∙ ap (of_kind as_binary_generic) c.in-Some.ensures.value,
    )
