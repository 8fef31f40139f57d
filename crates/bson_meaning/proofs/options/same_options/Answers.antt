use Rattle.std.proofs.Common.{chars, sym}
use Rattle.bson_meaning.proofs.CharacterLemmas.{alike_sorted, sorted_alike, sorted_length}
use Rattle.bson_meaning.proofs.options.same_options.Goals as goal

pub returns-then-options-others : goal.returns-then-options-others
returns-then-options-others c = (λ h. absurd cc, λ h. absurd (c.if-options-others.true (sorted_length c.args.options.now c.args.others.now c.utf8.options c.utf8.others h)))

pub returns-then-has_counts_of : goal.returns-then-has_counts_of
returns-then-has_counts_of c =
    let s = c.args.options.now in
    let t = c.args.others.now in (
      λ h. alike_sorted s t (c.has_counts_of.ensures.0 c.if-has_counts_of.true) (c.has_counts_of-then-has_counts_of.ensures.0 h),
      λ h. c.has_counts_of-then-has_counts_of.ensures.1 (sorted_alike t s (chars s) c.utf8.others c.utf8.options (sym h)),
    )

pub returns-else-has_counts_of : goal.returns-else-has_counts_of
returns-else-has_counts_of c =
    let s = c.args.options.now in
    let t = c.args.others.now in
    (λ h. absurd cc, λ h. c.has_counts_of.ensures.1 (sorted_alike s t (chars t) c.utf8.options c.utf8.others h))
