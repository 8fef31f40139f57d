use Rattle.std.proofs.Common.{position, ap, ◌∙◌}
use Rattle.std.specs.FinMap.Entries.{find}
use Rattle.bson_pairs.specs.Ascending.{key_cmp}
use Rattle.bson_pairs.specs.Index.{is_key}
use Rattle.bson_pairs.proofs.IndexLemmas.{find-index, position_within}
use Rattle.bson_pairs.proofs.GrowthLemmas.{seen-find}
use Rattle.bson_pairs.proofs.growing_keys.GrowingKeys.get_index_of.Goals as goal

pub returns-clause-index : goal.returns-clause-index
returns-clause-index c =
    let i = c.self.inside in
    let k = c.args.key.now in
    c.copied.ensures ∙ c.get.ensures.value ∙ seen-find k i.places.entries ∙ ap (find key_cmp k) c.self.invariant.0 ∙ find-index k i.texts.items ∙ ap (position (is_key k)) c.self.view_is

pub returns-clause-within : goal.returns-clause-within
returns-clause-within c =
    let i = c.self.inside in
    let k = c.args.key.now in
    position_within (is_key k) c.args.self.now c.copied.result
    (c.copied.ensures ∙ c.get.ensures.value ∙ seen-find k i.places.entries ∙ ap (find key_cmp k) c.self.invariant.0 ∙ find-index k i.texts.items ∙ ap (position (is_key k)) c.self.view_is)
