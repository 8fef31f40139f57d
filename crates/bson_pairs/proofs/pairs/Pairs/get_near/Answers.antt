use Rattle.std.proofs.Common.{◌≡◌, get_or, string_bytes, bytes_eq, true, sym, ap, ◌∙◌}
use Rattle.bson_pairs.proofs.DistinctLemmas.{get_at_place}
use Rattle.bson_pairs.proofs.pairs.Pairs.get_near.Goals as goal

pub returns-then-eq : goal.returns-then-eq
returns-then-eq g c =
    let ps = c.args.self.now in
    let ks = c.keys.result.now in
    let there = c.in-Some.there.now in
    let v = c.index-values-place.result in
    let found = c.in-Some.ensures.lookup in
    let same : bytes_eq (string_bytes there) c.args.key.now ≡ true = ap (λ t. bytes_eq t c.args.key.now) (sym c.as_str.ensures.value) ∙ sym c.eq.ensures ∙ c.if-eq.true in
    get_at_place ps ks c.args.place there v c.args.key.now c.keys.ensures.keys c.keys.ensures.distinct found.3.0 found.1 (c.index-values-place.is ∙ ap (λ l. get_or l c.args.place v) c.values.ensures) same
