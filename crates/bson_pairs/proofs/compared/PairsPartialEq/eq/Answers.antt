use Rattle.std.proofs.Common.{◌≡◌, ◌&&◌, true, false, sym, ap, ◌∙◌}
use Rattle.std.specs.List.{list_all}
use Rattle.std.specs.Map.{keys_of}
use Rattle.bson_pairs.specs.Keyed.{has_key}
use Rattle.bson_pairs.specs.Same.{same_at}
use Rattle.bson_pairs.proofs.DistinctLemmas.{pairs_eq-has_all}
use Rattle.bson_pairs.proofs.KeyedLemmas.{list_all-key_bytes}
use Rattle.bson_pairs.proofs.compared.PairsPartialEq.eq.Goals as goal

pub returns-then-is_same_at_all : goal.returns-then-is_same_at_all
returns-then-is_same_at_all g c =
    let ps = c.args.self.now in
    let qs = c.args.other.now in
    let test = same_at g.V.PartialEq.eq ps qs in
    let mine : list_all test (keys_of ps) ≡ true
    = sym (c.is_same_at_all.ensures ∙ list_all-key_bytes test c.keys.result.now ∙ ap (list_all test) c.keys.ensures.keys) ∙ c.if-is_same_at_all.true in
    c.has_all.ensures ∙ list_all-key_bytes (λ k. has_key k ps) c.keys-then-is_same_at_all.result.now ∙ ap (list_all (λ k. has_key k ps)) c.keys-then-is_same_at_all.ensures.keys
    ∙ pairs_eq-has_all g.V.PartialEq.eq ps qs mine ∙ ap (λ b. b && list_all test (keys_of qs)) (sym mine)

pub returns-else-is_same_at_all : goal.returns-else-is_same_at_all
returns-else-is_same_at_all g c =
    let test = same_at g.V.PartialEq.eq c.args.self.now c.args.other.now in
    let mine : list_all test (keys_of c.args.self.now) ≡ false
    = sym (c.is_same_at_all.ensures ∙ list_all-key_bytes test c.keys.result.now ∙ ap (list_all test) c.keys.ensures.keys) ∙ c.if-is_same_at_all.false in
    c.if-is_same_at_all.false ∙ ap (λ b. b && list_all test (keys_of c.args.other.now)) (sym mine)
