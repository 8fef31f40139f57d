use Rattle.std.proofs.Common.{string_bytes, sym, ap, ◌∙◌}
use Rattle.std.specs.Hash.{str}
use Rattle.std.specs.List.{fold, flat_map}
use Rattle.std.proofs.lemmas.List.Sums.{fold-append}
use Rattle.bson_pairs.specs.Ascending.{pair_writes}
use Rattle.bson_pairs.proofs.compared.PairsHash.hash.Goals as goal

pub loop-key-init : goal.loop-key-init
loop-key-init g c = ap (λ es. fold g.H.Hasher.write c.args.state.now (flat_map (pair_writes g.V.Hash.hash_input) es)) (c.into_iter-key-iterator.ensures.into_iter_gives ∙ c.ascending-key-items.ensures)

pub loop-key-preserved : goal.loop-key-preserved
loop-key-preserved g c =
    let write = g.H.Hasher.write in
    let H = g.V.Hash.hash_input in
    let k = string_bytes c.in-Some.key.now in
    let v = c.in-Some.value.now in
    let state = c.loop-key.state in
    let rest = flat_map (pair_writes H) c.next.new.self in
    ap (λ s. fold write s rest) (c.hash-in-loop-key.ensures ∙ ap (λ s. fold write s (H v)) (c.hash.ensures ∙ ap (λ t. fold write state (str t)) c.as_str.ensures.value) ∙ sym (fold-append write state (str k) (H v)))
    ∙ sym (fold-append write state (pair_writes H (k, v)) rest)
    ∙ sym (ap (λ es. fold write state (flat_map (pair_writes H) es)) c.in-Some.ensures.steps)
    ∙ c.loop-key.invariant

pub returns : goal.returns
returns g c = sym (ap (λ es. fold g.H.Hasher.write c.loop-key.state (flat_map (pair_writes g.V.Hash.hash_input) es)) c.in-None.ensures.steps.0) ∙ c.loop-key.invariant
