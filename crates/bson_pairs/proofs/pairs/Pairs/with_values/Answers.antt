use Rattle.std.proofs.Common.{◌≡◌, length, sym, ap, ◌∙◌, string_bytes}
use Rattle.std.proofs.Math.ListN.{length-map}
use Rattle.std.specs.List.{zip}
use Rattle.std.specs.Map.{keys_of}
use Rattle.bson_pairs.specs.Keyed.{key_bytes}
use Rattle.bson_pairs.proofs.KeyedLemmas.{length-keyed, keys_of-keyed, key_bytes-clones}
use Rattle.bson_pairs.proofs.pairs.Pairs.with_values.Goals as goal

keys_same : (g : _) (c : goal.In_ok-keys g) → key_bytes c.in_ok-keys.keys ≡ key_bytes c.self.inside.keys
keys_same g c = key_bytes-clones c.self.inside.keys c.in_ok-keys.keys c.in_ok-keys.ensures

pub invariant_of-result : goal.invariant_of-result
invariant_of-result g c =
    let i = c.self.inside in
    c.requires ∙ sym (ap length c.self.view_is) ∙ length-keyed i.keys i.values.items c.self.invariant ∙ c.self.invariant
    ∙ sym (length-map i.keys string_bytes) ∙ sym (ap length (keys_same g c)) ∙ length-map c.in_ok-keys.keys string_bytes

pub returns : goal.returns
returns g c =
    let i = c.self.inside in
    ap (λ ks. zip ks c.args.values.items) (keys_same g c ∙ sym (keys_of-keyed i.keys i.values.items c.self.invariant) ∙ ap keys_of c.self.view_is)
