use Rattle.std.proofs.Common.{◌≡◌, sym, ap, ◌∙◌, subst}
use Rattle.std.specs.Map.{keys_of}
use Rattle.std.proofs.lemmas.Result.{on_err_weaker}
use Rattle.bson_pairs.specs.Index.{index_of}
use Rattle.bson_pairs.specs.Keyed.{entries_of}
use Rattle.bson_pairs.specs.Putting.{PutsBeforeNew}
use Rattle.bson_pairs.proofs.KeyedLemmas.{keys_of-keyed}
use Rattle.bson_pairs.proofs.pairs.Pairs.put_each_by.Goals as goal

pub new-requires : goal.new-requires
new-requires g c =
    let i = c.keys.inside in
    c.requires ∙ ap (λ ps. index_of (keys_of ps)) (sym c.replace.ensures.value ∙ sym c.keys.view_is) ∙ ap index_of (keys_of-keyed i.keys i.values.items c.keys.invariant)

pub returns-clause-err : goal.returns-clause-err
returns-clause-err g c =
    let i = c.keys.inside in
    let whole : c.new-growing.result ≡ c.args.self.now = c.new-growing.ensures ∙ ap (λ ks. entries_of ks i.values.items) c.new.ensures ∙ c.keys.view_is ∙ c.replace.ensures.value in
    on_err_weaker c.put_each-put.result (λ h. subst (λ q. PutsBeforeNew c.args.pairs.items c.args.self.now q) (sym c.finish.ensures) (subst (λ p. PutsBeforeNew c.args.pairs.items p c.put_each-put.new.self) whole h)) c.put_each-put.ensures.err
