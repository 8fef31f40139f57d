use Rattle.std.proofs.Common.{Some, sym, ap, ◌∙◌}
use Rattle.bson_pairs.specs.Keyed.{entries_of, get, without}
use Rattle.bson_pairs.specs.Index.{is_key}
use Rattle.bson_pairs.proofs.KeyedLemmas.{found_at, absent_if, get-found_value, get-absent, without-found, without-absent}
use Rattle.bson_pairs.proofs.pairs.Pairs.remove.Goals as goal

pub returns-in-Some-clause-value : goal.returns-in-Some-clause-value
returns-in-Some-clause-value g c =
    let i = c.self.inside in
    let k = c.args.key.now in
    let f = found_at (is_key k) i.keys c.in-Some.at c.in-Some.ensures.index in
    ap Some c.remove-in-Some.ensures.value ∙ sym (get-found_value k i.keys i.values.items c.in-Some.at _ f c.self.invariant) ∙ ap (get k) c.self.view_is

pub returns-in-Some-clause-rest : goal.returns-in-Some-clause-rest
returns-in-Some-clause-rest g c =
    let i = c.self.inside in
    let k = c.args.key.now in
    let f = found_at (is_key k) i.keys c.in-Some.at c.in-Some.ensures.index in
    (λ j. entries_of (c.in-Some.ensures.rest j) (c.remove-in-Some.ensures.items j)) ∙ sym (without-found k i.keys i.values.items c.in-Some.at f c.self.invariant) ∙ ap (without k) c.self.view_is

pub returns-in-None-clause-value : goal.returns-in-None-clause-value
returns-in-None-clause-value g c =
    let i = c.self.inside in
    let k = c.args.key.now in
    sym (get-absent k i.keys i.values.items (absent_if (is_key k) i.keys c.in-None.ensures.index)) ∙ ap (get k) c.self.view_is

pub returns-in-None-clause-rest : goal.returns-in-None-clause-rest
returns-in-None-clause-rest g c =
    let i = c.self.inside in
    let k = c.args.key.now in
    ap (λ ks. entries_of ks i.values.items) c.in-None.ensures.rest ∙ sym (without-absent k i.keys i.values.items (absent_if (is_key k) i.keys c.in-None.ensures.index)) ∙ ap (without k) c.self.view_is
