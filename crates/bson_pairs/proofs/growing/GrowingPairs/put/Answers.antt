use Rattle.std.proofs.Common.{◌∷◌, ◌++◌, [], string_bytes, sym, ap, ◌∙◌, subst}
use Rattle.bson_pairs.specs.Keyed.{entries_of, put}
use Rattle.bson_pairs.specs.Index.{is_key}
use Rattle.bson_pairs.proofs.KeyedLemmas.{Absent, found_at, absent_if, get-missing, put-found, put-absent, keyed-push, on_err}
use Rattle.bson_pairs.proofs.growing.GrowingPairs.put.Goals as goal

pub returns-in_err-reserve-in-None-clause-absent : goal.returns-in_err-reserve-in-None-clause-absent
returns-in_err-reserve-in-None-clause-absent g c =
    let i = c.self.inside in
    on_err _ (get-missing i.keys i.values.items c.args.self.now c.as_str.result.now _ c.self.view_is c.as_str.ensures.value c.in-None.ensures.index)

pub returns-in_err-push-in-None-clause-absent : goal.returns-in_err-push-in-None-clause-absent
returns-in_err-push-in-None-clause-absent g c =
    let i = c.self.inside in
    on_err _ (get-missing i.keys i.values.items c.args.self.now c.as_str.result.now _ c.self.view_is c.as_str.ensures.value c.in-None.ensures.index)

pub returns-in-Some-clause-ok : goal.returns-in-Some-clause-ok
returns-in-Some-clause-ok g c =
    let i = c.self.inside in
    let k = c.as_str.result.now in
    let f = found_at (is_key k) i.keys c.in-Some.at c.in-Some.ensures.index in
    sym (put-found k i.keys i.values.items c.in-Some.at c.args.value f c.self.invariant) ∙ ap (put k c.args.value) c.self.view_is ∙ ap (λ q. put q c.args.value c.args.self.now) c.as_str.ensures.value

pub returns-in_ok-push-in-None-2-clause-ok : goal.returns-in_ok-push-in-None-2-clause-ok
returns-in_ok-push-in-None-2-clause-ok g c =
    let i = c.self.inside in
    let k = string_bytes c.args.key in
    let gone = subst (λ q. Absent (is_key q) i.keys) c.as_str.ensures.value (absent_if (is_key c.as_str.result.now) i.keys c.in-None.ensures.index) in
    let values = c.in_ok-push-in-None-2.ensures.items ∙ ap (λ l. l ++ c.args.value ∷ []) c.in_ok-reserve-in-None.ensures.items in
    (λ j. entries_of (c.in_ok-push-in-None.ensures.ok j) (values j)) ∙ keyed-push i.keys i.values.items c.args.key c.args.value c.self.invariant
    ∙ sym (put-absent k i.keys i.values.items c.args.value gone c.self.invariant) ∙ ap (put k c.args.value) c.self.view_is
