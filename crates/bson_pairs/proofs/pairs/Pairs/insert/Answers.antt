use Rattle.std.proofs.Common.{Some, ◌∷◌, ◌++◌, [], set, string_bytes, sym, ap, ◌∙◌, subst}
use Rattle.bson_pairs.specs.Keyed.{entries_of, get, put}
use Rattle.bson_pairs.specs.Index.{is_key}
use Rattle.bson_pairs.proofs.KeyedLemmas.{Absent, found_at, absent_if, get-found_value, get-absent, get-missing, put-found, put-absent, keyed-push, on_err}
use Rattle.bson_pairs.proofs.pairs.Pairs.insert.Goals as goal

pub returns-in-Ok-clause-before : goal.returns-in-Ok-clause-before
returns-in-Ok-clause-before g c =
    let i = c.self.inside in
    let k = c.as_str.result.now in
    let f = found_at (is_key k) i.keys c.in-Ok.at c.in-Ok.ensures.index in
    ap Some (c.replace.ensures.value ∙ c.index_mut.ensures.value) ∙ sym (get-found_value k i.keys i.values.items c.in-Ok.at _ f c.self.invariant)
    ∙ ap (get k) c.self.view_is ∙ ap (λ q. get q c.args.self.now) c.as_str.ensures.value

pub returns-in-Ok-clause-ok : goal.returns-in-Ok-clause-ok
returns-in-Ok-clause-ok g c =
    let i = c.self.inside in
    let k = c.as_str.result.now in
    let f = found_at (is_key k) i.keys c.in-Ok.at c.in-Ok.ensures.index in
    ap (λ w. entries_of i.keys (set i.values.items c.in-Ok.at w)) c.replace.ensures.after ∙ sym (put-found k i.keys i.values.items c.in-Ok.at c.args.value f c.self.invariant)
    ∙ ap (put k c.args.value) c.self.view_is ∙ ap (λ q. put q c.args.value c.args.self.now) c.as_str.ensures.value

gone : (g : _) (c : goal.In_ok-push-in-Err g) → Absent (is_key (string_bytes c.args.key)) c.self.inside.keys
gone g c = subst (λ q. Absent (is_key q) c.self.inside.keys) c.as_str.ensures.value (absent_if (is_key c.as_str.result.now) c.self.inside.keys c.in-Err.ensures.absent)

pub returns-in_ok-push-in-Err-clause-before : goal.returns-in_ok-push-in-Err-clause-before
returns-in_ok-push-in-Err-clause-before g c =
    let i = c.self.inside in
    let k = string_bytes c.args.key in
    sym (get-absent k i.keys i.values.items (gone g c)) ∙ ap (get k) c.self.view_is

pub returns-in_ok-push-in-Err-clause-ok : goal.returns-in_ok-push-in-Err-clause-ok
returns-in_ok-push-in-Err-clause-ok g c =
    let i = c.self.inside in
    let k = string_bytes c.args.key in
    let values = c.in_ok-push-in-Err.ensures.items ∙ ap (λ l. l ++ c.args.value ∷ []) c.in_ok-reserve-in-Err.ensures.items in
    (λ j. entries_of (c.in_ok-insert_at-in-Err.ensures.ok j) (values j)) ∙ keyed-push i.keys i.values.items c.args.key c.args.value c.self.invariant
    ∙ sym (put-absent k i.keys i.values.items c.args.value (gone g c) c.self.invariant) ∙ ap (put k c.args.value) c.self.view_is

pub returns-in_err-reserve-in-Err-clause-absent : goal.returns-in_err-reserve-in-Err-clause-absent
returns-in_err-reserve-in-Err-clause-absent g c =
    let i = c.self.inside in
    on_err _ (get-missing i.keys i.values.items c.args.self.now c.as_str.result.now _ c.self.view_is c.as_str.ensures.value c.in-Err.ensures.absent)

pub returns-in_err-insert_at-in-Err-clause-absent : goal.returns-in_err-insert_at-in-Err-clause-absent
returns-in_err-insert_at-in-Err-clause-absent g c =
    let i = c.self.inside in
    on_err _ (get-missing i.keys i.values.items c.args.self.now c.as_str.result.now _ c.self.view_is c.as_str.ensures.value c.in-Err.ensures.absent)
