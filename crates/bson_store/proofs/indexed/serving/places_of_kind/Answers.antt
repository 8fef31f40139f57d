use Rattle.std.proofs.Common.{◌≡◌, true, sym, ◌∙◌, rules}
use Rattle.bson_store.proofs.ServingLemmas.{by_kind}
use Rattle.bson_store.proofs.indexed.serving.places_of_kind.Goals as goal

pub returns : goal.returns
returns c =
    let kind : c.is_wide_kind.result ≡ true = (let f = c.if-not-is_wide_kind.false in search rules) in
    let begins : c.is_beginning.result ≡ true = (let f = c.if-not-is_beginning.false in search rules) in
    by_kind c.args.index.now c.args.path.now c.args.kind c.in_ok-from_slice.field-0 (sym c.is_wide_kind.ensures ∙ kind) ((rw c.as_slice.ensures.value at c.is_beginning.ensures).0 begins) (c.in_ok-from_slice.ensures.items ∙ c.as_slice-2.ensures)
