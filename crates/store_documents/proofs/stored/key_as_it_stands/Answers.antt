use Rattle.std.proofs.Common.{refl}
use Rattle.std.specs.declared.borrow.CowSlice.TheVariants as slice
use Rattle.std.proofs.lemmas.Result.{err_from_is_err_and}
use Rattle.bson_bytes.specs.Spells.{settle}
use Rattle.bson_frame.specs.View.{element_of}
use Rattle.store_documents.proofs.StoredLemmas.{found, passing, row, stands}
use Rattle.store_documents.proofs.stored.key_as_it_stands.Goals as goal
use Rattle.bson_bytes.proofs.MeaningLemmas.{are_bytes}

pub key_of_element-requires : goal.key_of_element-requires
key_of_element-requires c =
    let bytes = c.args.bytes.now in
    let are = are_bytes bytes c.type_inv.bytes in
    let told = c.if-not-is_written_form.false in
    let passes = passing bytes (c.is_whole.ensures c.if-not-is_whole.false) (c.is_written_form.ensures.spelled told) in
    let form = c.is_written_form.ensures.form told in
    let settled = c.is_written_form.ensures.settled told in
    let e = element_of c.in-Some.id in
    (settle passes.2.0, stands bytes are passes form settled e c.in-Some.ensures, found bytes are passes form settled e c.in-Some.ensures)

pub returns-in_err-key : goal.returns-in_err-key
returns-in_err-key c =
    let p = err_from_is_err_and c.from_residual.result c.from_residual.ensures.1 in
    let bytes = c.args.bytes.now in
    let are = are_bytes bytes c.type_inv.bytes in
    let told = c.if-not-is_written_form.false in
    let passes = passing bytes (c.is_whole.ensures c.if-not-is_whole.false) (c.is_written_form.ensures.spelled told) in
    let form = c.is_written_form.ensures.form told in
    let settled = c.is_written_form.ensures.settled told in
    let e = element_of c.in-Some.id in
    rw (p.1, p.2) (c.in_err-key.ensures (settle passes.2.0) (stands bytes are passes form settled e c.in-Some.ensures) (found bytes are passes form settled e c.in-Some.ensures), passes)

pub returns : goal.returns
returns c =
    let bytes = c.args.bytes.now in
    let are = are_bytes bytes c.type_inv.bytes in
    let told = c.if-not-is_written_form.false in
    let passes = passing bytes (c.is_whole.ensures c.if-not-is_whole.false) (c.is_written_form.ensures.spelled told) in
    let form = c.is_written_form.ensures.form told in
    let settled = c.is_written_form.ensures.settled told in
    let e = element_of c.in-Some.id in
    row bytes are passes form settled e c.in-Some.ensures (record { key = c.in_ok-key.key; body = slice.Borrowed c.args.bytes })
    (c.in_ok-key.ensures (settle passes.2.0) (stands bytes are passes form settled e c.in-Some.ensures) (found bytes are passes form settled e c.in-Some.ensures))
    refl
