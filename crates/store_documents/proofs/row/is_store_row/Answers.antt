use Rattle.std.proofs.Common.{refl, sym, ◌∙◌}
use Rattle.std.specs.Cow.{cow_slice_items}
use Rattle.std.proofs.lemmas.Result.{IfOk-weaker}
use Rattle.store_documents.specs.Bodies.{StandUnder}
use Rattle.store_documents.proofs.RowLemmas.{is_row, no_row, not_answered, row_back, WritesAs}
use Rattle.store_documents.proofs.row.is_store_row.Goals as goal

pub returns-in-Ok-Some : goal.returns-in-Ok-Some
returns-in-Ok-Some c =
    let n = c.args.collection.now in
    let k = c.args.key.now in
    let bytes = c.args.body.now in
    let a : StandUnder c.in-Ok-Some.own.items bytes = rw c.in-Ok-Some.field-0-is at c.in-Ok-Some.ensures in
    let name = c.is_text_of_name.ensures.0 c.if-not-is_text_of_name.false in
    let own = c.in-Ok-Some.own.items in
    let same = c.as_slice.ensures.value in
    let w : WritesAs a.0 own bytes = record { read = a.2; accepted = a.3.0; key_is = a.3.1; body_is = a.3.2 } in (
      λ t. is_row n k bytes a.0 own bytes name w (sym same ∙ c.is_same.ensures.0 t) refl,
      λ row. c.is_same.ensures.1 (same ∙ (row_back n k bytes a.0 own bytes w a.1 row).0),
    )

pub returns-in-Ok : goal.returns-in-Ok
returns-in-Ok c =
    let n = c.args.collection.now in
    let k = c.args.key.now in
    let bytes = c.args.body.now in
    let a = c.in-Ok.ensures in
    let name = c.is_text_of_name.ensures.0 c.if-not-is_text_of_name.false in
    let key_bytes = c.in-Ok.written.key.items in
    let body = cow_slice_items c.in-Ok.written.body in
    let w : WritesAs a.0 key_bytes body = record { read = a.2; accepted = a.3.0; key_is = a.3.1; body_is = a.3.2 } in (
      λ t. is_row n k bytes a.0 key_bytes body name w (c.is_written_so.ensures.0 t).0 (c.is_written_so.ensures.0 t).1,
      λ row. c.is_written_so.ensures.1 (row_back n k bytes a.0 key_bytes body w a.1 row),
    )

pub returns-in-Err-row_by_tree : goal.returns-in-Err-row_by_tree
returns-in-Err-row_by_tree c =
    let n = c.args.collection.now in
    let k = c.args.key.now in
    let bytes = c.args.body.now in
    IfOk-weaker c.outcome_of_refusal.result _ _ (λ b h. no_row b n k bytes h.0 (not_answered n k bytes c.in-Err-row_by_tree.kind c.in-Err-row_by_tree.ensures h.1)) c.outcome_of_refusal.ensures
