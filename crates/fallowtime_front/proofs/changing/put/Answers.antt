use Rattle.std.proofs.Common.{◌∙◌, Ok, Err, subst, sym}
use Rattle.sqlite_pool.specs.StoredLaws.{Keeps-trans}
use Rattle.bson_model.specs.View.{content}
use Rattle.store_model.specs.State.{in_bytes}
use Rattle.store_model.specs.State as model
use Rattle.bson_store.specs.Calls.{DoesBytes}
use Rattle.bson_store.specs.Refusals.{as_done, reply_by}
use Rattle.fallowtime_front.specs.Changes.{IsUnfound, LeavesBytes, Turns}
use Rattle.fallowtime_commands.proofs.PutLemmas.{other_kind}
use Rattle.fallowtime_front.proofs.WayLemmas.{Done, found_none, insert_leaves, insert_turns, put_leaves, put_turns}
use Rattle.fallowtime_front.proofs.changing.put.Goals as goal

pub returns-in-Ok-replaced-clause-turns : goal.returns-in-Ok-replaced-clause-turns
returns-in-Ok-replaced-clause-turns g c =
    put_turns c.args.name.now c.as_slice-bytes.result.now (content c.args.document.now) (c.as_slice-bytes.ensures.value ∙ c.in-Ok.ensures.0) c.args.writer.now c.replace_raw.new.writer (Ok c.in-Ok-replaced.field-0) tt c.in-Ok.ensures.1
    (subst (λ (r : Done). Turns c.args.writer.now c.replace_raw.new.writer r (DoesBytes c.args.name.now (model.replace in_bytes) c.as_slice-bytes.result.now (reply_by as_done r))) c.in-Ok-replaced.is c.in_ok-replaced.ensures.turns)

pub returns-in-Ok-replaced-clause-crash : goal.returns-in-Ok-replaced-clause-crash
returns-in-Ok-replaced-clause-crash g c =
    put_leaves c.args.name.now c.as_slice-bytes.result.now (content c.args.document.now) (c.as_slice-bytes.ensures.value ∙ c.in-Ok.ensures.0) c.args.writer.now c.replace_raw.new.writer (as_done c.in-Ok-replaced.field-0) tt
    (subst (λ (r : Done). LeavesBytes c.args.writer.now c.replace_raw.new.writer c.args.name.now (model.replace in_bytes) c.as_slice-bytes.result.now (reply_by as_done r)) c.in-Ok-replaced.is c.in_ok-replaced.ensures.crash)

pub returns-in-NotFound-clause-turns : goal.returns-in-NotFound-clause-turns
returns-in-NotFound-clause-turns g c =
    insert_turns c.args.name.now c.as_slice-bytes.result.now (content c.args.document.now) (c.as_slice-bytes.ensures.value ∙ c.in-Ok.ensures.0) c.args.writer.now c.replace_raw.new.writer c.insert_raw.new.writer c.in-Err.error.document (c.in_ok-replaced.ensures.unfound (subst IsUnfound (sym c.in-Err.is) c.in-NotFound.is))
    (found_none c.args.name.now c.as_slice-bytes.result.now (content c.args.document.now) (c.as_slice-bytes.ensures.value ∙ c.in-Ok.ensures.0) c.args.writer.now c.replace_raw.new.writer c.in_ok-replaced.replaced c.in-Err.error c.in-Err.is c.in-NotFound.is c.in_ok-replaced.ensures.turns) c.in-Ok.ensures.1 c.insert_raw.ensures.stays c.insert_raw.result c.insert_raw.ensures.turns

pub returns-in-NotFound-clause-crash : goal.returns-in-NotFound-clause-crash
returns-in-NotFound-clause-crash g c =
    insert_leaves c.args.name.now c.as_slice-bytes.result.now (content c.args.document.now) (c.as_slice-bytes.ensures.value ∙ c.in-Ok.ensures.0) c.args.writer.now c.replace_raw.new.writer c.insert_raw.new.writer c.in-Err.error.document (c.in_ok-replaced.ensures.unfound (subst IsUnfound (sym c.in-Err.is) c.in-NotFound.is))
    (found_none c.args.name.now c.as_slice-bytes.result.now (content c.args.document.now) (c.as_slice-bytes.ensures.value ∙ c.in-Ok.ensures.0) c.args.writer.now c.replace_raw.new.writer c.in_ok-replaced.replaced c.in-Err.error c.in-Err.is c.in-NotFound.is c.in_ok-replaced.ensures.turns) c.insert_raw.ensures.stays c.insert_raw.result c.insert_raw.ensures.crash

pub returns-in-NotFound-clause-untold : goal.returns-in-NotFound-clause-untold
returns-in-NotFound-clause-untold g c none = Keeps-trans _ _ _ (c.in_ok-replaced.ensures.unfound (subst IsUnfound (sym c.in-Err.is) c.in-NotFound.is)).0 (c.insert_raw.ensures.untold none)

pub returns : goal.returns
returns g c = record {
  turns = put_turns c.args.name.now c.as_slice-bytes.result.now (content c.args.document.now) (c.as_slice-bytes.ensures.value ∙ c.in-Ok.ensures.0) c.args.writer.now c.replace_raw.new.writer (Err c.in-Err.error) (other_kind c.in-Err.error.kind c.in-Err.error.document c.in_default-kind.not-NotFound) c.in-Ok.ensures.1
      (subst (λ (r : Done). Turns c.args.writer.now c.replace_raw.new.writer r (DoesBytes c.args.name.now (model.replace in_bytes) c.as_slice-bytes.result.now (reply_by as_done r))) c.in-Err.is c.in_ok-replaced.ensures.turns);
  crash = put_leaves c.args.name.now c.as_slice-bytes.result.now (content c.args.document.now) (c.as_slice-bytes.ensures.value ∙ c.in-Ok.ensures.0) c.args.writer.now c.replace_raw.new.writer (model.refused c.in-Err.error.kind c.in-Err.error.document) (other_kind c.in-Err.error.kind c.in-Err.error.document c.in_default-kind.not-NotFound)
      (subst (λ (r : Done). LeavesBytes c.args.writer.now c.replace_raw.new.writer c.args.name.now (model.replace in_bytes) c.as_slice-bytes.result.now (reply_by as_done r)) c.in-Err.is c.in_ok-replaced.ensures.crash);
  untold = λ none. absurd (cc);
}
