use Rattle.std.proofs.Common.{◌∙◌, ℕ, Global, Result, Vec, ap, subst}
use Rattle.sqlite_pool.specs.StoredLaws.{Keeps-trans}
use Rattle.bson_base.specs.Value.{put}
use Rattle.bson_model.specs.View.{content, view}
use Rattle.store_model.specs.State.{get_raw, on}
use Rattle.store_model.specs.declared.error.StoreError.{StoreError}
use Rattle.bson_store.specs.Calls.{Does}
use Rattle.bson_store.specs.Refusals.{as_bytes, reply_by}
use Rattle.fallowtime_front.specs.Changes.{Reads}
use Rattle.fallowtime_front.proofs.WayLemmas.{set_leaves, set_turns, ungot_leaves, ungot_turns}
use Rattle.fallowtime_front.proofs.changing.set.Goals as goal

pub returns-in-Err-clause-turns : goal.returns-in-Err-clause-turns
returns-in-Err-clause-turns g c = ungot_turns c.args.name.now (view c.args.id.now) c.args.key.now (view c.args.value.now) c.args.writer.now c.get_raw.new.writer c.in-Err.error (subst (λ (r : Result (Vec ℕ Global) StoreError). Reads c.args.writer.now c.get_raw.new.writer (Does (on c.args.name.now (get_raw (view c.args.id.now))) (reply_by as_bytes r))) c.in-Err.is c.in_ok-got.ensures.reads)

pub returns-in-Err-clause-crash : goal.returns-in-Err-clause-crash
returns-in-Err-clause-crash g c = ungot_leaves c.args.name.now (view c.args.id.now) c.args.key.now (view c.args.value.now) c.args.writer.now c.get_raw.new.writer c.in-Err.error.kind c.in-Err.error.document c.get_raw.ensures.keeps

pub returns-clause-turns : goal.returns-clause-turns
returns-clause-turns g c =
    set_turns c.args.name.now (view c.args.id.now) c.args.key.now (view c.args.value.now) c.args.writer.now c.get_raw.new.writer c.replace.new.writer c.in-Ok.body.items (content c.in-Ok-with_value.document) c.get_raw.ensures.keeps c.replace.ensures.stays (subst (λ (r : Result (Vec ℕ Global) StoreError). Reads c.args.writer.now c.get_raw.new.writer (Does (on c.args.name.now (get_raw (view c.args.id.now))) (reply_by as_bytes r))) c.in-Ok.is c.in_ok-got.ensures.reads)
    (λ d kept is. c.in-Ok-with_value.ensures d kept (c.as_slice.ensures.value ∙ is) ∙ ap (λ x. put c.args.key.now x d) c.in-Ok-try_clone.ensures) c.replace.result c.replace.ensures.turns

pub returns-clause-crash : goal.returns-clause-crash
returns-clause-crash g c =
    set_leaves c.args.name.now (view c.args.id.now) c.args.key.now (view c.args.value.now) c.args.writer.now c.get_raw.new.writer c.replace.new.writer c.in-Ok.body.items (content c.in-Ok-with_value.document) c.get_raw.ensures.keeps c.replace.ensures.stays (subst (λ (r : Result (Vec ℕ Global) StoreError). Reads c.args.writer.now c.get_raw.new.writer (Does (on c.args.name.now (get_raw (view c.args.id.now))) (reply_by as_bytes r))) c.in-Ok.is c.in_ok-got.ensures.reads)
    (λ d kept is. c.in-Ok-with_value.ensures d kept (c.as_slice.ensures.value ∙ is) ∙ ap (λ x. put c.args.key.now x d) c.in-Ok-try_clone.ensures) c.replace.result c.replace.ensures.crash

pub returns-clause-untold : goal.returns-clause-untold
returns-clause-untold g c none = Keeps-trans _ _ _ c.get_raw.ensures.keeps (c.replace.ensures.untold none)
