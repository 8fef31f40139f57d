use Rattle.std.proofs.Common.{sym, ◌∙◌, arith}
use Rattle.bson_model.specs.View.{content, pairs_of}
use Rattle.bson_model.proofs.EqualLemmas.{look_up-members_of}
use Rattle.store_model.specs.State.{id_key}
use Rattle.fallowtime_commands.proofs.KeepLemmas.{has_id, no_id}
use Rattle.fallowtime_commands.proofs.storing.kept_bytes.Goals as goal

pub returns-in_default : goal.returns-in_default
returns-in_default c =
    no_id (content c.args.document.now) (omega (arith, c.if-depth_of_document-gt-LEVEL_LIMIT.false, c.depth_of_document.ensures)) c.unidentified.result (look_up-members_of id_key (pairs_of c.args.document.now) ∙ sym c.in_default.ensures) c.unidentified.ensures

pub returns : goal.returns
returns c =
    has_id (content c.args.document.now) (omega (arith, c.if-depth_of_document-gt-LEVEL_LIMIT.false, c.depth_of_document.ensures)) c.body_of.result _ (look_up-members_of id_key (pairs_of c.args.document.now) ∙ sym c.in-Some.ensures) c.body_of.ensures
