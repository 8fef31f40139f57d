use Rattle.std.proofs.Common.{arith}
use Rattle.bson_model.specs.View.{content}
use Rattle.store_pipeline.proofs.WrittenLemmas.{unwritten, written_one}
use Rattle.store_pipeline.proofs.writing.written.Goals as goal

pub returns-in-Ok : goal.returns-in-Ok
returns-in-Ok c = written_one (content c.args.document.now) (omega (arith, c.if-depth_of_document-gt-LEVEL_LIMIT.false, c.depth_of_document.ensures)) c.in-Ok.body c.in-Ok.ensures

pub returns-in-Err : goal.returns-in-Err
returns-in-Err c = unwritten (content c.args.document.now) (omega (arith, c.if-depth_of_document-gt-LEVEL_LIMIT.false, c.depth_of_document.ensures)) c.in-Err.kind c.in-Err.ensures
