use Rattle.bson_message.proofs.PartLemmas.{name_fault}
use Rattle.bson_message.proofs.section.name_in.Goals as goal

pub returns-in-Err : goal.returns-in-Err
returns-in-Err c = name_fault c.args.bytes.now c.in-Err.field-0 c.in-Err.ensures
