use Rattle.bson_message.specs.Parts.{IsPart}
use Rattle.bson_message.proofs.RunLemmas.{one_list}
use Rattle.bson_message.proofs.PartLemmas.{one_part, some_part}
use Rattle.bson_message.proofs.laws.one_list_of_sections.Goals as goal

pub returns : goal.returns
returns c = one_list IsPart one_part some_part
