use Rattle.bson_store_cli.proofs.ServeLemmas.{without_text}
use Rattle.bson_store_cli.proofs.fallowtime.serve.Goals as goal

pub returns-in-Some-clause-told : goal.returns-in-Some-clause-told
returns-in-Some-clause-told g c = without_text c.serve.ensures

pub returns-in-Some-clause-misuse : goal.returns-in-Some-clause-misuse
returns-in-Some-clause-misuse g c = λ no_task no_topic. absurd (no_topic c.in-Some.topic c.in-Some.ensures)
