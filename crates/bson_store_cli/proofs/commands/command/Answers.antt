use Rattle.cli_files.specs.Fault.{kind_of}
use Rattle.bson_store_cli.proofs.ServeLemmas.{refusal_reported}
use Rattle.bson_store_cli.proofs.commands.command.Goals as goal

pub returns-in-Err-clause-told : goal.returns-in-Err-clause-told
returns-in-Err-clause-told g c = refusal_reported (kind_of c.in-Err.error) _ _ c.refuse_file.ensures.status c.refuse_file.ensures.line
