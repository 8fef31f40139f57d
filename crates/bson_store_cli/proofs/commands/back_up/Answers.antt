use Rattle.std.proofs.Common.{refl}
use Rattle.cli_files.specs.Fault.{kind_of}
use Rattle.bson_store_cli.proofs.ServeLemmas.{done_reported, refusal_reported}
use Rattle.bson_store_cli.proofs.commands.back_up.Goals as goal

pub returns-in-Err-clause-told : goal.returns-in-Err-clause-told
returns-in-Err-clause-told g c = refusal_reported (kind_of c.in-Err.error) _ _ c.refuse_file.ensures.status c.refuse_file.ensures.line

pub returns-in-Err-judged-clause-told : goal.returns-in-Err-judged-clause-told
returns-in-Err-judged-clause-told g c = refusal_reported c.in-Err-judged.kind _ _ c.refuse.ensures.status c.refuse.ensures.line

pub returns-in-Ok-copy-clause-told : goal.returns-in-Ok-copy-clause-told
returns-in-Ok-copy-clause-told g c = done_reported _ _ refl

pub returns-in-Err-copy-clause-told : goal.returns-in-Err-copy-clause-told
returns-in-Err-copy-clause-told g c = refusal_reported (kind_of c.in-Err-copy.error) _ _ c.refuse_file-in-Err-copy.ensures.status c.refuse_file-in-Err-copy.ensures.line
