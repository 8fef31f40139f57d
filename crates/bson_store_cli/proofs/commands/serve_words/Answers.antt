use Rattle.std.proofs.Common.{map}
use Rattle.std.specs.Prelude.{string_bytes}
use Rattle.cli_commands.specs.declared.lines.UsageError.TheVariants.{Usage}
use Rattle.bson_store_cli.proofs.ServeLemmas.{complaint_reported}
use Rattle.bson_store_cli.proofs.commands.serve_words.Goals as goal

pub returns-in-Some-clause-misuse : goal.returns-in-Some-clause-misuse
returns-in-Some-clause-misuse g c h = absurd (h.0 c.in-Some.file.now c.in-Some.path.now c.in-Some.ensures)

pub returns-in-Some-read_words-clause-misuse : goal.returns-in-Some-read_words-clause-misuse
returns-in-Some-read_words-clause-misuse g c h =
    let w = c.in-Some-read_words.words in
    absurd (h.1 w.file.now w.coll.now w.call (map string_bytes w.rest.now) c.in-Some-read_words.ensures)

pub returns-in-None-clause-told : goal.returns-in-None-clause-told
returns-in-None-clause-told g c = complaint_reported Usage _ _ c.misuse.ensures.status c.misuse.ensures.line
