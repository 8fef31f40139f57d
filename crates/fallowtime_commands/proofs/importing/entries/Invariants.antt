use Rattle.std.proofs.Common.{take}
use Rattle.store_documents.specs.Judging.{AreWrittenRows}
use Rattle.store_model.specs.Reading.{Documents}
use Rattle.fallowtime_commands.specs.Importing.{AreEntries}
use Rattle.fallowtime_commands.proofs.importing.entries.Given as goal

abbrev pub invariant-loop-row : goal.invariant-loop-row
invariant-loop-row l = (ds : Documents) → AreWrittenRows l.rows ds → AreEntries l.stays l.name l.edits.items (take l.row-index ds)
