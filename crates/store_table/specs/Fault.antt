-- How a refusal of the database is reported.
use Rattle.sqlite.specs.declared.error.Error.{Error}
use Rattle.sqlite.specs.declared.error.Error.TheVariants.{SqliteFailure}
use Rattle.sqlite.specs.declared.error.ErrorCode.TheVariants.{OutOfMemory}
use Rattle.store_table.specs.declared.fault.Fault.{Fault}
use Rattle.store_table.specs.declared.fault.Fault.TheVariants.{Memory, Database}

-- out of memory, or any other reason
abbrev pub fault_of : Error → Fault
fault_of (SqliteFailure OutOfMemory) = Memory
fault_of _ = Database
