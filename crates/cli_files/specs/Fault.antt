-- What the program reports of a file that can't be used.
use Rattle.std.specs.Prelude.{ℕ, List, codes}
use Rattle.std.specs.IoError.{error_kind}
use Rattle.std.specs.declared.io.ErrorKind.{ErrorKind as IoErrorKind}
use Rattle.std.specs.declared.io.ErrorKind.TheVariants as io
use Rattle.sqlite.specs.declared.error.Error.{Error as SqlError}
use Rattle.sqlite.specs.declared.error.Error.TheVariants.{SqliteFailure}
use Rattle.sqlite.specs.declared.error.ErrorCode.TheVariants as code
use Rattle.sqlite_std_file.specs.declared.pair.OpenError.{OpenError}
use Rattle.sqlite_std_file.specs.declared.pair.OpenError.TheVariants as opening
use Rattle.store_model.specs.declared.error.ErrorKind.{ErrorKind}
use Rattle.store_model.specs.declared.error.ErrorKind.TheVariants as kind
use Rattle.cli_files.specs.declared.fault.FileError.{FileError}
use Rattle.cli_files.specs.declared.fault.FileError.TheVariants.{Memory, NoFile, NoFolder, Busy, Denied, NoDatabase, Journal, NotPlain, NoName, Exists, Disk}

abbrev pub kind_of : FileError → ErrorKind
kind_of Memory = kind.Memory
kind_of _ = kind.Database

-- what fallowtime reports: each fault has its own kind
abbrev pub fault_line : FileError → List ℕ
fault_line Memory = codes "refused: Memory"
fault_line NoFile = codes "refused: NoFile"
fault_line NoFolder = codes "refused: NoFolder"
fault_line Busy = codes "refused: Busy"
fault_line Denied = codes "refused: Denied"
fault_line NoDatabase = codes "refused: NoDatabase"
fault_line Journal = codes "refused: Journal"
fault_line NotPlain = codes "refused: NotPlain"
fault_line NoName = codes "refused: NoName"
fault_line Exists = codes "refused: Exists"
fault_line Disk = codes "refused: Disk"

-- ---- where they come from

-- by why a call of the system failed
abbrev pub fault_of_io : IoErrorKind → FileError
fault_of_io io.OutOfMemory = Memory
fault_of_io io.NotFound = NoFolder
fault_of_io io.NotADirectory = NoFolder
fault_of_io io.PermissionDenied = Denied
fault_of_io io.ReadOnlyFilesystem = Denied
fault_of_io io.AlreadyExists = Exists
fault_of_io io.Unsupported = NotPlain
fault_of_io io.IsADirectory = NotPlain
fault_of_io _ = Disk

-- by why the files at a path can't be used
abbrev pub fault_of_opening : OpenError → FileError
fault_of_opening opening.OutOfMemory = Memory
fault_of_opening opening.Busy = Busy
fault_of_opening opening.HotJournal = Journal
fault_of_opening (opening.Io e) = fault_of_io (error_kind e)

-- by why files aren't opened as a database
abbrev pub fault_of_sql : SqlError → FileError
fault_of_sql (SqliteFailure code.OutOfMemory) = Memory
fault_of_sql (SqliteFailure code.NotADatabase) = NoDatabase
fault_of_sql (SqliteFailure code.DatabaseCorrupt) = NoDatabase
fault_of_sql _ = Disk

-- by why files in memory aren't opened as a database, or can't be taken in: there is no disk whose fault it could be
abbrev pub fault_in_memory : SqlError → FileError
fault_in_memory (SqliteFailure code.NotADatabase) = NoDatabase
fault_in_memory (SqliteFailure code.DatabaseCorrupt) = NoDatabase
fault_in_memory _ = Memory
