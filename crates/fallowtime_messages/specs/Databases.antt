-- The name of the database that a file is.
use Rattle.std.specs.Prelude.{ℕ, List, [], codes, length, unwrap_or, if◌then◌else◌, ◌==◌}
use Rattle.std.specs.List.{before_first}
use Rattle.std.specs.Path.{path_file_name}

-- the last part of a path, if it names a file
abbrev pub file_name : List ℕ → List ℕ
file_name path = unwrap_or (path_file_name path) []

-- what is before the first dot of a name
abbrev pub stem : List ℕ → List ℕ
stem name = before_first (λ b. b == 46) name

abbrev pub named_or : List ℕ → List ℕ
named_or name = if length name == 0 then codes "test" else name

abbrev pub database_name : List ℕ → List ℕ
database_name path = named_or (stem (file_name path))
