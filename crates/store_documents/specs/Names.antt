-- What clauses see of a name.
use Rattle.std.specs.Prelude.{ℕ, List}
use Rattle.store_documents.specs.declared.name.Name.{Name}

abbrev pub name_bytes : Name → List ℕ
name_bytes n = n.text.now
