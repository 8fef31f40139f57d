use Rattle.std.proofs.Common.{ℕ, Vec, string_bytes, take}
use Rattle.std.specs.List.{AllZip}
use Rattle.std.specs.declared.alloc.Global.{Global}
use Rattle.fallowtime_messages.specs.Outcomes.{IsImport}
use Rattle.fallowtime_statements.specs.declared.statement.Statement.{Statement}
use Rattle.fallowtime_messages.proofs.importing.imports.Given as goal

abbrev pub invariant-loop-document : goal.invariant-loop-document
invariant-loop-document l = AllZip (λ (b : Vec ℕ Global) (s : Statement). IsImport (string_bytes l.name) b.items s) (take l.document-index l.documents) l.list.items
