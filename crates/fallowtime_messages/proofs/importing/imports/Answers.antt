use Rattle.std.proofs.Common.{ℕ, Vec, string_bytes}
use Rattle.std.specs.declared.alloc.Global.{Global}
use Rattle.fallowtime_messages.specs.Outcomes.{IsImport}
use Rattle.fallowtime_statements.specs.declared.statement.Statement.{Statement}
use Rattle.fallowtime_statements.proofs.ListLemmas.{zip_more, zip_whole}
use Rattle.fallowtime_messages.proofs.importing.imports.Goals as goal

pub loop-document-preserved : goal.loop-document-preserved
loop-document-preserved c =
    let l = c.loop-document in
    zip_more (λ (b : Vec ℕ Global) (s : Statement). IsImport (string_bytes c.args.name.now) b.items s) c.args.documents.now l.list.items c.push.new.self.items l.document-index c.document-item.result c.in_ok-statement.statement c.loop-document-test.true c.document-item.is c.in_ok-push.ensures.items l.invariant (rw c.as_slice.ensures.value at c.in_ok-statement.ensures)

pub returns : goal.returns
returns c =
    let l = c.loop-document in
    zip_whole (λ (b : Vec ℕ Global) (s : Statement). IsImport (string_bytes c.args.name.now) b.items s) c.args.documents.now l.list.items l.document-index c.loop-document-test.false l.invariant
