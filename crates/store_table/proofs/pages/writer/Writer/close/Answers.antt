use Rattle.std.proofs.Common.{ℕ, subst}
use Rattle.sqlite_pool.specs.Pool.{state}
use Rattle.store_table.specs.Store.{HoldRows}
use Rattle.store_table.proofs.WriterLemmas.{all_kept, left_of}
use Rattle.store_table.proofs.pages.writer.Writer.close.Goals as goal

pub returns : goal.returns
returns g c first docs all clean left out =
    let early = state c.args.self.pool in
    let late = state c.checkpoint.new.self in
    let k = c.checkpoint.ensures.keeps in
    subst (λ (n : ℕ). ∥ HoldRows first n left docs ∥₁) k.stays.size (all_kept first early late docs k all left (left_of c.checkpoint.new.self c.close.result c.close.ensures left clean out))
