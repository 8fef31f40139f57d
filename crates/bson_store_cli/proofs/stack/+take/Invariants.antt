use Rattle.std.proofs.Common.{ℕ}
use Rattle.bson_store_cli.proofs.stack.+take.Given as goal

-- the parts that are left
abbrev pub decreases-take : goal.decreases-take
decreases-take l = l.parts
