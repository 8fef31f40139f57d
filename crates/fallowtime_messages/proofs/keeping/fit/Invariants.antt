use Rattle.std.proofs.Common.{◌≡◌, drop, map}
use Rattle.fallowtime_messages.specs.Waiting.{fit, wait_of}
use Rattle.fallowtime_messages.proofs.keeping.fit.Given as goal

abbrev pub invariant-loop-cursor : goal.invariant-loop-cursor
invariant-loop-cursor l = fit l.left (map wait_of (drop l.cursor-index l.cursors)) ≡ fit 268435456 (map wait_of l.cursors)
