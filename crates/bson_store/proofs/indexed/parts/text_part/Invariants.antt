use Rattle.std.proofs.Common.{◌≡◌, ◌+◌, ◌*◌, ◌^◌, ◌<◌, ◌-◌, drop}
use Rattle.bson_store.specs.Parts.{head}
use Rattle.bson_store.proofs.indexed.parts.text_part.Given as goal

abbrev pub invariant-loop-i : goal.invariant-loop-i
invariant-loop-i l = (l.part * 256 ^ (7 - l.i) + head (7 - l.i) (drop l.i l.initial.text) ≡ head 7 l.initial.text) × (l.part < 256 ^ l.i)
