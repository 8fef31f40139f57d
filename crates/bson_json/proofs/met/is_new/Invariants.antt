use Rattle.std.proofs.Common.{drop}
use Rattle.bson_bytes.specs.Met.{IsNew}
use Rattle.bson_json.proofs.met.is_new.Given as goal

abbrev pub invariant-loop-other : goal.invariant-loop-other
invariant-loop-other l = IsNew l.key (drop l.other-index l.keys) → IsNew l.key l.keys
