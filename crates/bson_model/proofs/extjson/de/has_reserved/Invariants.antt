use Rattle.std.proofs.Common.{◌≡◌}
use Rattle.serde_json.specs.View.{members_view}
use Rattle.bson_model.specs.JsonKeys.{any_reserved}
use Rattle.bson_model.proofs.extjson.de.has_reserved.Given as goal

abbrev pub invariant-loop-key : goal.invariant-loop-key
invariant-loop-key l = any_reserved (members_view l.members.entries) ≡ any_reserved (members_view l.key-iterator)
