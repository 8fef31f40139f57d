use Rattle.std.proofs.Common.{◌≡◌, drop}
use Rattle.bson_json_read.specs.Reading.{is_whole}
use Rattle.bson_json_read.proofs.texts.is_whole.Given as goal

abbrev pub invariant-loop-c : goal.invariant-loop-c
invariant-loop-c l = is_whole l.text ≡ is_whole (drop l.c-index l.text)
