use Rattle.std.proofs.Common.{◌≡◌, drop}
use Rattle.std.specs.List.{list_all}
use Rattle.store_question.specs.Filters.{path_of}
use Rattle.fallowtime_requests.specs.Plain.{is_plain_key}
use Rattle.fallowtime_requests.proofs.plain.are_plain_keys.Given as goal

abbrev pub invariant-loop-key : goal.invariant-loop-key
invariant-loop-key l = list_all is_plain_key (path_of l.keys) ≡ list_all is_plain_key (path_of (drop l.key-index l.keys))
