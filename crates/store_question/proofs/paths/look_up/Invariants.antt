use Rattle.std.proofs.Common.{◌+◌, ◌*◌, ◌≤◌, length, drop}
use Rattle.bson_raw.specs.View.{bytes_of}
use Rattle.bson_base.specs.Value.{document}
use Rattle.store_question.specs.Filters.{path_of}
use Rattle.store_question.specs.Views.{OfWritten, room}
use Rattle.store_question.proofs.PathLemmas.{OnTheWay}
use Rattle.store_question.proofs.paths.look_up.Given as goal

abbrev pub invariant-loop-key : goal.invariant-loop-key
invariant-loop-key l =
    OfWritten (bytes_of l.fn.document) (λ d. OnTheWay (document d) (path_of l.path) (path_of (drop l.key-index l.path)) l.here l.met)
    × (2 * l.met + 4 + room l.here ≤ length (bytes_of l.fn.document))
