use Rattle.std.proofs.Common.{◌≡◌, List, length, take}
use Rattle.serde_json.specs.Data.{Data}
use Rattle.store_documents.specs.Loading.{HasTaken}
use Rattle.cli_commands.specs.Inputs.{HaveTrees, lines_in}
use Rattle.cli_commands.proofs.LineLemmas.{shown}
use Rattle.cli_commands.proofs.texts.judged_lines.Given as goal

abbrev pub invariant-loop-line : goal.invariant-loop-line
invariant-loop-line l = record {
  front : shown l.yielded ≡ take (length l.yielded) (lines_in l.bytes);
  taken : (js : List Data) × HaveTrees (shown l.yielded) js × HasTaken l.loader js;
  counts : l.number ≡ length l.yielded;
}
