-- The question of a line step by step, as the calls inside take it.
use Rattle.std.specs.Prelude.{List, Option, Some, None}
use Rattle.std.specs.Borrow.{Bor}
use Rattle.std.specs.declared.alloc.Global.{Global}
use Rattle.json.specs.Json.{Json, Items}
use Rattle.json.specs.Value.{items_view}
use Rattle.json.specs.declared.value.Value.{Value}
use Rattle.fallowtime_words.specs.declared.command.Command.{Command}
use Rattle.fallowtime_commands.specs.Questions.{HasCommand}

-- the command that the array begins with, and what is after it; none if it begins with none
abbrev pub Begins : Json → Option (Command × Bor (List (Value Global))) → Type 0
Begins j None = (c : Command) (js : Items) → HasCommand j c js → ⊥
Begins j (Some p) = HasCommand j p.0 (items_view p.1.now)
