-- What is printed of the replies of commands.
use Rattle.std.specs.Prelude.{◌≡◌, ◌≤◌, ℕ, List, [], Some, false, decimal, map, string_bytes}
use Rattle.std.specs.List.{flat_map}
use Rattle.std.specs.Io.KnownBytes.{Appends}
use Rattle.serde_json.specs.Data.{Data, depth}
use Rattle.serde_json.specs.Read.{max_depth, read}
use Rattle.serde_json.specs.View.{view as data_of}
use Rattle.serde_json.specs.Written.{compact_text, has_float}
use Rattle.bson_base.specs.Device.{Tally}
use Rattle.store_model.specs.State as model
use Rattle.bson_store.specs.Export.{bytes_of_each}
use Rattle.cli_commands.specs.Lines.{flag_text, line}
use Rattle.cli_commands.specs.declared.answer.Answer.{Answer}
use Rattle.cli_commands.specs.declared.answer.Answer.TheVariants.{Nothing, Flag, Number, Tree, Documents, Names}

-- a text of the tree: it reads as the tree, and is the one without spaces if no number of the tree is a float
abbrev pub IsTextOf : Data → List ℕ → Type 0
IsTextOf j text = (depth j ≤ max_depth → read text ≡ Some j) × (has_float j ≡ false → text ≡ compact_text j)

-- flags, numbers, trees and names are lines, and documents come one after the other as they are written
abbrev pub IsPrinted : model.Reply → List ℕ → Type 0
IsPrinted model.done out = out ≡ []
IsPrinted (model.flag b) out = out ≡ line (flag_text b)
IsPrinted (model.number i) out = out ≡ line (decimal i)
IsPrinted (model.bytes bs) out = out ≡ bs
IsPrinted (model.bytes_list bodies) out = out ≡ flat_map (λ (b : List ℕ). b) bodies
IsPrinted (model.json j) out = (text : List ℕ) × IsTextOf j text × (out ≡ line text)
IsPrinted (model.json_list js) out = out ≡ flat_map (λ (j : Data). line (compact_text j)) js
IsPrinted (model.names ns) out = out ≡ flat_map line ns
IsPrinted (model.refused k i) out = ⊥

-- what is printed of the reply was written, and no write failed
abbrev pub Prints : model.Reply → Tally → Tally → Type 0
Prints r old new = (new.failures ≡ old.failures) × ((out : List ℕ) × IsPrinted r out × Appends old.taken new.taken out)

-- the reply that an answer is
abbrev pub reply_of : Answer → model.Reply
reply_of Nothing = model.done
reply_of (Flag b) = model.flag b
reply_of (Number i) = model.number i
reply_of (Tree j) = model.json (data_of j)
reply_of (Documents v) = model.bytes_list (bytes_of_each v.items)
reply_of (Names v) = model.names (map string_bytes v.items)
