-- How deep the brackets of a text nest that stand outside of its strings.
use Rattle.std.specs.Prelude.{ℕ, ◌+◌, ◌-◌, ◌==◌, ◌||◌, if◌then◌else◌, List, [], ◌∷◌, max}
use Rattle.bson_store_cli.specs.declared.levels.Part.{Part}
use Rattle.bson_store_cli.specs.declared.levels.Part.TheVariants.{Outside, String, Escape}

-- a quote begins and ends a string, except behind a backslash in it
abbrev pub part_behind : Part → ℕ → Part
part_behind Outside byte = if byte == 34 then String else Outside
part_behind String byte = if byte == 34 then Outside else (if byte == 92 then Escape else String)
part_behind Escape byte = String

-- outside of strings brackets open and close
abbrev pub depth_behind : Part → ℕ → ℕ → ℕ
depth_behind Outside depth byte = if byte == 123 || byte == 91 then depth + 1 else (if byte == 125 || byte == 93 then depth - 1 else depth)
depth_behind String depth byte = depth
depth_behind Escape depth byte = depth

-- the most brackets that are open at once in a text, behind a part of it that leaves so many open and had this many
unfoldable pub deepest : Part → ℕ → ℕ → List ℕ → ℕ
deepest part depth most [] = most
deepest part depth most (byte ∷ rest) = deepest (part_behind part byte) (depth_behind part depth byte) (max most (depth_behind part depth byte)) rest

abbrev pub levels_in : List ℕ → ℕ
levels_in text = deepest Outside 0 0 text

-- the most in one of the texts, and in what came before
unfoldable pub deepest_from : ℕ → List (List ℕ) → ℕ
deepest_from most [] = most
deepest_from most (text ∷ texts) = deepest_from (max most (levels_in text)) texts
