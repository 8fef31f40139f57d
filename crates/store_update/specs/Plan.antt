-- Updates, with their values as trees.
use Rattle.std.specs.Prelude.{ℕ, List, map, Option, String, string_bytes}
use Rattle.std.specs.declared.alloc.Global.{Global}
use Rattle.bson_base.specs.Value.{Value}
use Rattle.bson_model.specs.View.{view}
use Rattle.store_update.specs.declared.operation.End.{End}
use Rattle.store_update.specs.declared.operation.Operation.{Operation}
use Rattle.store_update.specs.declared.operation.Operation.TheVariants as operations
use Rattle.store_update.specs.declared.operation.Place.{Place}
use Rattle.store_update.specs.declared.operation.Step.{Step}
use Rattle.store_update.specs.declared.operation.Step.TheVariants as steps

abbrev pub Path : Type 0
Path = List (List ℕ)

abbrev pub path_of : List (String Global) → Path
path_of keys = map string_bytes keys

-- what becomes of the value at a path
pub data Change : Type 0 where
  sets : Value → Change
  sets_on_insert : Value → Change
  unsets : Change
  adds : Value → Change
  multiplies : Value → Change
  least_with : Value → Change
  greatest_with : Value → Change
  -- items, where they are put among the others, and which of all are kept
  pushes : List Value → Place → Option Place → Change
  includes : List Value → Change
  excludes : List Value → Change
  pops : End → Change

pub data Plan : Type 0 where
  changes : Path → Change → Plan
  renames : Path → Path → Plan

abbrev pub change_of : Operation → Change
change_of (operations.Set v) = sets (view v)
change_of (operations.SetOnInsert v) = sets_on_insert (view v)
change_of operations.Unset = unsets
change_of (operations.Add v) = adds (view v)
change_of (operations.Multiply v) = multiplies (view v)
change_of (operations.Least v) = least_with (view v)
change_of (operations.Greatest v) = greatest_with (view v)
change_of (operations.Push p) = pushes (map view p.items.items) p.place p.slice
change_of (operations.Include vs) = includes (map view vs.items)
change_of (operations.Exclude vs) = excludes (map view vs.items)
change_of (operations.Pop e) = pops e

abbrev pub plan_of : Step → Plan
plan_of (steps.At path o) = changes (path_of path.items) (change_of o)
plan_of (steps.Rename path to) = renames (path_of path.items) (path_of to.items)
