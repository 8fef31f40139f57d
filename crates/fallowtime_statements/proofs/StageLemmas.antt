-- Pipelines as lines of `aggregate`.
use Rattle.std.proofs.Common.{◌≡◌, ℕ, List, map, Option, Some, Result, Ok, Err, IfOk, Vec, subst}
use Rattle.std.specs.List.{AllZip}
use Rattle.std.specs.declared.alloc.Global.{Global}
use Rattle.bson_base.specs.Value.{Items, Value, array}
use Rattle.bson_model.specs.View.{items_of, view}
use Rattle.bson_model.specs.declared.bson.Bson.{Bson}
use Rattle.bson_model.specs.declared.extjson.ser.Mode.TheVariants.{Relaxed}
use Rattle.fallowtime_words.specs.declared.command.Command.TheVariants as command
use Rattle.fallowtime_statements.specs.Lines.{IsLine}
use Rattle.fallowtime_statements.specs.Staging.{AreStages, IsAggregate, IsStage, line_of_stages}
use Rattle.fallowtime_statements.specs.declared.fault.Fault.{Fault}
use Rattle.fallowtime_statements.specs.declared.statement.Statement.{Statement}
use Rattle.fallowtime_statements.proofs.ListLemmas.{zip_seen}

-- copies of the stages of an array
pub are_stages : (r : Result (Vec Bson Global) Fault) (o : Option Value) (xs : List Bson) → o ≡ Some (array (items_of (map view xs))) → IfOk r (λ list. AllZip (λ (v w : Bson). IsStage (view v) (view w)) xs list.items)
    → IfOk r (λ list. AreStages o (map view list.items))
are_stages (Ok list) o xs is zip = (map view xs, is, zip_seen IsStage view view xs list.items zip)
are_stages (Err e) o xs is zip = tt

-- what the line of these stages asks for
pub is_aggregate : (r : Result Statement Fault) (o : Option Value) (n : List ℕ) (ws : List Value) (vs : Items) → AreStages o ws → vs ≡ line_of_stages n ws → IfOk r (IsLine Relaxed command.Aggregate vs) → IfOk r (IsAggregate o n)
is_aggregate (Ok s) o n ws vs are same line = (ws, are, subst (λ (l : Items). IsLine Relaxed command.Aggregate l s) same line)
is_aggregate (Err e) o n ws vs are same line = tt
