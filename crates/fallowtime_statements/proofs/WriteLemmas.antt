-- Plans of lists and of pipelines.
use Rattle.std.proofs.Common.{◌≡◌, ℤ, ℕ, Bool, true, List, codes, map, Option, Some, Result, Ok, Err, IfOk, Vec, subst}
use Rattle.std.specs.List.{AllZip}
use Rattle.std.specs.declared.alloc.Global.{Global}
use Rattle.bson_base.specs.Value.{Items, Members, Value, array, look_up}
use Rattle.bson_message.specs.declared.section.Sequence.{Sequence}
use Rattle.bson_model.specs.View.{items_of, view}
use Rattle.bson_model.specs.declared.bson.Bson.{Bson}
use Rattle.bson_model.specs.declared.extjson.ser.Mode.TheVariants.{Relaxed}
use Rattle.bson_store.specs.Export.{bytes_of_each}
use Rattle.fallowtime_words.specs.declared.command.Command.TheVariants as command
use Rattle.fallowtime_statements.specs.Batches.{AreNumbers}
use Rattle.fallowtime_statements.specs.Counting.{CountsIn}
use Rattle.fallowtime_statements.specs.Lines.{IsLine, IsTruth, IsWhole, line_of_two}
use Rattle.fallowtime_statements.specs.Plans.{AreGiven, AsksGroup, AsksWrites, IsOf, namespace}
use Rattle.fallowtime_statements.specs.declared.statement.Statement.{Statement}
use Rattle.fallowtime_statements.specs.declared.fault.Fault.{Fault}
use Rattle.fallowtime_statements.proofs.ListLemmas.{zip_seen_left}

-- a pipeline that counts
pub asks_group : (db n space : List ℕ) (ms q : Members) (vs : Items) (s : Statement) (id : Value) (skip most : ℕ) → IsOf db (codes "aggregate") ms n → CountsIn (look_up (codes "pipeline") ms) q skip most id → vs ≡ line_of_two n q → IsLine Relaxed command.Count vs s → space ≡ namespace db n
    → AsksGroup db ms space id skip most s
asks_group db n space ms q vs s id skip most of counts same line is = (n, q, of, counts, subst (λ ws. IsLine Relaxed command.Count ws s) same line, is)

pub asks_writes : (Is : List ℕ → List ℕ → Statement → Type 0) (db key items : List ℕ) (ms : Members) (ss : List Sequence) (n : List ℕ) (ds : List (Vec ℕ Global)) (list : List Statement) (ordered : Bool)
    → IsOf db key ms n → AreGiven items ms ss (bytes_of_each ds) → AllZip (λ (b : Vec ℕ Global). Is n b.items) ds list → IsTruth true (look_up (codes "ordered") ms) ordered → AsksWrites Is db key items ms ss list ordered
asks_writes Is db key items ms ss n ds list ordered of given zip truth = (n, bytes_of_each ds, of, given, zip_seen_left (Is n) (λ (b : Vec ℕ Global). b.items) ds list zip, truth)

-- numbers of finds
pub numbers_there : (r : Result (Vec ℤ Global) Fault) (o : Option Value) (xs : List Bson) → o ≡ Some (array (items_of (map view xs))) → IfOk r (λ ids. AllZip (λ (v : Bson) (z : ℤ). IsWhole (Some (view v)) z) xs ids.items) → IfOk r (λ ids. AreNumbers o ids.items)
numbers_there (Ok ids) o xs is zip = (map view xs, is, zip_seen_left (λ v z. IsWhole (Some v) z) view xs ids.items zip)
numbers_there (Err e) o xs is zip = tt
