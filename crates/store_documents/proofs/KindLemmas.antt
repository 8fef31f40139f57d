-- No refusal of a body is one of a device.
use Rattle.std.proofs.Common.{◌≡◌, inl, inr, Bool, true, false, cond, Option, Some, None, ℕ, Result, Ok, Err, IfErr, sym, subst}
use Rattle.std.specs.declared.alloc.Global.{Global}
use Rattle.std.specs.Prelude.{Vec}
use Rattle.serde_json.specs.Data.{Data}
use Rattle.serde_json.specs.declared.value.Value.{Value as Json}
use Rattle.bson_base.specs.Value.{Members, document}
use Rattle.bson_meaning.specs.JsonReserved.{has_reserved}
use Rattle.bson_model.specs.JsonWrite.{write}
use Rattle.bson_model.specs.declared.extjson.ser.Mode.{Mode}
use Rattle.store_model.specs.Reading.{IsUnkeepable}
use Rattle.store_model.specs.State.{json_of, or_finite}
use Rattle.store_model.specs.declared.error.ErrorKind.{ErrorKind}
use Rattle.store_model.specs.declared.error.ErrorKind.TheVariants as kind
use Rattle.store_documents.specs.Answers.{AnswersJson, IsOfStore}
use Rattle.store_documents.specs.Bodies.{AnswersChanged, IsUnwritten}

is_one : (x k : ErrorKind) → k ≡ x → IsOfStore x → IsOfStore k
is_one x k same of = subst IsOfStore (sym same) of

told_so : (x k : ErrorKind) → ◌≡◌ {A = Result Data ErrorKind} (Err x) (Err k) → IsOfStore x → IsOfStore k
told_so x k e of = let same : k ≡ x = cc in is_one x k same of

pub tree_kind : (m : Mode) (d : Members) (k : ErrorKind) → json_of m d ≡ Err k → IsOfStore k
tree_kind m d k e = by (has_reserved d) (write m (document d)) e
  where
    by : (b : Bool) (o : Option Data) → cond b (Err kind.ReservedKey) (or_finite o) ≡ Err k → IsOfStore k
    by true o e = told_so kind.ReservedKey k e tt
    by false None e = told_so kind.FiniteDouble k e tt
    by false (Some j) e = absurd cc

pub of_json : (m : Mode) (d : Members) (r : Result Json ErrorKind) → AnswersJson (json_of m d) r → IfErr r IsOfStore
of_json m d (Ok j) h = tt
of_json m d (Err k) (inl h) = tree_kind m d k h
of_json m d (Err k) (inr h) = is_one kind.Memory k h tt

pub of_unwritten : (d : Members) (k : ErrorKind) → IsUnwritten d k → IsOfStore k
of_unwritten d k (inl h) = is_one kind.Nul k h.0 tt
of_unwritten d k (inr (inl h)) = is_one kind.TooLong k h.0 tt
of_unwritten d k (inr (inr h)) = is_one kind.Memory k h tt

unkeepable : (d : Members) (k : ErrorKind) → IsUnkeepable d k → IsOfStore k
unkeepable d kind.TooDeep h = tt
unkeepable d kind.Nul h = tt
unkeepable d kind.TooLong h = tt
unkeepable d _ h = absurd h

pub of_changed : (d : Members) (r : Result (Vec ℕ Global) ErrorKind) → AnswersChanged d r → IfErr r IsOfStore
of_changed d (Ok body) h = tt
of_changed d (Err k) (inl h) = unkeepable d k h
of_changed d (Err k) (inr h) = is_one kind.Memory k h tt
