-- What a command asks, or why it asks nothing.
use Rattle.std.proofs.Common.{◌≡◌, inl, inr, ℕ, List, [], Some, None, Result, Ok, Err, IfOk, MatchResult, sym, ◌∙◌, ap}
use Rattle.bson_base.specs.Value.{Members}
use Rattle.bson_message.specs.declared.section.Sequence.{Sequence}
use Rattle.fallowtime_statements.specs.Faults.{IsAbout}
use Rattle.fallowtime_statements.specs.Fields.{AreAllowed, IsForbidden, first_key, named}
use Rattle.fallowtime_statements.specs.Plans.{Asks, AsksBy, IsRefused}
use Rattle.fallowtime_statements.specs.declared.plans.asked.Plan.{Plan}
use Rattle.fallowtime_statements.specs.declared.fault.Code.TheVariants as code
use Rattle.fallowtime_statements.specs.declared.fault.Fault.{Fault}
use Rattle.fallowtime_statements.specs.declared.fault.Fault.TheVariants.{Memory, Refused}
use Rattle.fallowtime_statements.specs.declared.name.Name.{Name}

module _ (ms : Members) where
  pub no_key : (f : Fault) → None ≡ first_key ms → IsAbout code.CommandNotFound [] f → IsRefused ms f
  no_key Memory none about = inl tt
  no_key (Refused c text) none about = inl (about.0, inl (sym none, about.1))

  module _ (key : List ℕ) (first : Some key ≡ first_key ms) where
    pub no_name : (f : Fault) → None ≡ named key → IsAbout code.CommandNotFound key f → IsRefused ms f
    no_name Memory none about = inl tt
    no_name (Refused c text) none about = inl (about.0, inr (sym first ∙ ap Some (sym about.1), ap named about.1 ∙ sym none))

    module _ (n : Name) (is : Some n ≡ named key) where
      pub not_allowed : (f : Fault) → IsForbidden n ms f → IsRefused ms f
      not_allowed f forbids = inr (key, n, sym first, sym is, inl forbids)

      pub planned : (db : List ℕ) (ss : List Sequence) (r : Result Plan Fault) → AreAllowed n ms → IfOk r (AsksBy n db ms ss) → MatchResult r (Asks db ms ss) (IsRefused ms)
      planned db ss (Ok p) allowed asks = (key, n, sym first, sym is, allowed, asks)
      planned db ss (Err f) allowed asks = inr (key, n, sym first, sym is, inr allowed)
