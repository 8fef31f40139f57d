-- An insertion, or a change by query that may insert, that is refused before the store is asked.
use Rattle.std.proofs.Common.{◌≡◌, ◌⊎◌, inl, inr, ℕ, List, None, Err, ap, refl}
use Rattle.sqlite.specs.State.{State}
use Rattle.bson_base.specs.Value.{Members}
use Rattle.bson_model.specs.View.{content}
use Rattle.bson_store.proofs.CrashLemmas.{survives_itself}
use Rattle.bson_store.proofs.MoveLemmas.{rests}
use Rattle.store_model.specs.Refusal.{refusal}
use Rattle.store_model.specs.State.{in_bytes, insert, IsName, refused}
use Rattle.store_model.specs.declared.error.ErrorKind.{ErrorKind}
use Rattle.store_model.specs.declared.error.ErrorKind.TheVariants.{BadName, Memory}
use Rattle.store_question.specs.Reads.{form_of}
use Rattle.store_table.specs.Moves.{Moves}
use Rattle.store_table.specs.declared.fault.Fault.TheVariants as faults
use Rattle.fallowtime_commands.specs.Changing.{IsUnfound}
use Rattle.fallowtime_commands.specs.Left.{LeavesRequest}
use Rattle.fallowtime_commands.specs.Performing.{IsStoppedEarly, Performs}
use Rattle.fallowtime_commands.specs.Upserting.{UpsertsFound}
use Rattle.fallowtime_commands.specs.Storing.{IsUnasked}
use Rattle.fallowtime_requests.specs.declared.request.Otherwise.TheVariants as otherwise
use Rattle.fallowtime_requests.specs.declared.request.Request.{Request}
use Rattle.fallowtime_requests.specs.declared.request.Request.TheVariants as request
use Rattle.fallowtime_commands.proofs.PutLemmas.{stopped}

-- for the name, or for want of memory
abbrev Why : List ℕ → ErrorKind → Type 0
Why n k = ((IsName n → ⊥) × (k ≡ BadName)) ⊎ (IsName n × (k ≡ Memory))

unasked : (n : List ℕ) (d : Members) (k : ErrorKind) → Why n k → IsUnasked n d k
unasked n d k (inl bad) = inl bad
unasked n d k (inr (good, memory)) = inr (good, inr memory)

unfound : (n : List ℕ) (k : ErrorKind) → Why n k → IsUnfound n (Err (refusal k))
unfound n k (inl (bad, is)) = (refusal k, refl, inl (bad, ap refusal is))
unfound n k (inr (good, is)) = (refusal k, refl, inr (faults.Memory, (λ e. cc), ap refusal is))

module _ (n : List ℕ) (s : State) (k : ErrorKind) where
  pub stays : (q : Request) → IsStoppedEarly n q k → Moves s s (Performs n q (Err (refusal k)))
  stays (request.Insert id d) (is, why) = stopped n (content d) s (insert in_bytes) k (unasked n (content d) k why)
  stays (request.Upsert g w many (otherwise.Insert id d)) (is, why) =
      rests s (UpsertsFound n (form_of g) w many (otherwise.Insert id d) (Err (refusal k)) (refused k None)) (λ docs q reads a shown. inl (unfound n k why, refl))
  stays (request.Put d) (is, why) = absurd cc
  stays (request.Replace d) (is, why) = absurd cc
  stays (request.Get id) (is, why) = absurd cc
  stays (request.Set id key v) (is, why) = absurd cc
  stays (request.Unset id key) (is, why) = absurd cc
  stays (request.Alter id steps told) (is, why) = absurd cc
  stays (request.Change g w many) (is, why) = absurd cc
  stays (request.Upsert g w many (otherwise.Refuse e)) (is, why) = absurd cc
  stays (request.Remove id) (is, why) = absurd cc
  stays (request.Find g a) (is, why) = absurd cc
  stays (request.FindAndChange g w k) (is, why) = absurd cc
  stays (request.Count g p) (is, why) = absurd cc
  stays (request.Distinct path g counts) (is, why) = absurd cc
  stays (request.Aggregate g stages) (is, why) = absurd cc
  stays (request.Import stream e) (is, why) = absurd cc
  stays (request.Transfer how) (is, why) = absurd cc
  stays (request.Index path) (is, why) = absurd cc
  stays (request.DropIndex path) (is, why) = absurd cc
  stays request.Collections (is, why) = absurd cc
  stays request.Check (is, why) = absurd cc

  pub leaves : (q : Request) → IsStoppedEarly n q k → LeavesRequest n q (refused k None) s s
  leaves (request.Insert id d) (is, why) = inl ((k, unasked n (content d) k why, refl), survives_itself s)
  leaves (request.Upsert g w many (otherwise.Insert id d)) (is, why) = λ clean first docs beside stands a shown db may q reads. inl (tt, may)
  leaves (request.Put d) (is, why) = absurd cc
  leaves (request.Replace d) (is, why) = absurd cc
  leaves (request.Get id) (is, why) = absurd cc
  leaves (request.Set id key v) (is, why) = absurd cc
  leaves (request.Unset id key) (is, why) = absurd cc
  leaves (request.Alter id steps told) (is, why) = absurd cc
  leaves (request.Change g w many) (is, why) = absurd cc
  leaves (request.Upsert g w many (otherwise.Refuse e)) (is, why) = absurd cc
  leaves (request.Remove id) (is, why) = absurd cc
  leaves (request.Find g a) (is, why) = absurd cc
  leaves (request.FindAndChange g w k) (is, why) = absurd cc
  leaves (request.Count g p) (is, why) = absurd cc
  leaves (request.Distinct path g counts) (is, why) = absurd cc
  leaves (request.Aggregate g stages) (is, why) = absurd cc
  leaves (request.Import stream e) (is, why) = absurd cc
  leaves (request.Transfer how) (is, why) = absurd cc
  leaves (request.Index path) (is, why) = absurd cc
  leaves (request.DropIndex path) (is, why) = absurd cc
  leaves request.Collections (is, why) = absurd cc
  leaves request.Check (is, why) = absurd cc
