-- The answer to a message.
use Rattle.std.proofs.Common.{◌≡◌, inl, inr, ℕ, ◌%◌, ◌<◌, List, [], drop, Option, Some, None, Result, Ok, Err, IfOk, Vec, refl, subst}
use Rattle.std.specs.declared.alloc.AllocError.{AllocError}
use Rattle.std.specs.declared.alloc.Global.{Global}
use Rattle.sqlite.specs.State.{State}
use Rattle.bson_base.specs.Value.{Members}
use Rattle.bson_bytes.specs.Encode.{encode}
use Rattle.bson_bytes.specs.Spells.{Means}
use Rattle.bson_message.specs.Messages.{HasHeader, Says}
use Rattle.bson_message.specs.Parts.{Lists}
use Rattle.bson_message.specs.Replies.{msg_bytes, reply_bytes}
use Rattle.bson_message.specs.Taking.{AreDeclared}
use Rattle.bson_message.specs.declared.fault.Fault.{Fault}
use Rattle.bson_message.specs.declared.message.Body.{Body}
use Rattle.bson_message.specs.declared.message.Body.TheVariants.{Msg, Query}
use Rattle.bson_message.specs.declared.message.Header.{Header}
use Rattle.bson_message.specs.declared.op_msg.OpMsg.{OpMsg}
use Rattle.bson_message.specs.declared.op_query.OpQuery.{OpQuery}
use Rattle.bson_message.specs.declared.section.Sequence.{Sequence}
use Rattle.bson_model.specs.View.{content}
use Rattle.bson_model.specs.declared.document.Document.{Document}
use Rattle.bson_raw.specs.View.{bytes_of}
use Rattle.fallowtime_commands.specs.Deeds.{Deed}
use Rattle.fallowtime_messages.specs.Waiting.{Wait}
use Rattle.fallowtime_messages.specs.Answers as told
use Rattle.fallowtime_messages.specs.Done.{DoesAll}
use Rattle.fallowtime_messages.specs.Outcomes.{Comes, told_by}
use Rattle.fallowtime_messages.specs.Serving.{ComesOfMsg, ComesOfQuery, IsMsgOf, Serves, ServesMsg, damaged}
use Rattle.fallowtime_messages.proofs.DoneLemmas.{none_done}
use Rattle.fallowtime_messages.proofs.OutcomeLemmas.{no_room_too}

-- ---- what comes of an OP_MSG

module _ (db : List ℕ) (m : OpMsg) where
  pub unread : (ws : List Wait) (e : AllocError) (t : State) → DoesAll (ComesOfMsg db m ws ws (told_by (Err e))) t t
  unread ws e t = ([], inl (refl, refl, inr refl), none_done t)

  pub spoilt : (ws : List Wait) (r : Result Document AllocError) (t : State) → IfOk r (λ d. content d ≡ damaged) → DoesAll (ComesOfMsg db m ws ws (told_by r)) t t
  spoilt ws (Ok d) t is = ([], inl (refl, refl, inl is), none_done t)
  spoilt ws (Err e) t is = ([], inl (refl, refl, inr refl), none_done t)

module _ (db : List ℕ) (m : OpMsg) (old new : List Wait) where
  pub answered : (ms : Members) (ss : List Sequence) (r : Result Document AllocError) (t u : State) → Means (bytes_of m.body) ms → Lists m ss → DoesAll (Comes db ms ss old new (told_by r)) t u → DoesAll (ComesOfMsg db m old new (told_by r)) t u
  answered ms ss r t u means lists (ds, comes, moves) = (ds, inr (ms, ss, means, lists, comes), moves)

  no_room_of : (answer : Members) (ds : List Deed) → ComesOfMsg db m old new answer ds → ComesOfMsg db m old new told.no_room ds
  no_room_of answer ds (inl h) = inl (h.0, h.1, inr refl)
  no_room_of answer ds (inr (ms, ss, means, lists, comes)) = inr (ms, ss, means, lists, no_room_too db ms ss old new answer ds comes)

  -- ---- what is sent

  module _ (number request : ℕ) where
    pub no_memory : (e : AllocError) (t : State) → new ≡ old → DoesAll (ServesMsg db number request m old new (Err e)) t t
    no_memory e t same = ([], (refl, same), none_done t)

    pub silent : (r : Result Document AllocError) (t u : State) → (m.flags % 4 < 2 → ⊥) → DoesAll (ComesOfMsg db m old new (told_by r)) t u → DoesAll (ServesMsg db number request m old new (Ok None)) t u
    silent r t u none (ds, comes, moves) = (ds, (told_by r, none, comes), moves)

    pub sent : (r : Result Document AllocError) (out : Vec ℕ Global) (t u : State) → IsMsgOf number request (told_by r) out.items → DoesAll (ComesOfMsg db m old new (told_by r)) t u → DoesAll (ServesMsg db number request m old new (Ok (Some out))) t u
    sent r out t u (inl e) (ds, comes, moves) = (ds, (told_by r, e, comes), moves)
    sent r out t u (inr e) (ds, comes, moves) = (ds, (told.no_room, e, no_room_of (told_by r) ds comes), moves)

-- ---- what is sent for bytes

module _ (db : List ℕ) (number : ℕ) (bytes : List ℕ) (old new : List Wait) where
  pub no_message : (t : State) → new ≡ old → (AreDeclared bytes → ⊥) → DoesAll (Serves db number bytes old new (Ok None)) t t
  no_message t same none = ([], inl (refl, same, none), none_done t)

  module _ (h : Header) (has : HasHeader bytes h) where
    of_msg : (m : OpMsg) (r : Result (Option (Vec ℕ Global)) AllocError) (ds : List Deed) → Says bytes h.operation (drop 16 bytes) (Ok (Msg m)) → ServesMsg db number h.request m old new r ds → Serves db number bytes old new r ds
    of_msg m (Err e) ds says none = none
    of_msg m (Ok None) ds says (answer, none, comes) = inr (h, Ok (Msg m), answer, has, says, none, comes)
    of_msg m (Ok (Some out)) ds says (answer, is, comes) = (h, Ok (Msg m), answer, has, says, is, comes)

    pub msg_served : (said : Result Body Fault) (m : OpMsg) (r : Result (Option (Vec ℕ Global)) AllocError) (t u : State) → said ≡ Ok (Msg m) → Says bytes h.operation (drop 16 bytes) said → DoesAll (ServesMsg db number h.request m old new r) t u → DoesAll (Serves db number bytes old new r) t u
    msg_served said m r t u is says (ds, serves, moves) = (ds, of_msg m r ds (subst (λ x. Says bytes h.operation (drop 16 bytes) x) is says) serves, moves)

    pub query_served : (said : Result Body Fault) (q : OpQuery) (out : Vec ℕ Global) (t : State) → new ≡ old → said ≡ Ok (Query q) → Says bytes h.operation (drop 16 bytes) said
        → (answer : Members) × (out.items ≡ reply_bytes number h.request (encode answer)) × ComesOfQuery q answer → DoesAll (Serves db number bytes old new (Ok (Some out))) t t
    query_served said q out t same is says (answer, sends, comes) = ([], (h, Ok (Query q), answer, has, subst (λ x. Says bytes h.operation (drop 16 bytes) x) is says, sends, (refl, same, comes)), none_done t)

    pub fault_served : (said : Result Body Fault) (e : Fault) (out : Vec ℕ Global) (t : State) → new ≡ old → said ≡ Err e → Says bytes h.operation (drop 16 bytes) said → out.items ≡ msg_bytes number h.request (encode damaged) → DoesAll (Serves db number bytes old new (Ok (Some out))) t t
    fault_served said e out t same is says sends = ([], (h, Err e, damaged, has, subst (λ x. Says bytes h.operation (drop 16 bytes) x) is says, sends, (refl, same, inl refl)), none_done t)

  pub nothing_served : (e : AllocError) (t : State) → new ≡ old → DoesAll (Serves db number bytes old new (Err e)) t t
  nothing_served e t same = ([], (refl, same), none_done t)
