-- The answer to a message.
use Rattle.std.specs.Prelude.{◌≡◌, ◌⊎◌, ℕ, ◌%◌, ◌<◌, List, [], codes, drop, Option, Some, None, Result, Ok, Err, Vec}
use Rattle.std.specs.declared.alloc.AllocError.{AllocError}
use Rattle.std.specs.declared.alloc.Global.{Global}
use Rattle.bson_base.specs.Value.{Members}
use Rattle.bson_bytes.specs.Encode.{encode}
use Rattle.bson_bytes.specs.Spells.{Means}
use Rattle.bson_message.specs.Messages.{HasHeader, Says}
use Rattle.bson_message.specs.Parts.{Lists}
use Rattle.bson_message.specs.Replies.{msg_bytes, reply_bytes}
use Rattle.bson_message.specs.Taking.{AreDeclared}
use Rattle.bson_message.specs.declared.fault.Fault.{Fault}
use Rattle.bson_message.specs.declared.message.Body.{Body}
use Rattle.bson_message.specs.declared.message.Body.TheVariants.{Msg, Query}
use Rattle.bson_message.specs.declared.message.Header.{Header}
use Rattle.bson_message.specs.declared.op_msg.OpMsg.{OpMsg}
use Rattle.bson_message.specs.declared.op_query.OpQuery.{OpQuery}
use Rattle.bson_message.specs.declared.section.Sequence.{Sequence}
use Rattle.bson_raw.specs.View.{bytes_of}
use Rattle.fallowtime_commands.specs.Deeds.{Deed}
use Rattle.fallowtime_messages.specs.Waiting.{Wait}
use Rattle.fallowtime_messages.specs.Answers as told
use Rattle.fallowtime_statements.specs.Fields.{first_key, named}
use Rattle.fallowtime_messages.specs.Outcomes.{Comes}
use Rattle.fallowtime_statements.specs.Told.{hello}
use Rattle.fallowtime_statements.specs.declared.fault.Code.TheVariants as code
use Rattle.fallowtime_statements.specs.declared.name.Name.TheVariants as name

-- the message, or its document, can't be read
abbrev pub damaged : Members
damaged = told.refused (codes "the message is damaged") code.ProtocolError

-- An OP_MSG: what comes of the command that its document means, with the sequences beside it; if the document can't be read, nothing was
-- done.
abbrev pub ComesOfMsg : List ℕ → OpMsg → List Wait → List Wait → Members → List Deed → Type 0
ComesOfMsg db m old new answer ds = ((ds ≡ []) × (new ≡ old) × ((answer ≡ damaged) ⊎ (answer ≡ told.no_room)))
    ⊎ ((ms : Members) × (ss : List Sequence) × Means (bytes_of m.body) ms × Lists m ss × Comes db ms ss old new answer ds)

-- An OP_QUERY is answered if it asks what the server is, as an older driver does first.
abbrev pub IsGreeting : Members → Type 0
IsGreeting ms = (key : List ℕ) × (first_key ms ≡ Some key) × (named key ≡ Some name.Hello)

abbrev pub ComesOfQuery : OpQuery → Members → Type 0
ComesOfQuery q answer = (answer ≡ damaged) ⊎ (answer ≡ told.no_room) ⊎ ((ms : Members) × Means (bytes_of q.query) ms × IsGreeting ms × (answer ≡ hello))

-- and what waits of finds before and behind it
abbrev pub ComesOf : List ℕ → Result Body Fault → List Wait → List Wait → Members → List Deed → Type 0
ComesOf db (Ok (Msg m)) old new answer ds = ComesOfMsg db m old new answer ds
ComesOf db (Ok (Query q)) old new answer ds = (ds ≡ []) × (new ≡ old) × ComesOfQuery q answer
ComesOf db (Err e) old new answer ds = (ds ≡ []) × (new ≡ old) × ((answer ≡ damaged) ⊎ (answer ≡ told.no_room))

-- the bytes of an answer with a number to a message with another number, in the form of the message
abbrev pub reply_to : Result Body Fault → ℕ → ℕ → Members → List ℕ
reply_to (Ok (Query q)) number request answer = reply_bytes number request (encode answer)
reply_to said number request answer = msg_bytes number request (encode answer)

-- the flag "moreToCome" of an OP_MSG says that it wants no answer
abbrev pub WantsNone : Result Body Fault → Type 0
WantsNone (Ok (Msg m)) = m.flags % 4 < 2 → ⊥
WantsNone said = ⊥

-- What is sent for bytes, and what was done: for those of a message one answer, with the number of that message, unless it wants none;
-- for others nothing. If there is no memory even for the answer that says so, nothing was done.
abbrev pub Serves : List ℕ → ℕ → List ℕ → List Wait → List Wait → Result (Option (Vec ℕ Global)) AllocError → List Deed → Type 0
Serves db number bytes old new (Err e) ds = (ds ≡ []) × (new ≡ old)
Serves db number bytes old new (Ok None) ds = ((ds ≡ []) × (new ≡ old) × (AreDeclared bytes → ⊥))
    ⊎ ((h : Header) × (said : Result Body Fault) × (answer : Members) × HasHeader bytes h × Says bytes h.operation (drop 16 bytes) said × WantsNone said × ComesOf db said old new answer ds)
Serves db number bytes old new (Ok (Some out)) ds = (h : Header) × (said : Result Body Fault) × (answer : Members) × HasHeader bytes h × Says bytes h.operation (drop 16 bytes) said
    × (out.items ≡ reply_to said number h.request answer) × ComesOf db said old new answer ds

-- ---- its parts

-- what is sent for an OP_MSG
abbrev pub ServesMsg : List ℕ → ℕ → ℕ → OpMsg → List Wait → List Wait → Result (Option (Vec ℕ Global)) AllocError → List Deed → Type 0
ServesMsg db number request m old new (Err e) ds = (ds ≡ []) × (new ≡ old)
ServesMsg db number request m old new (Ok None) ds = (answer : Members) × (m.flags % 4 < 2 → ⊥) × ComesOfMsg db m old new answer ds
ServesMsg db number request m old new (Ok (Some out)) ds = (answer : Members) × (out.items ≡ msg_bytes number request (encode answer)) × ComesOfMsg db m old new answer ds

-- the bytes of this answer, or of the one for no room
abbrev pub IsMsgOf : ℕ → ℕ → Members → List ℕ → Type 0
IsMsgOf number request answer out = (out ≡ msg_bytes number request (encode answer)) ⊎ (out ≡ msg_bytes number request (encode told.no_room))
