-- What the statements of `update` and `delete` ask of a collection, each one line.
use Rattle.std.specs.Prelude.{◌≡◌, ℤ, pos, ℕ, Bool, true, false, List, codes, is_some, Option, Some, None}
use Rattle.bson_base.specs.Value.{Members, Value, boolean, look_up, member, no_members, scalar}
use Rattle.bson_bytes.specs.Spells.{Means}
use Rattle.bson_model.specs.declared.extjson.ser.Mode.TheVariants.{Canonical}
use Rattle.fallowtime_words.specs.declared.command.Command.TheVariants as command
use Rattle.store_question_read.specs.Query.{begins_with_dollar}
use Rattle.fallowtime_statements.specs.Fields.{AreAllowed, first_key}
use Rattle.fallowtime_statements.specs.Lines.{IsLine, IsThere, IsTruth, IsWhole, line_of_four, line_of_three}
use Rattle.fallowtime_statements.specs.declared.statement.Statement.{Statement}
use Rattle.fallowtime_statements.specs.declared.name.Name.TheVariants as name

-- ---- options of lines

abbrev pub upsert_option : Bool → Members
upsert_option upsert = member (codes "upsert") (scalar (boolean upsert)) no_members

abbrev pub change_options : Bool → Bool → Members
change_options many upsert = member (codes "many") (scalar (boolean many)) (upsert_option upsert)

abbrev pub many_option : Bool → Members
many_option many = member (codes "many") (scalar (boolean many)) no_members

-- ---- `update`

abbrev pub is_operator : Option (List ℕ) → Bool
is_operator None = false
is_operator (Some k) = begins_with_dollar k

-- what becomes of documents is an update in operators; else it is a document
abbrev pub is_update : Members → Bool
is_update u = is_operator (first_key u)

-- an update is `["update", NAME, Q, U, {"many": M, "upsert": P}]`, a replacement, which is of one document, `["replace-one", NAME, Q, U, {"upsert": P}]`
abbrev pub ChangesBy : Bool → List ℕ → Members → Members → Bool → Bool → Statement → Type 0
ChangesBy true n q u many upsert s = IsLine Canonical command.Update (line_of_four n q u (change_options many upsert)) s
ChangesBy false n q u many upsert s = (many ≡ false) × IsLine Canonical command.ReplaceOne (line_of_four n q u (upsert_option upsert)) s

-- `{q: Q, u: U, multi: M, upsert: P}`
abbrev pub IsChange : List ℕ → Members → Statement → Type 0
IsChange n ms s =
    (q u : Members) × (many upsert : Bool) × IsThere (look_up (codes "q") ms) q × IsThere (look_up (codes "u") ms) u
    × IsTruth false (look_up (codes "multi") ms) many × IsTruth false (look_up (codes "upsert") ms) upsert × ChangesBy (is_update u) n q u many upsert s

-- of bytes; no key is one that keeps it from being done
abbrev pub IsChangeOf : List ℕ → List ℕ → Statement → Type 0
IsChangeOf n b s = (ms : Members) × Means b ms × AreAllowed name.Change ms × IsChange n ms s

-- ---- `delete`

-- a limit is there: 0 if all documents are meant that answer, 1 if the first of them is
abbrev pub limit_of : Bool → ℤ
limit_of true = pos 0
limit_of false = pos 1

abbrev pub IsSeveral : Option Value → Bool → Type 0
IsSeveral limit several = (is_some limit ≡ true) × IsWhole limit (limit_of several)

-- `{q: Q, limit: N}` is `["delete", NAME, Q, {"many": M}]`
abbrev pub IsRemoval : List ℕ → Members → Statement → Type 0
IsRemoval n ms s =
    (q : Members) × (several : Bool) × IsThere (look_up (codes "q") ms) q × IsSeveral (look_up (codes "limit") ms) several
    × IsLine Canonical command.Delete (line_of_three n q (many_option several)) s

abbrev pub IsRemovalOf : List ℕ → List ℕ → Statement → Type 0
IsRemovalOf n b s = (ms : Members) × Means b ms × AreAllowed name.Removal ms × IsRemoval n ms s
