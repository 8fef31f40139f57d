-- What `find` returns of documents, as words and as JSON say it: their order, which part of them, and which fields; and so
-- of the one that is found and changed. What the values of a line ask for, with such options and those of changes by query.
use Rattle.std.specs.Prelude.{◌≡◌, ◌⊎◌, ℕ, List, [], ◌∷◌, codes, Bool, true, false, ◌&&◌, ◌||◌, if◌then◌else◌, Option, Some, None, Result, Ok, Err, unwrap_or, option_map}
use Rattle.std.specs.Borrow.{Bor}
use Rattle.std.specs.Str.{bytes_eq}
use Rattle.bson_base.specs.Value.{Members as Document}
use Rattle.json.specs.Json.{Json, Items, no_items, item, Members, no_members, member}
use Rattle.json.specs.Json as json
use Rattle.cli_convert.specs.declared.made.IdMaker.{IdMaker}
use Rattle.fallowtime_words.specs.Commands.{allowed}
use Rattle.fallowtime_words.specs.declared.command.Command.{Command}
use Rattle.fallowtime_words.specs.declared.command.Command.TheVariants as command
use Rattle.store_pipeline.specs.Bodies.{keys_of}
use Rattle.store_pipeline.specs.Order.{Key}
use Rattle.store_pipeline.specs.Texts.{ReadsKeys}
use Rattle.store_pipeline.specs.declared.sorted.arrangement.Arrangement.{Arrangement}
use Rattle.fallowtime_words.specs.declared.words.Words.{Words as Wording}
use Rattle.fallowtime_requests.specs.Fields.{CanName, IsOfTexts, Marked, TextsNameNone, left_by, left_where, marked_under, paths_given}
use Rattle.fallowtime_requests.specs.Along.{AlongUnless, StopsUnless, literal_in}
use Rattle.fallowtime_requests.specs.Inputs.{Given, boolean_of, flag_of, tree, trees}
use Rattle.fallowtime_requests.specs.Orders.{IsCount, keys_under}
use Rattle.fallowtime_requests.specs.Plain.{are_plainly, have_plain_paths}
use Rattle.fallowtime_requests.specs.Reading.{Reads}
use Rattle.fallowtime_requests.specs.Requests.{Asks, with_counts, with_drops, with_existing, with_many}
use Rattle.fallowtime_requests.specs.Upserts.{StopsFixed, UpsertingIf, choice_of, names_upsert}
use Rattle.fallowtime_requests.specs.declared.choosing.Choice.{Choice}
use Rattle.fallowtime_requests.specs.declared.reading.Layout.{Layout}
use Rattle.fallowtime_requests.specs.declared.reading.Question.{Question}
use Rattle.fallowtime_requests.specs.declared.request.Existing.{Existing}
use Rattle.fallowtime_requests.specs.declared.request.Existing.TheVariants as existing
use Rattle.fallowtime_requests.specs.declared.request.Part.{Part}
use Rattle.fallowtime_requests.specs.declared.request.Request.{Request}
use Rattle.fallowtime_requests.specs.declared.request.Request.TheVariants as request
use Rattle.fallowtime_requests.specs.declared.request.Wanted.{Wanted}
use Rattle.fallowtime_requests.specs.declared.stop.Stop.{Stop}
use Rattle.fallowtime_requests.specs.declared.stop.Stop.TheVariants.{Words, Memory}
use Rattle.fallowtime_requests.specs.declared.unread.Unread.TheVariants as unread

-- the keys of the order, how many are passed over, how many there are at most, what is left of each, and whether one that
-- is changed is returned as it is afterwards
pub record Plan : Type 0 where
  pub keys : List Key
  pub skip : ℕ
  pub limit : Option ℕ
  pub left : Document → Document
  pub after : Bool

abbrev pub plan_of : Wanted → Plan
plan_of w = record { keys = keys_of w.arrangement.keys.items; skip = w.arrangement.skip; limit = w.arrangement.limit; left = λ d. left_by w.fields d; after = w.after }

-- all, as they come, each whole
abbrev pub whole : Plan
whole = record { keys = []; skip = 0; limit = None; left = λ d. d; after = false }

-- which part of the documents is wanted
abbrev pub part_of : Wanted → Part
part_of w = record { skip = w.arrangement.skip; limit = w.arrangement.limit }

-- the request, with what is wanted if it finds documents, or one that it changes, or counts them
abbrev pub with_wanted : Wanted → Request → Request
with_wanted w (request.Find q was) = request.Find q w
with_wanted w (request.FindAndChange q was work) = request.FindAndChange q w work
with_wanted w (request.Count q was) = request.Count q (part_of w)
with_wanted w r = r

-- ---- words

abbrev pub ReadsSort : Option (List ℕ) → List Key → Type 0
ReadsSort None ks = ks ≡ []
ReadsSort (Some text) ks = ReadsKeys text ks

-- the text of `--sort` and the numbers of `--skip` and `--limit`
abbrev pub IsOfNumbers : Option (List ℕ) → Option ℕ → Option ℕ → Arrangement → Type 0
IsOfNumbers sort skip limit a = ReadsSort sort (keys_of a.keys.items) × (a.skip ≡ unwrap_or skip 0) × (a.limit ≡ limit)

abbrev pub text_in : Option (Bor (List ℕ)) → Option (List ℕ)
text_in t = option_map (λ (b : Bor (List ℕ)). b.now) t

-- what the options of a line want
abbrev pub IsOfOptions : Wording → Wanted → Type 0
IsOfOptions w a = IsOfNumbers (text_in w.sort) w.options.skip w.options.limit a.arrangement × IsOfTexts (text_in w.fields) (text_in w.without) a.fields × (a.after ≡ w.options.after)

-- and their paths are plain
abbrev pub IsOfWords : Wording → Wanted → Type 0
IsOfWords w a = IsOfOptions w a × (are_plainly (keys_of a.arrangement.keys.items) ≡ true) × (have_plain_paths (text_in w.fields) (text_in w.without) ≡ true)

-- the line says it to the request
abbrev pub WantsByWords : Wording → Request → Request → Type 0
WantsByWords w r q = (a : Wanted) × IsOfWords w a × (q ≡ with_wanted a r)

-- out of memory, or it is reported that the paths of fields can't be read, for they can't name fields, or, if they can, that
-- options can't be read, for one of the paths isn't plain
abbrev pub StopsFields : Option (List ℕ) → Option (List ℕ) → Stop → Type 0
StopsFields fields without s =
    (s ≡ Memory) ⊎ (TextsNameNone fields without × (s ≡ Words unread.Fields)) ⊎ (CanName (paths_given fields) (paths_given without) × (have_plain_paths fields without ≡ false) × (s ≡ Words unread.Options))

-- each path of the order is plain, or one isn't
abbrev pub SortsPlainly : Bool → Option (List ℕ) → Type 0
SortsPlainly is sort = (ks : List Key) × ReadsSort sort ks × (are_plainly ks ≡ is)

abbrev pub StopsSort : Option (List ℕ) → Stop → Type 0
StopsSort sort s = (s ≡ Memory) ⊎ (SortsPlainly false sort × (s ≡ Words unread.Options))

-- the order can't be read, or, if it can, the fields
abbrev pub StopsWanted : Wording → Stop → Type 0
StopsWanted w s = StopsSort (text_in w.sort) s ⊎ (SortsPlainly true (text_in w.sort) × StopsFields (text_in w.fields) (text_in w.without) s)

-- ---- JSON

-- whether a document is returned as it is after the change, of a command that changes it
abbrev pub after_in : Bool → Json → Option Bool
after_in changes j = if changes then boolean_of j else None

-- one of the options
abbrev pub PutsOption : Bool → Plan → List ℕ → Json → Plan → Type 0
PutsOption changes p name j q =
    ((name ≡ codes "sort") × ((ks : List Key) × (keys_under j ≡ Some ks) × (q ≡ record p { keys = ks })))
    ⊎ ((name ≡ codes "skip") × ((n : ℕ) × IsCount j n × (q ≡ record p { skip = n })))
    ⊎ ((name ≡ codes "limit") × ((n : ℕ) × IsCount j n × (q ≡ record p { limit = Some n })))
    ⊎ ((name ≡ codes "fields") × ((m : Marked) × (marked_under j ≡ Some m) × CanName m.kept m.left_out × (q ≡ record p { left = λ d. left_where m.kept m.left_out d })))
    ⊎ ((name ≡ codes "after") × ((after : Bool) × (after_in changes j ≡ Some after) × (q ≡ record p { after = after })))

-- one after the other; a line has no key of an object twice
abbrev pub PutsOptions : Bool → Plan → Members → Plan → Type 0
PutsOptions changes p no_members q = q ≡ p
PutsOptions changes p (member name j ms) q = (mid : Plan) × PutsOption changes p name j mid × PutsOptions changes mid ms q

abbrev pub IsPlan : Bool → Json → Plan → Type 0
IsPlan changes (json.object ms) q = PutsOptions changes whole ms q
IsPlan changes j q = ⊥

-- out of memory, or it is reported that options can't be read, for a reason
abbrev pub StopsOptions : Type 0 → Stop → Type 0
StopsOptions Fault s = (s ≡ Memory) ⊎ (Fault × (s ≡ Words unread.Options))

-- the commands that find documents, and have options
abbrev pub FindsDocuments : Command → Type 0
FindsDocuments command.Find = Unit {0}
FindsDocuments command.FindAndUpdate = Unit {0}
FindsDocuments command.FindAndReplace = Unit {0}
FindsDocuments command.FindAndDelete = Unit {0}
FindsDocuments _ = ⊥

-- the request that a command makes of its arguments, with what the options say
abbrev pub AsksWanted : IdMaker → IdMaker → Command → Items → Json → List ℕ → Request → Layout → Type 0
AsksWanted m n c js o name q l = (r : Request) × (w : Wanted) × Asks m n c (trees js) name r l × IsPlan (allowed c).after o (plan_of w) × (q ≡ with_wanted w r)

-- or why it makes none
abbrev pub StopsWith : IdMaker → IdMaker → Command → Items → Json → Stop → Type 0
StopsWith m n c js o s = Reads m n c (trees js) (Err s) ⊎ StopsOptions ((p : Plan) → IsPlan (allowed c).after o p → ⊥) s

-- what a command asks for by two values, or by three and options; or why it asks for nothing
abbrev pub AsksTwo : IdMaker → IdMaker → Command → Items → List ℕ → Request → Layout → Type 0
AsksTwo m n c (item a (item b (item o no_items))) name r l = AsksWanted m n c (item a (item b no_items)) o name r l
AsksTwo m n c js name r l = Asks m n c (trees js) name r l

abbrev pub StopsTwo : IdMaker → IdMaker → Command → Items → Stop → Type 0
StopsTwo m n c (item a (item b (item o no_items))) s = StopsWith m n c (item a (item b no_items)) o s
StopsTwo m n c js s = Reads m n c (trees js) (Err s)

abbrev pub ReadsTwo : IdMaker → IdMaker → Command → Items → Result Question Stop → Type 0
ReadsTwo m n c js (Ok q) = AsksTwo m n c js q.collection.now q.request q.layout
ReadsTwo m n c js (Err s) = StopsTwo m n c js s

abbrev pub AsksThree : IdMaker → IdMaker → Command → Items → List ℕ → Request → Layout → Type 0
AsksThree m n c (item a (item b (item d (item o no_items)))) name r l = AsksWanted m n c (item a (item b (item d no_items))) o name r l
AsksThree m n c js name r l = Asks m n c (trees js) name r l

abbrev pub StopsThree : IdMaker → IdMaker → Command → Items → Stop → Type 0
StopsThree m n c (item a (item b (item d (item o no_items)))) s = StopsWith m n c (item a (item b (item d no_items))) o s
StopsThree m n c js s = Reads m n c (trees js) (Err s)

abbrev pub ReadsThree : IdMaker → IdMaker → Command → Items → Result Question Stop → Type 0
ReadsThree m n c js (Ok q) = AsksThree m n c js q.collection.now q.request q.layout
ReadsThree m n c js (Err s) = StopsThree m n c js s

-- one of two
abbrev pub Either : Bool → Type 0 → Type 0 → Type 0
Either true P Q = P
Either false P Q = Q

-- a change by query whose options say whether a document is put in if none answers
abbrev pub AsksChange : Bool → IdMaker → IdMaker → Command → Items → Json → Json → List ℕ → Request → Layout → Type 0
AsksChange several m n c js q o name r l =
    (mid : IdMaker) × (was : Request) × (by : Choice) × Asks m mid c (trees js) name was l × (choice_of several o ≡ Some by) × UpsertingIf by.upsert mid n (tree q) (with_many by.many was) r

-- the command takes no id of the maker
abbrev pub TakesNoId : Command → Type 0
TakesNoId c = (m n : IdMaker) (gs : List Given) (name : List ℕ) (r : Request) (l : Layout) → Asks m n c gs name r l → n ≡ m

-- its arguments can't be read, or its options, or its query's equality fields can't be set beside each other
abbrev pub StopsChange : Bool → IdMaker → IdMaker → Command → Items → Json → Json → Stop → Type 0
StopsChange several m n c js q o s = Reads m n c (trees js) (Err s) ⊎ (((choice_of several o ≡ None) × (s ≡ Words unread.Options)) ⊎ StopsFixed (tree q) s)

-- such options are a fourth value
abbrev pub AsksByOptions : Bool → IdMaker → IdMaker → Command → Items → List ℕ → Request → Layout → Type 0
AsksByOptions several m n c (item a (item q (item u (item o no_items)))) name r l =
    Either (names_upsert o) (AsksChange several m n c (item a (item q (item u no_items))) q o name r l) (Asks m n c (tree a ∷ tree q ∷ tree u ∷ tree o ∷ []) name r l)
AsksByOptions several m n c js name r l = Asks m n c (trees js) name r l

abbrev pub StopsByOptions : Bool → IdMaker → IdMaker → Command → Items → Stop → Type 0
StopsByOptions several m n c (item a (item q (item u (item o no_items)))) s =
    Either (names_upsert o) (StopsChange several m n c (item a (item q (item u no_items))) q o s) (Reads m n c (tree a ∷ tree q ∷ tree u ∷ tree o ∷ []) (Err s))
StopsByOptions several m n c js s = Reads m n c (trees js) (Err s)

abbrev pub ReadsByOptions : Bool → IdMaker → IdMaker → Command → Items → Result Question Stop → Type 0
ReadsByOptions several m n c js (Ok q) = AsksByOptions several m n c js q.collection.now q.request q.layout
ReadsByOptions several m n c js (Err s) = StopsByOptions several m n c js s

-- the options of `distinct`: none, or whether the documents that have a value are counted
abbrev pub counts_of : Json → Option Bool
counts_of o = flag_of (codes "count") o

-- the request that `distinct` makes of a collection, a path and a query, with what the options say
abbrev pub AsksCounted : IdMaker → IdMaker → Items → Json → List ℕ → Request → Layout → Type 0
AsksCounted m n js o name q l = (r : Request) × (counts : Bool) × Asks m n command.Distinct (trees js) name r l × (counts_of o ≡ Some counts) × (q ≡ with_counts counts r)

-- the request that a command makes of its arguments, with what an object of options says
abbrev pub AsksSaid : {A : Type 0} → (Json → A → Type 0) → (A → Request → Request) → IdMaker → IdMaker → Command → Items → Json → List ℕ → Request → Layout → Type 0
AsksSaid {A} Says put m n c js o name q l = (r : Request) × (x : A) × Asks m n c (trees js) name r l × Says o x × (q ≡ put x r)

-- or its arguments can't be read, or its options
abbrev pub StopsSaid : {A : Type 0} → (Json → A → Type 0) → IdMaker → IdMaker → Command → Items → Json → Stop → Type 0
StopsSaid {A} Says m n c js o s = Reads m n c (trees js) (Err s) ⊎ StopsOptions ((x : A) → Says o x → ⊥) s

abbrev pub ReadsSaid : {A : Type 0} → (Json → A → Type 0) → (A → Request → Request) → IdMaker → IdMaker → Command → Items → Json → Result Question Stop → Type 0
ReadsSaid Says put m n c js o (Ok q) = AsksSaid Says put m n c js o q.collection.now q.request q.layout
ReadsSaid Says put m n c js o (Err s) = StopsSaid Says m n c js o s

-- of `rename`, whether what the other collection has is removed
abbrev pub SaysDrops : Json → Bool → Type 0
SaysDrops o drops = flag_of (codes "drop") o ≡ Some drops

-- of `import`, what is done with documents whose id is there
abbrev pub replacing : Bool → Existing
replacing true = existing.Replace
replacing false = existing.Refuse

abbrev pub skipping : Bool → Existing
skipping true = existing.Skip
skipping false = existing.Refuse

abbrev pub existing_by : Option Bool → Option Bool → Option Existing
existing_by (Some upsert) skip = Some (replacing upsert)
existing_by None (Some skip) = Some (skipping skip)
existing_by None None = None

abbrev pub existing_of : Json → Option Existing
existing_of o = existing_by (flag_of (codes "upsert") o) (flag_of (codes "skip-existing") o)

abbrev pub SaysExisting : Json → Existing → Type 0
SaysExisting o e = existing_of o ≡ Some e

-- of `count`, which part is counted: the options are those of `find` that say it
abbrev pub is_bound : List ℕ → Bool
is_bound name = bytes_eq name (codes "skip") || bytes_eq name (codes "limit")

abbrev pub are_bounds : Members → Bool
are_bounds no_members = true
are_bounds (member name j ms) = is_bound name && are_bounds ms

abbrev pub has_bounds : Json → Bool
has_bounds (json.object ms) = are_bounds ms
has_bounds j = false

abbrev pub IsPart : Json → Part → Type 0
IsPart o p = (has_bounds o ≡ true) × ((q : Plan) × IsPlan false o q × (p.skip ≡ q.skip) × (p.limit ≡ q.limit))

abbrev pub with_part : Part → Request → Request
with_part p (request.Count q was) = request.Count q p
with_part p r = r

-- the request that a command with a key makes of its arguments, where a path may stand in the place of the key
abbrev pub AsksKeyed : IdMaker → IdMaker → Command → Items → Option Json → List ℕ → Request → Layout → Type 0
AsksKeyed m n c js o name q l = (was : Request) × (literal : Bool) × Asks m n c (trees js) name was l × (literal_in o ≡ Some literal) × AlongUnless literal was q

-- its arguments can't be read, or its options, or the path isn't one
abbrev pub StopsKeyed : IdMaker → IdMaker → Command → Items → Option Json → Stop → Type 0
StopsKeyed m n c js o s =
    Reads m n c (trees js) (Err s)
    ⊎ (StopsOptions (literal_in o ≡ None) s
    ⊎ ((name : List ℕ) × (was : Request) × (l : Layout) × (literal : Bool) × Asks m n c (trees js) name was l × (literal_in o ≡ Some literal) × StopsUnless literal was s))

-- what a command with the values of a line asks for: those that find documents, and those with a key, have options behind their arguments,
-- a change by query and `distinct` have them as a fourth one, and `count`, `rename` and `import` as a third one
abbrev pub AsksLine : IdMaker → IdMaker → Command → Items → List ℕ → Request → Layout → Type 0
AsksLine m n command.Find js name r l = AsksTwo m n command.Find js name r l
AsksLine m n command.FindAndUpdate js name r l = AsksThree m n command.FindAndUpdate js name r l
AsksLine m n command.FindAndReplace js name r l = AsksThree m n command.FindAndReplace js name r l
AsksLine m n command.FindAndDelete js name r l = AsksTwo m n command.FindAndDelete js name r l
AsksLine m n command.Update js name r l = AsksByOptions true m n command.Update js name r l
AsksLine m n command.ReplaceOne js name r l = AsksByOptions false m n command.ReplaceOne js name r l
AsksLine m n command.Distinct (item c (item p (item q (item o no_items)))) name r l = AsksCounted m n (item c (item p (item q no_items))) o name r l
AsksLine m n command.Count (item c (item q (item o no_items))) name r l = AsksSaid IsPart with_part m n command.Count (item c (item q no_items)) o name r l
AsksLine m n command.Rename (item c (item w (item o no_items))) name r l = AsksSaid SaysDrops with_drops m n command.Rename (item c (item w no_items)) o name r l
AsksLine m n command.Import (item c (item d (item o no_items))) name r l = AsksSaid SaysExisting with_existing m n command.Import (item c (item d no_items)) o name r l
AsksLine m n command.Set (item a (item b (item k (item v (item o no_items))))) name r l = AsksKeyed m n command.Set (item a (item b (item k (item v no_items)))) (Some o) name r l
AsksLine m n command.Set js name r l = AsksKeyed m n command.Set js None name r l
AsksLine m n command.Unset (item a (item b (item k (item o no_items)))) name r l = AsksKeyed m n command.Unset (item a (item b (item k no_items))) (Some o) name r l
AsksLine m n command.Unset js name r l = AsksKeyed m n command.Unset js None name r l
AsksLine m n c js name r l = Asks m n c (trees js) name r l

-- or why it asks for nothing
abbrev pub StopsLine : IdMaker → IdMaker → Command → Items → Stop → Type 0
StopsLine m n command.Find js s = StopsTwo m n command.Find js s
StopsLine m n command.FindAndUpdate js s = StopsThree m n command.FindAndUpdate js s
StopsLine m n command.FindAndReplace js s = StopsThree m n command.FindAndReplace js s
StopsLine m n command.FindAndDelete js s = StopsTwo m n command.FindAndDelete js s
StopsLine m n command.Update js s = StopsByOptions true m n command.Update js s
StopsLine m n command.ReplaceOne js s = StopsByOptions false m n command.ReplaceOne js s
StopsLine m n command.Distinct (item c (item p (item q (item o no_items)))) s = Reads m n command.Distinct (tree c ∷ tree p ∷ tree q ∷ []) (Err s) ⊎ StopsOptions (counts_of o ≡ None) s
StopsLine m n command.Count (item c (item q (item o no_items))) s = StopsSaid IsPart m n command.Count (item c (item q no_items)) o s
StopsLine m n command.Rename (item c (item w (item o no_items))) s = StopsSaid SaysDrops m n command.Rename (item c (item w no_items)) o s
StopsLine m n command.Import (item c (item d (item o no_items))) s = StopsSaid SaysExisting m n command.Import (item c (item d no_items)) o s
StopsLine m n command.Set (item a (item b (item k (item v (item o no_items))))) s = StopsKeyed m n command.Set (item a (item b (item k (item v no_items)))) (Some o) s
StopsLine m n command.Set js s = StopsKeyed m n command.Set js None s
StopsLine m n command.Unset (item a (item b (item k (item o no_items)))) s = StopsKeyed m n command.Unset (item a (item b (item k no_items))) (Some o) s
StopsLine m n command.Unset js s = StopsKeyed m n command.Unset js None s
StopsLine m n c js s = Reads m n c (trees js) (Err s)

abbrev pub ReadsLine : IdMaker → IdMaker → Command → Items → Result Question Stop → Type 0
ReadsLine m n c js (Ok q) = AsksLine m n c js q.collection.now q.request q.layout
ReadsLine m n c js (Err s) = StopsLine m n c js s
