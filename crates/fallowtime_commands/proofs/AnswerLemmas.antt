-- What comes of a line.
use Rattle.std.proofs.Common.{◌≡◌, ◌<◌, ◌≤◌, ℕ, List, length, inl, inr, Option, None, Some, Result, Ok, Err, IfOk, IsSomeAnd, IsUtf8, codes, Vec, refl, subst, sym}
use Rattle.std.specs.Str.{IsValidUpTo}
use Rattle.std.specs.declared.alloc.AllocError.{AllocError}
use Rattle.std.specs.declared.alloc.Global.{Global}
use Rattle.json.specs.Json.{Items, Json, document as tree_of}
use Rattle.json.specs.Strict.{HasUniqueKeys}
use Rattle.sqlite.specs.State.{State}
use Rattle.store_table.specs.Moves.{Moves, WasOpen}
use Rattle.store_model.specs.declared.error.StoreError.{StoreError}
use Rattle.bson_store.proofs.CrashLemmas.{survives_itself}
use Rattle.bson_store.proofs.MoveLemmas.{rests}
use Rattle.cli_convert.specs.Line.{Keeps, KeepsSo}
use Rattle.cli_convert.specs.declared.line.Kept.TheVariants.{TooLong, Whole}
use Rattle.cli_convert.specs.declared.line.Line.{Line}
use Rattle.cli_convert.specs.declared.line.TheConstants.{MOST}
use Rattle.fallowtime_commands.specs.Left.{LeavesRequest}
use Rattle.fallowtime_commands.specs.Performing.{IsAnswerTo, Performs, reply_of}
use Rattle.fallowtime_commands.specs.declared.answer.Answer.{Answer}
use Rattle.fallowtime_commands.specs.Listing.{AreAnswersTo, LeavesAll, PerformsAll}
use Rattle.fallowtime_commands.specs.declared.session.error.ListError.{ListError}
use Rattle.fallowtime_requests.specs.Reports.{at_text}
use Rattle.cli_convert.specs.declared.made.IdMaker.{IdMaker}
use Rattle.fallowtime_commands.specs.Answers.{Shows, line_of, memory, words}
use Rattle.fallowtime_commands.specs.Acts.{Act, ChangesBy, DoesOne, list, single}
use Rattle.fallowtime_commands.specs.Objects.{Makes, MakesLine}
use Rattle.fallowtime_commands.specs.Places.{byte_place}
use Rattle.fallowtime_commands.specs.Questions.{Asks, command_in, id_of}
use Rattle.fallowtime_commands.specs.ListAnswers.{MakesStop, ShowsAll, words_at}
use Rattle.fallowtime_commands.specs.Lists.{AskAll, IsList, ReadsAll}
use Rattle.fallowtime_commands.specs.declared.session.lists.ListStop.{ListStop}
use Rattle.fallowtime_commands.specs.declared.session.lists.ListStop.TheVariants as list_stop
use Rattle.fallowtime_commands.specs.Turns.{AsksNothing, Carries, CarriesAll, Comes, HasNoTree, HasTree, IsOfBytes, IsOfText, IsOfTree, ListsNothing, Outcome, RepeatsKey, empty, too_long, no_tree, no_question, no_list, done, done_all, no_memory, Writes, deed_by, made_line}
use Rattle.fallowtime_requests.specs.declared.reading.Question.{Question}

abbrev pub Made : Type 0
Made = Result (Vec ℕ Global) AllocError

-- the line for a text that is no JSON
pub byte_line : (i : ℕ) (r : Made) → MakesLine None (words (byte_place i)) r → Makes (λ line. (x : ℕ) × (line ≡ line_of None (words (byte_place x)))) r
byte_line i (Ok line) made = (i, made)
byte_line i (Err e) made = made

-- nothing was done
pub idle : (s : State) (Is : Act → Type 0) → Is (single None) → DoesOne Is s s
idle s Is h = (single None, h, record { moves = rests s (ChangesBy (single None)) (λ docs. refl); stays = tt; crash = survives_itself s })

module _ (s t : State) where
  pub so : (P Q : Act → Type 0) → ((act : Act) → P act → Q act) → DoesOne P s t → DoesOne Q s t
  so P Q f (act, h, did) = (act, f act h, did)

  -- a question was done
  pub carried : (id : Option Json) (q : Question) (r : Result Answer StoreError) (made : Made) → Moves s t (Performs q.collection.now q.request r) → WasOpen s t r → LeavesRequest q.collection.now q.request (reply_of r) s t → IfOk r (IsAnswerTo q.request)
      → Makes (Shows q.layout id r) made → Carries id q made s t
  carried id q r made moves stays crash shape shows = (r, record { moves = moves; stays = stays; crash = crash }, shape, shows)

  -- and so was what asked for it
  pub replied : (m n : IdMaker) (id : Option Json) (command : Json) (q : Question) (made : Made) → Asks m n command q.collection.now q.request q.layout → Carries id q made s t → DoesOne (Comes (IsOfTree m n id command) (made_line id made)) s t
  replied m n id command q made asks (r, did, shape, shows) = (single (Some (deed_by q r)), (done id q.layout (deed_by q r), (refl, asks, shape), by made shows, refl), did)
    where
      by : (made : Made) → Makes (Shows q.layout id r) made → Writes (done id q.layout (deed_by q r)) (made_line id made)
      by (Ok line) shows = inl shows
      by (Err e) shows = inr refl

  -- the questions of a list were done
  pub carried_all : (id : Option Json) (qs : List Question) (r : Result (Vec Answer Global) ListError) (made : Made) → Moves s t (PerformsAll qs r) → WasOpen s t r → LeavesAll qs r s t → IfOk r (λ (answers : Vec Answer Global). AreAnswersTo qs answers.items)
      → Makes (ShowsAll id r) made → CarriesAll id qs made s t
  carried_all id qs r made moves stays crash shape shows = (r, record { moves = moves; stays = stays; crash = crash }, shape, shows)

  -- and so was the list
  pub replied_all : (m n : IdMaker) (id : Option Json) (command : Json) (js : Items) (qs : List Question) (made : Made) → IsList command js → AskAll m n js qs → CarriesAll id qs made s t → DoesOne (Comes (IsOfTree m n id command) (made_line id made)) s t
  replied_all m n id command js qs made is asks (r, did, shape, shows) = (list qs r, (done_all id qs r, (refl, (js, is, asks), shape), by made shows, refl), did)
    where
      by : (made : Made) → Makes (ShowsAll id r) made → Writes (done_all id qs r) (made_line id made)
      by (Ok line) shows = inl shows
      by (Err e) shows = inr refl

  -- the answer to the tree of a line
  pub answered : (m n : IdMaker) (id : Option Json) (command j : Json) (made line : List ℕ) → id ≡ id_of j → command ≡ command_in j → made ≡ line → DoesOne (Comes (IsOfTree m n id command) made) s t
      → DoesOne (Comes (IsOfTree m n (id_of j) (command_in j)) line) s t
  answered m n id command j made line same does is h =
      subst (λ i. DoesOne (Comes (IsOfTree m n i (command_in j)) line) s t) same
      (subst (λ c. DoesOne (Comes (IsOfTree m n id c) line) s t) does (subst (λ l. DoesOne (Comes (IsOfTree m n id command) l) s t) is h))

  -- and to its text
  pub of_text : (m n : IdMaker) (text line : List ℕ) (j : Json) → HasTree text j → DoesOne (Comes (IsOfTree m n (id_of j) (command_in j)) line) s t → DoesOne (Comes (IsOfText m n text) line) s t
  of_text m n text line j tree h =
      so (Comes (IsOfTree m n (id_of j) (command_in j)) line) (Comes (IsOfText m n text) line) (λ act (o, is, writes, e). (o, by o is, writes, e)) h
    where
      by : (o : Outcome) → IsOfTree m n (id_of j) (command_in j) o → IsOfText m n text o
      by empty is = absurd is
      by too_long is = absurd is
      by (no_tree id place) is = absurd is
      by (no_question id place) is = (j, tree, is)
      by (no_list id i place) is = (j, tree, is)
      by (done id l d) is = (j, tree, is)
      by (done_all id qs r) is = (j, tree, is)
      by (no_memory None) is = is.1
      by (no_memory (Some i)) is = (j, tree, is)

-- it is no question, and nothing was done
pub unasked : (s : State) (m : IdMaker) (id : Option Json) (command : Json) (place : List ℕ) (made : Made) → AsksNothing m command place → MakesLine id (words place) made → DoesOne (Comes (IsOfTree m m id command) (made_line id made)) s s
unasked s m id command place made asks line = idle s (Comes (IsOfTree m m id command) (made_line id made)) (by made line)
  where
    by : (made : Made) → MakesLine id (words place) made → Comes (IsOfTree m m id command) (made_line id made) (single None)
    by (Ok l) is = (no_question id place, (refl, asks, refl), is, refl)
    by (Err e) is = (no_memory id, (inr refl, refl), refl, refl)

-- it is a list of which a request is no question, and nothing was done
pub unlisted : (s : State) (m : IdMaker) (id : Option Json) (command : Json) (i : ℕ) (place : List ℕ) (made : Made) → ListsNothing m command i place → MakesLine id (words_at i place) made → DoesOne (Comes (IsOfTree m m id command) (made_line id made)) s s
unlisted s m id command i place made lists line = idle s (Comes (IsOfTree m m id command) (made_line id made)) (by made line)
  where
    by : (made : Made) → MakesLine id (words_at i place) made → Comes (IsOfTree m m id command) (made_line id made) (single None)
    by (Ok l) is = (no_list id i place, (refl, lists, refl), is, refl)
    by (Err e) is = (no_memory id, (inr refl, refl), refl, refl)

-- memory ran out first
pub nothing_done : (s : State) (m : IdMaker) (id : Option Json) (command : Json) (e : AllocError) → DoesOne (Comes (IsOfTree m m id command) (made_line id (Err e))) s s
nothing_done s m id command e = idle s (Comes (IsOfTree m m id command) (line_of id memory)) (no_memory id, (inr refl, refl), refl, refl)

pub nothing_read : (s : State) (m : IdMaker) (id : Option Json) (command : Json) → DoesOne (Comes (IsOfTree m m id command) (line_of None memory)) s s
nothing_read s m id command = idle s (Comes (IsOfTree m m id command) (line_of None memory)) (no_memory None, (inl refl, refl), refl, refl)

pub no_room : (s : State) (m : IdMaker) (text : List ℕ) → DoesOne (Comes (IsOfText m m text) (line_of None memory)) s s
no_room s m text = idle s (Comes (IsOfText m m text) (line_of None memory)) (no_memory None, refl, refl, refl)

-- so of a list that isn't read
pub list_stops : (s : State) (m n : IdMaker) (id : Option Json) (command : Json) (js : Items) (stop : ListStop) (made : Made) → IsList command js → ReadsAll m n js (Err stop) → MakesStop id stop made → DoesOne (Comes (IsOfTree m m id command) (made_line id made)) s s
list_stops s m n id command js (list_stop.Request i u) made is first line = unlisted s m id command i (at_text u) made (js, u, is, first, refl) line
list_stops s m n id command js list_stop.Memory made is h (e, none) = subst (λ r. DoesOne (Comes (IsOfTree m m id command) (made_line id r)) s s) (sym none) (nothing_done s m id command e)

-- a line that has no tree
pub treeless : (s : State) (m : IdMaker) (text place : List ℕ) (made : Made) → HasNoTree text None place → MakesLine None (words place) made → DoesOne (Comes (IsOfText m m text) (made_line None made)) s s
treeless s m text place made none line = idle s (Comes (IsOfText m m text) (made_line None made)) (by made line)
  where
    by : (made : Made) → MakesLine None (words place) made → Comes (IsOfText m m text) (made_line None made) (single None)
    by (Ok l) is = (no_tree None place, (none, refl), is, refl)
    by (Err e) is = (no_memory None, refl, refl, refl)

-- as it is no UTF-8
pub no_text : (s : State) (m : IdMaker) (text : List ℕ) (i : ℕ) → IsValidUpTo text i → (made : Made) → MakesLine None (words (byte_place i)) made → DoesOne (Comes (IsOfText m m text) (made_line None made)) s s
no_text s m text i broken made line = treeless s m text (byte_place i) made (inl (i, broken, refl, refl)) line

-- or no JSON
pub no_json : (s : State) (m : IdMaker) (text : List ℕ) (made : Made) → IsUtf8 text → tree_of text ≡ None → Makes (λ line. (i : ℕ) × (line ≡ line_of None (words (byte_place i)))) made → DoesOne (Comes (IsOfText m m text) (made_line None made)) s s
no_json s m text made is none line = idle s (Comes (IsOfText m m text) (made_line None made)) (by made line)
  where
    by : (made : Made) → Makes (λ line. (i : ℕ) × (line ≡ line_of None (words (byte_place i)))) made → Comes (IsOfText m m text) (made_line None made) (single None)
    by (Ok l) (i, e) = (no_tree None (byte_place i), (inr (inl (is, none, (i, refl, refl))), refl), e, refl)
    by (Err e) h = (no_memory None, refl, refl, refl)

-- the line says that a key comes twice, with the id that the text has
pub repeats : (text : List ℕ) (id : Option Json) (j : Json) (r : Made) → IsUtf8 text → tree_of text ≡ Some j → IsSomeAnd (tree_of text) (λ k. HasUniqueKeys k → ⊥) → id ≡ id_of j
    → MakesLine id (words (codes "repeated key")) r → Makes (RepeatsKey text) r
repeats text id j (Err e) utf8 is twice own line = tt
repeats text id j (Ok line) utf8 is twice own made =
    let here : HasUniqueKeys j → ⊥ = subst (λ o. IsSomeAnd o (λ k. HasUniqueKeys k → ⊥)) is twice in
    (id, inr (inr (utf8, subst (λ o. IsSomeAnd o (λ k. (HasUniqueKeys k → ⊥) × (id ≡ id_of k))) (sym is) (here, own), refl)), made)

-- or an object in it has a key twice, and then its answer has the id that can be read
pub repeated : (s : State) (m : IdMaker) (text : List ℕ) (made : Made) → Makes (RepeatsKey text) made → DoesOne (Comes (IsOfText m m text) (made_line None made)) s s
repeated s m text made line = idle s (Comes (IsOfText m m text) (made_line None made)) (by made line)
  where
    by : (made : Made) → Makes (RepeatsKey text) made → Comes (IsOfText m m text) (made_line None made) (single None)
    by (Ok l) (id, none, e) = (no_tree id (codes "repeated key"), (none, refl), e, refl)
    by (Err e) h = (no_memory None, refl, refl, refl)

-- what comes of a line whose bytes were kept
pub kept_whole : (s t : State) (m n : IdMaker) (text line : List ℕ) → length text ≤ MOST → DoesOne (Comes (IsOfText m n text) line) s t → DoesOne (Comes (IsOfBytes m n text) line) s t
kept_whole s t m n text line short h = so s t (Comes (IsOfText m n text) line) (Comes (IsOfBytes m n text) line) (λ act (o, is, writes, e). (o, by o is, writes, e)) h
  where
    by : (o : Outcome) → IsOfText m n text o → IsOfBytes m n text o
    by empty is = (short, is)
    by too_long is = absurd is.2
    by (no_tree id place) is = (short, is)
    by (no_question id place) is = (short, is)
    by (no_list id i place) is = (short, is)
    by (done id l d) is = (short, is)
    by (done_all id qs r) is = (short, is)
    by (no_memory None) is = is
    by (no_memory (Some i)) is = (short, is)

-- and of one that is too long
pub overlong : (s : State) (m : IdMaker) (text : List ℕ) → MOST < length text → (made : Made) → MakesLine None (words (codes "64 MiB")) made → DoesOne (Comes (IsOfBytes m m text) (made_line None made)) s s
overlong s m text long made line = idle s (Comes (IsOfBytes m m text) (made_line None made)) (by made line)
  where
    by : (made : Made) → MakesLine None (words (codes "64 MiB")) made → Comes (IsOfBytes m m text) (made_line None made) (single None)
    by (Ok l) is = (too_long, (long, refl), is, refl)
    by (Err e) is = (no_memory None, refl, refl, refl)

-- and of one for which there was no memory
pub unkept : (s : State) (m : IdMaker) (text : List ℕ) → DoesOne (Comes (IsOfBytes m m text) (line_of None memory)) s s
unkept s m text = idle s (Comes (IsOfBytes m m text) (line_of None memory)) (no_memory None, refl, refl, refl)

-- ---- what is kept of a line

module _ (l : Line) (text : List ℕ) (keeps : Keeps l text) where
  pub whole_is : l.kept ≡ Whole → (l.bytes.items ≡ text) × (length text ≤ MOST)
  whole_is is = subst (λ k. KeepsSo k l.bytes.items text) is keeps

  pub long_is : l.kept ≡ TooLong → MOST < length text
  long_is is = subst (λ k. KeepsSo k l.bytes.items text) is keeps
