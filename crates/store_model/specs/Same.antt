-- When states, commands and replies mean the same.
use Rattle.std.specs.Prelude.{◌≡◌, ◌⊎◌, ℕ, List, [], ◌∷◌, map, Option, Some, None}
use Rattle.std.specs.List.{flat_map}
use Rattle.bson_base.specs.Value.{document}
use Rattle.bson_bytes.specs.Encode.{encode}
use Rattle.bson_meaning.specs.Meaning.{Same, SameOption}
use Rattle.store_model.specs.Filter.{SameFilter}
use Rattle.store_model.specs.Reading.{Documents, Reading, readable, unreadable, AreRead, IsReadingKind}
use Rattle.store_model.specs.State.{State, list_of, Call, insert, replace, set, unset, remove, get_raw, get_json, find, count, project, import, export, dump, Command, on, collections, Reply, done, flag, number, bytes, bytes_list, json, json_list, names, refused}
use Rattle.store_model.specs.declared.error.ErrorKind.{ErrorKind}

-- place by place
abbrev pub SameDocuments : Documents → Documents → Type 0
SameDocuments [] [] = Unit {0}
SameDocuments (d ∷ ds) (e ∷ es) = Same (document d) (document e) × SameDocuments ds es
SameDocuments _ _ = ⊥

-- under each name the same list, empty ones for names that aren't there
abbrev pub SameStates : State → State → Type 0
SameStates s t = (n : List ℕ) → SameDocuments (list_of s n) (list_of t n)

-- ---- commands

abbrev pub SameReading : Reading → Reading → Type 0
SameReading (readable d) (readable e) = Same (document d) (document e)
SameReading (unreadable k) (unreadable l) = Unit {0}
SameReading _ _ = ⊥

-- both or neither end at an unreadable one
abbrev pub SameStop : Option ErrorKind → Option ErrorKind → Type 0
SameStop None None = Unit {0}
SameStop (Some k) (Some l) = Unit {0}
SameStop _ _ = ⊥

abbrev pub SameCall : Call → Call → Type 0
SameCall (insert f a) (insert g b) = SameReading a b
SameCall (replace f a) (replace g b) = SameReading a b
SameCall (set id k a) (set jd l b) = Same id jd × (k ≡ l) × SameOption a b
SameCall (unset id k) (unset jd l) = Same id jd × (k ≡ l)
SameCall (remove id) (remove jd) = Same id jd
SameCall (get_raw id) (get_raw jd) = Same id jd
SameCall (get_json m id) (get_json n jd) = (m ≡ n) × Same id jd
SameCall (find f) (find g) = SameFilter f g
SameCall (count f) (count g) = SameFilter f g
SameCall (project f ks) (project g ls) = SameFilter f g × (ks ≡ ls)
SameCall (import ds a) (import es b) = SameDocuments ds es × SameStop a b
SameCall export export = Unit {0}
SameCall dump dump = Unit {0}
SameCall _ _ = ⊥

abbrev pub SameCommand : Command → Command → Type 0
SameCommand (on n a) (on m b) = (n ≡ m) × SameCall a b
SameCommand collections collections = Unit {0}
SameCommand _ _ = ⊥

abbrev pub SameCommands : List Command → List Command → Type 0
SameCommands [] [] = Unit {0}
SameCommands (c ∷ cs) (d ∷ ds) = SameCommand c d × SameCommands cs ds
SameCommands _ _ = ⊥

-- ---- replies

-- insert, replace, import and load
abbrev pub ReadsDocuments : Command → Type 0
ReadsDocuments (on n (insert f a)) = Unit {0}
ReadsDocuments (on n (replace f a)) = Unit {0}
ReadsDocuments (on n (import ds stop)) = Unit {0}
ReadsDocuments _ = ⊥

-- in a command that reads documents, all kinds for which an input can't be read count as one
abbrev pub SameKind : Command → ErrorKind → ErrorKind → Type 0
SameKind c k l = (k ≡ l) ⊎ (ReadsDocuments c × IsReadingKind k × IsReadingKind l)

-- the replies to the command c, or to one that means the same
abbrev pub SameReply : Command → Reply → Reply → Type 0
SameReply c done done = Unit {0}
SameReply c (flag a) (flag b) = a ≡ b
SameReply c (number m) (number n) = m ≡ n
SameReply c (bytes a) (bytes b) = (ds : Documents) × (es : Documents) × AreRead ds × AreRead es × (a ≡ flat_map encode ds) × (b ≡ flat_map encode es) × SameDocuments ds es
SameReply c (bytes_list a) (bytes_list b) = (ds : Documents) × (es : Documents) × AreRead ds × AreRead es × (a ≡ map encode ds) × (b ≡ map encode es) × SameDocuments ds es
SameReply c (json i) (json j) = i ≡ j
SameReply c (json_list is) (json_list js) = is ≡ js
SameReply c (names a) (names b) = a ≡ b
SameReply c (refused k i) (refused l j) = SameKind c k l × (i ≡ j)
SameReply _ _ _ = ⊥

abbrev pub SameReplies : List Command → List Reply → List Reply → Type 0
SameReplies [] [] [] = Unit {0}
SameReplies (c ∷ cs) (r ∷ rs) (q ∷ qs) = SameReply c r q × SameReplies cs rs qs
SameReplies _ _ _ = ⊥
