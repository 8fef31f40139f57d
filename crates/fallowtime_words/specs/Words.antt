-- The words after the program's name, and what they ask for.
use Rattle.std.specs.Prelude.{◌≡◌, ℕ, Bool, List, [], ◌∷◌, ◌++◌, codes, map, string_bytes, length, if◌then◌else◌, ◌==◌, Option, Some, None, option_and_then, option_map}
use Rattle.fallowtime_words.specs.Commands.{arguments, command_name, AreWords, BeginsWith}
use Rattle.fallowtime_words.specs.Options.{AreOptions, IsOfSession, Takes}
use Rattle.fallowtime_words.specs.declared.command.Command.{Command}
use Rattle.fallowtime_words.specs.declared.options.Options.{Options}
use Rattle.fallowtime_words.specs.declared.words.Task.{Task}
use Rattle.fallowtime_words.specs.declared.words.Task.TheVariants as task
use Rattle.fallowtime_words.specs.declared.words.Words.{Words as Wording}

-- a command, or a session, over a file: of lines, or of MongoDB's messages
pub data Asked : Type 0 where
  line : (file : List ℕ) (command : Command) (words : List (List ℕ)) (options : Options) → Asked
  session : (file : List ℕ) (messages : Bool) (seconds : Option ℕ) → Asked

abbrev pub asked_of : Task → Asked
asked_of (task.Command w) = line w.file.now w.command (map string_bytes w.arguments.now) w.options
asked_of (task.Session file messages seconds) = session file.now messages seconds

-- the file of a store; one that begins with a hyphen is written ./-
abbrev pub IsFile : List ℕ → Type 0
IsFile word = ¬ BeginsWith (codes "-") word

-- after the command: the words of its arguments, and then the options
abbrev pub HasRest : Command → List (List ℕ) → List (List ℕ) → Options → Type 0
HasRest command words taken o = (given : List (List ℕ)) × (words ≡ taken ++ given) × AreWords (arguments command) taken × AreOptions given o × Takes command o

-- the word with n words behind it
abbrev pub word_before : ℕ → List (List ℕ) → Option (List ℕ)
word_before n [] = None
word_before n (w ∷ ws) = if length ws == n then Some w else word_before n ws

-- the text of an option among the words behind a command, by how many words are behind it
abbrev pub text_of : List (List ℕ) → Option ℕ → Option (List ℕ)
text_of words behind = option_and_then (λ n. word_before n words) behind

-- the texts of `--sort`, `--fields` and `--without` are those among the words behind the command
pub record HasTexts (words : List (List ℕ)) (w : Wording) : Type 0 where
  pub sort : option_map (λ t. t.now) w.sort ≡ text_of words w.options.sort
  pub fields : option_map (λ t. t.now) w.fields ≡ text_of words w.options.fields
  pub without : option_map (λ t. t.now) w.without ≡ text_of words w.options.without

-- these texts are given with the task
abbrev pub IsTold : List (List ℕ) → Task → Type 0
IsTold words (task.Command w) = (behind : List (List ℕ)) × (words ≡ w.file.now ∷ command_name w.command ∷ behind) × HasTexts behind w
IsTold words (task.Session file messages seconds) = Unit {0}

-- no options but these: whether messages are answered, and for how many seconds a file is waited for
abbrev pub AreOfSession : List (List ℕ) → Bool → Option ℕ → Type 0
AreOfSession words messages seconds = (o : Options) × AreOptions words o × IsOfSession o × (o.messages ≡ messages) × (o.seconds ≡ seconds)

-- the words ask for this
abbrev pub IsTask : List (List ℕ) → Asked → Type 0
IsTask words (line file command taken o) = IsFile file × ((behind : List (List ℕ)) × (words ≡ file ∷ command_name command ∷ behind) × HasRest command behind taken o)
IsTask words (session file messages seconds) = IsFile file × ((given : List (List ℕ)) × (words ≡ file ∷ given) × AreOfSession given messages seconds)
