-- The words that ask about the program.
use Rattle.std.specs.Prelude.{◌≡◌, ◌⊎◌, ℕ, List, [], ◌∷◌, codes}
use Rattle.fallowtime_words.specs.Commands.{command_name}
use Rattle.fallowtime_words.specs.declared.topic.Topic.{Topic}
use Rattle.fallowtime_words.specs.declared.topic.Topic.TheVariants as topic

abbrev pub IsForHelp : List ℕ → Type 0
IsForHelp word = (word ≡ codes "--help") ⊎ (word ≡ codes "-h") ⊎ (word ≡ codes "help")

-- the words ask for this
abbrev pub IsTopic : List (List ℕ) → Topic → Type 0
IsTopic words topic.Program = (word : List ℕ) × (words ≡ word ∷ []) × IsForHelp word
IsTopic words topic.Version = words ≡ codes "version" ∷ []
IsTopic words topic.Kinds = words ≡ codes "--explain" ∷ []
IsTopic words (topic.Command c) = (word : List ℕ) × IsForHelp word
    × ((words ≡ word ∷ command_name c ∷ []) ⊎ (words ≡ command_name c ∷ word ∷ []))
IsTopic words (topic.Kind kind) = (words ≡ codes "--explain" ∷ kind.now ∷ [])
    ⊎ ((front : List ℕ) × (words ≡ codes "--explain" ∷ front ∷ kind.now ∷ []))
