-- Which texts stand among bytes.
use Rattle.std.specs.Prelude.{◌≡◌, ◌++◌, ◌∷◌, ℕ, List, Some, length}
use Rattle.bson_base.specs.Tags.{tag_byte}
use Rattle.bson_base.specs.declared.spec.ElementType.{ElementType}
use Rattle.bson_base.specs.Value.{Value}
use Rattle.store_question.specs.Asked.{text_in}

-- the bytes stand somewhere among others
abbrev pub StandsIn : List ℕ → List ℕ → Type 0
StandsIn some bytes = (before : List ℕ) × (after : List ℕ) × (bytes ≡ before ++ (some ++ after))

-- a name stands somewhere among bytes behind a tag, as that of an element
abbrev pub NamedIn : List ℕ → List ℕ → Type 0
NamedIn name bytes = (tag : ElementType) × StandsIn (tag_byte tag ∷ name) bytes

-- it does so at one place, or nowhere
abbrev pub NamedOnce : List ℕ → List ℕ → Type 0
NamedOnce name bytes = (s t : ElementType) (a b c d : List ℕ) → bytes ≡ a ++ ((tag_byte s ∷ name) ++ b) → bytes ≡ c ++ ((tag_byte t ∷ name) ++ d) → length a ≡ length c

-- the value is a text that stands nowhere among the bytes
abbrev pub IsTextBeyond : List ℕ → Value → Type 0
IsTextBeyond bytes v = (t : List ℕ) × (text_in v ≡ Some t) × (StandsIn t bytes → ⊥)
