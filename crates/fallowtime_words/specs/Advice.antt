-- What mostly helps after a refusal.
use Rattle.std.specs.Prelude.{◌≡◌, ◌&&◌, ◌||◌, ℕ, List, [], ◌∷◌, leb, length, Bool, true, if◌then◌else◌, Option, Some, None}
use Rattle.std.specs.List.{list_all}
use Rattle.std.specs.Str.{bytes_eq}
use Rattle.fallowtime_words.specs.declared.advice.Advice.{Advice}

-- how what gzip packs begins, by deflate, how an archive of mongodump does, and what zip, zstd, bzip2 and xz pack
abbrev pub gzip_front : List ℕ
gzip_front = 31 ∷ 139 ∷ 8 ∷ []

abbrev pub archive_front : List ℕ
archive_front = 109 ∷ 226 ∷ 153 ∷ 129 ∷ []

abbrev pub zip_front : List ℕ
zip_front = 80 ∷ 75 ∷ 3 ∷ 4 ∷ []

abbrev pub zstd_front : List ℕ
zstd_front = 40 ∷ 181 ∷ 47 ∷ 253 ∷ []

abbrev pub bzip2_front : List ℕ
bzip2_front = 66 ∷ 90 ∷ 104 ∷ []

abbrev pub xz_front : List ℕ
xz_front = 253 ∷ 55 ∷ 122 ∷ 88 ∷ 90 ∷ 0 ∷ []

-- a hexadecimal digit
abbrev pub is_hex : ℕ → Bool
is_hex b = (leb 48 b && leb b 57) || (leb 65 b && leb b 70) || (leb 97 b && leb b 102)

-- a word has the digits of an ObjectId
abbrev pub IsObjectId : List ℕ → Type 0
IsObjectId word = (length word ≡ 24) × (list_all is_hex word ≡ true)

-- the second of the words has the digits of an ObjectId
abbrev pub HasObjectId : List (List ℕ) → Type 0
HasObjectId words = (coll id : List ℕ) × (more : List (List ℕ)) × (words ≡ coll ∷ id ∷ more) × IsObjectId id

-- the text of the first of the rows for this kind
abbrev pub text_of_kind : List Advice → List ℕ → Option (List ℕ)
text_of_kind [] kind = None
text_of_kind (row ∷ rows) kind = if bytes_eq row.kind.now kind then Some row.text.now else text_of_kind rows kind
