-- Documents that go into a store as they are: by their written bytes, which keep each double and the order of keys.
use Rattle.std.specs.Prelude.{◌≡◌, ◌⊎◌, ◌<◌, ◌≤◌, ℕ, List, Option, None, true, false}
use Rattle.bson_base.specs.Kinds.{IsPlain}
use Rattle.bson_base.specs.Value.{Members, document, has_key, levels}
use Rattle.bson_bytes.specs.Encode.{encode, size}
use Rattle.bson_frame.specs.Frame.{size_limit}
use Rattle.bson_meaning.specs.Gate.{level_limit}
use Rattle.store_table.specs.Rows.{TableRow}
use Rattle.store_model.specs.Reading.{IsKeepable, Reading, ReadsBytes}
use Rattle.store_model.specs.State.{Call, id_key, in_bytes, insert, IsName, on, refused, replace, Reply}
use Rattle.store_model.specs.Table.{DocumentTable, Serves}
use Rattle.store_model.specs.declared.error.ErrorKind.{ErrorKind}
use Rattle.store_model.specs.declared.error.ErrorKind.TheVariants.{BadName, Memory, NoId, NotFound, Nul, TooDeep, TooLong}
use Rattle.bson_store.specs.Calls.{DoesBytes}
use Rattle.bson_store.specs.Drafting.{HasReplaced}
use Rattle.bson_store.specs.Shown.{Represents}

-- ---- before the store is asked

-- why a document isn't kept: it fails this test, and none before it
abbrev pub IsUnkept : Members → ErrorKind → Type 0
IsUnkept e TooDeep = level_limit < levels (document e)
IsUnkept e Nul = (levels (document e) ≤ level_limit) × (IsPlain (document e) → ⊥)
IsUnkept e NoId = (levels (document e) ≤ level_limit) × IsPlain (document e) × (has_key id_key e ≡ false)
IsUnkept e TooLong = (levels (document e) ≤ level_limit) × IsPlain (document e) × (has_key id_key e ≡ true) × (size_limit < size e)
IsUnkept e _ = ⊥

-- a document that passes all these tests
abbrev pub IsFit : Members → Type 0
IsFit e = IsKeepable e × (has_key id_key e ≡ true)

-- a document is refused for the name, by a test of its own, or, under a good name, because memory ran out
abbrev pub IsUnasked : List ℕ → Members → ErrorKind → Type 0
IsUnasked n e k = ((IsName n → ⊥) × (k ≡ BadName)) ⊎ (IsName n × (IsUnkept e k ⊎ (k ≡ Memory)))

abbrev pub IsStopped : List ℕ → Members → Reply → Type 0
IsStopped n e r = (k : ErrorKind) × IsUnasked n e k × (r ≡ refused k None)

-- ---- insertions and replacements

-- the command is done with what the bytes of a fit document read as; or it is refused before that
abbrev pub Stores : List ℕ → (Reading → Call) → Members → Reply → List TableRow → List TableRow → Type 0
Stores n call e r old new = (IsStopped n e r × (new ≡ old)) ⊎ (IsFit e × DoesBytes n call (encode e) r old new)

-- ---- a replacement, or an insertion if there is nothing to replace

-- a replacement by what the bytes read as finds no document
abbrev pub FindsNone : List ℕ → List ℕ → DocumentTable → DocumentTable → Type 0
FindsNone n bytes a b = (i : Option ℕ) × (x : Reading) × ReadsBytes bytes x × Serves a (on n (replace in_bytes x)) (refused NotFound i) b

abbrev pub PutsIn : List ℕ → List ℕ → Reply → DocumentTable → DocumentTable → Type 0
PutsIn n bytes r a c =
    (HasReplaced r × ((x : Reading) × ReadsBytes bytes x × Serves a (on n (replace in_bytes x)) r c))
    ⊎ ((b : DocumentTable) × FindsNone n bytes a b × ((y : Reading) × ReadsBytes bytes y × Serves b (on n (insert in_bytes y)) r c))

abbrev pub Puts : List ℕ → Members → Reply → List TableRow → List TableRow → Type 0
Puts n e r old new = (IsStopped n e r × (new ≡ old)) ⊎ (IsFit e × ((a : DocumentTable) → Represents old a → (c : DocumentTable) × Represents new c × PutsIn n (encode e) r a c))
