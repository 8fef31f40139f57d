-- The texts of a UUID (RFC 4122, section 3): 32 digits, the same with hyphens, and those in braces or after
-- `urn:uuid:`.
use Rattle.std.specs.Prelude.{ℕ, List, Option}
use Rattle.uuid.specs.Text.{hyphenated_text, lower, parsed}

-- the 16 bytes that a text stands for
unfoldable pub uuid_of : List ℕ → Option (List ℕ)
uuid_of text = parsed text

-- the form with hyphens, in lower case
unfoldable pub with_hyphens : List ℕ → List ℕ
with_hyphens bytes = hyphenated_text lower bytes
