-- The bytes of kinds and subtypes.
use Rattle.std.specs.Prelude.{ℕ, ◌<◌, ◌≤◌, nat_lt, if◌then◌else◌, ◌==◌}
use Rattle.bson_base.specs.declared.spec.ElementType.{ElementType}
use Rattle.bson_base.specs.declared.spec.ElementType.TheVariants as kinds
use Rattle.bson_base.specs.declared.spec.BinarySubtype.{BinarySubtype}
use Rattle.bson_base.specs.declared.spec.BinarySubtype.TheVariants as subtypes

-- the byte of a kind
abbrev pub tag_byte : ElementType → ℕ
tag_byte kinds.Double = 0x01
tag_byte kinds.String = 0x02
tag_byte kinds.EmbeddedDocument = 0x03
tag_byte kinds.Array = 0x04
tag_byte kinds.Binary = 0x05
tag_byte kinds.Undefined = 0x06
tag_byte kinds.ObjectId = 0x07
tag_byte kinds.Boolean = 0x08
tag_byte kinds.DateTime = 0x09
tag_byte kinds.Null = 0x0A
tag_byte kinds.RegularExpression = 0x0B
tag_byte kinds.DbPointer = 0x0C
tag_byte kinds.JavaScriptCode = 0x0D
tag_byte kinds.Symbol = 0x0E
tag_byte kinds.JavaScriptCodeWithScope = 0x0F
tag_byte kinds.Int32 = 0x10
tag_byte kinds.Timestamp = 0x11
tag_byte kinds.Int64 = 0x12
tag_byte kinds.Decimal128 = 0x13
tag_byte kinds.MaxKey = 0x7F
tag_byte kinds.MinKey = 0xFF

-- the subtype that a byte means
abbrev pub subtype_of : ℕ → BinarySubtype
subtype_of b =
    if b == 0 then subtypes.Generic else (if b == 1 then subtypes.Function else (if b == 2 then subtypes.BinaryOld else (if b == 3 then subtypes.UuidOld
    else (if b == 4 then subtypes.Uuid else (if b == 5 then subtypes.Md5 else (if b == 6 then subtypes.Encrypted else (if b == 7 then subtypes.Column
    else (if b == 8 then subtypes.Sensitive else (if b == 9 then subtypes.Vector else (if nat_lt b 128 then subtypes.Reserved b else subtypes.UserDefined b))))))))))

-- the byte of a subtype
abbrev pub subtype_byte : BinarySubtype → ℕ
subtype_byte subtypes.Generic = 0x00
subtype_byte subtypes.Function = 0x01
subtype_byte subtypes.BinaryOld = 0x02
subtype_byte subtypes.UuidOld = 0x03
subtype_byte subtypes.Uuid = 0x04
subtype_byte subtypes.Md5 = 0x05
subtype_byte subtypes.Encrypted = 0x06
subtype_byte subtypes.Column = 0x07
subtype_byte subtypes.Sensitive = 0x08
subtype_byte subtypes.Vector = 0x09
subtype_byte (subtypes.UserDefined b) = b
subtype_byte (subtypes.Reserved b) = b

-- a subtype that a byte means
abbrev pub IsReadable : BinarySubtype → Type 0
IsReadable (subtypes.Reserved b) = (10 ≤ b) × (b < 128)
IsReadable (subtypes.UserDefined b) = 128 ≤ b
IsReadable _ = Unit {0}
