-- The forms of a UUID in a binary value (bsonspec.org 1.1, subtypes 03 and 04).
use Rattle.std.specs.Prelude.{ℕ, List, ◌++◌, take, drop, reverse}
use Rattle.bson_base.specs.declared.spec.BinarySubtype.{BinarySubtype}
use Rattle.bson_base.specs.declared.spec.BinarySubtype.TheVariants as subtypes
use Rattle.bson_base.specs.declared.uuid.UuidRepresentation.{UuidRepresentation}
use Rattle.bson_base.specs.declared.uuid.UuidRepresentation.TheVariants.{Standard, CSharpLegacy, JavaLegacy, PythonLegacy}

-- the subtype that a form has
abbrev pub uuid_subtype : UuidRepresentation → BinarySubtype
uuid_subtype Standard = subtypes.Uuid
uuid_subtype CSharpLegacy = subtypes.UuidOld
uuid_subtype JavaLegacy = subtypes.UuidOld
uuid_subtype PythonLegacy = subtypes.UuidOld

-- the 16 bytes of a UUID in a form; applied twice, it gives the bytes again
abbrev pub uuid_form : UuidRepresentation → List ℕ → List ℕ
uuid_form Standard bs = bs
uuid_form CSharpLegacy bs = reverse (take 4 bs) ++ reverse (take 2 (drop 4 bs)) ++ reverse (take 2 (drop 6 bs)) ++ drop 8 bs
uuid_form JavaLegacy bs = reverse (take 8 bs) ++ reverse (drop 8 bs)
uuid_form PythonLegacy bs = bs
