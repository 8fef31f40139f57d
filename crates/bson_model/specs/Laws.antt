-- Equality and hashing of values and documents, as functions.
use Rattle.std.specs.Prelude.{Bool}
use Rattle.std.specs.Hash.{HashWrites}
use Rattle.bson_model.specs.declared.bson.Bson.{Bson}
use Rattle.bson_model.specs.declared.document.Document.{Document}
use Rattle.bson_model.specs.contracts.bson.BsonPartialEq.TheImpl as value_eq
use Rattle.bson_model.specs.contracts.bson.BsonHash.TheImpl as value_hash
use Rattle.bson_model.specs.contracts.document.DocumentPartialEq.TheImpl as pairs_eq
use Rattle.bson_model.specs.contracts.document.DocumentHash.TheImpl as pairs_hash

-- `a == b`
abbrev pub bson_eq : Bson → Bson → Bool
bson_eq = value_eq.ghosts.eq

abbrev pub document_eq : Document → Document → Bool
document_eq = pairs_eq.ghosts.eq

-- what a hasher is fed
abbrev pub bson_writes : Bson → HashWrites
bson_writes = value_hash.ghosts.hash_input

abbrev pub document_writes : Document → HashWrites
document_writes = pairs_hash.ghosts.hash_input
