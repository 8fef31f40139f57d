use Rattle.std.proofs.Common.{◌≡◌, refl, rules}
use Rattle.bson_model.specs.declared.bson.Bson as bson
use Rattle.bson_model.specs.declared.bson.Bson.{the_lemmas}
use Rattle.bson_model.specs.declared.bson.Bson.TheBlock.{member-Document, member-JavaScriptCodeWithScope}
use Rattle.bson_model.specs.declared.bson.JavaScriptCodeWithScope.{JavaScriptCodeWithScope}
use Rattle.bson_model.specs.declared.document.Document.{Document}
use Rattle.bson_model.specs.contracts.bson.BsonHash.TheImpl.Laws.{is, family}
use Rattle.bson_model.specs.contracts.bson.JavaScriptCodeWithScopeHash.TheImpl.Laws as code_laws
use Rattle.bson_model.specs.Laws.{document_writes}
use Rattle.bson_model.proofs.laws.feeding.what_values_feed.Goals as goal

of_document : (x : Document) → family member-Document x x ≡ document_writes x
of_document x = refl

of_code : (x : JavaScriptCodeWithScope) → family member-JavaScriptCodeWithScope x x ≡ code_laws.unfolded x x
of_code x = code_laws.is x x

pub returns-clause-arrays : goal.returns-clause-arrays
returns-clause-arrays c = λ x. search (rules, the_lemmas, is)

pub returns-clause-documents : goal.returns-clause-documents
returns-clause-documents c = λ x. search (rules, the_lemmas, is, of_document)

pub returns-clause-scoped_codes : goal.returns-clause-scoped_codes
returns-clause-scoped_codes c = λ x. search (rules, the_lemmas, is, of_code, of_document)

pub returns-clause-doubles : goal.returns-clause-doubles
unfolding bson.out-Bson denote.Hole.Carrier.out bson.roll-Bson denote.Hole.Carrier.roll
returns-clause-doubles c = λ x. is (bson.Double x) (bson.Double x)

pub returns-clause-texts : goal.returns-clause-texts
unfolding bson.out-Bson denote.Hole.Carrier.out bson.roll-Bson denote.Hole.Carrier.roll
returns-clause-texts c = λ x. is (bson.String x) (bson.String x)

pub returns-clause-truths : goal.returns-clause-truths
unfolding bson.out-Bson denote.Hole.Carrier.out bson.roll-Bson denote.Hole.Carrier.roll
returns-clause-truths c = λ x. is (bson.Boolean x) (bson.Boolean x)

pub returns-clause-nulls : goal.returns-clause-nulls
unfolding bson.out-Bson denote.Hole.Carrier.out bson.roll-Bson denote.Hole.Carrier.roll
returns-clause-nulls c = is bson.Null bson.Null

pub returns-clause-expressions : goal.returns-clause-expressions
unfolding bson.out-Bson denote.Hole.Carrier.out bson.roll-Bson denote.Hole.Carrier.roll
returns-clause-expressions c = λ x. is (bson.RegularExpression x) (bson.RegularExpression x)

pub returns-clause-codes : goal.returns-clause-codes
unfolding bson.out-Bson denote.Hole.Carrier.out bson.roll-Bson denote.Hole.Carrier.roll
returns-clause-codes c = λ x. is (bson.JavaScriptCode x) (bson.JavaScriptCode x)

pub returns-clause-small_integers : goal.returns-clause-small_integers
unfolding bson.out-Bson denote.Hole.Carrier.out bson.roll-Bson denote.Hole.Carrier.roll
returns-clause-small_integers c = λ x. is (bson.Int32 x) (bson.Int32 x)

pub returns-clause-integers : goal.returns-clause-integers
unfolding bson.out-Bson denote.Hole.Carrier.out bson.roll-Bson denote.Hole.Carrier.roll
returns-clause-integers c = λ x. is (bson.Int64 x) (bson.Int64 x)

pub returns-clause-timestamps : goal.returns-clause-timestamps
unfolding bson.out-Bson denote.Hole.Carrier.out bson.roll-Bson denote.Hole.Carrier.roll
returns-clause-timestamps c = λ x. is (bson.Timestamp x) (bson.Timestamp x)

pub returns-clause-binaries : goal.returns-clause-binaries
unfolding bson.out-Bson denote.Hole.Carrier.out bson.roll-Bson denote.Hole.Carrier.roll
returns-clause-binaries c = λ x. is (bson.Binary x) (bson.Binary x)

pub returns-clause-object_ids : goal.returns-clause-object_ids
unfolding bson.out-Bson denote.Hole.Carrier.out bson.roll-Bson denote.Hole.Carrier.roll
returns-clause-object_ids c = λ x. is (bson.ObjectId x) (bson.ObjectId x)

pub returns-clause-moments : goal.returns-clause-moments
unfolding bson.out-Bson denote.Hole.Carrier.out bson.roll-Bson denote.Hole.Carrier.roll
returns-clause-moments c = λ x. is (bson.DateTime x) (bson.DateTime x)

pub returns-clause-symbols : goal.returns-clause-symbols
unfolding bson.out-Bson denote.Hole.Carrier.out bson.roll-Bson denote.Hole.Carrier.roll
returns-clause-symbols c = λ x. is (bson.Symbol x) (bson.Symbol x)

pub returns-clause-decimals : goal.returns-clause-decimals
unfolding bson.out-Bson denote.Hole.Carrier.out bson.roll-Bson denote.Hole.Carrier.roll
returns-clause-decimals c = λ x. is (bson.Decimal128 x) (bson.Decimal128 x)

pub returns-clause-undefined : goal.returns-clause-undefined
unfolding bson.out-Bson denote.Hole.Carrier.out bson.roll-Bson denote.Hole.Carrier.roll
returns-clause-undefined c = is bson.Undefined bson.Undefined

pub returns-clause-greatest : goal.returns-clause-greatest
unfolding bson.out-Bson denote.Hole.Carrier.out bson.roll-Bson denote.Hole.Carrier.roll
returns-clause-greatest c = is bson.MaxKey bson.MaxKey

pub returns-clause-least : goal.returns-clause-least
unfolding bson.out-Bson denote.Hole.Carrier.out bson.roll-Bson denote.Hole.Carrier.roll
returns-clause-least c = is bson.MinKey bson.MinKey

pub returns-clause-pointers : goal.returns-clause-pointers
unfolding bson.out-Bson denote.Hole.Carrier.out bson.roll-Bson denote.Hole.Carrier.roll
returns-clause-pointers c = λ x. is (bson.DbPointer x) (bson.DbPointer x)
