use Rattle.bson_base.specs.Scalars.{id_bytes}
use Rattle.bson_raw.proofs.AppendLemmas.{long_text, long_binary, long_pointer}
use Rattle.bson_raw.proofs.append.write_payload.Goals as goal

pub returns-in-String-clause-refused : goal.returns-in-String-clause-refused
returns-in-String-clause-refused c = rw c.in-String.is (long_text c.in-String.text.now c.write_text.result c.write_text.ensures.refused)

pub returns-in-JavaScriptCode-clause-refused : goal.returns-in-JavaScriptCode-clause-refused
returns-in-JavaScriptCode-clause-refused c = rw c.in-JavaScriptCode.is (long_text c.in-JavaScriptCode.text.now c.write_text-in-JavaScriptCode.result c.write_text-in-JavaScriptCode.ensures.refused)

pub returns-in-Symbol-clause-refused : goal.returns-in-Symbol-clause-refused
returns-in-Symbol-clause-refused c = rw c.in-Symbol.is (long_text c.in-Symbol.text.now c.write_text-in-Symbol.result c.write_text-in-Symbol.ensures.refused)

pub returns-in-Binary-clause-refused : goal.returns-in-Binary-clause-refused
returns-in-Binary-clause-refused c = rw c.in-Binary.is (long_binary c.in-Binary.x.subtype c.in-Binary.x.bytes.now c.write_binary.result c.write_binary.ensures.refused)

pub returns-in-DbPointer-clause-refused : goal.returns-in-DbPointer-clause-refused
returns-in-DbPointer-clause-refused c = rw c.in-DbPointer.is (long_pointer c.in-DbPointer.x.namespace.now (id_bytes c.in-DbPointer.x.id) c.write_pointer.result c.write_pointer.ensures.refused)
