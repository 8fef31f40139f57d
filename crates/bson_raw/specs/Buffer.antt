-- What clauses see of the buffers, whose fields are private.
use Rattle.std.specs.Prelude.{ℕ, List}
use Rattle.bson_raw.specs.declared.document_buf.RawDocumentBuf.{RawDocumentBuf}
use Rattle.bson_raw.specs.declared.array_buf.RawArrayBuf.{RawArrayBuf}

-- the bytes of a document, its length and its final 00 included
abbrev pub buffer_bytes : RawDocumentBuf → List ℕ
buffer_bytes d = d.bytes.items

-- the bytes of the document that an array is
abbrev pub array_buffer_bytes : RawArrayBuf → List ℕ
array_buffer_bytes a = buffer_bytes a.document

-- the place of the next value, counted from 0
abbrev pub next_place : RawArrayBuf → ℕ
next_place a = a.places
