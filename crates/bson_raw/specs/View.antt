-- What clauses see of the views, whose fields are private.
use Rattle.std.specs.Prelude.{ℕ, List, Option}
use Rattle.std.specs.Option.{option_map}
use Rattle.bson_frame.specs.Frame.{Element}
use Rattle.bson_frame.specs.View.{element_of}
use Rattle.bson_raw.specs.declared.document.RawDocument.{RawDocument}
use Rattle.bson_raw.specs.declared.array.RawArray.{RawArray}
use Rattle.bson_raw.specs.declared.element.RawElement.{RawElement}
use Rattle.bson_raw.specs.declared.raw_iter.RawIter.{RawIter}
use Rattle.bson_raw.specs.declared.iter.Iter.{Iter}
use Rattle.bson_raw.specs.declared.array_iter.RawArrayIter.{RawArrayIter}

-- the bytes of a document, its length and its final 00 included
abbrev pub bytes_of : RawDocument → List ℕ
bytes_of d = d.bytes.now

-- the bytes of the document that an array is
abbrev pub array_bytes : RawArray → List ℕ
array_bytes a = bytes_of a.document

-- an element without its place in memory
abbrev pub parts_of : RawElement → Element
parts_of e = element_of e.frame

-- the bytes from the next frame on; None after the end
abbrev pub left_of : RawIter → Option (List ℕ)
left_of i = option_map (λ b. b.now) i.rest

abbrev pub pairs_left : Iter → Option (List ℕ)
pairs_left i = left_of i.raw

abbrev pub values_left : RawArrayIter → Option (List ℕ)
values_left i = left_of i.raw
