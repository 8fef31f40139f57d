use Rattle.std.proofs.Common.{◌≡◌, List, Some, Result, find, drop}
use Rattle.bson_frame.specs.declared.error.ErrorKind.{ErrorKind}
use Rattle.bson_frame.specs.Frame.{Element}
use Rattle.bson_raw.specs.View.{bytes_of, left_of}
use Rattle.bson_raw.specs.Walk.{ends_at}
use Rattle.bson_raw.proofs.TurnLemmas.{IsLeft}
use Rattle.bson_raw.proofs.document.RawDocument.find.Given as goal

-- the look-up in the items that are left finds what the look-up in all finds
abbrev pub invariant-loop-item : goal.invariant-loop-item
invariant-loop-item l = (items : List (Result Element ErrorKind)) → IsLeft (Some (drop 4 (bytes_of l.self))) items
    → (left : List (Result Element ErrorKind)) × IsLeft (left_of l.item-iterator) left × (find (ends_at l.key) items ≡ find (ends_at l.key) left)
