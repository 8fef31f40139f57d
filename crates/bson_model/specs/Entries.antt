-- What a document's entry stands for.
use Rattle.std.specs.Prelude.{◌≡◌, Bool, true, false, Result, string_bytes}
use Rattle.std.specs.Result.{IsOk, OnErr}
use Rattle.std.specs.Borrow.{Fml, MutBor, follows_so, name_if_ok}
use Rattle.bson_pairs.specs.Keyed.{Key, put}
use Rattle.bson_model.specs.View.{view, pairs_of}
use Rattle.bson_model.specs.declared.bson.Bson.{Bson}
use Rattle.bson_model.specs.declared.document.Document.{Document}
use Rattle.bson_model.specs.declared.document.entry.Entry.{Entry}
use Rattle.bson_model.specs.declared.document.entry.Entry.TheVariants.{Occupied, Vacant}
use Rattle.bson_model.specs.declared.document.entry.OccupiedEntry.{OccupiedEntry}
use Rattle.bson_model.specs.contracts.bson.Bson as bson
use Rattle.bson_model.specs.contracts.document.Document.{the_row}

abbrev pub entry_document : Entry → MutBor Document
entry_document (Occupied e) = e.document
entry_document (Vacant e) = e.document

abbrev pub entry_key : Entry → Key
entry_key (Occupied e) = string_bytes e.key
entry_key (Vacant e) = string_bytes e.key

abbrev pub is_occupied : Entry → Bool
is_occupied (Occupied e) = true
is_occupied (Vacant e) = false

-- the entry's key has the last value written through r, and if r is an error, everything stays
abbrev pub EntryLends : {E : Type 0} → Entry → Result (MutBor Bson) E → Fml
EntryLends e r = follows_so the_row bson.the_row (entry_document e).ghost_name (name_if_ok (λ x. x.ghost_name) r)
    (λ w n. IsOk r → pairs_of n ≡ put (entry_key e) (view w) (pairs_of (entry_document e).now)) (λ n. OnErr r (n ≡ (entry_document e).now))

abbrev pub occupied_key : OccupiedEntry → Key
occupied_key e = string_bytes e.key
