-- What the iterators over documents have left.
use Rattle.std.specs.Prelude.{List, map, String, string_bytes}
use Rattle.std.specs.Borrow.{Bor}
use Rattle.std.specs.Slice.Iter as slice
use Rattle.std.specs.declared.alloc.Global.{Global}
use Rattle.bson_base.specs.Value.{Value}
use Rattle.bson_pairs.specs.Keyed.{Key}
use Rattle.bson_model.specs.View.{view, pair_view}
use Rattle.bson_model.specs.declared.bson.Bson.{Bson}
use Rattle.bson_model.specs.declared.document.iter.Iter.{Iter}
use Rattle.bson_model.specs.declared.document.iter.Ascending.{Ascending}
use Rattle.bson_model.specs.declared.document.iter.IntoIter.{IntoIter}
use Rattle.bson_model.specs.declared.document.iter.Keys.{Keys}
use Rattle.bson_model.specs.declared.document.iter.Values.{Values}

-- a pair that is lent by `&`, with its value seen
abbrev pub lent_member : Bor (String Global) × Bor Bson → Key × Value
lent_member p = (string_bytes p.0.now, view p.1.now)

-- a pair by value, with its value seen
abbrev pub owned_member : String Global × Bson → Key × Value
owned_member p = (string_bytes p.0, view p.1)

-- the pairs that an `Iter` has left
abbrev pub iter_rest : Iter → List (Key × Value)
iter_rest s = map pair_view s.pairs

-- the pairs that an `Ascending` has left
abbrev pub ascending_rest : Ascending → List (Key × Value)
ascending_rest s = map pair_view s.pairs

-- the pairs that an `IntoIter` has left
abbrev pub into_iter_rest : IntoIter → List (Key × Value)
into_iter_rest s = map pair_view s.pairs

-- the keys that a `Keys` has left
abbrev pub keys_rest : Keys → List Key
keys_rest s = map string_bytes (slice.iter_rest s.keys)

-- the values that a `Values` has left
abbrev pub values_rest : Values → List Value
values_rest s = map view (slice.iter_rest s.values)
