-- The words on lists of pairs that clauses on documents cite.
pub use Rattle.bson_pairs.specs.Keyed.{Key, get, has_key, put, without, set_at}
pub use Rattle.bson_pairs.specs.Index.{place_of, AtMostDigits}
pub use Rattle.bson_pairs.specs.Ascending.{ascending}
