-- What a document ends as, once a `&mut` into it has ended.
use Rattle.std.specs.Prelude.{◌≡◌, ℕ, List, map, Option, Result}
use Rattle.std.specs.Option.{OnSome}
use Rattle.std.specs.Borrow.{Fml, RattleType, MutBor, Lends, LendsSo, LendsSoOk}
use Rattle.std.specs.declared.alloc.Global.{Global}
use Rattle.std.specs.declared.vec.Vec.{Vec}
use Rattle.bson_pairs.specs.Keyed.{Key, put, set_at}
use Rattle.bson_pairs.specs.contracts.pairs.Pairs as pairs
use Rattle.bson_base.specs.Value.{Value}
use Rattle.bson_model.specs.Rows.{bytes_row}
use Rattle.bson_model.specs.Trees.{generic_tree, document_tree}
use Rattle.bson_model.specs.View.{view, pair_view, pairs_of}
use Rattle.bson_model.specs.declared.bson.Bson.{Bson}
use Rattle.bson_model.specs.declared.document.Document.{Document, roll-Document}
use Rattle.bson_model.specs.contracts.bson.Bson as bson
use Rattle.bson_model.specs.contracts.document.Document.{the_row}

-- the place has the last value written through r
abbrev pub LendsValueAt : MutBor Document → ℕ → Option (MutBor Bson) → Fml
LendsValueAt m i r = LendsSo the_row bson.the_row m r (λ n w. OnSome r (pairs_of n ≡ set_at (pairs_of m.now) i (view w))) (λ n. n ≡ m.now)

-- the key has the last value written through r, and all else stays
abbrev pub LendsValue : MutBor Document → Key → Option (MutBor Bson) → Fml
LendsValue m k r = LendsSo the_row bson.the_row m r (λ n w. OnSome r (pairs_of n ≡ put k (view w) (pairs_of m.now))) (λ n. n ≡ m.now)

-- the key has the last value written through r, in its place or last, and if r is an error, everything stays
abbrev pub LendsOrInsertsValue : {E : Type 0} → MutBor Document → Key → Result (MutBor Bson) E → Fml
LendsOrInsertsValue m k r = LendsSoOk the_row bson.the_row m r (λ n w. pairs_of n ≡ put k (view w) (pairs_of m.now)) (λ n. n ≡ m.now)

-- a binary of subtype Generic has the last bytes written through r, and any other value stays
abbrev pub LendsGeneric : MutBor Bson → Option (MutBor (Vec ℕ Global)) → Fml
LendsGeneric m r = LendsSo bson.the_row bytes_row m r (λ n w. OnSome r (view n ≡ generic_tree w)) (λ n. view n ≡ view m.now)

-- the value under the key is the last one written through r, whose tree V gives, and if r is an error, everything stays
abbrev pub LendsPart : (T : RattleType) → (T.Denot → Value) → {E : Type 0} → MutBor Document → Key → Result (MutBor T.Denot) E → Fml
LendsPart T V m k r = LendsSoOk the_row T m r (λ n w. pairs_of n ≡ put k (V w) (pairs_of m.now)) (λ n. pairs_of n ≡ pairs_of m.now)

abbrev pub pairs_row : RattleType
pairs_row = pairs.the_row bson.the_row

-- the document of these pairs
abbrev pub document_of : List (Key × Bson) → Document
document_of ps = roll-Document (record { pairs = ps })

-- the document's pairs are the last ones written through r
abbrev pub LendsPairs : MutBor Document → MutBor (List (Key × Bson)) → Fml
LendsPairs m r = Lends the_row pairs_row m r document_of

-- `LendsPart` of a document under the key, in terms of the pairs
abbrev pub LendsDocumentIn : {E : Type 0} → MutBor (List (Key × Bson)) → Key → Result (MutBor Document) E → Fml
LendsDocumentIn m k r = LendsSoOk pairs_row the_row m r (λ n w. map pair_view n ≡ put k (document_tree w) (map pair_view m.now)) (λ n. map pair_view n ≡ map pair_view m.now)
