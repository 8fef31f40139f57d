use Rattle.std.proofs.Common.{◌≡◌, ℕ, List, [], map, sym, ap, subst, arith}
use Rattle.std.specs.Vec.Iter.{into_iter_items}
use Rattle.std.proofs.lemmas.Result.{err_from_is_err_and}
use Rattle.bson_bytes.specs.Writing.{IsWriteRefusal}
use Rattle.bson_raw.specs.Append.{CanTake, element_for, with_element, empty_bytes}
use Rattle.bson_raw.specs.Buffer.{buffer_bytes}
use Rattle.bson_raw.specs.Pairs.{raw_pair}
use Rattle.bson_raw.specs.Raw.{RawValue, own_value}
use Rattle.bson_raw.proofs.BuildLemmas.{OnTheWay, begins, goes_on, stops, ends, no_memory}
use Rattle.bson_raw.proofs.document_buf.RawDocumentBuf.from_iter.Goals as goal
use Rattle.std.proofs.lemmas.List.{nil_from_length}

pub returns-in_err-document : goal.returns-in_err-document
returns-in_err-document c =
    let p = err_from_is_err_and c.from_residual.result c.from_residual.ensures.1 in
    rw p.1 (no_memory empty_bytes (map raw_pair c.args.pairs.items) p.0 p.2)

pub loop-key-init : goal.loop-key-init
loop-key-init c =
    let all = map raw_pair c.args.pairs.items in
    subst (λ (x : List (List ℕ × RawValue)). OnTheWay all x (buffer_bytes c.in_ok-document.document)) (ap (λ l. map raw_pair l) (sym c.into_iter-key-iterator.ensures.into_iter_gives.0)) (begins all (buffer_bytes c.in_ok-document.document) c.in_ok-document.ensures)

pub returns-in_err-append : goal.returns-in_err-append
returns-in_err-append c =
    let all = map raw_pair c.args.pairs.items in
    let bytes : List ℕ = buffer_bytes c.loop-key.document in
    let v : RawValue = own_value c.in-Some.value in
    let way = subst (λ (x : List (List ℕ × RawValue)). OnTheWay all x bytes) (ap (λ l. map raw_pair l) c.in-Some.ensures.steps.0) c.loop-key.invariant in
    let p = err_from_is_err_and c.from_residual-in_err-append.result c.from_residual-in_err-append.ensures.1 in
    let refused = subst (λ (k : List ℕ). IsWriteRefusal (CanTake bytes k v → ⊥) c.in_err-append.field-0.0) c.deref.ensures (c.in_err-append.ensures).bytes.0 in
    rw (p.1, p.2) (stops all (raw_pair (c.in-Some.key, c.in-Some.value)) _ bytes c.in_err-append.field-0.0 way refused)

pub loop-key-preserved : goal.loop-key-preserved
loop-key-preserved c =
    let all = map raw_pair c.args.pairs.items in
    let bytes : List ℕ = buffer_bytes c.loop-key.document in
    let v : RawValue = own_value c.in-Some.value in
    let new : List ℕ = buffer_bytes c.append.new.self in
    let way = subst (λ (x : List (List ℕ × RawValue)). OnTheWay all x bytes) (ap (λ l. map raw_pair l) c.in-Some.ensures.steps.0) c.loop-key.invariant in
    let taken = subst (λ (k : List ℕ). CanTake bytes k v × (new ≡ with_element bytes (element_for k v))) c.deref.ensures (c.in_ok-append.ensures).bytes in
    goes_on all (raw_pair (c.in-Some.key, c.in-Some.value)) _ bytes new way taken

pub returns : goal.returns
returns c =
    let it = c.loop-key.key-iterator in
    let none : into_iter_items it ≡ [] = nil_from_length (into_iter_items it) (omega (arith, c.in-None.ensures.steps.0, it.rest.ok.0)) in
    ends (map raw_pair c.args.pairs.items) _ (buffer_bytes c.loop-key.document) c.loop-key.invariant (ap (λ l. map raw_pair l) none)
