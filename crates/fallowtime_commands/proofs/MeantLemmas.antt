-- The documents that are meant, kept while they come.
use Rattle.std.proofs.Common.{◌≡◌, ℕ, List, [], ◌∷◌, ◌++◌, map, Bool, true, false, Result, Ok, Err, Vec, Global, refl, sym, ap, ◌∙◌}
use Rattle.std.specs.Prelude.{OnOk}
use Rattle.bson_base.specs.Value.{Members}
use Rattle.bson_bytes.specs.Encode.{encode}
use Rattle.bson_store.specs.Export.{bytes_of_each}
use Rattle.store_model.specs.Reading.{Documents}
use Rattle.store_model.specs.declared.error.StoreError.{StoreError}
use Rattle.fallowtime_commands.specs.Asking.{chosen, MeansOf}
use Rattle.fallowtime_commands.specs.declared.meant.Meant.{Meant}

-- the bytes of all documents, or of the first
abbrev Are : Bool → List (List ℕ) → Documents → Type 0
Are many bodies out = bodies ≡ map encode (chosen many out)

abbrev bytes_of : Meant → List (List ℕ)
bytes_of t = bytes_of_each t.copies.bodies.items

none_there : (xs : List (Vec ℕ Global)) → bytes_of_each xs ≡ [] → xs ≡ []
none_there [] e = refl
none_there (x ∷ xs) e = absurd cc

stays : (many : Bool) (bodies : List (List ℕ)) (out more : Documents) → many ≡ false → (bodies ≡ [] → ⊥) → Are many bodies out → Are many bodies (out ++ more)
stays true bodies out more one some are = absurd cc
stays false bodies [] more one some are = absurd (some are)
stays false bodies (d ∷ ds) more one some are = are

kept : (many : Bool) (old new : List (List ℕ)) (out : Documents) (d : Members) → (many ≡ false → old ≡ []) → Are many old out
    → ((es : Documents) → old ≡ map encode es → new ≡ map encode (es ++ d ∷ [])) → Are many new (out ++ d ∷ [])
kept true old new out d wanted are took = took out are
kept false old new [] d wanted are took = took [] are
kept false old new (e ∷ es) d wanted are took = absurd (let none : old ≡ [] = wanted refl in cc)

-- further documents change nothing, if one is enough and there
pub settled : (first t : Meant) (out more : Documents) → (t.many ≡ false) × (t.copies.bodies.items ≡ [] → ⊥) → MeansOf first t out → MeansOf first t (out ++ more)
settled first t out more (one, some) (same, are) = (same, stays first.many (bytes_of t) out more (sym same ∙ one) (λ e. some (none_there t.copies.bodies.items e)) are)

-- or else the next one is kept
pub one_more : (first t u : Meant) (r : Result (Unit {0}) StoreError) (out : Documents) (d : Members) → (t.many ≡ false → t.copies.bodies.items ≡ []) → u.many ≡ t.many → MeansOf first t out
    → ((es : Documents) → bytes_of_each t.copies.bodies.items ≡ map encode es → OnOk r (bytes_of_each u.copies.bodies.items ≡ map encode (es ++ d ∷ []))) → OnOk r (MeansOf first u (out ++ d ∷ []))
one_more first t u (Ok x) out d wanted many (same, are) took = (many ∙ same, kept first.many (bytes_of t) (bytes_of u) out d (λ one. ap bytes_of_each (wanted (same ∙ one))) are took)
one_more first t u (Err e) out d wanted many means took = tt
