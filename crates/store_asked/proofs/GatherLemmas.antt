-- What was gathered, as the part of all documents that an arrangement has.
use Rattle.std.proofs.Common.{◌≡◌, ◌∙◌, ◌+◌, ◌<◌, ℕ, zero, suc, List, [], ◌∷◌, ◌++◌, Vec, Bor, Option, Some, None, Result, Ok, Err, map, take, drop, length, get_or, refl, sym, ap, ap₂, subst}
use Rattle.std.specs.declared.alloc.Global.{Global}
use Rattle.std.specs.Prelude.{IfOk, OnOk}
use Rattle.std.specs.declared.alloc.AllocError.{AllocError}
use Rattle.std.proofs.lemmas.List.{map-append, take_more}
use Rattle.std.specs.List.{AllZip}
use Rattle.bson_base.specs.Value.{Members}
use Rattle.store_model.specs.Reading.{Documents}
use Rattle.store_model.specs.declared.error.StoreError.{StoreError}
use Rattle.store_pipeline.proofs.SortLemmas.{part_in_first, unmoved}
use Rattle.store_pipeline.proofs.PlaceLemmas.{zip_take}
use Rattle.store_pipeline.specs.Bodies.{AreBodies, AreLent, IsBody, keys_of}
use Rattle.store_pipeline.specs.Held.{top_bodies}
use Rattle.store_pipeline.specs.Order.{Sorts, cut}
use Rattle.store_pipeline.specs.declared.sorted.arrangement.Arrangement.{Arrangement}
use Rattle.bson_store.specs.Export.{bytes_of_each}
use Rattle.bson_store.specs.Questions.{IsSettled}
use Rattle.store_asked.specs.Arranged.{AreArranged, Gathers, Holding, arrangement_of}
use Rattle.store_asked.specs.Keeps.{TookFirst}
use Rattle.store_asked.specs.declared.first.First.{First}
use Rattle.store_asked.specs.declared.gathering.Gathering.{Gathering}
use Rattle.store_asked.specs.declared.gathering.Held.{Held}
use Rattle.store_asked.specs.declared.gathering.Held.TheVariants as held
use Rattle.store_asked.specs.declared.gathering.Whole.{Whole}

-- ---- the first ones

-- with one more they are still as many, in the order of the same keys
pub first_holds : (a : Arrangement) (f g : First) (out more : Documents) → Holding a (held.First f) out → TookFirst f.top g.top more → Holding a (held.First g) more
first_holds a f g out more (n, limited, long, keyed, holds) (keys, limit, now) = (n, limited, limit ∙ long, keys ∙ keyed, now)

pub first_settled : (a : Arrangement) (f : First) → ((x : First) → IsSettled (TookFirst x.top f.top)) → IsSettled (Holding a (held.First f))
first_settled a f settled out more kept h = first_holds a f f out (out ++ more) h (settled f out more kept (refl, refl, h.4))

-- one document more
pub one_first : (first old : Gathering) (f g : First) (r : Result (Unit {0}) StoreError) (out more : Documents) → old.held ≡ held.First f → (TookFirst f.top f.top out → OnOk r (TookFirst f.top g.top more)) → Gathers first old out
    → OnOk r (Gathers first (record { arrangement = old.arrangement; held = held.First g; alloc = old.alloc }) more)
one_first first old f g (Ok x) out more is took h =
    let holding = subst (λ (k : Held). Holding (arrangement_of old) k out) is h.1 in
    (h.0, first_holds (arrangement_of old) f g out more holding (took (refl, refl, holding.4)))
one_first first old f g (Err e) out more is took h = tt

pub one_whole : (first old : Gathering) (w v : Whole) (r : Result (Unit {0}) StoreError) (out more : Documents) → old.held ≡ held.All w → (AreBodies w.bodies.items out → OnOk r (AreBodies v.bodies.items more)) → Gathers first old out
    → OnOk r (Gathers first (record { arrangement = old.arrangement; held = held.All v; alloc = old.alloc }) more)
one_whole first old w v (Ok x) out more is took h = (h.0, took (subst (λ (k : Held). Holding (arrangement_of old) k out) is h.1))
one_whole first old w v (Err e) out more is took h = tt

-- ---- parts

module _ {A B : Type 0} (R : A → B → Type 0) where
  zip_drop : (n : ℕ) (xs : List A) (ys : List B) → AllZip R xs ys → AllZip R (drop n xs) (drop n ys)
  zip_drop zero xs ys h = h
  zip_drop (suc n) [] [] h = tt
  zip_drop (suc n) [] (y ∷ ys) h = absurd h
  zip_drop (suc n) (x ∷ xs) [] h = absurd h
  zip_drop (suc n) (x ∷ xs) (y ∷ ys) h = zip_drop n xs ys h.1

  zip_cut : (skip : ℕ) (limit : Option ℕ) (xs : List A) (ys : List B) → AllZip R xs ys → AllZip R (cut skip limit xs) (cut skip limit ys)
  zip_cut skip None xs ys h = zip_drop skip xs ys h
  zip_cut skip (Some n) xs ys h = zip_take R n (drop skip xs) (drop skip ys) (zip_drop skip xs ys h)

bodies_cut : (skip : ℕ) (limit : Option ℕ) (bodies : List (Vec ℕ Global)) (ds : List Members) → AreBodies bodies ds → AreBodies (cut skip limit bodies) (cut skip limit ds)
bodies_cut = zip_cut (λ (b : Vec ℕ Global) d. IsBody b.items d)

lent_cut : (skip : ℕ) (limit : Option ℕ) (bodies : List (Bor (List ℕ))) (ds : List Members) → AreLent bodies ds → AreLent (cut skip limit bodies) (cut skip limit ds)
lent_cut = zip_cut (λ (b : Bor (List ℕ)) d. IsBody b.now d)

abbrev pub seen : List (Bor (List ℕ)) → List (List ℕ)
seen = map (λ (b : Bor (List ℕ)). b.now)

-- copies of bodies are bodies
copied_bodies : (copies : List (Vec ℕ Global)) (part : List (Bor (List ℕ))) (es : List Members) → bytes_of_each copies ≡ seen part → AreLent part es → AreBodies copies es
copied_bodies [] [] [] is h = tt
copied_bodies [] [] (e ∷ es) is h = absurd h
copied_bodies [] (b ∷ part) es is h = absurd cc
copied_bodies (c ∷ copies) [] es is h = absurd cc
copied_bodies (c ∷ copies) (b ∷ part) [] is h = absurd h
copied_bodies (c ∷ copies) (b ∷ part) (e ∷ es) is h =
    let first : b.now ≡ c.items = cc in
    let rest : bytes_of_each copies ≡ seen part = cc in
    (subst (λ (x : List ℕ). IsBody x e) first h.0, copied_bodies copies part es rest h.1)

-- copies of bodies that are lent
pub copy_more : (bodies : List (Bor (List ℕ))) (copies now : List (Vec ℕ Global)) (copy : Vec ℕ Global) (i : ℕ) (b : Bor (List ℕ)) → i < length bodies → now ≡ copies ++ copy ∷ [] → copy.items ≡ (get_or bodies i b).now
    → bytes_of_each copies ≡ seen (take i bodies) → bytes_of_each now ≡ seen (take (i + 1) bodies)
copy_more bodies copies now copy i b inside is same h =
    ap bytes_of_each is ∙ map-append (λ (v : Vec ℕ Global). v.items) copies (copy ∷ []) ∙ ap₂ (λ x y. x ++ y ∷ []) h same
    ∙ sym (ap seen (take_more bodies i b inside) ∙ map-append (λ (x : Bor (List ℕ)). x.now) (take i bodies) (get_or bodies i b ∷ []))

-- what is held of the first ones
pub first_arranged : (a : Arrangement) (f : First) (ds : Documents) (bodies part : Vec (Vec ℕ Global) Global) → Holding a (held.First f) ds → bodies.items ≡ top_bodies f.top → part.items ≡ cut a.skip a.limit bodies.items → AreArranged a part ds
first_arranged a f ds bodies part (n, limited, long, keyed, holds) held_is part_is =
    let all = holds.all in
    let first : AreBodies bodies.items (take (a.skip + n) all) = subst (λ l. AreBodies l (take (a.skip + n) all)) (sym held_is) (subst (λ k. AreBodies (top_bodies f.top) (take k all)) long holds.are) in
    let within : cut a.skip a.limit (take (a.skip + n) all) ≡ cut a.skip a.limit all = ap (λ l. cut a.skip l (take (a.skip + n) all)) limited ∙ part_in_first a.skip n all ∙ ap (λ l. cut a.skip l all) (sym limited) in (
      cut a.skip a.limit all,
      record { all = all; sorts = subst (λ ks. Sorts ks ds all) keyed holds.sorts; part = refl },
      subst (λ l. AreBodies l (cut a.skip a.limit all)) (sym part_is) (subst (AreBodies (cut a.skip a.limit bodies.items)) within (bodies_cut a.skip a.limit bodies.items (take (a.skip + n) all) first)),
    )

-- all, as they came
pub whole_arranged : (a : Arrangement) (ds : Documents) (bodies part : Vec (Vec ℕ Global) Global) → keys_of a.keys.items ≡ [] → AreBodies bodies.items ds → part.items ≡ cut a.skip a.limit bodies.items → AreArranged a part ds
whole_arranged a ds bodies part none are part_is = (
  cut a.skip a.limit ds,
  record { all = ds; sorts = subst (λ ks. Sorts ks ds ds) (sym none) (unmoved ds); part = refl },
  subst (λ l. AreBodies l (cut a.skip a.limit ds)) (sym part_is) (bodies_cut a.skip a.limit bodies.items ds are),
)

-- all, in order
sorted_arranged : (a : Arrangement) (ds es : Documents) (sorted part : List (Bor (List ℕ))) (copies : Vec (Vec ℕ Global) Global) → Sorts (keys_of a.keys.items) ds es → AreLent sorted es → part ≡ cut a.skip a.limit sorted → bytes_of_each copies.items ≡ seen part → AreArranged a copies ds
sorted_arranged a ds es sorted part copies sorts are part_is copied = (
  cut a.skip a.limit es,
  record { all = es; sorts = sorts; part = refl },
  copied_bodies copies.items part (cut a.skip a.limit es) copied (subst (λ l. AreLent l (cut a.skip a.limit es)) (sym part_is) (lent_cut a.skip a.limit sorted es are)),
)

pub sorted_part : (a : Arrangement) (ds es : Documents) (sorted part : List (Bor (List ℕ))) (r : Result (Vec (Vec ℕ Global) Global) AllocError) → Sorts (keys_of a.keys.items) ds es → AreLent sorted es → part ≡ cut a.skip a.limit sorted
    → IfOk r (λ copies. bytes_of_each copies.items ≡ seen part) → IfOk r (λ bodies. AreArranged a bodies ds)
sorted_part a ds es sorted part (Ok copies) sorts are part_is copied = sorted_arranged a ds es sorted part copies sorts are part_is copied
sorted_part a ds es sorted part (Err e) sorts are part_is copied = tt
