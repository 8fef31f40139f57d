-- Texts of keys.
use Rattle.std.proofs.Common.{◌≡◌, ◌∙◌, ℕ, ◌+◌, ◌<◌, ◌≤◌, List, [], ◌∷◌, ◌++◌, length, take, map, get_or, String, string_bytes, None, sym, ap, subst}
use Rattle.std.proofs.lemmas.List.{map-append, take_all, take_more}
use Rattle.std.specs.Borrow.{Bor}
use Rattle.std.specs.declared.alloc.Global.{Global}
use Rattle.std.specs.List.{AllZip}
use Rattle.std.specs.Str.Pattern.{FindsTextSuffix, StripsSuffix}
use Rattle.store_question.specs.Filters.{path_of}
use Rattle.store_pipeline.specs.Bodies.{key_of, keys_of}
use Rattle.store_pipeline.proofs.PlaceLemmas.{zip_more}
use Rattle.store_pipeline.specs.declared.sorted.keys.SortKey.{SortKey}
use Rattle.store_pipeline.specs.Order.{Key}
use Rattle.store_pipeline.specs.Texts.{EndsIn, ReadsKey}

pub stripped : (t x end : List ℕ) → StripsSuffix (FindsTextSuffix end) t x → t ≡ x ++ end
stripped t x end h = h.1.1 ∙ sym (ap (λ l. l ++ end) h.2)

pub not_stripped : (t end : List ℕ) → FindsTextSuffix end t None → EndsIn t end → ⊥
not_stripped t end h e = h e.0 e.1

-- ---- turns of the loops over parts

shown_more : (parts : List (Bor (List ℕ))) (i : ℕ) (d : Bor (List ℕ)) → i < length parts → map (λ x. x.now) (take (i + 1) parts) ≡ map (λ x. x.now) (take i parts) ++ (get_or parts i d).now ∷ []
shown_more parts i d h = ap (map (λ x. x.now)) (take_more parts i d h) ∙ map-append (λ x. x.now) (take i parts) (get_or parts i d ∷ [])

pub path_grows : (parts : List (Bor (List ℕ))) (i : ℕ) (d : Bor (List ℕ)) (ks now : List (String Global)) (k : String Global) → i < length parts → now ≡ ks ++ k ∷ [] → string_bytes k ≡ (get_or parts i d).now
    → path_of ks ≡ map (λ x. x.now) (take i parts) → path_of now ≡ map (λ x. x.now) (take (i + 1) parts)
path_grows parts i d ks now k h is same so_far = ap path_of is ∙ map-append string_bytes ks (k ∷ []) ∙ ap (λ l. l ++ string_bytes k ∷ []) so_far ∙ ap (λ x. map (λ y. y.now) (take i parts) ++ x ∷ []) same ∙ sym (shown_more parts i d h)

pub path_whole : (parts slice : List (Bor (List ℕ))) (i : ℕ) (all : List (List ℕ)) (path : List (List ℕ)) → slice ≡ parts → length slice ≤ i → map (λ x. x.now) parts ≡ all → path ≡ map (λ x. x.now) (take i slice) → path ≡ all
path_whole parts slice i all path e h is so_far = so_far ∙ ap (map (λ x. x.now)) (take_all i slice h ∙ e) ∙ is

pub keys_grow : (parts : List (Bor (List ℕ))) (i : ℕ) (d : Bor (List ℕ)) (ks now : List SortKey) (k : SortKey) → i < length parts → now ≡ ks ++ k ∷ [] → ReadsKey (get_or parts i d).now (key_of k)
    → AllZip ReadsKey (map (λ x. x.now) (take i parts)) (keys_of ks) → AllZip ReadsKey (map (λ x. x.now) (take (i + 1) parts)) (keys_of now)
keys_grow parts i d ks now k h is reads so_far =
    subst (λ (l : List Key). AllZip ReadsKey (map (λ x. x.now) (take (i + 1) parts)) l) (sym (ap keys_of is ∙ map-append key_of ks (k ∷ [])))
    (subst (λ (l : List (List ℕ)). AllZip ReadsKey l (keys_of ks ++ key_of k ∷ [])) (sym (shown_more parts i d h)) (zip_more ReadsKey (map (λ x. x.now) (take i parts)) (keys_of ks) (get_or parts i d).now (key_of k) so_far reads))

pub keys_whole : (parts slice : List (Bor (List ℕ))) (i : ℕ) (all : List (List ℕ)) (ks : List Key) → slice ≡ parts → length slice ≤ i → map (λ x. x.now) parts ≡ all → AllZip ReadsKey (map (λ x. x.now) (take i slice)) ks → AllZip ReadsKey all ks
keys_whole parts slice i all ks e h is so_far = subst (λ (l : List (List ℕ)). AllZip ReadsKey l ks) (ap (map (λ x. x.now)) (take_all i slice h ∙ e) ∙ is) so_far
