-- Values of answers.
use Rattle.std.proofs.Common.{◌≡◌, ◌<◌, ◌+◌, ℕ, ℤ, pos, List, [], ◌∷◌, ◌++◌, String, append_assoc, get_or, length, string_bytes, take, sym, map, codes, Option, Some, None, is_some, unwrap_or, Result, Ok, Err, IfOk, refl, ap, ◌∙◌, if◌then◌else◌}
use Rattle.std.proofs.lemmas.List.{append-nil, map-append, take_more}
use Rattle.std.specs.declared.alloc.AllocError.{AllocError}
use Rattle.std.specs.declared.alloc.Global.{Global}
use Rattle.bson_base.specs.Value.{Value, array, double, int32, scalar}
use Rattle.bson_pairs.specs.Keyed.{Key, put}
use Rattle.bson_model.specs.View.{content, items_of, members_of, pairs_of, view}
use Rattle.bson_model.specs.declared.bson.Bson.{Bson}
use Rattle.bson_model.specs.declared.document.Document.{Document}
use Rattle.fallowtime_messages.specs.Answers as told
use Rattle.fallowtime_messages.specs.Answers.{after_changed, after_list}
use Rattle.fallowtime_statements.proofs.ValueLemmas.{not_empty}

-- the answer to changes
abbrev one : Value
one = scalar (double 4607182418800017408)

abbrev head : ℤ → List (Key × Value)
head n = put (codes "n") (scalar (int32 n)) []

abbrev after : Option ℤ → ℤ → List (Key × Value)
after c n = after_changed c (head n)

after-cons : (key : List ℕ) (x : Bson) (xs : List Bson) (ps : List (Key × Value)) → after_list key (x ∷ xs) ps ≡ put key (array (items_of (map view (x ∷ xs)))) ps
after-cons key x xs ps = ap (λ b. if b then ps else put key (array (items_of (map view (x ∷ xs)))) ps) (not_empty x xs)

abbrev listed : List Bson → List Bson → List (Key × Value) → List (Key × Value)
listed us es ps = put (codes "ok") one (after_list (codes "writeErrors") es (after_list (codes "upserted") us ps))

-- with the lists as they are
abbrev plainly : List Bson → List Bson → List (Key × Value) → List (Key × Value)
plainly [] [] ps = put (codes "ok") one ps
plainly [] (e ∷ es) ps = put (codes "ok") one (put (codes "writeErrors") (array (items_of (map view (e ∷ es)))) ps)
plainly (u ∷ us) [] ps = put (codes "ok") one (put (codes "upserted") (array (items_of (map view (u ∷ us)))) ps)
plainly (u ∷ us) (e ∷ es) ps = put (codes "ok") one (put (codes "writeErrors") (array (items_of (map view (e ∷ es)))) (put (codes "upserted") (array (items_of (map view (u ∷ us)))) ps))

is_plainly : (us es : List Bson) (ps : List (Key × Value)) → listed us es ps ≡ plainly us es ps
is_plainly [] [] ps = refl
is_plainly [] (e ∷ es) ps = ap (put (codes "ok") one) (after-cons (codes "writeErrors") e es ps)
is_plainly (u ∷ us) [] ps = ap (put (codes "ok") one) (after-cons (codes "upserted") u us ps)
is_plainly (u ∷ us) (e ∷ es) ps =
    ap (λ qs. put (codes "ok") one (after_list (codes "writeErrors") (e ∷ es) qs)) (after-cons (codes "upserted") u us ps)
    ∙ ap (put (codes "ok") one) (after-cons (codes "writeErrors") e es (put (codes "upserted") (array (items_of (map view (u ∷ us)))) ps))

written_plainly : (n : ℤ) (c : Option ℤ) (us es : List Bson) → members_of (plainly us es (after c n)) ≡ told.written (is_some c) n (unwrap_or c (pos 0)) (items_of (map view us)) (items_of (map view es))
written_plainly n None [] [] = refl
written_plainly n None [] (e ∷ es) = refl
written_plainly n None (u ∷ us) [] = refl
written_plainly n None (u ∷ us) (e ∷ es) = refl
written_plainly n (Some m) [] [] = refl
written_plainly n (Some m) [] (e ∷ es) = refl
written_plainly n (Some m) (u ∷ us) [] = refl
written_plainly n (Some m) (u ∷ us) (e ∷ es) = refl

pub told_written : (r : Result Document AllocError) (ps : List (Key × Value)) (n : ℤ) (c : Option ℤ) (us es : List Bson) → ps ≡ after_list (codes "writeErrors") es (after_list (codes "upserted") us (after_changed c (put (codes "n") (scalar (int32 n)) [])))
    → IfOk r (λ d. pairs_of d ≡ put (codes "ok") (scalar (double 4607182418800017408)) ps) → IfOk r (λ d. content d ≡ told.written (is_some c) n (unwrap_or c (pos 0)) (items_of (map view us)) (items_of (map view es)))
told_written (Ok d) ps n c us es is done = ap members_of (done ∙ ap (put (codes "ok") (scalar (double 4607182418800017408))) is ∙ is_plainly us es (after c n)) ∙ written_plainly n c us es
told_written (Err e) ps n c us es is done = tt

-- collections, one after the other
wanted_more : (only : Option (List ℕ)) (ns : List (List ℕ)) (n : List ℕ) → told.wanted only (ns ++ n ∷ []) ≡ told.wanted only ns ++ told.told_if (told.is_wanted only n) n
wanted_more only [] n = append-nil (told.told_if (told.is_wanted only n) n)
wanted_more only (m ∷ ns) n =
    let first = told.told_if (told.is_wanted only m) m in
    ap (λ vs. first ++ vs) (wanted_more only ns n) ∙ sym (append_assoc first (told.wanted only ns) (told.told_if (told.is_wanted only n) n))

pub one_wanted : (only : Option (List ℕ)) (names : List (String Global)) (i : ℕ) (name : String Global) (told_before told_then : List Value) → i < length names → name ≡ get_or names i name
    → told_before ≡ told.wanted only (map string_bytes (take i names)) → told_then ≡ told_before ++ told.told_if (told.is_wanted only (string_bytes name)) (string_bytes name) → told_then ≡ told.wanted only (map string_bytes (take (i + 1) names))
one_wanted only names i name told_before told_then lt is before more =
    let taken : take (i + 1) names ≡ take i names ++ name ∷ [] = take_more names i name lt ∙ ap (λ x. take i names ++ x ∷ []) (sym is) in
    let all = ap (map string_bytes) taken ∙ map-append string_bytes (take i names) (name ∷ []) in
    more ∙ ap (λ vs. vs ++ told.told_if (told.is_wanted only (string_bytes name)) (string_bytes name)) before
    ∙ sym (ap (told.wanted only) all ∙ wanted_more only (map string_bytes (take i names)) (string_bytes name))
