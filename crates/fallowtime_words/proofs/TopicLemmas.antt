-- Words that ask nothing about the program.
use Rattle.std.proofs.Common.{◌≡◌, ◌≢◌, ◌↔◌, ◌≤◌, ◌<◌, ℕ, List, [], ◌∷◌, codes, length, map, slice_index_or, string_bytes, String, Global, Bool, true, false, IsTrue, Option, Some, None, MatchOption, inl, inr, sym, ◌∙◌, ap, subst, arith}
use Rattle.fallowtime_words.specs.Commands.{command_name}
use Rattle.fallowtime_words.specs.declared.command.Command.{Command}
use Rattle.fallowtime_words.specs.Topics.{IsForHelp, IsTopic}
use Rattle.fallowtime_words.specs.declared.topic.Topic.{Topic}
use Rattle.fallowtime_words.specs.declared.topic.Topic.TheVariants as topic

pub not_both : false ≡ true → ⊥
not_both e = cc

not_some : (c : Command) → None ≡ Some c → ⊥
not_some c e = cc

pub not_helped : (asking name : List ℕ) (asks : Bool) → asks ≡ false → (IsTrue asks ↔ IsForHelp asking)
    → (c : Command) → (None ≡ Some c) ↔ (IsForHelp asking × (command_name c ≡ name))
not_helped asking name asks off h c = (λ e. absurd (not_some c e), λ p. absurd (not_both (sym off ∙ h.1 p.0)))

one : (v w : List ℕ) → v ∷ [] ≡ w ∷ [] → v ≡ w
one v w e = cc

first : (v w : List ℕ) (vs ws : List (List ℕ)) → v ∷ vs ≡ w ∷ ws → v ≡ w
first v w vs ws e = cc

second : (v v' w w' : List ℕ) → v ∷ v' ∷ [] ≡ w ∷ w' ∷ [] → v' ≡ w'
second v v' w w' e = cc

pub no_topic_of_one : (w : List ℕ) → w ≢ codes "--explain" → w ≢ codes "version" → ¬ IsForHelp w → (t : Topic) → IsTopic (w ∷ []) t → ⊥
no_topic_of_one w a b c topic.Program (v, is, h) = c (subst IsForHelp (sym (one w v is)) h)
no_topic_of_one w a b c topic.Version is = b (one w (codes "version") is)
no_topic_of_one w a b c topic.Kinds is = a (one w (codes "--explain") is)
no_topic_of_one w a b c (topic.Command d) (v, h, inl is) = absurd (omega (arith, ap length is))
no_topic_of_one w a b c (topic.Command d) (v, h, inr is) = absurd (omega (arith, ap length is))
no_topic_of_one w a b c (topic.Kind k) (inl is) = absurd (omega (arith, ap length is))
no_topic_of_one w a b c (topic.Kind k) (inr (f, is)) = absurd (omega (arith, ap length is))

pub no_topic_of_two : (v w : List ℕ) → v ≢ codes "--explain" → ((c : Command) → IsForHelp v → command_name c ≡ w → ⊥)
    → ((c : Command) → IsForHelp w → command_name c ≡ v → ⊥) → (t : Topic) → IsTopic (v ∷ w ∷ []) t → ⊥
no_topic_of_two v w a b c topic.Program (u, is, h) = absurd (omega (arith, ap length is))
no_topic_of_two v w a b c topic.Version is = absurd (omega (arith, ap length is))
no_topic_of_two v w a b c topic.Kinds is = absurd (omega (arith, ap length is))
no_topic_of_two v w a b c (topic.Command d) (u, h, inl is) = b d (subst IsForHelp (sym (first v u (w ∷ []) (command_name d ∷ []) is)) h) (sym (second v w u (command_name d) is))
no_topic_of_two v w a b c (topic.Command d) (u, h, inr is) = c d (subst IsForHelp (sym (second v w (command_name d) u is)) h) (sym (first v (command_name d) (w ∷ []) (u ∷ []) is))
no_topic_of_two v w a b c (topic.Kind k) (inl is) = a (first v (codes "--explain") (w ∷ []) (k.now ∷ []) is)
no_topic_of_two v w a b c (topic.Kind k) (inr (f, is)) = absurd (omega (arith, ap length is))

pub no_topic_of_three : (v m w : List ℕ) → v ≢ codes "--explain" → (t : Topic) → IsTopic (v ∷ m ∷ w ∷ []) t → ⊥
no_topic_of_three v m w a topic.Program (u, is, h) = absurd (omega (arith, ap length is))
no_topic_of_three v m w a topic.Version is = absurd (omega (arith, ap length is))
no_topic_of_three v m w a topic.Kinds is = absurd (omega (arith, ap length is))
no_topic_of_three v m w a (topic.Command d) (u, h, inl is) = absurd (omega (arith, ap length is))
no_topic_of_three v m w a (topic.Command d) (u, h, inr is) = absurd (omega (arith, ap length is))
no_topic_of_three v m w a (topic.Kind k) (inl is) = absurd (omega (arith, ap length is))
no_topic_of_three v m w a (topic.Kind k) (inr (f, is)) = a (first v (codes "--explain") (m ∷ w ∷ []) (f ∷ k.now ∷ []) is)

-- a topic has one word, two or three
topic_words : (ws : List (List ℕ)) (t : Topic) → IsTopic ws t → (0 < length ws) × (length ws < 4)
topic_words ws topic.Program (v, is, h) = let n : length ws ≡ 1 = ap length is in (omega (arith, n), omega (arith, n))
topic_words ws topic.Version is = let n : length ws ≡ 1 = ap length is in (omega (arith, n), omega (arith, n))
topic_words ws topic.Kinds is = let n : length ws ≡ 1 = ap length is in (omega (arith, n), omega (arith, n))
topic_words ws (topic.Command d) (v, h, inl is) = let n : length ws ≡ 2 = ap length is in (omega (arith, n), omega (arith, n))
topic_words ws (topic.Command d) (v, h, inr is) = let n : length ws ≡ 2 = ap length is in (omega (arith, n), omega (arith, n))
topic_words ws (topic.Kind k) (inl is) = let n : length ws ≡ 2 = ap length is in (omega (arith, n), omega (arith, n))
topic_words ws (topic.Kind k) (inr (f, is)) = let n : length ws ≡ 3 = ap length is in (omega (arith, n), omega (arith, n))

-- ---- words as strings

pub no_word : (ws : List (String Global)) → length ws < 1 → (t : Topic) → IsTopic (map string_bytes ws) t → ⊥
no_word [] l t is = absurd (omega (arith, (topic_words [] t is).0))
no_word (w ∷ ws) l t is = absurd (omega (arith, l))

pub many_words : (ws : List (String Global)) → 4 ≤ length ws → (t : Topic) → IsTopic (map string_bytes ws) t → ⊥
many_words [] l t is = absurd (omega (arith, l))
many_words (a ∷ []) l t is = absurd (omega (arith, l))
many_words (a ∷ b ∷ []) l t is = absurd (omega (arith, l))
many_words (a ∷ b ∷ c ∷ []) l t is = absurd (omega (arith, l))
many_words (a ∷ b ∷ c ∷ d ∷ ws) l t is = absurd (omega (arith, (topic_words (map string_bytes (a ∷ b ∷ c ∷ d ∷ ws)) t is).1))

-- what is told of words is told of these
abbrev pub Told : Option Topic → List (List ℕ) → Type 0
Told r ws = MatchOption r ((t : Topic) → IsTopic ws t → ⊥) (IsTopic ws)

one_string : (ws : List (String Global)) (a : String Global) (t : List ℕ) → 1 ≤ length ws → length ws < 2 → a ≡ slice_index_or ws 0 a → t ≡ string_bytes a
    → t ∷ [] ≡ map string_bytes ws
one_string [] a t l u e f = absurd (omega (arith, l))
one_string (w ∷ []) a t l u e f = ap (λ x. x ∷ []) (f ∙ ap string_bytes e)
one_string (w ∷ v ∷ ws) a t l u e f = absurd (omega (arith, u))

two_strings : (ws : List (String Global)) (a b : String Global) (s t : List ℕ) → 2 ≤ length ws → length ws < 3 → a ≡ slice_index_or ws 0 a → b ≡ slice_index_or ws 1 b
    → s ≡ string_bytes a → t ≡ string_bytes b → s ∷ t ∷ [] ≡ map string_bytes ws
two_strings [] a b s t l u e f g h = absurd (omega (arith, l))
two_strings (w ∷ []) a b s t l u e f g h = absurd (omega (arith, l))
two_strings (w ∷ v ∷ []) a b s t l u e f g h = ap (λ x. x ∷ t ∷ []) (g ∙ ap string_bytes e) ∙ ap (λ x. string_bytes w ∷ x ∷ []) (h ∙ ap string_bytes f)
two_strings (w ∷ v ∷ x ∷ ws) a b s t l u e f g h = absurd (omega (arith, u))

three_strings : (ws : List (String Global)) (a b : String Global) (s t : List ℕ) → 3 ≤ length ws → length ws < 4 → a ≡ slice_index_or ws 0 a → b ≡ slice_index_or ws 2 b
    → s ≡ string_bytes a → t ≡ string_bytes b → (m : List ℕ) × (s ∷ m ∷ t ∷ [] ≡ map string_bytes ws)
three_strings [] a b s t l u e f g h = absurd (omega (arith, l))
three_strings (w ∷ []) a b s t l u e f g h = absurd (omega (arith, l))
three_strings (w ∷ v ∷ []) a b s t l u e f g h = absurd (omega (arith, l))
three_strings (w ∷ v ∷ x ∷ []) a b s t l u e f g h =
    (string_bytes v, ap (λ y. y ∷ string_bytes v ∷ t ∷ []) (g ∙ ap string_bytes e) ∙ ap (λ y. string_bytes w ∷ string_bytes v ∷ y ∷ []) (h ∙ ap string_bytes f))
three_strings (w ∷ v ∷ x ∷ y ∷ ws) a b s t l u e f g h = absurd (omega (arith, u))

pub told_of_one : (ws : List (String Global)) (a : String Global) (t : List ℕ) (r : Option Topic) → 1 ≤ length ws → length ws < 2 → a ≡ slice_index_or ws 0 a
    → t ≡ string_bytes a → Told r (t ∷ []) → Told r (map string_bytes ws)
told_of_one ws a t r l u e f told = subst (Told r) (one_string ws a t l u e f) told

pub told_of_two : (ws : List (String Global)) (a b : String Global) (s t : List ℕ) (r : Option Topic) → 2 ≤ length ws → length ws < 3
    → a ≡ slice_index_or ws 0 a → b ≡ slice_index_or ws 1 b → s ≡ string_bytes a → t ≡ string_bytes b → Told r (s ∷ t ∷ []) → Told r (map string_bytes ws)
told_of_two ws a b s t r l u e f g h told = subst (Told r) (two_strings ws a b s t l u e f g h) told

pub told_of_three : (ws : List (String Global)) (a b : String Global) (s t : List ℕ) (r : Option Topic) → 3 ≤ length ws → length ws < 4
    → a ≡ slice_index_or ws 0 a → b ≡ slice_index_or ws 2 b → s ≡ string_bytes a → t ≡ string_bytes b → ((m : List ℕ) → Told r (s ∷ m ∷ t ∷ [])) → Told r (map string_bytes ws)
told_of_three ws a b s t r l u e f g h told = let x = three_strings ws a b s t l u e f g h in subst (Told r) x.1 (told x.0)
