-- Arguments that are taken one by one, and how many a command has.
use Rattle.std.proofs.Common.{◌≡◌, ◌<◌, ◌≤◌, List, [], ◌∷◌, length, get_or, map, String, inl, Result, Err, refl, ap, subst, sym, ◌∙◌, arith}
use Rattle.std.specs.Prelude.{string_bytes}
use Rattle.std.proofs.lemmas.List.{length-map}
use Rattle.std.specs.declared.alloc.Global.{Global}
use Rattle.json.specs.Value.{items_view, value_view}
use Rattle.json.specs.declared.value.Value.{Value as Tree}
use Rattle.cli_convert.specs.declared.made.IdMaker.{IdMaker}
use Rattle.fallowtime_words.specs.Commands.{arguments}
use Rattle.fallowtime_words.specs.declared.command.Command.{Command}
use Rattle.fallowtime_words.specs.declared.command.Command.TheVariants.{Insert, Put, Replace, Get, Set, Unset, Update, ReplaceOne, Delete, FindAndUpdate, FindAndReplace, FindAndDelete, Remove, Find, Count, Distinct, Aggregate, Import, Export, Drop, Rename, Copy, Collections, Check, Backup, Apply, Index, DropIndex, Version, ImportAll, ExportAll, Edit}
use Rattle.fallowtime_words.specs.declared.table.Argument.{Argument}
use Rattle.fallowtime_requests.specs.Inputs.{Given, seen, texts, tree, trees, word}
use Rattle.fallowtime_requests.specs.Reading.{AsMany, Reads, beyond}
use Rattle.fallowtime_requests.specs.declared.input.Input.{Input}
use Rattle.fallowtime_requests.specs.declared.reading.Question.{Question}
use Rattle.fallowtime_requests.specs.declared.stop.Stop.{Stop}
use Rattle.fallowtime_requests.specs.declared.stop.Stop.TheVariants.{Words}

abbrev pub of_text : String Global → Given
of_text w = word (string_bytes w)

abbrev pub of_tree : Tree Global → Given
of_tree t = tree (value_view t)

pub trees_seen : (ts : List (Tree Global)) → map of_tree ts ≡ trees (items_view ts)
trees_seen [] = refl
trees_seen (t ∷ ts) = ap (λ gs. of_tree t ∷ gs) (trees_seen ts)

-- ---- what is read of them

module _ {X : Type 0} (of : X → Given) (m n : IdMaker) (c : Command) (r : Result Question Stop) (xs : List X) where
  abbrev pub Asked : List Given → Type 0
  Asked gs = Reads m n c gs r

  pub none_asked : length xs ≡ 0 → Asked [] → Asked (map of xs)
  none_asked all asked = by xs all
    where
      by : (ys : List X) → length ys ≡ 0 → Asked (map of ys)
      by [] e = asked
      by (y ∷ ys) e = absurd cc

  pub one_asked : (a : X) (i : Input) → length xs ≡ 1 → get_or xs 0 a ≡ a → seen i ≡ of a → Asked (seen i ∷ []) → Asked (map of xs)
  one_asked a i all at is asked = by xs all at
    where
      by : (ys : List X) → length ys ≡ 1 → get_or ys 0 a ≡ a → Asked (map of ys)
      by [] e p = absurd cc
      by (y ∷ []) e p = subst (λ g. Asked (g ∷ [])) (is ∙ sym (ap of p)) asked
      by (y ∷ z ∷ ys) e p = absurd cc

  pub two_asked : (a b : X) (i j : Input) → length xs ≡ 2 → get_or xs 0 a ≡ a → get_or xs 1 b ≡ b → seen i ≡ of a → seen j ≡ of b → Asked (seen i ∷ seen j ∷ []) → Asked (map of xs)
  two_asked a b i j all at next is js asked = by xs all at next
    where
      by : (ys : List X) → length ys ≡ 2 → get_or ys 0 a ≡ a → get_or ys 1 b ≡ b → Asked (map of ys)
      by [] e p q = absurd cc
      by (y ∷ []) e p q = absurd cc
      by (y ∷ z ∷ []) e p q = subst (λ g. Asked (of y ∷ g ∷ [])) (js ∙ sym (ap of q)) (subst (λ g. Asked (g ∷ seen j ∷ [])) (is ∙ sym (ap of p)) asked)
      by (y ∷ z ∷ v ∷ ys) e p q = absurd cc

  pub three_asked : (a b d : X) (i j k : Input) → length xs ≡ 3 → get_or xs 0 a ≡ a → get_or xs 1 b ≡ b → get_or xs 2 d ≡ d → seen i ≡ of a → seen j ≡ of b → seen k ≡ of d
      → Asked (seen i ∷ seen j ∷ seen k ∷ []) → Asked (map of xs)
  three_asked a b d i j k all at next third is js ks asked = by xs all at next third
    where
      by : (ys : List X) → length ys ≡ 3 → get_or ys 0 a ≡ a → get_or ys 1 b ≡ b → get_or ys 2 d ≡ d → Asked (map of ys)
      by [] e p q s = absurd cc
      by (y ∷ []) e p q s = absurd cc
      by (y ∷ z ∷ []) e p q s = absurd cc
      by (y ∷ z ∷ v ∷ []) e p q s =
          subst (λ g. Asked (of y ∷ of z ∷ g ∷ [])) (ks ∙ sym (ap of s))
          (subst (λ g. Asked (of y ∷ g ∷ seen k ∷ [])) (js ∙ sym (ap of q)) (subst (λ g. Asked (g ∷ seen j ∷ seen k ∷ [])) (is ∙ sym (ap of p)) asked))
      by (y ∷ z ∷ v ∷ w ∷ ys) e p q s = absurd cc

  pub four_asked : (a b d f : X) (i j k l : Input) → length xs ≡ 4 → get_or xs 0 a ≡ a → get_or xs 1 b ≡ b → get_or xs 2 d ≡ d → get_or xs 3 f ≡ f → seen i ≡ of a → seen j ≡ of b → seen k ≡ of d → seen l ≡ of f
      → Asked (seen i ∷ seen j ∷ seen k ∷ seen l ∷ []) → Asked (map of xs)
  four_asked a b d f i j k l all at next third last is js ks ls asked = by xs all at next third last
    where
      by : (ys : List X) → length ys ≡ 4 → get_or ys 0 a ≡ a → get_or ys 1 b ≡ b → get_or ys 2 d ≡ d → get_or ys 3 f ≡ f → Asked (map of ys)
      by [] e p q s t = absurd cc
      by (y ∷ []) e p q s t = absurd cc
      by (y ∷ z ∷ []) e p q s t = absurd cc
      by (y ∷ z ∷ v ∷ []) e p q s t = absurd cc
      by (y ∷ z ∷ v ∷ w ∷ []) e p q s t =
          subst (λ g. Asked (of y ∷ of z ∷ of v ∷ g ∷ [])) (ls ∙ sym (ap of t))
          (subst (λ g. Asked (of y ∷ of z ∷ g ∷ seen l ∷ [])) (ks ∙ sym (ap of s))
          (subst (λ g. Asked (of y ∷ g ∷ seen k ∷ seen l ∷ [])) (js ∙ sym (ap of q)) (subst (λ g. Asked (g ∷ seen j ∷ seen k ∷ seen l ∷ [])) (is ∙ sym (ap of p)) asked)))
      by (y ∷ z ∷ v ∷ w ∷ u ∷ ys) e p q s t = absurd cc

-- ---- no command has more than four

many : (ks : List Argument) (gs : List Given) → AsMany ks gs → length gs ≤ length ks
many [] [] all = omega arith
many [] (g ∷ gs) all = absurd all
many (k ∷ ks) (g ∷ gs) all = let rest : length gs ≤ length ks = many ks gs all in omega (arith, rest)
many (k ∷ ks) [] all = omega arith

few : (c : Command) → length (arguments c) ≤ 4
few Insert = omega arith
few Put = omega arith
few Replace = omega arith
few Get = omega arith
few Set = omega arith
few Unset = omega arith
few Update = omega arith
few ReplaceOne = omega arith
few Delete = omega arith
few FindAndUpdate = omega arith
few FindAndReplace = omega arith
few FindAndDelete = omega arith
few Remove = omega arith
few Find = omega arith
few Count = omega arith
few Distinct = omega arith
few Aggregate = omega arith
few Import = omega arith
few Export = omega arith
few Drop = omega arith
few Rename = omega arith
few Copy = omega arith
few Collections = omega arith
few Check = omega arith
few Backup = omega arith
few Apply = omega arith
few Index = omega arith
few DropIndex = omega arith
few Version = omega arith
few ImportAll = omega arith
few ExportAll = omega arith
few Edit = omega arith

not_as_many : (c : Command) (gs : List Given) → 4 < length gs → AsMany (arguments c) gs → ⊥
not_as_many c gs more all =
    let most : length gs ≤ length (arguments c) = many (arguments c) gs all in
    let four : length (arguments c) ≤ 4 = few c in
    omega (arith, more, most, four)

too_many : (m : IdMaker) (c : Command) (gs : List Given) → 4 < length gs → Reads m m c gs (Err (Words (beyond c)))
too_many m Backup gs more = refl
too_many m Apply gs more = refl
too_many m Version gs more = refl
too_many m ImportAll gs more = refl
too_many m ExportAll gs more = refl
too_many m Edit gs more = refl
too_many m Insert gs more = inl (not_as_many Insert gs more, refl)
too_many m Put gs more = inl (not_as_many Put gs more, refl)
too_many m Replace gs more = inl (not_as_many Replace gs more, refl)
too_many m Get gs more = inl (not_as_many Get gs more, refl)
too_many m Set gs more = inl (not_as_many Set gs more, refl)
too_many m Unset gs more = inl (not_as_many Unset gs more, refl)
too_many m Update gs more = inl (not_as_many Update gs more, refl)
too_many m ReplaceOne gs more = inl (not_as_many ReplaceOne gs more, refl)
too_many m Delete gs more = inl (not_as_many Delete gs more, refl)
too_many m FindAndUpdate gs more = inl (not_as_many FindAndUpdate gs more, refl)
too_many m FindAndReplace gs more = inl (not_as_many FindAndReplace gs more, refl)
too_many m FindAndDelete gs more = inl (not_as_many FindAndDelete gs more, refl)
too_many m Remove gs more = inl (not_as_many Remove gs more, refl)
too_many m Find gs more = inl (not_as_many Find gs more, refl)
too_many m Count gs more = inl (not_as_many Count gs more, refl)
too_many m Distinct gs more = inl (not_as_many Distinct gs more, refl)
too_many m Aggregate gs more = inl (not_as_many Aggregate gs more, refl)
too_many m Import gs more = inl (not_as_many Import gs more, refl)
too_many m Export gs more = inl (not_as_many Export gs more, refl)
too_many m Drop gs more = inl (not_as_many Drop gs more, refl)
too_many m Rename gs more = inl (not_as_many Rename gs more, refl)
too_many m Copy gs more = inl (not_as_many Copy gs more, refl)
too_many m Collections gs more = inl (not_as_many Collections gs more, refl)
too_many m Check gs more = inl (not_as_many Check gs more, refl)
too_many m Index gs more = inl (not_as_many Index gs more, refl)
too_many m DropIndex gs more = inl (not_as_many DropIndex gs more, refl)

pub too_many_texts : (m : IdMaker) (c : Command) (ws : List (String Global)) → 4 < length ws → Reads m m c (texts ws) (Err (Words (beyond c)))
too_many_texts m c ws more = too_many m c (texts ws) (subst (λ n. 4 < n) (sym (length-map ws of_text)) more)

pub too_many_trees : (m : IdMaker) (c : Command) (ts : List (Tree Global)) → 4 < length ts → Reads m m c (trees (items_view ts)) (Err (Words (beyond c)))
too_many_trees m c ts more =
    let all : length (trees (items_view ts)) ≡ length ts = ap (λ (gs : List Given). length gs) (sym (trees_seen ts)) ∙ length-map ts of_tree in
    too_many m c (trees (items_view ts)) (subst (λ n. 4 < n) (sym all) more)

pub of_trees : (m n : IdMaker) (c : Command) (r : Result Question Stop) (ts : List (Tree Global)) → Reads m n c (map of_tree ts) r → Reads m n c (trees (items_view ts)) r
of_trees m n c r ts reads = subst (λ gs. Reads m n c gs r) (trees_seen ts) reads
