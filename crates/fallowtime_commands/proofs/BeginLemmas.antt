-- Arrays that begin with the name of a command.
use Rattle.std.proofs.Common.{◌≡◌, ℕ, List, [], ◌∷◌, length, Bor, Option, Some, None, Result, Ok, Err, MatchResult, inr, ap, subst, sym, ◌∙◌}
use Rattle.std.specs.declared.alloc.Global.{Global}
use Rattle.json.specs.Find.{as_array}
use Rattle.json.specs.Json as json
use Rattle.json.specs.Json.{Json, Items, item}
use Rattle.json.specs.Value.{items_view, value_view}
use Rattle.json.specs.declared.value.Value.{Value}
use Rattle.fallowtime_requests.specs.Arranging.{ReadsLine}
use Rattle.fallowtime_requests.specs.declared.reading.Question.{Question}
use Rattle.fallowtime_requests.specs.declared.stop.Stop.{Stop}
use Rattle.fallowtime_requests.specs.declared.stop.Stop.TheVariants.{Words, Memory}
use Rattle.cli_convert.specs.declared.made.IdMaker.{IdMaker}
use Rattle.fallowtime_words.specs.Commands.{command_of}
use Rattle.fallowtime_words.specs.declared.command.Command.{Command}
use Rattle.fallowtime_commands.specs.Questions.{Asks, HasCommand, Stops}
use Rattle.fallowtime_commands.specs.Reading.{Begins}

pub none_is : (j : Json) (r : Option (Command × Bor (List (Value Global)))) → r ≡ None → Begins j None → Begins j r
none_is j r is none = subst (λ x. Begins j x) (sym is) none

abbrev pub Trees : Type 0
Trees = List (Value Global)

module _ (j : Json) where
  pub no_array : None ≡ as_array j → Begins j None
  no_array none c js (name, is, named) = let e = none ∙ is in cc

  pub no_item : (vs : Trees) → Some (items_view vs) ≡ as_array j → length vs ≡ 0 → Begins j None
  no_item [] some empty c js (name, is, named) = let e = some ∙ is in cc
  no_item (v ∷ vs) some empty c js (name, is, named) = absurd cc

  module _ (vs : Trees) (v : Value Global) (rest : Trees) (some : Some (items_view vs) ≡ as_array j) (split : vs ≡ v ∷ rest) where
    begins : Some (item (value_view v) (items_view rest)) ≡ as_array j
    begins = ap (λ (xs : Trees). Some (items_view xs)) (sym split) ∙ some

    pub no_text : ((t : List ℕ) → value_view v ≡ json.string t → ⊥) → Begins j None
    no_text none c js (name, is, named) =
        let e : Some (item (value_view v) (items_view rest)) ≡ Some (item (json.string name) js) = begins ∙ is in
        none name (cc)

    pub no_command : (t : List ℕ) → value_view v ≡ json.string t → None ≡ command_of t → Begins j None
    no_command t text none c js (name, is, named) =
        let e : Some (item (json.string t) (items_view rest)) ≡ Some (item (json.string name) js) = ap (λ k. Some (item k (items_view rest))) (sym text) ∙ begins ∙ is in
        let same : t ≡ name = cc in
        let n : None ≡ Some c = none ∙ ap command_of same ∙ named in cc

    pub has_command : (t : List ℕ) (c : Command) → value_view v ≡ json.string t → Some c ≡ command_of t → HasCommand j c (items_view rest)
    has_command t c text some_command = (t, sym (ap (λ k. Some (item k (items_view rest))) (sym text) ∙ begins), sym some_command)

pub of_command : (m n : IdMaker) (j : Json) (c : Command) (js : Items) (r : Result Question Stop) → HasCommand j c js → ReadsLine m n c js r
    → MatchResult r (λ q. Asks m n j q.collection.now q.request q.layout) (Stops m j)
of_command m n j c js (Ok q) has reads = (c, js, has, reads)
of_command m n j c js (Err (Words u)) has reads = inr (n, c, js, has, reads)
of_command m n j c js (Err Memory) has reads = tt
