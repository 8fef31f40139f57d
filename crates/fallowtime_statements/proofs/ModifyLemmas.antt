-- The lines that `findAndModify` and `distinct` are.
use Rattle.std.proofs.Common.{◌≡◌, ℕ, Bool, true, false, List, [], ◌∷◌, ◌++◌, Some, None, Result, Ok, Err, IfOk, Vec, codes, refl, sym, subst}
use Rattle.std.specs.declared.alloc.Global.{Global}
use Rattle.bson_base.specs.Value.{Items, Members, Value, document, look_up, scalar, string}
use Rattle.bson_json.specs.Prints.{IsTextOf}
use Rattle.bson_model.specs.declared.extjson.ser.Mode.TheVariants.{Canonical, Relaxed}
use Rattle.fallowtime_words.specs.declared.command.Command.{Command}
use Rattle.fallowtime_words.specs.declared.command.Command.TheVariants as command
use Rattle.bson_meaning.specs.JsonReserved.{has_reserved}
use Rattle.fallowtime_statements.specs.Changes.{ChangesBy, is_update}
use Rattle.fallowtime_statements.specs.Lines.{IsGiven, IsLine, IsMixed, IsRead, IsThere, IsTruth, line_of_texts, line_of_three}
use Rattle.fallowtime_statements.specs.Modifying.{AreChangedOptions, AreFoundOptions, AreTwo, AsksNoMore, IsDistinct, IsFindAndModify, IsPut, IsShown, IsShownBehind, IsShownIf, IsUpsert, by_id, fields_option, finder, id_in, id_of, line_with_path}
use Rattle.fallowtime_statements.specs.declared.statement.Statement.{Statement}
use Rattle.fallowtime_statements.specs.declared.fault.Fault.{Fault}

module _ (r : Result Statement Fault) where
  pub mixed : (c : Command) (name : List ℕ) (q w o : Members) (ta tb tc td line : List ℕ) → IsTextOf Relaxed (scalar (string name)) ta → IsTextOf Relaxed (document q) tb → IsTextOf Canonical (document w) tc → IsTextOf Relaxed (document o) td
      → line ≡ line_of_texts ta tb tc td → IfOk r (IsRead c line) → IfOk r (IsMixed c name q w o)
  mixed c name q w o ta tb tc td line one two three four same read = by r read
    where
      by : (x : Result Statement Fault) → IfOk x (IsRead c line) → IfOk x (IsMixed c name q w o)
      by (Ok s) h = (ta, tb, tc, td, one, two, three, four, subst (λ t. IsRead c t s) same h)
      by (Err x) h = tt

  module _ (ms : Members) (n : List ℕ) where
    pub removes : (q o : Members) (vs : Items) → AsksNoMore ms → IsGiven (look_up (codes "query") ms) q → AreFoundOptions ms o → vs ≡ line_of_three n q o → IfOk r (IsLine Relaxed command.FindAndDelete vs) → IfOk r (IsFindAndModify true ms n)
    removes q o vs asks given are same line = by r line
      where
        by : (x : Result Statement Fault) → IfOk x (IsLine Relaxed command.FindAndDelete vs) → IfOk x (IsFindAndModify true ms n)
        by (Ok s) h = (q, o, asks, given, are, subst (λ ws. IsLine Relaxed command.FindAndDelete ws s) same h)
        by (Err e) h = tt

    pub modifies : (q u o : Members) (c : Command) → IsGiven (look_up (codes "query") ms) q → IsThere (look_up (codes "update") ms) u → AreChangedOptions ms o → c ≡ finder (is_update u) → IfOk r (IsMixed c n q u o) → IfOk r (IsFindAndModify false ms n)
    modifies q u o c given there are is line = by r line
      where
        by : (x : Result Statement Fault) → IfOk x (IsMixed c n q u o) → IfOk x (IsFindAndModify false ms n)
        by (Ok s) h = (q, u, o, given, there, are, subst (λ d. IsMixed d n q u o s) is h)
        by (Err e) h = tt

    pub is_distinct : (path : List ℕ) (q : Members) (vs : Items) → look_up (codes "key") ms ≡ Some (scalar (string path)) → IsGiven (look_up (codes "query") ms) q → vs ≡ line_with_path n path q → IfOk r (IsLine Canonical command.Distinct vs) → IfOk r (IsDistinct ms n)
    is_distinct path q vs key given same line = by r line
      where
        by : (x : Result Statement Fault) → IfOk x (IsLine Canonical command.Distinct vs) → IfOk x (IsDistinct ms n)
        by (Ok s) h = (path, q, key, given, subst (λ ws. IsLine Canonical command.Distinct ws s) same h)
        by (Err e) h = tt

    pub is_put : (q u : Members) → IsGiven (look_up (codes "query") ms) q → IsThere (look_up (codes "update") ms) u → IfOk r (ChangesBy (is_update u) n q u false true) → IfOk r (IsPut ms n)
    is_put q u given there line = by r line
      where
        by : (x : Result Statement Fault) → IfOk x (ChangesBy (is_update u) n q u false true) → IfOk x (IsPut ms n)
        by (Ok s) h = (q, u, given, there, h)
        by (Err e) h = tt

    pub is_shown : (id : Value) (q fields o : Members) (vs : Items) → q ≡ by_id id → has_reserved q ≡ false → IsGiven (look_up (codes "fields") ms) fields → o ≡ fields_option fields → vs ≡ line_of_three n q o → IfOk r (IsLine Relaxed command.Find vs)
        → IfOk r (IsShown ms n id)
    is_shown id q fields o vs is plain given options same line = by r line
      where
        by : (x : Result Statement Fault) → IfOk x (IsLine Relaxed command.Find vs) → IfOk x (IsShown ms n id)
        by (Ok s) h = (fields, subst (λ m. has_reserved m ≡ false) is plain, given, subst (λ m. IsLine Relaxed command.Find (line_of_three n m (fields_option fields)) s) is (subst (λ m. IsLine Relaxed command.Find (line_of_three n q m) s) options (subst (λ ws. IsLine Relaxed command.Find ws s) same h)))
        by (Err e) h = tt

-- ---- an upsert

module _ (ms : Members) (n : List ℕ) where
  pub not_shown : (list : List Statement) (after : Bool) → IsTruth false (look_up (codes "new") ms) after → AreTwo ms n list → after ≡ false → IsUpsert ms n list
  not_shown [] after truth two none = absurd two
  not_shown (f ∷ []) after truth two none = absurd two
  not_shown (f ∷ p ∷ []) after truth two none = (two.0, two.1, (after, truth, subst (λ b. IsShownIf b (id_of p.request) ms n []) (sym none) refl))
  not_shown (f ∷ p ∷ s ∷ ss) after truth two none = absurd two

  pub none_made : (list : List Statement) (after : Bool) → IsTruth false (look_up (codes "new") ms) after → AreTwo ms n list → None ≡ id_in list → IsUpsert ms n list
  none_made [] after truth two none = absurd two
  none_made (f ∷ []) after truth two none = absurd two
  none_made (f ∷ p ∷ []) after truth two none = (two.0, two.1, (after, truth, subst (λ o. IsShownIf after o ms n []) none (empty after)))
    where
      empty : (b : Bool) → IsShownIf b None ms n []
      empty true = refl
      empty false = refl
  none_made (f ∷ p ∷ s ∷ ss) after truth two none = absurd two

  pub also_shown : (list more : List Statement) (s : Statement) (id : Value) (after : Bool) → IsTruth false (look_up (codes "new") ms) after → AreTwo ms n list → after ≡ true → Some id ≡ id_in list → IsShown ms n id s → more ≡ list ++ s ∷ [] → IsUpsert ms n more
  also_shown [] more s id after truth two is made shown put = absurd two
  also_shown (f ∷ []) more s id after truth two is made shown put = absurd two
  also_shown (f ∷ p ∷ []) more s id after truth two is made shown put =
      subst (λ l. IsUpsert ms n l) (sym put) (two.0, two.1, (after, truth, subst (λ b. IsShownIf b (id_of p.request) ms n (s ∷ [])) (sym is) (subst (λ o. IsShownIf true o ms n (s ∷ [])) made shown)))
  also_shown (f ∷ p ∷ q ∷ ss) more s id after truth two is made shown put = absurd two

  pub all_shown : (r : Result (Vec Statement Global) Fault) (list : List Statement) (id : Value) (after : Bool) → IsTruth false (look_up (codes "new") ms) after → AreTwo ms n list → after ≡ true → Some id ≡ id_in list
      → IfOk r (λ more. IsShownBehind ms n id list more.items) → IfOk r (λ more. IsUpsert ms n more.items)
  all_shown (Ok more) list id after truth two is made (s, shown, put) = also_shown list more.items s id after truth two is made shown put
  all_shown (Err e) list id after truth two is made h = tt
