-- How an object says that an array is taken apart.
use Rattle.std.proofs.Common.{◌≡◌, Bool, true, false, List, Option, None, Vec, codes, ap, sym, ◌∙◌}
use Rattle.std.specs.Prelude.{if◌then◌else◌}
use Rattle.std.specs.declared.alloc.Global.{Global}
use Rattle.json.specs.Find.{get}
use Rattle.json.specs.Json.{Json, object}
use Rattle.json.specs.Value.{members_view, value_view}
use Rattle.json.specs.declared.value.Value.{Value as Tree, Object}
use Rattle.fallowtime_requests.specs.Staging.{Unwound, are_unwind_keys, keeps_key, keeps_of, unwound_by, unwound_in}
use Rattle.fallowtime_requests.proofs.OptionLemmas.{Entry, object_seen}

module _ (v : Tree Global) (ms : Vec Entry Global) (shown : List Entry) (is : v ≡ Object ms) (all : shown ≡ ms.items) where
  seen : value_view v ≡ object (members_view shown)
  seen = object_seen v ms shown is all

  by : (b : Bool) (o : Option Unwound) → are_unwind_keys (members_view shown) ≡ b → (if b then o else None) ≡ (if are_unwind_keys (members_view shown) then o else None)
  by b o e = ap (λ (x : Bool). if x then o else None) (sym e)

  pub other_keys : are_unwind_keys (members_view shown) ≡ false → unwound_in (value_view v) ≡ None
  other_keys e = ap unwound_in seen ∙ sym (by false (unwound_by (get (codes "path") (object (members_view shown))) (keeps_of (get keeps_key (object (members_view shown))))) e)

  pub of_object : (path given : Option Json) (keeps : Option Bool) → are_unwind_keys (members_view shown) ≡ true → path ≡ get (codes "path") (value_view v) → given ≡ get keeps_key (value_view v) → keeps ≡ keeps_of given → unwound_by path keeps ≡ unwound_in (value_view v)
  of_object path given keeps e at said kept =
      let first : unwound_by path (keeps_of given) ≡ unwound_by (get (codes "path") (object (members_view shown))) (keeps_of given) = ap (λ p. unwound_by p (keeps_of given)) (at ∙ ap (λ j. get (codes "path") j) seen) in
      let second : unwound_by (get (codes "path") (object (members_view shown))) (keeps_of given) ≡ unwound_by (get (codes "path") (object (members_view shown))) (keeps_of (get keeps_key (object (members_view shown)))) =
      ap (λ k. unwound_by (get (codes "path") (object (members_view shown))) (keeps_of k)) (said ∙ ap (λ j. get keeps_key j) seen) in
      ap (λ k. unwound_by path k) kept ∙ (first ∙ (second ∙ (by true (unwound_by (get (codes "path") (object (members_view shown))) (keeps_of (get keeps_key (object (members_view shown))))) e ∙ ap unwound_in (sym seen))))
