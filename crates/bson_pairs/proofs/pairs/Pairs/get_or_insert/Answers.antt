use Rattle.std.proofs.Common.{◌≡◌, ◌<◌, ◌+◌, ◌∷◌, [], length, slice_get, unwrap_or, string_bytes, refl, sym, ap, ◌∙◌, subst, arith, length-append}
use Rattle.std.specs.Map.{values_of}
use Rattle.bson_pairs.specs.Keyed.{get, put, set_at}
use Rattle.bson_pairs.specs.Index.{is_key}
use Rattle.bson_pairs.proofs.KeyedLemmas.{found_at, get-found, set_at-found, set_at-put-new, put-new, value-last, same_some, values_of-keyed, length-pairs, get-missing}
use Rattle.bson_pairs.proofs.pairs.Pairs.get_or_insert.Goals as goal

pub value_at_mut-requires : goal.value_at_mut-requires
value_at_mut-requires g c =
    let i = c.self.inside in
    subst (λ n. c.in-Some.at < n) (sym (length-pairs i.keys i.values.items c.args.self.now c.self.invariant c.self.view_is ∙ c.self.invariant)) c.in-Some.ensures.within

pub returns-in-Some : goal.returns-in-Some
returns-in-Some g c =
    let i = c.self.inside in
    let k = c.as_str.result.now in
    let at = c.in-Some.at in
    let f = found_at (is_key k) i.keys at c.in-Some.ensures.index in
    let found = ap (λ q. get q c.args.self.now) (sym c.as_str.ensures.value) ∙ sym (ap (get k) c.self.view_is) ∙ get-found k i.keys i.values.items at f c.self.invariant
    ∙ ap (λ xs. slice_get xs at) (sym (values_of-keyed i.keys i.values.items c.self.invariant) ∙ ap values_of c.self.view_is) ∙ c.value_at_mut.ensures.value in (
      (refl, λ w _. subst (λ ps. set_at ps at w ≡ put k w ps) c.self.view_is (set_at-found k i.keys i.values.items at w f c.self.invariant) ∙ ap (λ q. put q w c.args.self.now) c.as_str.ensures.value, tt),
      record { writes_back = tt; value = sym (ap (λ o. unwrap_or o c.args.default) found); absent = tt },
    )

pub value_at_mut-requires-in-None : goal.value_at_mut-requires-in-None
value_at_mut-requires-in-None g c =
    let i = c.self.inside in
    let now = c.args.self.now in
    let k = string_bytes c.args.key in
    let gone = get-missing i.keys i.values.items now c.as_str.result.now k c.self.view_is c.as_str.ensures.value c.in-None.ensures.index in
    let last : c.len-at.result ≡ length now = c.len-at.ensures ∙ i.values.ok.0 ∙ sym (length-pairs i.keys i.values.items now c.self.invariant c.self.view_is) in
    let grown : length c.insert.new.self ≡ length now + 1 = ap length (c.in_ok-insert-in-None.ensures.ok ∙ put-new k c.args.default now gone) ∙ length-append now ((k, c.args.default) ∷ []) in
    omega (arith, last, grown)

pub returns : goal.returns
returns g c =
    let i = c.self.inside in
    let now = c.args.self.now in
    let k = string_bytes c.args.key in
    let gone = get-missing i.keys i.values.items now c.as_str.result.now k c.self.view_is c.as_str.ensures.value c.in-None.ensures.index in
    let last : c.len-at.result ≡ length now = c.len-at.ensures ∙ i.values.ok.0 ∙ sym (length-pairs i.keys i.values.items now c.self.invariant c.self.view_is) in
    let ok = c.in_ok-insert-in-None.ensures.ok in
    let told = sym c.value_at_mut-in-None.ensures.value ∙ (λ j. slice_get (values_of ((ok ∙ put-new k c.args.default now gone) j)) (last j)) ∙ value-last k c.args.default now in (
      (refl, λ w _. (λ j. set_at (ok j) (last j) w) ∙ set_at-put-new k c.args.default w now gone, tt),
      record { writes_back = tt; value = same_some c.value_at_mut-in-None.result.now c.args.default c.args.default told ∙ sym (ap (λ o. unwrap_or o c.args.default) gone); absent = tt },
    )
