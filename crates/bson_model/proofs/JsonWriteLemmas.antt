-- Writing goes on from what is written so far.
use Rattle.std.proofs.Common.{◌≡◌, List, [], ◌∷◌, ◌++◌, map, Option, Some, None, option_map, option_and_then, refl, sym, ap, ◌∙◌}
use Rattle.serde_json.specs.Data.{Items, no_items, item}
use Rattle.serde_json.specs.View.{view as data_of, items_view}
use Rattle.serde_json.specs.declared.value.Value.{Value}
use Rattle.bson_base.specs.Value.{Items as Trees}
use Rattle.bson_model.specs.JsonWrite.{write, write_items}
use Rattle.bson_model.specs.View.{view, items_of}
use Rattle.bson_model.specs.declared.bson.Bson.{Bson}
use Rattle.bson_model.specs.declared.extjson.ser.Mode.{Mode}

-- the trees of some values
abbrev pub trees : List Bson → Trees
trees bs = items_of (map view bs)

abbrev pub items_then : Items → Items → Items
items_then no_items js = js
items_then (item j is) js = item j (items_then is js)

items_then-none : (js : Items) → items_then js no_items ≡ js
items_then-none no_items = refl
items_then-none (item j js) = ap (item j) (items_then-none js)

items_then-more : (vs : List Value) (v : Value) (js : Items) → items_then (items_view vs) (item (data_of v) js) ≡ items_then (items_view (vs ++ v ∷ [])) js
items_then-more [] v js = refl
items_then-more (w ∷ vs) v js = ap (item (data_of w)) (items_then-more vs v js)

-- js, and then what is written
abbrev pub after_items : Items → Option Items → Option Items
after_items js o = option_map (items_then js) o

after_items-more : (vs : List Value) (v : Value) (o : Option Items) → after_items (items_view vs) (option_map (item (data_of v)) o) ≡ after_items (items_view (vs ++ v ∷ [])) o
after_items-more vs v (Some js) = ap Some (items_then-more vs v js)
after_items-more vs v None = refl

pub items_step : (m : Mode) (all : Option Items) (vs ws : List Value) (bs cs : List Bson) (b : Bson) (v : Value)
    → all ≡ after_items (items_view vs) (write_items m (trees bs)) → bs ≡ b ∷ cs → write m (view b) ≡ Some (data_of v) → ws ≡ vs ++ v ∷ []
    → all ≡ after_items (items_view ws) (write_items m (trees cs))
items_step m all vs ws bs cs b v so first is more =
    so ∙ ap (λ us. after_items (items_view vs) (write_items m (trees us))) first
    ∙ ap (λ o. after_items (items_view vs) (option_and_then (λ j. option_map (item j) (write_items m (trees cs))) o)) is
    ∙ after_items-more vs v (write_items m (trees cs)) ∙ ap (λ us. after_items (items_view us) (write_items m (trees cs))) (sym more)

pub items_end : (m : Mode) (all : Option Items) (vs : List Value) (bs : List Bson)
    → all ≡ after_items (items_view vs) (write_items m (trees bs)) → bs ≡ [] → all ≡ Some (items_view vs)
items_end m all vs bs so none = so ∙ ap (λ us. after_items (items_view vs) (write_items m (trees us))) none ∙ ap Some (items_then-none (items_view vs))
