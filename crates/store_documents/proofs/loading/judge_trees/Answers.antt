use Rattle.std.proofs.Common.{◌≡◌, [], ◌∷◌, ◌++◌, map, ap, sym, ◌∙◌, subst, append_assoc}
use Rattle.std.specs.Vec.Iter.{into_iter_items}
use Rattle.std.proofs.lemmas.List.{append-nil, nil_from_length}
use Rattle.serde_json.specs.View.{view as data_of}
use Rattle.store_model.specs.Reading.{ReadsTrees}
use Rattle.store_documents.specs.Judging.{Judges}
use Rattle.store_documents.proofs.loading.judge_trees.Goals as goal

pub loop-json-init : goal.loop-json-init
loop-json-init c = ([], c.new-loader.ensures, ap (λ us. map data_of us) c.into_iter-json-iterator.ensures.into_iter_gives.0)

pub loop-json-preserved : goal.loop-json-preserved
loop-json-preserved c =
    let ws = into_iter_items c.next.new.self in
    let first : into_iter_items c.loop-json.json-iterator ≡ c.in-Some.json ∷ ws = c.in-Some.ensures.steps.0 in
    let js = c.loop-json.invariant.0 in (
      js ++ data_of c.in-Some.json ∷ [],
      c.take.ensures js c.loop-json.invariant.1,
      append_assoc js (data_of c.in-Some.json ∷ []) (map data_of ws) ∙ ap (λ us. js ++ map data_of us) (sym first) ∙ c.loop-json.invariant.2,
    )

pub returns : goal.returns
returns c =
    let left = c.loop-json.json-iterator.rest in
    let vs = into_iter_items c.loop-json.json-iterator in
    let ended : vs ≡ [] = nil_from_length left.items (sym left.ok.0 ∙ c.in-None.ensures.steps.0) in
    let js = c.loop-json.invariant.0 in
    let all : js ≡ map data_of c.args.trees.items = sym (append-nil js) ∙ ap (λ us. js ++ map data_of us) (sym ended) ∙ c.loop-json.invariant.2 in
    subst (λ l. Judges (ReadsTrees l) c.finish.result) all (c.finish.ensures js c.loop-json.invariant.1)
