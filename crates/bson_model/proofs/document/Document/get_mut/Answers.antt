use Rattle.std.specs.Option.{option_map}
use Rattle.std.proofs.Common.{refl, sym, ap, ◌∙◌}
use Rattle.bson_model.specs.View.{view}
use Rattle.bson_model.specs.declared.document.Document.{roll-Document}
use Rattle.bson_model.proofs.ViewLemmas.{view_of_mut}
use Rattle.bson_pairs.proofs.KeyedLemmas.{over, get-over, put-over, on_some_weaker}
use Rattle.bson_model.proofs.document.Document.get_mut.Goals as goal

pub returns : goal.returns
returns c =
    let ps = c.args.self.now.pairs in
    let k = c.args.key.now in (
      (
        refl,
        λ w. on_some_weaker c.get_mut.result (λ e. ap (over view) e ∙ sym (put-over view k w ps)) (c.get_mut.follows.holds w),
        ap (λ ps. roll-Document (record { pairs = ps })) c.get_mut.follows.holds-at-none,
      ),
      view_of_mut c.get_mut.result ∙ ap (option_map view) c.get_mut.ensures.value ∙ sym (get-over view k ps),
    )
