-- The documents that go through a pipeline: all that were found, as they come.
use Rattle.std.proofs.Common.{◌≡◌, ◌∙◌, ℕ, List, [], None, Result, Ok, Err, ap, subst}
use Rattle.store_asked.proofs.AskLemmas.{answered_as, refused_as}
use Rattle.store_asked.specs.Arranged.{AreArranged}
use Rattle.store_asked.specs.Asking.{AskedFrom}
use Rattle.store_model.specs.Reading.{Documents}
use Rattle.store_model.specs.declared.error.StoreError.{StoreError}
use Rattle.store_question.specs.Reads.{Form}
use Rattle.store_pipeline.proofs.SortLemmas.{as_they_came}
use Rattle.store_pipeline.specs.Bodies.{AreBodies, keys_of}
use Rattle.store_pipeline.specs.Order.{cut, Sorts}
use Rattle.store_pipeline.specs.declared.sorted.arrangement.Arrangement.{Arrangement}
use Rattle.store_table.specs.Rows.{TableRow}
use Rattle.fallowtime_commands.specs.Aggregating.{AreAll, Bodies}

module _ (g : Arrangement) (keys : g.keys.items ≡ []) (skip : g.skip ≡ 0) (limit : g.limit ≡ None) where
  all_arranged : (bodies : Bodies) (ds : Documents) → AreArranged g bodies ds → AreAll bodies ds
  all_arranged bodies ds (es, arranged, are) =
      let came = as_they_came ds arranged.all (subst (λ ks. Sorts (keys_of ks) ds arranged.all) keys arranged.sorts) in
      let whole : cut g.skip g.limit arranged.all ≡ arranged.all = ap (λ n. cut n g.limit arranged.all) skip ∙ ap (λ l. cut 0 l arranged.all) limit in
      subst (AreBodies bodies.items) (arranged.part ∙ whole ∙ came) are

  -- the arrangement has them all
  pub all_asked : (n : List ℕ) (form : Form) (r : Result Bodies StoreError) (docs after : List TableRow) → AskedFrom (AreArranged g) n form r docs after → AskedFrom AreAll n form r docs after
  all_asked n form (Ok bodies) docs after h = answered_as (AreArranged g) AreAll n form docs after bodies bodies (λ ds t. all_arranged bodies ds t) h
  all_asked n form (Err e) docs after h = refused_as (AreArranged g) AreAll n form docs after e h
