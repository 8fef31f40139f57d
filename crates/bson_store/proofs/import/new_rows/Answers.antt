use Rattle.std.proofs.Common.{◌≡◌, ◌+◌, ◌<◌, ◌++◌, ◌∷◌, [], List, ℕ, add-one, get_or, length, subst, sym, take, arith}
use Rattle.std.specs.List.{AllZip}
use Rattle.std.proofs.Math.Seq.{take-suc}
use Rattle.store_table.specs.declared.row.NewRow.{NewRow}
use Rattle.store_documents.specs.declared.write.KeptRow.{KeptRow}
use Rattle.bson_store.specs.Many.{Lends}
use Rattle.bson_store.proofs.import.new_rows.Goals as goal

-- one row more lends
lends_last : (rs : List NewRow) (ws : List KeptRow) (r : NewRow) (w : KeptRow) → AllZip Lends rs ws → Lends r w → AllZip Lends (rs ++ r ∷ []) (ws ++ w ∷ [])
lends_last [] [] r w h l = (l, tt)
lends_last [] (v ∷ ws) r w h l = absurd h
lends_last (q ∷ rs) [] r w h l = absurd h
lends_last (q ∷ rs) (v ∷ ws) r w h l = (h.0, lends_last rs ws r w h.1 l)

lends_more : (rs : List NewRow) (ws : List KeptRow) (i : ℕ) (r : NewRow) (w : KeptRow) → i < length ws → AllZip Lends rs (take i ws) → w ≡ get_or ws i w → Lends r w → AllZip Lends (rs ++ r ∷ []) (take (i + 1) ws)
lends_more rs ws i r w low h is l = rw add-one (subst (AllZip Lends (rs ++ r ∷ [])) (sym (take-suc ws i w low)) (lends_last rs (take i ws) r (get_or ws i w) h (subst (Lends r) is l)))

pub loop-row-preserved : goal.loop-row-preserved
loop-row-preserved c =
    let rows = c.args.rows.now in
    let i = c.loop-row.row-index in
    let low : i < length rows = omega (arith, c.loop-row-test.true, c.loop-row.auto.row-index-end) in
    subst (λ (rs : List NewRow). AllZip Lends rs (take (i + 1) rows)) (sym c.in_ok-push.ensures.items)
    (lends_more c.loop-row.new.items rows i _ c.row-item.result low c.loop-row.invariant c.row-item.is (c.as_slice.ensures.value, c.as_slice-in-loop-row.ensures.value))
