use Rattle.std.proofs.Common.{◌∷◌, [], arith, inl, inr, refl, sym}
use Rattle.std.proofs.lemmas.Result.{err_from_is_err_and}
use Rattle.store_question.specs.Filters.{path_of}
use Rattle.fallowtime_words.specs.declared.table.Argument.TheVariants.{Collection, IndexPath, Query}
use Rattle.fallowtime_requests.specs.Inputs.{seen}
use Rattle.fallowtime_requests.specs.Reading.{IsUnread}
use Rattle.fallowtime_requests.proofs.CountLemmas.{not_two_or_three}
use Rattle.fallowtime_requests.proofs.UpdateLemmas.{of_three}
use Rattle.fallowtime_requests.proofs.reading.with_path_and_query.Goals as goal
use Rattle.fallowtime_requests.proofs.reading.with_path_and_query.Goals.{in_default-via-then-arguments-lt2, in_default-via-else-arguments-lt2+else-arguments-lt3+else-arguments-lt4}

pub returns-in_default : goal.returns-in_default
returns-in_default c =
    λ m. inl (
      not_two_or_three seen Collection IndexPath Query c.args.arguments.now (λ x. x) (λ x. x)
          (λ e. elim c.in_default.branch [ in_default-via-then-arguments-lt2 w ↦ grind arith | in_default-via-else-arguments-lt2+else-arguments-lt3+else-arguments-lt4 w ↦ grind arith ])
          (λ e. elim c.in_default.branch [ in_default-via-then-arguments-lt2 w ↦ grind arith | in_default-via-else-arguments-lt2+else-arguments-lt3+else-arguments-lt4 w ↦ grind arith ]),
      refl,
    )

pub returns-in_err-query_in-in-len3 : goal.returns-in_err-query_in-in-len3
returns-in_err-query_in-in-len3 c =
    let p = err_from_is_err_and c.from_residual-in_err-query_in-in-len3.result c.from_residual-in_err-query_in-in-len3.ensures.1 in
    rw (p.1, p.2) (
    λ m.
    of_three seen (λ gs. IsUnread m (Collection ∷ IndexPath ∷ Query ∷ []) gs c.in_err-query_in-in-len3.field-0.0) c.args.arguments.now
    c.name-item-then-arguments-lt4.result c.path-item-then-arguments-lt4.result c.query-item.result
    (omega (arith, c.in-len3.len_at_least, c.in-len3.len_below)) (sym c.name-item-then-arguments-lt4.is) (sym c.path-item-then-arguments-lt4.is) (sym c.query-item.is)
    (inr (tt, inr ((c.in_ok-name-in-len3.name.now, c.in_ok-name-in-len3.ensures), inr ((path_of c.in_ok-path-in-len3.path.items, c.in_ok-path-in-len3.ensures), inl c.in_err-query_in-in-len3.ensures))))
    )
