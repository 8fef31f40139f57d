-- `get_document_mut` is two calls: the first lends the pairs, and the second the document under the key of these. Assumes `Logic`.
use seplogic.Ra.Ura.{Ura}
use types.Logic.{Logic}
use mathlib.Core.Path.{◌≡◌, refl, ap, subst, ◌∙◌}
use mathlib.Core.List.{List, [], ◌∷◌}
use Prim.Native.Nat.{ℕ}
use Rattle.std.specs.Prelude.{IsOk, OnErr, map}
use Rattle.std.specs.Borrow.{name_if_ok}
use Rattle.std.proofs.raw_atomic.Walks.{proved}
use base.Logic.{id⊢}
use base.Fml.{ftrue, flft}
use mir.Syntax.{named, w8}
use mir.Val.{Val}
use contract.Monad.{fact}
use contract.Running.{tables}
use types.Kit.{‵, raw, ◌⊛◌, some, later, ◌$◌, ◌∵◌, !, qed, done, move, keep, drop, use2, use1, split, split3, join, fsplit3, fjoin3, feq_i, feq_l, pick, await, suffices, frame, group}
use types.Run.{enter, addr, stop, no_more, and_then, returns}
use types.ByLocal.{alloc_all, pass_all, free_all, look_at, get as read, through, sets, lands_as}
use denote.RattleType.{RattleType}
use denote.Exit.{yes, no}
use denote.Laws.{shows, Lawful}
use denote.Plain.{UInt}
use denote.Ref.{NamedLft, MutRef, MutBor, mut_vals, mut_Tells}
use denote.Slice.{ShrSlice, shr_slice_vals, shr_slice_Tells}
use denote.Text.{Str, StrRefOf, Utf8}
use denote.Such.{such_Tells}
use denote.Signature.{plain}
use denote.Steps.{nothing, heard, peeks, only}
use denote.Struct.Field.{mut_ref_field}
use denote.Struct.Laws.{mut_ref_laws}
use denote.Struct.Loose.{loosen}
use denote.Enum.Loose.{row_lawful}
use denote.Param.Laws.{row_loose}
use denote.Triple.Call.{calls_at}
use denote.Triple.Clauses.{lasts}
use denote.Triple.Spec.{triple_of}
use denote.Triple.Table.{framed}
use denote.Triple.Walked.{Stays, says, stay_dropped, Goes-dropped, Goes-spent_ref, ends_at}
use Rattle.std.specs.contracts.result.Result as result
use Rattle.bson_base.specs.Value.{Value}
use Rattle.bson_base.specs.Answer.{result_map}
use Rattle.bson_pairs.specs.Keyed.{Key, get, put}
use Rattle.bson_model.specs.Accessors.{of_kind, as_document}
use Rattle.bson_model.specs.Lending.{pairs_row, document_of, LendsPairs, LendsDocumentIn, LendsPart}
use Rattle.bson_model.specs.Rows.{document_row}
use Rattle.bson_model.specs.Trees.{document_tree}
use Rattle.bson_model.specs.View.{pair_view, pairs_of, members_of}
use Rattle.bson_model.specs.declared.bson.Bson.{Bson}
use Rattle.bson_model.specs.contracts.document.ValueAccessError as error
use Rattle.bson_model.proofs.document.ValueAccessError.TheLaws as error-laws
use Rattle.bson_model.proofs.LendLemmas.{onward}
use Rattle.bson_model.specs.contracts.document.Document.get_document_mut as f
use Rattle.bson_model.proofs.document.Document.get_document_mut.Statement.{statement}
use Rattle.bson_model.proofs.document.Document.get_document_mut.Code as code
use Rattle.bson_model.specs.contracts.document.Document.pairs_mut as g
use Rattle.bson_model.proofs.document.Document.pairs_mut.Met as g-thm
use Rattle.bson_model.specs.contracts.document.lent.document_in as h
use Rattle.bson_model.proofs.document.lent.document_in.Met as h-thm

abbrev R : RattleType
R = document_row

-- the pairs of a document, with each value seen
abbrev seen : List (Key × Bson) → List (Key × Value)
seen = map pair_view

abbrev Lent : List ℕ → RattleType
Lent κ = result.the_row (MutRef (named 0) κ R) error.the_row

lawful : {M : Type 1} {𝓤 : Ura M} (𝓛 : Logic 𝓤) (κ : List ℕ) → Lawful 𝓛 (Lent κ)
lawful 𝓛 κ =
    let a : NamedLft = record { mir = named 0; lft = κ } in
    row_lawful 𝓛 (result.the_type (MutRef (named 0) κ R) error.the_row) ((loosen (mut_ref_field a R tt) (mut_ref_laws a R tt), tt), ((row_loose error.the_row error-laws.the_row_laws, tt), tt)) tt

abbrev stayed : Stays f.ended.signature.params f.ended.kept
stayed = (stay_dropped _ no, (stay_dropped _ yes, tt))

pub get_document_mut_spec : {M : Type 1} → statement M
get_document_mut_spec 𝓤 𝓛 𝓜 𝓡 wired =
    let c = f.clauses 𝓛 𝓜.mem 𝓡.returns in
    let G = triple_of 𝓛 g.signature (g.spec 𝓛 𝓜.mem 𝓡.returns) in
    let H = triple_of 𝓛 h.signature (h.spec 𝓛 𝓜.mem 𝓡.returns) in
    proved 𝓛 f.ended stayed c 𝓜 𝓡 (Goes-spent_ref 𝓛 2 (0 ∷ []) tt (plain (λ _. R)), (Goes-dropped 𝓛 2 (StrRefOf (1 ∷ []) tt) yes (λ κs x w. refl), tt))
    f.Key.name code.function (code.unfolded 𝓤 𝓛.H 𝓜 𝓡 wired)
    (λ κs. (mut_vals, (shr_slice_vals, tt)))
    (λ κs. (mut_Tells (named 0) κs.0 R, (such_Tells (ShrSlice (named 1) κs.1.0 (UInt w8)) (λ x. Utf8 x.now) (λ x cs. (tt, tt)) shr_slice_vals (shr_slice_Tells (named 1) κs.1.0 (UInt w8)), tt)))
    (λ κs qs bounds a _ are.
    let κ = κs.0 in let q = qs.0 in let s = a.0 in let k = a.1.0 in
    let Tokens = ‵ (flft κ q) ⊛ ‵ (flft κs.1.0 qs.1.0) ⊛ ‵ ftrue in
    qed 𝓛 ((Tokens ⊛ ‵ ((MutRef (named 0) κ R).own_val s (mut_vals s)) ⊛ ‵ ((Str (named 1) κs.1.0).own_val k (shr_slice_vals k)) ⊛ ‵ ftrue) ∷ ‵ ftrue ∷ []) ∵
    split ! $ split3 ! $ move ! (3 ∷ []) $ split3 ! $ keep ! (0 ∷ 1 ∷ 3 ∷ 4 ∷ []) $
    -- [self; key; their tokens]
    enter ! _ _ _ _ _ $ alloc_all ! (λ l. pass_all ! refl ((tt, tt), ((tt, (tt, (record { fits = are.1.0.0.0.1.0 }, tt))), tt)) $
    sets ! (addr ! (through ! refl (stop !))) refl (tt, tt) $
    let y : G.Ghost = (((κ, tt), (q, tt), tt, (s, tt), (mut_vals s, tt)), tt) in
    nothing ! $ move ! (1 ∷ 0 ∷ []) $ join ! $ nothing ! $ move ! (3 ∷ 0 ∷ []) $ join ! $ join ! $
    nothing ! $ move ! (1 ∷ 0 ∷ []) $ use2 𝓛 (raw (G.pre y)) (id⊢ 𝓤 _) $
    calls_at ! (framed 𝓤 𝓛.H 𝓜 (tables 𝓤 𝓛.H 𝓜 𝓡 𝓡.env)) G (g-thm.met 𝓤 𝓛 𝓜 𝓡 (code.calls-bson_model::document::Document::pairs_mut 𝓡.env wired)) y
    (and_then ! (read ! refl) (no_more !)) (λ v.
    use1 𝓛 (later (some (λ (u : MutBor (List (Key × Bson))). ((‵ (flft κ q) ⊛ ‵ ftrue) ⊛ ‵ ((MutRef (named 0) κ pairs_row).own_val u (v ∷ []))) ⊛
    some (λ (ws : Unit {0} × Unit {0}). ‵ (lasts g.ended (κ, tt) (s, tt) ws) ⊛ ‵ (LendsPairs s u) ⊛ raw (fact 𝓤 (u.now ≡ (s.now).pairs)))))) (id⊢ 𝓤 _) $
    await ! tt $ pick ! (λ u. split ! $ split ! $ split ! $ move ! (2 ∷ []) $ fsplit3 ! $ feq_l ! (λ is_u.
    lands_as ! (ap only is_u) refl (tt, tt) $
    feq_i ! (List Val) (mut_vals u) (mut_vals u) refl $ fjoin3 ! $
    -- [the pairs; the token of self; nothing; what was ensured; key; its token]
    move ! (3 ∷ []) $ pick ! (λ ws. split3 ! $ drop ! $ move ! (1 ∷ []) $ heard ! _ (λ now_is.
    -- [self follows items; the pairs; the token of self; nothing; key; its token]
    let x : H.Ghost = ((κs, qs, tt, (u, (k, tt)), (mut_vals u, (shr_slice_vals k, tt))), tt) in
    move ! (4 ∷ 3 ∷ []) $ join ! $ move ! (2 ∷ 0 ∷ []) $ join ! $ nothing ! $ move ! (4 ∷ 0 ∷ []) $ join ! $ move ! (3 ∷ 0 ∷ []) $ join ! $ join ! $
    nothing ! $ move ! (1 ∷ 0 ∷ []) $ use2 𝓛 (raw (H.pre x)) (id⊢ 𝓤 _) $
    calls_at ! (framed 𝓤 𝓛.H 𝓜 (tables 𝓤 𝓛.H 𝓜 𝓡 𝓡.env)) H (h-thm.met 𝓤 𝓛 𝓜 𝓡 (code.calls-bson_model::document::lent::document_in 𝓡.env wired)) x
    (and_then ! (read ! refl) (and_then ! (read ! refl) (no_more !))) (λ v₁.
    use1 𝓛 (later (some (λ (r : (Lent κ).Denot). (Tokens ⊛ ‵ ((Lent κ).own_val r (v₁ ∷ []))) ⊛
    some (λ (ws : Unit {0} × (Unit {0} × Unit {0})). ‵ (lasts h.ended κs (u, (k, tt)) ws) ⊛ ‵ (LendsDocumentIn u k.now r) ⊛ raw (fact 𝓤 (result_map (λ d. members_of (pairs_of d.now)) r ≡ of_kind as_document (get k.now (seen u.now)))))))) (id⊢ 𝓤 _) $
    await ! tt $ pick ! (λ r. split ! $ split ! $ move ! (1 ∷ []) $ peeks ! (Lent κ) _ (shows 𝓛 (Lent κ)) r (v₁ ∷ []) (λ is_r.
    lands_as ! refl refl ((lawful 𝓛 κ).typed r (v₁ ∷ []) is_r).0 $
    returns ! (look_at ! 0 refl) $ free_all ! refl $
    -- [the result; the tokens; what was ensured; self follows the pairs]
    move ! (2 ∷ []) $ pick ! (λ ws₁. split3 ! $ drop ! $ move ! (1 ∷ []) $ heard ! _ (λ value. move ! (0 ∷ 3 ∷ []) $
    use2 𝓛 (‵ (LendsPart document_row document_tree s k.now r)) (onward 𝓛 R pairs_row R s.ghost_name u.ghost_name document_of (name_if_ok (λ m. m.ghost_name) r)
    (λ w n. IsOk r → seen n ≡ put k.now (document_tree w) (seen u.now)) (λ n. OnErr r (seen n ≡ seen u.now))
    (λ w n. IsOk r → pairs_of n ≡ put k.now (document_tree w) (pairs_of s.now)) (λ n. OnErr r (pairs_of n ≡ pairs_of s.now))
    (λ w n p. subst (λ (ps : List (Key × Bson)). IsOk r → seen n ≡ put k.now (document_tree w) (seen ps)) now_is p)
    (λ n p. subst (λ (ps : List (Key × Bson)). OnErr r (seen n ≡ seen ps)) now_is p)) $
    suffices ! _ (ends_at 𝓛 f.ended stayed c ((κs, qs, bounds, a, (mut_vals s, (shr_slice_vals k, tt))), tt) v₁ r (tt, (tt, tt)) (tt, (tt, tt))) $
    nothing ! $ nothing ! $ join ! $ nothing ! $ join ! $ move ! (3 ∷ 0 ∷ 2 ∷ []) $ group ! 3 $ frame ! $
    says ! (value ∙ ap (λ (ps : List (Key × Bson)). of_kind as_document (get k.now (seen ps))) now_is) $ done !))))))))))))
