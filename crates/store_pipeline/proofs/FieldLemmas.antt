-- The values, the fields and the documents of groups, one after the other.
use Rattle.std.proofs.Common.{◌≡◌, ◌∙◌, ◌⊎◌, inl, inr, ◌+◌, ◌<◌, ◌≤◌, ℕ, zero, suc, List, [], ◌∷◌, ◌++◌, Bor, length, get_or, map, drop, take, Option, Some, None, Result, Ok, Err, MatchResult, Vec, string_bytes, IsAscii, IsUtf8, append-nil, append_assoc, refl, sym, ap, subst, arith, lit<}
use Rattle.std.proofs.lemmas.List.{map-append, take_all, take_more}
use Rattle.std.proofs.lemmas.List.Elements.{filter_map-append}
use Rattle.std.proofs.lemmas.Str.{IsUtf8-from_ascii, IsUtf8-string_bytes}
use Rattle.std.specs.List.{cons_option, filter_map}
use Rattle.std.specs.declared.alloc.Global.{Global}
use Rattle.bson_base.proofs.MemberLemmas.{put_distinct, put_each}
use Rattle.bson_base.specs.Kinds.{IsCleanScalar, IsRangedScalar}
use Rattle.bson_base.specs.Value.{Members, Value, document, no_members, member, put}
use Rattle.bson_model.specs.View.{view}
use Rattle.bson_model.specs.declared.bson.Bson.{Bson}
use Rattle.bson_model.specs.declared.document.Document.{Document}
use Rattle.store_pipeline.proofs.OnceLemmas.{all_more}
use Rattle.store_model.specs.Reading.{Documents}
use Rattle.store_model.specs.State.{id_key}
use Rattle.store_model.specs.declared.error.ErrorKind.TheVariants.{Memory as Short}
use Rattle.store_pipeline.proofs.PlaceLemmas.{zip_at, zip_long}
use Rattle.store_pipeline.specs.Bodies.{AreBodies, AreLent, IsBody}
use Rattle.store_update.proofs.UpdateLemmas.{drop_at, drop_end, drop_none}
use Rattle.store_update.specs.Answer.{viewed}
use Rattle.store_update.specs.Number.{onward}
use Rattle.store_update.specs.Update.{Tells}
use Rattle.store_update.specs.declared.error.UpdateError.{UpdateError}
use Rattle.store_update.specs.declared.error.UpdateError.TheVariants.{Memory}
use Rattle.store_pipeline.proofs.AccumulatedLemmas.{accumulated_faithful}
use Rattle.store_pipeline.specs.Faithful.{AnswersMade, AreFaithful, IsFaithful}
use Rattle.store_pipeline.specs.Grouped.{AreGrouped, ReturnsValue, key_of}
use Rattle.store_pipeline.specs.Groups.{AreGroups, accumulated, given, group_of, groups_of, of_key, values_for, with_fields}
use Rattle.store_pipeline.specs.Operands.{taken}
use Rattle.store_pipeline.specs.Stages.{Makes, Stops}
use Rattle.store_pipeline.specs.Taken.{AreTrees, IsTreeIfAny}
use Rattle.store_pipeline.specs.declared.error.PipelineError.{PipelineError}
use Rattle.store_pipeline.specs.declared.error.PipelineError.TheVariants as why
use Rattle.store_pipeline.specs.declared.grouping.KeyGroup.{KeyGroup}
use Rattle.store_pipeline.specs.declared.stage.Accumulated.{Accumulated}
use Rattle.store_pipeline.specs.declared.stage.Accumulator.{Accumulator}
use Rattle.store_pipeline.specs.declared.stage.Grouping.{Grouping}
use Rattle.store_pipeline.specs.declared.stage.Stage.TheVariants as stage

-- ---- values

pub no_trees : (bs : List Bson) → bs ≡ [] → AreTrees bs []
no_trees bs e = (ap (map view) e, tt)

pub one_value : (old new : List Bson) (vs : List Value) (b : Bson) (o : Option Value) → AreTrees old vs → IsTreeIfAny (Some b) o → new ≡ old ++ b ∷ [] → AreTrees new (vs ++ cons_option o [])
one_value old new vs b None t one is = let bad : Some (view b) ≡ None = one.0 in absurd cc
one_value old new vs b (Some v) t one is =
    let some : Some (view b) ≡ Some v = one.0 in
    let same : view b ≡ v = cc in
    (ap (map view) is ∙ map-append view old (b ∷ []) ∙ ap (λ xs. xs ++ view b ∷ []) t.0 ∙ ap (λ x. vs ++ x ∷ []) same, all_more IsFaithful vs v t.1 one.1)

pub no_value : (old : List Bson) (vs : List Value) (o : Option Value) → AreTrees old vs → IsTreeIfAny None o → AreTrees old (vs ++ cons_option o [])
no_value old vs None t none = subst (λ (xs : List Value). AreTrees old xs) (sym (append-nil vs)) t
no_value old vs (Some v) t none = let bad : None ≡ Some v = none.0 in absurd cc

module _ (f : Accumulated) (bodies : List (Bor (List ℕ))) (ds : Documents) (are : AreLent bodies ds) (i : ℕ) where
  pub values_more : (none : Bor (List ℕ)) (old new : List Bson) → i < length bodies
      → ((vs : List Value) (d : Members) → AreTrees old vs → IsBody (get_or bodies i none).now d → AreTrees new (vs ++ cons_option (given f.accumulator (taken f.operand d)) []))
      → AreTrees old (values_for f (take i ds)) → AreTrees new (values_for f (take (i + 1) ds))
  values_more none old new low added before =
      let long = zip_long (λ b e. IsBody b.now e) bodies ds are in
      let d : Members = get_or ds i no_members in
      let is : IsBody (get_or bodies i none).now d = zip_at (λ b e. IsBody b.now e) i bodies ds none no_members are low in
      subst (λ (vs : List Value). AreTrees new vs)
      (sym (ap (values_for f) (take_more ds i no_members (omega (arith, low, long))) ∙ filter_map-append (λ e. given f.accumulator (taken f.operand e)) (take i ds) (d ∷ [])))
      (added (values_for f (take i ds)) d before is)

  pub values_all : (values : List Bson) → length bodies ≤ i → AreTrees values (values_for f (take i ds)) → AreTrees values (values_for f ds)
  values_all values end before =
      let long = zip_long (λ b e. IsBody b.now e) bodies ds are in
      subst (λ (es : Documents). AreTrees values (values_for f es)) (take_all i ds (omega (arith, end, long))) before

-- ---- fields

pub value_returned : (a : Accumulator) (bs : List Bson) (vs : List Value) (r : Result Bson UpdateError) → AreTrees bs vs → Tells (accumulated a (map view bs)) (viewed r) → ReturnsValue r (accumulated a vs)
value_returned a bs vs (Ok b) t told = let is = subst (λ (xs : List Value). accumulated a xs ≡ Ok (view b)) t.0 told in (is, accumulated_faithful a vs (view b) t.1 is)
value_returned a bs vs (Err e) t told = subst (λ (xs : List Value). (accumulated a xs ≡ Err e) ⊎ (e ≡ Memory)) t.0 told

put_faithful : (k : List ℕ) (v : Value) (ms : Members) → IsUtf8 k → IsFaithful v → IsFaithful (document ms) → IsFaithful (document (put k v ms))
put_faithful k v ms text new h = record {
  sound = record { ranged = put_each IsUtf8 IsRangedScalar k v ms text new.sound.ranged h.sound.ranged; distinct = put_distinct k v ms new.sound.distinct h.sound.distinct };
  settled = put_each (λ l. Unit {0}) IsCleanScalar k v ms tt new.settled h.settled;
}

id_ascii : IsAscii id_key
id_ascii zero = lit< tt
id_ascii (suc zero) = lit< tt
id_ascii (suc (suc zero)) = lit< tt
id_ascii (suc (suc (suc i))) = lit< tt

id_text : IsUtf8 id_key
id_text = IsUtf8-from_ascii id_key id_ascii

-- a document of the key alone
pub fields_begin : (fields : List Accumulated) (ds : Documents) (k : Value) (e : Members) → e ≡ member id_key k no_members → IsFaithful k
    → (with_fields fields ds (member id_key k no_members) ≡ with_fields (drop 0 fields) ds e) × IsFaithful (document e)
fields_begin fields ds k e is h = (
  ap (λ fs. with_fields fs ds (member id_key k no_members)) (sym (drop_none fields)) ∙ ap (with_fields (drop 0 fields) ds) (sym is),
  subst (λ (ms : Members). IsFaithful (document ms)) (sym is) (put_faithful id_key k no_members id_text h (record { sound = record { ranged = tt; distinct = tt }; settled = tt })),
)

module _ (fields : List Accumulated) (ds : Documents) (start : Members) (i : ℕ) (f : Accumulated) (now : Members) (low : i < length fields) (at : f ≡ get_or fields i f) (so_far : with_fields fields ds start ≡ with_fields (drop i fields) ds now) where
  next_field : with_fields fields ds start ≡ onward (accumulated f.accumulator (values_for f ds)) (λ v. with_fields (drop (i + 1) fields) ds (put (string_bytes f.name) v now))
  next_field = so_far ∙ ap (λ fs. with_fields fs ds now) (drop_at fields i f low at)

  one_field : (v : Value) (next : Members) → accumulated f.accumulator (values_for f ds) ≡ Ok v → next ≡ put (string_bytes f.name) v now → with_fields fields ds start ≡ with_fields (drop (i + 1) fields) ds next
  one_field v next is comes = next_field ∙ ap (λ r. onward r (λ w. with_fields (drop (i + 1) fields) ds (put (string_bytes f.name) w now))) is ∙ ap (with_fields (drop (i + 1) fields) ds) (sym comes)

  pub field_on : (v : Value) (k : List ℕ) (next : Members) → (accumulated f.accumulator (values_for f ds) ≡ Ok v) × IsFaithful v → k ≡ string_bytes f.name → next ≡ put k v now → IsFaithful (document now)
      → (with_fields fields ds start ≡ with_fields (drop (i + 1) fields) ds next) × IsFaithful (document next)
  field_on v k next told named comes h =
      let is : next ≡ put (string_bytes f.name) v now = comes ∙ ap (λ l. put l v now) named in
      (one_field v next told.0 is, subst (λ (ms : Members). IsFaithful (document ms)) (sym is) (put_faithful (string_bytes f.name) v now (IsUtf8-string_bytes f.name) told.1 h))

  pub no_field : (e : UpdateError) → (accumulated f.accumulator (values_for f ds) ≡ Err e) ⊎ (e ≡ Memory) → (with_fields fields ds start ≡ Err e) ⊎ (e ≡ Memory)
  no_field e (inl is) = inl (next_field ∙ ap (λ r. onward r (λ w. with_fields (drop (i + 1) fields) ds (put (string_bytes f.name) w now))) is)
  no_field e (inr memory) = inr memory

pub all_fields : (fields : List Accumulated) (ds : Documents) (start now : Members) (i : ℕ) → length fields ≤ i → with_fields fields ds start ≡ with_fields (drop i fields) ds now → with_fields fields ds start ≡ Ok now
all_fields fields ds start now i end h = h ∙ ap (λ fs. with_fields fs ds now) (drop_end fields i end)

-- ---- documents

pub behind_none : (r : Result Documents UpdateError) → r ≡ onward r (λ es. Ok ([] ++ es))
behind_none (Ok es) = refl
behind_none (Err e) = refl

module _ (g : Grouping) (ds : Documents) (groups : List KeyGroup) (i : ℕ) (group : KeyGroup) (made : Documents) (low : i < length groups) (at : group ≡ get_or groups i group)
    (so_far : groups_of g ds (map key_of groups) ≡ onward (groups_of g ds (map key_of (drop i groups))) (λ es. Ok (made ++ es))) where
  abbrev left : List Value
  left = map key_of (drop (i + 1) groups)

  next_group : groups_of g ds (map key_of groups) ≡ onward (onward (group_of g ds (key_of group)) (λ e. onward (groups_of g ds left) (λ es. Ok (e ∷ es)))) (λ es. Ok (made ++ es))
  next_group = so_far ∙ ap (λ gs. onward (groups_of g ds (map key_of gs)) (λ es. Ok (made ++ es))) (drop_at groups i group low at)

  one_group : (e : Members) → group_of g ds (key_of group) ≡ Ok e → groups_of g ds (map key_of groups) ≡ onward (groups_of g ds left) (λ es. Ok ((made ++ e ∷ []) ++ es))
  one_group e is = next_group ∙ ap (λ r. onward (onward r (λ x. onward (groups_of g ds left) (λ es. Ok (x ∷ es)))) (λ es. Ok (made ++ es))) is ∙ by (groups_of g ds left)
    where
      by : (r : Result Documents UpdateError) → onward (onward r (λ es. Ok (e ∷ es))) (λ es. Ok (made ++ es)) ≡ onward r (λ es. Ok ((made ++ e ∷ []) ++ es))
      by (Ok es) = ap Ok (sym (append_assoc made (e ∷ []) es))
      by (Err f) = refl

  pub group_on : (fields : List Accumulated) (e : Members) (next : Documents) → fields ≡ g.fields.items → (with_fields fields (of_key g.key (key_of group) ds) (member id_key (key_of group) no_members) ≡ Ok e) × IsFaithful (document e)
      → next ≡ made ++ e ∷ [] → AreFaithful made → (groups_of g ds (map key_of groups) ≡ onward (groups_of g ds left) (λ es. Ok (next ++ es))) × AreFaithful next
  group_on fields e next lent told comes h = (
    one_group e (ap (λ fs. with_fields fs (of_key g.key (key_of group) ds) (member id_key (key_of group) no_members)) (sym lent) ∙ told.0) ∙ ap (λ (l : Documents). onward (groups_of g ds left) (λ es. Ok (l ++ es))) (sym comes),
    subst AreFaithful (sym comes) (all_more (λ d. IsFaithful (document d)) made e h told.1),
  )

  pub no_group : (e : UpdateError) → (group_of g ds (key_of group) ≡ Err e) ⊎ (e ≡ Memory) → (groups_of g ds (map key_of groups) ≡ Err e) ⊎ (e ≡ Memory)
  no_group e (inl is) = inl (next_group ∙ ap (λ r. onward (onward r (λ x. onward (groups_of g ds left) (λ es. Ok (x ∷ es)))) (λ es. Ok (made ++ es))) is)
  no_group e (inr memory) = inr memory

pub all_groups : (g : Grouping) (ds : Documents) (groups : List KeyGroup) (i : ℕ) (made : Documents) → length groups ≤ i → groups_of g ds (map key_of groups) ≡ onward (groups_of g ds (map key_of (drop i groups))) (λ es. Ok (made ++ es)) → groups_of g ds (map key_of groups) ≡ Ok made
all_groups g ds groups i made end h = h ∙ ap (λ gs. onward (groups_of g ds (map key_of gs)) (λ es. Ok (made ++ es))) (drop_end groups i end) ∙ ap Ok (append-nil made)

-- ---- all groups

-- why a pipeline is stopped
abbrev pub IsStopped : UpdateError → PipelineError → Type 0
IsStopped e p = ((e ≡ Memory → ⊥) × (p ≡ why.Calculation e)) ⊎ ((e ≡ Memory) × (p ≡ why.Document Short))

module _ (g : Grouping) (ds : Documents) (groups : List KeyGroup) (h : AreGrouped g.key ds groups) where
  grouped_so : (r : Result Documents UpdateError) → groups_of g ds (map key_of groups) ≡ r → AreGroups g ds r
  grouped_so r e = (map key_of groups, h.once, sym e)

  pub groups_written : (es slice : Documents) (r : Result (Vec (Vec ℕ Global) Global) PipelineError) → (groups_of g ds (map key_of groups) ≡ Ok es) × AreFaithful es → slice ≡ es → (AreFaithful slice → AnswersMade slice r)
      → MatchResult r (λ made. (fs : Documents) × Makes (stage.Group g) ds (Ok fs) × AreBodies made.items fs) (Stops (stage.Group g) ds)
  groups_written es slice r told lent wrote = by r (subst (λ (l : Documents). AnswersMade l r) lent (wrote (subst AreFaithful (sym lent) told.1)))
    where
      by : (r : Result (Vec (Vec ℕ Global) Global) PipelineError) → AnswersMade es r → MatchResult r (λ made. (fs : Documents) × Makes (stage.Group g) ds (Ok fs) × AreBodies made.items fs) (Stops (stage.Group g) ds)
      by (Ok made) w = (es, (Ok es, grouped_so (Ok es) told.0, w.0), w.1)
      by (Err p) (inl w) = inl (Ok es, grouped_so (Ok es) told.0, w)
      by (Err p) (inr memory) = inr memory

  pub groups_stopped : (e : UpdateError) (p : PipelineError) → (groups_of g ds (map key_of groups) ≡ Err e) ⊎ (e ≡ Memory) → IsStopped e p → Stops (stage.Group g) ds p
  groups_stopped e p (inl is) (inl stopped) = inl (Err e, grouped_so (Err e) is, ap Err stopped.1)
  groups_stopped e p (inl is) (inr memory) = inr memory.1
  groups_stopped e p (inr is) (inl stopped) = absurd (stopped.0 is)
  groups_stopped e p (inr is) (inr memory) = inr memory.1
