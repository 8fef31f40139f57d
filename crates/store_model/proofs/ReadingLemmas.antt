-- What inputs read as is as stated of every reading, and there is only one reading, with a single exception.
use Rattle.std.proofs.Common.{◌≡◌, ◌⊎◌, inl, inr, ℕ, ◌≤◌, List, [], ◌∷◌, ◌++◌, Option, Some, None, Result, Ok, Err, refl, ap, ◌∙◌, sym, subst, arith}
use Rattle.serde_json.specs.Data as json
use Rattle.serde_json.specs.Data.{Data, object}
use Rattle.bson_base.specs.Kinds.{AreBytes}
use Rattle.bson_base.specs.Value.{Value, document, Members, levels}
use Rattle.bson_bytes.specs.Spells.{settle}
use Rattle.bson_model.specs.JsonRead.{read, read_members}
use Rattle.bson_model.specs.declared.extjson.de.Error.{Error}
use Rattle.bson_meaning.specs.Gate.{level_limit, IsFaultyOrDeep}
use Rattle.bson_meaning.specs.JsonTrees.{IsJson, IsJsonObject}
use Rattle.bson_meaning.specs.declared.gating.GateError.{GateError}
use Rattle.bson_meaning.specs.declared.gating.GateError.TheVariants as gate
use Rattle.store_model.specs.Reading.{Documents, Reading, readable, unreadable, kind_of_gate_error, ReadsBytes, IsUnfit, KeepsRead, ReadsTree, value_of, read_value, ReadsEach, IsUncut, Cuts, ReadsStream, ReadsTrees, IsRead, AreRead, IsReadingKind, IsReading, IsStop, AreAllJson, MayBoth}
use Rattle.store_model.specs.State.{IsSoundIfAny}
use Rattle.store_model.specs.declared.error.ErrorKind.{ErrorKind}
use Rattle.store_model.specs.declared.error.ErrorKind.TheVariants.{EndInside, BadLength, TooDeep, Nul}
use Rattle.bson_bytes.proofs.MeaningLemmas.{meaning_is_clean, meaning_is_sound}
use Rattle.bson_bytes.proofs.OneTreeLemmas.{one_meaning}
use Rattle.bson_meaning.proofs.HeightLemmas.{settled_low}
use Rattle.bson_meaning.proofs.PayloadLemmas.{one_answer as one_of_the_gate}
use Rattle.bson_meaning.proofs.JsonSoundLemmas.{value_sound, document_sound}
use Rattle.store_model.proofs.RestoreLemmas.{in_order_read, fit}
use Rattle.bson_meaning.proofs.RefusalLemmas.{one_refusal as one_of_gate}

-- ---- bytes

gate_kind : (e : GateError) → IsReadingKind (kind_of_gate_error e)
gate_kind gate.EndInside = tt
gate_kind gate.BadLength = tt
gate_kind gate.NotTerminated = tt
gate_kind gate.Faulty = tt
gate_kind gate.TooDeep = tt

shallow : (bytes : List ℕ) (d : Members) → ReadsBytes bytes (readable d) → levels (document d) ≤ level_limit
shallow bytes d (h, m) =
    let i : d ≡ settle h.2.0 = one_meaning bytes d (settle h.2.0) m (h.2.0, h.1, h.2.1, refl) in
    subst (λ x. levels (document x) ≤ level_limit) (sym i) (omega (arith, settled_low h.2.0, h.2.2))

pub bytes_read : (bytes : List ℕ) (a : Reading) → AreBytes bytes → ReadsBytes bytes a → IsReading a
bytes_read bytes (readable d) b h = record { clean = meaning_is_clean bytes d b h.1; sound = meaning_is_sound bytes d b h.1; shallow = shallow bytes d h }
bytes_read bytes (unreadable k) b h = subst IsReadingKind (sym h.2) (gate_kind h.0)

-- ---- JSON

unfit_kind : (e : Members) (k : ErrorKind) → IsUnfit e k → IsReadingKind k
unfit_kind e TooDeep h = tt
unfit_kind e Nul h = tt
unfit_kind e _ h = absurd h

kept_reading : (js : json.Members) (r : Result Members Error) (a : Reading) → read_members js ≡ r → IsJsonObject js → KeepsRead r a → IsReading a
kept_reading js (Ok e) (readable d) i j h = subst IsRead (sym h.2) (in_order_read e h.1 (document_sound js e j i) h.0)
kept_reading js (Ok e) (unreadable k) i j h = unfit_kind e k h
kept_reading js (Err x) a i j h = subst IsReading (sym h) tt

pub tree_read : (j : Data) (a : Reading) → IsJson j → ReadsTree j a → IsReading a
tree_read (object js) a i h = kept_reading js (read_members js) a refl i h
tree_read _ a i h = subst IsReading (sym h) tt

pub value_read : (j : Data) → IsJson j → IsSoundIfAny (read_value j)
value_read j i = by (read j) refl
  where
    by : (r : Result Value Error) → read j ≡ r → IsSoundIfAny (value_of r)
    by (Ok v) e = value_sound j v i e
    by (Err x) e = tt

-- ---- many

-- what holds of each input
abbrev Each : {A : Type 0} → (A → Type 0) → List A → Type 0
Each P [] = Unit {0}
Each P (a ∷ as') = P a × Each P as'

each_read : {A : Type 0} (Reads : A → Reading → Type 0) (P : A → Type 0) → ((a : A) (x : Reading) → P a → Reads a x → IsReading x)
    → (xs : List A) (behind : Option ErrorKind) (ds : Documents) (stop : Option ErrorKind) → Each P xs → IsStop behind → ReadsEach Reads xs behind ds stop → AreRead ds × IsStop stop
each_read Reads P f [] behind [] stop p b h = (tt, subst IsStop (sym h) b)
each_read Reads P f [] behind (d ∷ ds) stop p b h = absurd h
each_read Reads P f (a ∷ more) behind [] None p b h = absurd h
each_read Reads P f (a ∷ more) behind [] (Some k) p b h = (tt, f a (unreadable k) p.0 h)
each_read Reads P f (a ∷ more) behind (d ∷ ds) stop p b h =
    let t = each_read Reads P f more behind ds stop p.1 b h.1 in
    ((f a (readable d) p.0 h.0, t.0), t.1)

front_bytes : (p rest : List ℕ) → AreBytes (p ++ rest) → AreBytes p × AreBytes rest
front_bytes [] rest h = (tt, h)
front_bytes (x ∷ p) rest h = let r = front_bytes p rest h.1 in ((h.0, r.0), r.1)

uncut_kind : (bytes : List ℕ) (k : ErrorKind) → IsUncut bytes k → IsReadingKind k
uncut_kind bytes EndInside h = tt
uncut_kind bytes BadLength h = tt
uncut_kind bytes _ h = absurd h

cut_bytes : (bytes : List ℕ) (ps : List (List ℕ)) (c : Option ErrorKind) → AreBytes bytes → Cuts bytes ps c → Each AreBytes ps × IsStop c
cut_bytes bytes [] None b h = (tt, tt)
cut_bytes bytes [] (Some k) b h = (tt, uncut_kind bytes k h.1)
cut_bytes bytes (p ∷ ps) c b (rest, e, n, h) =
    let f = front_bytes p rest (subst AreBytes e b) in
    let t = cut_bytes rest ps c f.1 h in
    ((f.0, t.0), t.1)

pub stream_read : (bytes : List ℕ) (ds : Documents) (stop : Option ErrorKind) → AreBytes bytes → ReadsStream bytes ds stop → AreRead ds × IsStop stop
stream_read bytes ds stop b (ps, c, s, h) = let t = cut_bytes bytes ps c b s in each_read ReadsBytes AreBytes bytes_read ps c ds stop t.0 t.1 h

all_json : (js : List Data) → AreAllJson js → Each IsJson js
all_json [] h = tt
all_json (j ∷ js) h = (h.0, all_json js h.1)

pub trees_read : (js : List Data) (ds : Documents) (stop : Option ErrorKind) → AreAllJson js → ReadsTrees js ds stop → AreRead ds × IsStop stop
trees_read js ds stop i h = each_read ReadsTree IsJson tree_read js None ds stop (all_json js i) tt h

-- ---- one reading

pub one_document : (bytes : List ℕ) (d e : Members) → ReadsBytes bytes (readable d) → ReadsBytes bytes (readable e) → d ≡ e
one_document bytes d e h k = one_meaning bytes d e h.1 k.1

pub not_both : (bytes : List ℕ) (d : Members) (k : ErrorKind) → ReadsBytes bytes (readable d) → ReadsBytes bytes (unreadable k) → ⊥
not_both bytes d k h r = one_of_the_gate bytes r.0 h.0 r.1

may_both : (e : GateError) → IsFaultyOrDeep e → MayBoth (kind_of_gate_error e)
may_both gate.Faulty h = tt
may_both gate.TooDeep h = tt
may_both gate.EndInside h = absurd h
may_both gate.BadLength h = absurd h
may_both gate.NotTerminated h = absurd h

pub one_refusal : (bytes : List ℕ) (k l : ErrorKind) → ReadsBytes bytes (unreadable k) → ReadsBytes bytes (unreadable l) → (k ≡ l) ⊎ (MayBoth k × MayBoth l)
one_refusal bytes k l (e, r, i) (f, s, j) = by (one_of_gate bytes e f r s)
  where
    by : (e ≡ f) ⊎ (IsFaultyOrDeep e × IsFaultyOrDeep f) → (k ≡ l) ⊎ (MayBoth k × MayBoth l)
    by (inl same) = inl (i ∙ ap kind_of_gate_error same ∙ sym j)
    by (inr both) = inr (subst MayBoth (sym i) (may_both e both.0), subst MayBoth (sym j) (may_both f both.1))

-- ---- one reading of a tree

unfit_one : (e : Members) (k l : ErrorKind) → IsUnfit e k → IsUnfit e l → k ≡ l
unfit_one e TooDeep TooDeep h j = refl
unfit_one e Nul Nul h j = refl
unfit_one e TooDeep Nul h j = absurd (omega (arith, h, j.0))
unfit_one e Nul TooDeep h j = absurd (omega (arith, j, h.0))
unfit_one e TooDeep _ h j = absurd j
unfit_one e Nul _ h j = absurd j
unfit_one e _ _ h j = absurd h

kept_one : (r : Result Members Error) (a b : Reading) → KeepsRead r a → KeepsRead r b → a ≡ b
kept_one (Ok e) (readable c) (readable d) h j = ap readable (h.2 ∙ sym j.2)
kept_one (Ok e) (readable c) (unreadable k) h j = absurd (fit e k h.0 h.1 j)
kept_one (Ok e) (unreadable k) (readable d) h j = absurd (fit e k j.0 j.1 h)
kept_one (Ok e) (unreadable k) (unreadable l) h j = ap unreadable (unfit_one e k l h j)
kept_one (Err x) a b h j = h ∙ sym j

pub one_tree : (j : Data) (a b : Reading) → ReadsTree j a → ReadsTree j b → a ≡ b
one_tree (object js) a b h k = kept_one (read_members js) a b h k
one_tree _ a b h k = h ∙ sym k
