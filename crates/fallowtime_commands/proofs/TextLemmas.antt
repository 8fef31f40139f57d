-- Texts of stored documents, one after the other.
use Rattle.std.proofs.Common.{◌≡◌, ◌<◌, ◌≤◌, ◌+◌, ℕ, zero, suc, List, [], ◌∷◌, ◌++◌, length, map, drop, get_or, Ok, Err, string_bytes, Vec, refl, ap, sym, ◌∙◌, subst, append_assoc, append-nil, zero-add, arith}
use Rattle.std.proofs.lemmas.List.{drop_all, length-map}
use Rattle.std.specs.declared.alloc.Global.{Global}
use Rattle.json.specs.Json.{Items, no_items, item}
use Rattle.json.specs.Print.{print}
use Rattle.json.specs.Tree.{json_tokens}
use Rattle.bson_base.specs.Value.{Members as Document, document}
use Rattle.bson_bytes.specs.Encode.{encode}
use Rattle.bson_json.specs.Form.{WritesItems}
use Rattle.bson_model.specs.View.{items_of}
use Rattle.bson_model.specs.declared.extjson.ser.Mode.TheVariants.{Canonical}
use Rattle.bson_store.specs.Export.{bytes_of_each}
use Rattle.cli_convert.specs.declared.printed.PrintFault.{PrintFault}
use Rattle.cli_convert.specs.declared.printed.PrintFault.TheVariants.{ReservedKey, Damaged, Memory}
use Rattle.store_model.specs.State.{IsKept, AreKept}
use Rattle.fallowtime_commands.specs.Answers.{AreFree, IsFirstReserved}
use Rattle.fallowtime_commands.specs.Objects.{IsFaultAt, PutsBodies, PutsBody, comma_before, items_text}

abbrev pub Bodies : Type 0
Bodies = List (Vec ℕ Global)

-- the bodies are those of these documents
abbrev pub AreBodies : Bodies → List Document → Type 0
AreBodies bodies ds = AreKept ds × (bytes_of_each bodies ≡ map encode ds)

-- what is the text of the rest after this line is the text of all
abbrev pub EndsWell : ℕ → List Document → List Document → List ℕ → List ℕ → Type 0
EndsWell i ds rest old now =
    (js : Items) → AreFree rest → WritesItems Canonical (items_of (map document rest)) js → AreFree ds × ((all : Items) × WritesItems Canonical (items_of (map document ds)) all × (now ++ items_text i js ≡ old ++ items_text 0 all))

-- the first of the rest that has a reserved key is the first of all
abbrev pub CountsOn : ℕ → List Document → List Document → Type 0
CountsOn i ds rest = (k : ℕ) (path : List ℕ) → IsFirstReserved rest k path → IsFirstReserved ds (i + k) path

-- after i documents
pub record SoFar (bodies : Bodies) (old now : List ℕ) (i : ℕ) : Type 0 where
  pub ends : (ds : List Document) → AreBodies bodies ds → EndsWell i ds (drop i ds) old now
  pub counts : (ds : List Document) → AreBodies bodies ds → CountsOn i ds (drop i ds)

-- ---- one document more

heads : {A : Type 0} (x y : A) (xs ys : List A) → x ∷ xs ≡ y ∷ ys → x ≡ y
heads x y xs ys e = cc

tails : {A : Type 0} (x y : A) (xs ys : List A) → x ∷ xs ≡ y ∷ ys → xs ≡ ys
tails x y xs ys e = cc

-- the document of the body at a place, and the later ones
pub record IsAt (ds : List Document) (i : ℕ) (body : List ℕ) : Type 0 where
  pub here : Document
  pub rest : List Document
  pub from : drop i ds ≡ here ∷ rest
  pub behind : drop (suc i) ds ≡ rest
  pub kept : IsKept here
  pub is : body ≡ encode here

at_place : (bodies : Bodies) (ds : List Document) (i : ℕ) (b : Vec ℕ Global) → AreBodies bodies ds → i < length bodies → get_or bodies i b ≡ b → IsAt ds i b.items
at_place [] ds i b are within at = absurd (omega (arith, within))
at_place (c ∷ cs) [] i b (kept, are) within at = absurd cc
at_place (c ∷ cs) (d ∷ ds) zero b (kept, are) within at = record {
  here = d;
  rest = ds;
  from = refl;
  behind = refl;
  kept = kept.0;
  is = ap (λ (v : Vec ℕ Global). v.items) (sym at) ∙ heads c.items (encode d) (bytes_of_each cs) (map encode ds) are;
}
at_place (c ∷ cs) (d ∷ ds) (suc i) b (kept, are) within at =
    let more = at_place cs ds i b (kept.1, tails c.items (encode d) (bytes_of_each cs) (map encode ds) are) (omega (arith, within)) at in
    record { here = more.here; rest = more.rest; from = more.from; behind = more.behind; kept = more.kept; is = more.is }

pub text_moved : (old now new comma text more : List ℕ) → new ≡ now ++ (comma ++ text) → new ++ more ≡ now ++ (comma ++ (text ++ more))
text_moved old now new comma text more e = ap (λ bs. bs ++ more) e ∙ append_assoc now (comma ++ text) more ∙ ap (λ bs. now ++ bs) (append_assoc comma text more)

module _ (bodies : Bodies) (old now new body : List ℕ) (i : ℕ) (b : Vec ℕ Global) (so : SoFar bodies old now i) (within : i < length bodies) (at : get_or bodies i b ≡ b) (is_its : body ≡ b.items) where
  pub one_more : PutsBody i body now new (Ok tt) → SoFar bodies old new (suc i)
  one_more puts = record { ends = λ ds are. ends ds are (at_place bodies ds i b are within at); counts = λ ds are. counts ds are (at_place bodies ds i b are within at) }
    where
      ends : (ds : List Document) → AreBodies bodies ds → IsAt ds i b.items → EndsWell (suc i) ds (drop (suc i) ds) old new
      ends ds are x js free writes =
          let put = puts x.here x.kept (is_its ∙ x.is) in
          let j = put.1.0 in
          let was : EndsWell i ds (x.here ∷ x.rest) old now = subst (λ ds'. EndsWell i ds ds' old now) x.from (so.ends ds are) in
          let rest_free : AreFree x.rest = subst AreFree x.behind free in
          let rest_writes : WritesItems Canonical (items_of (map document x.rest)) js = subst (λ ds'. WritesItems Canonical (items_of (map document ds')) js) x.behind writes in
          let all = was (item j js) (put.0, rest_free) (put.1.1, rest_writes) in
          (all.0, (all.1.0, all.1.1, text_moved old now new (comma_before i) (print (json_tokens j)) (items_text (suc i) js) put.1.2 ∙ all.1.2))

      counts : (ds : List Document) → AreBodies bodies ds → IsAt ds i b.items → CountsOn (suc i) ds (drop (suc i) ds)
      counts ds are x k path first =
          let put = puts x.here x.kept (is_its ∙ x.is) in
          let was : CountsOn i ds (x.here ∷ x.rest) = subst (λ ds'. CountsOn i ds ds') x.from (so.counts ds are) in
          let later : IsFirstReserved ds (i + suc k) path = was (suc k) path (put.0, subst (λ ds'. IsFirstReserved ds' k path) x.behind first) in
          let same : i + suc k ≡ suc i + k = omega arith in
          subst (λ n. IsFirstReserved ds n path) same later

  pub at_fault : (fault : PrintFault) → PutsBody i body now new (Err fault) → (ds : List Document) → AreKept ds → bytes_of_each bodies ≡ map encode ds → IsFaultAt ds i fault
  at_fault (ReservedKey path) puts ds kept are =
      let x = at_place bodies ds i b (kept, are) within at in
      let was : CountsOn i ds (x.here ∷ x.rest) = subst (λ ds'. CountsOn i ds ds') x.from (so.counts ds (kept, are)) in
      let same : i + 0 ≡ i = omega arith in
      subst (λ n. IsFirstReserved ds n (string_bytes path)) same (was 0 (string_bytes path) (puts x.here x.kept (is_its ∙ x.is)))
  at_fault Damaged puts ds kept are =
      let x = at_place bodies ds i b (kept, are) within at in
      puts x.here x.kept (is_its ∙ x.is)
  at_fault Memory puts ds kept are = tt

-- ---- the first and the last

pub none_yet : (bodies : Bodies) (old : List ℕ) → SoFar bodies old old 0
none_yet bodies old = record {
  ends = λ ds are js free writes. (free, (js, writes, refl));
  counts = λ ds are k path first. subst (λ n. IsFirstReserved ds n path) (sym (zero-add k)) first;
}

pub all_put : (bodies : Bodies) (old now : List ℕ) (i : ℕ) → SoFar bodies old now i → length bodies ≤ i → PutsBodies (bytes_of_each bodies) old now (Ok tt)
all_put bodies old now i so all ds kept are =
    let same : length ds ≡ length bodies = sym (length-map ds encode) ∙ ap length (sym are) ∙ length-map bodies (λ (v : Vec ℕ Global). v.items) in
    let none : drop i ds ≡ [] = drop_all i ds (omega (arith, all, same)) in
    let last : EndsWell i ds [] old now = subst (λ ds'. EndsWell i ds ds' old now) none (so.ends ds (kept, are)) in
    let whole = last no_items tt tt in
    (whole.0, (whole.1.0, whole.1.1, sym (append-nil now) ∙ whole.1.2))
