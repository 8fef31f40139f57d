-- The object of an answer, as its tokens.
use Rattle.std.proofs.Common.{◌≡◌, ℕ, zero, suc, Bool, true, false, List, [], ◌∷◌, ◌++◌, map, codes, decimal, string_bytes, String, Option, Some, None, Result, Ok, Err, Vec, IfOk, fold, inl, refl, ap, sym, ◌∙◌, append_assoc}
use Rattle.std.proofs.lemmas.List.Sums.{fold-append}
use Rattle.std.specs.declared.alloc.AllocError.{AllocError}
use Rattle.std.specs.declared.alloc.Global.{Global}
use Rattle.json.specs.Json.{Json, null, boolean, number, string as string_of, array, object, Items, no_items, item, Members, no_members, member}
use Rattle.json.specs.Print.{print, print_from, ends, escape_byte}
use Rattle.json.specs.Token.{Token, begin_array, end_array, end_object, key, number as number_token, string}
use Rattle.json.specs.Tree.{items_tokens, json_tokens, members_tokens}
use Rattle.json.proofs.Printed.Tokens.{ends_push, print_from-append}
use Rattle.bson_base.specs.Value.{Value, Members as Document}
use Rattle.bson_bytes.specs.Encode.{encode}
use Rattle.bson_json.specs.Prints.{IsTextOf}
use Rattle.bson_model.specs.declared.extjson.ser.Mode.TheVariants.{Canonical}
use Rattle.cli_convert.specs.Printed.{PrintsDocument}
use Rattle.store_pipeline.specs.declared.sorted.counted.Counted.{Counted}
use Rattle.store_model.specs.State.{IsKept}
use Rattle.fallowtime_commands.specs.Printing.{counted_text}
use Rattle.fallowtime_commands.specs.Answers.{IsLineOf, IsMember, IsUpsert, ShowsBodies, ShowsBody, ShowsValues, behind_id, line_of, one, texts, upsert}
use Rattle.fallowtime_commands.specs.Objects.{Makes, MakesLine, PutsBodies, PutsValues, begun, comma_before, items_text}
use Rattle.fallowtime_requests.specs.declared.reading.Layout.TheVariants.{Each}

-- the tokens of the object: those that it is begun with, and those of the members
pub object_tokens : (id : Option Json) (js : Members) → json_tokens (object (behind_id id js)) ≡ begun id ++ members_tokens js
object_tokens None js = refl
object_tokens (Some i) js = refl

-- all members were written
pub ended : (id : Option Json) (js : Members) (written members : List Token) (line : List ℕ) → line ≡ print (written ++ end_object ∷ []) ++ 10 ∷ [] → written ≡ begun id ++ members → members ++ end_object ∷ [] ≡ members_tokens js → line ≡ line_of id js
ended id js written members line made so all =
    made
    ∙ ap (λ ts. print ts ++ 10 ∷ []) (ap (λ ts. ts ++ end_object ∷ []) so ∙ append_assoc (begun id) members (end_object ∷ []) ∙ ap (λ ts. begun id ++ ts) all ∙ sym (object_tokens id js))

-- so of the line that is made
pub makes_line : (id : Option Json) (js : Members) (written members : List Token) (r : Result (Vec ℕ Global) AllocError) → IfOk r (λ (line : Vec ℕ Global). line.items ≡ print (written ++ end_object ∷ []) ++ 10 ∷ []) → written ≡ begun id ++ members
    → members ++ end_object ∷ [] ≡ members_tokens js → MakesLine id js r
makes_line id js written members (Ok line) made so all = ended id js written members line.items made so all
makes_line id js written members (Err e) made so all = made

-- ---- names

abbrev pub name_tokens : List (String Global) → List Token
name_tokens names = map (λ (n : String Global). string (string_bytes n)) names

pub texts_tokens : (names : List (String Global)) → items_tokens (texts (map string_bytes names)) ≡ name_tokens names ++ end_array ∷ []
texts_tokens [] = refl
texts_tokens (n ∷ ns) = ap (λ ts. string (string_bytes n) ∷ ts) (texts_tokens ns)

pub names_tokens : (names : List (String Global)) → ((key (codes "names") ∷ begin_array ∷ name_tokens names) ++ end_array ∷ []) ++ end_object ∷ [] ≡ members_tokens (one (codes "names") (array (texts (map string_bytes names))))
names_tokens names = ap (λ ts. key (codes "names") ∷ begin_array ∷ (ts ++ end_object ∷ [])) (sym (texts_tokens names))

pub names_done : (id : Option Json) (names taken : List (String Global)) (out written : List Token) (r : Result (Vec ℕ Global) AllocError) → taken ≡ names → out ≡ begun id ++ (key (codes "names") ∷ begin_array ∷ name_tokens taken) → written ≡ out ++ end_array ∷ []
    → IfOk r (λ (line : Vec ℕ Global). line.items ≡ print (written ++ end_object ∷ []) ++ 10 ∷ []) → MakesLine id (one (codes "names") (array (texts (map string_bytes names)))) r
names_done id names taken out written r all so_far last made =
    let so : out ≡ begun id ++ (key (codes "names") ∷ begin_array ∷ name_tokens names) = so_far ∙ ap (λ ns. begun id ++ (key (codes "names") ∷ begin_array ∷ name_tokens ns)) all in
    let whole : written ≡ begun id ++ ((key (codes "names") ∷ begin_array ∷ name_tokens names) ++ end_array ∷ []) =
    last ∙ ap (λ ts. ts ++ end_array ∷ []) so ∙ append_assoc (begun id) (key (codes "names") ∷ begin_array ∷ name_tokens names) (end_array ∷ []) in
    makes_line id (one (codes "names") (array (texts (map string_bytes names)))) written ((key (codes "names") ∷ begin_array ∷ name_tokens names) ++ end_array ∷ []) r made whole (names_tokens names)

-- ---- a text of JSON after the last key

closing : (b : Bool) → print_from b (end_object ∷ []) ≡ 125 ∷ []
unfolding print_from
closing true = refl
closing false = refl

abbrev after : Bool → List Token → Bool
after b ts = fold (λ _ (u : Token). ends u) b ts

-- a value after a key, and the end of the object
pub behind_key : (first : List Token) (k : List ℕ) (j : Json) → print (first ++ (key k ∷ (json_tokens j ++ end_object ∷ []))) ≡ print (first ++ key k ∷ []) ++ (print (json_tokens j) ++ 125 ∷ [])
behind_key first k j =
    let front = first ++ key k ∷ [] in
    let value = json_tokens j in
    let whole : first ++ (key k ∷ (value ++ end_object ∷ [])) ≡ front ++ (value ++ end_object ∷ []) = sym (append_assoc first (key k ∷ []) (value ++ end_object ∷ [])) in
    let ended : print_from (after false value) (end_object ∷ []) ≡ 125 ∷ [] = closing (after false value) in
    let last : print (value ++ end_object ∷ []) ≡ print value ++ 125 ∷ [] = print_from-append false value (end_object ∷ []) ∙ ap (λ bs. print value ++ bs) ended in
    ap print whole ∙ print_from-append false front (value ++ end_object ∷ [])
    ∙ ap (λ b. print front ++ print_from b (value ++ end_object ∷ [])) (ends_push false first (key k)) ∙ ap (λ bs. print front ++ bs) last

-- the line of members of which the last one has these tokens in front
last_line : (id : Option Json) (js : Members) (first : List Token) (k : List ℕ) (j : Json) (written : List Token) (text line : List ℕ) → json_tokens (object (behind_id id js)) ≡ first ++ (key k ∷ (json_tokens j ++ end_object ∷ []))
    → line ≡ print written ++ (text ++ codes "}\n") → written ≡ first ++ key k ∷ [] → text ≡ print (json_tokens j) → line ≡ line_of id js
last_line id js first k j written text line all made named is =
    let whole : print (json_tokens (object (behind_id id js))) ≡ print (first ++ key k ∷ []) ++ (print (json_tokens j) ++ 125 ∷ []) = ap print all ∙ behind_key first k j in
    let closed : (print (first ++ key k ∷ []) ++ (print (json_tokens j) ++ 125 ∷ [])) ++ 10 ∷ [] ≡ print (first ++ key k ∷ []) ++ (print (json_tokens j) ++ codes "}\n") =
    append_assoc (print (first ++ key k ∷ [])) (print (json_tokens j) ++ 125 ∷ []) (10 ∷ []) ∙ ap (λ bs. print (first ++ key k ∷ []) ++ bs) (append_assoc (print (json_tokens j)) (125 ∷ []) (10 ∷ [])) in
    made ∙ ap (λ ts. print ts ++ (text ++ codes "}\n")) named ∙ ap (λ t. print (first ++ key k ∷ []) ++ (t ++ codes "}\n")) is ∙ sym closed ∙ ap (λ bs. bs ++ 10 ∷ []) (sym whole)

pub member_line : (id : Option Json) (k : List ℕ) (j : Json) (written : List Token) (text line : List ℕ) → line ≡ print written ++ (text ++ codes "}\n") → written ≡ begun id ++ key k ∷ [] → text ≡ print (json_tokens j) → line ≡ line_of id (one k j)
member_line id k j written text line made named is = last_line id (one k j) (begun id) k j written text line (object_tokens id (one k j)) made named is

-- so of the line that is made, with the text of a value
pub value_made : (id : Option Json) (k : List ℕ) (v : Value) (written : List Token) (text : List ℕ) (r : Result (Vec ℕ Global) AllocError) → IfOk r (λ (line : Vec ℕ Global). line.items ≡ print written ++ (text ++ codes "}\n")) → written ≡ begun id ++ key k ∷ []
    → IsTextOf Canonical v text → Makes (IsLineOf id (IsMember k v)) r
value_made id k v written text (Ok line) made named (j, writes, is, back) = (one k j, (j, writes, refl), member_line id k j written text line.items made named is)
value_made id k v written text (Err e) made named is = made

-- ---- an upsert

-- the tokens in front of the id
abbrev pub none_matched : List Token
none_matched = key (codes "matched") ∷ number_token (decimal 0) ∷ key (codes "changed") ∷ number_token (decimal 0) ∷ []

pub upsert_made : (id : Option Json) (v : Value) (written : List Token) (text : List ℕ) (r : Result (Vec ℕ Global) AllocError) → IfOk r (λ (line : Vec ℕ Global). line.items ≡ print written ++ (text ++ codes "}\n"))
    → written ≡ (begun id ++ none_matched) ++ key (codes "upserted") ∷ [] → IsTextOf Canonical v text → Makes (IsLineOf id (IsUpsert v)) r
upsert_made id v written text (Ok line) made named (j, writes, is, back) =
    let all : json_tokens (object (behind_id id (upsert j))) ≡ (begun id ++ none_matched) ++ (key (codes "upserted") ∷ (json_tokens j ++ end_object ∷ [])) =
    object_tokens id (upsert j) ∙ sym (append_assoc (begun id) none_matched (key (codes "upserted") ∷ (json_tokens j ++ end_object ∷ []))) in
    (upsert j, (j, writes, refl), last_line id (upsert j) (begun id ++ none_matched) (codes "upserted") j written text line.items all made named is)
upsert_made id v written text (Err e) made named is = made

-- ---- the text of an array

mutual
  closes : (b : Bool) (j : Json) → after b (json_tokens j) ≡ true
  closes b null = refl
  closes b (boolean x) = refl
  closes b (number s) = refl
  closes b (string_of s) = refl
  closes b (array js) = closes_items false js
  closes b (object ms) = closes_members false ms

  closes_items : (b : Bool) (js : Items) → after b (items_tokens js) ≡ true
  closes_items b no_items = refl
  closes_items b (item j js) = fold-append (λ _ (u : Token). ends u) b (json_tokens j) (items_tokens js) ∙ closes_items (after b (json_tokens j)) js

  closes_members : (b : Bool) (ms : Members) → after b (members_tokens ms) ≡ true
  closes_members b no_members = refl
  closes_members b (member k j ms) = fold-append (λ _ (u : Token). ends u) false (json_tokens j) (members_tokens ms) ∙ closes_members (after false (json_tokens j)) ms

abbrev is_behind : ℕ → Bool
is_behind zero = false
is_behind (suc i) = true

-- a value after i others
begins : (i : ℕ) (j : Json) → print_from (is_behind i) (json_tokens j) ≡ comma_before i ++ print (json_tokens j)
unfolding print_from
begins zero j = refl
begins (suc i) null = refl
begins (suc i) (boolean x) = refl
begins (suc i) (number s) = refl
begins (suc i) (string_of s) = refl
begins (suc i) (array js) = refl
begins (suc i) (object ms) = refl

items_print : (i : ℕ) (js : Items) → print_from (is_behind i) (items_tokens js) ≡ items_text i js ++ 93 ∷ []
unfolding print_from
items_print zero no_items = refl
items_print (suc i) no_items = refl
items_print i (item j js) =
    print_from-append (is_behind i) (json_tokens j) (items_tokens js)
    ∙ ap (λ b. print_from (is_behind i) (json_tokens j) ++ print_from b (items_tokens js)) (closes (is_behind i) j)
    ∙ ap (λ bs. print_from (is_behind i) (json_tokens j) ++ bs) (items_print (suc i) js)
    ∙ ap (λ bs. bs ++ (items_text (suc i) js ++ 93 ∷ [])) (begins i j)
    ∙ append_assoc (comma_before i) (print (json_tokens j)) (items_text (suc i) js ++ 93 ∷ [])
    ∙ ap (λ bs. comma_before i ++ bs) (sym (append_assoc (print (json_tokens j)) (items_text (suc i) js) (93 ∷ [])))
    ∙ sym (append_assoc (comma_before i) (print (json_tokens j) ++ items_text (suc i) js) (93 ∷ []))

pub array_print : (js : Items) → print (json_tokens (array js)) ≡ 91 ∷ (items_text 0 js ++ 93 ∷ [])
unfolding print_from
array_print js = ap (λ bs. 91 ∷ bs) (items_print zero js)

-- ---- stored documents

-- the line of a document that has a text
pub document_made : (id : Option Json) (body : List ℕ) (written : List Token) (text : List ℕ) (r : Result (Vec ℕ Global) AllocError) → IfOk r (λ (line : Vec ℕ Global). line.items ≡ print written ++ (text ++ codes "}\n")) → written ≡ begun id ++ key (codes "document") ∷ []
    → ((d : Document) → IsKept d → body ≡ encode d → PrintsDocument Canonical d text (Ok tt)) → Makes (ShowsBody id body) r
document_made id body written text (Ok line) made named prints = λ d kept is.
    let p = prints d kept is in
    let j = p.1.0 in
    (one (codes "document") j, inl (p.0, (j, p.1.1, refl)), member_line id (codes "document") j written text line.items made named p.1.2)
document_made id body written text (Err e) made named prints = made

array_closed : (front it : List ℕ) → ((front ++ 91 ∷ []) ++ it) ++ codes "]}\n" ≡ front ++ ((91 ∷ (it ++ 93 ∷ [])) ++ codes "}\n")
array_closed front it =
    append_assoc (front ++ 91 ∷ []) it (codes "]}\n") ∙ append_assoc front (91 ∷ []) (it ++ codes "]}\n")
    ∙ ap (λ bs. front ++ (91 ∷ bs)) (sym (append_assoc it (93 ∷ []) (codes "}\n")))

-- the line of documents that have texts
pub documents_made : (id : Option Json) (bodies : List (List ℕ)) (written : List Token) (old new line : List ℕ) → old ≡ print written ++ 91 ∷ [] → written ≡ begun id ++ key (codes "documents") ∷ [] → PutsBodies bodies old new (Ok tt) → line ≡ new ++ codes "]}\n"
    → ShowsBodies Each id bodies line
documents_made id bodies written old new line opened named puts made = λ ds kept are.
    let p = puts ds kept are in
    let js = p.1.0 in
    let whole : line ≡ print written ++ ((91 ∷ (items_text 0 js ++ 93 ∷ [])) ++ codes "}\n") =
    made ∙ ap (λ bs. bs ++ codes "]}\n") (p.1.2 ∙ ap (λ bs. bs ++ items_text 0 js) opened) ∙ array_closed (print written) (items_text 0 js) in (
      one (codes "documents") (array js),
      inl (p.0, (array js, (js, p.1.1, refl), refl)),
      member_line id (codes "documents") (array js) written (91 ∷ (items_text 0 js ++ 93 ∷ [])) line whole named (sym (array_print js)),
    )

-- ---- values

-- an object with a value and a number
pub counted_print : (j : Json) (n : ℕ) → print (json_tokens (object (member (codes "value") j (one (codes "count") (number (decimal n)))))) ≡ counted_text (print (json_tokens j)) (decimal n)
unfolding print_from escape_byte
counted_print j n =
    let last = key (codes "count") ∷ number_token (decimal n) ∷ end_object ∷ [] in
    ap (λ bs. codes "{\"value\":" ++ bs) (print_from-append false (json_tokens j) last ∙ ap (λ b. print (json_tokens j) ++ print_from b last) (closes false j))

-- the line of values that have texts
pub values_made : (id : Option Json) (counts : Bool) (cs : List Counted) (written : List Token) (old new line : List ℕ) → old ≡ print written ++ 91 ∷ [] → written ≡ begun id ++ key (codes "values") ∷ [] → PutsValues counts cs old new (Ok tt) → line ≡ new ++ codes "]}\n"
    → IsLineOf id (ShowsValues counts cs) line
values_made id counts cs written old new line opened named (free, js, each, put) made =
    let whole : line ≡ print written ++ ((91 ∷ (items_text 0 js ++ 93 ∷ [])) ++ codes "}\n") =
    made ∙ ap (λ bs. bs ++ codes "]}\n") (put ∙ ap (λ bs. bs ++ items_text 0 js) opened) ∙ array_closed (print written) (items_text 0 js) in (
      one (codes "values") (array js),
      inl (free, (js, each, refl)),
      member_line id (codes "values") (array js) written (91 ∷ (items_text 0 js ++ 93 ∷ [])) line whole named (sym (array_print js)),
    )
