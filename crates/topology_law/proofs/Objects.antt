-- What is found in an object that is read, in its text.
use Rattle.std.proofs.Common.{◌≡◌, ℕ, List, [], ◌∷◌, Bool, true, false, Ordering, Less, Equal, Greater, nat_cmp, is_eq, Some, None, inl, inr, ◌⊎◌, refl, sym, ap, ◌∙◌, subst, arith}
use Rattle.std.specs.List.{AllByRecursion}
use Rattle.std.proofs.lemmas.Slice.Eq.{bytes_eq-Decides}
use Rattle.std.specs.Str.{bytes_eq}
use Rattle.std.specs.Ordering.{match_ordering}
use Rattle.std.proofs.lemmas.Map.Text.{is_eq-slice_cmp}
use Rattle.std.specs.Cmp.Lexicographic.{slice_cmp}
use Rattle.list_law.specs.Members.{IsIn}
use Rattle.list_law.proofs.Options.{option_and_then_parts, option_map_parts}
use Rattle.json.specs.Json as json
use Rattle.serde_json.specs.Data.{Num, Data, number, string, array, object, Items, Members, no_members, member, put}
use Rattle.serde_json.specs.Events.{members_len}
use Rattle.serde_json.specs.Find.{get_member}
use Rattle.serde_json.specs.Read.{number_of, of_json, of_items, of_members}
use Rattle.serde_json.proofs.Views.{get_member-put, get_member-put_other}
use Rattle.json_law.specs.Grammar.{IsNumber, IsString, IsArray, IsObject, Says}
use Rattle.json_law.specs.Written.{IsWritten, AreWritten, MembersAreWritten}

-- ---- texts are the same or not

same_or_not : (a b : List ℕ) → (a ≡ b) ⊎ (a ≡ b → ⊥)
same_or_not a b = by (bytes_eq a b) refl
  where
    by : (t : Bool) → bytes_eq a b ≡ t → (a ≡ b) ⊎ (a ≡ b → ⊥)
    by true e = inl ((bytes_eq-Decides a b).0 e)
    by false e = inr (λ z. let yes = (bytes_eq-Decides a b).1 z in cc)

-- ---- by the kind of a value

pub string_written : (j : json.Json) (s text : List ℕ) → of_json j ≡ Some (string s) → IsWritten j text → IsString s text
string_written json.null s text h w = absurd cc
string_written (json.boolean b) s text h w = absurd cc
string_written (json.number n) s text h w = absurd (let p = option_map_parts number (number_of n) (string s) h in cc)
string_written (json.string t) s text h w = let same : t ≡ s = cc in subst (λ x. IsString x text) same w
string_written (json.array js) s text h w = absurd (let p = option_map_parts array (of_items js) (string s) h in cc)
string_written (json.object ms) s text h w = absurd (let p = option_map_parts object (of_members ms no_members) (string s) h in cc)

pub number_written : (j : json.Json) (n : Num) (text : List ℕ) → of_json j ≡ Some (number n) → IsWritten j text → IsNumber text × (number_of text ≡ Some n)
number_written json.null n text h w = absurd cc
number_written (json.boolean b) n text h w = absurd cc
number_written (json.number s) n text h w =
    let p = option_map_parts number (number_of s) (number n) h in
    let same : p.0 ≡ n = cc in
    (subst IsNumber (sym w.0) w.1, ap number_of w.0 ∙ p.1 ∙ ap Some same)
number_written (json.string t) n text h w = absurd cc
number_written (json.array js) n text h w = absurd (let p = option_map_parts array (of_items js) (number n) h in cc)
number_written (json.object ms) n text h w = absurd (let p = option_map_parts object (of_members ms no_members) (number n) h in cc)

pub array_written : (j : json.Json) (ds : Items) (text : List ℕ) → of_json j ≡ Some (array ds) → IsWritten j text
    → (vs : List (List ℕ)) × (js : json.Items) × IsArray vs text × AreWritten js vs × (of_items js ≡ Some ds)
array_written json.null ds text h w = absurd cc
array_written (json.boolean b) ds text h w = absurd cc
array_written (json.number s) ds text h w = absurd (let p = option_map_parts number (number_of s) (array ds) h in cc)
array_written (json.string t) ds text h w = absurd cc
array_written (json.array js) ds text h w =
    let p = option_map_parts array (of_items js) (array ds) h in
    let same : p.0 ≡ ds = cc in
    (w.0, js, w.1, w.2, p.1 ∙ ap Some same)
array_written (json.object ms) ds text h w = absurd (let p = option_map_parts object (of_members ms no_members) (array ds) h in cc)

pub object_written : (j : json.Json) (ds : Members) (text : List ℕ) → of_json j ≡ Some (object ds) → IsWritten j text
    → (vs : List (List ℕ × List ℕ)) × (js : json.Members) × IsObject vs text × MembersAreWritten js vs × (of_members js no_members ≡ Some ds)
object_written json.null ds text h w = absurd cc
object_written (json.boolean b) ds text h w = absurd cc
object_written (json.number s) ds text h w = absurd (let p = option_map_parts number (number_of s) (object ds) h in cc)
object_written (json.string t) ds text h w = absurd cc
object_written (json.array js) ds text h w = absurd (let p = option_map_parts array (of_items js) (object ds) h in cc)
object_written (json.object ms) ds text h w =
    let p = option_map_parts object (of_members ms no_members) (object ds) h in
    let same : p.0 ≡ ds = cc in
    (w.0, ms, w.1, w.2, p.1 ∙ ap Some same)

-- ---- the last member of a key

-- the text of the value of this key, behind which none has the key
pub record Found (vs : List (List ℕ × List ℕ)) (key : List ℕ) (d : Data) : Type 0 where
  pub tree : json.Json
  pub text : List ℕ
  pub says : Says vs key text
  pub written : IsWritten tree text
  pub read : of_json tree ≡ Some d

later : (v : List ℕ × List ℕ) (vs : List (List ℕ × List ℕ)) (key : List ℕ) (d : Data) → Found vs key d → Found (v ∷ vs) key d
later v vs key d f = record {
  tree = f.tree;
  text = f.text;
  says = (v ∷ f.says.0, f.says.1, ap (λ l. v ∷ l) f.says.2, f.says.3);
  written = f.written;
  read = f.read;
}

abbrev Lacks : List ℕ → List (List ℕ × List ℕ) → Type 0
Lacks key vs = AllByRecursion (λ (m : List ℕ × List ℕ). m.0 ≡ key → ⊥) vs

last_found : (js : json.Members) (vs : List (List ℕ × List ℕ)) (before after : Members) (key : List ℕ) (d : Data) → MembersAreWritten js vs → of_members js before ≡ Some after
    → get_member key after ≡ Some d → Found vs key d ⊎ (Lacks key vs × (get_member key before ≡ Some d))
last_found json.no_members [] before after key d w h found = let same : before ≡ after = cc in inr (tt, ap (get_member key) same ∙ found)
last_found json.no_members (v ∷ vs) before after key d w h found = absurd w
last_found (json.member k j js) [] before after key d w h found = absurd w
last_found (json.member k j js) (v ∷ vs) before after key d w h found =
    let p = option_and_then_parts (λ e. of_members js (put k e before)) (of_json j) after h in
    elim (last_found js vs (put k p.0 before) after key d w.2 p.2 found) [
      | inl f ↦ inl (later v vs key d f)
      | inr none ↦ elim (same_or_not key k) [
        | inl same ↦
            let value : p.0 ≡ d = let e = sym (get_member-put k p.0 before) ∙ ap (λ q. get_member q (put k p.0 before)) (sym same) ∙ none.1 in cc in
            let named : v.0 ≡ key = sym w.0 ∙ sym same in
            inl (record {
              tree = j;
              text = v.1;
              says = ([], vs, (λ i. (named i, v.1) ∷ vs), none.0);
              written = w.1;
              read = p.1 ∙ ap Some value;
            })
        | inr apart ↦ inr (((λ z. apart (sym z ∙ sym w.0)), none.0), sym (get_member-put_other key k p.0 before apart) ∙ none.1)
      ]
    ]

pub found : (js : json.Members) (vs : List (List ℕ × List ℕ)) (ds : Members) (key : List ℕ) (d : Data) → MembersAreWritten js vs → of_members js no_members ≡ Some ds
    → get_member key ds ≡ Some d → Found vs key d
found js vs ds key d w h there = elim (last_found js vs no_members ds key d w h there) [
  | inl f ↦ f
  | inr none ↦ absurd (let z = none.1 in cc)
]

-- ---- each key is there

stays : (js : json.Members) (before after : Members) (key : List ℕ) (d : Data) → of_members js before ≡ Some after → get_member key before ≡ Some d
    → (e : Data) × (get_member key after ≡ Some e)
stays json.no_members before after key d h there = let same : before ≡ after = cc in (d, ap (get_member key) (sym same) ∙ there)
stays (json.member k j js) before after key d h there =
    let p = option_and_then_parts (λ e. of_members js (put k e before)) (of_json j) after h in
    elim (same_or_not key k) [
      | inl same ↦ stays js (put k p.0 before) after key p.0 p.2 (ap (λ q. get_member q (put k p.0 before)) same ∙ get_member-put k p.0 before)
      | inr apart ↦ stays js (put k p.0 before) after key d p.2 (get_member-put_other key k p.0 before apart ∙ there)
    ]

abbrev pub IsThere : Members → List ℕ → Type 0
IsThere ds key = (e : Data) × (get_member key ds ≡ Some e)

pub all_there : (js : json.Members) (vs : List (List ℕ × List ℕ)) (before after : Members) → MembersAreWritten js vs → of_members js before ≡ Some after
    → AllByRecursion (λ m. IsThere after m.0) vs
all_there json.no_members [] before after w h = tt
all_there json.no_members (v ∷ vs) before after w h = absurd w
all_there (json.member k j js) [] before after w h = absurd w
all_there (json.member k j js) (v ∷ vs) before after w h =
    let p = option_and_then_parts (λ e. of_members js (put k e before)) (of_json j) after h in
    let here = stays js (put k p.0 before) after k p.0 p.2 (get_member-put k p.0 before) in
    (subst (IsThere after) w.0 here, all_there js vs (put k p.0 before) after w.2 p.2)

-- ---- an object of three keys has no other

named : (key l : List ℕ) (e : Data) (ds : Members) (d : Data) → get_member key (member l e ds) ≡ Some d → (key ≡ l) ⊎ (get_member key ds ≡ Some d)
named key l e ds d h = by (slice_cmp nat_cmp key l) refl h
  where
    by : (o : Ordering) → slice_cmp nat_cmp key l ≡ o → match_ordering o (get_member key ds) (Some e) (get_member key ds) ≡ Some d → (key ≡ l) ⊎ (get_member key ds ≡ Some d)
    by Less c g = inr g
    by Equal c g = inl ((bytes_eq-Decides key l).0 (sym (is_eq-slice_cmp key l) ∙ ap is_eq c))
    by Greater c g = inr g

abbrev OneOf : List ℕ → List ℕ → List ℕ → List ℕ → Type 0
OneOf a b c key = (key ≡ a) ⊎ ((key ≡ b) ⊎ (key ≡ c))

three : (ds : Members) → members_len ds ≡ 3 → (a b c : List ℕ) × ((key : List ℕ) → IsThere ds key → OneOf a b c key)
three no_members h = absurd cc
three (member a x no_members) h = absurd (omega (arith, h))
three (member a x (member b y no_members)) h = absurd (omega (arith, h))
three (member a x (member b y (member c z (member d u ds)))) h = absurd (omega (arith, h))
three (member a x (member b y (member c z no_members))) h = (a, b, c, λ key there. of_three a b c x y z key there)
  where
    of_three : (a b c : List ℕ) (x y z : Data) (key : List ℕ) → IsThere (member a x (member b y (member c z no_members))) key → OneOf a b c key
    of_three a b c x y z key there = elim (named key a x (member b y (member c z no_members)) there.0 there.1) [
      | inl e ↦ inl e
      | inr r ↦ elim (named key b y (member c z no_members) there.0 r) [
        | inl e ↦ inr (inl e)
        | inr s ↦ elim (named key c z no_members there.0 s) [
          | inl e ↦ inr (inr e)
          | inr n ↦ absurd (let gone : None ≡ Some there.0 = n in cc)
        ]
      ]
    ]

module _ (a b c p q r : List ℕ) (pq : p ≡ q → ⊥) (pr : p ≡ r → ⊥) (qr : q ≡ r → ⊥) where
  -- three different keys of two places
  crowded : (x y : List ℕ) → (p ≡ x) ⊎ (p ≡ y) → (q ≡ x) ⊎ (q ≡ y) → (r ≡ x) ⊎ (r ≡ y) → ⊥
  crowded x y (inl e) (inl f) g = pq (e ∙ sym f)
  crowded x y (inl e) (inr f) (inl g) = pr (e ∙ sym g)
  crowded x y (inl e) (inr f) (inr g) = qr (f ∙ sym g)
  crowded x y (inr e) (inr f) g = pq (e ∙ sym f)
  crowded x y (inr e) (inl f) (inr g) = pr (e ∙ sym g)
  crowded x y (inr e) (inl f) (inl g) = qr (f ∙ sym g)

  taken : (x y z : List ℕ) → OneOf x y z p → OneOf x y z q → OneOf x y z r → OneOf p q r x
  taken x y z (inl e) f g = inl (sym e)
  taken x y z (inr e) (inl f) g = inr (inl (sym f))
  taken x y z (inr e) (inr f) (inl g) = inr (inr (sym g))
  taken x y z (inr e) (inr f) (inr g) = absurd (crowded y z e f g)

  turned : (x y z k : List ℕ) → OneOf x y z k → OneOf y z x k
  turned x y z k (inl e) = inr (inr e)
  turned x y z k (inr (inl e)) = inl e
  turned x y z k (inr (inr e)) = inr (inl e)

  pub no_other : OneOf a b c p → OneOf a b c q → OneOf a b c r → (k : List ℕ) → OneOf a b c k → OneOf p q r k
  no_other e f g k (inl h) = subst (OneOf p q r) (sym h) (taken a b c e f g)
  no_other e f g k (inr (inl h)) = subst (OneOf p q r) (sym h) (taken b c a (turned a b c p e) (turned a b c q f) (turned a b c r g))
  no_other e f g k (inr (inr h)) =
      subst (OneOf p q r) (sym h) (taken c a b (turned b c a p (turned a b c p e)) (turned b c a q (turned a b c q f)) (turned b c a r (turned a b c r g)))

pub only_these : (p q r : List ℕ) → (p ≡ q → ⊥) → (p ≡ r → ⊥) → (q ≡ r → ⊥) → (js : json.Members) (vs : List (List ℕ × List ℕ)) (ds : Members) → MembersAreWritten js vs
    → of_members js no_members ≡ Some ds → members_len ds ≡ 3 → IsThere ds p → IsThere ds q → IsThere ds r → AllByRecursion (λ m. IsIn (p ∷ q ∷ r ∷ []) m.0) vs
only_these p q r pq pr qr js vs ds w h count tp tq tr =
    let t = three ds count in
    each vs (all_there js vs no_members ds w h) (λ k there. no_other t.0 t.1 t.2 p q r pq pr qr (t.3 p tp) (t.3 q tq) (t.3 r tr) k (t.3 k there))
  where
    place : (k : List ℕ) → OneOf p q r k → IsIn (p ∷ q ∷ r ∷ []) k
    place k (inl e) = (0, ap Some (sym e))
    place k (inr (inl e)) = (1, ap Some (sym e))
    place k (inr (inr e)) = (2, ap Some (sym e))

    each : (vs : List (List ℕ × List ℕ)) → AllByRecursion (λ m. IsThere ds m.0) vs → ((k : List ℕ) → IsThere ds k → OneOf p q r k) → AllByRecursion (λ m. IsIn (p ∷ q ∷ r ∷ []) m.0) vs
    each [] all f = tt
    each (v ∷ vs) all f = (place v.0 (f v.0 all.0), each vs all.1 f)
