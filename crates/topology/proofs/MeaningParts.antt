-- The parts of a JSON value, by what is found there.
use Rattle.std.proofs.Common.{◌≡◌, ℕ, ◌+◌, List, [], ◌∷◌, length, map, Some, Ok, Result, true, refl, ap, ◌∙◌, arith}
use Rattle.std.specs.Prelude.{◌==◌, slice_get, option_and_then}
use Rattle.std.specs.List.{AllByRecursion}
use Rattle.std.proofs.lemmas.Bool.{eqb-true}
use Rattle.list_law.proofs.Options.{option_and_then_parts, option_map_parts}
use Rattle.serde_json.specs.Data.{Data, null, boolean, number, string, array, object, Items, no_items, item, Members, Num, unsigned, negative, float}
use Rattle.serde_json.specs.Find.{get, as_object, as_array, as_str, as_number, as_u64}
use Rattle.json_values.specs.Json.{list_of, list_at, text_at, number_at}
use Rattle.net_base.specs.Steps.{◌>>=◌, each_from}
use Rattle.net_base.proofs.StepLemmas.{bind_ok, ok_same}
use Rattle.topology.specs.declared.fault.TopoFault.{TopoFault}
use Rattle.topology.specs.Meaning.{EachSays}

pub is_object : (d : Data) (ms : Members) → as_object d ≡ Some ms → d ≡ object ms
is_object null ms h = absurd cc
is_object (boolean b) ms h = absurd cc
is_object (number n) ms h = absurd cc
is_object (string s) ms h = absurd cc
is_object (array ds) ms h = absurd cc
is_object (object os) ms h = cc

pub is_array : (d : Data) (ds : Items) → as_array d ≡ Some ds → d ≡ array ds
is_array null ds h = absurd cc
is_array (boolean b) ds h = absurd cc
is_array (number n) ds h = absurd cc
is_array (string s) ds h = absurd cc
is_array (array es) ds h = cc
is_array (object os) ds h = absurd cc

is_string : (d : Data) (s : List ℕ) → as_str d ≡ Some s → d ≡ string s
is_string null s h = absurd cc
is_string (boolean b) s h = absurd cc
is_string (number n) s h = absurd cc
is_string (string t) s h = cc
is_string (array es) s h = absurd cc
is_string (object os) s h = absurd cc

is_number : (d : Data) (n : Num) → as_number d ≡ Some n → d ≡ number n
is_number null n h = absurd cc
is_number (boolean b) n h = absurd cc
is_number (number m) n h = cc
is_number (string t) n h = absurd cc
is_number (array es) n h = absurd cc
is_number (object os) n h = absurd cc

is_unsigned : (n : Num) (m : ℕ) → as_u64 n ≡ Some m → n ≡ unsigned m
is_unsigned (unsigned k) m h = cc
is_unsigned (negative z) m h = absurd cc
is_unsigned (float x) m h = absurd cc

-- a text, and a whole number, that stand under a key
pub text_there : (key : List ℕ) (d : Data) (s : List ℕ) → text_at key d ≡ Some s → get key d ≡ Some (string s)
text_there key d s h = let p = option_and_then_parts as_str (get key d) s h in p.1 ∙ ap Some (is_string p.0 s p.2)

pub number_there : (key : List ℕ) (d : Data) (n : ℕ) → number_at key d ≡ Some n → get key d ≡ Some (number (unsigned n))
number_there key d n h =
    let p = option_and_then_parts (λ v. option_and_then as_u64 (as_number v)) (get key d) n h in
    let q = option_and_then_parts as_u64 (as_number p.0) n p.2 in
    p.1 ∙ ap Some (is_number p.0 q.0 q.1 ∙ ap number (is_unsigned q.0 n q.2))

-- the items of an array
pub items_there : (d : Data) (ds : List Data) → list_at d ≡ Some ds → (is : Items) × (d ≡ array is) × (list_of is ≡ ds)
items_there d ds h = let p = option_map_parts list_of (as_array d) ds h in (p.0, is_array d p.0 p.1, p.2)

-- exactly two texts
pub two_there : (is : Items) (from to : List ℕ) → (length (list_of is) == 2) ≡ true → option_and_then as_str (slice_get (list_of is) 0) ≡ Some from
    → option_and_then as_str (slice_get (list_of is) 1) ≡ Some to
    → is ≡ item (string from) (item (string to) no_items)
two_there no_items from to two first second = absurd cc
two_there (item a no_items) from to two first second = absurd cc
two_there (item a (item b no_items)) from to two first second = rw (is_string a from first, is_string b to second) refl
two_there (item a (item b (item c is))) from to two first second = absurd (omega (arith, eqb-true (length (list_of (item a (item b (item c is))))) 2 two))

-- each step that gives what a value says
pub each_says : {A : Type 0} (Says : Data → A → Type 0) (f : Data → Result A TopoFault) → ((d : Data) (x : A) → f d ≡ Ok x → Says d x)
    → (k : ℕ) (ds : Items) (xs : List A) → each_from (λ _. f) k (list_of ds) ≡ Ok xs → EachSays Says ds xs
each_says Says f says k no_items [] h = tt
each_says Says f says k no_items (x ∷ xs) h = absurd cc
each_says Says f says k (item d ds) xs h =
    let p = bind_ok (f d) (λ y. each_from (λ _. f) (k + 1) (list_of ds) >>= (λ ys. Ok (y ∷ ys))) xs h in
    let q = bind_ok (each_from (λ _. f) (k + 1) (list_of ds)) (λ ys. Ok (p.0 ∷ ys)) xs p.2 in
    rw (← ok_same (p.0 ∷ q.0) xs q.2) (says d p.0 p.1, each_says Says f says (k + 1) ds q.0 q.1)

-- steps that give something of what each value says
pub each_read : {A B : Type 0} (Says : Data → A → Type 0) (P : A → Type 0) (f : Data → Result B TopoFault) (g : A → B) → ((d : Data) (x : A) → Says d x → P x → f d ≡ Ok (g x))
    → (k : ℕ) (ds : Items) (xs : List A) → EachSays Says ds xs → AllByRecursion P xs → each_from (λ _. f) k (list_of ds) ≡ Ok (map g xs)
each_read Says P f g reads k no_items [] s a = refl
each_read Says P f g reads k no_items (x ∷ xs) s a = absurd s
each_read Says P f g reads k (item d ds) [] s a = absurd s
each_read Says P f g reads k (item d ds) (x ∷ xs) s a = rw (reads d x s.0 a.0, each_read Says P f g reads (k + 1) ds xs s.1 a.1) refl
