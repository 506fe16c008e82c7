-- The parts of lines: what is read of them is their text, and their text is read.
use Rattle.std.proofs.Common.{◌≡◌, ℕ, ◌<◌, ◌^◌, List, Bool, true, false, Option, Some, None, Ok, refl, ◌∙◌, ap, subst, arith}
use Rattle.std.specs.Prelude.{◌≢◌, ◌&&◌, ◌==◌, nat_le, IsTrue, Result, Err, if◌then◌else◌, ⊤}
use Rattle.std.specs.Fmt.{decimal}
use Rattle.std.specs.Str.{bytes_eq}
use Rattle.std.proofs.lemmas.Bool.{and_parts, leb-true, le-leb, eqb-false}
use Rattle.std.proofs.lemmas.Slice.Eq.{bytes_eq-Decides}
use Rattle.net_base.specs.Addresses.{address_of}
use Rattle.net_base.specs.NameRule.{is_name}
use Rattle.net_base.specs.Prefixes.{PlainPrefix, IsPrefix}
use Rattle.net_base.specs.PrefixText.{prefix_spelled}
use Rattle.net_base.specs.Steps.{unless}
use Rattle.net_base.specs.declared.prefix_text.PrefixFault.{PrefixFault}
use Rattle.net_base.proofs.PrefixLemmas.{prefix_spelled-IsPrefix}
use Rattle.net_base.proofs.StepLemmas.{bind_ok, unless_ok, ok_same}
use Rattle.text_parts.specs.Texts.{address_text, prefix_text}
use Rattle.config_base.specs.Configs.{IsClass}
use Rattle.config_lines.specs.declared.line.LineFault.TheVariants.{Form, Number}
use Rattle.config_lines.specs.declared.number.Figure.{Figure}
use Rattle.config_lines.specs.declared.number.Figure.TheVariants.{LeadingZero, Large, Value}
use Rattle.config_lines.specs.Numbers.{number_of, in_range, class_in}
use Rattle.config_lines.specs.Words.{is_word, name_of, identifier_of, as_prefix}
use Rattle.config_lines.proofs.Addresses.{address_back, prefix_back}
use Rattle.config_lines.proofs.Digits.{number_back}

-- ---- numbers

pub in_range_back : (f : Figure) (n : ℕ) → in_range f ≡ Ok n → f ≡ Value n
in_range_back (Value m) n h = ap Value (ok_same m n h)
in_range_back LeadingZero n h = absurd cc
in_range_back Large n h = absurd cc

pub ranged_back : (w : List ℕ) (f : Figure) (n : ℕ) → number_of w ≡ Ok f → in_range f ≡ Ok n → (w ≡ decimal n) × (n < 2 ^ 32)
ranged_back w f n h r = number_back w n (h ∙ ap Ok (in_range_back f n r))

pub class_back : (count : ℕ) (w : List ℕ) (f : Figure) (n : ℕ) → number_of w ≡ Ok f → class_in count f ≡ Ok n → (w ≡ decimal n) × IsClass count n
unfolding class_in
class_back count w f n h r =
    let m = bind_ok (in_range f) _ n r in
    let u = bind_ok (unless Number (nat_le 1 m.0 && nat_le m.0 count)) (λ _. Ok m.0) n m.2 in
    let same : m.0 ≡ n = ok_same m.0 n u.2 in
    let both = and_parts (nat_le 1 m.0) (nat_le m.0 count) (unless_ok Number _ u.0 u.1) in
    ((ranged_back w f m.0 h m.1).0 ∙ ap decimal same, subst (IsClass count) same (leb-true 1 m.0 both.0, leb-true m.0 count both.1))

pub class_there : (count n : ℕ) → IsClass count n → class_in count (Value n) ≡ Ok n
unfolding class_in
class_there count n is = rw (le-leb 1 n is.0, le-leb n count is.1) refl

pub class_low : (count n : ℕ) → count < 2 ^ 32 → IsClass count n → n < 2 ^ 32
class_low count n few is = omega (arith, is.1, few)

-- ---- words

pub word_back : (fixed word : List ℕ) (u : ⊤) → is_word fixed word ≡ Ok u → word ≡ fixed
word_back fixed word u h = (bytes_eq-Decides word fixed).0 (unless_ok Form (bytes_eq word fixed) u h)

pub name_back : (w name : List ℕ) → name_of w ≡ Ok name → (w ≡ name) × IsTrue (is_name name)
unfolding name_of
name_back w name h = by (is_name w) refl h
  where
    by : (b : Bool) → is_name w ≡ b → (if b then Ok w else Err Form) ≡ Ok name → (w ≡ name) × IsTrue (is_name name)
    by true e k = let same : w ≡ name = cc in (same, subst (λ (x : List ℕ). IsTrue (is_name x)) same e)
    by false e k = absurd cc

pub name_there : (name : List ℕ) → IsTrue (is_name name) → name_of name ≡ Ok name
unfolding name_of
name_there name is = let e : is_name name ≡ true = is in rw e refl

pub identifier_back : (w : List ℕ) (id : ℕ) → identifier_of (address_of w) ≡ Ok id → (w ≡ address_text id) × (id ≢ 0) × (id < 2 ^ 32)
identifier_back w id h = by (address_of w) refl h
  where
    apart : (m : ℕ) (b : Bool) → (m == 0) ≡ b → address_of w ≡ Some m → (if b then Err Form else Ok m) ≡ Ok id → (w ≡ address_text id) × (id ≢ 0) × (id < 2 ^ 32)
    apart m true e a k = absurd cc
    apart m false e a k =
        let same : m ≡ id = cc in
        let back = address_back w m a in
        (back.0 ∙ ap address_text same, subst (λ (x : ℕ). x ≢ 0) same (eqb-false m 0 e), omega (arith, back.1, same))

    by : (o : Option ℕ) → address_of w ≡ o → identifier_of o ≡ Ok id → (w ≡ address_text id) × (id ≢ 0) × (id < 2 ^ 32)
    by None a k = absurd cc
    by (Some m) a k = apart m (m == 0) refl a k

pub as_prefix_back : (w : List ℕ) (p : PlainPrefix) → as_prefix (prefix_spelled w) ≡ Ok p → (w ≡ prefix_text p) × IsPrefix p
as_prefix_back w p h = by (prefix_spelled w) refl h
  where
    by : (r : Result PlainPrefix PrefixFault) → prefix_spelled w ≡ r → as_prefix r ≡ Ok p → (w ≡ prefix_text p) × IsPrefix p
    by (Ok q) e k = let same : prefix_spelled w ≡ Ok p = e ∙ ap Ok (ok_same q p k) in (prefix_back w p same, prefix_spelled-IsPrefix w p same)
    by (Err f) e k = absurd cc
