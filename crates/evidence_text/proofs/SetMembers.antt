-- The locations of a set, one after another.
use Rattle.std.proofs.Common.{◌≡◌, ℕ, zero, suc, ◌+◌, ◌-◌, ◌<◌, ◌≤◌, Some, map, inl, inr, Bool, true, false, List, [], ◌∷◌, ◌++◌, refl, sym, ap, ◌∙◌, arith, append_assoc}
use Rattle.std.specs.Prelude.{filter, is_none, nat_eq}
use Rattle.std.specs.List.{range_with_len, list_any, AllByRecursion}
use Rattle.std.proofs.lemmas.Bool.{cases_eq, eq-eqb, le-leb, ne_eqb}
use Rattle.net_base.proofs.SetLaws.{same_sets, IsWords-set_of}
use Rattle.net_base.proofs.SetOf.{holds-set_of}
use Rattle.evidence_text.specs.Shape.{are_in_order, ascend_from}
use Rattle.net_base.specs.declared.loc.LocSet.{LocSet}
use Rattle.net_base.specs.Sets.{holds, set_of, IsWords}
use Rattle.evidence_text.specs.Text.{members}

-- those from a place on
abbrev pub members_from : LocSet → ℕ → List ℕ
members_from s l = filter (holds s) (range_with_len l (768 - l))

range_from : (l : ℕ) → l < 768 → range_with_len l (768 - l) ≡ l ∷ range_with_len (l + 1) (768 - (l + 1))
range_from l low = let more : 768 - l ≡ suc (768 - (l + 1)) = omega arith in ap (range_with_len l) more

filter_keeps : (p : ℕ → Bool) (x : ℕ) (xs : List ℕ) → p x ≡ true → filter p (x ∷ xs) ≡ x ∷ filter p xs
filter_keeps p x xs held = rw held refl

filter_drops : (p : ℕ → Bool) (x : ℕ) (xs : List ℕ) → p x ≡ false → filter p (x ∷ xs) ≡ filter p xs
filter_drops p x xs absent = rw absent refl

pub one_member : (s : LocSet) (l : ℕ) (all whole : List ℕ) → l < 768 → holds s l ≡ true → all ++ members_from s l ≡ whole → (all ++ l ∷ []) ++ members_from s (l + 1) ≡ whole
one_member s l all whole low held before =
    append_assoc all (l ∷ []) (members_from s (l + 1))
    ∙ ap (λ t. all ++ t) (sym (ap (filter (holds s)) (range_from l low) ∙ filter_keeps (holds s) l (range_with_len (l + 1) (768 - (l + 1))) held)) ∙ before

pub not_member : (s : LocSet) (l : ℕ) (all whole : List ℕ) → l < 768 → holds s l ≡ false → all ++ members_from s l ≡ whole → all ++ members_from s (l + 1) ≡ whole
not_member s l all whole low absent before =
    ap (λ t. all ++ t) (sym (ap (filter (holds s)) (range_from l low) ∙ filter_drops (holds s) l (range_with_len (l + 1) (768 - (l + 1))) absent)) ∙ before

-- ---- they are the set again

ascend_range : (p : ℕ → Bool) (n a least : ℕ) → least ≤ a → ascend_from least (map Some (filter p (range_with_len a n))) ≡ true
ascend_range p zero a least low = refl
ascend_range p (suc n) a least low = by (p a) refl (ascend_range p n (a + 1) (a + 1) (omega arith)) (ascend_range p n (a + 1) least (omega (arith, low)))
  where
    by : (b : Bool) → p a ≡ b → ascend_from (a + 1) (map Some (filter p (range_with_len (a + 1) n))) ≡ true → ascend_from least (map Some (filter p (range_with_len (a + 1) n))) ≡ true
        → ascend_from least (map Some (filter p (a ∷ range_with_len (a + 1) n))) ≡ true
    by true e held absent = ap (λ (xs : List ℕ). ascend_from least (map Some xs)) (filter_keeps p a (range_with_len (a + 1) n) e) ∙ rw (le-leb least a low) held
    by false e held absent = ap (λ (xs : List ℕ). ascend_from least (map Some xs)) (filter_drops p a (range_with_len (a + 1) n) e) ∙ absent

none_missing : (xs : List ℕ) → list_any is_none (map Some xs) ≡ false
none_missing [] = refl
none_missing (x ∷ xs) = none_missing xs

in_order_where : (xs : List ℕ) → ascend_from 0 (map Some xs) ≡ true → are_in_order (map Some xs) ≡ true
in_order_where xs h = rw (none_missing xs) h

in_order_range : (p : ℕ → Bool) (n : ℕ) → are_in_order (map Some (filter p (range_with_len 0 n))) ≡ true
in_order_range p n = in_order_where (filter p (range_with_len 0 n)) (ascend_range p n 0 0 (omega arith))

pub members_in_order : (s : LocSet) → are_in_order (map Some (members s)) ≡ true
unfolding members
members_in_order s = in_order_range (holds s) 768

members_low : (p : ℕ → Bool) (n a most : ℕ) → a + n ≤ most → AllByRecursion (λ l. l < most) (filter p (range_with_len a n))
members_low p zero a most low = tt
members_low p (suc n) a most low = by (p a) refl (members_low p n (a + 1) most (omega (arith, low)))
  where
    by : (b : Bool) → p a ≡ b → AllByRecursion (λ l. l < most) (filter p (range_with_len (a + 1) n)) → AllByRecursion (λ l. l < most) (filter p (a ∷ range_with_len (a + 1) n))
    by true e rest = rw (filter_keeps p a (range_with_len (a + 1) n) e) (omega (arith, low), rest)
    by false e rest = rw (filter_drops p a (range_with_len (a + 1) n) e) rest

pub members_below : (s : LocSet) → AllByRecursion (λ l. l < 768) (members s)
unfolding members
members_below s = members_low (holds s) 768 0 768 (omega arith)

before : (p : ℕ → Bool) (l n a : ℕ) → l < a → list_any (nat_eq l) (filter p (range_with_len a n)) ≡ false
before p l zero a low = refl
before p l (suc n) a low = by (p a) refl (before p l n (a + 1) (omega (arith, low)))
  where
    by : (b : Bool) → p a ≡ b → list_any (nat_eq l) (filter p (range_with_len (a + 1) n)) ≡ false → list_any (nat_eq l) (filter p (a ∷ range_with_len (a + 1) n)) ≡ false
    by true e rest = rw (filter_keeps p a (range_with_len (a + 1) n) e, ne_eqb l a (λ same. omega (arith, low, same))) rest
    by false e rest = rw (filter_drops p a (range_with_len (a + 1) n) e) rest

among : (p : ℕ → Bool) (l n a : ℕ) → a ≤ l → l < a + n → list_any (nat_eq l) (filter p (range_with_len a n)) ≡ p l
among p l zero a low high = absurd (omega arith)
among p l (suc n) a low high = elim (cases_eq l a) [
  | inl same ↦ here same (p a) refl
  | inr other ↦ there other (p a) refl (among p l n (a + 1) (omega (arith, low, other)) (omega (arith, high)))
]
  where
    here : l ≡ a → (b : Bool) → p a ≡ b → list_any (nat_eq l) (filter p (a ∷ range_with_len (a + 1) n)) ≡ p l
    here same true e = rw (filter_keeps p a (range_with_len (a + 1) n) e, eq-eqb l a same) (sym (ap p same ∙ e))
    here same false e = rw (filter_drops p a (range_with_len (a + 1) n) e) (before p l n (a + 1) (omega (arith, same)) ∙ sym (ap p same ∙ e))

    there : (l ≡ a → ⊥) → (b : Bool) → p a ≡ b → list_any (nat_eq l) (filter p (range_with_len (a + 1) n)) ≡ p l → list_any (nat_eq l) (filter p (a ∷ range_with_len (a + 1) n)) ≡ p l
    there other true e rest = rw (filter_keeps p a (range_with_len (a + 1) n) e, ne_eqb l a other) rest
    there other false e rest = rw (filter_drops p a (range_with_len (a + 1) n) e) rest

set_of_range : (s : LocSet) (ms : List ℕ) → IsWords s → ((l : ℕ) → l < 768 → list_any (nat_eq l) ms ≡ holds s l) → set_of (λ l. list_any (nat_eq l) ms) ≡ s
set_of_range s ms words same =
    same_sets (set_of (λ l. list_any (nat_eq l) ms)) s (IsWords-set_of (λ l. list_any (nat_eq l) ms)) words (λ l low. holds-set_of (λ l. list_any (nat_eq l) ms) l low ∙ same l low)

pub set_of_members : (s : LocSet) → IsWords s → set_of (λ l. list_any (nat_eq l) (members s)) ≡ s
unfolding members
set_of_members s words = set_of_range s (filter (holds s) (range_with_len 0 768)) words (λ l low. among (holds s) l 768 0 (omega arith) low)
