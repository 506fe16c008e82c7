-- Lines in order of their classes.
use Rattle.std.proofs.Common.{◌≡◌, ℕ, ◌+◌, ◌-◌, ◌≤◌, Bool, true, false, List, [], ◌∷◌, length, take, drop, filter, refl, sym, ap₂, ◌∙◌, Bor, arith}
use Rattle.std.specs.Prelude.{◌==◌, ◌&&◌, nat_le, nat_lt, not}
use Rattle.std.specs.Fn.{Called, ComputesKey, Mut}
use Rattle.std.specs.List.Sorted.{IsNonDecreasingBy, IsPartitionPoint, IsPartitionedBy, IsStableByKey, ties}
use Rattle.std.specs.Ordering.{is_lt, nat_cmp}
use Rattle.std.proofs.lemmas.Bool.{eq-eqb, eqb-true, ltb-false, ltb-true, true≢false}
use Rattle.std.proofs.lemmas.Fn.{always_returns_same}
use Rattle.std.proofs.lemmas.List.Elements.{filter_agree}
use Rattle.std.proofs.lemmas.List.Sorted.{IsPartitionPoint-from_clause, IsPartitionedBy-leb, IsPartitionedBy-ltb}
use Rattle.net_base.specs.declared.numbers.Tag.{Tag}
use Rattle.net_base.specs.Numbers.{no_tag}
use Rattle.stage_blocks.proofs.Runs.{run_is, run_starts}
use Rattle.class_lines.specs.declared.class_line.ClassLine.{ClassLine}
use Rattle.class_lines.specs.ClassLines.{of_class, same_line, same_lines}

abbrev number : ClassLine → ℕ
number l = l.class

abbrev untagged : ClassLine → Tag
untagged l = no_tag

-- ---- the two searches

module _ (ls : List ClassLine) (k i j : ℕ) (up : IsNonDecreasingBy (λ (l : ClassLine). l.class) ls) where
  abbrev IsStart : Type 0
  IsStart = IsPartitionPoint (λ (l : ClassLine). nat_lt l.class k ≡ true) (λ (l : ClassLine). nat_lt l.class k ≡ false) ls i

  abbrev IsEnd : Type 0
  IsEnd = IsPartitionPoint (λ (l : ClassLine). nat_le l.class k ≡ true) (λ (l : ClassLine). nat_le l.class k ≡ false) ls j

  pub starts : {F : Type 0} {g : Mut F (Bor ClassLine × Unit {0}) Bool} {f : F}
      → ((t : ClassLine → Bool) → ComputesKey g t f → IsPartitionedBy t ls → IsPartitionPoint (λ y. t y ≡ true) (λ y. t y ≡ false) ls i)
      → ((a : Bor ClassLine × Unit {0}) (b : Bool) (f' : F) → Called g f a b f' → (b ≡ nat_lt a.0.now.class k) × (f' ≡ f)) → IsStart
  starts clause tells = IsPartitionPoint-from_clause (λ (l : ClassLine). nat_lt l.class k) ls i clause (IsPartitionedBy-ltb number ls k up) tells

  pub ends : {F : Type 0} {g : Mut F (Bor ClassLine × Unit {0}) Bool} {f : F}
      → ((t : ClassLine → Bool) → ComputesKey g t f → IsPartitionedBy t ls → IsPartitionPoint (λ y. t y ≡ true) (λ y. t y ≡ false) ls j)
      → ((a : Bor ClassLine × Unit {0}) (b : Bool) (f' : F) → Called g f a b f' → (b ≡ nat_le a.0.now.class k) × (f' ≡ f)) → IsEnd
  ends clause tells = IsPartitionPoint-from_clause (λ (l : ClassLine). nat_le l.class k) ls j clause (IsPartitionedBy-leb number ls k up) tells

  pub ordered : i ≤ length ls → IsStart → IsEnd → i ≤ j
  ordered short start end = run_starts untagged number k i j ls short start end

  pub is_run : i ≤ length ls → IsStart → IsEnd → take (j - i) (drop i ls) ≡ of_class k ls
  is_run short start end = run_is untagged number k i j ls short start end

-- ---- a stable sort

less_is : (a b : ℕ) → is_lt (nat_cmp a b) ≡ nat_lt a b
less_is a b = by (nat_lt a b) (a == b) refl refl
  where
    by : (x y : Bool) → nat_lt a b ≡ x → (a == b) ≡ y → is_lt (nat_cmp a b) ≡ nat_lt a b
    by true y e f = rw e refl
    by false true e f = rw (e, f) refl
    by false false e f = rw (e, f) refl

neither : (a b : ℕ) → (not (nat_lt a b) && not (nat_lt b a)) ≡ (b == a)
neither a b = by (nat_lt a b) (nat_lt b a) (b == a) refl refl refl
  where
    by : (x y z : Bool) → nat_lt a b ≡ x → nat_lt b a ≡ y → (b == a) ≡ z → (not (nat_lt a b) && not (nat_lt b a)) ≡ (b == a)
    by true y true e f g = absurd (omega (arith, ltb-true a b e, eqb-true b a g))
    by true y false e f g = rw (e, g) refl
    by false true true e f g = absurd (omega (arith, ltb-true b a f, eqb-true b a g))
    by false true false e f g = rw (e, f, g) refl
    by false false true e f g = rw (e, f, g) refl
    by false false false e f g =
        let same : b ≡ a = omega (arith, ltb-false a b e, ltb-false b a f) in
        absurd (true≢false (sym (eq-eqb b a same) ∙ g))

tie_is : (x y : ClassLine) → ties (λ (u v : ClassLine). is_lt (nat_cmp u.class v.class)) x y ≡ (y.class == x.class)
tie_is x y = ap₂ (λ p q. not p && not q) (less_is x.class y.class) (less_is y.class x.class) ∙ neither x.class y.class

pub classes_stay : {F : Type 0} {g : Mut F (Bor ClassLine × Unit {0}) ℕ} {f : F} (xs ys : List ClassLine)
    → ((key : ClassLine → ℕ) → ComputesKey g key f → IsStableByKey key nat_cmp xs ys)
    → ((a : Bor ClassLine × Unit {0}) (r : ℕ) (f' : F) → Called g f a r f' → (r ≡ a.0.now.class) × (f' ≡ f))
    → (some : ClassLine) → of_class some.class ys ≡ of_class some.class xs
classes_stay {g = g} {f = f} xs ys clause tells some =
    let stable = clause number (always_returns_same g (λ a r. r ≡ number a.0.now) f tells) in
    filter_agree (λ (l : ClassLine). l.class == some.class) (ties (λ (u v : ClassLine). is_lt (nat_cmp u.class v.class)) some) (λ y. sym (tie_is some y)) ys
    ∙ stable some
    ∙ filter_agree (ties (λ (u v : ClassLine). is_lt (nat_cmp u.class v.class)) some) (λ (l : ClassLine). l.class == some.class) (tie_is some) xs

-- ---- lists of other lengths

pub apart : (xs ys : List ClassLine) → (length xs ≡ length ys → ⊥) → false ≡ same_lines xs ys
apart [] [] differ = absurd (differ refl)
apart [] (y ∷ ys) differ = refl
apart (x ∷ xs) [] differ = refl
apart (x ∷ xs) (y ∷ ys) differ = either_way (same_line x y) (same_lines xs ys) (apart xs ys (λ e. differ (omega (arith, e))))
  where
    either_way : (a b : Bool) → false ≡ b → false ≡ (a && b)
    either_way true b e = e
    either_way false b e = refl
