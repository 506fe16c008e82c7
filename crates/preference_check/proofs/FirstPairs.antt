-- The first pair that breaks a rule, found node by node.
use Rattle.std.proofs.Common.{◌≡◌, ◌↔◌, ℕ, ◌+◌, ◌<◌, Option, Some, None, inl, inr, sym, subst, arith}
use Rattle.std.proofs.lemmas.Bool.{cases_lt}
use Rattle.preference_check.specs.FirstPair.{IsFirst, IsFirstPair, IsFirstPairOrNone}

-- rules that say the same have the same first pair
pub first_pair_along : (P Q : ℕ → ℕ → Type 0) → ((m n : ℕ) → P m n ↔ Q m n) → (o : Option (ℕ × ℕ)) → IsFirstPairOrNone P o → IsFirstPairOrNone Q o
first_pair_along P Q same None h = λ m n. (same m n).0 (h m n)
first_pair_along P Q same (Some pair) h = record { fails = λ q. h.fails ((same pair.0 pair.1).1 q); before = λ m n early. (same m n).0 (h.before m n early) }

-- the first node that breaks a rule with another, and the first one with which it does
pub first_of_both : (Keeps : ℕ → ℕ → Type 0) (m n : ℕ) → ((p q : ℕ) → p < m → Keeps p q) → IsFirst (Keeps m) n → IsFirstPair Keeps (m, n)
first_of_both Keeps m n below first = record {
  fails = first.fails;
  before = λ p q early. elim early [ inl less ↦ below p q less | inr same ↦ subst (λ k. Keeps k q) (sym same.0) (first.before q same.1) ];
}

-- a node more keeps the rule with all
pub keeps_more : (Keeps : ℕ → ℕ → Type 0) (m : ℕ) → ((p q : ℕ) → p < m → Keeps p q) → ((q : ℕ) → Keeps m q) → (p q : ℕ) → p < m + 1 → Keeps p q
keeps_more Keeps m below here p q lt = elim (cases_lt p m) [
  | inl less ↦ below p q less
  | inr more ↦ let same : m ≡ p = omega arith in subst (λ k. Keeps k q) same (here q)
]
