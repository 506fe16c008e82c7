-- What is linked is a location, and links have no direction.
use Rattle.std.proofs.Common.{◌≡◌, ◌∙◌, ◌⊎◌, ℕ, ◌+◌, true, false, length, arith, inl, inr, Bool, List, [], ◌∷◌, refl, ap₂}
use Rattle.std.specs.Prelude.{◌==◌, ◌&&◌, ◌||◌}
use Rattle.std.specs.List.{list_any, position}
use Rattle.std.proofs.lemmas.Bool.{and_from, and_parts, eq-eqb, eqb-true, lt-ltb, or_cases, or_left, or_right}
use Rattle.list_law.proofs.Each.{AllByRecursion_at}
use Rattle.list_law.proofs.Numbers.{eqb_comm}
use Rattle.list_law.proofs.Tests.{list_any_parts}
use Rattle.net_base.specs.Network.{PlainNet, IsNet, IsLink, is_location, joins, linked, same_ends}
use Rattle.std.proofs.Math.Bool.{or_comm}

pub any_flips : (a b : ℕ) (links : List (ℕ × ℕ)) → list_any (joins a b) links ≡ list_any (joins b a) links
any_flips a b [] = refl
any_flips a b (l ∷ ls) = ap₂ (λ (x y : Bool). x || y) (or_comm (l.0 == a && l.1 == b) (l.0 == b && l.1 == a)) (any_flips a b ls)

-- links have no direction
pub linked_flips : (net : PlainNet) (a b : ℕ) → linked net a b ≡ linked net b a
linked_flips net a b = any_flips a b net.links

ends_known : (net : PlainNet) (a b : ℕ) (link : ℕ × ℕ) → IsLink net link → link.0 ≡ a → link.1 ≡ b → (is_location net a ≡ true) × (is_location net b ≡ true)
ends_known net a b link rules x y =
    let total = length net.routers + length net.peers in
    (lt-ltb a total (omega (arith, rules.0, rules.1, x)), lt-ltb b total (omega (arith, rules.1, y)))

joins_known : (net : PlainNet) (a b : ℕ) (link : ℕ × ℕ) → IsLink net link → joins a b link ≡ true → (is_location net a ≡ true) × (is_location net b ≡ true)
joins_known net a b link rules h = elim (or_cases (link.0 == a && link.1 == b) (link.0 == b && link.1 == a) h) [
  | inl t ↦
      let parts = and_parts (link.0 == a) (link.1 == b) t in
      ends_known net a b link rules (eqb-true link.0 a parts.0) (eqb-true link.1 b parts.1)
  | inr t ↦
      let parts = and_parts (link.0 == b) (link.1 == a) t in
      let both = ends_known net b a link rules (eqb-true link.0 b parts.0) (eqb-true link.1 a parts.1) in
      (both.1, both.0)
]

-- what is linked is a location
pub linked_known : (net : PlainNet) (a b : ℕ) → IsNet net → linked net a b ≡ true → (is_location net a ≡ true) × (is_location net b ≡ true)
linked_known net a b rules h =
    let found = list_any_parts (joins a b) net.links h in
    joins_known net a b found.1 (AllByRecursion_at (IsLink net) net.links found.0 found.1 rules.links found.2) found.3

-- ---- what a test of two ends tells

pub joins_ends : (a b : ℕ) (link : ℕ × ℕ) → joins a b link ≡ true → ((link.0 ≡ a) × (link.1 ≡ b)) ⊎ ((link.0 ≡ b) × (link.1 ≡ a))
joins_ends a b link h = elim (or_cases (link.0 == a && link.1 == b) (link.0 == b && link.1 == a) h) [
  | inl t ↦ (let parts = and_parts (link.0 == a) (link.1 == b) t in inl (eqb-true link.0 a parts.0, eqb-true link.1 b parts.1))
  | inr t ↦ (let parts = and_parts (link.0 == b) (link.1 == a) t in inr (eqb-true link.0 b parts.0, eqb-true link.1 a parts.1))
]

pub joins_straight : (a b : ℕ) (link : ℕ × ℕ) → link.0 ≡ a → link.1 ≡ b → joins a b link ≡ true
joins_straight a b link one two = or_left (link.0 == a && link.1 == b) _ (and_from (link.0 == a) (link.1 == b) (eq-eqb link.0 a one) (eq-eqb link.1 b two))

pub joins_turned : (a b : ℕ) (link : ℕ × ℕ) → link.0 ≡ b → link.1 ≡ a → joins a b link ≡ true
joins_turned a b link one two =
    or_right (link.0 == a && link.1 == b) (link.0 == b && link.1 == a) (and_from (link.0 == b) (link.1 == a) (eq-eqb link.0 b one) (eq-eqb link.1 a two))

pub position-joins_flips : (a b : ℕ) (links : List (ℕ × ℕ)) → position (joins a b) links ≡ position (joins b a) links
position-joins_flips a b links = λ i. position (λ link. or_comm (link.0 == a && link.1 == b) (link.0 == b && link.1 == a) i) links

pub same_ends-swap : (a b : ℕ × ℕ) → same_ends a b ≡ false → same_ends b a ≡ false
same_ends-swap a b apart = ap₂ (λ (x y : Bool). x && y) (eqb_comm b.0 a.0) (eqb_comm b.1 a.1) ∙ apart
