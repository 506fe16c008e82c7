-- Which of two nodes at one location may stand at least as high as the other.
use Rattle.std.specs.Prelude.{◌≡◌, ◌⊎◌, ℕ, ◌<◌, Bool, false, true, not, ◌&&◌, IsTrue, Option, Some, None, nat_le}
use Rattle.relation_law.specs.Views.{View}

-- the first rank is no worse than the second; to have none is worst
abbrev pub no_worse : Option ℕ → Option ℕ → Bool
no_worse i None = true
no_worse None (Some j) = false
no_worse (Some i) (Some j) = nat_le i j

-- n steps to a node that doesn't hear, or to one that does
abbrev pub steps_on : View → ℕ → ℕ → Bool
steps_on v n t = v.step n t && not (v.hears t)

abbrev pub is_heard : View → ℕ → ℕ → Bool
is_heard v n t = v.step n t && v.hears t

-- two nodes at one location
pub record Pair (v : View) (m n : ℕ) : Type 0 where
  pub left : m < v.size
  pub right : n < v.size
  pub place : v.place m ≡ v.place n

-- The rules for m above n, where above a b says that a may stand at least as high as b. A graph alone doesn't
-- tell a peer from a router: a step to a node that hears counts as one to a peer and every other as one to a
-- router, and the rules are asked at each location.
pub record Meets (v : View) (above : ℕ → ℕ → Bool) (m n : ℕ) : Type 0 where
  -- at a claimed location m has no worse a rank
  pub rank : IsTrue (v.claimed (v.place n)) → IsTrue (no_worse (v.rank m) (v.rank n))
  -- m steps to each location to which n does, and to a node that may stand as high
  pub step : (t : ℕ) → t < v.size → IsTrue (steps_on v n t) → (s : ℕ) × (s < v.size) × IsTrue (steps_on v m s) × (v.place s ≡ v.place t) × IsTrue (above s t)
  -- each node there from which m can be reached may stand as high as the one to which n steps
  pub loop : (t k : ℕ) → t < v.size → k < v.size → IsTrue (steps_on v n t) → v.place k ≡ v.place t → v.Leads k m → IsTrue (above k t)
  -- m is heard at each location at which n is, with no worse a rank
  pub listener : (t : ℕ) → t < v.size → IsTrue (is_heard v n t) → (s : ℕ) × (s < v.size) × IsTrue (is_heard v m s) × (v.place s ≡ v.place t) × IsTrue (no_worse (v.rank s) (v.rank t))

-- each pair of the relation is of one location, and meets the rules against it
abbrev pub IsClosed : View → (ℕ → ℕ → Bool) → Type 0
IsClosed v r = (m n : ℕ) → IsTrue (r m n) → Pair v m n × Meets v r m n

-- it is closed, and has each pair of each closed one
pub record IsGreatest (v : View) (r : ℕ → ℕ → Bool) : Type 0 where
  pub closed : IsClosed v r
  pub greatest : (s : ℕ → ℕ → Bool) → IsClosed v s → (m n : ℕ) → IsTrue (s m n) → IsTrue (r m n)

-- of each two nodes at one location, the same node twice included, one direction is in it
abbrev pub IsTotal : View → (ℕ → ℕ → Bool) → Type 0
IsTotal v r = (m n : ℕ) → Pair v m n → IsTrue (r m n) ⊎ IsTrue (r n m)
