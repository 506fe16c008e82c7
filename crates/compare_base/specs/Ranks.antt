-- What two policies say of the walks of a prefix, and when they say the same.
use Rattle.std.specs.Prelude.{◌≡◌, ◌≢◌, ◌↔◌, ℕ, ◌≤◌, IsTrue, List, [], ◌∷◌, ◌++◌, length, reverse, Option, Some, None, is_some, if◌then◌else◌}
use Rattle.net_base.specs.Network.{PlainNet, is_router}
use Rattle.net_base.specs.Prefixes.{PlainPrefix, IsPrefix}
use Rattle.policy_base.specs.Policies.{PlainPolicy, PlainStatement}
use Rattle.policy_base.specs.Meaning.{rank_of}
use Rattle.policy_base.specs.Governing.{is_origin, statement_of}
use Rattle.policy_base.specs.Permitted.{is_permitted}
use Rattle.impact_law.specs.Impacts.{begin_at}
use Rattle.compare_base.specs.declared.rows.Row.{Row}

-- the rank of a walk that the statement permits for the prefix, none where it doesn't
abbrev pub rank_by : PlainNet → PlainPolicy → PlainPrefix → Option PlainStatement → List ℕ → Option ℕ
rank_by net policy p None path = None
rank_by net policy p (Some s) path = if is_permitted net policy p s path then rank_of net s.ranked path else None

-- the rank of a walk that the policy permits for the prefix, none where it doesn't
abbrev pub rank_for : PlainNet → PlainPolicy → PlainPrefix → List ℕ → Option ℕ
rank_for net policy p path = rank_by net policy p (statement_of policy p) path

-- some walk of the source has these ranks, and one of the two policies permits it
abbrev pub HasRow : PlainNet → PlainPolicy → PlainPolicy → PlainPrefix → ℕ → Option ℕ → Row → Type 0
HasRow net old new p r peer row =
    (rest : List ℕ) × (rank_for net old p (begin_at r peer ++ rest) ≡ row.old) × (rank_for net new p (begin_at r peer ++ rest) ≡ row.new)
    × (row ≢ record { old = None; new = None })

-- The two policies say the same of the prefix: they have the same origins, permit the same walks, and order those of each source alike.
pub record IsAlike (net : PlainNet) (old new : PlainPolicy) (p : PlainPrefix) : Type 0 where
  pub origins : (l : ℕ) → is_origin net old p l ≡ is_origin net new p l
  pub permitted : (path : List ℕ) → is_some (rank_for net old p path) ≡ is_some (rank_for net new p path)
  pub order : (r : ℕ) (peer : Option ℕ) (u v : List ℕ) (a b c d : ℕ) → IsTrue (is_router net r)
      → rank_for net old p (begin_at r peer ++ u) ≡ Some a → rank_for net old p (begin_at r peer ++ v) ≡ Some b
      → rank_for net new p (begin_at r peer ++ u) ≡ Some c → rank_for net new p (begin_at r peer ++ v) ≡ Some d → (a ≤ b) ↔ (c ≤ d)

-- The two policies say the same of every prefix.
abbrev pub IsSame : PlainNet → PlainPolicy → PlainPolicy → Type 0
IsSame net old new = (p : PlainPrefix) → IsPrefix p → IsAlike net old new p

-- the first list is no later than the second where the first place at which they differ has a lesser location
abbrev pub IsNoLater : List ℕ → List ℕ → Type 0
IsNoLater [] ys = Unit {0}
IsNoLater (x ∷ xs) [] = ⊥
IsNoLater (x ∷ xs) (y ∷ ys) = (x ≤ y) × (x ≡ y → IsNoLater xs ys)

-- The walk begins at the source and has these ranks. None that does is shorter, and of those of its length it comes first by the last
-- place, then by the one before it, and so on.
pub record IsFirstWalk (net : PlainNet) (old new : PlainPolicy) (p : PlainPrefix) (r : ℕ) (peer : Option ℕ) (row : Row) (walk : List ℕ) : Type 0 where
  pub begins : (rest : List ℕ) × (walk ≡ begin_at r peer ++ rest)
  pub in_old : rank_for net old p walk ≡ row.old
  pub in_new : rank_for net new p walk ≡ row.new
  pub first : (rest : List ℕ) → rank_for net old p (begin_at r peer ++ rest) ≡ row.old → rank_for net new p (begin_at r peer ++ rest) ≡ row.new
      → (length walk ≤ length (begin_at r peer ++ rest)) × (length walk ≡ length (begin_at r peer ++ rest) → IsNoLater (reverse walk) (reverse (begin_at r peer ++ rest)))
