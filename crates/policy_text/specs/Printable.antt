-- Which policies have a text for a net.
use Rattle.std.specs.Prelude.{◌≡◌, ◌≢◌, ℕ, ◌+◌, ◌≤◌, max, nat_lt, Bool, true, false, IsTrue, List, [], ◌∷◌, length, if◌then◌else◌, ◌⊎◌}
use Rattle.std.specs.List.{AllByRecursion}
use Rattle.net_base.specs.declared.loc.LocSet.{LocSet}
use Rattle.net_base.specs.Network.{PlainNet, is_router, is_location}
use Rattle.net_base.specs.Sets.{holds}
use Rattle.policy_base.specs.declared.call.Call.{Call}
use Rattle.policy_base.specs.declared.call.Call.TheVariants.{Any, Drop, Internal, Link, Path, Of}
use Rattle.policy_base.specs.CallWords.{word_of}
use Rattle.policy_base.specs.declared.policy.FromSet.{FromSet}
use Rattle.policy_base.specs.declared.policy.FromSet.TheVariants as from_set
use Rattle.policy_base.specs.declared.policy.Origin.{Origin}
use Rattle.policy_base.specs.Policies.{Ranking, call, calls, prefer, either, both, negated, PlainStatement, PlainPolicy, IsPolicy}
use Rattle.policy_text.specs.PolicyText.{has_sets}
use Rattle.policy_tokens.specs.declared.limits.TheConstants.{BRACKETS, CALLS, PLACES}

-- the set holds no location that fails the test
abbrev pub HoldsOnly : (ℕ → Bool) → LocSet → Type 0
HoldsOnly test s = (l : ℕ) → IsTrue (holds s l) → IsTrue (test l)

abbrev pub HoldsSome : LocSet → Type 0
HoldsSome s = (l : ℕ) × IsTrue (holds s l)

-- the set of a call: locations of the net alone; it is empty only where the net has none
abbrev pub IsCallSet : PlainNet → LocSet → Type 0
IsCallSet net s = HoldsOnly (is_location net) s × (HoldsSome s ⊎ (length net.routers + length net.peers ≡ 0))

-- the sets of a call, of which a `path` has from 2 to 256
abbrev pub HasCallSets : PlainNet → Call → Type 0
HasCallSets net Any = Unit {0}
HasCallSets net Drop = Unit {0}
HasCallSets net Internal = Unit {0}
HasCallSets net (Of c s) = IsCallSet net s
HasCallSets net (Link a b) = IsCallSet net a × IsCallSet net b
HasCallSets net (Path ps) = AllByRecursion (IsCallSet net) ps × (2 ≤ length ps) × (length ps ≤ PLACES)

-- the call has one set
abbrev pub has_one_set : Call → Bool
has_one_set (Of c s) = true
has_one_set _ = false

-- two calls at least, of one word, with one set each
abbrev pub AreRanked : PlainNet → List Call → Type 0
AreRanked net [] = ⊥
AreRanked net (c ∷ cs) = (1 ≤ length cs) × AllByRecursion (λ d. (word_of d ≡ word_of c) × IsTrue (has_one_set d) × HasCallSets net d) (c ∷ cs)

-- nothing in the expression is ranked
abbrev pub HasNoRank : Ranking → Type 0
HasNoRank (call c) = Unit {0}
HasNoRank (calls cs) = ⊥
HasNoRank (prefer a b) = ⊥
HasNoRank (either a b) = HasNoRank a × HasNoRank b
HasNoRank (both a b) = HasNoRank a × HasNoRank b
HasNoRank (negated a) = HasNoRank a

-- the calls of an expression have their sets, and nothing that stands under `or` or `not` is ranked
abbrev pub IsWritable : PlainNet → Ranking → Type 0
IsWritable net (call c) = HasCallSets net c
IsWritable net (calls cs) = AreRanked net cs
IsWritable net (prefer a b) = IsWritable net a × IsWritable net b
IsWritable net (either a b) = (IsWritable net a × IsWritable net b) × HasNoRank (either a b)
IsWritable net (both a b) = IsWritable net a × IsWritable net b
IsWritable net (negated a) = IsWritable net a × HasNoRank a

-- how many calls an expression has
abbrev pub call_count : Ranking → ℕ
call_count (call c) = 1
call_count (calls cs) = 1
call_count (prefer a b) = call_count a + call_count b
call_count (either a b) = call_count a + call_count b
call_count (both a b) = call_count a + call_count b
call_count (negated a) = call_count a

abbrev pub one_if : Bool → ℕ
one_if b = if b then 1 else 0

-- how many brackets the text of an expression opens at once, where what binds less than a number stands in brackets
abbrev pub open_brackets : ℕ → Ranking → ℕ
open_brackets least (call c) = one_if (has_sets c)
open_brackets least (calls cs) = 1
open_brackets least (prefer a b) = one_if (nat_lt 1 least) + max (open_brackets 1 a) (open_brackets 2 b)
open_brackets least (either a b) = one_if (nat_lt 2 least) + max (open_brackets 2 a) (open_brackets 3 b)
open_brackets least (both a b) = one_if (nat_lt 3 least) + max (open_brackets 3 a) (open_brackets 4 b)
open_brackets least (negated a) = one_if (nat_lt 4 least) + open_brackets 5 a

-- `from` names locations of the net alone, and at least one
abbrev pub IsWritableFrom : PlainNet → FromSet → Type 0
IsWritableFrom net from_set.Any = Unit {0}
IsWritableFrom net (from_set.Named s) = HoldsOnly (is_location net) s × HoldsSome s

pub record IsPrintableStatement (net : PlainNet) (s : PlainStatement) : Type 0 where
  pub patterns : s.patterns ≢ []
  pub ranked : IsWritable net s.ranked
  pub brackets : open_brackets 1 s.ranked ≤ BRACKETS
  pub calls : call_count s.ranked ≤ CALLS
  pub from : IsWritableFrom net s.from

-- routers alone, and at least one
abbrev pub IsPrintableOrigin : PlainNet → Origin → Type 0
IsPrintableOrigin net o = HoldsOnly (is_router net) o.at × HoldsSome o.at

-- A policy has a text for a net: the sets in it hold locations of the net alone, the grammar has a form for each of
-- its parts, and each count is within its limit.
pub record IsPrintable (net : PlainNet) (policy : PlainPolicy) : Type 0 where
  pub limits : IsPolicy policy
  pub origins : AllByRecursion (IsPrintableOrigin net) policy.origins
  pub statements : AllByRecursion (IsPrintableStatement net) policy.statements
