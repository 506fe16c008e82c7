-- The pair that is refuted, and the lines that show it.
use Rattle.std.specs.Prelude.{◌≡◌, ◌⊎◌, ℕ, suc, ◌<◌, ◌≤◌, Bool, false, IsTrue, List, [], ◌∷◌, Some, slice_get}
use Rattle.graph_base.specs.declared.refutation.Refutation.{Refutation}
use Rattle.graph_base.specs.declared.refutation.Removed.{Removed}
use Rattle.graph_base.specs.declared.refutation.Why.{Why}
use Rattle.graph_base.specs.declared.refutation.Why.TheVariants.{RankWorse, NoStep, StepWorse, LoopWorse, ListenerWorse}
use Rattle.graph_base.specs.Graphs.{PlainGraph}
use Rattle.graph_base.specs.Refuting.{IsLine}
use Rattle.graph_base.specs.Runs.{place_of}
use Rattle.net_base.specs.declared.loc.LocSet.{LocSet}
use Rattle.relation_law.specs.Relations.{Pair, steps_on}
use Rattle.relation_law.specs.Rounds.{IsReach, fails, gone_after}
use Rattle.relation_law.specs.Views.{View, view_of}
use Rattle.relation_law.specs.Reasons.{IsReason}

-- m above n goes in this round, for this reason
pub record Goes (v : View) (reach : ℕ → ℕ → Bool) (m n round : ℕ) (why : Why) : Type 0 where
  pub pair : Pair v m n
  pub before : ℕ
  pub next : round ≡ suc before
  pub stayed : gone_after v reach before m n ≡ false
  pub fell : IsTrue (fails v reach (gone_after v reach before) m n)
  pub reason : IsReason v reach (gone_after v reach before) m n why

-- the one pair on which a reason rests, if it rests on one
abbrev pub Rests : View → ℕ → ℕ → Why → ℕ → ℕ → Type 0
Rests v m n (StepWorse z) a b = IsTrue (steps_on v m a) × (v.place a ≡ z) × IsTrue (steps_on v n b) × (v.place b ≡ z)
Rests v m n (LoopWorse z k) a b = (a ≡ k) × IsTrue (steps_on v n b) × (v.place b ≡ z)
Rests v m n RankWorse a b = ⊥
Rests v m n (NoStep z) a b = ⊥
Rests v m n (ListenerWorse z) a b = ⊥

-- from m above n down to a above b, through what each rests on
abbrev pub IsChain : View → (ℕ → ℕ → Bool) → ℕ → ℕ → List (ℕ × ℕ) → ℕ → ℕ → Type 0
IsChain v reach m n [] a b = (m ≡ a) × (n ≡ b)
IsChain v reach m n (x ∷ via) a b = (round : ℕ) × (why : Why) × Goes v reach m n round why × Rests v m n why x.0 x.1 × IsChain v reach x.0 x.1 via a b

-- a chain from either direction of the pair comes to a above b
abbrev pub IsNeeded : View → (ℕ → ℕ → Bool) → ℕ → ℕ → ℕ → ℕ → Type 0
IsNeeded v reach first second a b = (via : List (ℕ × ℕ)) × (IsChain v reach first second via a b ⊎ IsChain v reach second first via a b)

-- both directions have gone, the later one in this round
pub record IsOpen (v : View) (reach : ℕ → ℕ → Bool) (first second round : ℕ) : Type 0 where
  pub order : first ≤ second
  pub pair : Pair v first second
  pub before : ℕ
  pub next : round ≡ suc before
  pub later : IsTrue (gone_after v reach round first second) × IsTrue (gone_after v reach round second first)
  pub earlier : IsTrue (gone_after v reach before first second) → IsTrue (gone_after v reach before second first) → ⊥

-- x comes first: by round, then by location, then by the first number, then by the second
abbrev pub IsEarlier : ℕ × ℕ × ℕ × ℕ → ℕ × ℕ × ℕ × ℕ → Type 0
IsEarlier x y = (x.0 < y.0) ⊎ (x.0 ≡ y.0) × ((x.1 < y.1) ⊎ (x.1 ≡ y.1) × ((x.2 < y.2) ⊎ (x.2 ≡ y.2) × (x.3 < y.3)))

-- of all such pairs the first one
pub record IsRefutedPair (v : View) (reach : ℕ → ℕ → Bool) (first second round : ℕ) : Type 0 where
  pub is_open : IsOpen v reach first second round
  pub least : (a b other : ℕ) → IsOpen v reach a b other → IsEarlier (other, v.place a, a, b) (round, v.place first, first, second) → ⊥

abbrev pub key_of : View → Removed → ℕ × ℕ × ℕ × ℕ
key_of v l = (l.round, v.place l.worse, l.better, l.worse)

-- The pair is the first of those of which neither direction is left, and the lines are those that are needed for it, in their order.
pub record IsRefutation (v : View) (reach : ℕ → ℕ → Bool) (first second : ℕ) (lines : List Removed) : Type 0 where
  pub round : ℕ
  pub pair : IsRefutedPair v reach first second round
  pub each : (l : Removed) → IsLine lines l → IsNeeded v reach first second l.better l.worse × Goes v reach l.better l.worse l.round l.why
  pub all : (a b : ℕ) → IsNeeded v reach first second a b → (l : Removed) × IsLine lines l × (l.better ≡ a) × (l.worse ≡ b)
  pub order : (i : ℕ) (k l : Removed) → slice_get lines i ≡ Some k → slice_get lines (suc i) ≡ Some l → IsEarlier (key_of v k) (key_of v l)

-- what is given for a graph and its claimed locations
pub record IsRefutationOf (g : PlainGraph) (claimed : LocSet) (r : Refutation) : Type 0 where
  pub reach : ℕ → ℕ → Bool
  pub exact : IsReach (view_of g claimed) reach
  pub chosen : IsRefutation (view_of g claimed) reach r.first r.second r.lines
  pub place : r.router ≡ place_of g r.first
