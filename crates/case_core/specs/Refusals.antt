-- What is made of a case, and why a case is refused.
use Rattle.std.specs.Prelude.{◌≡◌, ℕ, ◌-◌, ◌^◌, ◌<◌, ◌≤◌, min, IsTrue, List, ◌∷◌, length}
use Rattle.policy_base.specs.declared.limits.TheConstants.{ALTERNATIVES}
use Rattle.path_exprs.specs.declared.limits.TheConstants.{NODES}
use Rattle.net_base.specs.declared.numbers.Tag.{Tag}
use Rattle.net_base.specs.Network.{PlainNet}
use Rattle.net_base.specs.Sets.{holds}
use Rattle.policy_base.specs.declared.case.Case.{Case}
use Rattle.policy_base.specs.Meaning.{alternative_count}
use Rattle.policy_base.specs.Policies.{PlainStatement}
use Rattle.graph_base.specs.Graphs.{PlainGraph}
use Rattle.graph_base.specs.Ranked.{IsRankedAt, IsUnrankedAt}
use Rattle.graph_base.specs.Walks.{IsShownWalk}
use Rattle.evidence_law.specs.Faithful.{permits}
use Rattle.evidence_law.specs.Passes.{IsCaseGraph}
use Rattle.path_exprs.specs.Standings.{PassesStates, plan_for}
use Rattle.case_core.specs.BuildOutcomes.{PassesSteps}
use Rattle.graph_law.specs.Limits.{IsBuiltWithin}
use Rattle.reach_prune.specs.Trimmed.{IsTrimmed}
use Rattle.case_core.specs.declared.cases.CaseGraph.{CaseGraph}
use Rattle.case_core.specs.declared.refusal.CompileRefusal.{CompileRefusal}
use Rattle.case_core.specs.declared.refusal.CompileRefusal.TheVariants.{TooManyRanks, TooManyStates, TooManySteps, SourceWithoutPath, MixedSource, NoEvidence, NoMemory}
use Rattle.case_core.specs.declared.sources.Mixed.{Mixed}
use Rattle.case_core.specs.Sources.{IsLeast, HavePaths, IsMixed, IsUnranked, IsWithoutPath}

-- the graph of a case, of which `built` is what was built
pub record IsMade (net : PlainNet) (room : ℕ) (s : PlainStatement) (c : Case) (built made : PlainGraph) : Type 0 where
  pub within : IsBuiltWithin net room s c built
  pub trimmed : IsTrimmed built made

-- The graph that is given for a case is what is left of the one that is built, and says how many steps that one has.
abbrev pub IsGraphOf : PlainNet → ℕ → PlainStatement → Case → CaseGraph → Type 0
IsGraphOf net room s c given = (built : PlainGraph) × IsMade net room s c built given.graph × (given.used ≡ length built.steps)

-- It says of walks what the statement says of them, and each node at a claimed router has a rank, whatever numbers and
-- tags the nodes get.
abbrev pub FitsCase : PlainNet → PlainStatement → Case → PlainGraph → Type 0
FitsCase net s c g = (numbers : List ℕ) (tags : List Tag) → IsCaseGraph net s (record { case = c; graph = g; numbers = numbers; tags = tags })

-- ---- refusals

-- the walk by which the least of some nodes is shown
abbrev pub IsWalkOfLeast : PlainGraph → (ℕ → Type 0) → List ℕ → Type 0
IsWalkOfLeast g Of walk = (n : ℕ) × IsLeast Of n × IsShownWalk g n walk

-- a router with two walks that are shown, a permitted one and one without a rank
pub record ShowsMixed (net : PlainNet) (s : PlainStatement) (c : Case) (g : PlainGraph) (r : ℕ) (with without : List ℕ) : Type 0 where
  pub first : IsLeast (IsMixed net s c) r
  pub with_starts : (rest : List ℕ) × (with ≡ r ∷ rest)
  pub with_permitted : IsTrue (permits net (holds c.origins) s with)
  pub with_least : IsWalkOfLeast g (IsRankedAt g r) with
  pub without_starts : (rest : List ℕ) × (without ≡ r ∷ rest)
  pub without_unranked : IsUnranked net s c without
  pub without_least : IsWalkOfLeast g (IsUnrankedAt g r) without

-- the refusal names such a router, and the walks by which its first nodes are shown
abbrev pub ShowsWalks : PlainGraph → ℕ → Mixed → CompileRefusal → Type 0
ShowsWalks g number mixed e =
    (with without : List ℕ) × IsShownWalk g mixed.ranked with × IsShownWalk g mixed.unranked without × (e ≡ MixedSource number mixed.router with without)

-- the case passes one of the limits, on alternatives, nodes or steps; or memory ran out
abbrev pub IsPastLimit : CompileRefusal → Type 0
IsPastLimit (TooManyRanks k count) = Unit {0}
IsPastLimit (TooManyStates k) = Unit {0}
IsPastLimit (TooManySteps k) = Unit {0}
IsPastLimit NoMemory = Unit {0}
IsPastLimit _ = ⊥

-- What a refusal of a case's graph says of the case with this number. Each one says too that none before it applies.
abbrev pub IsCause : PlainNet → ℕ → ℕ → PlainStatement → Case → CompileRefusal → Type 0
IsCause net number room s c (TooManyRanks k count) =
    (k ≡ number) × (ALTERNATIVES < alternative_count s.ranked) × (count ≡ min (alternative_count s.ranked) (2 ^ 64 - 1))
IsCause net number room s c (TooManyStates k) =
    (k ≡ number) × (alternative_count s.ranked ≤ ALTERNATIVES) × PassesStates net (plan_for net s c) NODES
IsCause net number room s c (TooManySteps k) =
    (k ≡ number) × (alternative_count s.ranked ≤ ALTERNATIVES) × PassesSteps net (plan_for net s c) NODES room
IsCause net number room s c (SourceWithoutPath k r) =
    (k ≡ number) × ((built : PlainGraph) × IsBuiltWithin net room s c built) × IsLeast (IsWithoutPath net s c) r
IsCause net number room s c (MixedSource k r with without) =
    (k ≡ number) × HavePaths net s c × ((built made : PlainGraph) × IsMade net room s c built made × ShowsMixed net s c made r with without)
IsCause net number room s c (NoEvidence k g r) = ⊥
IsCause net number room s c NoMemory = Unit {0}
