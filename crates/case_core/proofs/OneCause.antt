-- A case is given a graph or refused, and it is refused for one cause.
use Rattle.std.proofs.Common.{◌≡◌, ℕ, ◌<◌, ◌≤◌, List, length, refl, arith, sym, ap, ap₂, subst, ◌∙◌, inl, inr}
use Rattle.std.specs.Prelude.{◌⊎◌}
use Rattle.net_base.specs.Network.{PlainNet}
use Rattle.policy_base.specs.declared.case.Case.{Case}
use Rattle.policy_base.specs.Meaning.{alternative_count}
use Rattle.policy_base.specs.Policies.{PlainStatement}
use Rattle.graph_base.specs.Graphs.{PlainGraph}
use Rattle.graph_base.specs.Walks.{IsShownWalk}
use Rattle.graph_base.proofs.ShownWalks.{shown_walk_same}
use Rattle.case_core.specs.BuildOutcomes.{PassesSteps}
use Rattle.path_exprs.specs.Standings.{PassesStates, plan_for}
use Rattle.walk_states.proofs.OneGraph.{no_more_states, one-graph}
use Rattle.reach_prune.specs.Trimmed.{IsTrimmed}
use Rattle.graph_law.proofs.OneTrimmed.{same_trimmed_graphs}
use Rattle.case_core.specs.declared.cases.CaseGraph.{CaseGraph}
use Rattle.case_core.specs.declared.refusal.CompileRefusal.{CompileRefusal}
use Rattle.case_core.specs.declared.refusal.CompileRefusal.TheVariants.{TooManyRanks, TooManyStates, TooManySteps, SourceWithoutPath, MixedSource, NoEvidence, NoMemory}
use Rattle.graph_base.specs.Ranked.{IsRankedAt, IsUnrankedAt}
use Rattle.graph_law.specs.Limits.{IsBuiltWithin}
use Rattle.case_core.specs.Refusals.{IsCause, IsGraphOf, IsMade, IsWalkOfLeast, ShowsMixed}
use Rattle.case_core.specs.Sources.{HavePaths, IsLeast, IsMixed, IsWithoutPath, NoneMixed}

-- there is one least number
one_least : (Holds : ℕ → Type 0) (m n : ℕ) → IsLeast Holds m → IsLeast Holds n → m ≡ n
one_least Holds m n a b = omega (arith, a.1 n b.0, b.1 m a.0)

-- and one walk that shows it
one_walk : (g : PlainGraph) (Of : ℕ → Type 0) (walk other : List ℕ) → IsWalkOfLeast g Of walk → IsWalkOfLeast g Of other → walk ≡ other
one_walk g Of walk other a b =
    let same = one_least Of a.0 b.0 a.1 b.1 in
    shown_walk_same g b.0 walk other (subst (λ n. IsShownWalk g n walk) same a.2) b.2

module _ (net : PlainNet) (room : ℕ) (s : PlainStatement) (c : Case) where
  -- one graph is made of a case
  pub same_made : (one other made also : PlainGraph) → IsMade net room s c one made → IsMade net room s c other also → made ≡ also
  same_made one other made also a b =
      let same = one-graph net (plan_for net s c) other one b.within.built a.within.built in
      same_trimmed_graphs net (plan_for net s c) one made also a.within.built a.trimmed (subst (λ (g : PlainGraph). IsTrimmed g also) same b.trimmed)

  -- so a case is given one graph
  pub one_given : (given other : CaseGraph) → IsGraphOf net room s c given → IsGraphOf net room s c other → (given.graph ≡ other.graph) × (given.used ≡ other.used)
  one_given given other a b =
      let same = one-graph net (plan_for net s c) b.0 a.0 b.1.within.built a.1.within.built in (
        same_made a.0 b.0 given.graph other.graph a.1 b.1,
        a.2 ∙ sym (ap (λ (g : PlainGraph). length g.steps) same) ∙ sym b.2,
      )

module _ (net : PlainNet) (number room : ℕ) (s : PlainStatement) (c : Case) where
  -- a graph that is built within the limits passes none of them
  pub few_states : (g : PlainGraph) → IsBuiltWithin net room s c g → PassesStates net (plan_for net s c) 4096 → ⊥
  few_states g is many = no_more_states net (plan_for net s c) g 4096 is.built is.states many

  pub few_steps : (g : PlainGraph) → IsBuiltWithin net room s c g → PassesSteps net (plan_for net s c) 4096 room → ⊥
  few_steps g is many =
      let same = one-graph net (plan_for net s c) g many.0 is.built many.1 in
      absurd (omega (arith, is.steps, many.3, ap (λ (h : PlainGraph). length h.steps) same))

  pub not_refused : (given : CaseGraph) (e : CompileRefusal) → IsGraphOf net room s c given → HavePaths net s c → NoneMixed net s c → IsCause net number room s c e → e ≡ NoMemory
  not_refused given (TooManyRanks k count) is paths unmixed h = absurd (omega (arith, is.1.within.ranks, h.1))
  not_refused given (TooManyStates k) is paths unmixed h = absurd (few_states is.0 is.1.within h.2)
  not_refused given (TooManySteps k) is paths unmixed h = absurd (few_steps is.0 is.1.within h.2)
  not_refused given (SourceWithoutPath k r) is paths unmixed h = absurd (h.2.0.1 (paths r h.2.0.0))
  not_refused given (MixedSource k r with without) is paths unmixed h = absurd (unmixed r h.2.3.first.0)
  not_refused given (NoEvidence k g r) is paths unmixed h = absurd h
  not_refused given NoMemory is paths unmixed h = refl

  -- ---- refusals of different kinds

  few_ranks : 64 < alternative_count s.ranked → alternative_count s.ranked ≤ 64 → ⊥
  few_ranks many few = absurd (omega (arith, many, few))

  states_or_steps : PassesStates net (plan_for net s c) 4096 → PassesSteps net (plan_for net s c) 4096 room → ⊥
  states_or_steps states steps = no_more_states net (plan_for net s c) steps.0 4096 steps.1 steps.2 states

  -- ---- and of the same kind

  same_mixed : (g h : PlainGraph) (r q : ℕ) (with without more less : List ℕ) → g ≡ h → ShowsMixed net s c g r with without
      → ShowsMixed net s c h q more less → (r ≡ q) × (with ≡ more) × (without ≡ less)
  same_mixed g h r q with without more less same a b =
      let router : r ≡ q = one_least (IsMixed net s c) r q a.first b.first in
      let first : IsWalkOfLeast h (IsRankedAt h q) with = subst (λ (x : PlainGraph). IsWalkOfLeast x (IsRankedAt x q) with) same
      (subst (λ n. IsWalkOfLeast g (IsRankedAt g n) with) router a.with_least) in
      let second : IsWalkOfLeast h (IsUnrankedAt h q) without = subst (λ (x : PlainGraph). IsWalkOfLeast x (IsUnrankedAt x q) without) same
      (subst (λ n. IsWalkOfLeast g (IsUnrankedAt g n) without) router a.without_least) in
      (router, one_walk h (IsRankedAt h q) with more first b.with_least, one_walk h (IsUnrankedAt h q) without less second b.without_least)

  pub one_cause : (e f : CompileRefusal) → IsCause net number room s c e → IsCause net number room s c f → (e ≡ NoMemory) ⊎ (f ≡ NoMemory) ⊎ (e ≡ f)
  one_cause NoMemory f a b = inl refl
  one_cause (NoEvidence k g r) f a b = absurd a
  one_cause (TooManyRanks k n) NoMemory a b = inr (inl refl)
  one_cause (TooManyRanks k n) (NoEvidence j g lines) a b = absurd b
  one_cause (TooManyStates k) NoMemory a b = inr (inl refl)
  one_cause (TooManyStates k) (NoEvidence j g lines) a b = absurd b
  one_cause (TooManySteps k) NoMemory a b = inr (inl refl)
  one_cause (TooManySteps k) (NoEvidence j g lines) a b = absurd b
  one_cause (SourceWithoutPath k r) NoMemory a b = inr (inl refl)
  one_cause (SourceWithoutPath k r) (NoEvidence j g lines) a b = absurd b
  one_cause (MixedSource k r v w) NoMemory a b = inr (inl refl)
  one_cause (MixedSource k r v w) (NoEvidence j g lines) a b = absurd b
  one_cause (TooManyRanks k n) (TooManyRanks j m) a b = inr (inr (ap₂ TooManyRanks (a.0 ∙ sym b.0) (a.2 ∙ sym b.2)))
  one_cause (TooManyRanks k n) (TooManyStates j) a b = absurd (few_ranks a.1 b.1)
  one_cause (TooManyRanks k n) (TooManySteps j) a b = absurd (few_ranks a.1 b.1)
  one_cause (TooManyRanks k n) (SourceWithoutPath j q) a b = absurd (few_ranks a.1 b.1.1.ranks)
  one_cause (TooManyRanks k n) (MixedSource j q x y) a b = absurd (few_ranks a.1 b.2.2.within.ranks)
  one_cause (TooManyStates k) (TooManyRanks j m) a b = absurd (few_ranks b.1 a.1)
  one_cause (TooManyStates k) (TooManyStates j) a b = inr (inr (ap TooManyStates (a.0 ∙ sym b.0)))
  one_cause (TooManyStates k) (TooManySteps j) a b = absurd (states_or_steps a.2 b.2)
  one_cause (TooManyStates k) (SourceWithoutPath j q) a b = absurd (few_states b.1.0 b.1.1 a.2)
  one_cause (TooManyStates k) (MixedSource j q x y) a b = absurd (few_states b.2.0 b.2.2.within a.2)
  one_cause (TooManySteps k) (TooManyRanks j m) a b = absurd (few_ranks b.1 a.1)
  one_cause (TooManySteps k) (TooManyStates j) a b = absurd (states_or_steps b.2 a.2)
  one_cause (TooManySteps k) (TooManySteps j) a b = inr (inr (ap TooManySteps (a.0 ∙ sym b.0)))
  one_cause (TooManySteps k) (SourceWithoutPath j q) a b = absurd (few_steps b.1.0 b.1.1 a.2)
  one_cause (TooManySteps k) (MixedSource j q x y) a b = absurd (few_steps b.2.0 b.2.2.within a.2)
  one_cause (SourceWithoutPath k r) (TooManyRanks j m) a b = absurd (few_ranks b.1 a.1.1.ranks)
  one_cause (SourceWithoutPath k r) (TooManyStates j) a b = absurd (few_states a.1.0 a.1.1 b.2)
  one_cause (SourceWithoutPath k r) (TooManySteps j) a b = absurd (few_steps a.1.0 a.1.1 b.2)
  one_cause (SourceWithoutPath k r) (SourceWithoutPath j q) a b = inr (inr (ap₂ SourceWithoutPath (a.0 ∙ sym b.0) (one_least (IsWithoutPath net s c) r q a.2 b.2)))
  one_cause (SourceWithoutPath k r) (MixedSource j q x y) a b = absurd (a.2.0.1 (b.1 r a.2.0.0))
  one_cause (MixedSource k r v w) (TooManyRanks j m) a b = absurd (few_ranks b.1 a.2.2.within.ranks)
  one_cause (MixedSource k r v w) (TooManyStates j) a b = absurd (few_states a.2.0 a.2.2.within b.2)
  one_cause (MixedSource k r v w) (TooManySteps j) a b = absurd (few_steps a.2.0 a.2.2.within b.2)
  one_cause (MixedSource k r v w) (SourceWithoutPath j q) a b = absurd (b.2.0.1 (a.1 q b.2.0.0))
  one_cause (MixedSource k r v w) (MixedSource j q x y) a b =
      let same = same_mixed a.2.1 b.2.1 r q v w x y (same_made net room s c a.2.0 b.2.0 a.2.1 b.2.1 a.2.2 b.2.2) a.2.3 b.2.3 in
      inr (inr (λ i. MixedSource ((a.0 ∙ sym b.0) i) (same.0 i) (same.1 i) (same.2 i)))
