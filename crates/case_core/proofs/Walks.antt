-- Walks of a faithful graph without a rank, by the nodes in which their runs end.
use Rattle.std.proofs.Common.{◌≡◌, ℕ, ◌<◌, Bool, true, List, ◌∷◌, length, Some, None, refl, sym, ap, subst, ◌∙◌, inl, inr}
use Rattle.std.specs.Prelude.{is_some}
use Rattle.std.proofs.lemmas.Bool.{or_left, true≢false}
use Rattle.net_base.specs.Network.{PlainNet}
use Rattle.net_base.specs.Sets.{holds}
use Rattle.policy_base.specs.declared.case.Case.{Case}
use Rattle.policy_base.specs.declared.policy.FromSet.{FromSet}
use Rattle.policy_base.specs.declared.policy.FromSet.TheVariants.{Any, Named}
use Rattle.policy_base.specs.Policies.{PlainStatement}
use Rattle.policy_base.specs.Permitted.{from_holds}
use Rattle.graph_base.specs.Graphs.{PlainGraph, IsGraph}
use Rattle.graph_base.specs.Ranked.{IsUnrankedAt}
use Rattle.graph_base.specs.Runs.{place_of, rank_at, run}
use Rattle.evidence_law.specs.Faithful.{IsFaithful, is_walk_to, may_start}
use Rattle.evidence_law.specs.Passes.{IsClaimed}
use Rattle.list_law.proofs.Options.{cases_Option, is_some_parts}
use Rattle.graph_law.proofs.Claimed.{run_from}
use Rattle.case_core.specs.Sources.{IsMixed, IsUnranked, names}
use Rattle.graph_base.proofs.RunSteps.{run_begins, run_inside}
use Rattle.evidence_law.proofs.RunWalks.{runs_are_walks}

pub named_from : (from : FromSet) (r : ℕ) → names from r ≡ true → from_holds from r ≡ true
named_from Any r h = absurd (true≢false (sym h))
named_from (Named set) r h = h

module _ (net : PlainNet) (s : PlainStatement) (c : Case) (g : PlainGraph) (graph_rules : IsGraph g) (faithful : IsFaithful net s (holds c.origins) c.external g) where
  abbrev Origin : ℕ → Bool
  Origin = holds c.origins

  -- a walk to a node without a rank, where a walk may start, has none, but a permitted walk ends with it
  pub unranked_walk : (r n : ℕ) (path : List ℕ) → place_of g n ≡ r → may_start Origin s r ≡ true → run g path ≡ Some n → rank_at g n ≡ None → IsUnranked net s c path
  unranked_walk r n path at may h none =
      let is = run_from net s c g graph_rules faithful r n path at may h in
      record {
        walk = is.2;
        rank = is.3 ∙ none;
        suffix = faithful.has_no_other path (runs_are_walks net Origin c.external g graph_rules faithful.formed path n h) (ap is_some h);
      }

  -- where a walk without a rank starts with which a permitted one ends, one without a rank
  pub unranked_node : (r : ℕ) (rest : List ℕ) → may_start Origin s r ≡ true → IsUnranked net s c (r ∷ rest) → (n : ℕ) × IsUnrankedAt g r n
  unranked_node r rest may is =
      let found = is_some_parts (run g (r ∷ rest)) (faithful.has_run is.suffix.0 (r ∷ rest) (or_left (is_walk_to net Origin (r ∷ rest)) _ is.walk) is.suffix.1) in
      let at = run_begins g r found.0 rest found.1 in
      let same = run_from net s c g graph_rules faithful r found.0 (r ∷ rest) at may found.1 in
      (found.0, (run_inside g graph_rules (r ∷ rest) found.0 found.1, at, sym same.3 ∙ is.rank))

  -- where no claimed router is mixed, each node at one has a rank
  pub claimed_ranked : ((r : ℕ) → IsMixed net s c r → ⊥) → (n : ℕ) → n < length g.nodes → IsClaimed net s c (place_of g n) → is_some (rank_at g n) ≡ true
  claimed_ranked unmixed n node claimed = elim (cases_Option (rank_at g n)) [
    | inr i ↦ ap is_some i.1
    | inl none ↦
        let ended = faithful.is_ended n node in
        let starts = run_from net s c g graph_rules faithful (place_of g n) n ended.0 refl claimed.may ended.2 in
        let suffix = unranked_walk (place_of g n) n ended.0 refl claimed.may ended.2 none in
        absurd (unmixed (place_of g n) (claimed, (starts.0, subst (IsUnranked net s c) starts.1 suffix)))
  ]
