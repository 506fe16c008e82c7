-- Faithful graphs, and no graph where nothing is permitted, show what a policy says of walks.
use Rattle.std.proofs.Common.{◌≡◌, ℕ, Bool, true, arith, List, ◌++◌, sym, ap, ◌∙◌, Option, Some, None}
use Rattle.std.specs.Prelude.{is_some, if◌then◌else◌}
use Rattle.list_law.proofs.Options.{is_some_from}
use Rattle.net_base.specs.Network.{PlainNet}
use Rattle.net_base.specs.Prefixes.{PlainPrefix}
use Rattle.net_base.specs.Sets.{holds}
use Rattle.policy_base.specs.declared.case.Case.{Case}
use Rattle.policy_base.specs.Governing.{is_origin, statement_of}
use Rattle.policy_base.specs.Meaning.{rank_of}
use Rattle.policy_base.specs.Policies.{PlainPolicy, PlainStatement}
use Rattle.graph_base.specs.Graphs.{IsGraph, PlainGraph}
use Rattle.graph_base.specs.Runs.{run}
use Rattle.evidence_law.specs.Faithful.{IsFaithful, permits}
use Rattle.evidence_law.proofs.PermittedWalks.{permits_parts}
use Rattle.compare_base.specs.Ranks.{rank_by, rank_for}
use Rattle.pair_rows.specs.Rows.{no_graph}
use Rattle.pair_rows.proofs.CaseRanks.{shows_nothing, shows_ranks}
use Rattle.pair_changes.specs.Shown.{ShowsWalks}

module _ (net : PlainNet) (policy : PlainPolicy) (p : PlainPrefix) (s : PlainStatement) (c : Case) (g : PlainGraph) (rules : IsGraph g)
    (faithful : IsFaithful net s (holds c.origins) c.external g) (governs : statement_of policy p ≡ Some s) (origins : (l : ℕ) → holds c.origins l ≡ is_origin net policy p l) where
  same : holds c.origins ≡ is_origin net policy p
  same = λ i l. origins l i

  rank_is : (path : List ℕ) → permits net (holds c.origins) s path ≡ true → rank_for net policy p path ≡ rank_of net s.ranked path
  rank_is path is =
      ap (λ (o : Option PlainStatement). rank_by net policy p o path) governs
      ∙ ap (λ (origin : ℕ → Bool). if permits net origin s path then rank_of net s.ranked path else None) (sym same)
      ∙ ap (λ (b : Bool). if b then rank_of net s.ranked path else None) is

  -- a permitted walk has a rank
  ranked : (path : List ℕ) → permits net (holds c.origins) s path ≡ true → is_some (rank_for net policy p path) ≡ true
  ranked path is = ap is_some (rank_is path is) ∙ has_rank path is
    where
      has_rank : (path : List ℕ) → permits net (holds c.origins) s path ≡ true → is_some (rank_of net s.ranked path) ≡ true
      has_rank path is = (permits_parts net (holds c.origins) s path is).3

  pub shows_walks : ShowsWalks net policy p g
  shows_walks = record {
    ranks = shows_ranks net policy p s c g rules faithful governs origins;
    needed = λ n within.
        let end = faithful.is_ended n within in
        let above = faithful.has_no_other end.0 end.1 (is_some_from (run g end.0) n end.2) in
        (above.0, end.0, end.2, ranked (above.0 ++ end.0) above.1);
  }

pub shows_no_walks : (net : PlainNet) (policy : PlainPolicy) (p : PlainPrefix) → ((path : List ℕ) → rank_for net policy p path ≡ None) → ShowsWalks net policy p no_graph
shows_no_walks net policy p none = record { ranks = shows_nothing net policy p none; needed = λ n within. absurd (omega (arith, within)) }
