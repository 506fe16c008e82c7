-- A router takes from a peer what permitted walks end with: an import line for a peer is a step from the start at the peer.
use Rattle.std.proofs.Common.{◌≡◌, ℕ, suc, true, [], ◌∷◌, ◌++◌, List, Some, None, refl, sym, ap, ◌∙◌, inl, inr, subst}
use Rattle.std.specs.Prelude.{◌||◌, ◌==◌, is_some, option_and_then}
use Rattle.std.specs.List.{find}
use Rattle.std.proofs.lemmas.Bool.{and_parts, eqb-true, or_cases, true≢false}
use Rattle.std.proofs.lemmas.Option.{same_Some}
use Rattle.list_law.specs.Members.{IsIn}
use Rattle.list_law.proofs.Options.{cases_Option, none_or_some, option_and_then_parts, when_parts}
use Rattle.list_law.proofs.Tests.{find_parts}
use Rattle.net_base.specs.declared.numbers.Tag.{Tag}
use Rattle.net_base.specs.Network.{PlainNet, IsNet, is_peer, is_router}
use Rattle.net_base.specs.Prefixes.{PlainPrefix, IsPrefix}
use Rattle.net_base.specs.Sets.{holds}
use Rattle.net_base.proofs.RoutersAndPeers.{peer_no_router}
use Rattle.policy_base.specs.Policies.{PlainPolicy, PlainStatement, IsPolicyOf}
use Rattle.policy_base.specs.Governing.{statement_of}
use Rattle.graph_base.specs.Runs.{place_of, has_step, is_start, run, step_at}
use Rattle.graph_base.proofs.WellFormed.{start_at-of, step_at-of}
use Rattle.config_base.specs.declared.config.Import.{Import}
use Rattle.config_base.specs.declared.config.Session.{Session}
use Rattle.config_base.specs.Configs.{PlainConfig}
use Rattle.config_base.specs.Lines.{class_of, block_at, line_by, same_tag}
use Rattle.evidence_base.specs.Made.{PlainCaseEvidence, case_at}
use Rattle.evidence_law.specs.Passes.{IsCaseGraph, IsMadeOf}
use Rattle.evidence_law.proofs.Blocks.{block_only}
use Rattle.evidence_law.proofs.CaseOrigins.{prefix_permits}
use Rattle.evidence_law.proofs.MadeCases.{HasCase, case_or_bare}
use Rattle.evidence_law.proofs.RunWalks.{runs_are_walks}
use Rattle.evidence_law.proofs.Spelled.{imports_tag}
use Rattle.outcome_base.specs.Outcomes.{Failures, is_live}
use Rattle.outcome_base.specs.Announcements.{Announcements, FullOutcome, FullRoute, Sent, given_under, sent_under, taken_under}
use Rattle.outcome_law.proofs.Inside.{taken-none}
use Rattle.claim_law.specs.Laws.{MadeConfigurationsTakePermitted}
use Rattle.claim_law.specs.Walked.{SomeWalkEnds}

-- ---- what is taken, a line takes

-- the block of the peer has an import line of the class
record HasLine (net : PlainNet) (config : PlainConfig) (class peer r : ℕ) : Type 0 where
  block : Session
  rule : Import
  at : block_at net config r peer ≡ Some block
  item : IsIn block.imports rule
  same : rule.class ≡ class

module _ (net : PlainNet) (config : PlainConfig) (class peer r : ℕ) where
  line_found : (tag : Tag) (b : Session) (q : Tag × ℕ) → line_by net class peer tag b ≡ Some q → (rule : Import) × (find (imports_tag net peer class tag) b.imports ≡ Some rule)
  line_found tag b q h = elim (cases_Option (find (imports_tag net peer class tag) b.imports)) [
    | inl none ↦ (let no : line_by net class peer tag b ≡ None = rw none refl in absurd (none_or_some (line_by net class peer tag b) q no h))
    | inr some ↦ some
  ]

  line_of : (tag : Tag) (q : Tag × ℕ) → option_and_then (line_by net class peer tag) (block_at net config r peer) ≡ Some q → HasLine net config class peer r
  line_of tag q h =
      let b = option_and_then_parts (line_by net class peer tag) (block_at net config r peer) q h in
      let rule = line_found tag b.0 q b.2 in
      let back = find_parts (imports_tag net peer class tag) b.0.imports rule.0 rule.1 in
      let parts = and_parts (rule.0.class == class) (is_peer net peer || same_tag rule.0.tag tag) back.2 in
      record { block = b.0; rule = rule.0; at = b.1; item = (back.0, back.1); same = eqb-true rule.0.class class parts.0 }

  line_taken : (m : Sent) (t : FullRoute) → taken_under net config class r peer m ≡ Some t → HasLine net config class peer r
  line_taken m t h = elim (cases_Option (option_and_then (line_by net class peer m.tag) (block_at net config r peer))) [
    | inl none ↦ absurd (none_or_some (taken_under net config class r peer m) t (taken-none net config class r peer m none) h)
    | inr q ↦ line_of m.tag q.0 q.1
  ]

line_given : (net : PlainNet) (config : PlainConfig) (f : Failures) (says : Announcements) (p : PlainPrefix) (full : FullOutcome) (peer r : ℕ) (t : FullRoute)
    → given_under net config f says p full peer r ≡ Some t → (class : ℕ) × (class_of config p ≡ Some class) × HasLine net config class peer r
line_given net config f says p full peer r t h =
    let live = when_parts (is_live net f peer r) _ t h in
    let class = option_and_then_parts (λ class. option_and_then (taken_under net config class r peer) (sent_under net config f says p full peer r)) (class_of config p) t live.1 in
    let m = option_and_then_parts (taken_under net config class.0 r peer) (sent_under net config f says p full peer r) t class.2 in
    (class.0, class.1, line_taken net config class.0 peer r m.0 t m.2)

-- ---- a line is a step, and a step ends a permitted walk

module _ (net : PlainNet) (policy : PlainPolicy) (config : PlainConfig) (cs : List PlainCaseEvidence) (rules : IsNet net) (kept : IsPolicyOf net policy) (made : IsMadeOf net policy config cs)
    (p : PlainPrefix) (prefix : IsPrefix p) (peer r : ℕ) (at_peer : is_peer net peer ≡ true) (router : is_router net r ≡ true) where
  module _ (s : PlainStatement) (c : HasCase net policy config cs p s) where
    graph : IsCaseGraph net s c.d
    graph = made.graphs c.k c.d s c.at c.is.number

    -- the start at the peer steps to the router
    run_of : (n m : ℕ) → has_step c.d.graph n m ≡ true → place_of c.d.graph n ≡ peer → place_of c.d.graph m ≡ r → run c.d.graph (r ∷ peer ∷ []) ≡ Some m
    run_of n m step from to =
        let formed = graph.faithful.formed in
        let start : is_start c.d.graph n ≡ true = elim (or_cases (is_start c.d.graph n) (is_router net (place_of c.d.graph n)) (formed.from n m step)) [
          | inl t ↦ t
          | inr t ↦ absurd (true≢false (sym t ∙ ap (is_router net) from ∙ peer_no_router net peer at_peer))
        ] in
        let first : run c.d.graph (peer ∷ []) ≡ Some n = ap (λ l. run c.d.graph (l ∷ [])) (sym from) ∙ start_at-of net (holds c.d.case.origins) c.d.case.external c.d.graph formed n start in
        let next : step_at c.d.graph n r ≡ Some m = ap (step_at c.d.graph n) (sym to) ∙ step_at-of net (holds c.d.case.origins) c.d.case.external c.d.graph formed n m step in
        ap (option_and_then (λ k. step_at c.d.graph k r)) first ∙ next

    walk_of : (m : ℕ) → run c.d.graph (r ∷ peer ∷ []) ≡ Some m → statement_of policy p ≡ Some s → SomeWalkEnds net policy p (r ∷ peer ∷ [])
    walk_of m runs governs =
        let path = runs_are_walks net (holds c.d.case.origins) c.d.case.external c.d.graph graph.graph graph.faithful.formed (r ∷ peer ∷ []) m runs in
        let above = graph.faithful.has_no_other (r ∷ peer ∷ []) path (ap is_some runs) in
        (s, above.0, governs, prefix_permits net policy p s c.is.same (above.0 ++ r ∷ peer ∷ []) above.1)

    by_line : statement_of policy p ≡ Some s → (class : ℕ) → class_of config p ≡ Some class → HasLine net config class peer r → SomeWalkEnds net policy p (r ∷ peer ∷ [])
    by_line governs class of_class has =
        let block = (block_only net policy cs config rules made.lines r peer has.block router has.at).1 in
        let line = (block.imports has.rule).0 has.item in
        let number : has.rule.class ≡ suc c.k = has.same ∙ same_Some class (suc c.k) (sym of_class ∙ c.of_class) in
        let one : line.case ≡ c.d = same_Some line.case c.d (sym line.step.at_class ∙ ap (case_at cs) number ∙ c.at) in
        let step = subst (λ (d : PlainCaseEvidence). has_step d.graph line.node line.next ≡ true) one line.step.step in
        let from = subst (λ (d : PlainCaseEvidence). place_of d.graph line.node ≡ peer) one line.step.from in
        let to = subst (λ (d : PlainCaseEvidence). place_of d.graph line.next ≡ r) one line.step.to in
        walk_of line.next (run_of line.node line.next step from to) governs

  takes : (class : ℕ) → class_of config p ≡ Some class → HasLine net config class peer r → SomeWalkEnds net policy p (r ∷ peer ∷ [])
  takes class of_class has = elim (case_or_bare net policy config cs rules kept made p prefix) [
    | inr none ↦ absurd (none_or_some (class_of config p) class none of_class)
    | inl found ↦ by_line found.0 found.2 found.1 class of_class has
  ]

pub made_configurations_take_permitted : MadeConfigurationsTakePermitted
made_configurations_take_permitted net policy config cs rules kept made p f says full prefix peer r at_peer router t h =
    let line = line_given net config f says p full peer r t h in
    takes net policy config cs rules kept made p prefix peer r at_peer router line.0 line.1 line.2
