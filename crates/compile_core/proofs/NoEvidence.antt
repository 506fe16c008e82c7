-- Where no numbers meet the rules for a case, no evidence passes.
use Rattle.std.proofs.Common.{◌≡◌, ℕ, suc, ◌+◌, List, length, Some, arith, sym, ap, subst, ◌∙◌}
use Rattle.std.specs.Prelude.{slice_get}
use Rattle.std.proofs.lemmas.Option.{slice_get-map}
use Rattle.list_law.proofs.Options.{option_map_parts}
use Rattle.net_base.specs.Network.{PlainNet}
use Rattle.policy_base.specs.declared.case.Case.{Case}
use Rattle.policy_base.specs.Policies.{PlainPolicy, PlainStatement, statement_at}
use Rattle.graph_base.specs.declared.refutation.Refutation.{Refutation}
use Rattle.graph_base.specs.Graphs.{PlainGraph}
use Rattle.config_base.specs.Configs.{PlainConfig}
use Rattle.evidence_base.specs.Made.{PlainCaseEvidence, number_at}
use Rattle.evidence_law.specs.Passes.{Passes}
use Rattle.policy_base.specs.CaseNumbers.{IsCase}
use Rattle.case_core.specs.declared.refusal.CompileRefusal.TheVariants.{NoEvidence}
use Rattle.case_evidence.specs.Accepted.{HasNoNumbers}
use Rattle.compile_core.specs.Compiling.{IsRefusal}
use Rattle.compile_core.proofs.OneByOne.{there}

module _ (net : PlainNet) (policy : PlainPolicy) (config : PlainConfig) (cs : List PlainCaseEvidence) (passes : Passes net policy config cs) where
  -- evidence that passes has numbers that meet the rules for each case
  has_numbers : (k : ℕ) (s : PlainStatement) (c : Case) → IsCase net policy (suc k) s c → HasNoNumbers net s c → ⊥
  has_numbers k s c is none =
      let there = slice_get-map (λ (e : PlainCaseEvidence). e.case) cs k in
      let found = option_map_parts (λ (e : PlainCaseEvidence). e.case) (slice_get cs k) c (sym there ∙ ap (λ (xs : List Case). slice_get xs k) passes.made.cases ∙ is.case) in
      let e = found.0 in
      let of : statement_at policy e.case.statement ≡ Some s = ap (λ (x : Case). statement_at policy x.statement) found.2 ∙ is.statement in
      let graph = passes.made.graphs k e s found.1 of in
      subst (HasNoNumbers net s) (sym found.2) none e.graph (number_at e) graph.graph graph.faithful (passes.rules k e s found.1 of)

  pub no_evidence : (number : ℕ) (g : PlainGraph) (r : Refutation) → IsRefusal net policy (NoEvidence number g r) → ⊥
  no_evidence number g r refused =
      let k = length refused.0 in
      let after : k + 1 ≡ suc k = omega arith in
      let case = there net policy k (suc k) refused.2.0 (sym after) in
      let cause = refused.2.1 case.0 case.1 (subst (λ n. IsCase net policy n case.0 case.1) (sym after) case.2) in
      has_numbers k case.0 case.1 case.2 cause.3
