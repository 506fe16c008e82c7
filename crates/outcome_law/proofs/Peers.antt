-- In the block of a peer there is no import line for the class of a prefix of which the peer is no origin.
use Rattle.std.proofs.Common.{◌≡◌, ℕ, suc, Bool, true, false, List, Option, Some, None, refl, sym, ap, ◌∙◌, inl, inr, subst}
use Rattle.std.specs.Prelude.{◌||◌, ◌==◌, is_some, not}
use Rattle.std.specs.List.{find}
use Rattle.std.specs.Option.{option_and_then}
use Rattle.std.proofs.lemmas.Bool.{and_parts, eqb-true, false_from_ne_true, not-true, or_cases, true≢false}
use Rattle.std.proofs.lemmas.Option.{same_Some}
use Rattle.list_law.specs.Members.{IsIn}
use Rattle.list_law.proofs.Options.{cases_Option, none_from, none_or_some, option_and_then_parts}
use Rattle.list_law.proofs.Tests.{find_parts, list_any_parts}
use Rattle.net_base.specs.declared.loc.LocSet.{LocSet}
use Rattle.net_base.specs.declared.numbers.Tag.{Tag}
use Rattle.net_base.specs.Network.{PlainNet, IsNet, is_peer, is_router, linked}
use Rattle.net_base.specs.Sets.{holds}
use Rattle.net_base.specs.Prefixes.{PlainPrefix, IsPrefix}
use Rattle.net_base.proofs.RoutersAndPeers.{peer_no_router}
use Rattle.policy_base.specs.Policies.{PlainPolicy, PlainStatement, IsPolicyOf}
use Rattle.policy_base.specs.Governing.{is_origin, is_origin_by, originated_at}
use Rattle.graph_base.specs.Runs.{place_of, is_start}
use Rattle.graph_base.proofs.StartsAndSteps.{step_nodes}
use Rattle.config_base.specs.declared.config.Session.{Session}
use Rattle.config_base.specs.declared.config.Import.{Import}
use Rattle.config_base.specs.declared.config.Export.{Export}
use Rattle.config_base.specs.Configs.{PlainConfig}
use Rattle.config_base.specs.Lines.{class_of, block_at, export_of, line_by, same_tag}
use Rattle.evidence_base.specs.Made.{PlainCaseEvidence, case_at}
use Rattle.evidence_law.specs.Passes.{IsMadeOf, IsCaseGraph}
use Rattle.evidence_law.proofs.Blocks.{block_only}
use Rattle.evidence_law.proofs.MadeCases.{case_or_bare}
use Rattle.evidence_law.proofs.ClassFound.{originated_by}
use Rattle.evidence_law.proofs.Spelled.{exports_tag, imports_tag, was_exported}
use Rattle.outcome_law.specs.Laws.{OriginsAloneAreTaken, OriginsAreToldNothing}

-- where no item originates the prefix its origins are the peers
pub peers_are_origins : (net : PlainNet) (policy : PlainPolicy) (p : PlainPrefix) (l : ℕ) → originated_at policy.origins p ≡ None → is_origin net policy p l ≡ is_peer net l
peers_are_origins net policy p l none = ap (λ (o : Option LocSet). is_origin_by net o l) none

-- the origins of an originated prefix are routers
pub no_peer_originates : (net : PlainNet) (policy : PlainPolicy) (p : PlainPrefix) (at : LocSet) (peer : ℕ) → IsPolicyOf net policy
    → originated_at policy.origins p ≡ Some at → is_peer net peer ≡ true → is_origin net policy p peer ≡ false
no_peer_originates net policy p at peer kept is at_peer = false_from_ne_true (is_origin net policy p peer) (λ h.
    let item = originated_by policy.origins p at is in
    let holds_it : holds item.0.at peer ≡ true = ap (λ (x : LocSet). holds x peer) item.3 ∙ sym (ap (λ (o : Option LocSet). is_origin_by net o peer) is) ∙ h in
    true≢false (sym (kept.routers item.0 peer item.1 holds_it) ∙ peer_no_router net peer at_peer))

-- a line that applies stands in the block
line_rule : (net : PlainNet) (class from : ℕ) (tag : Tag) (b : Session) (q : Tag × ℕ) → line_by net class from tag b ≡ Some q
    → (rule : Import) × (find (imports_tag net from class tag) b.imports ≡ Some rule)
line_rule net class from tag b q h = elim (cases_Option (find (imports_tag net from class tag) b.imports)) [
  | inl e ↦ let clash : None ≡ Some q = sym (rw e refl) ∙ h in absurd (cc)
  | inr e ↦ e
]

module _ (net : PlainNet) (policy : PlainPolicy) (config : PlainConfig) (cs : List PlainCaseEvidence) (rules : IsNet net) (kept : IsPolicyOf net policy) (made : IsMadeOf net policy config cs)
    (p : PlainPrefix) (prefix : IsPrefix p) (class : ℕ) (of_class : class_of config p ≡ Some class) where
  -- the case of a prefix's class has the origins of the prefix
  case_origins : (d : PlainCaseEvidence) → case_at cs class ≡ Some d → (holds d.case.origins ≡ is_origin net policy p) × (s : PlainStatement) × IsCaseGraph net s d
  case_origins d at = elim (case_or_bare net policy config cs rules kept made p prefix) [
    | inr free ↦ absurd (none_or_some (class_of config p) class free of_class)
    | inl found ↦
        let s = found.0 in
        let c = found.2 in
        let number : class ≡ suc c.k = same_Some class (suc c.k) (sym of_class ∙ c.of_class) in
        let same : Some d ≡ Some c.d = sym at ∙ ap (case_at cs) number ∙ c.at in
        let one : d ≡ c.d = cc in
        (ap (λ (x : PlainCaseEvidence). holds x.case.origins) one ∙ c.is.same, s, subst (IsCaseGraph net s) (sym one) (made.graphs c.k c.d s c.at c.is.number))
  ]

  module _ (peer r : ℕ) (at_peer : is_peer net peer ≡ true) (router : is_router net r ≡ true) (other : is_origin net policy p peer ≡ false) where
    pub no_rule : (b : Session) (rule : Import) → block_at net config r peer ≡ Some b → IsIn b.imports rule → rule.class ≡ class → ⊥
    no_rule b rule at item same =
        let block = (block_only net policy cs config rules made.lines r peer b router at).1 in
        let line = (block.imports rule).0 item in
        let case = case_origins line.case (sym (ap (case_at cs) same) ∙ line.step.at_class) in
        let formed = case.2.faithful.formed in
        elim (or_cases (is_start line.case.graph line.node) (is_router net (place_of line.case.graph line.node)) (formed.from line.node line.next line.step.step)) [
          | inl start ↦
              let origin : holds line.case.case.origins peer ≡ true = ap (holds line.case.case.origins) (sym line.step.from) ∙ formed.starts line.node start in
              true≢false (sym origin ∙ ap (λ (o : ℕ → Bool). o peer) case.0 ∙ other)
          | inr t ↦ true≢false (sym t ∙ ap (is_router net) line.step.from ∙ peer_no_router net peer at_peer)
        ]

    -- so none applies
    pub no_line : (tag : Tag) → option_and_then (line_by net class peer tag) (block_at net config r peer) ≡ None
    no_line tag = none_from (option_and_then (line_by net class peer tag) (block_at net config r peer)) (λ q h.
        let b = option_and_then_parts (line_by net class peer tag) (block_at net config r peer) q h in
        let rule = line_rule net class peer tag b.0 q b.2 in
        let back = find_parts (imports_tag net peer class tag) b.0.imports rule.0 rule.1 in
        let parts = and_parts (rule.0.class == class) (is_peer net peer || same_tag rule.0.tag tag) back.2 in
        no_rule b.0 rule.0 b.1 (back.0, back.1) (eqb-true rule.0.class class parts.0))

  -- and in the block of a peer that is an origin there is no export line for it
  pub no_export_line : (peer r : ℕ) → is_router net r ≡ true → is_origin net policy p peer ≡ true → (b : Session) (e : Export)
      → block_at net config r peer ≡ Some b → IsIn b.exports e → e.class ≡ class → ⊥
  no_export_line peer r router origin b e at item same =
      let block = (block_only net policy cs config rules made.lines r peer b router at).1 in
      let line = (block.exports e).0 item in
      let case = case_origins line.case (sym (ap (case_at cs) same) ∙ line.step.at_class) in
      let formed = case.2.faithful.formed in
      let within = (step_nodes line.case.graph line.node line.next case.2.graph line.step.step).1 in
      let there : holds line.case.case.origins (place_of line.case.graph line.next) ≡ true = ap (holds line.case.case.origins) line.step.to ∙ ap (λ (o : ℕ → Bool). o peer) case.0 ∙ origin in
      let start = formed.alone line.next within there in
      let none =
      not-true _ (and_parts (linked net (place_of line.case.graph line.node) (place_of line.case.graph line.next))
      (not (is_start line.case.graph line.next)) (formed.links line.node line.next line.step.step)).1
      in
      true≢false (sym start ∙ none)

  pub nothing_exported : (peer r : ℕ) (tag : Tag) → is_router net r ≡ true → is_origin net policy p peer ≡ true → export_of net config class r peer tag ≡ None
  nothing_exported peer r tag router origin = none_from (export_of net config class r peer tag) (λ y h.
      let b = option_and_then_parts _ (block_at net config r peer) y h in
      let e = list_any_parts (exports_tag class tag) b.0.exports (was_exported net config class r peer b.0 b.1 tag (ap is_some h)) in
      let parts = and_parts (e.1.class == class) (same_tag e.1.tag tag) e.3 in
      no_export_line peer r router origin b.0 e.1 b.1 (e.0, e.2) (eqb-true e.1.class class parts.0))

pub origins_alone_are_taken : OriginsAloneAreTaken
origins_alone_are_taken net policy config cs rules kept made p class prefix of_class peer r at_peer router other b rule at item same =
    no_rule net policy config cs rules kept made p prefix class of_class peer r at_peer router (not-true _ other) b rule at item same

pub origins_are_told_nothing : OriginsAreToldNothing
origins_are_told_nothing net policy config cs rules kept made p class prefix of_class peer r router origin b e at item same =
    no_export_line net policy config cs rules kept made p prefix class of_class peer r router origin b e at item same
