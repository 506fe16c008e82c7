-- Classes that are none, parts of cases, and why none may take over.
use Rattle.std.proofs.Common.{◌≡◌, ◌≢◌, ℕ, ◌<◌, ◌+◌, true, List, length, Some, None, sym, ap, ◌∙◌, subst, arith}
use Rattle.std.specs.List.{list_any}
use Rattle.std.proofs.lemmas.Bool.{true≢false}
use Rattle.std.proofs.lemmas.Option.{same_Some}
use Rattle.std.specs.List.{AllByRecursion}
use Rattle.net_base.specs.declared.limits.TheConstants.{LOCATIONS}
use Rattle.net_base.specs.declared.numbers.Tag.{Tag}
use Rattle.net_base.specs.Network.{PlainNet}
use Rattle.policy_base.specs.declared.case.Case.{Case}
use Rattle.policy_base.specs.Policies.{PlainPolicy}
use Rattle.graph_base.specs.declared.graph.Node.{Node}
use Rattle.graph_base.specs.Graphs.{PlainGraph}
use Rattle.config_base.specs.Configs.{PlainConfig}
use Rattle.config_maker.proofs.OneConfiguration.{one_configuration}
use Rattle.evidence_base.specs.Evidence.{IsCaseEvidence}
use Rattle.evidence_base.specs.Made.{PlainCaseEvidence, IsConfigOf}
use Rattle.stage_check.specs.Verdicts.{verdict}
use Rattle.stage_classes.specs.declared.cell.Cell.{Cell}
use Rattle.evidence_reuse.specs.Reused.{LetsTakeOver, MayNot, with_marks}
use Rattle.evidence_reuse.specs.Staying.{IsOldClass, is_other, partner}

-- ---- no old class

module _ (between : List Cell) (olds : List PlainCaseEvidence) (place : ℕ) where
  pub no_partner : partner olds between (place + 1) ≡ None → (was : ℕ) → IsOldClass between olds place was → ⊥
  no_partner none was is = let clash : None ≡ Some was = sym none ∙ is.shares in cc

  pub not_alone : (m : ℕ) → partner olds between (place + 1) ≡ Some m → list_any (is_other olds (place + 1) m) between ≡ true → (was : ℕ) → IsOldClass between olds place was → ⊥
  not_alone m at some was is =
      true≢false (sym some ∙ ap (λ w. list_any (is_other olds (place + 1) w) between) (same_Some m was (sym at ∙ is.shares)) ∙ is.alone)

-- ---- a case with the numbers and tags of another one

module _ (c x : PlainCaseEvidence) (case : Case) (graph : PlainGraph) (numbers : List ℕ) (tags : List Tag)
    (same_case : case ≡ c.case) (same_graph : graph ≡ x.graph) (same_numbers : numbers ≡ x.numbers) (same_tags : tags ≡ x.tags) where
  pub marked_kept : IsCaseEvidence c → IsCaseEvidence x → IsCaseEvidence (record { case = case; graph = graph; numbers = numbers; tags = tags })
  marked_kept kept also =
      let nodes = ap (λ (g : PlainGraph). g.nodes) same_graph in
      record {
        sized = ap length same_numbers ∙ also.sized ∙ ap length (sym nodes);
        tagged = ap length same_tags ∙ also.tagged ∙ ap length (sym nodes);
        stated = omega (arith, kept.stated, ap (λ (y : Case). y.statement) same_case);
        places = subst (AllByRecursion (λ (n : Node). n.loc < LOCATIONS)) (sym nodes) also.places;
        ranks = subst (AllByRecursion (λ (n : Node). n.rank ≢ Some 0)) (sym nodes) also.ranks;
      }

  pub marked_is : x.graph ≡ c.graph → record { case = case; graph = graph; numbers = numbers; tags = tags } ≡ with_marks c x
  marked_is alike =
      let A : Case → PlainCaseEvidence = λ y. record { case = y; graph = graph; numbers = numbers; tags = tags } in
      let B : PlainGraph → PlainCaseEvidence = λ y. record { case = c.case; graph = y; numbers = numbers; tags = tags } in
      let C : List ℕ → PlainCaseEvidence = λ y. record { case = c.case; graph = c.graph; numbers = y; tags = tags } in
      let D : List Tag → PlainCaseEvidence = λ y. record { case = c.case; graph = c.graph; numbers = x.numbers; tags = y } in
      ap A same_case ∙ ap B (same_graph ∙ alike) ∙ ap C same_numbers ∙ ap D same_tags

-- ---- where something is in the way

pub may_not : (net : PlainNet) (policy : PlainPolicy) (old config : PlainConfig) (ds : List PlainCaseEvidence) → IsConfigOf net policy ds config
    → (LetsTakeOver (verdict old config) → ⊥) → MayNot net policy old ds
may_not net policy old config ds lines way other may =
    way (subst (λ (x : PlainConfig). LetsTakeOver (verdict old x)) (one_configuration net policy ds other config may.lines lines) may.free)
