-- The parts of the evidence.
use Rattle.std.proofs.Common.{◌≡◌, ℕ, zero, suc, ◌+◌, ◌-◌, List, [], ◌∷◌, ◌++◌, length, map, Some, refl, sym, ap, subst, ◌∙◌, arith}
use Rattle.std.specs.Prelude.{slice_get}
use Rattle.net_base.specs.declared.numbers.Tag.{Tag}
use Rattle.net_base.specs.Network.{PlainNet}
use Rattle.policy_base.specs.declared.case.Case.{Case}
use Rattle.policy_base.specs.Policies.{PlainPolicy}
use Rattle.graph_base.specs.declared.graph.Node.{Node}
use Rattle.graph_base.specs.declared.graph.Prefs.{Prefs}
use Rattle.graph_base.specs.Graphs.{PlainGraph}
use Rattle.evidence_base.specs.Made.{PlainCaseEvidence}
use Rattle.tag_assign.specs.Tagging.{graph_tags_after, tags_after, tags_of}
use Rattle.case_evidence.specs.declared.accepted.AcceptedCase.{AcceptedCase}
use Rattle.compile_core.specs.Compiling.{evidence_of, AreAcceptedFrom}
use Rattle.compile_core.proofs.OneByOne.{IsAcceptedAt}

-- the parts of the evidence of a case
pub record HasParts (cs : List Case) (gs : List PlainGraph) (ps : List Prefs) (ts : List (List Tag)) (k : ℕ) (e : PlainCaseEvidence) : Type 0 where
  pub case : slice_get cs k ≡ Some e.case
  pub graph : slice_get gs k ≡ Some e.graph
  pub prefs : Prefs
  pub prefs_at : slice_get ps k ≡ Some prefs
  pub numbers : prefs.of ≡ e.numbers
  pub tags : slice_get ts k ≡ Some e.tags

pub parts : (cs : List Case) (gs : List PlainGraph) (ps : List Prefs) (ts : List (List Tag)) (k : ℕ) (e : PlainCaseEvidence) → slice_get (evidence_of cs gs ps ts) k ≡ Some e → HasParts cs gs ps ts k e
parts [] gs ps ts k e at = absurd cc
parts (c ∷ cs) [] ps ts k e at = absurd cc
parts (c ∷ cs) (g ∷ gs) [] ts k e at = absurd cc
parts (c ∷ cs) (g ∷ gs) (p ∷ ps) [] k e at = absurd cc
parts (c ∷ cs) (g ∷ gs) (p ∷ ps) (t ∷ ts) zero e at =
    let here : PlainCaseEvidence = record { case = c; graph = g; numbers = p.of; tags = t } in
    let same : here ≡ e = cc in
    record {
      case = ap (λ (d : PlainCaseEvidence). Some d.case) same;
      graph = ap (λ (d : PlainCaseEvidence). Some d.graph) same;
      prefs = p;
      prefs_at = refl;
      numbers = ap (λ (d : PlainCaseEvidence). d.numbers) same;
      tags = ap (λ (d : PlainCaseEvidence). Some d.tags) same;
    }
parts (c ∷ cs) (g ∷ gs) (p ∷ ps) (t ∷ ts) (suc k) e at =
    let later = parts cs gs ps ts k e at in
    record { case = later.case; graph = later.graph; prefs = later.prefs; prefs_at = later.prefs_at; numbers = later.numbers; tags = later.tags }

-- and those of all of it
pub record AreParts (cs : List Case) (gs : List PlainGraph) (ts : List (List Tag)) (es : List PlainCaseEvidence) : Type 0 where
  pub cases : map (λ (e : PlainCaseEvidence). e.case) es ≡ cs
  pub graphs : map (λ (e : PlainCaseEvidence). e.graph) es ≡ gs
  pub tags : map (λ (e : PlainCaseEvidence). e.tags) es ≡ ts

pub all_parts : (cs : List Case) (gs : List PlainGraph) (ps : List Prefs) (ts : List (List Tag)) → length gs ≡ length cs → length ps ≡ length cs
    → length ts ≡ length cs → AreParts cs gs ts (evidence_of cs gs ps ts)
all_parts [] [] ps [] a b d = record { cases = refl; graphs = refl; tags = refl }
all_parts [] (g ∷ gs) ps ts a b d = absurd (omega (arith, a))
all_parts [] [] ps (t ∷ ts) a b d = absurd (omega (arith, d))
all_parts (c ∷ cs) [] ps ts a b d = absurd (omega (arith, a))
all_parts (c ∷ cs) (g ∷ gs) [] ts a b d = absurd (omega (arith, b))
all_parts (c ∷ cs) (g ∷ gs) (p ∷ ps) [] a b d = absurd (omega (arith, d))
all_parts (c ∷ cs) (g ∷ gs) (p ∷ ps) (t ∷ ts) a b d =
    let later = all_parts cs gs ps ts (omega (arith, a)) (omega (arith, b)) (omega (arith, d)) in
    record { cases = ap (λ xs. c ∷ xs) later.cases; graphs = ap (λ xs. g ∷ xs) later.graphs; tags = ap (λ xs. t ∷ xs) later.tags }

-- ---- tags

tags_long : (net : PlainNet) (before nodes : List Node) → length (tags_after net before nodes) ≡ length nodes
tags_long net before [] = refl
tags_long net before (node ∷ nodes) = ap suc (tags_long net (before ++ node ∷ []) nodes)

graph_tags_long : (net : PlainNet) (before : List Node) (gs : List PlainGraph) → length (graph_tags_after net before gs) ≡ length gs
graph_tags_long net before [] = refl
graph_tags_long net before (g ∷ gs) = ap suc (graph_tags_long net (before ++ g.nodes) gs)

pub as_many_tags : (net : PlainNet) (gs : List PlainGraph) → length (tags_of net gs) ≡ length gs
as_many_tags net gs = graph_tags_long net [] gs

pub tag_each : (net : PlainNet) (before : List Node) (gs : List PlainGraph) (k : ℕ) (g : PlainGraph) (t : List Tag) → slice_get gs k ≡ Some g → slice_get (graph_tags_after net before gs) k ≡ Some t
    → length t ≡ length g.nodes
tag_each net before [] k g t at_g at_t = absurd cc
tag_each net before (h ∷ gs) zero g t at_g at_t =
    let same_g : h ≡ g = cc in
    let same_t : tags_after net before h.nodes ≡ t = cc in
    ap length (sym same_t) ∙ tags_long net before h.nodes ∙ ap (λ (x : PlainGraph). length x.nodes) same_g
tag_each net before (h ∷ gs) (suc k) g t at_g at_t = tag_each net (before ++ h.nodes) gs k g t at_g at_t

-- ---- accepted cases

-- each of them is accepted with some room
pub accepted_at : (net : PlainNet) (policy : PlainPolicy) (j room : ℕ) (accepted : List AcceptedCase) (k number : ℕ) (a : AcceptedCase) → AreAcceptedFrom net policy j room accepted
    → slice_get accepted k ≡ Some a → number ≡ j + k → (left : ℕ) × IsAcceptedAt net policy number left a
accepted_at net policy j room [] k number a each at is = absurd cc
accepted_at net policy j room (b ∷ later) zero number a each at is =
    let same : b ≡ a = cc in
    let first : j ≡ number = omega (arith, is) in
    (room, subst (λ (x : AcceptedCase). IsAcceptedAt net policy number room x) same (subst (λ n. IsAcceptedAt net policy n room b) first each.0))
accepted_at net policy j room (b ∷ later) (suc k) number a each at is = accepted_at net policy (j + 1) (room - b.used) later k number a each.1 at (omega (arith, is))
