-- When a case is accepted, with which numbers, and why it is refused.
use Rattle.std.specs.Prelude.{◌≡◌, ◌↔◌, ℕ, ◌<◌, Bool, IsTrue, List, length}
use Rattle.net_base.specs.declared.loc.LocSet.{LocSet}
use Rattle.net_base.specs.Network.{PlainNet}
use Rattle.net_base.specs.Sets.{holds}
use Rattle.policy_base.specs.declared.case.Case.{Case}
use Rattle.policy_base.specs.Policies.{PlainStatement}
use Rattle.graph_base.specs.declared.refutation.Refutation.{Refutation}
use Rattle.graph_base.specs.Graphs.{IsGraph, PlainGraph}
use Rattle.graph_base.specs.Refuting.{Refutes}
use Rattle.graph_base.specs.Rules.{MeetsRules}
use Rattle.graph_base.specs.Preferences.{number_in}
use Rattle.relation_law.specs.Evidence.{at_routers}
use Rattle.relation_law.specs.Numbers.{number_of}
use Rattle.relation_law.specs.Relations.{IsGreatest, IsTotal}
use Rattle.relation_law.specs.Views.{view_of}
use Rattle.relation_law.specs.Choosing.{IsRefutationOf}
use Rattle.node_quotient.specs.Quotient.{IsQuotient}
use Rattle.evidence_law.specs.Faithful.{IsFaithful}
use Rattle.evidence_law.specs.Passes.{IsClaimed}
use Rattle.case_core.specs.declared.refusal.CompileRefusal.{CompileRefusal}
use Rattle.case_core.specs.declared.refusal.CompileRefusal.TheVariants.{NoEvidence}
use Rattle.case_core.specs.Refusals.{FitsCase, IsCause, IsGraphOf}
use Rattle.case_core.specs.Sources.{HavePaths, NoneMixed}
use Rattle.case_evidence.specs.declared.accepted.AcceptedCase.{AcceptedCase}

-- The numbers of a graph for the claimed routers of its case: the greatest relation is total, and a node at a router has
-- 100 and one for each class of equal nodes that stands strictly lower.
pub record IsNumbered (net : PlainNet) (s : PlainStatement) (c : Case) (g : PlainGraph) (numbers : List ℕ) : Type 0 where
  pub claimed : LocSet
  pub claims : (l : ℕ) → IsTrue (holds claimed l) ↔ IsClaimed net s c l
  pub relation : ℕ → ℕ → Bool
  pub greatest : IsGreatest (view_of g claimed) relation
  pub total : IsTotal (view_of g claimed) relation
  pub size : length numbers ≡ length g.nodes
  pub counts : (n : ℕ) → n < length g.nodes → number_in numbers n ≡ at_routers net g (number_of (length g.nodes) relation) n

-- no numbers meet the rules of evidence on a graph that says of walks what the statement says of them, whichever it is
abbrev pub HasNoNumbers : PlainNet → PlainStatement → Case → Type 0
HasNoNumbers net s c = (g : PlainGraph) (number : ℕ → ℕ) → IsGraph g → IsFaithful net s (holds c.origins) c.external g → ¬ MeetsRules net (IsClaimed net s c) c.external g number

-- The lines show of the first two nodes at one location of which neither may stand as high as the other, for the routers
-- that the statement claims, that this is so.
pub record IsRefuted (net : PlainNet) (s : PlainStatement) (c : Case) (g : PlainGraph) (r : Refutation) : Type 0 where
  pub claimed : LocSet
  pub claims : (l : ℕ) → IsTrue (holds claimed l) ↔ IsClaimed net s c l
  pub chosen : IsRefutationOf g claimed r
  pub refutes : Refutes g (holds claimed) r.first r.second r.lines

-- The graph that is given for a case of which nothing is to be refused: the quotient of what is left of the one that is built,
-- which has so many steps.
pub record IsGivenGraph (net : PlainNet) (room : ℕ) (s : PlainStatement) (c : Case) (g : PlainGraph) (used : ℕ) : Type 0 where
  pub trimmed : PlainGraph
  pub graph : IsGraphOf net room s c (record { graph = trimmed; used = used })
  pub fits : FitsCase net s c trimmed
  pub quotient : IsQuotient trimmed g
  pub paths : HavePaths net s c
  pub unmixed : NoneMixed net s c

-- The case is accepted, with room for so many steps: the graph is given, and the numbers meet the rules of evidence.
pub record IsAccepted (net : PlainNet) (room : ℕ) (s : PlainStatement) (c : Case) (given : AcceptedCase) : Type 0 where
  pub graph : IsGivenGraph net room s c given.graph given.used
  pub numbers : IsNumbered net s c given.graph given.prefs.of
  pub rules : MeetsRules net (IsClaimed net s c) c.external given.graph (number_in given.prefs.of)

-- What a refusal says of the case with this number: what refuses its graph; or that no numbers meet the rules, which the
-- lines show on the graph that is given for it.
abbrev pub IsCaseCause : PlainNet → ℕ → ℕ → PlainStatement → Case → CompileRefusal → Type 0
IsCaseCause net number room s c (NoEvidence k g r) = (k ≡ number) × ((used : ℕ) × IsGivenGraph net room s c g used) × IsRefuted net s c g r × HasNoNumbers net s c
IsCaseCause net number room s c e = IsCause net number room s c e
