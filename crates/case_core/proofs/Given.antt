-- What is made of a case is faithful to it.
use Rattle.std.proofs.Common.{ℕ, refl}
use Rattle.net_base.specs.Network.{PlainNet, IsNet}
use Rattle.net_base.specs.Sets.{holds}
use Rattle.policy_base.specs.declared.case.Case.{Case}
use Rattle.policy_base.specs.Policies.{PlainStatement}
use Rattle.graph_base.specs.Graphs.{PlainGraph, IsGraph}
use Rattle.graph_base.specs.Walks.{IsEnteredFromBefore}
use Rattle.evidence_law.specs.Faithful.{IsFaithful}
use Rattle.graph_law.proofs.Faith.{built_is_faithful, trimmed_is_entered}
use Rattle.policy_base.specs.CaseNumbers.{FitsOrigins}
use Rattle.case_core.specs.Refusals.{FitsCase, IsMade}
use Rattle.path_exprs.specs.Standings.{plan_for}
use Rattle.case_core.specs.Sources.{IsMixed}
use Rattle.case_core.proofs.Walks.{claimed_ranked}

pub made_is_faithful : (net : PlainNet) (room : ℕ) (s : PlainStatement) (c : Case) (built made : PlainGraph) → IsNet net → FitsOrigins net c
    → IsMade net room s c built made → IsFaithful net s (holds c.origins) c.external made
made_is_faithful net room s c built made rules origins is =
    built_is_faithful net s (plan_for net s c) built made (record { rules = rules; origins = origins rules; expressions = refl; from = refl }) is.within.built is.trimmed

pub made_is_entered : (net : PlainNet) (room : ℕ) (s : PlainStatement) (c : Case) (built made : PlainGraph) → IsMade net room s c built made → IsEnteredFromBefore made
made_is_entered net room s c built made is = trimmed_is_entered net (plan_for net s c) built made is.within.built is.trimmed

pub fits : (net : PlainNet) (s : PlainStatement) (c : Case) (g : PlainGraph) → IsGraph g → IsFaithful net s (holds c.origins) c.external g → ((r : ℕ) → IsMixed net s c r → ⊥) → FitsCase net s c g
fits net s c g rules faithful unmixed numbers tags = record {
  graph = rules;
  faithful = faithful;
  ranked = claimed_ranked net s c g rules faithful unmixed;
}
