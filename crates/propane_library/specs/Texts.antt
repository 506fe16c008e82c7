-- Two texts, of a topology and of a policy, and what may be said of them.
use Rattle.std.specs.Prelude.{◌≡◌, ◌⊎◌, ℕ, ◌<◌, ◌≤◌, List, [], ◌∷◌, length, Ok, Err, codes}
use Rattle.net_base.specs.Network.{PlainNet}
use Rattle.policy_base.specs.Policies.{PlainPolicy}
use Rattle.config_text.specs.Spelled.{Spells}
use Rattle.topology.specs.declared.fault.TopoFault.{TopoFault}
use Rattle.topology.specs.Topology.{spelled}
use Rattle.policy_tokens.specs.declared.fault.PolicyFault.{PolicyFault}
use Rattle.policy_parser.specs.Spelled.{spelled as policy_spelled}
use Rattle.case_core.specs.declared.refusal.CompileRefusal.{CompileRefusal}
use Rattle.compile_jobs.specs.Compiled.{IsRefusedFor}
use Rattle.input_texts.specs.FaultLines.{topology_line, policy_line}
use Rattle.propane_run.specs.Compilation.{Compilation}
use Rattle.run_base.specs.Reading.{most, too_long}
use Rattle.refusal_lines.specs.RefusalLines.{refusal_line}

-- the names under which the texts are held, and the words that compile them
abbrev pub topology_name : List ℕ
topology_name = codes "topology"

abbrev pub policy_name : List ℕ
policy_name = codes "policy"

abbrev pub compile_words : List (List ℕ)
compile_words = codes "compile" ∷ topology_name ∷ policy_name ∷ []

-- The two texts spell this network and this policy for it, and neither is too long.
pub record Spell (topology policy_text : List ℕ) (net : PlainNet) (policy : PlainPolicy) : Type 0 where
  pub topology_within : length topology ≤ most
  pub policy_within : length policy_text ≤ most
  pub net_spelled : spelled topology ≡ Ok net
  pub policy_spelled : policy_spelled net policy_text ≡ Ok policy

-- The text spells a configuration that is compiled from the network and the policy which the two texts spell, with evidence that
-- passes. It keeps the policy in the network.
pub record IsRightText (topology policy_text text : List ℕ) : Type 0 where
  pub net : PlainNet
  pub policy : PlainPolicy
  pub spell : Spell topology policy_text net policy
  pub made : Compilation net policy
  pub spelled : Spells text made.config

-- The line tells a refusal that applies to the network and the policy which the two texts spell.
pub record IsRefusalLine (topology policy_text line : List ℕ) : Type 0 where
  pub net : PlainNet
  pub policy : PlainPolicy
  pub spell : Spell topology policy_text net policy
  pub refusal : CompileRefusal
  pub applies : IsRefusedFor net policy refusal
  pub told : line ≡ refusal_line net refusal

-- The line tells that a text is too long, or the first rule that a text breaks.
abbrev pub IsFaultLine : List ℕ → List ℕ → List ℕ → Type 0
IsFaultLine topology policy_text line =
    (most < length topology) × (line ≡ (too_long topology_name).to_err)
    ⊎ (most < length policy_text) × (line ≡ (too_long policy_name).to_err)
    ⊎ ((fault : TopoFault) × (spelled topology ≡ Err fault) × (line ≡ topology_line fault))
    ⊎ ((net : PlainNet) × (fault : PolicyFault) × (spelled topology ≡ Ok net) × (policy_spelled net policy_text ≡ Err fault) × (line ≡ policy_line fault))
