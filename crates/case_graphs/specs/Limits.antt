-- When the cases of a policy are within the limits, and why they are not.
use Rattle.std.specs.Prelude.{◌≡◌, ℕ, ◌+◌, ◌-◌, ◌<◌, List, [], ◌∷◌, length, sum_by}
use Rattle.net_base.specs.Network.{PlainNet}
use Rattle.policy_base.specs.Cases.{case_list}
use Rattle.policy_base.specs.Policies.{PlainPolicy}
use Rattle.graph_base.specs.Graphs.{PlainGraph}
use Rattle.graph_law.specs.Limits.{IsBuiltWithin}
use Rattle.evidence_law.specs.Passes.{all_steps}
use Rattle.policy_base.specs.CaseNumbers.{OfCase}
use Rattle.case_core.specs.declared.refusal.CompileRefusal.{CompileRefusal}
use Rattle.case_core.specs.declared.refusal.CompileRefusal.TheVariants as compile
use Rattle.case_core.specs.Refusals.{IsCause}
use Rattle.case_graphs.specs.declared.refusal.LimitRefusal.{LimitRefusal}
use Rattle.case_graphs.specs.declared.refusal.LimitRefusal.TheVariants.{TooManyRanks, TooManyStates, TooManySteps, NoMemory}

-- the refusal as one of the compiler
abbrev pub compile_refusal : LimitRefusal → CompileRefusal
compile_refusal (TooManyRanks k count) = compile.TooManyRanks k count
compile_refusal (TooManyStates k) = compile.TooManyStates k
compile_refusal (TooManySteps k) = compile.TooManySteps k
compile_refusal NoMemory = compile.NoMemory

-- the cases from the one numbered k on are within the limits one after the other, with room for so many steps and with these graphs
-- before they are trimmed
abbrev pub AreWithinFrom : PlainNet → PlainPolicy → ℕ → ℕ → List PlainGraph → Type 0
AreWithinFrom net policy k room [] = Unit {0}
AreWithinFrom net policy k room (g ∷ later) = OfCase net policy k (λ s c. IsBuiltWithin net room s c g) × AreWithinFrom net policy (k + 1) (room - length g.steps) later

-- the first cases of the policy are
abbrev pub AreWithin : PlainNet → PlainPolicy → List PlainGraph → Type 0
AreWithin net policy graphs = AreWithinFrom net policy 1 all_steps graphs

-- how many steps are left after these cases
abbrev pub steps_left : List PlainGraph → ℕ
steps_left graphs = all_steps - sum_by (λ (g : PlainGraph). length g.steps) graphs

-- all cases of the policy are within the limits
abbrev pub AreAllWithin : PlainNet → PlainPolicy → Type 0
AreAllWithin net policy = (graphs : List PlainGraph) × AreWithin net policy graphs × (length graphs ≡ length (case_list net policy))

-- The cases before are within the limits, and the next one isn't: the compiler would refuse it for this, with the room that they
-- leave. Whether the sources of earlier cases have paths, or numbers, isn't asked. Want of memory says nothing.
abbrev pub IsRefused : PlainNet → PlainPolicy → LimitRefusal → Type 0
IsRefused net policy NoMemory = Unit {0}
IsRefused net policy e =
    (graphs : List PlainGraph) × AreWithin net policy graphs × (length graphs < length (case_list net policy))
    × OfCase net policy (length graphs + 1) (λ s c. IsCause net (length graphs + 1) (steps_left graphs) s c (compile_refusal e))
