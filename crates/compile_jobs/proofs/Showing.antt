-- What a refusal that applies names can be shown: it is in the graph of the refusal.
use Rattle.std.proofs.Common.{ℕ, ◌+◌, ◌<◌, Bool, List, length, refl, subst}
use Rattle.net_base.specs.Network.{PlainNet}
use Rattle.net_base.specs.Sets.{holds}
use Rattle.policy_base.specs.declared.case.Case.{Case}
use Rattle.policy_base.specs.Policies.{PlainPolicy, PlainStatement}
use Rattle.graph_base.specs.declared.refutation.Refutation.{Refutation}
use Rattle.graph_base.specs.declared.refutation.Removed.{Removed}
use Rattle.graph_base.specs.declared.refutation.Why.{Why}
use Rattle.graph_base.specs.declared.refutation.Why.TheVariants.{RankWorse, NoStep, StepWorse, LoopWorse, ListenerWorse}
use Rattle.graph_base.specs.Graphs.{PlainGraph}
use Rattle.graph_base.specs.Refuting.{Refutes, Says}
use Rattle.graph_base.specs.Walks.{IsEnteredFromBefore}
use Rattle.case_core.specs.declared.refusal.CompileRefusal.{CompileRefusal}
use Rattle.case_core.specs.declared.refusal.CompileRefusal.TheVariants.{TooManyRanks, TooManyStates, TooManySteps, SourceWithoutPath, MixedSource, NoEvidence, NoMemory}
use Rattle.case_evidence.specs.Accepted.{IsCaseCause}
use Rattle.case_evidence.proofs.Joined.{given_entered}
use Rattle.compile_core.specs.Compiling.{IsRefusal, room_after}
use Rattle.compile_core.proofs.OneByOne.{there}
use Rattle.refusal_lines.specs.RefusalLines.{ReasonIsOn, ShowsRefutation, IsShowable}

reason_is_on : (g : PlainGraph) (claimed : ℕ → Bool) (lines : List Removed) (round m n : ℕ) (why : Why) → Says g claimed lines round m n why → ReasonIsOn g why
reason_is_on g claimed lines round m n RankWorse says = tt
reason_is_on g claimed lines round m n (NoStep z) says = tt
reason_is_on g claimed lines round m n (StepWorse z) says = tt
reason_is_on g claimed lines round m n (LoopWorse z k) says = says.2
reason_is_on g claimed lines round m n (ListenerWorse p) says = tt

-- all that lines name which refute is in the graph
shows : (g : PlainGraph) (claimed : ℕ → Bool) (r : Refutation) → IsEnteredFromBefore g → Refutes g claimed r.first r.second r.lines → ShowsRefutation g r
shows g claimed r entered refutes =
    let one = refutes.each refutes.one.0 refutes.one.1 in
    let Inside : ℕ → Type 0 = λ n. n < length g.nodes in
    record {
      entered = entered;
      first = subst Inside refutes.one.2 one.better;
      second = subst Inside refutes.one.3 one.worse;
      lines = λ l is.
          let j = refutes.each l is in
          record { better = j.better; worse = j.worse; reason = reason_is_on g claimed r.lines l.round l.better l.worse l.why j.reason };
    }

shows_cause : (net : PlainNet) (number room : ℕ) (s : PlainStatement) (c : Case) (k : ℕ) (g : PlainGraph) (r : Refutation)
    → IsCaseCause net number room s c (NoEvidence k g r) → ShowsRefutation g r
shows_cause net number room s c k g r cause =
    shows g (holds cause.2.claimed) r (given_entered net room s c g cause.1.0 cause.1.1) cause.2.refutes

pub refusals_are_showable : (net : PlainNet) (policy : PlainPolicy) (e : CompileRefusal) → IsRefusal net policy e → IsShowable e
refusals_are_showable net policy (TooManyRanks k count) is = tt
refusals_are_showable net policy (TooManyStates k) is = tt
refusals_are_showable net policy (TooManySteps k) is = tt
refusals_are_showable net policy (SourceWithoutPath k r) is = tt
refusals_are_showable net policy (MixedSource k r with without) is = tt
refusals_are_showable net policy (NoEvidence number g r) is =
    let k = length is.0 in
    let case = there net policy k (k + 1) is.2.0 refl in
    shows_cause net (k + 1) (room_after is.0) case.0 case.1 number g r (is.2.1 case.0 case.1 case.2)
refusals_are_showable net policy NoMemory is = tt
