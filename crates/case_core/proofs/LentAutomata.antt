-- What stays of the automaton of a statement that was lent.
use Rattle.std.proofs.Common.{◌≡◌, ℕ, Option, Some, None, ap, sym, subst, ◌∙◌}
use Rattle.std.specs.Prelude.{IfSome, slice_get}
use Rattle.std.proofs.lemmas.Option.{same_Some}
use Rattle.list_law.proofs.Items.{slice_get_in_front}
use Rattle.net_base.specs.Network.{PlainNet}
use Rattle.net_base.specs.NetSets.{locations}
use Rattle.policy_base.specs.Policies.{PlainPolicy, PlainStatement, statement_at}
use Rattle.path_exprs.specs.Forward.{expressions}
use Rattle.path_exprs.specs.Runs.{start_of}
use Rattle.path_automata.specs.declared.states.Automata.{Automata}
use Rattle.path_automata.specs.States.{Extends, states_of}
use Rattle.case_core.specs.declared.automata.StatementAutomata.{StatementAutomata}
use Rattle.case_core.specs.Automata.{FitsNumber, FitsStatement, IsAutomatonOf}

-- it is still that of the statement, where states followed
pub automaton_extends : (net : PlainNet) (s : PlainStatement) (old new : Automata) → IsAutomatonOf net s old → Extends (states_of old) (states_of new) → IsAutomatonOf net s new
automaton_extends net s old new is more = record {
  few = is.few;
  begins = ap (λ ss. slice_get ss 0) more.1 ∙ slice_get_in_front (states_of old) more.0 0 (start_of (locations net) (expressions net s.ranked)) is.begins;
}

-- what is kept is that of the statement with its number
pub kept_fits : (net : PlainNet) (policy : PlainPolicy) (s : PlainStatement) (number : ℕ) (kept : Option StatementAutomata) → statement_at policy number ≡ Some s
    → IfSome kept (FitsNumber net policy) → IfSome kept (FitsStatement net number s)
kept_fits net policy s number (Some kept) at fits = λ same. fits s (ap (statement_at policy) same ∙ at)
kept_fits net policy s number None at fits = tt

-- and of no other statement with this number
pub number_fits : (net : PlainNet) (policy : PlainPolicy) (s : PlainStatement) (number : ℕ) (kept : StatementAutomata) → statement_at policy number ≡ Some s
    → IsAutomatonOf net s kept.automata → kept.statement ≡ number → FitsNumber net policy kept
number_fits net policy s number kept at is same = λ t there.
    subst (λ u. IsAutomatonOf net u kept.automata) (same_Some s t (sym at ∙ ap (statement_at policy) (sym same) ∙ there)) is
