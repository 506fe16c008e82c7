-- The places at which automata are kept.
use Rattle.std.proofs.Common.{◌≡◌, ℕ, List, length, set, replicate, Option, Some, None, inl, inr, ap, sym, subst, ◌∙◌}
use Rattle.std.specs.Prelude.{IfSome, slice_get}
use Rattle.std.proofs.lemmas.List.{length-replicate, length-set}
use Rattle.list_law.proofs.Items.{set_item, none_there}
use Rattle.net_base.specs.Network.{PlainNet}
use Rattle.policy_base.specs.Policies.{PlainPolicy}
use Rattle.case_core.specs.declared.automata.StatementAutomata.{StatementAutomata}
use Rattle.case_core.specs.declared.kept.KeptAutomata.{KeptAutomata}
use Rattle.case_core.specs.Automata.{AllFit, FitsNumber}

module _ (net : PlainNet) (policy : PlainPolicy) where
  -- at first there are none
  pub none_fit : (kept : KeptAutomata) (n : ℕ) → n ≡ length policy.statements → kept.of.items ≡ replicate n None → AllFit net policy kept
  none_fit kept n size is = record {
    size = ap length is ∙ length-replicate n None ∙ size;
    fits = λ k a at. absurd (none_there n k a (ap (λ (xs : List (Option StatementAutomata)). slice_get xs k) (sym is) ∙ at));
  }

  -- what stands at a place fits
  pub taken_fits : (kept : KeptAutomata) (k : ℕ) (own : Option StatementAutomata) → AllFit net policy kept → slice_get kept.of.items k ≡ Some own → IfSome own (FitsNumber net policy)
  taken_fits kept k (Some a) are at = are.fits k a at
  taken_fits kept k None are at = tt

  -- and so do all where one that fits comes to a place, or none
  pub set_fits : (old new : KeptAutomata) (k : ℕ) (own : Option StatementAutomata) → AllFit net policy old → new.of.items ≡ set old.of.items k own
      → IfSome own (FitsNumber net policy) → AllFit net policy new
  set_fits old new k own are is fits = record {
    size = ap length is ∙ length-set old.of.items k own ∙ are.size;
    fits = λ i a at. elim (set_item old.of.items k own i (Some a) (ap (λ (xs : List (Option StatementAutomata)). slice_get xs i) (sym is) ∙ at)) [
      | inl same ↦ subst (λ (other : Option StatementAutomata). IfSome other (FitsNumber net policy)) (sym same) fits
      | inr there ↦ are.fits i a there
    ];
  }
