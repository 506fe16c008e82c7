use Rattle.std.proofs.Common.{◌≡◌, ◌∙◌, Bool, Ok, Err, Result, map, sym, subst}
use Rattle.std.specs.List.{IsDistinct}
use Rattle.std.specs.Prelude.{◌↔◌, IfOk, IsTrue}
use Rattle.std.proofs.lemmas.Bool.{false≢true}
use Rattle.input_output.specs.declared.no_memory.NoMemory.{NoMemory}
use Rattle.graph_base.specs.Rules.{same_pair}
use Rattle.walk_check.specs.Alike.{IsSingleStepped}
use Rattle.walk_check.proofs.FormedParts.{start_key, starts_differ, step_key}
use Rattle.walk_check.proofs.distinct.is_single_stepped.Goals as goal

pub returns-then-not-branch : goal.returns-then-not-branch
returns-then-not-branch c =
    let g = c.args.graph.now in
    let keys : c.deref.result.now ≡ map (start_key g) g.starts = c.deref.ensures.value ∙ c.in_ok-starts.ensures in (
      λ h. absurd (false≢true h),
      λ single. absurd (false≢true (sym c.if-not-branch.true ∙ c.in_ok-are_distinct.ensures.1 (subst (IsDistinct same_pair) (sym keys) ((starts_differ g).1 single.one_start)))),
    )

pub returns : goal.returns
returns c =
    let g = c.args.graph.now in
    let keys : c.deref.result.now ≡ map (start_key g) g.starts = c.deref.ensures.value ∙ c.in_ok-starts.ensures in
    let also : c.deref-2.result.now ≡ map (step_key g) g.steps = c.deref-2.ensures.value ∙ c.in_ok-steps.ensures in
    let starts = (starts_differ g).0 (subst (IsDistinct same_pair) keys (c.in_ok-are_distinct.ensures.0 c.if-not-branch.false)) in
    each c.are_distinct-2.result (IsDistinct same_pair c.deref-2.result.now) (IsSingleStepped g) (λ steps. record { one_start = starts; one_step = subst (IsDistinct same_pair) also steps })
    (λ single. subst (IsDistinct same_pair) (sym also) single.one_step) c.are_distinct-2.ensures
  where
    each : (r : Result Bool NoMemory) (P Q : Type 0) → (P → Q) → (Q → P) → IfOk r (λ b. IsTrue b ↔ P) → IfOk r (λ b. IsTrue b ↔ Q)
    each (Ok b) P Q to back h = (λ t. to (h.0 t), λ q. h.1 (back q))
    each (Err e) P Q to back h = tt
