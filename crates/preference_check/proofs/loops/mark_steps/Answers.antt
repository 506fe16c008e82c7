use Rattle.std.proofs.Common.{◌≡◌, ◌<◌, ◌≤◌, ◌&&◌, ℕ, Bool, IsTrue, false, ap, sym, subst, ◌∙◌, inl, inr, arith, length, get_or, take, eqb, not, length-set}
use Rattle.std.specs.List.{AllByRecursion, list_any}
use Rattle.std.proofs.lemmas.Bool.{and_parts, eqb-true, not-true, or_cases}
use Rattle.std.proofs.lemmas.List.{take_all}
use Rattle.std.proofs.lemmas.List.Folds.{list_any_more}
use Rattle.std.proofs.lemmas.Option.{slice_get-get_or}
use Rattle.list_law.proofs.Each.{AllByRecursion_at}
use Rattle.graph_base.specs.Runs.{has_step, is_listener, place_of}
use Rattle.reach_prune.specs.Searches.{is_marked}
use Rattle.graph_base.specs.Preferences.{number_in}
use Rattle.preference_check.specs.Rows.{has_upto}
use Rattle.preference_check.proofs.Looping.{unmarked_set}
use Rattle.preference_check.proofs.loops.mark_steps.Goals as goal
use Rattle.preference_check.proofs.loops.mark_steps.Goals.{then-is_too_great, else-is_too_great}

abbrev goes : ℕ → ℕ → ℕ × ℕ → Bool
goes m s x = eqb x.0 m && eqb x.1 s

pub loop-step-preserved : goal.loop-step-preserved
loop-step-preserved c =
    let g = c.args.graph.now in
    let steps = c.steps-step-items.result.now in
    let i = c.loop-step.step-index in
    let none : ℕ × ℕ = (0, 0) in
    let x : ℕ × ℕ = get_or steps i none in
    let within : i < length steps = c.loop-step-test.true in
    let nodes = subst (AllByRecursion (λ (s : ℕ × ℕ). (s.0 < length g.nodes) × (s.1 < length g.nodes))) (sym c.steps-step-items.ensures.steps) c.steps-step-items.ensures.rules.steps in
    let ends = AllByRecursion_at (λ (s : ℕ × ℕ). (s.0 < length g.nodes) × (s.1 < length g.nodes)) steps i x nodes (slice_get-get_or steps i none within) in
    let from : x.0 < length c.loop-step.suspects.items = omega (arith, ends.0, c.loop-step.invariant.size, c.requires.size) in
    elim c.if-is_too_great.branch [
      | then-is_too_great w ↦
          record {
            size = ap (λ v. length v.items) w.suspects-is ∙ length-set _ _ _ ∙ c.loop-step.invariant.size;
            kept = λ m off. c.loop-step.invariant.kept m (unmarked_set c.loop-step.suspects.items x.0 m from (subst (λ v. is_marked v.items m ≡ false) w.suspects-is off)).1;
            steps = λ m s v off h deaf place low.
                let un = unmarked_set c.loop-step.suspects.items x.0 m from (subst (λ v. is_marked v.items m ≡ false) w.suspects-is off) in
                elim (or_cases (list_any (goes m s) (take i steps)) (goes m s x) (sym (list_any_more (goes m s) steps i none within) ∙ h)) [
                  | inl t ↦ c.loop-step.invariant.steps m s v un.1 t deaf place low
                  | inr t ↦ absurd (un.0 (eqb-true x.0 m (and_parts (eqb x.0 m) (eqb x.1 s) t).0))
                ];
          }
      | else-is_too_great w ↦
          record {
            size = ap (λ v. length v.items) w.suspects-is ∙ c.loop-step.invariant.size;
            kept = λ m off. c.loop-step.invariant.kept m (subst (λ v. is_marked v.items m ≡ false) w.suspects-is off);
            steps = λ m s v off h deaf place low.
                elim (or_cases (list_any (goes m s) (take i steps)) (goes m s x) (sym (list_any_more (goes m s) steps i none within) ∙ h)) [
                  | inl t ↦ c.loop-step.invariant.steps m s v (subst (λ v. is_marked v.items m ≡ false) w.suspects-is off) t deaf place low
                  | inr t ↦ (
                      let parts = and_parts (eqb x.0 m) (eqb x.1 s) t in
                      let one = eqb-true x.0 m parts.0 in
                      let other = eqb-true x.1 s parts.1 in
                      subst (λ k. number_in c.args.numbers.now k ≤ v) other
                      (c.is_too_great.ensures w.if-is_too_great.false (ap (is_listener g) other ∙ deaf) (ap (place_of g) other ∙ place) v
                      (subst (λ k. IsTrue (has_upto c.args.lows.now k v)) (sym one) low)))
                ];
          }
    ]

pub returns-clause-steps : goal.returns-clause-steps
returns-clause-steps c = λ m off s v on place low.
    let g = c.args.graph.now in
    let step = and_parts (has_step g m s) (not (is_listener g s)) on in
    let all = take_all c.loop-step.step-index c.steps-step-items.result.now c.loop-step-test.false ∙ c.steps-step-items.ensures.steps in
    c.loop-step.invariant.steps m s v off (ap (list_any (goes m s)) all ∙ step.0) (not-true _ step.1) place low
