use Rattle.std.proofs.Common.{◌≡◌, ℕ, None, cond, eqb, get_or, take, ap, sym, ◌∙◌, refl, arith}
use Rattle.std.specs.List.{list_any}
use Rattle.std.proofs.lemmas.List.{take_all}
use Rattle.std.proofs.lemmas.List.Folds.{list_any_more}
use Rattle.preference_check.proofs.RowLemmas.{kept_more, none_past, number_out, out_more}
use Rattle.preference_check.proofs.low_row.take_out.Goals as goal
use Rattle.preference_check.proofs.low_row.take_out.Goals.{then-place-len, else-place-len}

pub loop-place-preserved : goal.loop-place-preserved
loop-place-preserved c =
    let places = c.args.places.now in
    let i = c.loop-place.place-index in
    let place = get_or places i 0 in
    let row = c.loop-place.least.items in
    let new = c.if-place-len.least.items in
    let size = c.loop-place.least.ok.0 in
    let out : (p : ℕ) → get_or new p None ≡ cond (eqb place p) None (get_or row p None) = λ p. elim c.if-place-len.branch [
      | then-place-len w ↦ ap (λ v. get_or v.items p None) w.least-is ∙ number_out row place p (eqb place p) (omega (arith, w.if-place-len.true, c.len.ensures, size)) refl
      | else-place-len w ↦ ap (λ v. get_or v.items p None) w.least-is ∙ none_past row place p (eqb place p) (omega (arith, w.if-place-len.false, c.len.ensures, size)) refl
    ] in
    let before = λ (p : ℕ). list_any (λ x. eqb x p) (take i places) in
    let more = λ (p : ℕ). sym (list_any_more (λ x. eqb x p) places i 0 c.loop-place-test.true) in
    record {
      out = λ p h. out_more (before p) (eqb place p) (get_or new p None) (get_or row p None) (out p) (c.loop-place.invariant.out p) (more p ∙ h);
      kept = λ p h. kept_more (before p) (eqb place p) (get_or new p None) (get_or row p None) (get_or c.args.least.now.items p None) (out p) (c.loop-place.invariant.kept p) (more p ∙ h);
    }

pub returns-clause-out : goal.returns-clause-out
returns-clause-out c = λ p h. c.loop-place.invariant.out p (ap (list_any (λ x. eqb x p)) (take_all c.loop-place.place-index c.args.places.now c.loop-place-test.false) ∙ h)

pub returns-clause-kept : goal.returns-clause-kept
returns-clause-kept c = λ p h. c.loop-place.invariant.kept p (ap (list_any (λ x. eqb x p)) (take_all c.loop-place.place-index c.args.places.now c.loop-place-test.false) ∙ h)
