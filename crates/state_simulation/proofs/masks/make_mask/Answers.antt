use Rattle.std.proofs.Common.{rules, ◌≡◌, ◌&&◌, ◌||◌, ℕ, Bool, true, false, not, None, refl, sym, ap, ◌∙◌}
use Rattle.std.proofs.Math.Bool.{and-true}
use Rattle.std.proofs.lemmas.Bool.{and_parts, both_ways}
use Rattle.bit_rows.specs.Bits.{has}
use Rattle.bit_rows.specs.Tables.{has_at}
use Rattle.graph_base.specs.Runs.{is_listener}
use Rattle.relation_law.specs.Rounds.{fails_at, has_answer, is_looped, same_place}
use Rattle.relation_law.specs.Views.{View}
use Rattle.relation_law.proofs.Rounds.{fails_stepped}
use Rattle.relation_law.proofs.Tests.{none_below}
use Rattle.state_simulation.specs.Looked.{shown}
use Rattle.state_simulation.specs.Targets.{gone_in, tells}
use Rattle.state_simulation.proofs.Rounding.{neither}
use Rattle.state_simulation.proofs.masks.make_mask.Goals as goal

never_looped : (v : View) (gone : ℕ → ℕ → Bool) (m t : ℕ) → is_looped v (tells None) gone m t ≡ false
never_looped v gone m t =
    none_below v.size (λ k. same_place v k t && (false && gone k t))
    (λ k lt e. let no : false ≡ true = (and_parts (same_place v k t) (false && gone k t) e).1 in both_ways false refl no)

pub returns-then-have_one_mask-clause-bits : goal.returns-then-have_one_mask-clause-bits
returns-then-have_one_mask-clause-bits c = λ m lm.
    let was = rw c.in-Some.is at c.requires.mask in
    was m lm ∙ ap not (c.have_one_mask.ensures c.if-have_one_mask.true (tells c.args.onwards.now) m)

pub returns-in-Some-onwards-clause-bits : goal.returns-in-Some-onwards-clause-bits
returns-in-Some-onwards-clause-bits c = λ m lm.
    let g = c.args.maps.now.graph.now in
    let t = c.args.t in
    let gone = gone_in c.args.left.now in
    let reach = has_at c.in-Some-onwards.onwards in
    let clear : has c.fill.new.self m ≡ false = search rules in
    let stepped : is_listener g t ≡ false = ap (λ z. is_listener z t) (sym c.graph.ensures) ∙ sym c.if-hears.ensures in
    c.clear_row.ensures.bits m ∙ ap (λ z. z && not (has c.add_loops.new.looped m)) (c.add_answers.ensures.bits m)
    ∙ ap (λ z. (z || has_answer (shown g) gone m t) && not (has c.add_loops.new.looped m)) clear
    ∙ ap (λ z. has_answer (shown g) gone m t && not z) (c.add_loops.ensures.bits m) ∙ neither (has_answer (shown g) gone m t) (is_looped (shown g) reach gone m t)
    ∙ ap not (sym (fails_stepped (shown g) reach gone m t stepped)) ∙ ap (λ o. not (fails_at (shown g) (tells o) gone m t)) (sym c.in-Some-onwards.is)

pub returns-in_default-onwards-clause-bits : goal.returns-in_default-onwards-clause-bits
returns-in_default-onwards-clause-bits c = λ m lm.
    let g = c.args.maps.now.graph.now in
    let t = c.args.t in
    let gone = gone_in c.args.left.now in
    let clear : has c.fill.new.self m ≡ false = search rules in
    let stepped : is_listener g t ≡ false = ap (λ z. is_listener z t) (sym c.graph.ensures) ∙ sym c.if-hears.ensures in
    c.add_answers.ensures.bits m ∙ ap (λ z. z || has_answer (shown g) gone m t) clear ∙ sym (and-true (has_answer (shown g) gone m t))
    ∙ sym (ap (λ z. has_answer (shown g) gone m t && not z) (never_looped (shown g) gone m t))
    ∙ neither (has_answer (shown g) gone m t) (is_looped (shown g) (tells None) gone m t)
    ∙ ap not (sym (fails_stepped (shown g) (tells None) gone m t stepped))
    ∙ ap (λ o. not (fails_at (shown g) (tells o) gone m t)) (sym c.in_default-onwards.is)
