use Rattle.std.proofs.Common.{◌≡◌, ◌&&◌, ◌||◌, ℕ, Bool, true, false, not, eqb, length, arith, get_or, refl, sym, ap, ◌∙◌}
use Rattle.std.proofs.lemmas.Bool.{and_left}
use Rattle.std.proofs.lemmas.List.{take_all}
use Rattle.std.specs.List.{list_any}
use Rattle.bit_rows.specs.Bits.{has}
use Rattle.bit_rows.specs.Tables.{has_at}
use Rattle.graph_base.specs.Graphs.{PlainGraph}
use Rattle.graph_base.specs.Runs.{has_step, is_listener, place_of}
use Rattle.state_simulation.proofs.Masking.{located_any, same_more, set_more}
use Rattle.state_simulation.proofs.masks.add_answers.Goals as goal
use Rattle.state_simulation.proofs.masks.add_answers.Goals.{then-is_set+then-not-hears, else-is_set, else-is_set-via-then-is_set+else-not-hears, else-is_set-via-else-is_set}

moved : (f l h st : Bool) → (f && ((l && not h) && st)) ≡ ((st && not h) && (f && not (not l)))
moved true true true true = refl
moved true true true false = refl
moved true true false true = refl
moved true true false false = refl
moved true false true true = refl
moved true false true false = refl
moved true false false true = refl
moved true false false false = refl
moved false l true true = refl
moved false l true false = refl
moved false l false true = refl
moved false l false false = refl

pub loop-s-preserved : goal.loop-s-preserved
loop-s-preserved c =
    let inv = c.loop-s.invariant in
    let g = c.args.maps.now.graph.now in
    let nodes = c.peers-s-items.result.now in
    let i = c.loop-s.s-index in
    let s = get_or nodes i 0 in
    let p : ℕ → ℕ → Bool = λ m x. (has_at c.args.left.now c.args.t x && not (is_listener g x)) && has_step g m x in
    let in_row : has_at c.args.left.now c.args.t s ≡ has c.row-row.result.now s = ap (λ z. has z s) (sym c.row-row.ensures.words) in
    elim c.if-is_set.branch [
      | then-is_set+then-not-hears w ↦ (
          let hears : w.hears.result ≡ is_listener g s = rw w.graph.ensures at w.hears.ensures in
          let is : (has_at c.args.left.now c.args.t s && not (is_listener g s)) ≡ true = ap (λ z. z && not (is_listener g s))
          (in_row ∙ sym c.is_set.ensures ∙ w.if-is_set.true) ∙ ap not (sym hears) ∙ ap not w.if-not-hears.true in
          record {
            len = ap length w.mask-is ∙ w.set_each.ensures.len ∙ inv.len;
            bits = λ m. ap (λ l. has l m) w.mask-is
                ∙ set_more (p m) nodes i (has c.args.mask.now m) (has c.loop-s.mask m) (has w.set_each.new.mask m) c.loop-s-test.true (inv.bits m)
                (w.set_each.ensures.bits m ∙ ap (λ z. has c.loop-s.mask m || z) (w.before-then-not-hears.ensures.members m ∙ sym (ap (λ z. z && has_step g m s) is)));
          })
      | else-is_set w ↦ (
          let none : (has_at c.args.left.now c.args.t s && not (is_listener g s)) ≡ false = elim w.else-is_set.branch [
            | else-is_set-via-then-is_set+else-not-hears u ↦ (
                let hears : u.hears.result ≡ is_listener g s = rw u.graph.ensures at u.hears.ensures in
                ap (λ z. z && not (is_listener g s)) (in_row ∙ sym c.is_set.ensures ∙ u.if-is_set.true) ∙ ap not (sym hears) ∙ ap not u.if-not-hears.false)
            | else-is_set-via-else-is_set u ↦ and_left _ _ (in_row ∙ sym c.is_set.ensures ∙ u.if-is_set.false)
          ] in
          record {
            len = ap length w.mask-is ∙ inv.len;
            bits = λ m. ap (λ l. has l m) w.mask-is ∙ same_more (p m) nodes i (has c.args.mask.now m) (has c.loop-s.mask m) c.loop-s-test.true (inv.bits m) (and_left _ _ none);
          })
    ]

pub returns-clause-bits : goal.returns-clause-bits
returns-clause-bits c = λ m.
    let g : PlainGraph = c.args.maps.now.graph.now in
    let t : ℕ = c.args.t in
    c.loop-s.invariant.bits m
    ∙ ap (λ l. has c.args.mask.now m || list_any (λ s. (has_at c.args.left.now t s && not (is_listener g s)) && has_step g m s) l)
    (take_all c.loop-s.s-index c.peers-s-items.result.now (omega (arith, c.loop-s-test.false)))
    ∙ ap (λ z. has c.args.mask.now m || z)
    (located_any c.peers-s-items.result.now (length g.nodes) (λ s. eqb (place_of g s) (place_of g t)) (λ s. (has_at c.args.left.now t s && not (is_listener g s)) && has_step g m s)
    (λ s. (has_step g m s && not (is_listener g s)) && (eqb (place_of g s) (place_of g t) && not (not (has_at c.args.left.now t s))))
    c.peers-s-items.ensures.within c.peers-s-items.ensures.members (λ s lt. moved (eqb (place_of g s) (place_of g t)) (has_at c.args.left.now t s) (is_listener g s) (has_step g m s)))
