use Rattle.std.proofs.Common.{◌≡◌, ◌&&◌, ◌||◌, ℕ, Bool, true, false, eqb, get_or, length, arith, refl, sym, ap, ◌∙◌}
use Rattle.std.proofs.lemmas.Bool.{and_left}
use Rattle.std.proofs.lemmas.List.{take_all}
use Rattle.std.specs.List.{list_any}
use Rattle.bit_rows.specs.Bits.{has}
use Rattle.graph_base.specs.Graphs.{PlainGraph}
use Rattle.graph_base.specs.Runs.{has_step, is_listener, place_of, rank_at}
use Rattle.relation_law.specs.Relations.{no_worse}
use Rattle.state_simulation.proofs.Masking.{located_any, same_more, set_more}
use Rattle.state_simulation.proofs.masks.add_hearers.Goals as goal
use Rattle.state_simulation.proofs.masks.add_hearers.Goals.{then-is_hearer, else-is_hearer}

moved : (f h r st : Bool) → (f && ((h && r) && st)) ≡ ((st && h) && (f && r))
moved true true true true = refl
moved true true true false = refl
moved true true false true = refl
moved true true false false = refl
moved true false r true = refl
moved true false r false = refl
moved false true r true = refl
moved false true r false = refl
moved false false r true = refl
moved false false r false = refl

pub loop-s-preserved : goal.loop-s-preserved
loop-s-preserved c =
    let inv = c.loop-s.invariant in
    let g : PlainGraph = c.args.maps.now.graph.now in
    let nodes = c.peers-s-items.result.now in
    let i = c.loop-s.s-index in
    let s = get_or nodes i 0 in
    let hears : ℕ → Bool = λ x. is_listener g x && no_worse (rank_at g x) (rank_at g c.args.t) in
    let p : ℕ → ℕ → Bool = λ m x. hears x && has_step g m x in
    let asked : c.is_hearer.result ≡ hears s = rw c.graph.ensures at c.is_hearer.ensures in
    elim c.if-is_hearer.branch [
      | then-is_hearer w ↦ (
          let is : hears s ≡ true = sym asked ∙ w.if-is_hearer.true in
          record {
            len = ap length w.mask-is ∙ w.set_each.ensures.len ∙ inv.len;
            bits = λ m. ap (λ l. has l m) w.mask-is
                ∙ set_more (p m) nodes i (has c.args.mask.now m) (has c.loop-s.mask m) (has w.set_each.new.mask m) c.loop-s-test.true (inv.bits m)
                (w.set_each.ensures.bits m ∙ ap (λ z. has c.loop-s.mask m || z) (w.before-then-is_hearer.ensures.members m ∙ sym (ap (λ z. z && has_step g m s) is)));
          })
      | else-is_hearer w ↦ record {
        len = ap length w.mask-is ∙ inv.len;
        bits = λ m. ap (λ l. has l m) w.mask-is
            ∙ same_more (p m) nodes i (has c.args.mask.now m) (has c.loop-s.mask m) c.loop-s-test.true (inv.bits m) (and_left _ _ (sym asked ∙ w.if-is_hearer.false));
      }
    ]

pub returns-clause-bits : goal.returns-clause-bits
returns-clause-bits c = λ m.
    let g : PlainGraph = c.args.maps.now.graph.now in
    let t : ℕ = c.args.t in
    c.loop-s.invariant.bits m
    ∙ ap (λ l. has c.args.mask.now m || list_any (λ s. (is_listener g s && no_worse (rank_at g s) (rank_at g t)) && has_step g m s) l)
    (take_all c.loop-s.s-index c.peers-s-items.result.now (omega (arith, c.loop-s-test.false)))
    ∙ ap (λ z. has c.args.mask.now m || z)
    (located_any c.peers-s-items.result.now (length g.nodes) (λ s. eqb (place_of g s) (place_of g t)) (λ s. (is_listener g s && no_worse (rank_at g s) (rank_at g t)) && has_step g m s)
    (λ s. (has_step g m s && is_listener g s) && (eqb (place_of g s) (place_of g t) && no_worse (rank_at g s) (rank_at g t)))
    c.peers-s-items.ensures.within c.peers-s-items.ensures.members (λ s lt. moved (eqb (place_of g s) (place_of g t)) (is_listener g s) (no_worse (rank_at g s) (rank_at g t)) (has_step g m s)))
