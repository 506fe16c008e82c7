use Rattle.std.proofs.Common.{◌≡◌, ◌+◌, ◌<◌, ℕ, true, length, Option, None, Some, arith, sym, ap, subst}
use Rattle.std.specs.Option.{IfSome}
use Rattle.std.proofs.lemmas.Option.{IfSome_then}
use Rattle.graph_base.specs.Graphs.{PlainGraph}
use Rattle.relation_law.specs.Relations.{Pair}
use Rattle.relation_refute.specs.Cells.{are_parted}
use Rattle.state_simulation.specs.Looked.{shown}
use Rattle.relation_refute.proofs.Firsts.{IsFirstBelow, kept_next, taken_next}
use Rattle.relation_refute.proofs.parted.first_parted.Goals as goal
use Rattle.relation_refute.proofs.parted.first_parted.Goals.{then-is_first, else-is_first}

pub loop-n-init : goal.loop-n-init
loop-n-init c = record { under = tt; some = tt; least = λ k lk pk. absurd (omega (arith, lk)) }

pub is_parted_before-is_first-requires-clause-first : goal.is_parted_before-is_first-requires-clause-first
is_parted_before-is_first-requires-clause-first c =
    let nodes = ap length c.nodes.ensures.nodes in
    let same = ap (λ (z : PlainGraph). length z.nodes) c.graph.ensures in
    IfSome_then c.loop-n.first c.loop-n.invariant.under (λ f lt. omega (arith, lt, c.loop-n-test.true, nodes, same))

pub loop-n-preserved : goal.loop-n-preserved
loop-n-preserved c =
    let g : PlainGraph = c.args.maps.now.graph.now in
    let n : ℕ = c.loop-n.n in
    let P : ℕ → Type 0 = λ f. (m : ℕ) × Pair (shown g) m f × (are_parted c.args.cells.now m f ≡ true) in
    let inv = c.loop-n.invariant in
    let first : Option ℕ = c.loop-n.first in
    elim c.if-is_first.branch [
      | then-is_first w ↦ (
          let found = c.is_parted_before-is_first.ensures.some w.if-is_first.true in
          record {
            under = subst (λ (o : Option ℕ). IfSome o (λ f. f < n + 1)) (sym w.first-is) (omega arith);
            some = subst (λ (o : Option ℕ). IfSome o P) (sym w.first-is) found.0;
            least = subst (IsFirstBelow g P (n + 1)) (sym w.first-is) (taken_next g P n first inv.least found.1);
          })
      | else-is_first w ↦ (
          let none = c.is_parted_before-is_first.ensures.none w.if-is_first.false in
          record {
            under = subst (λ (o : Option ℕ). IfSome o (λ f. f < n + 1)) (sym w.first-is) (IfSome_then first inv.under (λ f lt. omega (arith, lt)));
            some = subst (λ (o : Option ℕ). IfSome o P) (sym w.first-is) inv.some;
            least = subst (IsFirstBelow g P (n + 1)) (sym w.first-is) (kept_next g P n first inv.least inv.under none);
          })
    ]

both_of : (o : Option ℕ) (P Q : ℕ → Type 0) → IfSome o P → IfSome o Q → IfSome o (λ f. P f × Q f)
both_of None P Q p q = tt
both_of (Some f) P Q p q = (p, q)

pub returns-clause-some : goal.returns-clause-some
returns-clause-some c =
    let nodes = ap length c.nodes.ensures.nodes in
    let same = ap (λ (z : PlainGraph). length z.nodes) c.graph.ensures in
    let inv = c.loop-n.invariant in
    both_of c.loop-n.first (λ f. f < length c.args.maps.now.graph.now.nodes)
    (λ f. (m : ℕ) × Pair (shown c.args.maps.now.graph.now) m f × (are_parted c.args.cells.now m f ≡ true))
    (IfSome_then c.loop-n.first inv.under (λ f lt. omega (arith, lt, c.loop-n.auto.n-end, c.loop-n-test.false, nodes, same))) inv.some

pub returns-clause-first : goal.returns-clause-first
returns-clause-first c = λ m n pair parted.
    let nodes = ap length c.nodes.ensures.nodes in
    let same = ap (λ (z : PlainGraph). length z.nodes) c.graph.ensures in
    let right = pair.right in
    c.loop-n.invariant.least n (omega (arith, right, c.loop-n-test.false, nodes, same)) (m, pair, parted)
