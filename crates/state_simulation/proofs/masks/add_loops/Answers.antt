use Rattle.std.proofs.Common.{◌≡◌, ◌&&◌, ◌||◌, ℕ, Bool, true, false, not, eqb, length, arith, get_or, take, ◌+◌, refl, sym, ap, ◌∙◌}
use Rattle.std.specs.List.{list_any}
use Rattle.std.proofs.Math.Bool.{or-false}
use Rattle.std.proofs.lemmas.Bool.{and_left}
use Rattle.std.proofs.lemmas.List.{take_all}
use Rattle.std.proofs.lemmas.List.Folds.{list_any_more}
use Rattle.bit_rows.specs.Bits.{has}
use Rattle.bit_rows.specs.Tables.{has_at}
use Rattle.graph_base.specs.Graphs.{PlainGraph}
use Rattle.graph_base.specs.Runs.{place_of}
use Rattle.state_simulation.specs.Targets.{gone_in}
use Rattle.state_simulation.proofs.Masking.{covered, leads_on, located_any}
use Rattle.state_simulation.proofs.masks.add_loops.Goals as goal
use Rattle.state_simulation.proofs.masks.add_loops.Goals.{then-not-is_set+then-not-is_set-2, else-not-is_set, else-not-is_set-via-then-not-is_set+else-not-is_set-2}
use Rattle.state_simulation.proofs.masks.add_loops.Goals.{else-not-is_set-via-else-not-is_set}

moved : (f g r : Bool) → (f && (g && r)) ≡ (f && (r && g))
moved true true true = refl
moved true true false = refl
moved true false true = refl
moved true false false = refl
moved false g r = refl

pub loop-k-preserved : goal.loop-k-preserved
loop-k-preserved c =
    let inv = c.loop-k.invariant in
    let nodes = c.peers-k-items.result.now in
    let i = c.loop-k.k-index in
    let k = get_or nodes i 0 in
    let gone : ℕ → Bool = λ x. gone_in c.args.left.now x c.args.t in
    let reach : ℕ → ℕ → Bool = has_at c.args.onwards.now in
    let q : ℕ → ℕ → Bool = λ m x. gone x && reach x m in
    let more : (m : ℕ) → (list_any (q m) (take i nodes) || q m k) ≡ list_any (q m) (take (i + 1) nodes) = λ m. sym (list_any_more (q m) nodes i 0 c.loop-k-test.true) in
    let in_row : has_at c.args.left.now c.args.t k ≡ has c.row-row.result.now k = ap (λ z. has z k) (sym c.row-row.ensures.words) in
    elim c.if-not-is_set.branch [
      | then-not-is_set+then-not-is_set-2 w ↦ (
          let is : gone k ≡ true = ap not (in_row ∙ sym c.is_set.ensures ∙ w.if-not-is_set.true) in
          record {
            len = ap length w.looped-is ∙ w.add_row.ensures.len ∙ inv.len;
            bits = λ m. ap (λ l. has l m) w.looped-is ∙ w.add_row.ensures.bits m ∙ ap (λ l. has c.loop-k.looped m || has l m) w.row.ensures.words ∙ ap (λ z. z || reach k m) (inv.bits m)
                ∙ sym (ap (λ z. list_any (q m) (take i nodes) || (z && reach k m)) is) ∙ more m;
          })
      | else-not-is_set w ↦ elim w.else-not-is_set.branch [
        | else-not-is_set-via-then-not-is_set+else-not-is_set-2 u ↦ (
            let set : list_any (q k) (take i nodes) ≡ true = sym (inv.bits k) ∙ sym u.is_set-then-not-is_set.ensures ∙ u.if-not-is_set-2.false in
            record {
              len = ap length w.looped-is ∙ inv.len;
              bits = λ m. ap (λ l. has l m) w.looped-is ∙ inv.bits m
                  ∙ sym (covered gone reach (take i nodes) k m (leads_on c.args.maps.now.graph.now c.args.onwards.now c.requires.onwards.exact nodes i
                  k m c.peers-k-items.ensures.within c.loop-k-test.true refl) set) ∙ more m;
            })
        | else-not-is_set-via-else-not-is_set u ↦ (
            let is : gone k ≡ false = ap not (in_row ∙ sym c.is_set.ensures ∙ u.if-not-is_set.false) in
            record {
              len = ap length w.looped-is ∙ inv.len;
              bits =
                  λ m. ap (λ l. has l m) w.looped-is ∙ inv.bits m
                  ∙ sym (ap (λ z. list_any (q m) (take i nodes) || z) (and_left (gone k) (reach k m) is) ∙ or-false (list_any (q m) (take i nodes)))
                  ∙ more m;
            })
      ]
    ]

pub returns-clause-bits : goal.returns-clause-bits
returns-clause-bits c = λ m.
    let g : PlainGraph = c.args.maps.now.graph.now in
    let t : ℕ = c.args.t in
    c.loop-k.invariant.bits m
    ∙ ap (λ l. list_any (λ s. gone_in c.args.left.now s t && has_at c.args.onwards.now s m) l) (take_all c.loop-k.k-index c.peers-k-items.result.now (omega (arith, c.loop-k-test.false)))
    ∙ located_any c.peers-k-items.result.now (length g.nodes) (λ s. eqb (place_of g s) (place_of g t)) (λ s. gone_in c.args.left.now s t && has_at c.args.onwards.now s m)
    (λ s. eqb (place_of g s) (place_of g t) && (has_at c.args.onwards.now s m && gone_in c.args.left.now s t))
    c.peers-k-items.ensures.within c.peers-k-items.ensures.members (λ s lt. moved (eqb (place_of g s) (place_of g t)) (gone_in c.args.left.now s t) (has_at c.args.onwards.now s m))
