use Rattle.std.proofs.Common.{false, true, ◌&&◌, Option, refl, sym, ap, subst, ◌∙◌}
use Rattle.bit_rows.specs.Tables.{PlainRows}
use Rattle.graph_base.specs.Graphs.{PlainGraph}
use Rattle.relation_law.specs.Relations.{IsGreatest}
use Rattle.relation_law.specs.Views.{view_of}
use Rattle.relation_law.proofs.Rounds.{pair_to}
use Rattle.state_simulation.specs.Stages.{AreFirst, Knows, above_in}
use Rattle.state_simulation.proofs.Staging.{greatest_first}
use Rattle.state_simulation.proofs.first.FirstRound.new.Goals as goal

pub returns-clause-first : goal.returns-clause-first
returns-clause-first c =
    let g : PlainGraph = c.in_ok-maps.maps.graph.now in
    let claimed = c.args.claimed.now in
    let old = c.in_ok-rounds in
    let next = c.advance-changed.ensures in
    let rounds : AreFirst g claimed c.advance-changed.new.self = record {
      sized = next.sized;
      at = λ reach. next.next claimed reach 0 (subst (λ (o : Option PlainRows). Knows g reach 0 o) (sym old.ensures.onwards) refl) (old.ensures.first reach);
      quiet = λ m n pair none.
          next.quiet n m pair.right pair.left none ∙ (old.ensures.first (λ a b. false)).exact m n pair.left pair.right
          ∙ ap (λ z. z && true) (pair_to (view_of g claimed) m n (record { left = pair.left; right = pair.right; place = pair.place }));
      even = next.even;
    } in
    record { graph = c.in_ok-maps.ensures; rounds = subst (λ (z : PlainGraph). AreFirst z claimed c.advance-changed.new.self) c.in_ok-maps.ensures rounds }

pub returns-clause-settled : goal.returns-clause-settled
returns-clause-settled c = λ none.
    let g : PlainGraph = c.in_ok-maps.maps.graph.now in
    let claimed = c.args.claimed.now in
    let old = c.in_ok-rounds in
    let left : PlainRows = c.advance-changed.new.self.left in
    subst (λ (z : PlainGraph). IsGreatest (view_of z claimed) (above_in (view_of z claimed) left)) c.in_ok-maps.ensures
    (greatest_first g claimed left
    (λ reach. c.advance-changed.ensures.settled none claimed reach 0 (subst (λ (o : Option PlainRows). Knows g reach 0 o) (sym old.ensures.onwards) refl) (old.ensures.first reach)))
