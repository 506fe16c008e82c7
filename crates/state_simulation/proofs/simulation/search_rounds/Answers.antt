use Rattle.std.proofs.Common.{ℕ, Bool, refl, sym, ap, subst, ◌∙◌}
use Rattle.graph_base.specs.Graphs.{PlainGraph}
use Rattle.relation_law.specs.Relations.{IsClosed, IsGreatest, IsTotal}
use Rattle.relation_law.specs.Views.{view_of}
use Rattle.state_simulation.specs.Held.{PlainRelation}
use Rattle.state_simulation.specs.Stages.{AreFirst, above_in}
use Rattle.state_simulation.specs.Targets.{AreNodeRows}
use Rattle.state_simulation.proofs.Holding.{made_relation, made_total}
use Rattle.state_simulation.proofs.simulation.search_rounds.Goals as goal

pub find_total-requires-clause-first : goal.find_total-requires-clause-first
find_total-requires-clause-first c =
    let first = c.in_ok-first.ensures.first in
    record { graph = refl; rounds = subst (λ (z : PlainGraph). AreFirst z c.args.claimed.now c.in_ok-first.first.rounds) (sym first.graph) first.rounds }

pub find_total-requires-clause-settled : goal.find_total-requires-clause-settled
find_total-requires-clause-settled c = λ none.
    subst (λ (z : PlainGraph). IsGreatest (view_of z c.args.claimed.now) (above_in (view_of z c.args.claimed.now) c.in_ok-first.first.rounds.left)) (sym c.in_ok-first.ensures.first.graph)
    (c.in_ok-first.ensures.settled none)

pub returns-then-not-is_total-clause-first : goal.returns-then-not-is_total-clause-first
returns-then-not-is_total-clause-first c =
    let same = c.in_ok-first.ensures.first.graph in
    record {
      graph = ap (λ maps. maps.graph.now) c.in_ok-is_total.ensures.maps ∙ same;
      rounds = subst (λ (z : PlainGraph). AreFirst z c.args.claimed.now c.find_total.new.self.rounds) same (c.in_ok-is_total.ensures.first c.if-not-is_total.true);
    }

pub returns-then-not-is_total-clause-partial : goal.returns-then-not-is_total-clause-partial
returns-then-not-is_total-clause-partial c =
    subst (λ (z : PlainGraph). (s : ℕ → ℕ → Bool) → IsClosed (view_of z c.args.claimed.now) s → IsTotal (view_of z c.args.claimed.now) s → ⊥) c.in_ok-first.ensures.first.graph
    (c.in_ok-is_total.ensures.partial c.if-not-is_total.true)

pub held-requires : goal.held-requires
held-requires c = rw c.into_left.ensures (subst (λ (z : PlainGraph). AreNodeRows z c.find_total.new.self.rounds.left) c.in_ok-first.ensures.first.graph c.in_ok-is_total.ensures.sized.left)

pub returns-clause-relation : goal.returns-clause-relation
returns-clause-relation c =
    made_relation c.in_ok-first.first.maps.graph.now c.args.graph.now c.args.claimed.now c.in_ok-relation.relation c.find_total.new.self.rounds.left
    c.in_ok-first.ensures.first.graph (rw c.into_left.ensures at c.in_ok-relation.ensures) (c.in_ok-is_total.ensures.greatest c.if-not-is_total.false)

pub returns-clause-claimed : goal.returns-clause-claimed
returns-clause-claimed c = ap (λ (r : PlainRelation). r.claimed) c.in_ok-relation.ensures

pub returns-clause-total : goal.returns-clause-total
returns-clause-total c =
    made_total c.in_ok-first.first.maps.graph.now c.args.graph.now c.args.claimed.now c.in_ok-relation.relation c.find_total.new.self.rounds.left
    c.in_ok-first.ensures.first.graph (rw c.into_left.ensures at c.in_ok-relation.ensures) (c.in_ok-is_total.ensures.bound c.if-not-is_total.false)
