use Rattle.std.proofs.Common.{◌∙◌, ap, arith, length, get_or, inl, inr, subst}
use Rattle.preference_check.specs.Runs.{IsMatching}
use Rattle.preference_check.proofs.Matching.{keeps_offers, last_run, node_within, runs_before}
use Rattle.preference_check.proofs.passing.matching_nodes.Goals as goal

pub mark_matching-requires-clause-nodes : goal.mark_matching-requires-clause-nodes
mark_matching-requires-clause-nodes c = λ k d lt.
    let g = c.args.graph.now in
    let numbers = c.args.numbers.now in
    let last = last_run g numbers c.routers.routers.items c.pop.new.self.items c.in-Some.nodes c.in-Some.ensures.items c.routers.invariant.nodes in
    let within = node_within g numbers (length c.pop.new.self.items) c.in_order-run.result.items k d
    (λ n number. c.in_order-run.ensures.nodes n number ∙ last n number) (omega (arith, lt, ap length c.deref.ensures.value)) in
    let same = ap (λ xs. (get_or xs k d).node) c.deref.ensures.value in
    omega (arith, within, same, c.requires.offers)

pub routers-preserved : goal.routers-preserved
routers-preserved c =
    let g = c.args.graph.now in
    let numbers = c.args.numbers.now in
    let last = last_run g numbers c.routers.routers.items c.pop.new.self.items c.in-Some.nodes c.in-Some.ensures.items c.routers.invariant.nodes in
    record {
      size = c.mark_matching.ensures.size ∙ c.routers.invariant.size;
      nodes = runs_before g numbers c.routers.routers.items c.pop.new.self.items c.in-Some.nodes c.in-Some.ensures.items c.routers.invariant.nodes;
      marks = λ m n h. elim (c.mark_matching.ensures.marks m h) [
        | inl before ↦ c.routers.invariant.marks m n before
        | inr matching ↦
            keeps_offers c.args.net.now g numbers c.args.offers.now (length c.pop.new.self.items) c.in_order-run.result.items m n (λ k number. c.in_order-run.ensures.nodes k number ∙ last k number)
            (subst (λ run. IsMatching c.args.offers.now run m) c.deref.ensures.value matching)
      ];
    }
