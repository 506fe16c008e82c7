use Rattle.std.proofs.Common.{◌≡◌, ◌∷◌, [], get_or, arith, sym, ap, ◌∙◌, append_assoc, subst}
use Rattle.graph_base.specs.Runs.{place_of}
use Rattle.graph_base.specs.Walks.{IsFirstBefore}
use Rattle.graph_base.proofs.WalkLemmas.{shown_back}
use Rattle.pair_graph.proofs.pairs.PairGraph.walk.Goals as goal

pub back-preserved : goal.back-preserved
back-preserved c =
    let g = c.args.self.now.graph in
    let last = c.back.last in
    let first = get_or c.as_slice-before.result.now last 0 in
    let inner = sym c.is_start.ensures ∙ c.back-test.true in
    let known = c.args.self.now.finders last c.back.invariant.node inner in
    let same : get_or c.args.self.now.before last 0 ≡ first = ap (λ xs. get_or xs last 0) (sym c.as_slice-before.ensures) in
    let before : IsFirstBefore g first last = subst (λ k. IsFirstBefore g k last) same known.0 in
    record {
      node = omega (arith, known.1, same, c.back.invariant.node);
      walk = λ rest h.
          let longer = shown_back g last first rest inner before h in
          rw (c.in_ok-push.ensures.ok, c.location.ensures, append_assoc c.back.walk (place_of g last ∷ []) rest) (c.back.invariant.walk _ longer);
    }

pub returns : goal.returns
returns c = rw c.in_ok-push-2.ensures.ok (c.back.invariant.walk (c.location-2.result ∷ []) (sym c.is_start.ensures ∙ c.back-test.false, c.location-2.ensures))
