use Rattle.std.proofs.Common.{◌≡◌, ◌<◌, ℕ, true, ◌∷◌, [], length, get_or, arith, sym, ◌∙◌, append_assoc, subst}
use Rattle.std.proofs.lemmas.List.{get_or_read}
use Rattle.graph_base.specs.Runs.{place_of, has_step}
use Rattle.graph_base.specs.Walks.{IsFirstBefore}
use Rattle.graph_base.proofs.WalkLemmas.{before_inner, shown_back}
use Rattle.graph_base.proofs.follow.walk_of.Goals as goal

pub back-preserved : goal.back-preserved
back-preserved c =
    let g = c.args.graph.now in
    let last = c.back.last in
    let firsts = c.in_ok-firsts.firsts.items in
    let first = c.index-last.result.now in
    let inner = sym c.is_start.ensures ∙ c.back-test.true in
    let lesser : (m : ℕ) × (m < last) × (has_step g m last ≡ true) = before_inner g last c.requires.entered c.back.invariant.node inner in
    let known : last < length firsts = omega (arith, c.back.invariant.node, c.in_ok-firsts.ensures.size) in
    let is : get_or firsts last 0 ≡ first = sym (get_or_read firsts last first known c.index-last.ensures 0) in
    let before : IsFirstBefore g first last = subst (λ k. IsFirstBefore g k last) is (c.in_ok-firsts.ensures.first lesser.0 last lesser.2) in
    record {
      node = omega (arith, before.1 lesser.0 lesser.2, lesser.1, c.back.invariant.node);
      walk = λ rest h.
          let longer = shown_back g last first rest inner before h in
          rw (c.in_ok-push.ensures.ok, c.location.ensures, append_assoc c.back.walk (place_of g last ∷ []) rest) (c.back.invariant.walk _ longer);
    }

pub returns : goal.returns
returns c = rw c.in_ok-push-2.ensures.ok (c.back.invariant.walk (c.location-2.result ∷ []) (sym c.is_start.ensures ∙ c.back-test.false, c.location-2.ensures))
