use Rattle.std.proofs.Common.{◌≡◌, ◌∙◌, ◌<◌, length, ap, sym, subst, arith}
use Rattle.std.specs.Prelude.{All}
use Rattle.std.proofs.lemmas.List.Elements.{All-from_recursion}
use Rattle.reach_prune.specs.Searches.{is_among, is_marked}
use Rattle.walk_check.proofs.ended.are_ended.Goals as goal

pub marked-requires : goal.marked-requires
marked-requires c =
    subst (All (λ n. n < length c.args.graph.now.nodes)) (sym c.starts.ensures.starts)
    (All-from_recursion (λ n. n < length c.args.graph.now.nodes) c.args.graph.now.starts c.starts.ensures.rules.starts)

pub returns : goal.returns
returns c =
    let g = c.args.graph.now in
    let size = c.in_ok-marks.ensures.size in
    let marks = c.deref-2.ensures.value in
    let starts = c.starts.ensures.starts in
    let len : length c.deref-2.result.now ≡ length g.nodes = ap length marks ∙ size in (
      λ h n within.
          let from = (c.in_ok-marks.ensures.marks n within).0 (ap (λ ms. is_marked ms n) (sym marks) ∙ c.are_marked-2.ensures.0 h n (omega (arith, len, within))) in
          (from.0, ap (λ xs. is_among xs from.0) (sym starts) ∙ from.1, from.2),
      λ all. c.are_marked-2.ensures.1 (λ n lt.
          let within : n < length g.nodes = omega (arith, len, lt) in
          let from = all n within in
          ap (λ ms. is_marked ms n) marks ∙ (c.in_ok-marks.ensures.marks n within).1 (from.0, ap (λ xs. is_among xs from.0) starts ∙ from.1, from.2)),
    )
