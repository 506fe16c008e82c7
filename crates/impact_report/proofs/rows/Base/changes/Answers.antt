use Rattle.std.proofs.Common.{◌≡◌, ◌++◌, ◌∷◌, [], List, append-nil, map, take, true, false, Bool, sym, ap, ap₂, ◌∙◌}
use Rattle.std.specs.Prelude.{nat_eq, if◌then◌else◌}
use Rattle.std.specs.Option.{option_eq}
use Rattle.std.proofs.lemmas.Bool.{not-false, not-true}
use Rattle.std.proofs.lemmas.List.{take_all}
use Rattle.cut_ranks.specs.Tops.{entry_at}
use Rattle.impact_law.specs.Cuts.{with_cut}
use Rattle.impact_law.specs.Impacts.{changed, same_rank}
use Rattle.outcome_base.specs.Outcomes.{no_failures}
use Rattle.impact_law.specs.declared.impact.SourceRank.{SourceRank}
use Rattle.cut_ranks.specs.Paths.{rank_under}
use Rattle.impact_report.specs.Sources.{reranked}
use Rattle.impact_report.proofs.Changing.{changed_next, same_is}
use Rattle.impact_report.proofs.rows.Base.changes.Goals.{then-ne+in_ok-push, else-ne}
use Rattle.impact_report.proofs.rows.Base.changes.Goals as goal

pub loop-entry-preserved : goal.loop-entry-preserved
loop-entry-preserved c =
    let F : SourceRank → SourceRank = reranked (rank_under c.args.self.now.paths.left (with_cut c.args.cut.now no_failures) (entry_at c.args.tops.now)) in
    let base = c.as_slice-entry-items.result.now in
    let i = c.loop-entry.entry-index in
    let x = c.entry-item.result in
    let next = changed_next F base i x c.loop-entry-test.true c.entry-item.is in
    let rank = c.rank_after-rank.result in
    let told : same_rank x.rank (F x).rank ≡ option_eq nat_eq x.rank rank = ap (same_rank x.rank) (sym c.rank_after-rank.ensures) ∙ sym (same_is x.rank rank) in
    let Rest : Bool → List SourceRank = λ (t : Bool). if t then [] else F x ∷ [] in
    let before = changed (take i base) (map F (take i base)) in
    elim c.if-ne.branch [
      | then-ne+in_ok-push w ↦ (
          let other : same_rank x.rank (F x).rank ≡ false = told ∙ not-true _ (sym c.ne.ensures ∙ w.if-ne.true) in
          let entry : record { router = x.router; peer = x.peer; rank = rank } ≡ F x = λ j. record { router = x.router; peer = x.peer; rank = c.rank_after-rank.ensures j } in
          w.changed-is ∙ w.in_ok-push.ensures.ok ∙ ap₂ (λ (xs : List SourceRank) (y : SourceRank). xs ++ y ∷ []) c.loop-entry.invariant entry ∙ sym (next ∙ ap (λ (t : Bool). before ++ Rest t) other))
      | else-ne w ↦ (
          let same : same_rank x.rank (F x).rank ≡ true = told ∙ not-false _ (sym c.ne.ensures ∙ w.if-ne.false) in
          w.changed-is ∙ c.loop-entry.invariant ∙ sym (append-nil before) ∙ sym (next ∙ ap (λ (t : Bool). before ++ Rest t) same))
    ]

pub returns : goal.returns
returns c =
    let F : SourceRank → SourceRank = reranked (rank_under c.args.self.now.paths.left (with_cut c.args.cut.now no_failures) (entry_at c.args.tops.now)) in
    let all = take_all c.loop-entry.entry-index c.as_slice-entry-items.result.now c.loop-entry-test.false ∙ c.as_slice-entry-items.ensures in
    c.loop-entry.invariant ∙ ap (λ (xs : List SourceRank). changed xs (map F xs)) all
