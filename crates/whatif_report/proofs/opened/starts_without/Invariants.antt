use Rattle.std.proofs.Common.{◌≡◌, filter, take}
use Rattle.std.specs.Prelude.{not}
use Rattle.graph_base.specs.Runs.{place_of}
use Rattle.impact_law.specs.Cuts.{is_cut}
use Rattle.whatif_report.proofs.opened.starts_without.Given as goal

abbrev pub invariant-loop-start : goal.invariant-loop-start
invariant-loop-start l = l.starts ≡ filter (λ n. not (is_cut l.cut (place_of l.graph n))) (take l.start-index l.start-items)
