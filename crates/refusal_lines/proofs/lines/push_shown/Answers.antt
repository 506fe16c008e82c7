use Rattle.std.proofs.Common.{◌≡◌, ℕ, List, ◌++◌, sym, subst}
use Rattle.std.specs.Prelude.{OnOk}
use Rattle.graph_base.specs.Walks.{IsShownWalk, shown_walk}
use Rattle.graph_base.proofs.ShownWalks.{shown_walk_is, shown_walk_same}
use Rattle.refusal_lines.specs.RefusalLines.{walk_text}
use Rattle.refusal_lines.proofs.lines.push_shown.Goals as goal

pub returns : goal.returns
returns c =
    let g = c.args.graph.now in
    let node = c.args.node in
    let shown = subst (IsShownWalk g node) (sym c.as_slice.ensures) c.in_ok-walk.ensures in
    let same = shown_walk_same g node c.as_slice.result.now (shown_walk g node) shown (shown_walk_is g c.requires.entered node c.requires.node) in
    subst (λ (walk : List ℕ). OnOk c.push_walk.result (c.push_walk.new.line.items ≡ c.args.line.now.items ++ walk_text c.args.net.now walk)) same c.push_walk.ensures
