use Rattle.std.proofs.Common.{◌≡◌, ◌<◌, ℕ, length, arith, sym, ◌∙◌, refl}
use Rattle.std.proofs.lemmas.List.Elements.{All-from_recursion}
use Rattle.graph_base.specs.Graphs.{PlainGraph}
use Rattle.reach_prune.specs.Numbers.{number_in, number_kept}
use Rattle.reach_prune.specs.Searches.{is_marked}
use Rattle.reach_prune.specs.Trimmed.{graph_kept}
use Rattle.reach_prune.proofs.Renumbering.{graph_kept_is_graph, graph_kept_of}
use Rattle.reach_prune.proofs.trimming.kept.Goals as goal
use Rattle.reach_prune.proofs.trimming.kept.Goals.{In_ok-steps}

kept_graph : (c : In_ok-steps)
    → ◌≡◌ {A = PlainGraph} (graph_kept (is_marked c.args.marks.now) c.args.graph.now)
    (record { nodes = c.in_ok-nodes.nodes; starts = c.in_ok-starts.starts; steps = c.in_ok-steps.steps })
kept_graph c =
    let g = c.args.graph.now in
    let keep = is_marked c.args.marks.now in
    let numbers = c.in_ok-numbers.numbers.items in
    let same : (n : ℕ) → number_in numbers n ≡ number_kept keep n = λ n. c.in_ok-numbers.ensures.numbers n in
    graph_kept_of keep g numbers _ _ _ same (c.in_ok-nodes.ensures ∙ rw (c.nodes.ensures.nodes) refl) (c.in_ok-starts.ensures ∙ rw (c.deref.ensures.value, c.starts.ensures.starts) refl)
    (c.in_ok-steps.ensures ∙ rw (c.deref-2.ensures.value, c.steps.ensures.steps) refl)

pub starts_kept-requires : goal.starts_kept-requires
starts_kept-requires c =
    let g = c.args.graph.now in
    let size = c.in_ok-numbers.ensures.size in
    rw (c.starts.ensures.starts, c.deref.ensures.value)
    (λ k d lt. (let below = All-from_recursion (λ n. n < length g.nodes) g.starts c.starts.ensures.rules.starts k d lt in omega (arith, below, size, c.requires)))

pub steps_kept-requires : goal.steps_kept-requires
steps_kept-requires c =
    let g = c.args.graph.now in
    let size = c.in_ok-numbers.ensures.size in
    rw (c.steps.ensures.steps, c.deref-2.ensures.value) (λ k d lt. (
    let both = All-from_recursion (λ (s : ℕ × ℕ). (s.0 < length g.nodes) × (s.1 < length g.nodes)) g.steps c.steps.ensures.rules.steps k d lt in
    (omega (arith, both.0, size, c.requires), omega (arith, both.1, size, c.requires))))

pub new-requires : goal.new-requires
new-requires c = rw (sym (kept_graph c)) (graph_kept_is_graph (is_marked c.args.marks.now) c.args.graph.now c.nodes.ensures.rules)

pub returns : goal.returns
returns c = c.new.ensures ∙ sym (kept_graph (goal.at.returns c).In_ok-steps)
