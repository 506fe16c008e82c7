use Rattle.std.proofs.Common.{◌≡◌, ◌<◌, ℕ, Bool, true, ◌&&◌, List, length, get_or, Option, Some, arith, refl, sym, ap, subst, ◌∙◌}
use Rattle.std.specs.Option.{IfSome}
use Rattle.std.specs.Prelude.{is_some}
use Rattle.std.proofs.lemmas.Bool.{and_from, eq-eqb}
use Rattle.std.proofs.lemmas.Option.{slice_get_read}
use Rattle.bit_rows.specs.Tables.{has_at}
use Rattle.graph_base.specs.Graphs.{PlainGraph, IsGraph}
use Rattle.graph_base.specs.declared.graph.Node.{Node}
use Rattle.graph_base.proofs.Least.{least_exists}
use Rattle.graph_base.proofs.NodesRead.{place_of-node}
use Rattle.net_base.specs.declared.loc.LocSet.{LocSet}
use Rattle.relation_law.proofs.Chains.{refutes_by_chains}
use Rattle.relation_law.specs.Relations.{Pair}
use Rattle.relation_law.specs.Rounds.{same_place}
use Rattle.relation_law.specs.Views.{view_of}
use Rattle.relation_refute.specs.declared.chains.Line.{Line}
use Rattle.relation_refute.specs.declared.falls.Fallen.{Fallen}
use Rattle.relation_refute.specs.Cells.{are_parted}
use Rattle.relation_refute.specs.Lines.{AreLinesOf}
use Rattle.state_simulation.specs.Looked.{shown}
use Rattle.list_law.specs.Members.{IsIn}
use Rattle.relation_refute.proofs.Assembling.{all_found, gathered_all, gathered_each, pair_found, someone_parted, went_found}
use Rattle.relation_refute.proofs.Chaining.{exact}
use Rattle.relation_refute.proofs.refuting.told.Goals as goal

-- the first node has one at its location from which it is parted
parted_first : (g : PlainGraph) (p : ℕ → ℕ → Bool) (first : ℕ) (o : Option ℕ) → o ≡ Some first
    → IfSome o (λ f. (f < length g.nodes) × ((m : ℕ) × Pair (shown g) m f × (p m f ≡ true)))
    → (first < length g.nodes) × ((m : ℕ) × Pair (shown g) m first × (p m first ≡ true))
parted_first g p first o e h = subst (λ (o : Option ℕ). IfSome o (λ f. (f < length g.nodes) × ((m : ℕ) × Pair (shown g) m f × (p m f ≡ true)))) e h

pub unwrap-first-requires : goal.unwrap-first-requires
unwrap-first-requires c =
    let x = someone_parted c.args.maps.now.graph.now c.args.claimed.now c.args.fallen.now c.requires.fallen in
    ap is_some (c.first_parted.ensures.first x.0 x.1 x.2 x.3).1

pub least_parted-requires-clause-n : goal.least_parted-requires-clause-n
least_parted-requires-clause-n c =
    (parted_first c.args.maps.now.graph.now (are_parted c.args.fallen.now.cells) c.unwrap-first.result c.first_parted.result
    c.unwrap-first.ensures c.first_parted.ensures.some).0

pub unwrap-second-requires : goal.unwrap-second-requires
unwrap-second-requires c =
    let g : PlainGraph = c.args.maps.now.graph.now in
    let first : ℕ = c.unwrap-first.result in
    let p : ℕ → ℕ → Bool = are_parted c.args.fallen.now.cells in
    let some = parted_first g p first c.first_parted.result c.unwrap-first.ensures c.first_parted.ensures.some in
    let there = least_exists (length g.nodes) (λ m. same_place (shown g) m first && p m first) some.1.0 some.1.1.left (and_from _ _ (eq-eqb _ _ some.1.1.place) some.1.2) in
    ap is_some (c.least_parted.ensures ∙ there.1)

pub bounds-nodes-first : goal.bounds-nodes-first
bounds-nodes-first c =
    let some = parted_first c.args.maps.now.graph.now (are_parted c.args.fallen.now.cells) c.unwrap-first.result c.first_parted.result c.unwrap-first.ensures c.first_parted.ensures.some in
    let inside = some.0 in
    let same = ap length (c.nodes-nodes.ensures.nodes ∙ ap (λ (z : PlainGraph). z.nodes) c.graph.ensures) in
    omega (arith, inside, same)

pub add_chain-requires-clause-graph : goal.add_chain-requires-clause-graph
add_chain-requires-clause-graph c = subst IsGraph c.graph.ensures c.nodes-nodes.ensures.rules

pub add_chain-requires-clause-pair : goal.add_chain-requires-clause-pair
add_chain-requires-clause-pair c =
    let g : PlainGraph = c.args.maps.now.graph.now in
    pair_found g c.args.claimed.now (subst IsGraph c.graph.ensures c.nodes-nodes.ensures.rules)
    c.requires.single c.args.fallen.now c.requires.fallen
    c.unwrap-first.result c.unwrap-second.result c.first_parted.result c.least_parted.result c.unwrap-first.ensures c.unwrap-second.ensures
    c.first_parted.ensures.some c.first_parted.ensures.first c.least_parted.ensures

pub add_chain-requires-clause-went : goal.add_chain-requires-clause-went
add_chain-requires-clause-went c =
    let g : PlainGraph = c.args.maps.now.graph.now in
    (went_found g c.args.claimed.now (subst IsGraph c.graph.ensures c.nodes-nodes.ensures.rules)
    c.requires.single c.args.fallen.now c.requires.fallen
    c.unwrap-first.result c.unwrap-second.result c.first_parted.result c.least_parted.result c.unwrap-first.ensures c.unwrap-second.ensures
    c.first_parted.ensures.some c.first_parted.ensures.first c.least_parted.ensures).0

pub add_chain-requires-2-clause-graph : goal.add_chain-requires-2-clause-graph
add_chain-requires-2-clause-graph c = subst IsGraph c.graph.ensures c.nodes-nodes.ensures.rules

pub add_chain-requires-2-clause-pair : goal.add_chain-requires-2-clause-pair
add_chain-requires-2-clause-pair c =
    let g : PlainGraph = c.args.maps.now.graph.now in
    let pair = pair_found g c.args.claimed.now (subst IsGraph c.graph.ensures c.nodes-nodes.ensures.rules)
    c.requires.single c.args.fallen.now c.requires.fallen
    c.unwrap-first.result c.unwrap-second.result c.first_parted.result c.least_parted.result c.unwrap-first.ensures c.unwrap-second.ensures
    c.first_parted.ensures.some c.first_parted.ensures.first c.least_parted.ensures in
    record { left = pair.right; right = pair.left; place = sym pair.place }

pub add_chain-requires-2-clause-went : goal.add_chain-requires-2-clause-went
add_chain-requires-2-clause-went c =
    let g : PlainGraph = c.args.maps.now.graph.now in
    (went_found g c.args.claimed.now (subst IsGraph c.graph.ensures c.nodes-nodes.ensures.rules)
    c.requires.single c.args.fallen.now c.requires.fallen
    c.unwrap-first.result c.unwrap-second.result c.first_parted.result c.least_parted.result c.unwrap-first.ensures c.unwrap-second.ensures
    c.first_parted.ensures.some c.first_parted.ensures.first c.least_parted.ensures).1

pub reasoned-requires-clause-graph : goal.reasoned-requires-clause-graph
reasoned-requires-clause-graph c = subst IsGraph c.graph.ensures c.nodes-nodes.ensures.rules

pub reasoned-requires-clause-lines : goal.reasoned-requires-clause-lines
reasoned-requires-clause-lines c = λ l is.
    let g : PlainGraph = c.args.maps.now.graph.now in
    let here = subst (λ (ls : List Line). IsIn ls l) c.deref.ensures.value is in
    (gathered_each g c.args.claimed.now c.args.fallen.now c.unwrap-first.result c.unwrap-second.result c.new-lines.result.items
    c.add_chain.new.lines.items c.add_chain-2.new.lines.items c.settle_lines.new.lines.items c.new-lines.ensures.items
    c.settle_lines.ensures.same c.in_ok-add_chain-2.ensures.kept c.in_ok-add_chain.ensures.each c.in_ok-add_chain-2.ensures.each l here).0

pub returns-clause-chosen : goal.returns-clause-chosen
returns-clause-chosen c =
    let g : PlainGraph = c.args.maps.now.graph.now in
    let claimed : LocSet = c.args.claimed.now in
    let f : Fallen = c.args.fallen.now in
    let first : ℕ = c.unwrap-first.result in
    let second : ℕ = c.unwrap-second.result in
    let ok : IsGraph g = subst IsGraph c.graph.ensures c.nodes-nodes.ensures.rules in
    let lines : List Line = c.settle_lines.new.lines.items in
    let of = subst (λ (ls : List Line). AreLinesOf (view_of g claimed) (has_at f.onwards) ls c.in_ok-lines.lines) c.deref.ensures.value c.in_ok-lines.ensures in
    let each = gathered_each g claimed f first second c.new-lines.result.items c.add_chain.new.lines.items c.add_chain-2.new.lines.items lines
    c.new-lines.ensures.items c.settle_lines.ensures.same c.in_ok-add_chain-2.ensures.kept c.in_ok-add_chain.ensures.each
    c.in_ok-add_chain-2.ensures.each in
    let all = gathered_all g claimed f first second c.new-lines.result.items c.add_chain.new.lines.items c.add_chain-2.new.lines.items lines
    c.new-lines.ensures.items c.settle_lines.ensures.same c.in_ok-add_chain-2.ensures.kept c.in_ok-add_chain.ensures.all
    c.in_ok-add_chain-2.ensures.all in
    let chosen = all_found g claimed ok c.requires.single f c.requires.fallen first second c.first_parted.result c.least_parted.result
    c.unwrap-first.ensures c.unwrap-second.ensures c.first_parted.ensures.some c.first_parted.ensures.first c.least_parted.ensures lines
    c.in_ok-lines.lines c.settle_lines.ensures.order of each all in
    let inside = (parted_first g (are_parted f.cells) first c.first_parted.result c.unwrap-first.ensures c.first_parted.ensures.some).0 in
    let nodes : c.nodes-nodes.result.now ≡ g.nodes = c.nodes-nodes.ensures.nodes ∙ ap (λ (z : PlainGraph). z.nodes) c.graph.ensures in
    let at = slice_get_read g.nodes (length g.nodes) first c.index-nodes-first.result refl inside
    (c.index-nodes-first.is ∙ ap (λ ns. get_or ns first c.index-nodes-first.result) nodes) in
    let read : (get_or c.nodes-nodes.result.now first c.index-nodes-first.result).loc ≡ c.index-nodes-first.result.loc = ap (λ (z : Node). z.loc) (sym c.index-nodes-first.is) in
    record {
      reach = has_at f.onwards;
      exact = exact g claimed ok c.requires.single f c.requires.fallen;
      chosen = chosen;
      place = read ∙ sym (place_of-node g first c.index-nodes-first.result at);
    }

pub returns-clause-refutes : goal.returns-clause-refutes
returns-clause-refutes c =
    (let r = returns-clause-chosen c in
    refutes_by_chains c.args.maps.now.graph.now c.args.claimed.now (subst IsGraph c.graph.ensures c.nodes-nodes.ensures.rules) r.reach r.exact c.unwrap-first.result
    c.unwrap-second.result c.in_ok-lines.lines r.chosen)
