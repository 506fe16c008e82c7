use Rattle.std.proofs.Common.{◌<◌, ℕ, List, length, Option, arith, refl, sym, ap, subst, ◌∙◌}
use Rattle.std.specs.Option.{option_map_or}
use Rattle.std.proofs.lemmas.Bool.{ltb-true}
use Rattle.graph_base.specs.Graphs.{PlainGraph}
use Rattle.graph_base.specs.Runs.{place_of}
use Rattle.net_base.specs.declared.loc.LocSet.{LocSet}
use Rattle.relation_law.specs.Views.{view_of}
use Rattle.relation_refute.specs.declared.chains.Line.{Line}
use Rattle.relation_refute.specs.declared.falls.Fallen.{Fallen}
use Rattle.relation_refute.specs.declared.faults.Fault.{Fault}
use Rattle.relation_refute.specs.Cells.{round_in}
use Rattle.relation_refute.specs.Faults.{RestsOn}
use Rattle.relation_refute.specs.Lines.{IsLineOf}
use Rattle.state_simulation.specs.Looked.{shown}
use Rattle.relation_refute.proofs.Chaining.{fails_told, goes_there}
use Rattle.relation_refute.proofs.Linking.{IsLinked, chain_falls, falls_to, linked_all, linked_first, linked_more}
use Rattle.relation_refute.proofs.chains.add_chain.Goals as goal

pub chain-init : goal.chain-init
chain-init c =
    linked_first c.args.maps.now.graph.now c.args.claimed.now c.requires.graph c.requires.single c.args.fallen.now c.requires.fallen c.args.m c.args.n
    c.args.lines.now.items c.requires.pair (ltb-true _ _ c.requires.went)

pub round-round-requires-clause-m : goal.round-round-requires-clause-m
round-round-requires-clause-m c = let x = c.chain.invariant.onward (c.in-Some.better, c.in-Some.worse) c.in-Some.is in let left = x.0.left in omega (arith, left, c.requires.fallen.cells.spots)

pub round-round-requires-clause-n : goal.round-round-requires-clause-n
round-round-requires-clause-n c = let x = c.chain.invariant.onward (c.in-Some.better, c.in-Some.worse) c.in-Some.is in let right = x.0.right in omega (arith, right, c.requires.fallen.cells.bases)

pub round-round-requires-clause-cell : goal.round-round-requires-clause-cell
round-round-requires-clause-cell c =
    let x = c.chain.invariant.onward (c.in-Some.better, c.in-Some.worse) c.in-Some.is in
    c.requires.fallen.cells.within c.in-Some.better c.in-Some.worse (record { left = x.0.left; right = x.0.right; place = x.0.place })

pub location-requires : goal.location-requires
location-requires c =
    let x = c.chain.invariant.onward (c.in-Some.better, c.in-Some.worse) c.in-Some.is in
    let right = x.0.right in
    let same = ap (λ (z : PlainGraph). length z.nodes) c.graph.ensures in
    omega (arith, right, same)

pub fault_of-fault-requires-clause-m : goal.fault_of-fault-requires-clause-m
fault_of-fault-requires-clause-m c = (c.chain.invariant.onward (c.in-Some.better, c.in-Some.worse) c.in-Some.is).0.left

pub fault_of-fault-requires-clause-n : goal.fault_of-fault-requires-clause-n
fault_of-fault-requires-clause-n c = (c.chain.invariant.onward (c.in-Some.better, c.in-Some.worse) c.in-Some.is).0.right

pub fault_of-fault-requires-clause-fails : goal.fault_of-fault-requires-clause-fails
fault_of-fault-requires-clause-fails c =
    let x = c.chain.invariant.onward (c.in-Some.better, c.in-Some.worse) c.in-Some.is in
    let is = c.round-round.ensures in
    let over = x.1 in
    fails_told c.args.maps.now.graph.now c.args.claimed.now c.requires.graph c.requires.single c.args.fallen.now c.requires.fallen
    c.round-round.result c.in-Some.better c.in-Some.worse x.0 (omega (arith, is, over)) is

-- the reason for which the next pair goes, and on what it rests
module _ (g : PlainGraph) (claimed : LocSet) (f : Fallen) where
  rests_there : (m n : ℕ) (x : Fault) → RestsOn (shown g) m n x → RestsOn (view_of g claimed) m n x
  rests_there m n x h = record { some = h.some; none = h.none }

pub chain-smaller : goal.chain-smaller
chain-smaller c =
    let g : PlainGraph = c.args.maps.now.graph.now in
    let claimed : LocSet = c.args.claimed.now in
    let f : Fallen = c.args.fallen.now in
    let a : ℕ = c.in-Some.better in
    let b : ℕ = c.in-Some.worse in
    let x = c.chain.invariant.onward (a, b) c.in-Some.is in
    let is = c.round-round.ensures in
    let over = x.1 in
    let fault : Fault = c.fault_of-fault.result in
    let goes = goes_there g claimed c.requires.graph c.requires.single f c.requires.fallen c.round-round.result a b fault.why x.0 is over c.fault_of-fault.ensures.reason in
    let rests = rests_there g claimed f a b fault c.fault_of-fault.ensures.rests in
    subst (λ (o : Option (ℕ × ℕ)). option_map_or (λ (y : ℕ × ℕ). round_in f.cells y.0 y.1) fault.rests 0 < option_map_or (λ (y : ℕ × ℕ). round_in f.cells y.0 y.1) o 0) (sym c.in-Some.is)
    (chain_falls (round_in f.cells) fault.rests (round_in f.cells a b) over (λ y e. falls_to g claimed c.requires.graph c.requires.single f c.requires.fallen a b fault goes rests y e))

pub chain-preserved : goal.chain-preserved
chain-preserved c =
    let g : PlainGraph = c.args.maps.now.graph.now in
    let claimed : LocSet = c.args.claimed.now in
    let f : Fallen = c.args.fallen.now in
    let a : ℕ = c.in-Some.better in
    let b : ℕ = c.in-Some.worse in
    let old : List Line = c.args.lines.now.items in
    let now : List Line = c.chain.lines.items in
    let x = c.chain.invariant.onward (a, b) c.in-Some.is in
    let is = c.round-round.ensures in
    let over = x.1 in
    let fault : Fault = c.fault_of-fault.result in
    let goes = goes_there g claimed c.requires.graph c.requires.single f c.requires.fallen c.round-round.result a b fault.why x.0 is over c.fault_of-fault.ensures.reason in
    let rests = rests_there g claimed f a b fault c.fault_of-fault.ensures.rests in
    let line : Line = record { round = c.round-round.result; router = c.location.result; better = a; worse = b } in
    let line_is : IsLineOf g claimed f line = record { pair = x.0; went = omega (arith, is, over); round = is; router = c.location.ensures ∙ ap (λ z. place_of z b) c.graph.ensures } in
    let linked = subst (IsLinked g claimed f c.args.m c.args.n old now) c.in-Some.is c.chain.invariant in
    linked_more g claimed c.requires.graph c.requires.single f c.requires.fallen c.args.m c.args.n old now c.push.new.self.items a b linked line
    c.in_ok-push.ensures.items line_is refl refl fault goes rests

pub returns-clause-kept : goal.returns-clause-kept
returns-clause-kept c = c.chain.invariant.kept

pub returns-clause-each : goal.returns-clause-each
returns-clause-each c = c.chain.invariant.each

pub returns-clause-all : goal.returns-clause-all
returns-clause-all c =
    let linked = subst (IsLinked c.args.maps.now.graph.now c.args.claimed.now c.args.fallen.now c.args.m c.args.n c.args.lines.now.items c.chain.lines.items) c.in_default.is c.chain.invariant in
    linked_all c.args.maps.now.graph.now c.args.claimed.now c.args.fallen.now c.args.m c.args.n c.args.lines.now.items c.chain.lines.items linked
