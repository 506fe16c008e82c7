-- What a cut leaves of what failures leave is what both leave.
use Rattle.std.proofs.Common.{◌≡◌, ℕ, ◌<◌, Bool, true, false, length, refl, sym, ap, ◌∙◌}
use Rattle.std.specs.Prelude.{◌&&◌, ◌||◌, not}
use Rattle.std.proofs.Math.Bool.{and_assoc, and_comm}
use Rattle.list_law.proofs.Each.{AllByRecursion-filter}
use Rattle.list_law.proofs.Changed.{filter-filter, filter_same}
use Rattle.net_base.specs.Network.{PlainNet, is_peer}
use Rattle.graph_base.specs.Graphs.{PlainGraph, IsGraph}
use Rattle.graph_base.specs.Runs.{place_of}
use Rattle.outcome_base.specs.Outcomes.{Failures, is_dead, is_live, is_silent}
use Rattle.scenarios.specs.Surviving.{carries}
use Rattle.impact_law.specs.Cuts.{is_cut, with_cut}
use Rattle.impact_law.specs.declared.impact.Cut.{Cut}
use Rattle.impact_law.specs.declared.impact.Cut.TheVariants.{Link, Router}
use Rattle.drain_report.proofs.Cutting.{cuts_off, dead_with, live_with}
use Rattle.settled_outcome.specs.Surviving.{left_under}
use Rattle.whatif_report.specs.Opened.{without_cut}
use Rattle.whatif_report.specs.Shifting.{over_link}
use Rattle.whatif_report.proofs.Touching.{as_silent}

over_is : (cut : Cut) (a b : ℕ) → over_link cut a b ≡ cuts_off cut a b
over_is (Link x y) a b = refl
over_is (Router x) a b = refl

not_either : (a b : Bool) → (not b && not a) ≡ not (a || b)
not_either true b = and_comm (not b) false
not_either false b = and_comm (not b) true

lives_with : (cut : Cut) (f : Failures) (l : ℕ) → (not (is_dead f l) && not (is_cut cut l)) ≡ not (is_dead (with_cut cut f) l)
lives_with cut f l = not_either (is_cut cut l) (is_dead f l) ∙ ap not (sym (dead_with cut f l))

swap : (live quiet off : Bool) → ((live && quiet) && off) ≡ ((live && off) && quiet)
swap live quiet off = and_assoc live quiet off ∙ ap (λ o. live && o) (and_comm quiet off) ∙ sym (and_assoc live off quiet)

carries_with : (net : PlainNet) (cut : Cut) (f : Failures) (a b : ℕ) → (carries net f a b && not (over_link cut a b)) ≡ carries net (with_cut cut f) a b
carries_with net cut f a b =
    swap (is_live net f a b) (not (is_peer net a && is_silent f b a)) (not (over_link cut a b))
    ∙ ap (λ o. (is_live net f a b && not o) && not (is_peer net a && is_silent f b a)) (over_is cut a b)
    ∙ ap (λ o. o && not (is_peer net a && is_silent f b a)) (sym (live_with net cut f a b))
    ∙ ap (λ o. is_live net (with_cut cut f) a b && not (is_peer net a && o)) (as_silent cut f b a)

pub open_with : (net : PlainNet) (cut : Cut) (f : Failures) (g : PlainGraph) → without_cut cut (left_under net f g) ≡ left_under net (with_cut cut f) g
open_with net cut f g =
    let starts =
    filter-filter (λ n. not (is_cut cut (place_of g n))) (λ n. not (is_dead f (place_of g n))) g.starts
    ∙ filter_same (λ n. not (is_dead f (place_of g n)) && not (is_cut cut (place_of g n))) (λ n. not (is_dead (with_cut cut f) (place_of g n))) g.starts (λ n at. lives_with cut f (place_of g n)) in
    let steps =
    filter-filter (λ (e : ℕ × ℕ). not (over_link cut (place_of g e.0) (place_of g e.1))) (λ (e : ℕ × ℕ). carries net f (place_of g e.0) (place_of g e.1)) g.steps
    ∙ filter_same (λ (e : ℕ × ℕ). carries net f (place_of g e.0) (place_of g e.1) && not (over_link cut (place_of g e.0) (place_of g e.1)))
    (λ (e : ℕ × ℕ). carries net (with_cut cut f) (place_of g e.0) (place_of g e.1)) g.steps (λ e at. carries_with net cut f (place_of g e.0) (place_of g e.1)) in
    λ i. record { nodes = g.nodes; starts = starts i; steps = steps i }

-- and it is a graph
pub without_is_graph : (cut : Cut) (g : PlainGraph) → IsGraph g → IsGraph (without_cut cut g)
without_is_graph cut g rules = record {
  count = rules.count;
  starts = AllByRecursion-filter (λ n. n < length g.nodes) (λ n. not (is_cut cut (place_of g n))) g.starts rules.starts;
  steps = AllByRecursion-filter (λ (e : ℕ × ℕ). (e.0 < length g.nodes) × (e.1 < length g.nodes)) (λ (e : ℕ × ℕ). not (over_link cut (place_of g e.0) (place_of g e.1))) g.steps rules.steps;
}
