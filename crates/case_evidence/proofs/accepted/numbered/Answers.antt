use Rattle.std.proofs.Common.{◌↔◌, ℕ, Bool, true, ◌≡◌, refl, sym, subst}
use Rattle.graph_base.specs.Graphs.{PlainGraph}
use Rattle.graph_base.specs.Ranked.{IsRankedRouter}
use Rattle.graph_base.specs.Refuting.{HasSingleSteps, Refutes}
use Rattle.net_base.specs.declared.loc.LocSet.{LocSet}
use Rattle.net_base.specs.Sets.{holds}
use Rattle.relation_law.specs.Choosing.{IsRefutationOf}
use Rattle.relation_law.specs.Relations.{IsClosed, IsTotal}
use Rattle.relation_law.specs.Views.{view_of}
use Rattle.state_simulation.specs.declared.first.FirstRound.{FirstRound}
use Rattle.state_simulation.specs.declared.simulation.Search.{Search}
use Rattle.state_simulation.specs.declared.simulation.Search.TheVariants.{Partial}
use Rattle.state_simulation.specs.Found.{IfPartial, IfTotal, IsFirstRound}
use Rattle.state_simulation.specs.Held.{HasEach, IsRelationOf}
use Rattle.state_simulation.specs.Stages.{AreFirst}
use Rattle.case_evidence.proofs.Judged.{is_accepted, is_refused}
use Rattle.case_evidence.proofs.accepted.numbered.Goals as goal

-- the first round that is found
begun_at : (g : PlainGraph) (claimed : LocSet) (search : Search) (begun : FirstRound) → search ≡ Partial begun → IfPartial search (IsFirstRound g claimed) → IsFirstRound g claimed begun
begun_at g claimed search begun is first = subst (λ (z : Search). IfPartial z (IsFirstRound g claimed)) is first

pub refutation-requires-clause-first : goal.refutation-requires-clause-first
refutation-requires-clause-first c =
    let claimed = c.ranked_routers-claimed.result in
    let begun = c.in-Partial.begun in
    let first = begun_at c.args.given.graph claimed c.in_ok-search.search begun c.in-Partial.is c.in_ok-search.ensures.first in
    record { graph = refl; rounds = subst (λ (z : PlainGraph). AreFirst z claimed begun.rounds) (sym first.graph) first.rounds }

pub refutation-requires-clause-single : goal.refutation-requires-clause-single
refutation-requires-clause-single c =
    subst HasSingleSteps (sym (begun_at c.args.given.graph c.ranked_routers-claimed.result c.in_ok-search.search c.in-Partial.begun c.in-Partial.is c.in_ok-search.ensures.first).graph)
    c.requires

pub refutation-requires-clause-partial : goal.refutation-requires-clause-partial
refutation-requires-clause-partial c =
    let claimed = c.ranked_routers-claimed.result in
    let first = begun_at c.args.given.graph claimed c.in_ok-search.search c.in-Partial.begun c.in-Partial.is c.in_ok-search.ensures.first in
    subst (λ (z : PlainGraph). (s : ℕ → ℕ → Bool) → IsClosed (view_of z claimed) s → ¬ IsTotal (view_of z claimed) s) (sym first.graph)
    (subst (λ (z : Search). IfPartial z (λ first. (s : ℕ → ℕ → Bool) → IsClosed (view_of c.args.given.graph claimed) s → ¬ IsTotal (view_of c.args.given.graph claimed) s))
    c.in-Partial.is c.in_ok-search.ensures.partial)

pub returns-in_ok-refutation-in-Partial-clause-refused : goal.returns-in_ok-refutation-in-Partial-clause-refused
returns-in_ok-refutation-in-Partial-clause-refused c = λ room s case is.
    let g = c.args.given.graph in
    let claimed = c.ranked_routers-claimed.result in
    let r = c.in_ok-refutation-in-Partial.refutation in
    let first = begun_at g claimed c.in_ok-search.search c.in-Partial.begun c.in-Partial.is c.in_ok-search.ensures.first in
    is_refused c.args.net.now c.args.number room s case g c.args.given.used is claimed c.ranked_routers-claimed.ensures r
    (subst (λ (z : PlainGraph). IsRefutationOf z claimed r) first.graph c.in_ok-refutation-in-Partial.ensures.chosen)
    (subst (λ (z : PlainGraph). Refutes z (holds claimed) r.first r.second r.lines) first.graph c.in_ok-refutation-in-Partial.ensures.refutes)

pub returns-in_ok-prefs-in-Total-clause-accepted : goal.returns-in_ok-prefs-in-Total-clause-accepted
returns-in_ok-prefs-in-Total-clause-accepted c = λ room s case is.
    let net = c.args.net.now in
    let graph = c.args.given.graph in
    let found = c.in_ok-search.ensures in
    let relation = c.in-Total.relation in
    let of = subst (λ (z : Search). IfTotal z (IsRelationOf graph)) c.in-Total.is found.relation in
    let same : relation.claimed ≡ c.ranked_routers-claimed.result = subst (λ (z : Search). IfTotal z (λ r. r.claimed ≡ c.ranked_routers-claimed.result)) c.in-Total.is found.claimed in
    let claimed = subst (λ set. (l : ℕ) → (holds set l ≡ true) ↔ IsRankedRouter net graph l) (sym same) c.ranked_routers-claimed.ensures in
    let each = subst (λ (z : Search). IfTotal z HasEach) c.in-Total.is found.total in
    is_accepted net room s case (record { graph = graph; used = c.args.given.used; prefs = c.in_ok-prefs-in-Total.prefs }) is relation of claimed each
    c.in_ok-prefs-in-Total.ensures.size c.in_ok-prefs-in-Total.ensures.numbers c.in_ok-prefs-in-Total.ensures.rules
