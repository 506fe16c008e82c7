-- Best ranks follow from the greatest numbers.
use Rattle.std.proofs.Common.{◌≡◌, ℕ, Bool, true, false, ◌⊎◌, inl, inr, ◌∷◌, Some, refl, sym, ap, ◌∙◌, subst}
use Rattle.std.specs.Option.{option_and_then}
use Rattle.std.proofs.lemmas.Bool.{or_right, false≢true}
use Rattle.routing_law.specs.Graph.{WellFormed, run}
use Rattle.routing_law.specs.Laws.{OfferIsBest, RankIsBest}
use Rattle.routing_law.specs.Network.{stands_on}
use Rattle.routing_law.specs.Outcome.{Route, Routes, Setup, Stable}
use Rattle.routing_law.proofs.Highest.{over}
use Rattle.routing_law.proofs.Rules.{everywhere}
use Rattle.routing_law.proofs.Runs.{run_more, run_place, stands_split}
use Rattle.routing_law.proofs.Sound.{Origin, Taken, backed, how, sound}

pub best_rank : RankIsBest
best_rank w k r wf rules ranked s v rest i ro so h l =
    let a = ranked.has_run (v ∷ rest) i h in
    let o = over w r wf s (everywhere w.net w.graph wf rules) rest v a.0 (or_right (w.net.origin v) (w.net.router v) ro) a.1 l in
    let at = run_place wf v rest a.0 a.1 in
    let rank : k.of_node a.0 ≡ Some i = ranked.same_rank v rest a.0 so a.1 ∙ h in
    let b = ranked.ranks o.0.node a.0 i (ap w.net.router at ∙ ro) (ap k.source at ∙ so) o.2 rank in
    let d = sound w r s v o.0 o.1 in
    let runs' : run w.graph (v ∷ d.rest) ≡ Some o.0.node = subst (λ p. run w.graph p ≡ Some o.0.node) d.begins d.runs in
    (o.0, b.0, o.1, ap k.of_path d.begins ∙ sym (ranked.same_rank v d.rest o.0.node so runs') ∙ b.1, b.2)

-- a peer that is no origin has no route
no_route : (w : Setup) (r : Routes) → WellFormed w.net w.graph → Stable w r → (p : ℕ) (x : Route) → w.net.router p ≡ false → w.net.origin p ≡ false → r p ≡ Some x → ⊥
no_route w r wf s p x ro o h = by (how w r (backed w r s) p x h)
  where
    by : Origin w p x ⊎ Taken w r p x → ⊥
    by (inl a) = false≢true (sym o ∙ wf.start_origin p x.node a.start)
    by (inr a) = false≢true (sym ro ∙ a.router)

pub best_offer : OfferIsBest
best_offer w k r wf rules ranked s u p rest i ru ro o so h l =
    let a = ranked.has_run (p ∷ u ∷ rest) i h in
    let b = run_more w.graph p u rest a.0 a.1 in
    let at : w.net.router (w.graph.place b.0) ≡ true = ap w.net.router (run_place wf u rest b.0 b.1) ∙ ru in
    let d = over w r wf s (everywhere w.net w.graph wf rules) rest u b.0 (or_right (w.net.origin u) (w.net.router u) ru) b.1 l in
    let rank : k.of_node a.0 ≡ Some i = ranked.same_rank p (u ∷ rest) a.0 so a.1 ∙ h in
    let e = ranked.listeners d.0.node b.0 p a.0 i at d.2 ro b.2 rank in
    let g = sound w r s u d.0 d.1 in
    let runs' : run w.graph (p ∷ u ∷ g.rest) ≡ Some e.0 = ap (option_and_then (λ n. w.graph.next n p)) (subst (λ q. run w.graph q ≡ Some d.0.node) g.begins g.runs) ∙ e.2 in
    (d.0, e.0, e.1, d.1, e.2, off d.0 d.1 (stands_on p d.0.path) refl, ap (λ q. k.of_path (p ∷ q)) g.begins ∙ sym (ranked.same_rank p (u ∷ g.rest) e.0 so runs') ∙ e.3, e.4)
  where
    off : (x : Route) → r u ≡ Some x → (b : Bool) → stands_on p x.path ≡ b → stands_on p x.path ≡ false
    off x h false e = e
    off x h true e =
        let a = stands_split p x.path e in
        let b = (sound w r s u x h).suffixes a.0 a.1 p a.2 in
        absurd (no_route w r wf s p (record { path = p ∷ a.1; node = b.0 }) ro o b.1)
