-- Two outcomes with ties broken are one.
use Rattle.std.proofs.Common.{◌≡◌, ℕ, zero, suc, ◌<◌, ◌≤◌, true, inl, inr, length, Option, Some, None, refl, sym, ap, ◌∙◌, subst, arith}
use Rattle.std.proofs.lemmas.Bool.{or_right}
use Rattle.routing_law.specs.Graph.{WellFormed, run}
use Rattle.routing_law.specs.Laws.{GraphOutcomeIsUnique}
use Rattle.routing_law.specs.Network.{NamesDiffer, chooses, giver, survives}
use Rattle.routing_law.specs.Outcome.{FullyStable, NoLater, Route, Routes, Setup, Stable, heard}
use Rattle.routing_law.proofs.Heard.{chooses_from, chooses_parts, heard_parts}
use Rattle.routing_law.proofs.Highest.{over}
use Rattle.routing_law.proofs.Rules.{Everywhere, everywhere}
use Rattle.routing_law.proofs.Runs.{place_below}
use Rattle.routing_law.proofs.Sound.{Taken, backed, giver_is, heard_again, how, length_is, sound}

-- what r has in the other outcome too
abbrev AtMost : Routes → Routes → ℕ → Type 0
AtMost r s k = (v : ℕ) (x : Route) → length x.path ≤ k → r v ≡ Some x → s v ≡ Some x

size_of : (w : Setup) → WellFormed w.net w.graph → (r : Routes) → Stable w r → (v : ℕ) (x : Route) → r v ≡ Some x → v < w.net.size
size_of w wf r s v x h =
    let a = sound w r s v x h in
    place_below wf a.rest v x.node (subst (λ p. run w.graph p ≡ Some x.node) a.begins a.runs)

module _ (w : Setup) (differ : NamesDiffer w.net) (wf : WellFormed w.net w.graph) (ev : Everywhere w.net w.graph) where
  -- where one outcome has a route, the other has one with a number at least as high
  as_high : (r s : Routes) → Stable w r → Stable w s → (v : ℕ) (x : Route) → chooses w.net w.alive v ≡ true → r v ≡ Some x
      → (y : Route) × (s v ≡ Some y) × (w.graph.number x.node ≤ w.graph.number y.node)
  as_high r s sr ss v x c h =
      let a = sound w r sr v x h in
      let o = over w s wf ss ev a.rest v x.node (or_right (w.net.origin v) (w.net.router v) (chooses_parts w v c).0)
      (subst (λ p. run w.graph p ≡ Some x.node) a.begins a.runs) (subst (λ p. survives w.alive p ≡ true) a.begins a.lives) in
      (o.0, o.1, o.2.number)

  taken_step : (r s : Routes) → FullyStable w r → FullyStable w s → (k : ℕ) → AtMost r s k → AtMost s r k → (v : ℕ) (x : Route)
      → length x.path ≤ suc k → r v ≡ Some x → (t : Taken w r v x) → s v ≡ Some x
  taken_step r s fr fs k rs sr v x l h t =
      let xr = t.heard in
      let c = chooses_from w v t.router t.live (wf.next_origin xr.from.node v x.node xr.step) in
      let there = heard_again w r s v t.from x xr (rs t.from xr.from (omega (arith, length_is w r v t.from x xr)) xr.has) in
      let a = as_high r s fr.stable fs.stable v x c h in
      let b = as_high s r fs.stable fr.stable v a.0 c a.1 in
      let bx : b.0 ≡ x = cc (b.1, h) in
      let back : w.graph.number a.0.node ≤ w.graph.number x.node = subst (λ (q : Route). w.graph.number a.0.node ≤ w.graph.number q.node) bx b.2 in
      let same : w.graph.number x.node ≡ w.graph.number a.0.node = omega (arith, a.2) in
      let nl = fs.first v t.from a.0 x c a.1 there in
      let g = fs.stable.given v a.0 c a.1 in
      let ys = heard_parts w s v g.0 a.0 g.1 in
      let here = heard_again w s r v g.0 a.0 ys (sr g.0 ys.from (omega (arith, length_is w s v g.0 a.0 ys, nl.fewer same)) ys.has) in
      let on = fr.first v g.0 x a.0 c h here in
      let names : w.net.name t.from ≡ w.net.name g.0 = names_same t.from g.0 a.0 (giver_is w r (backed w r fr.stable) v t.from x xr) (giver_is w s (backed w s fs.stable) v g.0 a.0 ys) same nl on in
      a.1 ∙ sym g.1 ∙ ap (heard w s v) (sym (differ t.from g.0 (size_of w wf r fr.stable t.from xr.from xr.has) (size_of w wf s fs.stable g.0 ys.from ys.has) names)) ∙ there
    where
      names_same : (u u' : ℕ) (y : Route) → giver x.path ≡ u → giver y.path ≡ u' → w.graph.number x.node ≡ w.graph.number y.node → NoLater w y x → NoLater w x y → w.net.name u ≡ w.net.name u'
      names_same u u' y e f same nl on =
          let len : length x.path ≡ length y.path = omega (arith, nl.fewer same, on.fewer (sym same)) in
          let le = nl.lower same (sym len) in
          let ge = on.lower (sym same) len in
          subst (λ g. w.net.name g ≡ w.net.name u') e (subst (λ g. w.net.name (giver x.path) ≡ w.net.name g) f (omega (arith, le, ge)))

  agree : (r s : Routes) → FullyStable w r → FullyStable w s → (k : ℕ) → AtMost r s k
  agree r s fr fs zero v x l h =
      let a = sound w r fr.stable v x h in
      let e : length x.path ≡ suc (length a.rest) = ap length a.begins in
      absurd (omega arith)
  agree r s fr fs (suc k) v x l h =
      elim (how w r (backed w r fr.stable) v x h) [
        | inl o ↦ let g = wf.start_origin v x.node o.start in fs.stable.own v g ∙ sym (fr.stable.own v g) ∙ h
        | inr t ↦ taken_step r s fr fs k (agree r s fr fs k) (agree s r fs fr k) v x l h t
      ]

  the_same : (r s : Routes) → FullyStable w r → FullyStable w s → (v : ℕ) → r v ≡ s v
  the_same r s fr fs v = both (r v) (s v) refl refl
    where
      both : (a b : Option Route) → r v ≡ a → s v ≡ b → a ≡ b
      both None None e f = refl
      both (Some x) b e f = sym (agree r s fr fs (length x.path) v x (omega arith) e) ∙ f
      both None (Some y) e f = sym e ∙ agree s r fs fr (length y.path) v y (omega arith) f

pub unique : GraphOutcomeIsUnique
unique w r s differ wf rules fr fs v = the_same w differ wf (everywhere w.net w.graph wf rules) r s fr fs v
