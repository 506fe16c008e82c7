-- The step rule and the loop rule at every location: at an origin there is one node.
use Rattle.std.proofs.Common.{◌≡◌, ℕ, ◌<◌, ◌≤◌, Bool, true, false, ◌||◌, List, [], ◌∷◌, ◌++◌, inl, inr, Some, refl, sym, ap, ◌∙◌, subst, arith}
use Rattle.std.proofs.lemmas.Bool.{false≢true}
use Rattle.list_law.proofs.Options.{option_and_then_parts}
use Rattle.routing_law.specs.Graph.{AtLeast, Graph, MeetsRules, Reaches, WellFormed, follow}
use Rattle.routing_law.specs.Network.{Network}
use Rattle.routing_law.proofs.Runs.{follow_last, follow_origin}

pub record Everywhere (net : Network) (g : Graph) : Type 0 where
  pub step : (m n z n' : ℕ) → AtLeast g m n → net.router z ≡ true → g.next n z ≡ Some n' → (m' : ℕ) × (g.next m z ≡ Some m') × (g.number n' ≤ g.number m')
  pub loop : (m n z n' k : ℕ) → AtLeast g m n → net.router z ≡ true → g.next n z ≡ Some n' → k < g.nodes → g.place k ≡ z → Reaches g k m → g.number n' ≤ g.number k

module _ (net : Network) (g : Graph) (wf : WellFormed net g) (rules : MeetsRules net g) where
  -- of a step from elsewhere than a router
  at_origin : (n z n' : ℕ) → g.next n z ≡ Some n' → net.router (g.place n) ≡ false → net.origin (g.place n) ≡ true
  at_origin n z n' h ro = by (net.origin (g.place n)) (wf.next_from n z n' h)
    where
      by : (b : Bool) → (b || net.router (g.place n)) ≡ true → b ≡ true
      by true e = refl
      by false e = absurd (false≢true (sym ro ∙ e))

  only_one : (m n : ℕ) → AtLeast g m n → net.origin (g.place n) ≡ true → m ≡ n
  only_one m n al o =
      let a = wf.origin_start n al.other o in
      let b = wf.origin_start m al.known (ap net.origin al.place ∙ o) in
      cc (a, b, ap g.start al.place)

  pub everywhere : Everywhere net g
  everywhere = record {
    step = λ m n z n' al rz h. step m n z n' al rz h (net.router (g.place n)) refl;
    loop = λ m n z n' k al rz h kb at c. loop m n z n' k al rz h kb at c (net.router (g.place n)) refl;
  }
    where
      step : (m n z n' : ℕ) → AtLeast g m n → net.router z ≡ true → g.next n z ≡ Some n' → (b : Bool) → net.router (g.place n) ≡ b → (m' : ℕ) × (g.next m z ≡ Some m') × (g.number n' ≤ g.number m')
      step m n z n' al rz h true ro = rules.step m n z n' ro al rz h
      step m n z n' al rz h false ro =
          let same = only_one m n al (at_origin n z n' h ro) in
          (n', ap (λ k. g.next k z) same ∙ h, omega arith)

      loop : (m n z n' k : ℕ) → AtLeast g m n → net.router z ≡ true → g.next n z ≡ Some n' → k < g.nodes → g.place k ≡ z → Reaches g k m → (b : Bool)
          → net.router (g.place n) ≡ b → g.number n' ≤ g.number k
      loop m n z n' k al rz h kb at c true ro = rules.loop m n z n' k ro al rz h kb at c
      loop m n z n' k al rz h kb at c false ro =
          let o = at_origin n z n' h ro in
          let km = follow_origin wf c.0 k m c.1 (ap net.origin al.place ∙ o) in
          let z_origin : net.origin z ≡ true = ap net.origin (sym at ∙ ap g.place km ∙ al.place) ∙ o in
          absurd (false≢true (sym (wf.next_origin n z n' h) ∙ z_origin))

-- along a way of routers the better node goes on as the worse one does
abbrev pub AllRouters : Network → List ℕ → Type 0
AllRouters net [] = Unit {0}
AllRouters net (z ∷ zs) = (net.router z ≡ true) × AllRouters net zs

pub all_more : (net : Network) (zs : List ℕ) (u : ℕ) → AllRouters net zs → net.router u ≡ true → AllRouters net (zs ++ u ∷ [])
all_more net [] u a h = (h, tt)
all_more net (z ∷ zs) u a h = (a.0, all_more net zs u a.1 h)

pub along : {net : Network} {g : Graph} → WellFormed net g → Everywhere net g → (zs : List ℕ) (m e n : ℕ) → AllRouters net zs → AtLeast g m e
    → follow g e zs ≡ Some n → (k : ℕ) × (follow g m zs ≡ Some k) × AtLeast g k n
along {net} {g} wf ev [] m e n a al h = let en : e ≡ n = cc in (m, refl, subst (AtLeast g m) en al)
along {net} {g} wf ev (z ∷ zs) m e n a al h =
    let b = option_and_then_parts (λ j. follow g j zs) (g.next e z) n h in
    let c = ev.step m e z b.0 al a.0 b.1 in
    let here : AtLeast g c.0 b.0 = record {
      known = (wf.next_below m z c.0 c.1).2;
      other = (wf.next_below e z b.0 b.1).2;
      place = wf.next_place m z c.0 c.1 ∙ sym (wf.next_place e z b.0 b.1);
      number = c.2;
    } in
    let d = along wf ev zs c.0 b.0 n a.1 here b.2 in
    (d.0, rw c.1 d.1, d.2)

-- No growth: a node that reaches a node at its own router is no worse.
pub no_growth : {net : Network} {g : Graph} → WellFormed net g → Everywhere net g → (e m : ℕ) → e < g.nodes → g.place e ≡ g.place m
    → net.router (g.place m) ≡ true → Reaches g e m → g.number m ≤ g.number e
no_growth {net} {g} wf ev e m eb at ro way =
    elim (follow_last wf way.0 e m way.1) [
      | inl same ↦ let le : g.number e ≤ g.number e = omega arith in subst (λ k. g.number k ≤ g.number e) same le
      | inr l ↦
          let lb = (wf.next_below l.0 (g.place m) m l.2).0 in
          ev.loop l.0 l.0 (g.place m) m e (record { known = lb; other = lb; place = refl; number = omega arith }) ro l.2 eb at l.1
    ]
