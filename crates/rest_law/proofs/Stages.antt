-- The order in which routers settle.
use Rattle.std.proofs.Common.{◌≡◌, ℕ, zero, suc, ◌<◌, ◌≤◌, ◌⊎◌, inl, inr, ⊎_elim, refl, sym, ap, subst, arith}
use Rattle.std.proofs.lemmas.Bool.{cases_lt}
use Rattle.routing_law.specs.Graph.{MeetsRules, WellFormed}
use Rattle.routing_law.specs.Network.{NamesDiffer}
use Rattle.routing_law.specs.Outcome.{FullyStable, Route, Routes, Setup}
use Rattle.routing_law.proofs.Rules.{Everywhere, everywhere}
use Rattle.routing_law.proofs.Saturate.{count_below, count_bound}
use Rattle.routing_law.proofs.Unique.{unique}
use Rattle.rest_law.specs.SecureLaws.{RoutersSettleInOrder}
use Rattle.rest_law.specs.Partial.{FirmlySettled, IsSecure, SettlingOrder, at_first, settled_with}
use Rattle.rest_law.proofs.Firm.{Ended, ended_or_secure, firm_at_first, firm_at_last, firm_is_outcome, firm_on, one_more, settled_marks, with_at}

record Stage (w : Setup) : Type 0 where
  routes : Routes
  firm : FirmlySettled w routes

module _ (w : Setup) (wf : WellFormed w.net w.graph) (ev : Everywhere w.net w.graph) where
  abbrev Choice : Stage w → Type 0
  Choice s = Ended w wf ev s.routes ⊎ ((z : ℕ) × (y : Route) × IsSecure w s.routes z y)

  abbrev stepped : (s : Stage w) → Choice s → Stage w
  stepped s (inl e) = s
  stepped s (inr a) = record { routes = settled_with s.routes a.0 a.1; firm = firm_on w s.routes a.0 a.1 s.firm a.2 }

  stage : ℕ → Stage w
  stage zero = record { routes = at_first w; firm = firm_at_first w }
  stage (suc i) = stepped (stage i) (ended_or_secure w wf ev (stage i).routes (stage i).firm)

  abbrev Goes : Routes → Routes → Type 0
  Goes r q = (z : ℕ) × (y : Route) × IsSecure w r z y × (q ≡ settled_with r z y)

  -- at each stage all is settled, or a router settles
  ended_or_goes : (i : ℕ) → Ended w wf ev (stage i).routes ⊎ Goes (stage i).routes (stage (suc i)).routes
  unfolding stage
  ended_or_goes i = by (ended_or_secure w wf ev (stage i).routes (stage i).firm)
    where
      by : (c : Choice (stage i)) → Ended w wf ev (stage i).routes ⊎ Goes (stage i).routes (stepped (stage i) c).routes
      by (inl e) = inl e
      by (inr a) = inr (a.0, a.1, a.2, refl)

  -- the first stage at which all is
  first_end : (k : ℕ)
      → ((i : ℕ) → i < k → Goes (stage i).routes (stage (suc i)).routes) ⊎ ((c : ℕ) × (c < k) × ((i : ℕ) → i < c → Goes (stage i).routes (stage (suc i)).routes) × Ended w wf ev (stage c).routes)
  first_end zero = inl (λ i l. absurd (omega arith))
  first_end (suc k) = more (first_end k) (ended_or_goes k)
    where
      more : ((i : ℕ) → i < k → Goes (stage i).routes (stage (suc i)).routes) ⊎ ((c : ℕ) × (c < k) × ((i : ℕ) → i < c → Goes (stage i).routes (stage (suc i)).routes) × Ended w wf ev (stage c).routes)
          → Ended w wf ev (stage k).routes ⊎ Goes (stage k).routes (stage (suc k)).routes
          → ((i : ℕ) → i < suc k → Goes (stage i).routes (stage (suc i)).routes)
          ⊎ ((c : ℕ) × (c < suc k) × ((i : ℕ) → i < c → Goes (stage i).routes (stage (suc i)).routes) × Ended w wf ev (stage c).routes)
      more (inr a) b = inr (a.0, omega (arith, a.1), a.2, a.3)
      more (inl a) (inl e) = inr (k, omega arith, a, e)
      more (inl a) (inr g) = inl (λ i l. ⊎_elim (λ m. a i m) (λ m. let e : k ≡ i = omega arith in subst (λ j. Goes (stage j).routes (stage (suc j)).routes) e g) (cases_lt i k))

  -- so many are settled by then
  settled_by_then : (i : ℕ) → ((j : ℕ) → j < i → Goes (stage j).routes (stage (suc j)).routes) → i ≤ count_below (settled_marks w wf ev (stage i).routes) w.net.size
  settled_by_then zero goes = omega arith
  settled_by_then (suc i) goes =
      let g = goes i (omega arith) in
      let more = one_more w wf ev (stage i).routes g.0 g.1 g.2 in
      let now : count_below (settled_marks w wf ev (settled_with (stage i).routes g.0 g.1)) w.net.size ≡ count_below (settled_marks w wf ev (stage (suc i)).routes) w.net.size =
      ap (λ q. count_below (settled_marks w wf ev q) w.net.size) (sym g.3) in
      omega (arith, settled_by_then i (λ j l. goes j (omega (arith, l))), more, now)

module _ (w : Setup) (s : Routes) (differ : NamesDiffer w.net) (wf : WellFormed w.net w.graph) (rules : MeetsRules w.net w.graph) (fs : FullyStable w s) where
  abbrev ev : Everywhere w.net w.graph
  ev = everywhere w.net w.graph wf rules

  abbrev at : ℕ → Routes
  at i = (stage w wf ev i).routes

  order : ((i : ℕ) → i < suc (suc w.net.size) → Goes w wf ev (at i) (at (suc i))) ⊎ ((c : ℕ) × (c < suc (suc w.net.size)) × ((i : ℕ) → i < c → Goes w wf ev (at i) (at (suc i))) × Ended w wf ev (at c))
      → SettlingOrder w s
  unfolding stage
  order (inl all) =
      let many = settled_by_then w wf ev (suc w.net.size) (λ j l. all j (omega (arith, l))) in
      absurd (omega (arith, many, count_bound (settled_marks w wf ev (at (suc w.net.size))) w.net.size))
  order (inr a) = record {
    count = a.0;
    few = omega (arith, settled_by_then w wf ev a.0 a.2, count_bound (settled_marks w wf ev (at a.0)) w.net.size);
    stage = at;
    begins = refl;
    firm = λ i l. (stage w wf ev i).firm;
    next = λ i l.
        let g = a.2 i l in
        let on = firm_on w (at i) g.0 g.1 (stage w wf ev i).firm g.2 in
        (g.0, g.1, g.2, firm_is_outcome w (settled_with (at i) g.0 g.1) s differ wf rules on fs g.0 g.1 (with_at (at i) g.0 g.1), g.3);
    ends = unique w (at a.0) s differ wf rules (firm_at_last w (at a.0) (stage w wf ev a.0).firm a.3) fs;
  }

pub routers_settle_in_order : RoutersSettleInOrder
routers_settle_in_order w s differ wf rules fs = order w s differ wf rules fs (first_end w wf (everywhere w.net w.graph wf rules) (suc (suc w.net.size)))
