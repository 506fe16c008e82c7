-- Rounds settle one router after the other, however ties are broken.
use Rattle.std.proofs.Common.{◌≡◌, ℕ, zero, suc, ◌+◌, ◌-◌, ◌*◌, ◌<◌, ◌≤◌, Bool, true, false, cond, ◌⊎◌, inl, inr, List, ◌∷◌, length, Option, Some, None, refl, sym, ap, ◌∙◌, subst, arith}
use Rattle.std.specs.Option.{is_some}
use Rattle.std.proofs.Math.Nat.{suc-mul, zero-mul}
use Rattle.std.proofs.lemmas.Bool.{false≢true}
use Rattle.routing_law.specs.Graph.{WellFormed, run}
use Rattle.routing_law.specs.Network.{chooses, loop_free}
use Rattle.routing_law.specs.Outcome.{Route, Routes, Setup, heard, own_route}
use Rattle.std.specs.Option.{option_and_then}
use Rattle.routing_law.specs.Outcome.{extended}
use Rattle.routing_law.proofs.Heard.{chooses_parts, heard_parts}
use Rattle.routing_law.proofs.Rules.{Everywhere, everywhere}
use Rattle.routing_law.proofs.Saturate.{count_below, count_bound, count_more}
use Rattle.rest_law.specs.Partial.{CanHold, IsOpen, PartlySettled, at_first, settled_with}
use Rattle.rest_law.proofs.Candidates.{nothing_is_left}
use Rattle.rest_law.proofs.Firm.{firm_at_first, with_at, with_cases, with_kept}
use Rattle.rest_law.proofs.Search.{search_below}
use Rattle.rest_law.proofs.Secure.{backed_of}
use Rattle.tie_law.specs.Ties.{IsNext, IsSize, Size}
use Rattle.rest_law.proofs.Cycle.{Offered, offer_known}
use Rattle.rest_law.proofs.Next.{Quiet, next_secure}
use Rattle.tie_law.proofs.Ties.{settlements_grow, ties_are_next}
use Rattle.steady_law.specs.Histories.{AreStill, AreTied, History, HoldsRuns, IsRound, IsSteady, IsToldOf, IsTop, TiesSettle, rounds_needed}
use Rattle.steady_law.proofs.Paths.{short}
use Rattle.steady_law.proofs.Takes.{Fits, FitsTo, HoldsTo, are_tied, given_some, open_take, tie_settled, ties_given, ties_of, whole_is_held}

module _ (w : Setup) (size : Size) (routers : ℕ) (below : (v : ℕ) → w.net.router v ≡ true → v < routers) (sized : IsSize w size) (wf : WellFormed w.net w.graph) (ev : Everywhere w.net w.graph) (h : History) (time : ℕ → ℕ) (runs : HoldsRuns w h (time 0))
    (grows : (k : ℕ) → time k ≤ time (suc k)) (rounds : (k : ℕ) → k ≤ rounds_needed routers → IsRound w size h (time k) (time (suc k)) × IsSteady w size h (time k) (time (suc k))) where
  later : (i d j : ℕ) → j ≡ i + d → time i ≤ time j
  later i zero j e = let same : i ≡ j = omega (arith, e) in subst (λ k. time i ≤ time k) same (omega arith)
  later i (suc d) j e =
      let same : suc (i + d) ≡ j = omega (arith, e) in
      subst (λ k. time i ≤ time k) same (omega (arith, later i d (i + d) refl, grows (i + d)))

  from_start : (j t : ℕ) → time j ≤ t → time 0 ≤ t
  from_start j t l = let first : j ≡ 0 + j = omega arith in omega (arith, l, later 0 j j first)

  -- from the j-th time on all that is settled is held
  abbrev SettledFrom : Routes → ℕ → Type 0
  SettledFrom r j = (t u : ℕ) (z : Route) → time j ≤ t → r u ≡ Some z → h t u ≡ Some z

  -- and what else is held can be held as far as k locations
  abbrev OthersFrom : Routes → ℕ → ℕ → Type 0
  OthersFrom r k j = (t u : ℕ) (z : Route) → time j ≤ t → r u ≡ None → h t u ≡ Some z → (rest : List ℕ) × (z.path ≡ u ∷ rest) × HoldsTo w r k (u ∷ rest) z.node

  -- what isn't settled and holds a route is a router that chooses
  holder_chooses : (r : Routes) → PartlySettled w r → (t u : ℕ) (z : Route) → time 0 ≤ t → r u ≡ None → h t u ≡ Some z → chooses w.net w.alive u ≡ true
  holder_chooses r ps t u z l none g = by (w.net.origin u) refl (chooses w.net w.alive u) refl
    where
      by : (a : Bool) → w.net.origin u ≡ a → (b : Bool) → chooses w.net w.alive u ≡ b → b ≡ true
      by true o b c = let clash : None ≡ Some z = sym none ∙ ps.own u o ∙ sym (runs.own t u l o) ∙ g in absurd (cc)
      by false o true c = refl
      by false o false c = let clash : None ≡ Some z = sym (runs.none t u l o c) ∙ g in absurd (cc)

  -- with each round by one location more
  deeper : (r : Routes) → PartlySettled w r → (j : ℕ) → SettledFrom r j → (k e : ℕ) → e ≡ j + k → e ≤ rounds_needed routers → OthersFrom r k e
  deeper r ps j settled zero e i l t u z late none g =
      let start = from_start e t late in
      let c = holder_chooses r ps t u z start none g in
      let a = runs.runs t u z start c g in
      (a.0, a.1, tt)
  deeper r ps j settled (suc k) e i l t u z late none g =
      let start = from_start e t late in
      let c = holder_chooses r ps t u z start none g in
      let before : e ≡ suc (j + k) = omega (arith, i) in
      let a = (rounds (j + k) (omega (arith, i, l))).0 t u (subst (λ n. time n ≤ t) before late) c in
      let others = deeper r ps j settled k (j + k) refl (omega (arith, i, l)) in
      let f : FitsTo w r k a.0 = record {
        settled = λ u z e. let b = a.1 u in b.2 ∙ settled b.0 u z (omega (arith, b.1, later j k (j + k) refl)) e;
        others = λ u z none e. let b = a.1 u in others b.0 u z b.1 none (sym b.2 ∙ e);
      } in
      let top : IsTop w size a.0 u (Some z) = subst (IsTop w size a.0 u) g a.2 in
      open_take w r a.0 k ps f u top.0 z (c, none) top.1.0

  -- after as many rounds as the longest path has places all the way
  whole : (r : Routes) → PartlySettled w r → (j : ℕ) → SettledFrom r j → (e : ℕ) → e ≡ j + suc routers → e ≤ rounds_needed routers
      → (t u : ℕ) (z : Route) → time e ≤ t → r u ≡ None → h t u ≡ Some z → (rest : List ℕ) × (z.path ≡ u ∷ rest) × CanHold w r (u ∷ rest) z.node
  whole r ps j settled e i l t u z late none g =
      let start = from_start e t late in
      let a = deeper r ps j settled (suc routers) e i l t u z late none g in
      let c = holder_chooses r ps t u z start none g in
      let b = runs.runs t u z start c g in
      let few : length (u ∷ b.0) ≤ suc routers = short wf routers below u b.0 z.node (chooses_parts w u c).0 (ap (run w.graph) (sym b.1) ∙ b.2) (ap loop_free (sym b.1) ∙ b.3) in
      let same : length (u ∷ b.0) ≡ length (u ∷ a.0) = ap length (sym b.1 ∙ a.1) in
      (a.0, a.1, whole_is_held w r (suc routers) u a.0 z.node (omega (arith, few, same)) a.2)

  -- so after one more the router that is next has settled, with one of the routes that tie
  module _ (r : Routes) (ps : PartlySettled w r) (j : ℕ) (settled : SettledFrom r j) (v : ℕ) (x : Route) (next : IsNext w size r v x)
      (i : ℕ) (at : i ≡ j + suc routers) (fits : suc i ≤ rounds_needed routers) where
    round : IsRound w size h (time i) (time (suc i))
    round = (rounds i (omega (arith, fits))).0

    from_j : time j ≤ time i
    from_j = later j (suc routers) i at

    fit : (o : Routes) → IsToldOf h (time i) o → Fits w r o
    fit o told = record {
      settled = λ u z e. let b = told u in b.2 ∙ settled b.0 u z (omega (arith, b.1, from_j)) e;
      others = λ u z none e. let b = told u in whole r ps j settled i at (omega (arith, fits)) b.0 u z b.1 none (sym b.2 ∙ e);
    }

    tied : AreTied w size h (time i) v (ties_of w size r v x next)
    tied o told u = are_tied w size r v x next o (fit o told) u

    still : AreStill h (time i) (ties_of w size r v x next)
    still u t s late =
        let a = ties_given w size r v x next u t in
        let b = heard_parts w r v u a.0 a.1 in
        settled s u b.from (omega (arith, late, from_j)) b.has ∙ sym (settled (time i) u b.from from_j b.has)

    stays : (t : ℕ) → time (suc i) ≤ t → h t v ≡ h (time (suc i)) v
    stays = (rounds i (omega (arith, fits))).1 v (ties_of w size r v x next) next.is_open.0 tied still

    record Settles : Type 0 where
      route : Route
      next_too : IsNext w size r v route
      from_now : SettledFrom (settled_with r v route) (suc i)

    one_settles : Settles
    one_settles = by (h (time (suc i)) v) refl
      where
        a : (o : Routes) × IsToldOf h (time i) o × IsTop w size o v (h (time (suc i)) v)
        a = round (time (suc i)) v (omega arith) next.is_open.0

        now : (m : Option Route) → h (time (suc i)) v ≡ m → IsTop w size a.0 v m
        now m e = subst (IsTop w size a.0 v) e a.2

        by : (m : Option Route) → h (time (suc i)) v ≡ m → Settles
        by None e = absurd (given_some w size r v x next a.0 (fit a.0 a.1) (now None e))
        by (Some y) e =
            let top = now (Some y) e in
            let b = tie_settled w size r v x next a.0 (fit a.0 a.1) top.0 y top.1 in
            let short : size y.path ≤ size x.path = (let s = b.2 in omega (arith, s)) in
            record {
              route = y;
              next_too = ties_are_next w size r v top.0 x y next b.0 b.1 short;
              from_now = λ t u z late g. kept t u z late (with_cases r v y u z g);
            }
          where
            kept : (t u : ℕ) (z : Route) → time (suc i) ≤ t → ((u ≡ v) × (y ≡ z)) ⊎ (r u ≡ Some z) → h t u ≡ Some z
            kept t u z late (inl c) = ap (h t) c.0 ∙ stays t late ∙ e ∙ ap Some c.1
            kept t u z late (inr c) = settled t u z (omega (arith, late, from_j, grows i)) c

  -- ---- one after the other

  abbrev Ended : Routes → Type 0
  Ended r = (v u : ℕ) (x : Route) → IsOpen w r v → heard w r v u ≡ Some x → ⊥

  ended_or_next : (r : Routes) → PartlySettled w r → Ended r ⊎ ((v : ℕ) × (x : Route) × IsNext w size r v x)
  ended_or_next r ps = by (search_below (Quiet w size sized wf r (backed_of w r ps)) (λ b. (v : ℕ) × (x : Route) × IsNext w size r v x) w.net.size (next_secure w size sized wf r (backed_of w r ps) ev))
    where
      by : ((b : ℕ) → b < w.net.size → Quiet w size sized wf r (backed_of w r ps) b) ⊎ ((b : ℕ) × (b < w.net.size) × ((v : ℕ) × (x : Route) × IsNext w size r v x))
          → Ended r ⊎ ((v : ℕ) × (x : Route) × IsNext w size r v x)
      by (inr a) = inr (a.2.0, a.2.1, a.2.2)
      by (inl quiet) = inl (λ v u x o g.
          let a : Offered w r v x = record { is_open = o; from = u; gives = g } in
          quiet v (offer_known w size wf ev r v x a).0 x a)

  abbrev marks : Routes → ℕ → Bool
  marks r v = is_some (r v)

  one_more : (r : Routes) (v : ℕ) (x : Route) → IsNext w size r v x → count_below (marks r) routers < count_below (marks (settled_with r v x)) routers
  one_more r v x next =
      count_more (marks r) (marks (settled_with r v x)) more routers v (below v (chooses_parts w v next.is_open.0).0) (ap is_some next.is_open.1) (ap is_some (with_at r v x))
    where
      more : (u : ℕ) → is_some (r u) ≡ true → is_some (settled_with r v x u) ≡ true
      more u g = by (r u) refl
        where
          by : (o : Option Route) → r u ≡ o → is_some (settled_with r v x u) ≡ true
          by None e = absurd (false≢true (sym (ap is_some e) ∙ g))
          by (Some y) e = ap is_some (with_kept r v x next.is_open.1 u y e)

  -- what is held for good, and from when on
  record End : Type 0 where
    routes : Routes
    when : ℕ
    early : when ≤ rounds_needed routers
    held : (t v : ℕ) → time when ≤ t → h t v ≡ routes v

  -- so it is where nobody holds anything but what is settled
  all_held : (r : Routes) (j i d : ℕ) → i ≡ j + d → i ≤ rounds_needed routers → SettledFrom r j → ((t u : ℕ) (z : Route) → time i ≤ t → r u ≡ None → h t u ≡ Some z → ⊥) → End
  all_held r j i d at early settled nobody = record { routes = r; when = i; early = early; held = λ t v late. by t v late (r v) refl (h t v) refl }
    where
      by : (t v : ℕ) → time i ≤ t → (a : Option Route) → r v ≡ a → (b : Option Route) → h t v ≡ b → h t v ≡ r v
      by t v late (Some x) e b f = settled t v x (omega (arith, late, later j d i at)) e ∙ sym e
      by t v late None e None f = f ∙ sym e
      by t v late None e (Some y) f = absurd (nobody t v y late e f)

  finish : (k : ℕ) (r : Routes) (j : ℕ) → PartlySettled w r → SettledFrom r j → routers ≤ count_below (marks r) routers + k → j + k * (routers + 2) ≤ rounds_needed routers → End
  finish zero r j ps settled few soon = all_held r j j 0 (omega arith) (let none = zero-mul (routers + 2) in omega (arith, soon, none)) settled nobody
    where
      nobody : (t u : ℕ) (z : Route) → time j ≤ t → r u ≡ None → h t u ≡ Some z → ⊥
      nobody t u z late none g =
          let router = (chooses_parts w u (holder_chooses r ps t u z (from_start j t late) none g)).0 in
          let more = count_more (marks r) (λ v. true) (λ v e. refl) routers u (below u router) (ap is_some none) refl in
          let all = count_bound (λ v. true) routers in
          omega (arith, few, more, all)
  finish (suc k) r j ps settled few soon = by (ended_or_next r ps) (finish k)
    where
      step : suc k * (routers + 2) ≡ k * (routers + 2) + (routers + 2)
      step = suc-mul k (routers + 2)

      i : ℕ
      i = j + suc routers

      within : suc i ≤ rounds_needed routers
      within = omega (arith, soon, step)

      by : Ended r ⊎ ((v : ℕ) × (x : Route) × IsNext w size r v x)
          → ((q : Routes) (i : ℕ) → PartlySettled w q → SettledFrom q i → routers ≤ count_below (marks q) routers + k → i + k * (routers + 2) ≤ rounds_needed routers → End) → End
      by (inl e) again =
          all_held r j i (suc routers) refl (omega (arith, within)) settled
          (λ t u z late none g. (let a = whole r ps j settled i refl (omega (arith, within)) t u z late none g in nothing_is_left w r ps e (u ∷ a.0) z.node a.2))
      by (inr n) again =
          let a = one_settles r ps j settled n.0 n.1 n.2 i refl within in
          again (settled_with r n.0 a.route) (suc i) (settlements_grow w size r n.0 a.route ps a.next_too) a.from_now
          (omega (arith, few, one_more r n.0 a.route a.next_too)) (omega (arith, soon, step))

  origins : SettledFrom (at_first w) zero
  origins t u z late g = by (w.net.origin u) refl g
    where
      by : (b : Bool) → w.net.origin u ≡ b → cond b (own_route w u) None ≡ Some z → h t u ≡ Some z
      by true o e = runs.own t u late o ∙ e
      by false o e = absurd (cc)

  end : End
  end = finish routers (at_first w) zero (firm_at_first w).partly origins (omega arith) (omega arith)

  all_settle : (t v : ℕ) → time (rounds_needed routers) ≤ t → h t v ≡ end.routes v
  all_settle t v late =
      let early = end.early in
      let d = rounds_needed routers - end.when in
      let i : rounds_needed routers ≡ end.when + d = omega (arith, early) in
      end.held t v (omega (arith, late, later end.when d (rounds_needed routers) i))

  heard_same : (o s : Routes) (v u : ℕ) → o u ≡ s u → heard w o v u ≡ heard w s v u
  heard_same o s v u e = ap (λ m. cond (w.alive.carries u v) (option_and_then (extended w v) m) None) e

  top_same : (o s : Routes) (v : ℕ) → ((u : ℕ) → o u ≡ s u) → (m : Option Route) → IsTop w size o v m → IsTop w size s v m
  top_same o s v e None top = λ u. sym (heard_same o s v u (e u)) ∙ top u
  top_same o s v e (Some y) top = (top.0, (sym (heard_same o s v top.0 (e top.0)) ∙ top.1.0, λ t z g. top.1.1 t z (heard_same o s v t (e t) ∙ g)))

  stable : (v : ℕ) → chooses w.net w.alive v ≡ true → IsTop w size end.routes v (end.routes v)
  stable v c =
      let n = rounds_needed routers in
      let a = (rounds n (omega arith)).0 (time (suc n)) v (omega arith) c in
      let same : (u : ℕ) → a.0 u ≡ end.routes u = λ u. (let b = a.1 u in b.2 ∙ all_settle b.0 u b.1) in
      subst (IsTop w size end.routes v) (all_settle (time (suc n)) v (grows n)) (top_same a.0 end.routes v same (h (time (suc n)) v) a.2)

  pub settle : (s : Routes) × ((t v : ℕ) → time (rounds_needed routers) ≤ t → h t v ≡ s v) × ((v : ℕ) → chooses w.net w.alive v ≡ true → IsTop w size s v (s v))
  settle = (end.routes, all_settle, stable)

pub ties_settle : TiesSettle
ties_settle w size routers below sized wf rules h time runs grows rounds = settle w size routers below sized wf (everywhere w.net w.graph wf rules) h time runs grows rounds
