-- What open routers can come to hold is found by a search, size by size.
use Rattle.std.proofs.Common.{◌≡◌, ℕ, zero, suc, ◌+◌, ◌<◌, ◌≤◌, Bool, true, false, ◌&&◌, ◌||◌, ◌⊎◌, inl, inr, ⊎_elim, List, [], ◌∷◌, ◌++◌, length, Option, Some, None}
use Rattle.std.proofs.Common.{eqb, refl, sym, ap, ◌∙◌, subst, arith, length-append}
use Rattle.std.specs.Prelude.{nat_lt, if◌then◌else◌}
use Rattle.std.specs.Option.{is_none, option_and_then}
use Rattle.std.proofs.lemmas.Bool.{and_from, and_parts, cases_Bool, cases_lt, cond-false, cond-true, ltb-false, ltb-true, eq-eqb, eqb-true, false≢true, false_from_ne_true, or_cases, or_left, or_right}
use Rattle.list_law.proofs.Options.{is_none_from, is_none_parts}
use Rattle.routing_law.specs.Graph.{WellFormed, follow, run}
use Rattle.routing_law.specs.Network.{chooses, stands_on}
use Rattle.routing_law.specs.Outcome.{Route, Routes, Setup}
use Rattle.routing_law.specs.Settling.{Marks, Within, any_below, is_node}
use Rattle.routing_law.proofs.Heard.{chooses_parts, heard_from}
use Rattle.routing_law.proofs.Reach.{any_at, any_from, is_node_true, is_node_from}
use Rattle.routing_law.proofs.Rules.{AllRouters, all_more}
use Rattle.routing_law.proofs.Runs.{follow_more, place_below, run_place, stands_split}
use Rattle.routing_law.proofs.Saturate.{comes_to_rest}
use Rattle.routing_law.proofs.Sound.{Backed, sound_of}
use Rattle.rest_law.specs.Partial.{CanHold, Detour, IsOpen}
use Rattle.rest_law.specs.Sizes.{IsSize, Size}
use Rattle.rest_law.proofs.Cycle.{Offered}

-- below a bound either all are of one kind, or one is of the other
pub search_below : (P Q : ℕ → Type 0) (bound : ℕ) → ((n : ℕ) → P n ⊎ Q n) → ((n : ℕ) → n < bound → P n) ⊎ ((n : ℕ) × (n < bound) × Q n)
search_below P Q zero h = inl (λ n l. absurd (omega arith))
search_below P Q (suc k) h = more (search_below P Q k h) (h k)
  where
    more : ((n : ℕ) → n < k → P n) ⊎ ((n : ℕ) × (n < k) × Q n) → P k ⊎ Q k → ((n : ℕ) → n < suc k → P n) ⊎ ((n : ℕ) × (n < suc k) × Q n)
    more (inr a) b = inr (a.0, omega (arith, a.1), a.2)
    more (inl a) (inr b) = inr (k, omega arith, b)
    more (inl a) (inl b) = inl (λ n l. ⊎_elim (λ m. a n m) (λ m. let e : k ≡ n = omega arith in subst P e b) (cases_lt n k))

-- a path's length is a size
pub in_length : (w : Setup) → IsSize w (λ p. length p)
in_length w = record { some = λ v p. omega arith; grows = λ v u p k. refl }

-- the larger of two
abbrev nat_max : ℕ → ℕ → ℕ
nat_max a b = if nat_lt a b then b else a

left_max : (a b : ℕ) → a ≤ nat_max a b
left_max a b = elim (cases_Bool (nat_lt a b)) [
  | inl t ↦ subst (λ i. a ≤ i) (sym (cond-true (nat_lt a b) b a t)) (let l = ltb-true a b t in omega (arith, l))
  | inr f ↦ subst (λ i. a ≤ i) (sym (cond-false (nat_lt a b) b a f)) (omega arith)
]

right_max : (a b : ℕ) → b ≤ nat_max a b
right_max a b = elim (cases_Bool (nat_lt a b)) [
  | inl t ↦ subst (λ i. b ≤ i) (sym (cond-true (nat_lt a b) b a t)) (omega arith)
  | inr f ↦ subst (λ i. b ≤ i) (sym (cond-false (nat_lt a b) b a f)) (let l = ltb-false a b f in omega (arith, l))
]

-- the greatest of the values below a bound
abbrev pub greatest : (ℕ → ℕ) → ℕ → ℕ
greatest f zero = 0
greatest f (suc k) = nat_max (f k) (greatest f k)

pub below_greatest : (f : ℕ → ℕ) (bound n : ℕ) → n < bound → f n ≤ greatest f bound
below_greatest f zero n l = absurd (omega (arith, l))
below_greatest f (suc k) n l = ⊎_elim (λ m. let h = below_greatest f k n m in let g = right_max (f k) (greatest f k) in omega (arith, h, g))
    (λ m. let e : k ≡ n = omega (arith, l, m) in let g = left_max (f k) (greatest f k) in subst (λ i. f i ≤ nat_max (f k) (greatest f k)) e g) (cases_lt n k)

abbrev is_open : Setup → Routes → ℕ → Bool
is_open w r v = chooses w.net w.alive v && is_none (r v)

-- the node m at u steps to n over a link that carries
abbrev step_to : Setup → ℕ → ℕ → ℕ → Bool
step_to w u m n = w.alive.carries u (w.graph.place n) && is_node (w.graph.next m (w.graph.place n)) n

-- a settled route at u of so many locations does
abbrev gives_node : Setup → Size → ℕ → ℕ → ℕ → Option Route → Bool
gives_node w len size n u None = false
gives_node w len size n u (Some y) = eqb (len (w.graph.place n ∷ y.path)) (suc size) && step_to w u y.node n

-- the nodes that open routers can come to hold with paths of so many locations
abbrev pub comes_with : Setup → Size → Routes → ℕ → Marks
comes_with w len r zero n = false
comes_with w len r (suc size) n =
    is_open w r (w.graph.place n)
    && (any_below (λ u. gives_node w len size n u (r u)) w.net.size || any_below (λ m. comes_with w len r size m && step_to w (w.graph.place m) m n) w.graph.nodes)

-- and by open neighbours, with one location more
abbrev pub comes_through : Setup → Size → Routes → ℕ → Marks
comes_through w len r size n = is_open w r (w.graph.place n) && any_below (λ m. comes_with w len r size m && step_to w (w.graph.place m) m n) w.graph.nodes

-- the way from an offer to a node, of at least some steps
pub record Arc (w : Setup) (len : Size) (r : Routes) (size n least : ℕ) : Type 0 where
  pub hub : ℕ
  pub offer : Route
  pub begins : Offered w r hub offer
  pub way : List ℕ
  pub routers : AllRouters w.net way
  pub runs : follow w.graph offer.node way ≡ Some n
  pub size_is : size ≡ length way + len offer.path
  pub hops : least ≤ length way

-- an open router stands on no settled path
pub off_path : (w : Setup) (r : Routes) → Backed w r → (v u : ℕ) (y : Route) → IsOpen w r v → r u ≡ Some y → stands_on v y.path ≡ false
off_path w r bk v u y o e = false_from_ne_true _ (λ on.
    let a = stands_split v y.path on in
    let c = (sound_of w r bk u y e).suffixes a.0 a.1 v a.2 in
    let f = sym o.1 ∙ c.1 in
    absurd (cc))

module _ (w : Setup) (len : Size) (sized : IsSize w len) (wf : WellFormed w.net w.graph) (r : Routes) (bk : Backed w r) where
  open_at : (v : ℕ) → is_open w r v ≡ true → IsOpen w r v
  open_at v h = let a = and_parts (chooses w.net w.alive v) (is_none (r v)) h in (a.0, is_none_parts (r v) a.1)

  open_from : (v : ℕ) → IsOpen w r v → is_open w r v ≡ true
  open_from v o = and_from (chooses w.net w.alive v) (is_none (r v)) o.0 (is_none_from (r v) o.1)

  step_parts : (u m n : ℕ) → step_to w u m n ≡ true → (w.alive.carries u (w.graph.place n) ≡ true) × (w.graph.next m (w.graph.place n) ≡ Some n)
  step_parts u m n h =
      let a = and_parts (w.alive.carries u (w.graph.place n)) (is_node (w.graph.next m (w.graph.place n)) n) h in
      (a.0, is_node_true (w.graph.next m (w.graph.place n)) n a.1)

  step_from : (u m n : ℕ) → w.alive.carries u (w.graph.place n) ≡ true → w.graph.next m (w.graph.place n) ≡ Some n → step_to w u m n ≡ true
  step_from u m n c h = and_from (w.alive.carries u (w.graph.place n)) (is_node (w.graph.next m (w.graph.place n)) n) c (is_node_from (w.graph.next m (w.graph.place n)) n h)

  weaker : (size n least : ℕ) → Arc w len r size n least → Arc w len r size n 0
  weaker size n least a = record { hub = a.hub; offer = a.offer; begins = a.begins; way = a.way; routers = a.routers; runs = a.runs; size_is = a.size_is; hops = omega arith }

  extended_arc : (size m n least : ℕ) → IsOpen w r (w.graph.place n) → step_to w (w.graph.place m) m n ≡ true → Arc w len r size m least → Arc w len r (suc size) n (suc least)
  extended_arc size m n least o st a =
      let v = w.graph.place n in
      let longer : length (a.way ++ v ∷ []) ≡ length a.way + 1 = length-append a.way (v ∷ []) in
      record {
        hub = a.hub;
        offer = a.offer;
        begins = a.begins;
        way = a.way ++ v ∷ [];
        routers = all_more w.net a.way v a.routers (chooses_parts w v o.0).0;
        runs = follow_more w.graph a.way a.offer.node m v n a.runs (step_parts (w.graph.place m) m n st).1;
        size_is = omega (arith, longer, a.size_is);
        hops = omega (arith, longer, a.hops);
      }

  offered_arc : (size n u : ℕ) → IsOpen w r (w.graph.place n) → (o : Option Route) → r u ≡ o → gives_node w len size n u o ≡ true → Arc w len r (suc size) n 0
  offered_arc size n u op None e h = absurd (false≢true h)
  offered_arc size n u op (Some y) e h =
      let v = w.graph.place n in
      let a = and_parts (eqb (len (w.graph.place n ∷ y.path)) (suc size)) (step_to w u y.node n) h in
      let b = step_parts u y.node n a.1 in
      let as_long = eqb-true (len (w.graph.place n ∷ y.path)) (suc size) a.0 in
      record {
        hub = v;
        offer = record { path = v ∷ y.path; node = n };
        begins = record { is_open = op; from = u; gives = heard_from w r v u y n e b.0 (off_path w r bk v u y op e) b.1 };
        way = [];
        routers = tt;
        runs = refl;
        size_is = omega (arith, as_long);
        hops = omega arith;
      }

  pub arc_with : (size n : ℕ) → comes_with w len r size n ≡ true → Arc w len r size n 0
  arc_with zero n h = absurd (false≢true h)
  arc_with (suc size) n h =
      let a =
      and_parts (is_open w r (w.graph.place n))
      (any_below (λ u. gives_node w len size n u (r u)) w.net.size || any_below (λ m. comes_with w len r size m && step_to w (w.graph.place m) m n) w.graph.nodes) h in
      by (open_at (w.graph.place n) a.0)
      (or_cases (any_below (λ u. gives_node w len size n u (r u)) w.net.size) (any_below (λ m. comes_with w len r size m && step_to w (w.graph.place m) m n) w.graph.nodes) a.1)
      (arc_with size)
    where
      by : IsOpen w r (w.graph.place n)
          → (any_below (λ u. gives_node w len size n u (r u)) w.net.size ≡ true) ⊎ (any_below (λ m. comes_with w len r size m && step_to w (w.graph.place m) m n) w.graph.nodes ≡ true)
          → ((m : ℕ) → comes_with w len r size m ≡ true → Arc w len r size m 0) → Arc w len r (suc size) n 0
      by o (inl e) again = let b = any_at (λ u. gives_node w len size n u (r u)) w.net.size e in offered_arc size n b.0 o (r b.0) refl b.2
      by o (inr e) again =
          let b = any_at (λ m. comes_with w len r size m && step_to w (w.graph.place m) m n) w.graph.nodes e in
          let c = and_parts (comes_with w len r size b.0) (step_to w (w.graph.place b.0) b.0 n) b.2 in
          weaker (suc size) n 1 (extended_arc size b.0 n 0 o c.1 (again b.0 c.0))

  pub arc_through : (size n : ℕ) → comes_through w len r size n ≡ true → Arc w len r (suc size) n 1
  arc_through size n h =
      let a = and_parts (is_open w r (w.graph.place n)) (any_below (λ m. comes_with w len r size m && step_to w (w.graph.place m) m n) w.graph.nodes) h in
      let b = any_at (λ m. comes_with w len r size m && step_to w (w.graph.place m) m n) w.graph.nodes a.1 in
      let c = and_parts (comes_with w len r size b.0) (step_to w (w.graph.place b.0) b.0 n) b.2 in
      extended_arc size b.0 n 0 (open_at (w.graph.place n) a.0) c.1 (arc_with size b.0 c.0)

  -- what can be held has a run
  pub held_runs : (p : List ℕ) (n : ℕ) → CanHold w r p n → run w.graph p ≡ Some n
  held_runs [] n h = absurd h
  held_runs (v ∷ []) n h = absurd h
  held_runs (v ∷ u ∷ p) n h = by h.2.2 (held_runs (u ∷ p) h.2.0)
    where
      by : (r u ≡ Some (record { path = u ∷ p; node = h.2.0 })) ⊎ CanHold w r (u ∷ p) h.2.0 → (CanHold w r (u ∷ p) h.2.0 → run w.graph (u ∷ p) ≡ Some h.2.0) → run w.graph (v ∷ u ∷ p) ≡ Some n
      by (inl e) again = ap (option_and_then (λ m. w.graph.next m v)) (sound_of w r bk u (record { path = u ∷ p; node = h.2.0 }) e).runs ∙ h.2.1
      by (inr c) again = ap (option_and_then (λ m. w.graph.next m v)) (again c) ∙ h.2.1

  -- one more step from what is come to
  stepped_mark : (size u v m n : ℕ) → w.graph.place m ≡ u → w.graph.place n ≡ v → w.alive.carries u v ≡ true → w.graph.next m v ≡ Some n
      → comes_with w len r size m ≡ true → any_below (λ m. comes_with w len r size m && step_to w (w.graph.place m) m n) w.graph.nodes ≡ true
  stepped_mark size u v m n mu nv c st h =
      let carried : w.alive.carries (w.graph.place m) (w.graph.place n) ≡ true = rw (mu, nv) c in
      let steps : w.graph.next m (w.graph.place n) ≡ Some n = rw nv st in
      any_from (λ m. comes_with w len r size m && step_to w (w.graph.place m) m n) w.graph.nodes m (wf.next_below m v n st).0
      (and_from (comes_with w len r size m) (step_to w (w.graph.place m) m n) h (step_from (w.graph.place m) m n carried steps))

  -- who can hold something is open
  pub held_open : (u : ℕ) (p : List ℕ) (m : ℕ) → CanHold w r (u ∷ p) m → IsOpen w r u
  held_open u [] m h = absurd h
  held_open u (z ∷ p) m h = h.0

  less_one : (v : ℕ) (p : List ℕ) → (k : ℕ) × (len (v ∷ p) ≡ suc k)
  less_one v p = by (len (v ∷ p)) refl
    where
      by : (i : ℕ) → len (v ∷ p) ≡ i → (k : ℕ) × (len (v ∷ p) ≡ suc k)
      by zero e = let l = sized.some v p in absurd (omega (arith, l, e))
      by (suc k) e = (k, e)

  -- and what can be held is found
  pub held_comes : (p : List ℕ) (n : ℕ) → CanHold w r p n → comes_with w len r (len p) n ≡ true
  held_comes [] n h = absurd h
  held_comes (v ∷ []) n h = absurd h
  held_comes (v ∷ u ∷ p) n h = by h.2.2 (held_comes (u ∷ p) h.2.0)
    where
      at : w.graph.place n ≡ v
      at = wf.next_place h.2.0 v n h.2.1

      opens : is_open w r (w.graph.place n) ≡ true
      opens = rw at (open_from v h.0)

      by : (r u ≡ Some (record { path = u ∷ p; node = h.2.0 })) ⊎ CanHold w r (u ∷ p) h.2.0
          → (CanHold w r (u ∷ p) h.2.0 → comes_with w len r (len (u ∷ p)) h.2.0 ≡ true) → comes_with w len r (len (v ∷ u ∷ p)) n ≡ true
      by (inl e) again =
          let s = sound_of w r bk u (record { path = u ∷ p; node = h.2.0 }) e in
          let k = less_one v (u ∷ p) in
          let carried : w.alive.carries u (w.graph.place n) ≡ true = rw at h.1 in
          let steps : w.graph.next h.2.0 (w.graph.place n) ≡ Some n = rw at h.2.1 in
          let sizes : len (w.graph.place n ∷ u ∷ p) ≡ suc k.0 = ap (λ i. len (i ∷ u ∷ p)) at ∙ k.1 in
          let given : gives_node w len k.0 n u (r u) ≡ true =
          rw e (and_from (eqb (len (w.graph.place n ∷ u ∷ p)) (suc k.0)) (step_to w u h.2.0 n) (eq-eqb (len (w.graph.place n ∷ u ∷ p)) (suc k.0) sizes) (step_from u h.2.0 n carried steps))
          in
          let some = any_from (λ z. gives_node w len k.0 n z (r z)) w.net.size u (place_below wf p u h.2.0 s.runs) given in
          let now : comes_with w len r (suc k.0) n ≡ true = and_from (is_open w r (w.graph.place n)) _ opens (or_left (any_below (λ z. gives_node w len k.0 n z (r z)) w.net.size) _ some) in
          subst (λ i. comes_with w len r i n ≡ true) (sym k.1) now
      by (inr c) again =
          let mark = stepped_mark (len (u ∷ p)) u v h.2.0 n (run_place wf u p h.2.0 (held_runs (u ∷ p) h.2.0 c)) at h.1 h.2.1 (again c) in
          let now : comes_with w len r (suc (len (u ∷ p))) n ≡ true =
          and_from (is_open w r (w.graph.place n)) _ opens (or_right (any_below (λ z. gives_node w len (len (u ∷ p)) n z (r z)) w.net.size) _ mark) in
          subst (λ i. comes_with w len r i n ≡ true) (sym (sized.grows v u p (held_open u p h.2.0 c).0)) now

  -- a detour to an open router is found
  pub detour_comes : (v : ℕ) (y : Route) → IsOpen w r v → (d : Detour w r v y) → comes_through w len r (len (d.by ∷ d.rest)) y.node ≡ true
  detour_comes v y o d =
      let at = wf.next_place d.node v y.node d.step in
      let opens : is_open w r (w.graph.place y.node) ≡ true = rw at (open_from v o) in
      and_from (is_open w r (w.graph.place y.node)) _ opens
      (stepped_mark (len (d.by ∷ d.rest)) d.by v d.node y.node
      (run_place wf d.by d.rest d.node (held_runs (d.by ∷ d.rest) d.node d.held)) at d.carries d.step
      (held_comes (d.by ∷ d.rest) d.node d.held))

  -- the size of what v would make of what is settled
  abbrev size_at : ℕ → Option Route → ℕ
  size_at v None = 0
  size_at v (Some y) = len (v ∷ y.path)

  -- no offer is larger
  abbrev pub top : ℕ
  top = greatest (λ v. greatest (λ u. size_at v (r u)) w.net.size) w.net.size

  pub offered_short : (v u : ℕ) (y : Route) → v < w.net.size → u < w.net.size → r u ≡ Some y → len (v ∷ y.path) ≤ top
  offered_short v u y vs us e =
      let a = below_greatest (λ u. size_at v (r u)) w.net.size u us in
      let b = below_greatest (λ v. greatest (λ u. size_at v (r u)) w.net.size) w.net.size v vs in
      let here : size_at v (r u) ≡ len (v ∷ y.path) = ap (size_at v) e in
      omega (arith, a, b, here)

  -- the nodes that are found by some length
  abbrev found : ℕ → Marks
  found k n = any_below (λ size. comes_with w len r size n) (suc (suc (top + k)))

  found_from : (k n size : ℕ) → size < suc (suc (top + k)) → comes_with w len r size n ≡ true → found k n ≡ true
  found_from k n size l h = any_from (λ i. comes_with w len r i n) (suc (suc (top + k))) size l h

  found_at : (k n : ℕ) → found k n ≡ true → (size : ℕ) × (size < suc (suc (top + k))) × (comes_with w len r size n ≡ true)
  found_at k n h = any_at (λ i. comes_with w len r i n) (suc (suc (top + k))) h

  found_grows : (k n : ℕ) → found k n ≡ true → found (suc k) n ≡ true
  found_grows k n h = let a = found_at k n h in found_from (suc k) n a.0 (omega (arith, a.1)) a.2

  gives_short : (size n u : ℕ) → u < w.net.size → (o : Option Route) → r u ≡ o → gives_node w len size n u o ≡ true → suc size ≤ top
  gives_short size n u us None e h = absurd (false≢true h)
  gives_short size n u us (Some y) e h =
      let a = and_parts (eqb (len (w.graph.place n ∷ y.path)) (suc size)) (step_to w u y.node n) h in
      let as_long = eqb-true (len (w.graph.place n ∷ y.path)) (suc size) a.0 in
      let vs = (wf.next_below y.node (w.graph.place n) n (step_parts u y.node n a.1).1).1 in
      let short = offered_short (w.graph.place n) u y vs us e in
      omega (arith, as_long, short)

  -- what comes with some length comes by the time when nothing new is found
  all_found : (k : ℕ) → Within w.graph.nodes (found (suc k)) (found k) → (size n : ℕ) → comes_with w len r size n ≡ true → found k n ≡ true
  all_found k rests zero n h = absurd (false≢true h)
  all_found k rests (suc size) n h = by (cases_lt (suc size) (suc (suc (top + k)))) (all_found k rests size)
    where
      at : (is_open w r (w.graph.place n) ≡ true)
          × ((any_below (λ u. gives_node w len size n u (r u)) w.net.size || any_below (λ m. comes_with w len r size m && step_to w (w.graph.place m) m n) w.graph.nodes) ≡ true)
      at =
          and_parts (is_open w r (w.graph.place n))
          (any_below (λ u. gives_node w len size n u (r u)) w.net.size || any_below (λ m. comes_with w len r size m && step_to w (w.graph.place m) m n) w.graph.nodes) h

      by_kind : suc (suc (top + k)) ≤ suc size
          → (any_below (λ u. gives_node w len size n u (r u)) w.net.size ≡ true) ⊎ (any_below (λ m. comes_with w len r size m && step_to w (w.graph.place m) m n) w.graph.nodes ≡ true)
          → ((m : ℕ) → comes_with w len r size m ≡ true → found k m ≡ true) → found k n ≡ true
      by_kind l (inl e) again = let b = any_at (λ u. gives_node w len size n u (r u)) w.net.size e in absurd (omega (arith, l, gives_short size n b.0 b.1 (r b.0) refl b.2))
      by_kind l (inr e) again =
          let b = any_at (λ m. comes_with w len r size m && step_to w (w.graph.place m) m n) w.graph.nodes e in
          let c = and_parts (comes_with w len r size b.0) (step_to w (w.graph.place b.0) b.0 n) b.2 in
          let d = found_at k b.0 (again b.0 c.0) in
          let mark = any_from (λ m. comes_with w len r d.0 m && step_to w (w.graph.place m) m n) w.graph.nodes b.0 b.1 (and_from (comes_with w len r d.0 b.0) (step_to w (w.graph.place b.0) b.0 n) d.2 c.1) in
          let now : comes_with w len r (suc d.0) n ≡ true = and_from (is_open w r (w.graph.place n)) _ at.0 (or_right (any_below (λ u. gives_node w len d.0 n u (r u)) w.net.size) _ mark) in
          let known = (wf.next_below b.0 (w.graph.place n) n (step_parts (w.graph.place b.0) b.0 n c.1).1).2 in
          rests n known (found_from (suc k) n (suc d.0) (omega (arith, d.1)) now)

      by : (suc size < suc (suc (top + k))) ⊎ (suc (suc (top + k)) ≤ suc size) → ((m : ℕ) → comes_with w len r size m ≡ true → found k m ≡ true) → found k n ≡ true
      by (inl l) again = found_from k n (suc size) l h
      by (inr l) again =
          by_kind l (or_cases (any_below (λ u. gives_node w len size n u (r u)) w.net.size) (any_below (λ m. comes_with w len r size m && step_to w (w.graph.place m) m n) w.graph.nodes) at.1)
          again

  -- a length by which all that comes through open neighbours comes
  pub record Enough : Type 0 where
    pub bound : ℕ
    pub over : top < bound
    pub all : (size n : ℕ) → comes_through w len r size n ≡ true → (less : ℕ) × (less < bound) × (comes_through w len r less n ≡ true)

  pub enough : Enough
  enough = let a = comes_to_rest w.graph.nodes found found_grows in record {
    bound = suc (suc (top + a.0));
    over = omega arith;
    all = all a.0 a.1;
  }
    where
      all : (k : ℕ) → Within w.graph.nodes (found (suc k)) (found k) → (size n : ℕ) → comes_through w len r size n ≡ true
          → (less : ℕ) × (less < suc (suc (top + k))) × (comes_through w len r less n ≡ true)
      all k rests size n h =
          let a = and_parts (is_open w r (w.graph.place n)) (any_below (λ m. comes_with w len r size m && step_to w (w.graph.place m) m n) w.graph.nodes) h in
          let b = any_at (λ m. comes_with w len r size m && step_to w (w.graph.place m) m n) w.graph.nodes a.1 in
          let c = and_parts (comes_with w len r size b.0) (step_to w (w.graph.place b.0) b.0 n) b.2 in
          let d = found_at k b.0 (all_found k rests size b.0 c.0) in
          let mark = any_from (λ m. comes_with w len r d.0 m && step_to w (w.graph.place m) m n) w.graph.nodes b.0 b.1 (and_from (comes_with w len r d.0 b.0) (step_to w (w.graph.place b.0) b.0 n) d.2 c.1) in
          (d.0, d.1, and_from (is_open w r (w.graph.place n)) _ a.0 mark)
