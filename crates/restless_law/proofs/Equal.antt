-- Three routers, each linked with the others: places 0, the origin, 1 and 2. All paths have one size, and the origin has the highest identifier.
use Rattle.std.proofs.Common.{◌≡◌, ℕ, ◌<◌, ◌≤◌, zero, suc, Bool, true, false, List, [], ◌∷◌, Option, Some, None, refl, sym, ap, ◌∙◌, subst, arith}
use Rattle.std.specs.Prelude.{not, ◌||◌}
use Rattle.std.proofs.lemmas.Bool.{false≢true, true≢false}
use Rattle.list_law.proofs.Options.{none_or_some}
use Rattle.routing_law.specs.Graph.{Graph, MeetsRules, WellFormed, run}
use Rattle.routing_law.specs.Network.{Network, NamesDiffer, chooses, giver, loop_free}
use Rattle.routing_law.specs.Outcome.{Route, Routes, Setup, heard, own_route}
use Rattle.tie_law.specs.Ties.{NoneSooner, Size}
use Rattle.steady_law.specs.Histories.{AreTied, History, HoldsRuns, IsRound, IsSteady, IsTop, TiesAt}
use Rattle.restless_law.specs.Restless.{NeverSettles, WithoutLengths}
use Rattle.restless_law.proofs.Free.{by_whom, even}

abbrev is_router : ℕ → Bool
is_router zero = true
is_router (suc zero) = true
is_router (suc (suc zero)) = true
is_router (suc (suc (suc v))) = false

abbrev is_origin : ℕ → Bool
is_origin zero = true
is_origin (suc v) = false

abbrev name : ℕ → ℕ
name zero = 3
name (suc zero) = 1
name (suc (suc zero)) = 2
name (suc (suc (suc v))) = 4

-- what matters here: the origin is heard by both others, and these by each other
abbrev carries : ℕ → ℕ → Bool
carries zero (suc zero) = true
carries zero (suc (suc zero)) = true
carries (suc zero) (suc (suc zero)) = true
carries (suc (suc zero)) (suc zero) = true
carries zero zero = false
carries zero (suc (suc (suc v))) = false
carries (suc zero) zero = false
carries (suc zero) (suc zero) = false
carries (suc zero) (suc (suc (suc v))) = false
carries (suc (suc zero)) zero = false
carries (suc (suc zero)) (suc (suc v)) = false
carries (suc (suc (suc u))) v = false

abbrev start : ℕ → Option ℕ
start zero = Some 0
start (suc v) = None

-- one node a place; the node's number is that of its place
abbrev next : ℕ → ℕ → Option ℕ
next zero (suc zero) = Some 1
next zero (suc (suc zero)) = Some 2
next (suc zero) (suc (suc zero)) = Some 2
next (suc (suc zero)) (suc zero) = Some 1
next zero zero = None
next zero (suc (suc (suc z))) = None
next (suc zero) zero = None
next (suc zero) (suc zero) = None
next (suc zero) (suc (suc (suc z))) = None
next (suc (suc zero)) zero = None
next (suc (suc zero)) (suc (suc z)) = None
next (suc (suc (suc n))) z = None

abbrev net : Network
net = record { size = 3; router = is_router; origin = is_origin; name = name }

abbrev graph : Graph
graph = record { nodes = 3; place = λ n. n; start = start; next = next; number = λ n. 0 }

abbrev w : Setup
w = record { net = net; alive = record { live = λ v. true; carries = carries }; graph = graph }

abbrev size : Size
size p = 1

differ : NamesDiffer net
differ zero zero a b e = refl
differ zero (suc zero) a b e = absurd (omega (arith, e))
differ zero (suc (suc zero)) a b e = absurd (omega (arith, e))
differ (suc zero) zero a b e = absurd (omega (arith, e))
differ (suc zero) (suc zero) a b e = refl
differ (suc zero) (suc (suc zero)) a b e = absurd (omega (arith, e))
differ (suc (suc zero)) zero a b e = absurd (omega (arith, e))
differ (suc (suc zero)) (suc zero) a b e = absurd (omega (arith, e))
differ (suc (suc zero)) (suc (suc zero)) a b e = refl
differ (suc (suc (suc u))) v a b e = absurd (omega (arith, a))
differ u (suc (suc (suc v))) a b e = absurd (omega (arith, b))

-- ---- the graph

-- a step goes from one place to another, to the node of that place
record IsStep (n z m : ℕ) : Type 0 where
  from : n < 3
  to : z < 3
  on : m ≡ z
  later : is_origin z ≡ false

steps : (n z m : ℕ) → next n z ≡ Some m → IsStep n z m
steps zero (suc zero) m e = record { from = omega arith; to = omega arith; on = (let same : 1 ≡ m = cc in sym same); later = refl }
steps zero (suc (suc zero)) m e = record { from = omega arith; to = omega arith; on = (let same : 2 ≡ m = cc in sym same); later = refl }
steps (suc zero) (suc (suc zero)) m e = record { from = omega arith; to = omega arith; on = (let same : 2 ≡ m = cc in sym same); later = refl }
steps (suc (suc zero)) (suc zero) m e = record { from = omega arith; to = omega arith; on = (let same : 1 ≡ m = cc in sym same); later = refl }
steps zero zero m e = absurd (cc)
steps zero (suc (suc (suc z))) m e = absurd (cc)
steps (suc zero) zero m e = absurd (cc)
steps (suc zero) (suc zero) m e = absurd (cc)
steps (suc zero) (suc (suc (suc z))) m e = absurd (cc)
steps (suc (suc zero)) zero m e = absurd (cc)
steps (suc (suc zero)) (suc (suc z)) m e = absurd (cc)
steps (suc (suc (suc n))) z m e = absurd (cc)

router_below : (n : ℕ) → n < 3 → is_router n ≡ true
router_below zero l = refl
router_below (suc zero) l = refl
router_below (suc (suc zero)) l = refl
router_below (suc (suc (suc n))) l = absurd (omega (arith, l))

either : (a b : Bool) → b ≡ true → (a || b) ≡ true
either true b e = refl
either false b e = e

formed : WellFormed net graph
formed = record {
  start_origin = from_origin;
  start_place = at_place;
  start_below = below;
  origin_start = begins;
  next_place = λ n z m e. (steps n z m e).on;
  next_below = λ n z m e. (let s = steps n z m e in let t = s.to in let o = s.on in (s.from, s.to, omega (arith, t, o)));
  next_origin = λ n z m e. (steps n z m e).later;
  next_from = λ n z m e. either (is_origin n) (is_router n) (router_below n (steps n z m e).from);
}
  where
    from_origin : (o s : ℕ) → start o ≡ Some s → is_origin o ≡ true
    from_origin zero s e = refl
    from_origin (suc o) s e = absurd (cc)

    at_place : (o s : ℕ) → start o ≡ Some s → s ≡ o
    at_place zero s e = (let same : 0 ≡ s = cc in sym same)
    at_place (suc o) s e = absurd (cc)

    below : (o s : ℕ) → start o ≡ Some s → (o < 3) × (s < 3)
    below zero s e = (let same : 0 ≡ s = cc in (omega arith, omega (arith, same)))
    below (suc o) s e = absurd (cc)

    begins : (n : ℕ) → n < 3 → is_origin n ≡ true → start n ≡ Some n
    begins zero l o = refl
    begins (suc n) l o = absurd (false≢true o)

rules : MeetsRules net graph
rules = record {
  step = λ m n z n' router best to_router e. (n', ap (λ i. next i z) best.place ∙ e, omega arith);
  loop = λ m n z n' k router best to_router e below at reaches. omega arith;
}

-- ---- what is held: the origin's route, or that of the other one

abbrev one : Bool → Route
one true = record { path = 1 ∷ 0 ∷ []; node = 1 }
one false = record { path = 1 ∷ 2 ∷ 0 ∷ []; node = 1 }

abbrev two : Bool → Route
two true = record { path = 2 ∷ 0 ∷ []; node = 2 }
two false = record { path = 2 ∷ 1 ∷ 0 ∷ []; node = 2 }

abbrev hold : Bool → Routes
hold b zero = Some (record { path = 0 ∷ []; node = 0 })
hold b (suc zero) = Some (one b)
hold b (suc (suc zero)) = Some (two b)
hold b (suc (suc (suc v))) = None

abbrev h : History
h t v = hold (even t) v

abbrev Chooses : ℕ → Type 0
Chooses v = chooses net w.alive v ≡ true

holds : HoldsRuns w h 0
holds = record { own = λ t v l o. mine (even t) v o; none = λ t v l o k. nothing (even t) v o k; runs = λ t v y l k e. runs (even t) v y k e }
  where
    mine : (b : Bool) (v : ℕ) → is_origin v ≡ true → hold b v ≡ own_route w v
    mine b zero o = refl
    mine b (suc v) o = absurd (false≢true o)

    nothing : (b : Bool) (v : ℕ) → is_origin v ≡ false → chooses net w.alive v ≡ false → hold b v ≡ None
    nothing b zero o k = absurd (true≢false o)
    nothing b (suc zero) o k = absurd (true≢false k)
    nothing b (suc (suc zero)) o k = absurd (true≢false k)
    nothing b (suc (suc (suc v))) o k = refl

    IsRun : ℕ → Route → Type 0
    IsRun v y = (rest : List ℕ) × (y.path ≡ v ∷ rest) × (run graph y.path ≡ Some y.node) × (loop_free y.path ≡ true)

    first : (b : Bool) → IsRun 1 (one b)
    first true = (0 ∷ [], refl, refl, refl)
    first false = (2 ∷ 0 ∷ [], refl, refl, refl)

    second : (b : Bool) → IsRun 2 (two b)
    second true = (0 ∷ [], refl, refl, refl)
    second false = (1 ∷ 0 ∷ [], refl, refl, refl)

    runs : (b : Bool) (v : ℕ) (y : Route) → Chooses v → hold b v ≡ Some y → IsRun v y
    runs b zero y k e = absurd (false≢true k)
    runs b (suc zero) y k e = (let same : one b ≡ y = cc in subst (IsRun 1) same (first b))
    runs b (suc (suc zero)) y k e = (let same : two b ≡ y = cc in subst (IsRun 2) same (second b))
    runs b (suc (suc (suc v))) y k e = absurd (false≢true k)

-- ---- each takes what the other held a moment before, or the origin's

alike : (y z : Route) → NoneSooner w size y z
alike y z = record { number = omega arith; shorter = λ q. omega arith }

top : (b : Bool) (v : ℕ) → Chooses v → IsTop w size (hold b) v (hold (not b) v)
top b zero k = absurd (false≢true k)
top true (suc zero) k = (2, (refl, λ t z e. alike (one false) z))
top false (suc zero) k = (0, (refl, λ t z e. alike (one true) z))
top true (suc (suc zero)) k = (1, (refl, λ t z e. alike (two false) z))
top false (suc (suc zero)) k = (0, (refl, λ t z e. alike (two true) z))
top b (suc (suc (suc v))) k = absurd (false≢true k)

round : (k : ℕ) → IsRound w size h k (suc k)
round k zero v late c = absurd (omega (arith, late))
round k (suc t) v late c = (h t, (λ u. (t, omega (arith, late), refl)), top (even t) v c)

-- what a router is told at two times has not the same ties
apart : (v u : ℕ) (y : Route) (tied : ℕ → Bool) (k : ℕ) → AreTied w size h k v tied → (j i : ℕ) → k ≤ j → k ≤ i → TiesAt w size (h j) v u y → heard w (h i) v u ≡ None → ⊥
apart v u y tied k ties j i lj li there none =
    let on = (ties (h j) (λ x. (j, lj, refl)) u).1 y there in
    let z = (ties (h i) (λ x. (i, li, refl)) u).0 on in
    none_or_some (heard w (h i) v u) z.0 none z.1.0

-- so nothing is asked of a router of which the same routes tie at all times
never_same : (k v : ℕ) (tied : ℕ → Bool) → Chooses v → AreTied w size h k v tied → ⊥
never_same k v tied c ties = by v c ties (even k) refl
  where
    there : (b : Bool) (t : ℕ) → even t ≡ b → h t ≡ hold b
    there b t e = ap hold e

    by : (v : ℕ) → Chooses v → AreTied w size h k v tied → (b : Bool) → even k ≡ b → ⊥
    by zero c ties b e = false≢true c
    by (suc zero) c ties true e =
        apart 1 2 (one false) tied k ties k (suc k) (omega arith) (omega arith) (subst (λ (o : Routes). TiesAt w size o 1 2 (one false)) (sym (there true k e)) (refl, λ t z g. alike (one false) z))
        (ap (λ (o : Routes). heard w o 1 2) (there false (suc k) (ap not e)))
    by (suc zero) c ties false e =
        apart 1 2 (one false) tied k ties (suc k) k (omega arith) (omega arith) (subst (λ (o : Routes). TiesAt w size o 1 2 (one false)) (sym (there true (suc k) (ap not e))) (refl, λ t z g. alike (one false) z))
        (ap (λ (o : Routes). heard w o 1 2) (there false k e))
    by (suc (suc zero)) c ties true e =
        apart 2 1 (two false) tied k ties k (suc k) (omega arith) (omega arith) (subst (λ (o : Routes). TiesAt w size o 2 1 (two false)) (sym (there true k e)) (refl, λ t z g. alike (two false) z))
        (ap (λ (o : Routes). heard w o 2 1) (there false (suc k) (ap not e)))
    by (suc (suc zero)) c ties false e =
        apart 2 1 (two false) tied k ties (suc k) k (omega arith) (omega arith) (subst (λ (o : Routes). TiesAt w size o 2 1 (two false)) (sym (there true (suc k) (ap not e))) (refl, λ t z g. alike (two false) z))
        (ap (λ (o : Routes). heard w o 2 1) (there false k e))
    by (suc (suc (suc v))) c ties b e = false≢true c

steady : (k : ℕ) → IsSteady w size h k (suc k)
steady k v tied c ties still = absurd (never_same k v tied c ties)

-- ---- by name: 1 and 2 have lower identifiers than the origin

lower : (b : Bool) (v u : ℕ) (x y : Route) → Chooses v → hold (not b) v ≡ Some x → heard w (hold b) v u ≡ Some y → name (giver x.path) ≤ name (giver y.path)
lower b zero u x y c e g = absurd (false≢true c)
lower true (suc zero) zero x y c e g = (let ex : one false ≡ x = cc in let gy : record { path = 1 ∷ 0 ∷ []; node = 1 } ≡ y = cc in let a : name 2 ≡ name (giver x.path) = ap (λ (r : Route). name (giver r.path)) ex in let d : name 0 ≡ name (giver y.path) = ap (λ (r : Route). name (giver r.path)) gy in omega (arith, a, d))
lower true (suc zero) (suc zero) x y c e g = absurd (cc)
lower true (suc zero) (suc (suc zero)) x y c e g = (let ex : one false ≡ x = cc in let gy : record { path = 1 ∷ 2 ∷ 0 ∷ []; node = 1 } ≡ y = cc in let a : name 2 ≡ name (giver x.path) = ap (λ (r : Route). name (giver r.path)) ex in let d : name 2 ≡ name (giver y.path) = ap (λ (r : Route). name (giver r.path)) gy in omega (arith, a, d))
lower true (suc zero) (suc (suc (suc u))) x y c e g = absurd (cc)
lower false (suc zero) zero x y c e g = (let ex : one true ≡ x = cc in let gy : record { path = 1 ∷ 0 ∷ []; node = 1 } ≡ y = cc in let a : name 0 ≡ name (giver x.path) = ap (λ (r : Route). name (giver r.path)) ex in let d : name 0 ≡ name (giver y.path) = ap (λ (r : Route). name (giver r.path)) gy in omega (arith, a, d))
lower false (suc zero) (suc zero) x y c e g = absurd (cc)
lower false (suc zero) (suc (suc zero)) x y c e g = absurd (cc)
lower false (suc zero) (suc (suc (suc u))) x y c e g = absurd (cc)
lower true (suc (suc zero)) zero x y c e g = (let ex : two false ≡ x = cc in let gy : record { path = 2 ∷ 0 ∷ []; node = 2 } ≡ y = cc in let a : name 1 ≡ name (giver x.path) = ap (λ (r : Route). name (giver r.path)) ex in let d : name 0 ≡ name (giver y.path) = ap (λ (r : Route). name (giver r.path)) gy in omega (arith, a, d))
lower true (suc (suc zero)) (suc zero) x y c e g = (let ex : two false ≡ x = cc in let gy : record { path = 2 ∷ 1 ∷ 0 ∷ []; node = 2 } ≡ y = cc in let a : name 1 ≡ name (giver x.path) = ap (λ (r : Route). name (giver r.path)) ex in let d : name 1 ≡ name (giver y.path) = ap (λ (r : Route). name (giver r.path)) gy in omega (arith, a, d))
lower true (suc (suc zero)) (suc (suc zero)) x y c e g = absurd (cc)
lower true (suc (suc zero)) (suc (suc (suc u))) x y c e g = absurd (cc)
lower false (suc (suc zero)) zero x y c e g = (let ex : two true ≡ x = cc in let gy : record { path = 2 ∷ 0 ∷ []; node = 2 } ≡ y = cc in let a : name 0 ≡ name (giver x.path) = ap (λ (r : Route). name (giver r.path)) ex in let d : name 0 ≡ name (giver y.path) = ap (λ (r : Route). name (giver r.path)) gy in omega (arith, a, d))
lower false (suc (suc zero)) (suc zero) x y c e g = absurd (cc)
lower false (suc (suc zero)) (suc (suc zero)) x y c e g = absurd (cc)
lower false (suc (suc zero)) (suc (suc (suc u))) x y c e g = absurd (cc)
lower b (suc (suc (suc v))) u x y c e g = absurd (false≢true c)

never : NeverSettles h
never start s still = by (even start) (still start 1 (omega arith) ∙ sym (still (suc start) 1 (omega arith)))
  where
    by : (b : Bool) → hold b 1 ≡ hold (not b) 1 → ⊥
    by true e = (let apart : 0 ≡ 2 = ap by_whom e in omega (arith, apart))
    by false e = (let apart : 2 ≡ 0 = ap by_whom e in omega (arith, apart))

pub without_lengths : WithoutLengths
without_lengths = record {
  setup = w;
  size = size;
  alike = λ p q. refl;
  some = λ v p. omega arith;
  formed = formed;
  rules = rules;
  differ = differ;
  history = h;
  holds = holds;
  rounds = λ k. (round k, steady k);
  named = λ t v u x y c e g q. lower (even t) v u x y c e g;
  never = never;
}
