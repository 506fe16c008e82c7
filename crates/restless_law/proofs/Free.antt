-- A router between two peers that are origins: places 0, 1 and 2.
use Rattle.std.proofs.Common.{◌≡◌, ℕ, ◌<◌, zero, suc, Bool, true, false, List, [], ◌∷◌, length, Option, Some, None, refl, sym, ap, ◌∙◌, arith}
use Rattle.std.specs.Prelude.{not, ◌||◌, option_map, unwrap_or}
use Rattle.std.proofs.lemmas.Bool.{false≢true, true≢false}
use Rattle.routing_law.specs.Graph.{Graph, MeetsRules, WellFormed, run}
use Rattle.routing_law.specs.Network.{Network, chooses, giver, loop_free}
use Rattle.routing_law.specs.Outcome.{Route, Routes, Setup, heard, own_route}
use Rattle.tie_law.specs.Ties.{IsSize, Size}
use Rattle.steady_law.specs.Histories.{History, HoldsRuns, IsRound, IsTop, TiesAt}
use Rattle.restless_law.specs.Restless.{NeverSettles, WithFreeTies}

abbrev pub even : ℕ → Bool
even zero = true
even (suc t) = not (even t)

abbrev is_router : ℕ → Bool
is_router zero = true
is_router (suc v) = false

abbrev is_origin : ℕ → Bool
is_origin zero = false
is_origin (suc zero) = true
is_origin (suc (suc zero)) = true
is_origin (suc (suc (suc v))) = false

abbrev carries : ℕ → ℕ → Bool
carries (suc zero) zero = true
carries (suc (suc zero)) zero = true
carries zero v = false
carries (suc zero) (suc v) = false
carries (suc (suc zero)) (suc v) = false
carries (suc (suc (suc u))) v = false

abbrev place : ℕ → ℕ
place zero = 1
place (suc zero) = 2
place (suc (suc n)) = 0

abbrev start : ℕ → Option ℕ
start zero = None
start (suc zero) = Some 0
start (suc (suc zero)) = Some 1
start (suc (suc (suc v))) = None

abbrev next : ℕ → ℕ → Option ℕ
next zero zero = Some 2
next (suc zero) zero = Some 2
next zero (suc z) = None
next (suc zero) (suc z) = None
next (suc (suc n)) z = None

abbrev net : Network
net = record { size = 3; router = is_router; origin = is_origin; name = λ v. v }

abbrev graph : Graph
graph = record { nodes = 3; place = place; start = start; next = next; number = λ n. 0 }

abbrev w : Setup
w = record { net = net; alive = record { live = λ v. true; carries = carries }; graph = graph }

abbrev size : Size
size p = length p

sized : IsSize w size
sized = record { some = λ v p. omega arith; grows = λ v u p k. refl }

formed : WellFormed net graph
formed = record {
  start_origin = from_origin;
  start_place = at_place;
  start_below = below;
  origin_start = begins;
  next_place = to;
  next_below = within;
  next_origin = no_origin;
  next_from = from;
}
  where
    from_origin : (o s : ℕ) → start o ≡ Some s → is_origin o ≡ true
    from_origin zero s e = absurd (cc)
    from_origin (suc zero) s e = refl
    from_origin (suc (suc zero)) s e = refl
    from_origin (suc (suc (suc o))) s e = absurd (cc)

    at_place : (o s : ℕ) → start o ≡ Some s → place s ≡ o
    at_place zero s e = absurd (cc)
    at_place (suc zero) s e = (let same : 0 ≡ s = cc in ap place (sym same))
    at_place (suc (suc zero)) s e = (let same : 1 ≡ s = cc in ap place (sym same))
    at_place (suc (suc (suc o))) s e = absurd (cc)

    below : (o s : ℕ) → start o ≡ Some s → (o < 3) × (s < 3)
    below zero s e = absurd (cc)
    below (suc zero) s e = (let same : 0 ≡ s = cc in (omega arith, omega (arith, same)))
    below (suc (suc zero)) s e = (let same : 1 ≡ s = cc in (omega arith, omega (arith, same)))
    below (suc (suc (suc o))) s e = absurd (cc)

    begins : (n : ℕ) → n < 3 → is_origin (place n) ≡ true → start (place n) ≡ Some n
    begins zero l o = refl
    begins (suc zero) l o = refl
    begins (suc (suc n)) l o = absurd (false≢true o)

    to : (n z m : ℕ) → next n z ≡ Some m → place m ≡ z
    to zero zero m e = (let same : 2 ≡ m = cc in ap place (sym same))
    to (suc zero) zero m e = (let same : 2 ≡ m = cc in ap place (sym same))
    to zero (suc z) m e = absurd (cc)
    to (suc zero) (suc z) m e = absurd (cc)
    to (suc (suc n)) z m e = absurd (cc)

    within : (n z m : ℕ) → next n z ≡ Some m → (n < 3) × (z < 3) × (m < 3)
    within zero zero m e = (let same : 2 ≡ m = cc in (omega arith, omega arith, omega (arith, same)))
    within (suc zero) zero m e = (let same : 2 ≡ m = cc in (omega arith, omega arith, omega (arith, same)))
    within zero (suc z) m e = absurd (cc)
    within (suc zero) (suc z) m e = absurd (cc)
    within (suc (suc n)) z m e = absurd (cc)

    no_origin : (n z m : ℕ) → next n z ≡ Some m → is_origin z ≡ false
    no_origin zero zero m e = refl
    no_origin (suc zero) zero m e = refl
    no_origin zero (suc z) m e = absurd (cc)
    no_origin (suc zero) (suc z) m e = absurd (cc)
    no_origin (suc (suc n)) z m e = absurd (cc)

    from : (n z m : ℕ) → next n z ≡ Some m → (is_origin (place n) || is_router (place n)) ≡ true
    from zero z m e = refl
    from (suc zero) z m e = refl
    from (suc (suc n)) z m e = absurd (cc)

-- no node of the router steps anywhere
last : (n z m : ℕ) → is_router (place n) ≡ true → next n z ≡ Some m → ⊥
last zero z m r e = false≢true r
last (suc zero) z m r e = false≢true r
last (suc (suc n)) z m r e = cc

rules : MeetsRules net graph
rules = record {
  step = λ m n z n' router best to_router e. absurd (last n z n' router e);
  loop = λ m n z n' k router best to_router e below at reaches. omega arith;
}

-- now the route of the one, now that of the other
abbrev side : Bool → ℕ
side true = 1
side false = 2

abbrev own : Bool → Route
own b = record { path = 0 ∷ side b ∷ []; node = 2 }

abbrev hold : Bool → Routes
hold b zero = Some (own b)
hold b (suc zero) = Some (record { path = 1 ∷ []; node = 0 })
hold b (suc (suc zero)) = Some (record { path = 2 ∷ []; node = 1 })
hold b (suc (suc (suc v))) = None

abbrev h : History
h t v = hold (even t) v

holds : HoldsRuns w h 0
holds = record { own = λ t v l o. mine (even t) v o; none = λ t v l o k. nothing (even t) v o k; runs = λ t v y l k e. runs (even t) v y k e }
  where
    mine : (b : Bool) (v : ℕ) → is_origin v ≡ true → hold b v ≡ own_route w v
    mine b zero o = absurd (false≢true o)
    mine b (suc zero) o = refl
    mine b (suc (suc zero)) o = refl
    mine b (suc (suc (suc v))) o = absurd (false≢true o)

    nothing : (b : Bool) (v : ℕ) → is_origin v ≡ false → chooses net w.alive v ≡ false → hold b v ≡ None
    nothing b zero o k = absurd (true≢false k)
    nothing b (suc zero) o k = absurd (true≢false o)
    nothing b (suc (suc zero)) o k = absurd (true≢false o)
    nothing b (suc (suc (suc v))) o k = refl

    runs : (b : Bool) (v : ℕ) (y : Route) → chooses net w.alive v ≡ true → hold b v ≡ Some y → (rest : List ℕ) × (y.path ≡ v ∷ rest) × (run graph y.path ≡ Some y.node) × (loop_free y.path ≡ true)
    runs b (suc v) y k e = absurd (false≢true k)
    runs true zero y k e = (
        let same : own true ≡ y = cc in
        (1 ∷ [], ap (λ (x : Route). x.path) (sym same), ap (λ (x : Route). run graph x.path) (sym same) ∙ ap (λ (x : Route). Some x.node) same, ap (λ (x : Route). loop_free x.path) (sym same)))
    runs false zero y k e = (
        let same : own false ≡ y = cc in
        (2 ∷ [], ap (λ (x : Route). x.path) (sym same), ap (λ (x : Route). run graph x.path) (sym same) ∙ ap (λ (x : Route). Some x.node) same, ap (λ (x : Route). loop_free x.path) (sym same)))

-- each of the two is one of the first
short : (b : Bool) (u : ℕ) (z : Route) → heard w (hold b) 0 u ≡ Some z → length z.path ≡ 2
short b zero z e = absurd (cc)
short b (suc zero) z e = (let same : record { path = 0 ∷ 1 ∷ []; node = 2 } ≡ z = cc in ap (λ (x : Route). length x.path) (sym same))
short b (suc (suc zero)) z e = (let same : record { path = 0 ∷ 2 ∷ []; node = 2 } ≡ z = cc in ap (λ (x : Route). length x.path) (sym same))
short b (suc (suc (suc u))) z e = absurd (cc)

first : (b : Bool) → (u : ℕ) × TiesAt w size (hold b) 0 u (own b)
first true = (1, (refl, λ t z e. record { number = omega arith; shorter = λ q. (let l = short true t z e in omega (arith, l)) }))
first false = (2, (refl, λ t z e. record { number = omega arith; shorter = λ q. (let l = short false t z e in omega (arith, l)) }))

top : (b : Bool) (v : ℕ) → chooses net w.alive v ≡ true → IsTop w size (hold b) v (hold b v)
top b zero k = first b
top b (suc v) k = absurd (false≢true k)

rounds : (k : ℕ) → IsRound w size h k (suc k)
rounds k t v late chooses' = (h t, (λ u. (t, omega (arith, late), refl)), top (even t) v chooses')

-- whose route it is
abbrev pub by_whom : Option Route → ℕ
by_whom o = unwrap_or (option_map (λ (x : Route). giver x.path) o) 0

never : NeverSettles h
never start s still = by (even start) (still start 0 (omega arith) ∙ sym (still (suc start) 0 (omega arith)))
  where
    by : (b : Bool) → hold b 0 ≡ hold (not b) 0 → ⊥
    by true e = (let differ : 1 ≡ 2 = ap by_whom e in omega (arith, differ))
    by false e = (let differ : 2 ≡ 1 = ap by_whom e in omega (arith, differ))

pub with_free_ties : WithFreeTies
with_free_ties = record { setup = w; size = size; sized = sized; formed = formed; rules = rules; history = h; holds = holds; rounds = rounds; never = never }
