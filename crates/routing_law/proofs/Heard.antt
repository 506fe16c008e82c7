-- What is heard, taken apart and put together.
use Rattle.std.proofs.Common.{◌≡◌, ℕ, Bool, true, false, not, ◌&&◌, [], ◌∷◌, Some, refl, sym, ap, ◌∙◌}
use Rattle.std.specs.Option.{option_map, option_and_then}
use Rattle.std.proofs.lemmas.Bool.{and_parts, not-true}
use Rattle.list_law.proofs.Options.{option_and_then_parts, option_map_parts, unless_parts, when_parts}
use Rattle.routing_law.specs.Network.{chooses, stands_on}
use Rattle.routing_law.specs.Outcome.{Route, Routes, Setup, extended, heard, own_route}

-- v is given x by u
pub record Heard (w : Setup) (r : Routes) (v u : ℕ) (x : Route) : Type 0 where
  pub from : Route
  pub has : r u ≡ Some from
  pub carries : w.alive.carries u v ≡ true
  pub off : stands_on v from.path ≡ false
  pub step : w.graph.next from.node v ≡ Some x.node
  pub path : x.path ≡ v ∷ from.path

pub heard_parts : (w : Setup) (r : Routes) (v u : ℕ) (x : Route) → heard w r v u ≡ Some x → Heard w r v u x
heard_parts w r v u x h =
    let a = when_parts (w.alive.carries u v) (option_and_then (extended w v) (r u)) x h in
    let b = option_and_then_parts (extended w v) (r u) x a.1 in
    let c = unless_parts (stands_on v b.0.path) (option_map (λ n. record { path = v ∷ b.0.path; node = n }) (w.graph.next b.0.node v)) x b.2 in
    let d = option_map_parts {B = Route} (λ n. record { path = v ∷ b.0.path; node = n }) (w.graph.next b.0.node v) x c.1 in
    record { from = b.0; has = b.1; carries = a.0; off = c.0; step = d.1 ∙ ap (λ (y : Route). Some y.node) d.2; path = ap (λ (y : Route). y.path) (sym d.2) }

pub heard_from : (w : Setup) (r : Routes) (v u : ℕ) (y : Route) (n : ℕ) → r u ≡ Some y → w.alive.carries u v ≡ true → stands_on v y.path ≡ false
    → w.graph.next y.node v ≡ Some n → heard w r v u ≡ Some (record { path = v ∷ y.path; node = n })
heard_from w r v u y n has carries off step = rw (carries, has, off, step)

-- a Bool test of three parts
pub chooses_parts : (w : Setup) (v : ℕ) → chooses w.net w.alive v ≡ true → (w.net.router v ≡ true) × (w.alive.live v ≡ true) × (w.net.origin v ≡ false)
chooses_parts w v h =
    let a = and_parts (w.net.router v) (w.alive.live v && not (w.net.origin v)) h in
    let b = and_parts (w.alive.live v) (not (w.net.origin v)) a.1 in
    (a.0, b.0, not-true (w.net.origin v) b.1)

pub chooses_from : (w : Setup) (v : ℕ) → w.net.router v ≡ true → w.alive.live v ≡ true → w.net.origin v ≡ false → chooses w.net w.alive v ≡ true
chooses_from w v a b c = rw (a, b, c)

pub own_parts : (w : Setup) (v : ℕ) (x : Route) → own_route w v ≡ Some x → (w.alive.live v ≡ true) × (w.graph.start v ≡ Some x.node) × (x.path ≡ v ∷ [])
own_parts w v x h =
    let a = when_parts (w.alive.live v) (option_map (λ s. record { path = v ∷ []; node = s }) (w.graph.start v)) x h in
    let d = option_map_parts {B = Route} (λ s. record { path = v ∷ []; node = s }) (w.graph.start v) x a.1 in
    (a.0, d.1 ∙ ap (λ (y : Route). Some y.node) d.2, ap (λ (y : Route). y.path) (sym d.2))

pub own_from : (w : Setup) (v s : ℕ) → w.alive.live v ≡ true → w.graph.start v ≡ Some s → own_route w v ≡ Some (record { path = v ∷ []; node = s })
own_from w v s a b = rw (a, b)

pub no_router : (w : Setup) (v : ℕ) → w.net.router v ≡ false → chooses w.net w.alive v ≡ false
no_router w v h = rw h

pub not_live : (w : Setup) (v : ℕ) → w.alive.live v ≡ false → chooses w.net w.alive v ≡ false
not_live w v h = by (w.net.router v) refl
  where
    by : (b : Bool) → w.net.router v ≡ b → chooses w.net w.alive v ≡ false
    by true e = rw (e, h)
    by false e = rw e
