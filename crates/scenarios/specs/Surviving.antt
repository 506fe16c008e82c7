-- What failures leave of a network.
use Rattle.std.specs.Prelude.{◌≡◌, ℕ, Bool, not, ◌&&◌, IsTrue}
use Rattle.net_base.specs.Network.{PlainNet, is_peer, linked}
use Rattle.net_base.specs.Sets.{holds}
use Rattle.outcome_base.specs.Outcomes.{Failures, is_dead, is_dead_link, is_live, is_silent}
use Rattle.scenarios.specs.Links.{has_link}
use Rattle.scenarios.specs.declared.survivors.Survivors.{Survivors}

-- The tables tell what is dead and silent: of links, and of sessions of peers, the router first.
pub record AreSurvivors (net : PlainNet) (f : Failures) (s : Survivors) : Type 0 where
  pub dead : (l : ℕ) → holds s.dead l ≡ is_dead f l
  pub cut : (a b : ℕ) → IsTrue (linked net a b) → has_link net s.cut a b ≡ is_dead_link f a b
  pub silent : (r p : ℕ) → IsTrue (linked net r p) → IsTrue (is_peer net p) → has_link net s.silent r p ≡ is_silent f r p

-- what a location announces comes to another: they and their link live, and a peer isn't silent
abbrev pub carries : PlainNet → Failures → ℕ → ℕ → Bool
carries net f from to = is_live net f from to && not (is_peer net from && is_silent f to from)

-- ---- by the tables

abbrev pub live_by : PlainNet → Survivors → ℕ → ℕ → Bool
live_by net s a b = linked net a b && not (has_link net s.cut a b) && not (holds s.dead a) && not (holds s.dead b)

abbrev pub carries_by : PlainNet → Survivors → ℕ → ℕ → Bool
carries_by net s from to = live_by net s from to && not (is_peer net from && has_link net s.silent to from)
