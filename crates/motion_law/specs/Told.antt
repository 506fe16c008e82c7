-- Any machine in which routers hold only what they were told at some time holds nothing but what may be held.
use Rattle.std.specs.Prelude.{◌≡◌, ℕ, ◌≤◌, ◌<◌, ◌⊎◌, not, ◌&&◌, IsTrue, [], ◌∷◌, Option, Some}
use Rattle.net_base.specs.Network.{PlainNet, is_location, is_peer, is_router}
use Rattle.net_base.specs.Prefixes.{PlainPrefix}
use Rattle.policy_base.specs.Policies.{PlainPolicy}
use Rattle.policy_base.specs.Governing.{is_origin}
use Rattle.config_base.specs.Configs.{PlainConfig}
use Rattle.config_base.specs.Lines.{class_of, export_of, own_route}
use Rattle.outcome_base.specs.Announcements.{FullRoute, Sent, taken_under}
use Rattle.motion_law.specs.Ever.{MayHold, MaySend}

-- What a machine does, one moment after another: which route each router holds, and what is said then by one location to another.
pub record Telling : Type 0 where
  pub held : ℕ → ℕ → Option FullRoute
  pub said : ℕ → ℕ → ℕ → Option Sent

-- a router makes this route of what a neighbour said to it before this moment
pub record IsMadeOfTold (net : PlainNet) (policy : PlainPolicy) (config : PlainConfig) (p : PlainPrefix) (m : Telling) (now r : ℕ) (t : FullRoute) : Type 0 where
  pub who : IsTrue (is_router net r && not (is_origin net policy p r))
  pub before : ℕ
  pub earlier : before < now
  pub from : ℕ
  pub known : IsTrue (is_location net from)
  pub message : Sent
  pub was_said : m.said before from r ≡ Some message
  pub class : ℕ
  pub of_class : class_of config p ≡ Some class
  pub takes : taken_under net config class r from message ≡ Some t

-- Messages may be lost, late, repeated and out of order, routers may choose what they like of all that they were ever told, and keep
-- what was withdrawn. Asked is only that
pub record TellsOnly (net : PlainNet) (policy : PlainPolicy) (config : PlainConfig) (p : PlainPrefix) (m : Telling) : Type 0 where
  -- an origin's own route is all that a router holds unless it was told it,
  pub held : (now r : ℕ) (t : FullRoute) → m.held now r ≡ Some t
      → (IsTrue (is_router net r && is_origin net policy p r) × (t ≡ record { route = own_route net config p r; behind = [] })) ⊎ IsMadeOfTold net policy config p m now r t
  -- a router says what its export lines give of a route that it holds, or has held,
  pub routers : (now r to : ℕ) (x : Sent) → IsTrue (is_router net r) → m.said now r to ≡ Some x
      → (before : ℕ) × (class : ℕ) × (t : FullRoute) × (before ≤ now) × (m.held before r ≡ Some t) × (class_of config p ≡ Some class)
      × (export_of net config class r to t.route.tag ≡ Some x.tag) × (x.path ≡ t.route.path) × (x.behind ≡ t.behind)
  -- and a peer says anything behind its own number.
  pub peers : (now peer to : ℕ) (x : Sent) → IsTrue (is_peer net peer) → m.said now peer to ≡ Some x → x.path ≡ peer ∷ []

-- So whatever the configuration is, at each moment all that is held may be held, and all that routers say may be sent.
abbrev pub WhatIsToldMayBeHeld : Type 0
WhatIsToldMayBeHeld =
    (net : PlainNet) (policy : PlainPolicy) (config : PlainConfig) (p : PlainPrefix) (m : Telling) → TellsOnly net policy config p m
    → ((now r : ℕ) (t : FullRoute) → m.held now r ≡ Some t → MayHold net policy config p r t)
    × ((now r to : ℕ) (x : Sent) → IsTrue (is_router net r) → m.said now r to ≡ Some x → MaySend net policy config p r to x)
