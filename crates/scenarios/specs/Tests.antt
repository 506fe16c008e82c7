-- What makes an outcome stable, as tests over routers and links.
use Rattle.std.specs.Prelude.{◌≡◌, ℕ, Bool, true, false, not, ◌&&◌, ◌==◌, nat_lt, IsTrue, List, ◌∷◌, Option, Some, None, if◌then◌else◌}
use Rattle.std.specs.List.{list_any}
use Rattle.std.specs.Str.{bytes_eq}
use Rattle.net_base.specs.Network.{PlainNet}
use Rattle.net_base.specs.Prefixes.{PlainPrefix}
use Rattle.policy_base.specs.Policies.{PlainPolicy}
use Rattle.policy_base.specs.Governing.{is_origin}
use Rattle.config_base.specs.declared.route.Route.{Route}
use Rattle.config_base.specs.Configs.{PlainConfig}
use Rattle.config_base.specs.Lines.{same_tag, own_route}
use Rattle.outcome_base.specs.Outcomes.{Failures, Outcome, is_dead, route_at, Chooses}

abbrev pub same_route : Route → Route → Bool
same_route g h = bytes_eq h.path g.path && (same_tag h.tag g.tag && h.pref == g.pref)

-- there is a route, and it is this one
abbrev pub is_route : Option Route → Route → Bool
is_route None h = false
is_route (Some g) h = same_route g h

-- there is a path, and it is this one
abbrev pub is_path : Option (List ℕ) → List ℕ → Bool
is_path None path = false
is_path (Some offer) path = bytes_eq path offer

-- the path with a peer in front, which isn't on it
abbrev pub unlooped : ℕ → List ℕ → Option (List ℕ)
unlooped peer path = if list_any (λ l. l == peer) path then None else Some (peer ∷ path)

-- a preference is higher than the best one; any is, where there is no best one
abbrev pub exceeds : ℕ → Option ℕ → Bool
exceeds pref None = true
exceeds pref (Some best) = nat_lt best pref

-- there is a route, and its preference is higher
abbrev pub is_higher : Option Route → Option ℕ → Bool
is_higher None best = false
is_higher (Some g) best = exceeds g.pref best

-- the other end of a link of a location
abbrev pub far_end : ℕ → ℕ × ℕ → Option ℕ
far_end at link = if link.0 == at then Some link.1 else (if link.1 == at then Some link.0 else None)

-- what a stable outcome says of one router
pub record IsSettledAt (net : PlainNet) (policy : PlainPolicy) (config : PlainConfig) (f : Failures) (p : PlainPrefix) (outcome : Outcome) (r : ℕ) : Type 0 where
  pub dead : IsTrue (is_dead f r) → route_at outcome r ≡ None
  pub own : IsTrue (is_origin net policy p r && not (is_dead f r)) → route_at outcome r ≡ Some (own_route net config p r)
  pub chooses : IsTrue (not (is_origin net policy p r) && not (is_dead f r)) → Chooses net policy config f p outcome r
