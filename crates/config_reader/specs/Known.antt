-- What is kept beside the routers that are read, so that each isn't looked at.
use Rattle.std.specs.Prelude.{◌≡◌, ℕ, List, nat_eq}
use Rattle.std.specs.List.{list_any}
use Rattle.std.specs.Str.{bytes_eq}
use Rattle.config_base.specs.declared.config.RouterConfig.{RouterConfig}

-- The names, AS numbers and identifiers are those of the routers, in whatever order.
pub record AreKnown (names : List (List ℕ)) (asns ids : List ℕ) (routers : List RouterConfig) : Type 0 where
  pub by_name : (name : List ℕ) → list_any (bytes_eq name) names ≡ list_any (λ (r : RouterConfig). bytes_eq name r.name) routers
  pub by_asn : (asn : ℕ) → list_any (nat_eq asn) asns ≡ list_any (λ (r : RouterConfig). nat_eq asn r.asn) routers
  pub by_id : (id : ℕ) → list_any (nat_eq id) ids ≡ list_any (λ (r : RouterConfig). nat_eq id r.id) routers
