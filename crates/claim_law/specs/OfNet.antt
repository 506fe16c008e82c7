-- When a configuration is of a network: its blocks bear the names, the numbers and the identifiers of the network's locations, and
-- routers originate what permitted walks end with.
use Rattle.std.specs.Prelude.{◌≡◌, ℕ, List, [], ◌∷◌, length, Some, option_map, slice_get}
use Rattle.list_law.specs.Members.{IsIn}
use Rattle.net_base.specs.declared.net.Site.{Site}
use Rattle.net_base.specs.Locations.{neighbours}
use Rattle.net_base.specs.Network.{PlainNet, asn_of, is_peer, site_of}
use Rattle.net_base.specs.Prefixes.{PlainPrefix, IsPrefix}
use Rattle.policy_base.specs.Policies.{PlainPolicy}
use Rattle.config_base.specs.declared.config.Origination.{Origination}
use Rattle.config_base.specs.declared.config.RouterConfig.{RouterConfig}
use Rattle.config_base.specs.declared.config.Session.{Session}
use Rattle.config_base.specs.Configs.{PlainConfig}
use Rattle.config_base.specs.Lines.{class_of}
use Rattle.claim_law.specs.Walked.{SomeWalkEnds}

-- the block of the neighbour z
pub record IsBlockFor (net : PlainNet) (z : ℕ) (b : Session) : Type 0 where
  pub name : option_map (λ (s : Site). s.name) (site_of net z) ≡ Some b.name
  pub asn : b.asn ≡ asn_of net z
  pub peer : b.peer ≡ is_peer net z

-- one block for each of these locations, in their order
abbrev pub AreBlocksFor : PlainNet → List ℕ → List Session → Type 0
AreBlocksFor net [] [] = Unit {0}
AreBlocksFor net [] (b ∷ bs) = ⊥
AreBlocksFor net (z ∷ zs) [] = ⊥
AreBlocksFor net (z ∷ zs) (b ∷ bs) = IsBlockFor net z b × AreBlocksFor net zs bs

-- the block of the router x
pub record IsRouterFor (net : PlainNet) (policy : PlainPolicy) (config : PlainConfig) (x : ℕ) (r : RouterConfig) : Type 0 where
  -- It has the router's name, number and identifier,
  pub site : site_of net x ≡ Some (record { name = r.name; asn = r.asn; id = r.id })
  -- and one block for each neighbour.
  pub sessions : AreBlocksFor net (neighbours net x) r.sessions
  -- It has an `originate` line, with the prefix's class, for each prefix of which a permitted walk ends at the router,
  pub originated : (p : PlainPrefix) → IsPrefix p → SomeWalkEnds net policy p (x ∷ [])
      → (o : Origination) × IsIn r.own o × (o.prefix ≡ p) × (class_of config p ≡ Some o.class)
  -- and no other.
  pub originates : (o : Origination) → IsIn r.own o → (class_of config o.prefix ≡ Some o.class) × SomeWalkEnds net policy o.prefix (x ∷ [])

-- The configuration is of this network: it has one block for each router, in their order.
pub record IsOfNet (net : PlainNet) (policy : PlainPolicy) (config : PlainConfig) : Type 0 where
  pub count : length config.routers ≡ length net.routers
  pub routers : (x : ℕ) (r : RouterConfig) → slice_get config.routers x ≡ Some r → IsRouterFor net policy config x r
