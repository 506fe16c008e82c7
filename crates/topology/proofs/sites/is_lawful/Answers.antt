use Rattle.std.proofs.Common.{◌≡◌, ℕ, refl, sym, ◌∙◌}
use Rattle.net_base.specs.Numbers.{is_peer_as}
use Rattle.topology.specs.declared.parts.Kind.{Kind}
use Rattle.topology.specs.declared.parts.Kind.TheVariants as kind
use Rattle.topology.specs.Rules.{is_lawful_as}
use Rattle.topology.proofs.sites.is_lawful.Goals as goal

not_routers : (k : Kind) (asn : ℕ) → (k ≡ kind.Routers → ⊥) → is_lawful_as k asn ≡ is_peer_as asn
not_routers kind.Routers asn other = absurd (other refl)
not_routers kind.Peers asn other = refl
not_routers kind.Links asn other = refl

pub returns-in-Routers : goal.returns-in-Routers
returns-in-Routers c = rw c.in-Routers.is c.router_as.ensures

pub returns-in_default : goal.returns-in_default
returns-in_default c = c.peer_as.ensures ∙ sym (not_routers c.args.kind c.args.asn c.in_default.not-Routers)
