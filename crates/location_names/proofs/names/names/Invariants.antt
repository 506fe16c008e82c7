use Rattle.std.proofs.Common.{◌≡◌, map, take}
use Rattle.net_base.specs.declared.net.Site.{Site}
use Rattle.net_base.specs.Network.{sites}
use Rattle.location_names.specs.Names.{texts}
use Rattle.location_names.proofs.names.names.Given as goal

abbrev pub invariant-loop-place : goal.invariant-loop-place
invariant-loop-place l = texts l.names.keys ≡ map (λ (s : Site). s.name) (take l.place (sites l.net))
