-- How many entries the lists of a world have.
use Rattle.std.specs.Prelude.{◌≡◌, ◌+◌, List, length}
use Rattle.net_base.specs.Network.{PlainNet}

-- as many as there are locations, and as many as there are directions
abbrev pub IsByLocation : {A : Type 0} → PlainNet → List A → Type 0
IsByLocation net xs = length xs ≡ length net.routers + length net.peers

abbrev pub IsByDirection : {A : Type 0} → PlainNet → List A → Type 0
IsByDirection net xs = length xs ≡ length net.links + length net.links
