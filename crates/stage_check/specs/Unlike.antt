-- Where two configurations aren't of the same routers with the same neighbours.
use Rattle.std.specs.Prelude.{ℕ, ◌+◌, ◌==◌, Bool, ◌&&◌, true, false, not, List, [], ◌∷◌, Option, Some, None, if◌then◌else◌}
use Rattle.std.specs.Str.{bytes_eq}
use Rattle.config_base.specs.declared.config.RouterConfig.{RouterConfig}
use Rattle.config_base.specs.declared.config.Session.{Session}

-- both are peers, or none is
abbrev pub same_kind : Bool → Bool → Bool
same_kind true b = b
same_kind false b = not b

-- two blocks are of the same neighbour
abbrev pub same_neighbour : Session → Session → Bool
same_neighbour a b = bytes_eq a.name b.name && (a.asn == b.asn && same_kind a.peer b.peer)

-- in the same order
abbrev pub same_neighbours : List Session → List Session → Bool
same_neighbours [] [] = true
same_neighbours (a ∷ xs) (b ∷ ys) = same_neighbour a b && same_neighbours xs ys
same_neighbours _ _ = false

-- two blocks are of the same router, whatever its neighbours are
abbrev pub same_numbers : RouterConfig → RouterConfig → Bool
same_numbers a b = bytes_eq a.name b.name && (a.asn == b.asn && a.id == b.id)

-- and with the same neighbours
abbrev pub same_router : RouterConfig → RouterConfig → Bool
same_router a b = same_numbers a b && same_neighbours a.sessions b.sessions

-- the number of the first router that isn't the same in both, or that only one has, where they have the numbers from this one on
abbrev pub unlike_from : ℕ → List RouterConfig → List RouterConfig → Option ℕ
unlike_from n [] [] = None
unlike_from n (a ∷ xs) (b ∷ ys) = if same_router a b then unlike_from (n + 1) xs ys else Some n
unlike_from n _ _ = Some n

abbrev pub first_unlike : List RouterConfig → List RouterConfig → Option ℕ
first_unlike old new = unlike_from 1 old new
