-- AS numbers and tags.
use Rattle.std.specs.Prelude.{ℕ, Bool, ◌&&◌, ◌||◌, nat_le}
use Rattle.net_base.specs.declared.numbers.Tag.{Tag}

-- a private AS number of two octets or of four
abbrev pub is_router_as : ℕ → Bool
is_router_as n = (nat_le 64512 n && nat_le n 65534) || (nat_le 4200000000 n && nat_le n 4294967294)

-- any AS number of four octets but the reserved ones: the first, and the last of two octets and of four
abbrev pub is_peer_as : ℕ → Bool
is_peer_as n = (nat_le 1 n && nat_le n 65534) || (nat_le 65536 n && nat_le n 4294967294)

-- a router's number with a value of four octets that isn't 0
abbrev pub is_tag : Tag → Bool
is_tag t = is_router_as t.asn && (nat_le 1 t.value && nat_le t.value 4294967295)

-- no tag
abbrev pub no_tag : Tag
no_tag = record { asn = 0; value = 0 }
