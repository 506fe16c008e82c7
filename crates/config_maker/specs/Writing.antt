-- The blocks that are written of steps and starts.
use Rattle.std.specs.Prelude.{ℕ, List, length, map, filter}
use Rattle.net_base.specs.Network.{PlainNet, is_peer, asn_of, id_of, name_of}
use Rattle.net_base.specs.Locations.{numbers_below, neighbours}
use Rattle.config_base.specs.declared.config.RouterConfig.{RouterConfig}
use Rattle.config_base.specs.declared.config.Session.{Session}
use Rattle.config_base.specs.declared.config.Import.{Import}
use Rattle.config_base.specs.declared.config.Export.{Export}
use Rattle.config_base.specs.declared.config.Origination.{Origination}
use Rattle.config_maker.specs.declared.hop.Hop.{Hop}
use Rattle.config_maker.specs.declared.hop.Announced.{Announced}
use Rattle.config_maker.specs.Hops.{goes, stands}

abbrev pub export_line : Hop → Export
export_line hop = record { class = hop.class; tag = hop.tag }

abbrev pub import_line : Hop → Import
import_line hop = record { class = hop.class; tag = hop.tag; set = hop.set; pref = hop.pref }

abbrev pub own_line : Announced → Origination
own_line a = record { class = a.class; prefix = a.prefix; tag = a.tag }

-- the block of z, by the hops that come from there and those that go there
abbrev pub session_with : PlainNet → List Hop → List Hop → ℕ → Session
session_with net taken sent z = record {
  name = name_of net z;
  asn = asn_of net z;
  peer = is_peer net z;
  imports = map import_line taken;
  exports = map export_line sent;
}

-- the block of z in the block of x
abbrev pub session_of : PlainNet → List Hop → ℕ → ℕ → Session
session_of net hops x z = session_with net (filter (goes z x) hops) (filter (goes x z) hops) z

abbrev pub router_of : PlainNet → List Hop → List Announced → ℕ → RouterConfig
router_of net hops announced x = record {
  name = name_of net x;
  asn = asn_of net x;
  id = id_of net x;
  own = map own_line (filter (stands x) announced);
  sessions = map (session_of net hops x) (neighbours net x);
}

abbrev pub routers_of : PlainNet → List Hop → List Announced → List RouterConfig
routers_of net hops announced = map (router_of net hops announced) (numbers_below (length net.routers))
