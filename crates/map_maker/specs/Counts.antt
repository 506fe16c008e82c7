-- How many lines the text of maps has.
use Rattle.std.specs.Prelude.{ℕ, ◌+◌, List, length, sum_by}
use Rattle.config_base.specs.declared.config.RouterConfig.{RouterConfig}
use Rattle.config_base.specs.declared.config.Session.{Session}
use Rattle.route_maps.specs.declared.maps.ListLine.{ListLine}
use Rattle.route_maps.specs.Maps.{PlainMaps}

-- the head line of a neighbour, its `in` lines and its `out` lines
abbrev pub lines_of_session : Session → ℕ
lines_of_session s = 1 + length s.imports + length s.exports

-- the head line of a router, its `network` lines, the blocks of its neighbours, and `end`
abbrev pub lines_of_router : RouterConfig → ℕ
lines_of_router r = 2 + length r.own + sum_by lines_of_session r.sessions

-- the first line, those of the lists, and those of the routers
abbrev pub line_count : PlainMaps → ℕ
line_count m = 1 + sum_by (λ (lines : List ListLine). length lines) m.lists + sum_by lines_of_router m.routers
