-- Changes of a world, and a list of them that is made backwards.
use Rattle.std.specs.Prelude.{Bool, List, [], ◌∷◌, if◌then◌else◌}
use Rattle.config_base.specs.declared.route.Route.{Route}
use Rattle.net_base.specs.Network.{PlainNet, is_router, linked}
use Rattle.event_base.specs.World.{World}
use Rattle.event_state.specs.Changes.{with_cut_way, with_heard, with_mark, with_queue, with_queued, with_route, with_silence}
use Rattle.event_state.specs.Idle.{without_last}
use Rattle.event_core.specs.declared.change.Change.{Change}
use Rattle.event_core.specs.declared.change.Change.TheVariants.{Down, Cut, Silent, Holds, Heard, Queued, Waiting, TakenBack}

-- whether what changes stands on the network
abbrev pub is_on : PlainNet → Change → Bool
is_on net (Down r v) = is_router net r
is_on net (Cut a b v) = linked net a b
is_on net (Silent r p v) = linked net r p
is_on net (Holds r h) = is_router net r
is_on net (Heard a b m) = linked net a b
is_on net (Queued a b m) = linked net a b
is_on net (Waiting a b ms) = linked net a b
is_on net (TakenBack a b) = linked net a b

abbrev pub with_change : Change → World Route → World Route
with_change (Down r v) w = with_mark r v w
with_change (Cut a b v) w = with_cut_way a b v w
with_change (Silent r p v) w = with_silence r p v w
with_change (Holds r h) w = with_route r h w
with_change (Heard a b m) w = with_heard a b m w
with_change (Queued a b m) w = with_queued a b m w
with_change (Waiting a b ms) w = with_queue a b ms w
with_change (TakenBack a b) w = with_queue a b (without_last (w.queue a b)) w

-- one that another of its kind undoes
abbrev pub IsSwap : Change → Type 0
IsSwap (TakenBack a b) = ⊥
IsSwap c = Unit {0}

-- a change of what isn't on the network changes nothing
abbrev pub changed : PlainNet → Change → World Route → World Route
changed net c w = if is_on net c then with_change c w else w

-- all are made, the last one first
abbrev pub undone : PlainNet → List Change → World Route → World Route
undone net [] w = w
undone net (c ∷ cs) w = changed net c (undone net cs w)
