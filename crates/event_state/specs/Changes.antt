-- A world in which one thing has changed.
use Rattle.std.specs.Prelude.{ℕ, Bool, List, Option, if◌then◌else◌}
use Rattle.config_base.specs.declared.route.Route.{Route}
use Rattle.event_base.specs.World.{World, at, is}

-- what waits from a to b
abbrev pub with_queue : ℕ → ℕ → List (Option Route) → World Route → World Route
with_queue a b ms w = record { down = w.down; cut = w.cut; silent = w.silent; queue = λ x y. if is a b x y then ms else w.queue x y; heard = w.heard; queued = w.queued; route = w.route }

-- what b has heard from a
abbrev pub with_heard : ℕ → ℕ → Option Route → World Route → World Route
with_heard a b m w = record { down = w.down; cut = w.cut; silent = w.silent; queue = w.queue; heard = λ x y. if is a b x y then m else w.heard x y; queued = w.queued; route = w.route }

-- what a last queued to b
abbrev pub with_queued : ℕ → ℕ → Option Route → World Route → World Route
with_queued a b m w = record { down = w.down; cut = w.cut; silent = w.silent; queue = w.queue; heard = w.heard; queued = λ x y. if is a b x y then m else w.queued x y; route = w.route }

-- what r holds
abbrev pub with_route : ℕ → Option Route → World Route → World Route
with_route r h w = record { down = w.down; cut = w.cut; silent = w.silent; queue = w.queue; heard = w.heard; queued = w.queued; route = λ x. if at r x then h else w.route x }

-- whether r is down
abbrev pub with_mark : ℕ → Bool → World Route → World Route
with_mark r v w = record { down = λ x. if at r x then v else w.down x; cut = w.cut; silent = w.silent; queue = w.queue; heard = w.heard; queued = w.queued; route = w.route }

-- whether the direction from a to b is down
abbrev pub with_cut_way : ℕ → ℕ → Bool → World Route → World Route
with_cut_way a b v w = record { down = w.down; cut = λ x y. if is a b x y then v else w.cut x y; silent = w.silent; queue = w.queue; heard = w.heard; queued = w.queued; route = w.route }

-- whether the peer p is silent towards r
abbrev pub with_silence : ℕ → ℕ → Bool → World Route → World Route
with_silence r p v w = record { down = w.down; cut = w.cut; silent = λ x y. if is r p x y then v else w.silent x y; queue = w.queue; heard = w.heard; queued = w.queued; route = w.route }
