-- A world that is changed, with notes of how the changes are undone.
use Rattle.std.specs.Prelude.{◌≡◌, ⊤, Result, OnOk, OnErr}
use Rattle.config_base.specs.declared.route.Route.{Route}
use Rattle.event_base.specs.World.{Speakers, World}
use Rattle.event_state.specs.States.{setting, speakers, state}
use Rattle.event_core.specs.declared.changing.Changing.{Changing}
use Rattle.event_core.specs.Changes.{undone}

-- it is the same world, what no event changes is as before, and so is the world that is left where all that is noted is undone
pub record Follows (before after : Changing) : Type 0 where
  pub same : after.world.ghost_name ≡ before.world.ghost_name
  pub setting : setting after.world.now ≡ setting before.world.now
  pub back : undone before.world.now.net.now after.log.now.items (state after.world.now) ≡ undone before.world.now.net.now before.log.now.items (state before.world.now)

-- where it succeeds, the world is what `f` makes of it by what speaks there; and whether it does or not, all is noted
pub record Makes {E : Type 0} (f : Speakers Route → World Route → World Route) (before after : Changing) (result : Result ⊤ E) : Type 0 where
  pub ok : OnOk result (state after.world.now ≡ f (speakers before.world.now) (state before.world.now))
  pub follows : Follows before after

-- the same, but that all is noted only where it fails
pub record Ends {E : Type 0} (f : Speakers Route → World Route → World Route) (before after : Changing) (result : Result ⊤ E) : Type 0 where
  pub ok : OnOk result (state after.world.now ≡ f (speakers before.world.now) (state before.world.now))
  pub same : after.world.ghost_name ≡ before.world.ghost_name
  pub setting : setting after.world.now ≡ setting before.world.now
  pub err : OnErr result (Follows before after)
