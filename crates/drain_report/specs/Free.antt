-- What no step is of.
use Rattle.std.specs.Prelude.{ℕ, Bool, not, ◌==◌}
use Rattle.net_base.specs.declared.loc.LocSet.{LocSet}
use Rattle.net_base.specs.Network.{PlainNet}
use Rattle.net_base.specs.Sets.{holds}
use Rattle.scenarios.specs.Surviving.{live_by}
use Rattle.scenarios.specs.declared.survivors.Survivors.{Survivors}
use Rattle.impact_law.specs.declared.impact.Cut.{Cut}
use Rattle.impact_law.specs.declared.impact.Cut.TheVariants.{Link, Router}

-- the step leads to l
abbrev pub leads_to : ℕ → ℕ × ℕ → Bool
leads_to l step = l == step.1

-- by what is left of the network where the links of steps are dead, and the routers to which a step leads
abbrev pub spared_by : PlainNet → Survivors → LocSet → Cut → Bool
spared_by net left ends (Link a b) = live_by net left a b
spared_by net left ends (Router r) = not (holds ends r)
