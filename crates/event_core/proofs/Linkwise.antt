-- What is done to the links of a location, one after another.
use Rattle.std.proofs.Common.{◌≡◌, ℕ, ◌∷◌, [], List, ◌++◌, refl}
use Rattle.config_base.specs.declared.route.Route.{Route}
use Rattle.net_base.specs.Locations.{neighbours}
use Rattle.net_base.specs.Network.{IsNet}
use Rattle.event_base.specs.World.{Speakers, World, emptied, is, joins, tell}
use Rattle.event_law.proofs.Messages.{same_as_itself}
use Rattle.event_state.specs.declared.world.World.{World as Kept}
use Rattle.event_state.specs.States.{speakers, state}
use Rattle.event_core.specs.declared.telling.Deed.{Deed}
use Rattle.event_core.specs.declared.telling.Deed.TheVariants.{TellOther, TellBoth, Forget}
use Rattle.event_core.specs.Deeds.{to_link, to_links}
use Rattle.event_core.proofs.Steps.{emptied_around, told_around, told_out}
use Rattle.event_core.proofs.Tellings.{emptied_next, some, told_next}

-- to the links to these neighbours
abbrev pub to_some : Deed → ℕ → List ℕ → Speakers Route → World Route → World Route
to_some TellOther r us net w = tell net (some (is r) us) w
to_some TellBoth r us net w = tell net (some (joins r) us) w
to_some Forget r us net w = emptied net (some (joins r) us) w

pub to_none : (d : Deed) (r : ℕ) (net : Speakers Route) (w : World Route) → w ≡ to_some d r [] net w
to_none TellOther r net w = refl
to_none TellBoth r net w = refl
to_none Forget r net w = refl

module _ (kept : Kept) (r : ℕ) where
  pub to_next : (d : Deed) (us : List ℕ) (u : ℕ) (w : World Route) → to_link d r u (speakers kept) (to_some d r us (speakers kept) w) ≡ to_some d r (us ++ u ∷ []) (speakers kept) w
  to_next TellOther us u w = told_next (speakers kept) same_as_itself (is r) us u w
  to_next TellBoth us u w = told_next (speakers kept) same_as_itself (joins r) us u w
  to_next Forget us u w = emptied_next (speakers kept) (joins r) us u w

  pub to_all : IsNet kept.net.now → (d : Deed) → to_some d r (neighbours kept.net.now r) (speakers kept) (state kept) ≡ to_links d r (speakers kept) (state kept)
  to_all rules TellOther = told_out kept rules r (state kept)
  to_all rules TellBoth = told_around kept rules r (state kept)
  to_all rules Forget = emptied_around kept rules r
