-- Messages wait on links alone.
use Rattle.std.proofs.Common.{◌≡◌, ℕ, Bool, false, not, ◌&&◌, List, [], ap}
use Rattle.net_base.specs.Network.{PlainNet, IsNet, linked}
use Rattle.net_base.specs.Prefixes.{PlainPrefix}
use Rattle.policy_base.specs.Policies.{PlainPolicy}
use Rattle.config_base.specs.Configs.{PlainConfig}
use Rattle.config_base.specs.declared.route.Route.{Route}
use Rattle.event_base.specs.declared.event.Event.{Event}
use Rattle.event_base.specs.Speaking.{speakers_of}
use Rattle.event_base.specs.Steps.{opening}
use Rattle.event_base.specs.World.{Speakers, World, live}
use Rattle.event_law.proofs.Keeping.{opening-keeps, run-keeps}
use Rattle.event_law.proofs.Quiet.{are_speakers}
use Rattle.event_law.specs.Laws.{world_after}

pub on_links : (net : PlainNet) (policy : PlainPolicy) (config : PlainConfig) (p : PlainPrefix) (es : List Event) → IsNet net
    → (a b : ℕ) → linked net a b ≡ false → (world_after net policy config p es).queue a b ≡ []
on_links net policy config p es rules a b off =
    let S : Speakers Route = speakers_of net policy config p in
    let speak = are_speakers net policy config p rules in
    let w : World Route = world_after net policy config p es in
    let dead : live S w a b ≡ false = ap (λ (on : Bool). on && (not (w.cut a b) && (not (w.down a) && not (w.down b)))) off in
    ((run-keeps S speak es (opening S) (opening-keeps S speak)).empty a b dead).0
