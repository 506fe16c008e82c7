use Rattle.std.proofs.Common.{ℕ, Bool, Option, ap, ◌∙◌}
use Rattle.net_base.specs.declared.loc.LocSet.{LocSet}
use Rattle.net_base.specs.Sets.{holds}
use Rattle.net_base.proofs.NetSetLaws.{holds-peers}
use Rattle.policy_base.specs.Governing.{is_origin_by}
use Rattle.scenarios.proofs.origins.origins_at.Goals as goal

pub returns-in-None : goal.returns-in-None
returns-in-None c = λ l.
    let net = c.args.net.now in
    ap (λ (s : LocSet). holds s l) c.peer_set.ensures
    ∙ ap (λ (o : ℕ → Bool). o l) (holds-peers net c.known_net.ensures)
    ∙ ap (λ (o : Option LocSet). is_origin_by net o l) c.in-None.ensures
