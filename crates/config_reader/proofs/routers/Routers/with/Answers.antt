use Rattle.config_reader.proofs.KnownRouters.{known_more}
use Rattle.config_reader.proofs.routers.Routers.with.Goals as goal

pub invariant_of-result : goal.invariant_of-result
invariant_of-result c =
    let noted = c.in_ok-note.ensures in
    rw c.in_ok-push.ensures.ok (known_more _ _ _ _ _ _ _ c.args.router c.self.invariant noted.names noted.asns noted.ids)
