use Rattle.std.proofs.Common.{ap, ◌∙◌}
use Rattle.std.specs.Prelude.{is_some}
use Rattle.net_base.specs.Network.{joins}
use Rattle.net_base.proofs.LinkSearch.{is_some-position}
use Rattle.net_base.proofs.net.Net.linked.Goals as goal

pub returns : goal.returns
returns c = c.is_some.ensures ∙ ap is_some c.link_place.ensures ∙ is_some-position (joins c.args.a c.args.b) c.args.self.now.links
