use Rattle.std.proofs.Common.{◌≡◌, rules, Some}
use Rattle.std.specs.Prelude.{◌&&◌, ◌==◌}
use Rattle.std.specs.List.{find}
use Rattle.net_base.specs.Prefixes.{same_prefix}
use Rattle.config_base.specs.declared.config.Origination.{Origination}
use Rattle.config_base.specs.Lines.{router_at, class_of}
use Rattle.config_base.proofs.LineLemmas.{own_tag_is}
use Rattle.config_base.proofs.lines.originated_tag.Goals as goal

pub returns : goal.returns
returns c =
    let block : router_at c.args.net.now c.args.config.now c.args.router ≡ Some c.in_ok-block.block.now = search rules in
    let class : class_of c.args.config.now c.args.prefix ≡ Some c.in_ok-class.class = search rules in
    let line : find (λ (o : Origination). o.class == c.in_ok-class.class && same_prefix o.prefix c.args.prefix) c.in_ok-block.block.now.own ≡ Some c.in_ok-own.own = search rules in
    own_tag_is c.args.net.now c.args.config.now c.args.prefix c.args.router c.in_ok-block.block.now c.in_ok-class.class c.in_ok-own.own block class line
