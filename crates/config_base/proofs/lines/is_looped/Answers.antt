use Rattle.std.proofs.Common.{sym, ◌∙◌}
use Rattle.std.specs.Prelude.{◌==◌}
use Rattle.std.specs.List.{list_any}
use Rattle.std.proofs.lemmas.Bool.{cond-false, cond-true}
use Rattle.list_law.proofs.Tests.{list_any-map}
use Rattle.net_base.specs.declared.net.Site.{Site}
use Rattle.net_base.specs.Network.{asn_of}
use Rattle.config_base.proofs.lines.is_looped.Goals as goal

pub returns-then-is_peer : goal.returns-then-is_peer
returns-then-is_peer c =
    c.has_router_number.ensures
    ∙ sym (cond-true _ _ _ (sym c.is_peer.ensures ∙ c.if-is_peer.true) ∙ list_any-map (λ n. list_any (λ (r : Site). r.asn == n) c.args.net.now.routers) (asn_of c.args.net.now) c.args.path.now)

pub returns-else-is_peer : goal.returns-else-is_peer
returns-else-is_peer c =
    c.has_number.ensures ∙ rw c.as_number.ensures (
    sym (cond-false _ _ _ (sym c.is_peer.ensures ∙ c.if-is_peer.false) ∙ list_any-map (λ n. n == asn_of c.args.net.now c.args.at) (asn_of c.args.net.now) c.args.path.now))
