use Rattle.std.proofs.Common.{ℕ, sym, subst, ◌∙◌, ◌&&◌, ◌≡◌, false, arith}
use Rattle.net_base.specs.declared.loc.LocSet.{LocSet}
use Rattle.net_base.specs.Sets.{holds}
use Rattle.policy_rules.proofs.NoPeers.{no_peer}
use Rattle.policy_rules.proofs.origins.has_peer.Goals as goal

pub returns-then-is_empty : goal.returns-then-is_empty
returns-then-is_empty c =
    let apart = λ (l : ℕ). subst (λ (peers : LocSet). (holds c.args.set.now l && holds peers l) ≡ false) c.requires (sym (c.common.ensures.holds l) ∙ c.is_empty.ensures.holds c.if-is_empty.true l) in
    sym (no_peer c.args.net.now c.args.set.now (omega (arith, c.peers.ensures.rules.routers, c.peers.ensures.rules.peers)) apart)
