use Rattle.std.proofs.Common.{◌≡◌, ◌+◌, ◌++◌, ℕ, List, ap, ap₂, drop, subst, ◌∙◌, sym}
use Rattle.std.specs.List.{flat_map, AllByRecursion}
use Rattle.net_base.specs.Network.{PlainNet, IsNet, Ascend, IsLink}
use Rattle.config_base.specs.declared.route.Route.{Route}
use Rattle.event_base.specs.World.{World}
use Rattle.event_state.specs.States.{state}
use Rattle.waiting_report.specs.Lines.{link_lines}
use Rattle.waiting_report.proofs.Draining.{link_told}
use Rattle.waiting_report.proofs.told.push_links.Goals as goal

pub loop-link-preserved : goal.loop-link-preserved
loop-link-preserved c =
    let net = c.args.world.now.net.now in
    let now : World Route = state c.loop-link.world in
    let items = c.links-link-items.result.now in
    let i = c.loop-link.link-index in
    let link = c.link-item.result in
    let inv = c.loop-link.invariant in
    let text = c.loop-link.text.items in
    let same = ap (λ s. s.0) inv.setting in
    let rules : IsNet net = subst IsNet c.net-net.ensures c.links-link-items.ensures.rules in
    let all : items ≡ net.links = c.links-link-items.ensures.links ∙ ap (λ (n : PlainNet). n.links) c.net-net.ensures in
    let ascend : Ascend items = subst Ascend (sym all) rules.order in
    let are : AllByRecursion (IsLink net) items = subst (λ (ls : List (ℕ × ℕ)). AllByRecursion (IsLink net) ls) (sym all) rules.links in
    record {
      setting = c.push_link.ensures.setting ∙ inv.setting;
      told = ap₂ (λ (t : List ℕ) (v : World Route). t ++ flat_map (link_lines net v) (drop (i + 1) items))
          (c.in_ok-push_link.ensures.text ∙ ap (λ (n : PlainNet). text ++ link_lines n now link) same) c.in_ok-push_link.ensures.world
          ∙ link_told net now text link items i c.loop-link-test.true c.link-item.is ascend are
          ∙ inv.told;
    }
