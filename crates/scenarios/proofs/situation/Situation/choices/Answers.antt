use Rattle.std.proofs.Common.{◌<◌, ℕ, List, length, get_or, ap, subst, ◌∙◌}
use Rattle.std.specs.Prelude.{◌&&◌, ◌||◌, ◌==◌}
use Rattle.net_base.specs.Sets.{holds}
use Rattle.scenarios.specs.Situations.{held_from, outdone_from}
use Rattle.scenarios.proofs.Chosen.{told_more}
use Rattle.scenarios.proofs.situation.Situation.choices.Goals as goal

pub loop-link-preserved : goal.loop-link-preserved
loop-link-preserved c =
    let s = c.args.self.now in
    let link = c.link-item.result in
    let i = c.loop-link.link-index in
    let links = c.links-link-items.ensures.links in
    let within = subst (λ (ls : List (ℕ × ℕ)). i < length ls) links c.loop-link-test.true in
    let is = c.link-item.is ∙ ap (λ (ls : List (ℕ × ℕ)). get_or ls i link) links in
    let first = c.with_gift-choices.ensures in
    let second = c.with_gift-choices-in-loop-link in
    record {
      given =
          told_more (held_from s) s.net.now.links i link within is (holds c.loop-link.choices.given) (holds second.result.given) c.loop-link.invariant.given
          (λ r. second.ensures.given r ∙ ap (λ o. o || (r == link.1 && held_from s link.0 link.1)) (first.given r));
      outdone =
          told_more (outdone_from s) s.net.now.links i link within is (holds c.loop-link.choices.outdone) (holds second.result.outdone) c.loop-link.invariant.outdone
          (λ r. second.ensures.outdone r ∙ ap (λ o. o || (r == link.1 && outdone_from s link.0 link.1)) (first.outdone r));
    }
