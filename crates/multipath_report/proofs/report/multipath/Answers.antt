use Rattle.std.proofs.Common.{◌≡◌, ◌∙◌, ℕ, List, ap, filter, length, not}
use Rattle.net_base.specs.declared.loc.LocSet.{LocSet}
use Rattle.location_names.specs.Neighbours.{is_held}
use Rattle.scenarios.specs.Scenarios.{failures_of}
use Rattle.multipath_law.specs.Carried.{live_links}
use Rattle.multipath_report.specs.Idle.{is_used_in}
use Rattle.multipath_report.proofs.Finding.{members, used}
use Rattle.multipath_report.proofs.report.multipath.Goals as goal

pub returns : goal.returns
returns c =
    let s = c.args.situation.now in
    let rules = c.known_net.ensures in
    let sets = c.in_ok-sets.sets.items in
    let are = c.in_ok-sets.ensures in
    let live : c.as_slice-live.result.now ≡ live_links s.net.now (failures_of s.scenario.now) = c.as_slice-live.ensures ∙ c.in_ok-links.ensures in
    record {
      sets = members s rules c.from_vec.result (λ r z. ap (λ (held : List LocSet). is_held held r z) c.from_vec.ensures ∙ are r z);
      is_used = is_used_in s sets;
      each = used s rules sets are;
      idle = c.in_ok-idle.ensures ∙ (λ i. filter (λ (link : ℕ × ℕ). not (is_used_in s (c.deref.ensures.value i) link)) (live i));
      live = ap length live;
    }
