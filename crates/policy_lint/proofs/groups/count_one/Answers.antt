use Rattle.std.proofs.Common.{◌≡◌, ◌+◌, ap, ◌∙◌, rules, unwrap_or}
use Rattle.std.specs.Prelude.{if◌then◌else◌}
use Rattle.std.specs.HashMap.{get_by}
use Rattle.std.specs.Str.{bytes_eq}
use Rattle.std.proofs.lemmas.Map.Text.{hash_map_updates_str}
use Rattle.policy_lint.specs.Groups.{count_of}
use Rattle.policy_lint.proofs.Naming.{count_changed}
use Rattle.policy_lint.proofs.groups.count_one.Goals as goal

pub returns : goal.returns
returns c = λ q.
    let text = c.args.text.now in
    let old = c.args.counts.now in
    let count : c.unwrap_or-count.result ≡ count_of old text = search rules in
    let changed = hash_map_updates_str text old c.insert.new.self _ c.in_ok-insert.ensures.updates q in
    ap (λ o. unwrap_or o 0) changed ∙ count_changed (bytes_eq text q) _ (get_by (λ k. bytes_eq q k.now) old)
    ∙ ap (λ n. if bytes_eq text q then n + 1 else count_of old q) count
