use Rattle.std.proofs.Common.{◌++◌, ℕ, List, codes, ap, ◌∙◌, append_assoc}
use Rattle.compare_lines.specs.Lists.{but_text, router_names}
use Rattle.compare_lines.proofs.routers.push_all_but.Goals as goal

pub returns : goal.returns
returns c =
    let but = but_text (router_names c.args.net.now) c.args.others.now in
    c.in_ok-push_but.ensures ∙ ap (λ (t : List ℕ). t ++ but) c.in_ok-push_bytes.ensures ∙ append_assoc c.args.text.now.items (codes "all routers") but
