use Rattle.std.proofs.Common.{◌++◌, ap, append_assoc, flat_map, sym, take, ◌∙◌}
use Rattle.std.specs.Prelude.{codes}
use Rattle.std.proofs.lemmas.List.{flat_map_more}
use Rattle.policy_text.specs.PolicyText.{next_name}
use Rattle.policy_text.proofs.Adding.{one_more}
use Rattle.policy_text.proofs.names.push_more_names.Goals as goal

pub loop-name-preserved : goal.loop-name-preserved
loop-name-preserved c =
    let names = c.args.names.now in
    let first = c.args.text.now.items in
    let i = c.loop-name.name-index in
    let name = c.name-item.result in
    c.in_ok-push_name.ensures.text ∙ ap (λ t. t ++ name) c.in_ok-push_bytes.ensures ∙ append_assoc c.loop-name.text.items (codes ", ") name ∙ ap (λ t. t ++ next_name name) c.loop-name.invariant
    ∙ flat_map_more next_name first (take i names) name
    ∙ ap (λ ns. first ++ flat_map next_name ns) (sym (one_more names i name c.loop-name-test.true c.name-item.is))
