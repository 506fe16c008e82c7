use Rattle.std.proofs.Common.{◌++◌, List, ℕ, codes, ap, ◌∙◌}
use Rattle.std.specs.Fmt.{decimal}
use Rattle.std.proofs.lemmas.List.{append_assoc}
use Rattle.std.proofs.lemmas.Result.{IfOk-weaker}
use Rattle.promises_text.specs.Texts.{apart_line, two_ranks}
use Rattle.promises_text.proofs.last.push_apart.Goals as goal

pub returns : goal.returns
unfolding apart_line
returns c =
    let x = c.args.pair.now in
    let ranks = two_ranks x.better x.worse in
    let before = c.args.text.now.items in
    let word = codes "apart statement " in
    IfOk-weaker c.push_ranks.result _ _ (λ u is.
    is ∙ ap (λ (t : List ℕ). t ++ ranks) (c.in_ok-push_number.ensures ∙ ap (λ (t : List ℕ). t ++ decimal c.from.result) (c.in_ok-push_bytes.ensures) ∙ ap (λ n. (before ++ word) ++ decimal n) c.from.ensures)
    ∙ append_assoc (before ++ word) (decimal x.statement) ranks ∙ append_assoc before word (decimal x.statement ++ ranks)) c.push_ranks.ensures
