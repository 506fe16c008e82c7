use Rattle.std.proofs.Common.{◌++◌, List, ℕ, codes, ap, ◌∙◌}
use Rattle.std.specs.Fmt.{decimal}
use Rattle.std.proofs.lemmas.List.{append_assoc}
use Rattle.std.proofs.lemmas.Result.{IfOk-weaker}
use Rattle.promises_text.specs.Texts.{last_rank, two_ranks}
use Rattle.promises_text.proofs.last.push_ranks.Goals as goal

pub returns : goal.returns
unfolding two_ranks
returns c =
    let worse = last_rank c.args.worse in
    let before = c.args.text.now.items in
    let word = codes " alternatives " in
    IfOk-weaker c.push_last_rank.result _ _ (λ u is.
    is ∙ ap (λ (t : List ℕ). t ++ worse) (c.in_ok-push_number.ensures ∙ ap (λ (t : List ℕ). t ++ decimal c.from.result) (c.in_ok-push_bytes.ensures) ∙ ap (λ n. (before ++ word) ++ decimal n) c.from.ensures)
    ∙ append_assoc (before ++ word) (decimal c.args.better) worse ∙ append_assoc before word (decimal c.args.better ++ worse)) c.push_last_rank.ensures
