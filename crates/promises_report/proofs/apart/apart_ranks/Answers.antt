use Rattle.std.proofs.Common.{rules, ◌≡◌, ◌++◌, [], ℕ, Bool, List, ap, ◌∙◌}
use Rattle.policy_base.specs.Policies.{policy_of}
use Rattle.promises_report.specs.declared.apart.ApartRanks.{ApartRanks}
use Rattle.promises_report.specs.Apart.{all_apart, ranks_meet}
use Rattle.promises_report.specs.Cases.{cases_of}
use Rattle.promises_report.specs.Tables.{meet_among}
use Rattle.promises_report.proofs.Marking.{same_everywhere, told_meets}
use Rattle.promises_report.proofs.apart.apart_ranks.Goals as goal

pub returns : goal.returns
returns c = λ xs told.
    let net = c.args.net.now in
    let ds = c.args.cases.now in
    let policy = policy_of c.args.policy.now in
    let none : c.new-pairs.result.items ≡ [] = search rules in
    let same = same_everywhere (meet_among net ds) (ranks_meet net (cases_of ds) xs) (told_meets net ds xs told) in
    c.in_ok-push_statements.ensures ∙ ap (λ (ps : List ApartRanks). ps ++ all_apart (meet_among net ds) 1 policy.statements) none
    ∙ ap (λ (met : ℕ → ℕ → ℕ → Bool). all_apart met 1 policy.statements) same
