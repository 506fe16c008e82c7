use Rattle.std.proofs.Common.{◌≡◌, ℕ, length}
use Rattle.std.proofs.lemmas.Result.{IfOk-weaker}
use Rattle.graph_base.specs.Runs.{rank_at, run}
use Rattle.evidence_law.specs.Faithful.{HasRank}
use Rattle.node_classes.specs.Classes.{class_in}
use Rattle.walk_check.specs.Firsts.{IsFirstOrNone, IsMet}
use Rattle.node_classes.proofs.Stages.{tied_some}
use Rattle.walk_check.proofs.RankWalks.{HasRank-met, IsFirstOrNone-same, rank-class}
use Rattle.walk_check.proofs.rank_rule.rank_fault.Goals as goal

pub returns-then-have_one_rank : goal.returns-then-have_one_rank
returns-then-have_one_rank c = λ net s origin external faithful has.
    let t = c.args.live.now in
    let g = c.args.graph.now in
    let k = c.args.classes.now in
    IsFirstOrNone-same (λ n. rank_at g n ≡ rank_at t (class_in k.graph n)) (HasRank net s origin g) (length g.nodes) c.first_by_classes.result
    (rank-class net s origin external t g c.have_one_rank.ensures.rules c.first_by_classes.ensures.rules faithful has k c.requires.alike
    (c.have_one_rank.ensures.one.0 c.if-have_one_rank.true)) c.first_by_classes.ensures.first

pub first_by_pairs-requires-clause-alike : goal.first_by_pairs-requires-clause-alike
first_by_pairs-requires-clause-alike c = λ path.
    tied_some (λ p n. class_in c.args.classes.now.live p ≡ class_in c.args.classes.now.graph n) (run c.args.live.now path) (run c.args.graph.now path) (c.requires.alike path)

pub returns : goal.returns
returns c = λ net s origin external faithful has.
    let t = c.args.live.now in
    let g = c.args.graph.now in
    IfOk-weaker c.first_by_pairs.result (λ o. IsFirstOrNone (λ n. (p : ℕ) → IsMet t g p n → rank_at g n ≡ rank_at t p) (length g.nodes) o)
    (λ o. IsFirstOrNone (HasRank net s origin g) (length g.nodes) o)
    (λ o. IsFirstOrNone-same (λ n. (p : ℕ) → IsMet t g p n → rank_at g n ≡ rank_at t p) (HasRank net s origin g) (length g.nodes) o
    (λ n within. let same =
    HasRank-met net s origin external t g c.have_one_rank.ensures.rules c.first_by_pairs.ensures.rules faithful has n within in
    (same.1, same.0))) c.first_by_pairs.ensures.first
