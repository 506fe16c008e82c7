use Rattle.std.proofs.Common.{◌<◌, ◌∙◌, ℕ, length, sym}
use Rattle.std.specs.Prelude.{IfNone, IfSome}
use Rattle.std.proofs.lemmas.Bool.{false≢true}
use Rattle.std.proofs.lemmas.Result.{IfOk-weaker}
use Rattle.net_base.specs.Sets.{holds}
use Rattle.evidence_law.specs.Faithful.{HasWalks}
use Rattle.walk_check.specs.Alike.{AreAlike, AreUnlike}
use Rattle.walk_check.proofs.AlikeWalks.{IfNone-weaker, IfSome-weaker, no_walks_from_unlike, walks_from_alike}
use Rattle.walk_check.proofs.FormedParts.{single_from_formed}
use Rattle.walk_check.proofs.ReachedNodes.{reached_from_run, run_from_reached}
use Rattle.walk_check.proofs.walk_rule.walks.Goals as goal

pub alike-requires-clause-graph : goal.alike-requires-clause-graph
alike-requires-clause-graph c =
    single_from_formed c.args.net.now (holds c.args.case.now.origins) c.args.case.now.external c.args.graph.now (c.in_ok-is_well_formed.ensures.0 c.if-not-branch.false)

pub returns-then-not-branch-2-clause-fails : goal.returns-then-not-branch-2-clause-fails
returns-then-not-branch-2-clause-fails c = λ s faithful has.
    absurd (false≢true (sym c.if-not-branch-2.true ∙ c.in_ok-are_ended.ensures.1 (λ n within. let e = has.is_ended n within in reached_from_run c.args.graph.now e.0 n e.2)))

pub returns-clause-holds : goal.returns-clause-holds
returns-clause-holds c = λ s faithful.
    let net = c.args.net.now in
    let origin = holds c.args.case.now.origins in
    let external = c.args.case.now.external in
    let t = c.args.live.now in
    let g = c.args.graph.now in
    let formed = c.in_ok-is_well_formed.ensures.0 c.if-not-branch.false in
    let single = single_from_formed net origin external g formed in
    let ended = λ (n : ℕ) (within : n < length g.nodes). run_from_reached g single n (c.in_ok-are_ended.ensures.0 c.if-not-branch-2.false n within) in
    IfOk-weaker c.alike.result (λ o. IfSome o (AreAlike t g)) (λ o. IfSome o (λ _. HasWalks net s origin external g))
    (λ o. IfSome-weaker o (AreAlike t g) (λ _. HasWalks net s origin external g) (λ k alike. walks_from_alike net s origin external t g c.alike.ensures.rules.0 c.alike.ensures.rules.1
    (record { formed = faithful.formed; has_run = faithful.has_run; has_no_other = faithful.has_no_other; is_ended = faithful.is_ended }) formed k alike ended)) c.alike.ensures.alike

pub returns-clause-fails : goal.returns-clause-fails
returns-clause-fails c = λ s faithful.
    let net = c.args.net.now in
    let origin = holds c.args.case.now.origins in
    let external = c.args.case.now.external in
    let t = c.args.live.now in
    let g = c.args.graph.now in
    let formed = c.in_ok-is_well_formed.ensures.0 c.if-not-branch.false in
    IfOk-weaker c.alike.result (λ o. IfNone o (AreUnlike t g)) (λ o. IfNone o (HasWalks net s origin external g → ⊥))
    (λ o. IfNone-weaker o (AreUnlike t g) (HasWalks net s origin external g → ⊥) (no_walks_from_unlike net s origin external t g c.alike.ensures.rules.0 c.alike.ensures.rules.1
    (record { formed = faithful.formed; has_run = faithful.has_run; has_no_other = faithful.has_no_other; is_ended = faithful.is_ended }) formed)) c.alike.ensures.unlike
