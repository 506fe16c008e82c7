use Rattle.std.proofs.Common.{◌≡◌, ℕ, Bool, true, false, Option, Some, None, refl, sym, ap, subst, ◌∙◌, inl, inr}
use Rattle.std.specs.Option.{IfSome}
use Rattle.std.specs.Prelude.{is_some, option_map}
use Rattle.bit_rows.specs.Tables.{has_at}
use Rattle.graph_base.specs.Graphs.{PlainGraph}
use Rattle.graph_base.specs.Runs.{has_step}
use Rattle.graph_base.specs.declared.refutation.Why.{Why}
use Rattle.graph_base.specs.declared.refutation.Why.TheVariants.{RankWorse}
use Rattle.graph_base.proofs.StartsAndSteps.{step_nodes}
use Rattle.net_base.specs.declared.loc.LocSet.{LocSet}
use Rattle.relation_law.specs.Reasons.{IsFirstFailing, is_outranked, reason_at}
use Rattle.relation_law.specs.Views.{view_of}
use Rattle.relation_refute.specs.declared.faults.Fault.{Fault}
use Rattle.relation_refute.specs.Cells.{went}
use Rattle.relation_refute.specs.Faults.{RestsOn}
use Rattle.state_simulation.specs.Looked.{shown}
use Rattle.relation_refute.proofs.Faulting.{alone_rests, some_fails}
use Rattle.relation_refute.proofs.Firsts.{is_there}
use Rattle.relation_refute.proofs.faults.fault_of.Goals as goal

-- the step that was found
found : (g : PlainGraph) (reach gone : ℕ → ℕ → Bool) (m n t : ℕ) (o : Option ℕ) → o ≡ Some t → IfSome o (IsFirstFailing (shown g) reach gone m n) → IsFirstFailing (shown g) reach gone m n t
found g reach gone m n t o e h = subst (λ (o : Option ℕ). IfSome o (IsFirstFailing (shown g) reach gone m n)) e h

mapped_some : (o : Option Fault) (p : Option Why) → option_map (λ (f : Fault). f.why) o ≡ p → is_some p ≡ true → is_some o ≡ true
mapped_some None p e h = ap is_some e ∙ h
mapped_some (Some f) p e h = refl

pub returns-then-is_outranked-clause-reason : goal.returns-then-is_outranked-clause-reason
returns-then-is_outranked-clause-reason c =
    let claimed : LocSet = c.args.claimed.now in
    let worse : is_outranked (view_of c.args.maps.now.graph.now claimed) c.args.m c.args.n ≡ true =
    ap (λ z. is_outranked (view_of z claimed) c.args.m c.args.n) (sym c.graph.ensures) ∙ sym c.if-is_outranked.ensures in
    inl (worse, ap (λ (f : Fault). f.why) c.alone.ensures)

pub returns-then-is_outranked-clause-rests : goal.returns-then-is_outranked-clause-rests
returns-then-is_outranked-clause-rests c =
    subst (RestsOn (shown c.args.maps.now.graph.now) c.args.m c.args.n) (sym c.alone.ensures) (alone_rests (shown c.args.maps.now.graph.now) c.args.m c.args.n RankWorse (λ a b r. r))

pub unwrap-t-requires : goal.unwrap-t-requires
unwrap-t-requires c =
    let g : PlainGraph = c.args.maps.now.graph.now in
    let f = c.args.fallen.now in
    let claimed : LocSet = c.args.claimed.now in
    let better : is_outranked (view_of g claimed) c.args.m c.args.n ≡ false = ap (λ z. is_outranked (view_of z claimed) c.args.m c.args.n) (sym c.graph.ensures) ∙ sym c.if-is_outranked.ensures in
    is_there c.first_failing.result c.first_failing.ensures.none (some_fails g claimed c.requires.graph (has_at f.onwards) (went f c.args.round) c.args.m c.args.n c.requires.fails better)

pub fault_at-requires-clause-t : goal.fault_at-requires-clause-t
fault_at-requires-clause-t c =
    let g : PlainGraph = c.args.maps.now.graph.now in
    let f = c.args.fallen.now in
    let first = found g (has_at f.onwards) (went f c.args.round) c.args.m c.args.n c.unwrap-t.result c.first_failing.result c.unwrap-t.ensures c.first_failing.ensures.some in
    (step_nodes g c.args.n c.unwrap-t.result c.requires.graph first.step).1

pub unwrap-requires : goal.unwrap-requires
unwrap-requires c =
    let g : PlainGraph = c.args.maps.now.graph.now in
    let f = c.args.fallen.now in
    let t : ℕ = c.unwrap-t.result in
    let first = found g (has_at f.onwards) (went f c.args.round) c.args.m c.args.n t c.first_failing.result c.unwrap-t.ensures c.first_failing.ensures.some in
    mapped_some c.fault_at.result (reason_at (shown g) (has_at f.onwards) (went f c.args.round) c.args.m t) c.fault_at.ensures.why first.fails

pub returns-clause-reason : goal.returns-clause-reason
returns-clause-reason c =
    let g : PlainGraph = c.args.maps.now.graph.now in
    let f = c.args.fallen.now in
    let claimed : LocSet = c.args.claimed.now in
    let t : ℕ = c.unwrap-t.result in
    let better : is_outranked (view_of g claimed) c.args.m c.args.n ≡ false = ap (λ z. is_outranked (view_of z claimed) c.args.m c.args.n) (sym c.graph.ensures) ∙ sym c.if-is_outranked.ensures in
    let first = found g (has_at f.onwards) (went f c.args.round) c.args.m c.args.n t c.first_failing.result c.unwrap-t.ensures c.first_failing.ensures.some in
    let here : IsFirstFailing (view_of g claimed) (has_at f.onwards) (went f c.args.round) c.args.m c.args.n t = record { step = first.step; fails = first.fails; first = first.first } in
    inr (better, (t, here, sym c.fault_at.ensures.why ∙ ap (option_map (λ (x : Fault). x.why)) c.unwrap.ensures))

pub returns-clause-rests : goal.returns-clause-rests
returns-clause-rests c =
    let g : PlainGraph = c.args.maps.now.graph.now in
    let f = c.args.fallen.now in
    let t : ℕ = c.unwrap-t.result in
    let first = found g (has_at f.onwards) (went f c.args.round) c.args.m c.args.n t c.first_failing.result c.unwrap-t.ensures c.first_failing.ensures.some in
    subst (λ (o : Option Fault). IfSome o (λ x. (n : ℕ) → has_step g n t ≡ true → RestsOn (shown g) c.args.m n x)) c.unwrap.ensures c.fault_at.ensures.rests c.args.n first.step
