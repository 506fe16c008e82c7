use Rattle.std.proofs.Common.{◌≡◌, ℕ, true, false, Option, Some, sym, ap, subst, ◌∙◌}
use Rattle.std.specs.Option.{IfNone}
use Rattle.std.specs.Prelude.{option_map}
use Rattle.bit_rows.specs.Tables.{has_at}
use Rattle.graph_base.specs.Graphs.{PlainGraph}
use Rattle.graph_base.specs.Runs.{is_listener, place_of}
use Rattle.graph_base.specs.declared.refutation.Why.TheVariants.{NoStep, StepWorse, LoopWorse, ListenerWorse}
use Rattle.relation_law.specs.Reasons.{none as nobody}
use Rattle.relation_law.specs.Rounds.{has_answer}
use Rattle.relation_refute.specs.declared.faults.Fault.{Fault}
use Rattle.relation_refute.specs.Cells.{went}
use Rattle.relation_refute.specs.Faults.{RestsOn}
use Rattle.state_simulation.specs.Looked.{shown}
use Rattle.relation_refute.proofs.Faulting.{alone_rests, answers, loop_rests, reason_alone, reason_deaf, reason_heard, reason_loop, reason_step, step_rests}
use Rattle.relation_refute.proofs.faults.fault_at.Goals as goal

pub returns-then-is_heard_at-clause-why : goal.returns-then-is_heard_at-clause-why
returns-then-is_heard_at-clause-why c =
    let g : PlainGraph = c.args.maps.now.graph.now in
    let f = c.args.fallen.now in
    let l : is_listener g c.args.t ≡ true = ap (λ z. is_listener z c.args.t) (sym c.graph-graph.ensures) ∙ sym c.if-hears.ensures in
    reason_heard g c.args.m c.args.t (has_at f.onwards) (went f c.args.round) l (sym c.if-is_heard_at.ensures)

pub returns-then-hears-clause-why : goal.returns-then-hears-clause-why
returns-then-hears-clause-why c =
    let g : PlainGraph = c.args.maps.now.graph.now in
    let f = c.args.fallen.now in
    let l : is_listener g c.args.t ≡ true = ap (λ z. is_listener z c.args.t) (sym c.graph-graph.ensures) ∙ sym c.if-hears.ensures in
    let place : c.location-at.result ≡ place_of g c.args.t = c.location-at.ensures ∙ ap (λ z. place_of z c.args.t) c.graph-graph.ensures in
    ap (λ (x : Fault). Some x.why) c.alone.ensures ∙ ap (λ z. Some (ListenerWorse z)) place ∙ reason_deaf g c.args.m c.args.t (has_at f.onwards) (went f c.args.round) l (sym c.if-is_heard_at.ensures)

pub returns-then-hears-clause-rests : goal.returns-then-hears-clause-rests
returns-then-hears-clause-rests c = λ n st.
    subst (RestsOn (shown c.args.maps.now.graph.now) c.args.m n) (sym c.alone.ensures) (alone_rests (shown c.args.maps.now.graph.now) c.args.m n (ListenerWorse c.location-at.result) (λ a b r. r))

pub returns-in_default-clause-why : goal.returns-in_default-clause-why
returns-in_default-clause-why c =
    let g : PlainGraph = c.args.maps.now.graph.now in
    let f = c.args.fallen.now in
    let l : is_listener g c.args.t ≡ false = ap (λ z. is_listener z c.args.t) (sym c.graph-graph.ensures) ∙ sym c.if-hears.ensures in
    let place : c.location-at.result ≡ place_of g c.args.t = c.location-at.ensures ∙ ap (λ z. place_of z c.args.t) c.graph-graph.ensures in
    let lacks : has_answer (shown g) nobody c.args.m c.args.t ≡ false =
    subst (λ (o : Option ℕ). IfNone o (has_answer (shown g) nobody c.args.m c.args.t ≡ false)) c.in_default.is c.answer.ensures.none in
    ap (λ (x : Fault). Some x.why) c.alone-in_default.ensures ∙ ap (λ z. Some (NoStep z)) place ∙ reason_alone g c.args.m c.args.t (has_at f.onwards) (went f c.args.round) l lacks

pub returns-in_default-clause-rests : goal.returns-in_default-clause-rests
returns-in_default-clause-rests c = λ n st.
    subst (RestsOn (shown c.args.maps.now.graph.now) c.args.m n) (sym c.alone-in_default.ensures) (alone_rests (shown c.args.maps.now.graph.now) c.args.m n (NoStep c.location-at.result) (λ a b r. r))

pub went_before-requires-clause-pair : goal.went_before-requires-clause-pair
went_before-requires-clause-pair c =
    let a = answers c.args.maps.now.graph.now c.args.m c.args.t c.in-Some.is c.answer.ensures.some in
    record { left = a.0; right = c.requires.t; place = a.2 }

pub returns-then-went_before-clause-why : goal.returns-then-went_before-clause-why
returns-then-went_before-clause-why c =
    let g : PlainGraph = c.args.maps.now.graph.now in
    let f = c.args.fallen.now in
    let t : ℕ = c.args.t in
    let l : is_listener g t ≡ false = ap (λ z. is_listener z t) (sym c.graph-graph.ensures) ∙ sym c.if-hears.ensures in
    let place : c.location-at.result ≡ place_of g t = c.location-at.ensures ∙ ap (λ z. place_of z t) c.graph-graph.ensures in
    ap (λ (x : Fault). Some x.why) c.resting.ensures ∙ ap (λ z. Some (StepWorse z)) place
    ∙ reason_step g c.args.m t (has_at f.onwards) (went f c.args.round) l c.requires.single c.in-Some.s (answers g c.args.m t c.in-Some.is c.answer.ensures.some) (sym c.if-went_before.ensures)

pub returns-then-went_before-clause-rests : goal.returns-then-went_before-clause-rests
returns-then-went_before-clause-rests c = λ n st.
    let g : PlainGraph = c.args.maps.now.graph.now in
    let t : ℕ = c.args.t in
    let s : ℕ = c.in-Some.s in
    let l : is_listener g t ≡ false = ap (λ z. is_listener z t) (sym c.graph-graph.ensures) ∙ sym c.if-hears.ensures in
    let place : c.location-at.result ≡ place_of g t = c.location-at.ensures ∙ ap (λ z. place_of z t) c.graph-graph.ensures in
    let a = answers g c.args.m t c.in-Some.is c.answer.ensures.some in
    subst (RestsOn (shown g) c.args.m n) (sym (c.resting.ensures ∙ ap (λ z. record { why = StepWorse z; rests = Some (s, t) }) place)) (step_rests g c.args.m n t st l s a.1 a.2)

pub returns-in_err-k-clause-why : goal.returns-in_err-k-clause-why
returns-in_err-k-clause-why c =
    let g : PlainGraph = c.args.maps.now.graph.now in
    let f = c.args.fallen.now in
    let t : ℕ = c.args.t in
    let l : is_listener g t ≡ false = ap (λ z. is_listener z t) (sym c.graph-graph.ensures) ∙ sym c.if-hears.ensures in
    ap (option_map (λ (x : Fault). x.why)) c.from_residual.ensures ∙ ap (option_map (LoopWorse (place_of g t))) c.in_err-k.ensures
    ∙ reason_loop g c.args.m t (has_at f.onwards) (went f c.args.round) l c.requires.single c.in-Some.s (answers g c.args.m t c.in-Some.is c.answer.ensures.some) (sym c.if-went_before.ensures)

pub returns-clause-why : goal.returns-clause-why
returns-clause-why c =
    let g : PlainGraph = c.args.maps.now.graph.now in
    let f = c.args.fallen.now in
    let t : ℕ = c.args.t in
    let l : is_listener g t ≡ false = ap (λ z. is_listener z t) (sym c.graph-graph.ensures) ∙ sym c.if-hears.ensures in
    let place : c.location-at.result ≡ place_of g t = c.location-at.ensures ∙ ap (λ z. place_of z t) c.graph-graph.ensures in
    ap (λ (x : Fault). Some x.why) c.resting-2.ensures ∙ ap (λ z. Some (LoopWorse z c.in_ok-k.k)) place ∙ ap (option_map (LoopWorse (place_of g t))) c.in_ok-k.ensures
    ∙ reason_loop g c.args.m t (has_at f.onwards) (went f c.args.round) l c.requires.single c.in-Some.s (answers g c.args.m t c.in-Some.is c.answer.ensures.some) (sym c.if-went_before.ensures)

pub returns-clause-rests : goal.returns-clause-rests
returns-clause-rests c = λ n st.
    let g : PlainGraph = c.args.maps.now.graph.now in
    let t : ℕ = c.args.t in
    let k : ℕ = c.in_ok-k.k in
    let l : is_listener g t ≡ false = ap (λ z. is_listener z t) (sym c.graph-graph.ensures) ∙ sym c.if-hears.ensures in
    let place : c.location-at.result ≡ place_of g t = c.location-at.ensures ∙ ap (λ z. place_of z t) c.graph-graph.ensures in
    subst (RestsOn (shown g) c.args.m n) (sym (c.resting-2.ensures ∙ ap (λ z. record { why = LoopWorse z k; rests = Some (k, t) }) place)) (loop_rests g c.args.m n t st l k)
