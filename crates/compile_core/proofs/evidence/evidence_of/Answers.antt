use Rattle.std.proofs.Common.{◌≡◌, ◌+◌, Some, length, ap, ◌∙◌, sym, rules}
use Rattle.std.proofs.lemmas.List.{length_push}
use Rattle.evidence_base.specs.Made.{PlainCaseEvidence}
use Rattle.std.proofs.lemmas.Iterator.{YieldsList-from_zip}
use Rattle.std.proofs.lemmas.Iterator.Adapters.{YieldsList-from_vec}
use Rattle.std.proofs.lemmas.Iterator.Consumers.{YieldsList-turn, YieldsList-end}
use Rattle.compile_core.proofs.Gathered.{read, step, end}
use Rattle.compile_core.proofs.evidence.evidence_of.Goals as goal

pub new-requires : goal.new-requires
new-requires c =
    let e = YieldsList-from_zip {s = c.into_iter-graph-iterator.result} (YieldsList-from_vec c.args.graphs.items (search rules) (search rules))
    (YieldsList-from_vec c.args.prefs.items (search rules) (search rules)) in
    let t = YieldsList-turn e c.loop-graph.yielded c.loop-graph.graph-iterator c.loop-graph.yielded_by c.next.result c.next.new.self
    (c.in-Some.graph, c.in-Some.prefs) c.in-Some.is c.next.ensures.steps in
    let size : length c.as_slice-place.result.now ≡ length c.loop-graph.yielded = ap length c.as_slice-place.ensures ∙ c.loop-graph.invariant.size in
    c.requires.kept (length c.loop-graph.yielded) (record { case = c.in_ok-case.case; graph = c.in-Some.graph; numbers = c.in-Some.prefs.of; tags = c.in_ok-tags.tags })
    (read c.args.cases.now c.args.graphs.items c.args.prefs.items c.args.tags.now c.requires.graphs c.requires.prefs c.requires.tags
    (length c.loop-graph.yielded) (length c.as_slice-place.result.now) c.index-cases-place.result c.in_ok-case.case c.in-Some.graph c.in-Some.prefs c.index-tags-place.result c.in_ok-tags.tags
    t.0 t.1 size c.index-cases-place.is c.in_ok-case.ensures c.index-tags-place.is c.in_ok-tags.ensures)

pub loop-graph-preserved : goal.loop-graph-preserved
loop-graph-preserved c =
    let e = YieldsList-from_zip {s = c.into_iter-graph-iterator.result} (YieldsList-from_vec c.args.graphs.items (search rules) (search rules))
    (YieldsList-from_vec c.args.prefs.items (search rules) (search rules)) in
    let t = YieldsList-turn e c.loop-graph.yielded c.loop-graph.graph-iterator c.loop-graph.yielded_by c.next.result c.next.new.self
    (c.in-Some.graph, c.in-Some.prefs) c.in-Some.is c.next.ensures.steps in
    let size : length c.as_slice-place.result.now ≡ length c.loop-graph.yielded = ap length c.as_slice-place.ensures ∙ c.loop-graph.invariant.size in
    let at = read c.args.cases.now c.args.graphs.items c.args.prefs.items c.args.tags.now c.requires.graphs c.requires.prefs c.requires.tags
    (length c.loop-graph.yielded) (length c.as_slice-place.result.now) c.index-cases-place.result c.in_ok-case.case c.in-Some.graph c.in-Some.prefs c.index-tags-place.result c.in_ok-tags.tags
    t.0 t.1 size c.index-cases-place.is c.in_ok-case.ensures c.index-tags-place.is c.in_ok-tags.ensures in
    let one = length_push c.loop-graph.yielded (c.in-Some.graph, c.in-Some.prefs) in
    let more = length_push c.loop-graph.all c.new.result in
    record {
      size = ap length c.in_ok-push.ensures.ok ∙ more ∙ ap (λ n. n + 1) c.loop-graph.invariant.size ∙ sym one;
      made = step c.args.cases.now c.args.graphs.items c.args.prefs.items c.args.tags.now c.requires.graphs c.requires.prefs c.requires.tags
          (length c.loop-graph.yielded) _ c.loop-graph.all c.push.new.self c.new.result one c.in_ok-push.ensures.ok
          (at ∙ ap (λ (x : PlainCaseEvidence). Some x) (sym c.new.ensures)) c.loop-graph.invariant.made;
    }

pub returns : goal.returns
returns c =
    let e = YieldsList-from_zip {s = c.into_iter-graph-iterator.result} (YieldsList-from_vec c.args.graphs.items (search rules) (search rules))
    (YieldsList-from_vec c.args.prefs.items (search rules) (search rules)) in
    let t = YieldsList-end e c.loop-graph.yielded c.loop-graph.graph-iterator c.loop-graph.yielded_by c.next.result c.next.new.self c.in-None.is c.next.ensures.steps in
    end c.args.cases.now c.args.graphs.items c.args.prefs.items c.args.tags.now c.requires.graphs c.requires.prefs c.requires.tags
    (length c.loop-graph.yielded) c.loop-graph.all t.1 c.loop-graph.invariant.made
