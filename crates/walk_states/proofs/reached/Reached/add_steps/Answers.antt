use Rattle.std.proofs.Common.{◌≡◌, ◌<◌, ◌++◌, ◌+◌, refl, sym, ap, subst, ◌∙◌, length, take, rules, arith}
use Rattle.std.proofs.lemmas.List.{append-nil, get_or_default}
use Rattle.std.proofs.lemmas.Option.{slice_get_read}
use Rattle.list_law.proofs.Each.{AllByRecursion_at}
use Rattle.path_automata.specs.States.{states_of}
use Rattle.path_automata.proofs.StateLemmas.{extends-itself}
use Rattle.walk_states.specs.Growth.{each_live, gathered, left_in, live, standings_of, steps_to}
use Rattle.walk_states.proofs.Numbering.{extends-further, left_in-extends}
use Rattle.walk_states.proofs.Stepping.{each_live-more, each_live-nil, gathered-nil, grown-more, steps-more, steps_to-nil}
use Rattle.walk_states.proofs.reached.Reached.add_steps.Goals as goal

pub loop-next-init : goal.loop-next-init
loop-next-init c =
    let xs = standings_of c.args.self.now in
    let steps = c.args.self.now.steps.items in
    let nothing = each_live-nil (left_in (states_of c.args.self.now.automata) c.args.from) in
    record {
      added = sym (gathered-nil xs) ∙ ap (gathered xs) (sym nothing);
      steps = sym (append-nil steps) ∙ ap (λ l. steps ++ l) (sym (steps_to-nil xs c.args.number) ∙ ap (steps_to xs c.args.number) (sym nothing));
      few = c.requires.few;
      kept = extends-itself (states_of c.args.self.now.automata);
      locations = refl;
    }

pub add_step-requires-clause-within : goal.add_step-requires-clause-within
add_step-requires-clause-within c =
    let ways = c.args.ways.now in
    let n = c.args.self.now.found.locations in
    let next = c.new.result in
    let here = c.new.ensures ∙ get_or_default ways c.loop-next.next-index 0 next c.loop-next-test.true in
    let low : next < n = AllByRecursion_at (λ at. at < n) ways c.loop-next.next-index next c.requires.within
    (slice_get_read ways (length ways) c.loop-next.next-index next refl c.loop-next-test.true here) in
    omega (arith, low, c.loop-next.invariant.locations)

pub loop-next-preserved : goal.loop-next-preserved
loop-next-preserved c =
    let first = states_of c.args.self.now.automata in
    let left = left_in first c.args.from in
    let same : left_in (states_of c.loop-next.self.automata) c.args.from ≡ left = left_in-extends first (states_of c.loop-next.self.automata) c.args.from c.loop-next.invariant.kept c.requires.known in
    let next = c.new.result in
    let old = standings_of c.loop-next.self in
    let new = standings_of c.add_step.new.self in
    let before = each_live left (take c.loop-next.next-index c.args.ways.now) in
    let here = c.new.ensures ∙ get_or_default c.args.ways.now c.loop-next.next-index 0 next c.loop-next-test.true in
    let more = each_live-more left c.args.ways.now c.loop-next.next-index next c.loop-next-test.true here in
    let added : new ≡ gathered old (live left next) = c.in_ok-add_step.ensures.ok ∙ ap (λ l. gathered old (live l next)) same in
    let steps : c.add_step.new.self.steps.items ≡ c.loop-next.self.steps.items ++ steps_to new c.args.number (live left next) =
    c.in_ok-add_step.ensures.steps ∙ ap (λ l. c.loop-next.self.steps.items ++ steps_to new c.args.number (live l next)) same in
    record {
      added = grown-more (standings_of c.args.self.now) old new before (live left next) c.loop-next.invariant.added added
          ∙ ap (gathered (standings_of c.args.self.now)) (sym more);
      steps = steps-more (standings_of c.args.self.now) old new before (live left next) c.args.number c.args.self.now.steps.items c.loop-next.self.steps.items
          c.add_step.new.self.steps.items c.loop-next.invariant.added added c.loop-next.invariant.steps steps
          ∙ ap (λ ts. c.args.self.now.steps.items ++ steps_to new c.args.number ts) (sym more);
      few = c.in_ok-add_step.ensures.few;
      kept = extends-further first (states_of c.loop-next.self.automata) (states_of c.add_step.new.self.automata) c.loop-next.invariant.kept c.add_step.ensures.kept;
      locations = c.add_step.ensures.locations ∙ c.loop-next.invariant.locations;
    }

pub returns-in_err-add_step-clause-many : goal.returns-in_err-add_step-clause-many
returns-in_err-add_step-clause-many c = λ fault.
    let first = states_of c.args.self.now.automata in
    let left = left_in first c.args.from in
    let same : left_in (states_of c.loop-next.self.automata) c.args.from ≡ left = left_in-extends first (states_of c.loop-next.self.automata) c.args.from c.loop-next.invariant.kept c.requires.known in
    let next = c.new.result in
    let begin = standings_of c.args.self.now in
    let old = standings_of c.loop-next.self in
    let before = each_live left (take c.loop-next.next-index c.args.ways.now) in
    let here = c.new.ensures ∙ get_or_default c.args.ways.now c.loop-next.next-index 0 next c.loop-next-test.true in
    let more = each_live-more left c.args.ways.now c.loop-next.next-index next c.loop-next-test.true here in
    let by_step : 4096 < length (gathered old (live (left_in (states_of c.loop-next.self.automata) c.args.from) next)) = search rules in
    let grown = gathered old (live left next) in (
      c.loop-next.next-index + 1,
      subst (λ l. 4096 < length l) (grown-more begin old grown before (live left next) c.loop-next.invariant.added refl ∙ ap (gathered begin) (sym more))
          (subst (λ l. 4096 < length (gathered old (live l next))) same by_step),
    )
