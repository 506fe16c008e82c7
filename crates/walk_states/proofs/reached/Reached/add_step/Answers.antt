use Rattle.std.proofs.Common.{sym, ap, refl, subst, length, ◌<◌, ◌++◌, ◌∷◌, [], map, ◌∙◌, arith, rules}
use Rattle.std.proofs.lemmas.List.{append-nil}
use Rattle.path_automata.specs.States.{states_of}
use Rattle.path_exprs.specs.Derivative.{derivative}
use Rattle.walk_states.specs.Growth.{left_in, standing_in, standings_in, with_standing}
use Rattle.walk_states.proofs.Numbering.{length-standings_in, slice_get-left_in, standings_in-extends}
use Rattle.walk_states.proofs.Stepping.{added-alive, gathered-dead, stepped-alive, stepped-dead}
use Rattle.walk_states.proofs.reached.Reached.add_step.Goals as goal

pub number_of-requires-clause-few : goal.number_of-requires-clause-few
number_of-requires-clause-few c =
    let e = length-standings_in (states_of c.args.self.now.automata) c.args.self.now.found.keys.items in
    let f = length-standings_in (states_of c.step.new.self) c.args.self.now.found.keys.items in
    omega (arith, c.requires.few)

pub returns-then-is_dead : goal.returns-then-is_dead
returns-then-is_dead c =
    let ss = states_of c.args.self.now.automata in
    let new = states_of c.step.new.self in
    let keys = c.args.self.now.found.keys.items in
    let left = left_in ss c.args.from in
    let state = c.in_ok-state.ensures.ok left (slice_get-left_in ss c.args.from c.requires.known) in
    let dead = sym (c.is_dead.ensures (map (derivative c.args.at) left) state) ∙ c.if-is_dead.true in
    let same = standings_in-extends ss new keys c.in_ok-state.ensures.extends c.args.self.now.known in
    record {
      ok = same ∙ sym (gathered-dead (standings_in ss keys) left c.args.at dead);
      steps =
          sym (append-nil c.args.self.now.steps.items)
          ∙ ap (λ l. c.args.self.now.steps.items ++ l) (sym (stepped-dead (standings_in new keys) left c.args.at c.args.number dead));
      few = let e = ap length same in omega (arith, e, c.requires.few);
      many = λ fault. absurd (cc);
      kept = c.in_ok-state.ensures.extends;
      locations = refl;
    }

pub returns-in_err-target-clause-many : goal.returns-in_err-target-clause-many
returns-in_err-target-clause-many c = λ fault.
    let ss = states_of c.args.self.now.automata in
    let left = left_in ss c.args.from in
    let state = c.in_ok-state.ensures.ok left (slice_get-left_in ss c.args.from c.requires.known) in
    let alive = sym (c.is_dead.ensures (map (derivative c.args.at) left) state) ∙ c.if-is_dead.false in
    let ks = c.args.self.now.found.keys.items in
    let new = states_of c.step.new.self in
    let grown = with_standing (standings_in new ks) (standing_in new (c.args.at, c.in_ok-state.state)) in
    let many : 4096 < length grown = search rules in
    subst (λ l. 4096 < length l) (added-alive ss new ks c.args.at c.in_ok-state.state c.args.from grown c.in_ok-state.ensures.extends c.args.self.now.known state alive refl) many

pub returns-clause-ok : goal.returns-clause-ok
returns-clause-ok c =
    let ss = states_of c.args.self.now.automata in
    let left = left_in ss c.args.from in
    let state = c.in_ok-state.ensures.ok left (slice_get-left_in ss c.args.from c.requires.known) in
    let alive = sym (c.is_dead.ensures (map (derivative c.args.at) left) state) ∙ c.if-is_dead.false in
    added-alive ss (states_of c.step.new.self) c.args.self.now.found.keys.items c.args.at c.in_ok-state.state c.args.from _
    c.in_ok-state.ensures.extends c.args.self.now.known state alive c.in_ok-target.ensures.ok

pub returns-clause-steps : goal.returns-clause-steps
returns-clause-steps c =
    let ss = states_of c.args.self.now.automata in
    let left = left_in ss c.args.from in
    let state = c.in_ok-state.ensures.ok left (slice_get-left_in ss c.args.from c.requires.known) in
    let alive = sym (c.is_dead.ensures (map (derivative c.args.at) left) state) ∙ c.if-is_dead.false in
    c.in_ok-push.ensures.items ∙ ap (λ v. v.items ++ (c.args.number, c.in_ok-target.target) ∷ []) c.number_of.ensures.steps
    ∙ stepped-alive ss (states_of c.step.new.self) c.args.at c.in_ok-state.state c.args.from c.args.number c.in_ok-target.target _ c.args.self.now.steps.items state alive c.in_ok-target.ensures.number
