use Rattle.std.proofs.Common.{[], None, sym, ◌∙◌, rules}
use Rattle.std.specs.Prelude.{◌&&◌, not}
use Rattle.std.proofs.lemmas.Bool.{and_from, cond-true}
use Rattle.net_base.specs.Sets.{holds}
use Rattle.path_automata.specs.States.{states_of}
use Rattle.path_exprs.specs.Runs.{first_with}
use Rattle.policy_base.specs.Permitted.{from_holds}
use Rattle.walk_states.specs.Growth.{left_in}
use Rattle.walk_states.proofs.Numbering.{slice_get-left_in}
use Rattle.walk_states.proofs.reached.Reached.rank.Goals as goal

pub returns-then-not-holds : goal.returns-then-not-holds
returns-then-not-holds c = λ es.
    let left = left_in (states_of c.args.self.now.automata) c.args.state in
    c.rank.ensures left (slice_get-left_in (states_of c.args.self.now.automata) c.args.state c.requires.known)
    ∙ sym (cond-true (from_holds c.args.from.now c.args.at && not (holds c.args.case.now.origins c.args.at)) (first_with [] left) None
    (and_from (from_holds c.args.from.now c.args.at) (not (holds c.args.case.now.origins c.args.at)) (sym c.holds.ensures ∙ c.if-holds.true) (search rules)))
