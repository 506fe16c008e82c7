use Rattle.std.proofs.Common.{◌≡◌, ◌<◌, ◌+◌, ◌∷◌, [], length, length-append, refl, sym, ap, ◌∙◌, subst, true, false, arith}
use Rattle.net_base.specs.Sets.{holds}
use Rattle.path_automata.specs.States.{Extends, states_of}
use Rattle.path_automata.proofs.StateLemmas.{extends-itself}
use Rattle.path_exprs.specs.Standings.{moved}
use Rattle.walk_states.specs.Growth.{gathered, left_in, standings_of, with_standing}
use Rattle.walk_states.proofs.Numbering.{extends-further, left_in-extends}
use Rattle.walk_states.proofs.Starting.{starts_below, starts-all, starts-few, starts_below-origin, starts_below-other}
use Rattle.walk_states.proofs.Stepping.{gathered-nil, gathered-one, grown-more}
use Rattle.walk_states.proofs.reached.Reached.add_starts.Goals as goal
use Rattle.walk_states.proofs.reached.Reached.add_starts.Goals.{then-holds+in_ok-add_start, else-holds}

pub loop-number-init : goal.loop-number-init
loop-number-init c = record {
  added = sym (gathered-nil (standings_of c.make_room.new.self));
  steps = refl;
  kept = extends-itself (states_of c.make_room.new.self.automata);
  locations = refl;
}

pub loop-number-preserved : goal.loop-number-preserved
loop-number-preserved c =
    let first = states_of c.make_room.new.self.automata in
    let begun : 0 < length first = subst (λ ss. 0 < length ss) (sym c.make_room.ensures.states) c.requires.begun in
    let states = states_of c.loop-number.self.automata in
    let p = holds c.args.case.now.origins in
    let n = c.loop-number.number in
    let left = left_in first 0 in
    let xs = standings_of c.make_room.new.self in
    let old = standings_of c.loop-number.self in
    elim c.if-holds.branch [
      | then-holds+in_ok-add_start w ↦
          let same : left_in states 0 ≡ left = left_in-extends first states 0 c.loop-number.invariant.kept begun in
          let added : standings_of w.add_start.new.self ≡ gathered old (moved left n ∷ []) =
          w.in_ok-add_start.ensures.ok ∙ ap (λ l. with_standing old (moved l c.new-at.result)) same
          ∙ ap (λ k. with_standing old (moved left k)) c.new-at.ensures ∙ sym (gathered-one old (moved left n)) in
          let origin : p n ≡ true = sym (c.holds.ensures ∙ ap p c.new-at.ensures) ∙ w.if-holds.true in
          record {
            added = ap standings_of w.self-is
                ∙ grown-more xs old (standings_of w.add_start.new.self) (starts_below left p n) (moved left n ∷ []) c.loop-number.invariant.added added
                ∙ ap (gathered xs) (sym (starts_below-origin left p n origin));
            steps = ap (λ s. s.steps) w.self-is ∙ w.add_start.ensures.steps ∙ c.loop-number.invariant.steps;
            kept = subst (λ s. Extends first (states_of s.automata)) (sym w.self-is)
                (extends-further first states (states_of w.add_start.new.self.automata) c.loop-number.invariant.kept w.add_start.ensures.kept);
            locations = ap (λ s. s.found.locations) w.self-is ∙ w.add_start.ensures.locations ∙ c.loop-number.invariant.locations;
          }
      | else-holds w ↦
          let origin : p n ≡ false = sym (c.holds.ensures ∙ ap p c.new-at.ensures) ∙ w.if-holds.false in
          record {
            added = ap standings_of w.self-is ∙ c.loop-number.invariant.added ∙ ap (gathered xs) (sym (starts_below-other left p n origin));
            steps = ap (λ s. s.steps) w.self-is ∙ c.loop-number.invariant.steps;
            kept = subst (λ s. Extends first (states_of s.automata)) (sym w.self-is) c.loop-number.invariant.kept;
            locations = ap (λ s. s.found.locations) w.self-is ∙ c.loop-number.invariant.locations;
          }
    ]

pub add_start-requires-clause-begun : goal.add_start-requires-clause-begun
add_start-requires-clause-begun c =
    let first = states_of c.make_room.new.self.automata in
    let begun : 0 < length first = subst (λ ss. 0 < length ss) (sym c.make_room.ensures.states) c.requires.begun in
    let kept = c.loop-number.invariant.kept in
    let longer = ap length kept.1 ∙ length-append first kept.0 in
    omega (arith, begun, longer)

pub add_start-requires-clause-few : goal.add_start-requires-clause-few
add_start-requires-clause-few c =
    let few = starts-few (left_in (states_of c.make_room.new.self.automata) 0) (holds c.args.case.now.origins) c.loop-number.number (standings_of c.make_room.new.self)
    (standings_of c.loop-number.self) (c.make_room.ensures.standings ∙ c.requires.none) c.loop-number.invariant.added in
    omega (
      arith,
      few,
      c.loop-number-test.true,
      c.loop-number.auto.number-end,
      ap length c.routers.ensures.routers,
      ap length c.peers.ensures.peers,
      c.routers.ensures.rules.routers,
      c.routers.ensures.rules.peers,
    )

pub add_start-requires-clause-within : goal.add_start-requires-clause-within
add_start-requires-clause-within c =
    omega (
      arith,
      c.new-at.ensures,
      c.loop-number-test.true,
      ap length c.routers.ensures.routers,
      ap length c.peers.ensures.peers,
      c.loop-number.invariant.locations,
      c.make_room.ensures.locations,
      c.requires.over,
    )

pub returns : goal.returns
returns c =
    let p = holds c.args.case.now.origins in
    let made = c.make_room.new.self in
    let states = states_of c.args.self.now.automata in
    let none = c.make_room.ensures.standings ∙ c.requires.none in
    let all : c.loop-number.number ≡ length c.args.net.now.routers + length c.args.net.now.peers =
    omega (arith, c.loop-number-test.false, c.loop-number.auto.number-end, ap length c.routers.ensures.routers, ap length c.peers.ensures.peers) in
    let added : standings_of c.loop-number.self ≡ gathered (standings_of made) (starts_below (left_in states 0) p c.loop-number.number) =
    subst (λ ss. standings_of c.loop-number.self ≡ gathered (standings_of made) (starts_below (left_in ss 0) p c.loop-number.number)) c.make_room.ensures.states
    c.loop-number.invariant.added in
    let few = starts-few (left_in states 0) p c.loop-number.number (standings_of made) (standings_of c.loop-number.self) none added in
    record {
      ok = starts-all (left_in states 0) p (length c.args.net.now.routers + length c.args.net.now.peers) c.loop-number.number (standings_of made) (standings_of c.loop-number.self) none added all;
      few = omega (arith, few, all, c.routers.ensures.rules.routers, c.routers.ensures.rules.peers);
      steps = ap (λ v. v.items) c.loop-number.invariant.steps ∙ c.make_room.ensures.steps;
      kept = subst (λ ss. Extends ss (states_of c.loop-number.self.automata)) c.make_room.ensures.states c.loop-number.invariant.kept;
      over = c.loop-number.invariant.locations ∙ c.make_room.ensures.locations ∙ c.requires.over;
    }
