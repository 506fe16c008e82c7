use Rattle.std.proofs.Common.{◌≡◌, ℕ, ◌+◌, ◌<◌, refl, ap, sym, subst, ◌∙◌, length, take, length-append, arith, rules}
use Rattle.path_automata.specs.States.{states_of}
use Rattle.path_automata.proofs.StateLemmas.{extends-itself}
use Rattle.walk_states.specs.Table.{Key}
use Rattle.walk_states.specs.Growth.{AreAsked, each_live, gathered, left_in, next_in, standings_of, ways}
use Rattle.walk_states.proofs.Asking.{asked-key, asked-start, reached-key, ways_below, ways_of_key}
use Rattle.walk_states.proofs.Gathering.{gathered-extends}
use Rattle.walk_states.proofs.Numbering.{extends-further, key-at, length-standings_in, standings_in-distinct}
use Rattle.walk_states.proofs.Lookups.{keys-distinct}
use Rattle.walk_states.proofs.Below.{length-made}
use Rattle.walk_states.proofs.reached.Reached.walk.Goals as goal

pub loop-number-init : goal.loop-number-init
loop-number-init c =
    let first = standings_of c.args.self.now in
    let found = c.args.self.now.found in
    record {
      asked =
          subst (λ l. AreAsked first (next_in c.args.net.now c.args.case.now) first l 0) (sym c.requires.no_steps)
          (asked-start (next_in c.args.net.now c.args.case.now) first
          (standings_in-distinct (states_of c.args.self.now.automata) found.keys.items c.args.self.now.apart c.args.self.now.known
          (keys-distinct found.rows.items found.numbers.items found.keys.items found.found)));
      few = c.requires.few;
      within = omega arith;
      kept = extends-itself (states_of c.args.self.now.automata);
      over = c.requires.over;
    }

pub index-requires : goal.index-requires
index-requires c =
    let net = c.args.net.now in
    let found = c.loop-number.self.found in
    let low : c.standing-at.result.0 < found.locations = key-at (λ (k : Key). k.0 < found.locations) found.keys.items c.loop-number.number c.standing-at.result found.within c.standing-at.ensures in
    let size = length-made (λ v. v.items) c.in_ok-ways.ways.items (ways net c.args.case.now) (length net.routers + length net.peers) c.in_ok-ways.ensures in
    omega (arith, low, c.number.ensures, c.loop-number.invariant.over)

pub add_steps-requires-clause-known : goal.add_steps-requires-clause-known
add_steps-requires-clause-known c =
    let states = states_of c.loop-number.self.automata in
    key-at (λ (k : Key). k.1 < length states) c.loop-number.self.found.keys.items c.loop-number.number c.standing-at.result c.loop-number.self.known c.standing-at.ensures

pub add_steps-requires-clause-within : goal.add_steps-requires-clause-within
add_steps-requires-clause-within c =
    let net = c.args.net.now in
    let found = c.loop-number.self.found in
    let all = c.in_ok-ways.ways.items in
    let size = c.loop-number.invariant.over in
    let here = ways_of_key net c.args.case.now (λ v. v.items) all found.locations c.number.result c.loop-number.number found.keys.items c.standing-at.result c.index.result.now c.as_slice.result.now
    size found.within c.standing-at.ensures c.number.ensures c.in_ok-ways.ensures c.index.ensures c.as_slice.ensures in
    ways_below net c.args.case.now found.locations c.standing-at.result.0 c.as_slice.result.now size here

pub loop-number-preserved : goal.loop-number-preserved
loop-number-preserved c =
    let net = c.args.net.now in
    let case = c.args.case.now in
    let first = standings_of c.args.self.now in
    let states = states_of c.loop-number.self.automata in
    let keys = c.loop-number.self.found.keys.items in
    let steps = c.loop-number.self.steps.items in
    let n = c.loop-number.number in
    let at = c.standing-at.result.0 in
    let found = c.loop-number.self.found in
    let here = ways_of_key net case (λ v. v.items) c.in_ok-ways.ways.items found.locations c.number.result n keys c.standing-at.result c.index.result.now c.as_slice.result.now
    c.loop-number.invariant.over found.within c.standing-at.ensures c.number.ensures c.in_ok-ways.ensures c.index.ensures c.as_slice.ensures in
    let size = length-standings_in states keys in
    let longer = gathered-extends (standings_of c.loop-number.self) (each_live (left_in states c.standing-at.result.1) c.as_slice.result.now) in
    let grown = ap length (c.in_ok-add_steps.ensures.ok ∙ longer.1) ∙ length-append (standings_of c.loop-number.self) longer.0 in
    record {
      asked = asked-key net case first states keys n at c.standing-at.result.1 c.as_slice.result.now (standings_of c.add_steps.new.self) steps c.add_steps.new.self.steps.items
          c.loop-number.invariant.asked c.standing-at.ensures here c.in_ok-add_steps.ensures.ok c.in_ok-add_steps.ensures.steps;
      few = c.in_ok-add_steps.ensures.few;
      within = omega (arith, grown, c.loop-number-test.true, c.len.ensures);
      kept = extends-further (states_of c.args.self.now.automata) states (states_of c.add_steps.new.self.automata) c.loop-number.invariant.kept c.in_ok-add_steps.ensures.kept;
      over = c.in_ok-add_steps.ensures.locations ∙ c.loop-number.invariant.over;
    }

pub loop-number-smaller : goal.loop-number-smaller
loop-number-smaller c =
    let e = length-standings_in (states_of c.loop-number.self.automata) c.loop-number.self.found.keys.items in
    omega (arith, c.loop-number-test.true, c.len.ensures, c.loop-number.invariant.few)

pub returns-clause-ok : goal.returns-clause-ok
returns-clause-ok c =
    let size = length-standings_in (states_of c.loop-number.self.automata) c.loop-number.self.found.keys.items in
    let all : c.loop-number.number ≡ length (standings_of c.loop-number.self) = omega (arith, c.loop-number-test.false, c.len.ensures, c.loop-number.invariant.within) in
    subst (AreAsked (standings_of c.args.self.now) (next_in c.args.net.now c.args.case.now) (standings_of c.loop-number.self) c.loop-number.self.steps.items) all c.loop-number.invariant.asked

pub returns-in_err-add_steps-clause-many : goal.returns-in_err-add_steps-clause-many
returns-in_err-add_steps-clause-many c = λ fault.
    let net = c.args.net.now in
    let case = c.args.case.now in
    let first = standings_of c.args.self.now in
    let states = states_of c.loop-number.self.automata in
    let keys = c.loop-number.self.found.keys.items in
    let steps = c.loop-number.self.steps.items in
    let n = c.loop-number.number in
    let at = c.standing-at.result.0 in
    let found = c.loop-number.self.found in
    let here = ways_of_key net case (λ v. v.items) c.in_ok-ways.ways.items found.locations c.number.result n keys c.standing-at.result c.index.result.now c.as_slice.result.now
    c.loop-number.invariant.over found.within c.standing-at.ensures c.number.ensures c.in_ok-ways.ensures c.index.ensures c.as_slice.ensures in
    let grown = λ (m : ℕ). gathered (standings_of c.loop-number.self) (each_live (left_in states c.standing-at.result.1) (take m c.as_slice.result.now)) in
    let part : (m : ℕ) × (4096 < length (grown m)) = search rules in (
      grown part.0,
      reached-key net case first states keys n at c.standing-at.result.1 part.0 c.as_slice.result.now (grown part.0) steps
          c.loop-number.invariant.asked c.standing-at.ensures here refl,
      part.1,
    )
