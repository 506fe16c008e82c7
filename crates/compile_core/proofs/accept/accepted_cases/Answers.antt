use Rattle.std.proofs.Common.{rules, ◌≡◌, ◌+◌, ◌-◌, ◌∙◌, length, ap, arith, refl}
use Rattle.list_law.proofs.Exits.{passed_on}
use Rattle.policy_base.specs.Cases.{case_list}
use Rattle.policy_base.specs.Policies.{policy_of}
use Rattle.compile_core.proofs.OneByOne.{given_more, refused_next}
use Rattle.compile_core.proofs.accept.accepted_cases.Goals as goal

pub returns-in_err-given-clause-refused : goal.returns-in_err-given-clause-refused
returns-in_err-given-clause-refused c =
    let end : length c.as_slice-place-end.result.now ≡ length (case_list c.args.net.now (policy_of c.args.policy.now)) = ap length (c.as_slice-place-end.ensures ∙ c.requires.cases) in
    let why = refused_next c.args.net.now (policy_of c.args.policy.now) c.loop-place.place (c.loop-place.place + 1) c.loop-place.room
    c.loop-place.all.graphs.items c.loop-place.all.prefs.items c.in_err-given.field-0.0
    c.loop-place.invariant.given (omega (arith, c.loop-place-test.true, end)) refl c.in_err-given.ensures.refused in
    rw (passed_on c.from_residual-in_err-given.result c.from_residual-in_err-given.ensures.1) why

pub loop-place-init : goal.loop-place-init
loop-place-init c = record {
  given = search rules;
  kept = c.in_ok-automata.ensures c.args.net.now;
}

pub loop-place-preserved : goal.loop-place-preserved
loop-place-preserved c = record {
  given = given_more c.args.net.now (policy_of c.args.policy.now) c.loop-place.place (c.loop-place.place + 1) c.loop-place.room (c.loop-place.room - c.in_ok-given.given.used)
      c.loop-place.all.graphs.items c.keep.new.all.graphs.items c.loop-place.all.prefs.items c.keep.new.all.prefs.items c.in_ok-given.given c.loop-place.invariant.given c.in_ok-given.ensures.accepted
      refl refl c.in_ok-keep.ensures.graphs c.in_ok-keep.ensures.prefs;
  kept = c.in_ok-given.ensures.kept;
}
