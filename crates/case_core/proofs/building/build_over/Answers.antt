use Rattle.std.proofs.Common.{◌≡◌, ◌∙◌, Err, length, ap, arith, refl, sym}
use Rattle.list_law.proofs.Exits.{passed_on}
use Rattle.net_base.proofs.StepLemmas.{err_same}
use Rattle.walk_states.specs.declared.fault.StandingsFault.{StandingsFault}
use Rattle.walk_states.specs.declared.fault.StandingsFault.TheVariants.{TooMany, NoMemory}
use Rattle.case_core.specs.BuildFaults.{fault_of}
use Rattle.case_core.specs.declared.build_fault.BuildFault.TheVariants.{TooManyStates, TooManySteps}
use Rattle.case_core.proofs.building.build_over.Goals as goal

-- the fault of too many nodes comes of one alone
too_many : (f : StandingsFault) → fault_of f ≡ TooManyStates → f ≡ TooMany
too_many TooMany same = refl
too_many NoMemory same = absurd (cc)

-- and that of too many steps of none
not_steps : (f : StandingsFault) → fault_of f ≡ TooManySteps → ⊥
not_steps TooMany same = cc
not_steps NoMemory same = cc

pub returns-in_err-given-clause-many_states : goal.returns-in_err-given-clause-many_states
returns-in_err-given-clause-many_states c = λ es h is.
    c.in_err-given.ensures.many es h (ap (λ e. Err e) (too_many c.in_err-given.field-0.0 (err_same _ TooManyStates (sym (passed_on c.from_residual.result c.from_residual.ensures.1) ∙ is))))

pub returns-in_err-given-clause-many_steps : goal.returns-in_err-given-clause-many_steps
returns-in_err-given-clause-many_steps c = λ es h is.
    absurd (not_steps c.in_err-given.field-0.0 (err_same _ TooManySteps (sym (passed_on c.from_residual.result c.from_residual.ensures.1) ∙ is)))

pub returns-then-steps-room-clause-many_steps : goal.returns-then-steps-room-clause-many_steps
returns-then-steps-room-clause-many_steps c = λ es h fault.
    (c.in_ok-given.given.0, c.in_ok-given.ensures.built es h, c.in_ok-given.ensures.few, omega (arith, c.if-steps-room.true, ap length c.steps.ensures.steps))

pub returns-clause-built : goal.returns-clause-built
returns-clause-built c = c.in_ok-given.ensures.built

pub returns-clause-steps : goal.returns-clause-steps
returns-clause-steps c = omega (arith, c.if-steps-room.false, ap length c.steps.ensures.steps)
