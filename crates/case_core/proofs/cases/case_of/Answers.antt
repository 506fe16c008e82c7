use Rattle.std.proofs.Common.{arith, length, ap}
use Rattle.case_core.proofs.Places.{case_read, statement_at-read}
use Rattle.case_core.proofs.cases.case_of.Goals as goal

pub overflow_sub-statement : goal.overflow_sub-statement
overflow_sub-statement c =
    (case_read c.requires.cases.0 c.args.policy.now c.as_slice.result.now c.args.cases.now.cases c.args.number c.index-as_slice-number.result c.as_slice.ensures c.requires.cases.1
    c.requires.from_one c.requires.within c.index-as_slice-number.is).from_one

pub bounds-statements-case : goal.bounds-statements-case
bounds-statements-case c =
    let read = case_read c.requires.cases.0 c.args.policy.now c.as_slice.result.now c.args.cases.now.cases c.args.number c.index-as_slice-number.result c.as_slice.ensures c.requires.cases.1
    c.requires.from_one c.requires.within c.index-as_slice-number.is in
    omega (arith, read.from_one, read.within, ap length c.statements.ensures.statements)

pub returns-clause-case : goal.returns-clause-case
returns-clause-case c = λ net is.
    let case = c.index-as_slice-number.result in
    let read = case_read net c.args.policy.now c.as_slice.result.now c.args.cases.now.cases c.args.number case c.as_slice.ensures is
    c.requires.from_one c.requires.within c.index-as_slice-number.is in
    let statement = statement_at-read c.statements.result.now c.args.policy.now case.statement c.index-statements-case.result c.statements.ensures.statements
    read.from_one read.within c.index-statements-case.is in
    record { case = read.at; statement = statement }

pub returns-clause-from_one : goal.returns-clause-from_one
returns-clause-from_one c =
    (case_read c.requires.cases.0 c.args.policy.now c.as_slice.result.now c.args.cases.now.cases c.args.number c.index-as_slice-number.result c.as_slice.ensures c.requires.cases.1
    c.requires.from_one c.requires.within c.index-as_slice-number.is).from_one

pub returns-clause-within : goal.returns-clause-within
returns-clause-within c =
    (case_read c.requires.cases.0 c.args.policy.now c.as_slice.result.now c.args.cases.now.cases c.args.number c.index-as_slice-number.result c.as_slice.ensures c.requires.cases.1
    c.requires.from_one c.requires.within c.index-as_slice-number.is).within
