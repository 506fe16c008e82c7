use Rattle.std.proofs.Common.{◌≡◌, refl, inl, inr}
use Rattle.propane_library.proofs.Telling.{still}
use Rattle.propane_library.proofs.Untouched.{unless_text}
use Rattle.propane_library.proofs.counted.run_surely.Goals as goal

pub returns-clause-read : goal.returns-clause-read
returns-clause-read c = λ is. still 0 0 refl refl (c.run.ensures.read_fault is).4

pub returns-clause-write : goal.returns-clause-write
returns-clause-write c = λ is.
    let calm = still 0 0 refl refl in
    elim (c.run.ensures.write_fault is).3 [ inl part ↦ calm part.0.rose | inr part ↦ calm part.1.rose ]

pub returns-clause-text : goal.returns-clause-text
returns-clause-text c = λ other unfailing.
    let run = c.run.ensures in
    let calm = still 0 0 refl refl in
    unless_text (c.run.new.out ≡ c.args.out.now) c.run.result other unfailing
    (λ e. (run.refused e).3)
    (λ e. (run.usage_only e).2)
    (λ e. (run.bad_input e).5)
    (λ e. (run.read_fault e).6)
    (λ e. absurd (elim (run.write_fault e).3 [ inl part ↦ calm part.0.rose | inr part ↦ calm part.1.rose ]))
    (λ e. (run.no_memory e).0)
