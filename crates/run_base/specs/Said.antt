-- What a run is to say, and what it is to have said when it has ended.
use Rattle.std.specs.Prelude.{◌≡◌, ◌≢◌, ◌⊎◌, ℕ, List, [], Option, Result, Ok, Err, Vec}
use Rattle.std.specs.declared.alloc.Global.{Global}
use Rattle.input_output.specs.Outside.{Rose, Grew, GrewByPart}
use Rattle.run_base.specs.declared.outcome.Status.{Status}
use Rattle.run_base.specs.declared.outcome.Status.TheVariants.{Done, WriteFault, NoMemory, CheckFails}
use Rattle.run_base.specs.declared.outcome.Stop.{Stop}
use Rattle.run_base.specs.declared.outcome.Stop.TheVariants as stop

-- the status, and the bytes for `out` and for `err`
pub record Said : Type 0 where
  pub status : Status
  pub to_out : List ℕ
  pub to_err : List ℕ

abbrev pub text : List ℕ → Said
text bytes = record { status = Done; to_out = bytes; to_err = [] }

abbrev pub line : Status → List ℕ → Said
line status bytes = record { status = status; to_out = []; to_err = bytes }

abbrev pub failing : List ℕ → Said
failing bytes = record { status = CheckFails; to_out = bytes; to_err = [] }

abbrev pub no_memory : Said
no_memory = record { status = NoMemory; to_out = []; to_err = [] }

abbrev pub stop_said : Stop → Said
stop_said (stop.Line status l) = line status l.items
stop_said (stop.Failing l) = failing l.items
stop_said stop.NoMemory = no_memory

abbrev pub said : Result (Vec ℕ Global) Stop → Said
said (Ok t) = text t.items
said (Err s) = stop_said s

-- such a thing is said, unless memory ran out
abbrev pub IsGiven : (Said → Type 0) → Said → Type 0
IsGiven Wanted what = (what ≡ no_memory) ⊎ Wanted what

-- The sink took these bytes and no others. With no byte to write it was not called.
pub record Whole {S : Type 0} (taken : S → Option (List ℕ)) (bytes : List ℕ) (before now : S) : Type 0 where
  pub grew : Grew (taken before) (taken now) bytes
  pub idle : bytes ≡ [] → now ≡ before

-- The sink was to take some bytes, one write failed, and it took a front of them.
pub record Part {S : Type 0} (taken : S → Option (List ℕ)) (faults : S → ℕ) (bytes : List ℕ) (before now : S) : Type 0 where
  pub asked : bytes ≢ []
  pub grew : GrewByPart (taken before) (taken now) bytes
  pub rose : Rose (faults before) (faults now)

-- no call failed
abbrev pub Calm : {S : Type 0} → (S → ℕ) → S → S → Type 0
Calm faults before now = faults now ≡ faults before

-- one sink: all of it and the status, with no write that failed; or a fault
abbrev pub Sent : {S : Type 0} → (S → Option (List ℕ)) → (S → ℕ) → List ℕ → Status → S → S → Status → Type 0
Sent taken faults bytes status before now ended =
    (ended ≡ status) × Whole taken bytes before now × Calm faults before now
    ⊎ (ended ≡ WriteFault) × Part taken faults bytes before now

-- One of the sinks met a fault, and no write to the other failed, which took all that it was to get.
abbrev pub MetFault : {O E : Type 0} → (O → Option (List ℕ)) → (O → ℕ) → (E → Option (List ℕ)) → (E → ℕ) → Said → O → O → E → E → Type 0
MetFault out_taken out_faults err_taken err_faults what out out' err err' =
    Part out_taken out_faults what.to_out out out' × Whole err_taken what.to_err err err' × Calm err_faults err err'
    ⊎ Whole out_taken what.to_out out out' × Part err_taken err_faults what.to_err err err' × Calm out_faults out out'

-- The run ended as what it is to say, all of which was written, and no write failed; or with WriteFault, by the one that failed.
abbrev pub Delivered : {O E : Type 0} → (O → Option (List ℕ)) → (O → ℕ) → (E → Option (List ℕ)) → (E → ℕ) → Said → O → O → E → E → Status → Type 0
Delivered out_taken out_faults err_taken err_faults what out out' err err' ended =
    (ended ≡ what.status) × Whole out_taken what.to_out out out' × Whole err_taken what.to_err err err' × Calm out_faults out out' × Calm err_faults err err'
    ⊎ (ended ≡ WriteFault) × MetFault out_taken out_faults err_taken err_faults what out out' err err'
