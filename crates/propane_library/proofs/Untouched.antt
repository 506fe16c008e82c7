-- A run that ends neither with Done nor with CheckFails.
use Rattle.std.proofs.Common.{◌≡◌, ◌≢◌, refl}
use Rattle.run_base.specs.declared.outcome.Status.{Status}
use Rattle.run_base.specs.declared.outcome.Status.TheVariants.{Done, Refused, Usage, BadInput, ReadFault, WriteFault, NoMemory, CheckFails}

-- what holds at every other status holds
pub unless_text : (P : Type 0) (ended : Status) → ended ≢ Done → ended ≢ CheckFails → (ended ≡ Refused → P) → (ended ≡ Usage → P) → (ended ≡ BadInput → P)
    → (ended ≡ ReadFault → P) → (ended ≡ WriteFault → P) → (ended ≡ NoMemory → P) → P
unless_text P Done text fails refused usage bad read write memory = absurd (text refl)
unless_text P Refused text fails refused usage bad read write memory = refused refl
unless_text P Usage text fails refused usage bad read write memory = usage refl
unless_text P BadInput text fails refused usage bad read write memory = bad refl
unless_text P ReadFault text fails refused usage bad read write memory = read refl
unless_text P WriteFault text fails refused usage bad read write memory = write refl
unless_text P NoMemory text fails refused usage bad read write memory = memory refl
unless_text P CheckFails text fails refused usage bad read write memory = absurd (fails refl)
