-- Inputs that hold both texts, and what a run over them comes to.
use Rattle.std.specs.Prelude.{◌≡◌, ℕ, List}
use Rattle.input_output.specs.declared.mem_inputs.MemInputs.{MemInputs}
use Rattle.input_output.specs.MemInputs.{told, count, IsSure}
use Rattle.propane_run.specs.declared.command.Command.TheVariants.{Compile}
use Rattle.run_base.specs.declared.outcome.Status.TheVariants as status
use Rattle.run_base.specs.Reading.{SaidOfTold}
use Rattle.propane_run.specs.Run.{Job}
use Rattle.run_base.specs.Said.{Said}
use Rattle.propane_run.specs.Words.{names_read}
use Rattle.propane_library.specs.declared.came.Came.{Came}
use Rattle.propane_library.specs.declared.came.Came.TheVariants.{Compiled, Refused, Faulty, NoRoom}
use Rattle.propane_library.specs.Texts.{compile_words}

-- the reading of the name can't fail, and never has
abbrev pub IsReady : MemInputs → List ℕ → Type 0
IsReady inputs name = IsSure inputs name × (count inputs name ≡ 0)

-- this is to be said of the texts that the inputs hold
abbrev pub IsToSay : MemInputs → Said → Type 0
IsToSay inputs what = SaidOfTold (told inputs) (names_read compile_words Compile) (Job Compile) what

-- this was said, unless there was no room
abbrev pub CameOf : Said → Came → Type 0
CameOf what (Compiled text) = (what.status ≡ status.Done) × (text.items ≡ what.to_out)
CameOf what (Refused line) = (what.status ≡ status.Refused) × (line.items ≡ what.to_err)
CameOf what (Faulty line) = (what.status ≡ status.BadInput) × (line.items ≡ what.to_err)
CameOf what NoRoom = Unit {0}
