use Rattle.std.proofs.Common.{◌∙◌}
use Rattle.input_output.specs.MemInputs.{told}
use Rattle.propane_run.specs.declared.command.Command.TheVariants.{Compile}
use Rattle.propane_run.specs.Run.{Job}
use Rattle.propane_run.specs.Words.{names_read}
use Rattle.propane_library.specs.Texts.{compile_words, topology_name, policy_name}
use Rattle.propane_library.proofs.Coming.{alike}
use Rattle.propane_library.proofs.SameInputs.{said_before}
use Rattle.propane_library.proofs.memory.compile_twice.Goals as goal

pub returns-clause-first : goal.returns-clause-first
returns-clause-first c = c.in_ok-first.ensures.right _ _ c.in_ok-inputs.ensures.topology c.in_ok-inputs.ensures.policy

pub returns-clause-again : goal.returns-clause-again
returns-clause-again c =
    let holds = c.compile_held.ensures.holds in
    c.in_ok-again.ensures.right _ _ (holds topology_name ∙ c.in_ok-inputs.ensures.topology) (holds policy_name ∙ c.in_ok-inputs.ensures.policy)

pub returns-clause-alike : goal.returns-clause-alike
returns-clause-alike c =
    let one = c.in_ok-first.ensures.said in
    let other = c.in_ok-again.ensures.said in
    let held = told c.in_ok-inputs.inputs in
    let before = said_before held (told c.compile_held.new.inputs) c.compile_held.ensures.holds (names_read compile_words Compile) (Job Compile) other.0 other.1 in
    let same = c.told_texts_come_to_one_thing.ensures held compile_words Compile one.0 other.0 one.1 before in
    alike _ _ one.0 other.0 same one.2 other.2
