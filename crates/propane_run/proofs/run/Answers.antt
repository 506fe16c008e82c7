use Rattle.propane_run.proofs.Failing as failing
use Rattle.propane_run.proofs.RunLaws as law
use Rattle.propane_run.proofs.run.Goals as goal

pub returns-clause-right : goal.returns-clause-right
returns-clause-right g c = law.right c.run_whole.ensures.ran

pub returns-clause-promised : goal.returns-clause-promised
returns-clause-promised g c = law.promised c.run_whole.ensures.ran

pub returns-clause-check_fails : goal.returns-clause-check_fails
returns-clause-check_fails g c = law.check_fails c.run_whole.ensures.ran

pub returns-clause-refused : goal.returns-clause-refused
returns-clause-refused g c = law.refused c.run_whole.ensures.ran

pub returns-clause-ends : goal.returns-clause-ends
returns-clause-ends g c = law.ends_right c.run_whole.ensures.ran

pub returns-clause-whole : goal.returns-clause-whole
returns-clause-whole g c = let r = c.run_whole.ensures.ran in (r.what, r.answer, r.reads, r.sent)

pub returns-clause-done : goal.returns-clause-done
returns-clause-done g c = law.done c.run_whole.ensures.ran

pub returns-clause-usage_only : goal.returns-clause-usage_only
returns-clause-usage_only g c = law.usage_only c.run_whole.ensures.ran

pub returns-clause-usage : goal.returns-clause-usage
returns-clause-usage g c = law.usage_said c.run_whole.ensures.ran

pub returns-clause-read_fault : goal.returns-clause-read_fault
returns-clause-read_fault g c = law.read_fault c.run_whole.ensures.ran

pub returns-clause-bad_input : goal.returns-clause-bad_input
returns-clause-bad_input g c = law.bad_input c.run_whole.ensures.ran

pub returns-clause-write_fault : goal.returns-clause-write_fault
returns-clause-write_fault g c = law.write_fault c.run_whole.ensures.ran

pub returns-clause-reads : goal.returns-clause-reads
returns-clause-reads g c = failing.none_failed c.run_whole.ensures.ran

pub returns-clause-writes : goal.returns-clause-writes
returns-clause-writes g c = failing.no_write_failed c.run_whole.ensures.ran

pub returns-clause-no_memory : goal.returns-clause-no_memory
returns-clause-no_memory g c = law.no_memory_said c.run_whole.ensures.ran

pub returns-clause-complete : goal.returns-clause-complete
returns-clause-complete g c = law.complete c.run_whole.ensures.ran
