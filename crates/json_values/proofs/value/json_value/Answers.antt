use Rattle.std.proofs.Common.{rules}
use Rattle.json_values.proofs.JsonTexts.{json_of-read, json_of-refused}
use Rattle.json_values.proofs.value.json_value.Goals as goal

pub returns-in-Ok-clause-value : goal.returns-in-Ok-clause-value
returns-in-Ok-clause-value c = json_of-read c.args.bytes.now _ c.in-Ok.ensures.ok.0 c.in-Ok.ensures.ok.1

pub returns-else-is_memory-clause-none : goal.returns-else-is_memory-clause-none
returns-else-is_memory-clause-none c = λ _. json_of-refused c.args.bytes.now (λ text. c.in-Err.ensures.err (search rules) text)
