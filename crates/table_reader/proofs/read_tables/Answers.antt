use Rattle.table_reader.proofs.Sizes.{judged_size}
use Rattle.table_reader.proofs.read_tables.Goals as goal

pub returns-clause-size : goal.returns-clause-size
returns-clause-size c = judged_size c.args.net.now _ c.in_ok-routes.routes c.in_ok-routes.ensures
