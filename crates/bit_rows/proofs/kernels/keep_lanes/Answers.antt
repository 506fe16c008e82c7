use Rattle.std.specs.Prelude.{bit_and}
use Rattle.bit_rows.proofs.Lanes.{lanes_before, lanes_here, lanes_behind}
use Rattle.bit_rows.proofs.kernels.keep_lanes.Goals as goal

pub returns-clause-before : goal.returns-clause-before
returns-clause-before c = lanes_before bit_and c.args.at c.args.row.now c.args.other.now c.requires.len c.requires.room

pub returns-clause-here : goal.returns-clause-here
returns-clause-here c = lanes_here bit_and c.args.at c.args.row.now c.args.other.now c.requires.len c.requires.room

pub returns-clause-behind : goal.returns-clause-behind
returns-clause-behind c = lanes_behind bit_and c.args.at c.args.row.now c.args.other.now c.requires.len c.requires.room
