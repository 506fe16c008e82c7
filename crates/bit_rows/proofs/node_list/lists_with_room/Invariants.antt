use Rattle.std.proofs.Common.{◌≡◌, [], replicate}
use Rattle.bit_rows.proofs.node_list.lists_with_room.Given as goal

abbrev pub invariant-loop-room : goal.invariant-loop-room
invariant-loop-room l = l.lists.items ≡ replicate l.room-index []
