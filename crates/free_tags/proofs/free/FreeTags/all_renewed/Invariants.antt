use Rattle.std.proofs.Common.{◌≡◌, List, length, take}
use Rattle.net_base.specs.declared.numbers.Tag.{Tag}
use Rattle.free_tags.specs.Free.{AreNewTags}
use Rattle.free_tags.specs.Reached.{LeavesFree}
use Rattle.free_tags.proofs.free.FreeTags.all_renewed.Given as goal

abbrev pub invariant-loop-place : goal.invariant-loop-place
invariant-loop-place l = record {
  new : (taken : List Tag) → LeavesFree taken l.fn.self → AreNewTags taken (take l.place l.tags) l.all;
  long : length l.all ≡ l.place;
  kept : (taken : List Tag) → LeavesFree taken l.fn.self → LeavesFree taken l.self;
}
