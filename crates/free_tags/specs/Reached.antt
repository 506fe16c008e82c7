-- How far the values of tags have been counted.
use Rattle.std.specs.Prelude.{◌≡◌, ℕ, nat_eq, List, Some}
use Rattle.indexmap.specs.IndexMap.{get}
use Rattle.net_base.specs.declared.numbers.Tag.{Tag}
use Rattle.free_tags.specs.declared.free.FreeTags.{FreeTags}
use Rattle.free_tags.specs.declared.free.Reached.{Reached}
use Rattle.free_tags.specs.Free.{HaveSameTags, free_count}

-- What these tags leave free: the same tags are taken, and each count is right.
pub record LeavesFree (tags : List Tag) (free : FreeTags) : Type 0 where
  pub same : HaveSameTags free.taken.keys tags
  pub counts : (asn : ℕ) (r : Reached) → get nat_eq free.reached asn ≡ Some r → free_count tags asn r.value ≡ r.count
