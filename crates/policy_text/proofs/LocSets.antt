-- The sets of locations that are printed are those of twelve words.
use Rattle.std.proofs.Common.{ℕ, zero, suc, ◌^◌, ◌<◌, List, [], ◌∷◌, arith}
use Rattle.std.specs.Prelude.{slice_index}
use Rattle.std.specs.List.{AllByRecursion}
use Rattle.list_law.proofs.Items.{all_below}
use Rattle.net_base.specs.declared.loc.LocSet.{LocSet}
use Rattle.net_base.specs.Sets.{IsWords}
use Rattle.policy_text.specs.Values.{IsLocSet}

all_at : (ws : List ℕ) → AllByRecursion (λ w. w < 2 ^ 64) ws → (i : ℕ) → slice_index ws i < 2 ^ 64
all_at [] all i = omega arith
all_at (w ∷ ws) all zero = all.0
all_at (w ∷ ws) all (suc i) = all_at ws all.1 i

pub is_words : (s : LocSet) → IsLocSet s → IsWords s
is_words s is = record { size = is.0; fit = all_at s.words is.1 }

pub words_set : (s : LocSet) → IsWords s → IsLocSet s
words_set s is = (is.size, all_below (2 ^ 64) s.words is.fit)
