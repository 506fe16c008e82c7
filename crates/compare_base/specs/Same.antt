-- When two values of a comparison are one.
use Rattle.std.specs.Prelude.{Bool, true, false, ◌&&◌, ◌==◌, nat_eq}
use Rattle.std.specs.Option.{option_eq}
use Rattle.std.proofs.Math.Bool.{beq}
use Rattle.net_base.specs.Sets.{same_set}
use Rattle.compare_base.specs.declared.cases.PrefixCase.{PrefixCase}
use Rattle.compare_base.specs.declared.cases.CasePair.{CasePair}
use Rattle.compare_base.specs.declared.rows.Place.{Place}
use Rattle.compare_base.specs.declared.rows.Row.{Row}
use Rattle.compare_base.specs.declared.rows.Words.{Words}
use Rattle.compare_base.specs.declared.rows.Words.TheVariants.{Partly, Unclaimed, Claimed, Replaced}

abbrev pub same_case : PrefixCase → PrefixCase → Bool
same_case a b = option_eq nat_eq a.statement b.statement && option_eq same_set a.origins b.origins

abbrev pub same_cases : CasePair → CasePair → Bool
same_cases a b = same_case a.old b.old && same_case a.new b.new

abbrev pub same_place : Place → Place → Bool
same_place a b = a.router == b.router && option_eq nat_eq a.peer b.peer

abbrev pub same_row : Row → Row → Bool
same_row a b = option_eq nat_eq a.old b.old && option_eq nat_eq a.new b.new

abbrev pub same_words : Words → Words → Bool
same_words (Partly lost gained reordered) (Partly lost' gained' reordered') = beq lost lost' && (beq gained gained' && beq reordered reordered')
same_words Unclaimed Unclaimed = true
same_words Claimed Claimed = true
same_words Replaced Replaced = true
same_words _ _ = false
