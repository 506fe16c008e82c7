-- The text of what carries nothing.
use Rattle.std.specs.Prelude.{ℕ, List, ◌++◌, codes, length}
use Rattle.std.specs.Fmt.{decimal}
use Rattle.std.specs.List.{flat_map}
use Rattle.net_base.specs.Network.{PlainNet}
use Rattle.net_base.specs.Prefixes.{PlainPrefix}
use Rattle.config_base.specs.Configs.{PlainConfig}
use Rattle.outcome_report.specs.Lines.{head_lines, next_name}
use Rattle.impact_law.specs.declared.impact.Cut.{Cut}
use Rattle.impact_law.specs.declared.impact.Cut.TheVariants.{Link, Router}
use Rattle.drain_report.specs.declared.drained.Drain.{Drain}

abbrev pub free_text : PlainNet → Cut → List ℕ
free_text net (Link a b) = codes "free link" ++ next_name net a ++ next_name net b
free_text net (Router r) = codes "free router" ++ next_name net r

abbrev pub free_line : PlainNet → Cut → List ℕ
free_line net cut = free_text net cut ++ codes "\n"

unfoldable pub count_line : ℕ → ℕ → List ℕ
count_line free live = codes "free " ++ decimal free ++ codes " of " ++ decimal live ++ codes "\n"

-- The prefix and its class, each free link and router, and how many there are of how many that live.
abbrev pub drain_text : PlainNet → PlainConfig → PlainPrefix → Drain → List ℕ
drain_text net config p drain = head_lines config p ++ flat_map (free_line net) drain.free ++ count_line (length drain.free) drain.live
