-- The lines of messages that wait.
use Rattle.std.specs.Prelude.{ℕ, List, ◌++◌, Option, Some, None, codes}
use Rattle.std.specs.List.{flat_map}
use Rattle.net_base.specs.Network.{PlainNet}
use Rattle.config_base.specs.declared.route.Route.{Route}
use Rattle.event_base.specs.World.{World}
use Rattle.outcome_report.specs.Lines.{next_name, path_text}

-- what a message says: the path of the route that it announces, or that it withdraws one
abbrev pub message_text : PlainNet → Option Route → List ℕ
message_text net None = codes " withdraw"
message_text net (Some m) = path_text net m.path

-- a message that waits from a to b
unfoldable pub waits_line : PlainNet → ℕ → ℕ → Option Route → List ℕ
waits_line net a b m = codes "waits" ++ next_name net a ++ next_name net b ++ message_text net m ++ codes "\n"

-- what waits from a to b, the first message first
abbrev pub way_lines : PlainNet → World Route → ℕ → ℕ → List ℕ
way_lines net w a b = flat_map (waits_line net a b) (w.queue a b)

-- what waits on a link, from its first end to its second and then back
abbrev pub link_lines : PlainNet → World Route → ℕ × ℕ → List ℕ
link_lines net w link = way_lines net w link.0 link.1 ++ way_lines net w link.1 link.0
