-- The lines of a configuration, each with its class and its place.
use Rattle.std.specs.Prelude.{ℕ, ◌+◌, ◌==◌, Bool, ◌&&◌, true, false, List, [], ◌∷◌, ◌++◌, map}
use Rattle.std.specs.List.{filter}
use Rattle.net_base.specs.Prefixes.{PlainPattern, same_prefix}
use Rattle.policy_base.specs.Governing.{some_contains}
use Rattle.config_base.specs.declared.config.RouterConfig.{RouterConfig}
use Rattle.config_base.specs.declared.config.Session.{Session}
use Rattle.config_base.specs.declared.config.Import.{Import}
use Rattle.config_base.specs.declared.config.Export.{Export}
use Rattle.config_base.specs.declared.config.Origination.{Origination}
use Rattle.config_base.specs.Configs.{PlainConfig}
use Rattle.config_base.specs.Lines.{same_tag}
use Rattle.class_lines.specs.declared.class_line.ClassLine.{ClassLine}
use Rattle.class_lines.specs.declared.class_line.Says.{Says}
use Rattle.class_lines.specs.declared.class_line.Says.TheVariants.{Originates, Takes, Sends}

-- ---- the lines of a block

abbrev pub own_line : ℕ → Origination → ClassLine
own_line router o = record { class = o.class; router = router; neighbour = 0; says = Originates o.prefix o.tag }

abbrev pub import_line : ℕ → ℕ → Import → ClassLine
import_line router neighbour r = record { class = r.class; router = router; neighbour = neighbour; says = Takes r.tag r.set r.pref }

abbrev pub export_line : ℕ → ℕ → Export → ClassLine
export_line router neighbour e = record { class = e.class; router = router; neighbour = neighbour; says = Sends e.tag }

-- ---- all lines, in the order of the text

-- of a neighbour
abbrev pub session_lines : ℕ → ℕ → Session → List ClassLine
session_lines router neighbour b = map (import_line router neighbour) b.imports ++ map (export_line router neighbour) b.exports

-- of neighbours, who have these numbers from this one on
abbrev pub sessions_from : ℕ → ℕ → List Session → List ClassLine
sessions_from router neighbour [] = []
sessions_from router neighbour (b ∷ bs) = session_lines router neighbour b ++ sessions_from router (neighbour + 1) bs

abbrev pub router_lines : ℕ → RouterConfig → List ClassLine
router_lines router c = map (own_line router) c.own ++ sessions_from router 1 c.sessions

abbrev pub routers_from : ℕ → List RouterConfig → List ClassLine
routers_from router [] = []
routers_from router (c ∷ cs) = router_lines router c ++ routers_from (router + 1) cs

abbrev pub all_lines : PlainConfig → List ClassLine
all_lines config = routers_from 0 config.routers

-- the lines of a class
abbrev pub of_class : ℕ → List ClassLine → List ClassLine
of_class n ls = filter (λ l. l.class == n) ls

-- ---- lines about some prefixes

-- what a line says is about prefixes of these patterns: but for an `originate` line of another prefix, each line is
abbrev pub is_about : List PlainPattern → Says → Bool
is_about patterns (Originates p t) = some_contains patterns p
is_about patterns (Takes t s n) = true
is_about patterns (Sends t) = true

abbrev pub lines_about : List PlainPattern → List ClassLine → List ClassLine
lines_about patterns ls = filter (λ l. is_about patterns l.says) ls

-- ---- the same lines

-- two lines say the same
abbrev pub same_says : Says → Says → Bool
same_says (Originates p t) (Originates q u) = same_prefix p q && same_tag t u
same_says (Takes t s n) (Takes u k m) = same_tag t u && (same_tag s k && n == m)
same_says (Sends t) (Sends u) = same_tag t u
same_says _ _ = false

-- at the same place, of whichever class
abbrev pub same_line : ClassLine → ClassLine → Bool
same_line a b = a.router == b.router && (a.neighbour == b.neighbour && same_says a.says b.says)

-- one by one
abbrev pub same_lines : List ClassLine → List ClassLine → Bool
same_lines [] [] = true
same_lines (a ∷ xs) (b ∷ ys) = same_line a b && same_lines xs ys
same_lines _ _ = false
