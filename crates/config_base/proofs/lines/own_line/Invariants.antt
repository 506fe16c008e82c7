use Rattle.std.proofs.Common.{◌≡◌, drop}
use Rattle.std.specs.Prelude.{◌&&◌, ◌==◌}
use Rattle.std.specs.List.{find}
use Rattle.net_base.specs.Prefixes.{same_prefix}
use Rattle.config_base.specs.declared.config.Origination.{Origination}
use Rattle.config_base.proofs.lines.own_line.Given as goal

abbrev pub invariant-loop-line : goal.invariant-loop-line
invariant-loop-line l =
    find (λ (o : Origination). o.class == l.class && same_prefix o.prefix l.prefix) l.lines
    ≡ find (λ (o : Origination). o.class == l.class && same_prefix o.prefix l.prefix) (drop l.line-index l.lines)
