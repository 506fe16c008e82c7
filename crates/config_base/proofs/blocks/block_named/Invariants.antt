use Rattle.std.proofs.Common.{◌≡◌, drop, not}
use Rattle.std.specs.Prelude.{◌&&◌, if◌then◌else◌}
use Rattle.std.specs.List.{find}
use Rattle.std.specs.Str.{bytes_eq}
use Rattle.config_base.specs.declared.config.Session.{Session}
use Rattle.config_base.proofs.blocks.block_named.Given as goal

abbrev pub invariant-loop-session : goal.invariant-loop-session
invariant-loop-session l =
    let p = λ (b : Session). bytes_eq l.name b.name && (if b.peer then l.peer else not l.peer) in
    find p l.sessions ≡ find p (drop l.session-index l.sessions)
