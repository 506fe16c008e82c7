-- Which commands compile, which may refuse, and which judge what they are given.
use Rattle.propane_run.specs.declared.command.Command.{Command}
use Rattle.propane_run.specs.declared.command.Command.TheVariants.{Compile, Evidence, Check, Impact, RouteMap, CheckMap, Lint, Audit, Sample, Promises, Maps, Between, Renew, Reuse, Compare, Under, After}

-- it writes a part of what is compiled from a policy, or what comes of it
abbrev pub Compiles : Command → Type 0
Compiles Compile = Unit {0}
Compiles Evidence = Unit {0}
Compiles (Impact _) = Unit {0}
Compiles (Sample _) = Unit {0}
Compiles Promises = Unit {0}
Compiles (Under _) = Unit {0}
Compiles (After _) = Unit {0}
Compiles _ = ⊥

-- it may refuse a policy, or a configuration
abbrev pub Refuses : Command → Type 0
Refuses RouteMap = Unit {0}
Refuses CheckMap = Unit {0}
Refuses Lint = Unit {0}
Refuses Maps = Unit {0}
Refuses (Between _) = Unit {0}
Refuses (Renew _) = Unit {0}
Refuses (Reuse _) = Unit {0}
Refuses Compare = Unit {0}
Refuses c = Compiles c

-- it judges what it is given
abbrev pub Judges : Command → Type 0
Judges Check = Unit {0}
Judges CheckMap = Unit {0}
Judges Audit = Unit {0}
Judges (Between _) = Unit {0}
Judges _ = ⊥
