use Rattle.std.proofs.Common.{◌≡◌, false, map, [], sym, ap, ◌∙◌}
use Rattle.std.specs.Prelude.{option_map, unwrap_or, if◌then◌else◌}
use Rattle.std.specs.List.{list_any}
use Rattle.list_law.proofs.Tests.{list_any-map}
use Rattle.net_base.specs.Prefixes.{PlainPattern, PlainPrefix, contains, only}
use Rattle.policy_base.specs.Policies.{statement_at, PlainStatement, policy_of}
use Rattle.evidence_base.proofs.belonging.is_of_case.Goals as goal

pub returns-then-not-case : goal.returns-then-not-case
returns-then-not-case c =
    let case = c.args.case.now in
    let policy = policy_of c.args.policy.now in
    let off : case.external ≡ false = c.if-not-case.true in
    c.is_named.ensures
    ∙ ap (list_any (λ (named : PlainPrefix). contains (only named) c.args.prefix)) c.as_slice.ensures
    ∙ sym (list_any-map (λ (pattern : PlainPattern). contains pattern c.args.prefix) only case.prefixes)
    ∙ ap (λ b. list_any (λ (pattern : PlainPattern). contains pattern c.args.prefix) (if b then unwrap_or
    (option_map (λ (s : PlainStatement). s.patterns) (statement_at policy case.statement)) [] else map only case.prefixes)) (sym off)
