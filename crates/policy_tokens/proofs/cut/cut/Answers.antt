use Rattle.std.proofs.Common.{◌∙◌, sym, ap, length}
use Rattle.policy_tokens.specs.Places.{first_place}
use Rattle.policy_tokens.specs.Ahead.{from_next}
use Rattle.policy_tokens.proofs.Onward.{tokens_told, with_found, found_end, found_stray}
use Rattle.policy_tokens.proofs.cut.cut.Goals as goal

pub returns-in-Stray : goal.returns-in-Stray
returns-in-Stray c =
    λ memory. tokens_told (length c.args.bytes.now) 0 first_place c.args.bytes.now
    ∙ found_stray c.loop-next.found.items _ _ (ap (λ x. with_found c.loop-next.found.items (from_next c.args.bytes.now x)) (sym c.in-Stray.is) ∙ c.loop-next.invariant.so_far)

pub returns-in_default-next : goal.returns-in_default-next
returns-in_default-next c =
    tokens_told (length c.args.bytes.now) 0 first_place c.args.bytes.now
    ∙ found_end c.args.bytes.now c.loop-next.found.items c.loop-next.next _ c.in_default.not-Token c.in_default-next.not-Stray c.loop-next.invariant.so_far
