use Rattle.std.proofs.Common.{◌≡◌, ◌-◌, length, take, drop, ap, ◌∙◌, arith, length-drop}
use Rattle.std.proofs.lemmas.List.{take_all}
use Rattle.policy_lint.specs.Groups.{group_in}
use Rattle.policy_lint.proofs.Naming.{names_more}
use Rattle.policy_lint.proofs.groups.group_names.Goals as goal

pub loop-i-preserved : goal.loop-i-preserved
loop-i-preserved c =
    let bytes = c.args.bytes.now in
    let tokens = c.args.tokens.now in
    let i = c.loop-i.i in
    let all : take (length tokens - i) (drop i tokens) ≡ drop i tokens = take_all (length tokens - i) (drop i tokens) (omega (arith, length-drop i tokens)) in
    names_more bytes tokens i c.loop-i.names.items c.keep.new.names.items c.group_in.result c.loop-i-test.true (c.group_in.ensures ∙ ap (group_in bytes) all) c.in_ok-keep.ensures c.loop-i.invariant
