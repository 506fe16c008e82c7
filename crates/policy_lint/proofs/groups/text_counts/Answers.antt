use Rattle.std.proofs.Common.{arith}
use Rattle.policy_tokens.specs.declared.token.Token.{Token}
use Rattle.policy_tokens.specs.declared.token.TokenKind.TheVariants.{Word}
use Rattle.policy_lint.specs.Groups.{count_of}
use Rattle.policy_lint.proofs.Naming.{counted_more, times_within}
use Rattle.policy_lint.proofs.groups.text_counts.Goals as goal

pub count_one-requires : goal.count_one-requires
count_one-requires c =
    let few = times_within c.args.bytes.now c.args.tokens.now c.loop-token.token-index c.token_text.result.now c.loop-token-test.true in
    omega (arith, few, c.loop-token.invariant c.token_text.result.now, c.loop-token-test.true)

pub loop-token-preserved : goal.loop-token-preserved
loop-token-preserved c =
    let none : Token = record { kind = Word; from = 0; to = 0; place = record { line = 0; column = 0 } } in
    counted_more c.args.bytes.now c.args.tokens.now c.loop-token.token-index none c.token_text.result.now (count_of c.loop-token.counts) (count_of c.count_one.new.counts) c.loop-token-test.true
    c.token_text.ensures c.in_ok-count_one.ensures c.loop-token.invariant
