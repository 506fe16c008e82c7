use Rattle.std.proofs.Common.{rules, arith, eqb, w64, ap, ◌∙◌}
use Rattle.std.proofs.lemmas.Nat.Bits.{bit_at-trailing_zeros}
use Rattle.std.specs.Int.{trailing_zeros}
use Rattle.bit_rows.proofs.Words.{smaller, listed_next, still_of}
use Rattle.std.specs.List.{list_any}
use Rattle.bit_rows.proofs.members.add_members_of_word.Goals as goal

pub loop-left-smaller : goal.loop-left-smaller
loop-left-smaller c =
    let low = bit_at-trailing_zeros w64 c.loop-left.left (omega arith) (search rules) in
    smaller c.loop-left.left (trailing_zeros w64 c.loop-left.left) low.0 low.1

pub loop-left-preserved : goal.loop-left-preserved
loop-left-preserved c =
    let low = bit_at-trailing_zeros w64 c.loop-left.left (omega arith) (search rules) in
    let b = trailing_zeros w64 c.loop-left.left in
    let of = c.loop-left.invariant.of in
    record {
      of = λ j lj set. still_of c.args.word c.loop-left.left b j low.0 lj of set;
      listed =
          λ k. ap (list_any (λ x. eqb x k)) c.in_ok-push.ensures.items
          ∙ listed_next c.args.word c.loop-left.left c.args.place b c.loop-left.list.items k (list_any (λ x. eqb x k) c.args.list.now.items) low.0
          low.1 (of b low.0 low.1) (c.loop-left.invariant.listed k);
    }
