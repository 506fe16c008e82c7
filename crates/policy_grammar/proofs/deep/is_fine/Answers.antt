use Rattle.std.proofs.Common.{◌∙◌, sym, length, eqb-true, arith}
use Rattle.policy_grammar.proofs.Fine.{begun, gap_on, token_on, all_fine}
use Rattle.policy_grammar.proofs.deep.is_fine.Goals as goal

pub loop-rest-init : goal.loop-rest-init
loop-rest-init c = record {
  so_far = begun c.args.text.now;
  fits = omega arith;
}

pub loop-rest-preserved-in-Gap : goal.loop-rest-preserved-in-Gap
loop-rest-preserved-in-Gap c =
    let l = c.loop-rest in
    let within = c.in-Gap.ensures.within in record {
      so_far = gap_on c.args.text.now l.rest.now l.count c.in-Gap.len within.0 within.1 c.in-Gap.ensures.rule l.invariant.so_far;
      fits = l.invariant.fits;
    }

pub loop-rest-preserved : goal.loop-rest-preserved
loop-rest-preserved c =
    let l = c.loop-rest in
    let within = c.in-Token.ensures.within in record {
      so_far = token_on c.args.text.now l.rest.now l.count c.in-Some.behind c.in-Token.len c.in-Token.kind within.0 within.1 c.in-Token.ensures.rule c.in-Some.ensures.counted l.invariant.so_far;
      fits = c.in-Some.ensures.fits;
    }

pub returns : goal.returns
returns c =
    let l = c.loop-rest in
    let none = eqb-true (length l.rest.now) 0 (sym c.is_empty.ensures ∙ c.loop-rest-test.false) in
    λ fine. all_fine c.args.text.now l.rest.now l.count (omega (arith, none)) l.invariant.so_far
