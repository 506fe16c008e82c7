use Rattle.std.proofs.Common.{◌∙◌, refl, sym}
use Rattle.policy_tokens.proofs.Onward.{gap_passed, rest_left, place_passed, token_came, stray_came, end_came}
use Rattle.policy_tokens.proofs.next.next_token.Goals as goal

pub loop-rest-preserved : goal.loop-rest-preserved
loop-rest-preserved c =
    let l = c.loop-rest in
    let within = c.in-Gap.ensures.within in record {
      so_far = rw c.behind-here.ensures (gap_passed _ _ l.at c.in-Gap.len l.here l.invariant.left within.0 within.1 c.in-Gap.ensures.rule ∙ l.invariant.so_far);
      left = rest_left _ _ _ _ _ refl l.invariant.left;
      place = rw c.behind-here.ensures (place_passed _ _ l.at c.in-Gap.len _ l.here l.invariant.left within.0 within.1 l.invariant.place);
    }

pub returns-in-Token-clause-next : goal.returns-in-Token-clause-next
returns-in-Token-clause-next c =
    let l = c.loop-rest in
    let within = c.in-Token.ensures.within in
    sym l.invariant.so_far ∙ token_came _ _ l.at c.in-Token.len l.here c.in-Token.kind l.invariant.left within.0 within.1 c.in-Token.ensures.rule

pub returns-in-Stray-clause-next : goal.returns-in-Stray-clause-next
returns-in-Stray-clause-next c =
    let l = c.loop-rest in
    sym l.invariant.so_far ∙ stray_came _ _ l.at l.here l.invariant.left c.in-len1-up.len_at_least c.in-Stray.ensures.rule

pub returns-clause-next : goal.returns-clause-next
returns-clause-next c =
    let l = c.loop-rest in
    sym l.invariant.so_far ∙ end_came _ _ l.at l.here l.invariant.left c.in_default.len_below
