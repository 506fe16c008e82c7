use Rattle.std.proofs.Common.{◌≡◌, ◌∙◌, true, sym, ap, Some, inl, inr, subst}
use Rattle.std.specs.Prelude.{◌↔◌, ◌≤◌, option_map}
use Rattle.policy_base.specs.declared.limits.TheConstants.{ALTERNATIVES}
use Rattle.net_base.specs.Sets.{holds}
use Rattle.policy_base.specs.Meaning.{alternative_count}
use Rattle.policy_base.specs.Policies.{PlainStatement, policy_of}
use Rattle.graph_base.specs.Ranked.{IsRankedRouter}
use Rattle.outcome_claims.specs.Claims.{Sources}
use Rattle.outcome_claims.specs.Marks.{AreMarks, heard_pairs}
use Rattle.outcome_claims.proofs.Claimed.{case_claimed, governed, none_claimed}
use Rattle.outcome_claims.proofs.claims.claims_of.Goals as goal

pub returns-in-None : goal.returns-in-None
returns-in-None c =
    let net = c.args.net.now in
    let policy = policy_of c.args.policy.now in
    let passes = c.requires.passes in
    let none = sym (c.case_of.ensures net passes.0 passes.1.made.lines) ∙ ap (option_map (λ d. d.now)) c.in-None.is in
    let sources : Sources = record { routers = holds c.new.result; sessions = c.new-in-None.result } in
    record {
      claimed =
          none_claimed net policy passes.0 c.args.evidence.now.cases c.known_net.ensures c.requires.fits passes.1 c.args.prefix
          c.known_prefix.ensures sources none c.new.ensures.holds c.new-in-None.ensures;
      ranked = inr (record { routers = c.new.ensures.holds; sessions = c.new-in-None.ensures });
      limits = λ s h. absurd cc;
    }

pub returns-in_ok-sessions-in-Some : goal.returns-in_ok-sessions-in-Some
returns-in_ok-sessions-in-Some c =
    let net = c.args.net.now in
    let policy = policy_of c.args.policy.now in
    let config = c.requires.passes.0 in
    let passes = c.requires.passes.1 in
    let cs = c.args.evidence.now.cases in
    let rules = c.known_net.ensures in
    let prefix = c.known_prefix.ensures in
    let d = c.in-Some.case.now in
    let found = sym (c.case_of.ensures net config passes.made.lines) ∙ ap (option_map (λ e. e.now)) c.in-Some.is in
    let case = governed net policy config cs rules c.requires.fits passes c.args.prefix prefix d found in
    let sources : Sources = record { routers = holds c.ranked_routers.result; sessions = c.in_ok-sessions-in-Some.field-0 } in
    let links = c.in_ok-sessions-in-Some.ensures in
    let marks = subst (λ g. AreMarks net (heard_pairs g) links.0) c.graph-in-Some.ensures.graph links.1 in
    let ranked = subst (λ g. (l : _) → (holds c.ranked_routers.result l ≡ true) ↔ IsRankedRouter net g l) c.graph.ensures.graph c.ranked_routers.ensures in
    record {
      claimed = case_claimed net policy config cs rules c.requires.fits passes c.args.prefix prefix d case links.0 marks sources ranked links.2;
      ranked = inl c.statement_of.ensures;
      limits = λ s h. let both : Some s ≡ Some case.s = sym h ∙ c.statement_of.ensures ∙ case.governs in
          let same : s ≡ case.s = cc in
          subst (λ (t : PlainStatement). alternative_count t.ranked ≤ ALTERNATIVES) (sym same) case.few;
    }
