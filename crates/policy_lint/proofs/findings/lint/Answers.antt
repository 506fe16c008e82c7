use Rattle.std.proofs.Common.{◌≡◌, ℕ, ◌+◌, ◌++◌, ◌<◌, ◌≤◌, ◌^◌, Bool, true, List, [], length, map, Some, ap, ap₂, sym, subst, ◌∙◌, arith}
use Rattle.std.specs.Prelude.{◌==◌, filter, slice_get}
use Rattle.policy_tokens.specs.declared.token.Token.{Token}
use Rattle.lint_cover.specs.Statements.{AreMarked}
use Rattle.policy_lint.specs.Groups.{group_names, is_unused}
use Rattle.policy_lint.specs.declared.finding.Finding.TheVariants.{UnusedGroup}
use Rattle.std.specs.List.{list_any}
use Rattle.policy_base.specs.declared.limits.TheConstants.{ALTERNATIVES}
use Rattle.net_base.specs.Network.{PlainNet}
use Rattle.policy_base.specs.Cases.{case_list}
use Rattle.policy_base.specs.Meaning.{alternative_count}
use Rattle.case_graphs.specs.Limits.{AreAllWithin}
use Rattle.policy_lint.specs.Told.{marked, told_covered, told_from, told_idle}
use Rattle.policy_lint.proofs.Idles.{has_case}
use Rattle.std.proofs.lemmas.List.{length-map}
use Rattle.config_maker.proofs.CaseClasses.{case_lists}
use Rattle.policy_base.specs.declared.case.Case.{Case}
use Rattle.policy_base.specs.Policies.{PlainPolicy, PlainStatement, plain_statement, policy_of}
use Rattle.policy_parser.proofs.FittingPolicies.{read_policies_fit}
use Rattle.policy_lint.proofs.Texts.{tokens_spelled}
use Rattle.policy_lint.proofs.Whole.{all_are, few_where_marked}
use Rattle.policy_lint.proofs.findings.lint.Goals as goal

pub reached_ranks-requires-clause-few : goal.reached_ranks-requires-clause-few
reached_ranks-requires-clause-few c =
    subst (λ (xs : List Case). length xs < 2 ^ 32) (sym c.in_ok-list.ensures) (case_lists c.args.net.now (policy_of c.args.policy.now) c.known_policy.ensures).count

pub reached_ranks-requires-clause-routers : goal.reached_ranks-requires-clause-routers
reached_ranks-requires-clause-routers c = (read_policies_fit c.args.net.now c.args.bytes.now (policy_of c.args.policy.now) c.requires.spelled).routers

pub tokens_for-requires-clause-cut : goal.tokens_for-requires-clause-cut
tokens_for-requires-clause-cut c = tokens_spelled c.args.net.now c.args.bytes.now (policy_of c.args.policy.now) c.requires.spelled

-- which statements have a case, by the list of cases
marks_of : (net : PlainNet) (policy : PlainPolicy) (have : List Bool) (cases : List Case) (most : ℕ) → most ≡ length policy.statements → cases ≡ case_list net policy
    → ((n : ℕ) → n ≤ most → marked have n ≡ list_any (λ (c : Case). c.statement == n) cases) → (n : ℕ) → n ≤ length policy.statements → marked have n ≡ has_case net policy n
marks_of net policy have cases most many is marks n within = marks n (omega (arith, within, many)) ∙ ap (list_any (λ (c : Case). c.statement == n)) is

few_of : (net : PlainNet) (policy : PlainPolicy) (have view : List Bool) (cases : List Case) (statements : List PlainStatement) (most : ℕ)
    → statements ≡ policy.statements → most ≡ length policy.statements → cases ≡ case_list net policy → view ≡ have
    → AreAllWithin net policy → ((n : ℕ) → n ≤ most → marked have n ≡ list_any (λ (c : Case). c.statement == n) cases)
    → (k : ℕ) (s : PlainStatement) → slice_get statements k ≡ Some s → marked view (k + 1) ≡ true → alternative_count s.ranked ≤ ALTERNATIVES
few_of net policy have view cases statements most same many is seen within marks k s at has =
    few_where_marked net policy have within (marks_of net policy have cases most many is marks) k s
    (subst (λ (xs : List PlainStatement). slice_get xs k ≡ Some s) same at) (subst (λ (hs : List Bool). marked hs (k + 1) ≡ true) seen has)

pub push_unreached-requires-clause-few : goal.push_unreached-requires-clause-few
push_unreached-requires-clause-few c =
    let statements = c.statements-statements.ensures.statements in
    few_of c.args.net.now (policy_of c.args.policy.now) c.in_ok-have.have.items _ _ _ _ (ap (map plain_statement) statements)
    (omega (arith, ap length statements, length-map c.args.policy.now.statements plain_statement))
    (c.as_slice.ensures ∙ c.in_ok-list.ensures) c.deref-4.ensures.value
    c.in_ok-ranks.ensures.within c.in_ok-have.ensures.marks

-- what was added piece by piece
joined : {X : Type 0} (f g h i j a b c d : List X) → f ≡ [] → g ≡ f ++ a → h ≡ g ++ b → i ≡ h ++ c → j ≡ i ++ d → j ≡ a ++ b ++ c ++ d
joined f g h i j a b c d none first second third fourth =
    fourth ∙ ap (λ x. x ++ d) (third ∙ ap (λ x. x ++ c) (second ∙ ap (λ x. x ++ b) (first ∙ ap (λ x. x ++ a) none)))

pub returns-clause-found : goal.returns-clause-found
returns-clause-found c =
    let policy = policy_of c.args.policy.now in
    let statements = c.statements-statements.ensures.statements in
    let same : map plain_statement c.statements-statements.result.now ≡ policy.statements = ap (map plain_statement) statements in
    let many : length c.statements-statements.result.now ≡ length policy.statements = omega (arith, ap length statements, length-map c.args.policy.now.statements plain_statement) in
    let have = c.in_ok-have.have.items in
    let marks = marks_of c.args.net.now policy have _ _ many (c.as_slice.ensures ∙ c.in_ok-list.ensures) c.in_ok-have.ensures.marks in
    let are = subst (λ (ss : List PlainStatement). AreMarked ss c.in_ok-covered.covered.items) same c.in_ok-covered.ensures in
    let groups =
    c.in_ok-push_unused.ensures
    ∙ ap (λ (ts : List Token). c.new-findings.result.items ++ map UnusedGroup (filter (is_unused c.args.bytes.now ts) (group_names c.args.bytes.now ts))) c.deref.ensures.value in
    let covers =
    c.in_ok-push_covered.ensures
    ∙ ap₂ (λ (xs : List Bool) (n : ℕ). c.push_unused.new.findings.items ++ told_covered xs n) c.deref-2.ensures.value (ap length c.deref-2.ensures.value ∙ are.size) in
    let idles = c.in_ok-push_idle.ensures ∙ ap₂ (λ (xs : List Bool) (n : ℕ). c.push_covered.new.findings.items ++ told_idle xs n) c.deref-3.ensures.value many in
    let rest =
    c.in_ok-push_unreached.ensures
    ∙ ap₂ (λ (xs : List Bool) (ss : List PlainStatement). c.push_idle.new.findings.items ++ told_from c.in_ok-ranks.ranks xs 1 ss) c.deref-4.ensures.value same in
    all_are c.args.bytes.now c.in_ok-tokens.tokens.items c.args.net.now policy have marks c.in_ok-ranks.ranks c.in_ok-ranks.ensures.reached c.in_ok-covered.covered.items are c.in_ok-tokens.ensures _
    (joined _ _ _ _ _ _ _ _ _ c.new-findings.ensures.items groups covers idles rest)
