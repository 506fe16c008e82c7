-- What a statement comes to, by its parts, is what the rules say of it.
use Rattle.std.proofs.Common.{◌≡◌, ℕ, ◌≤◌, List, [], Result, Ok, refl, sym, ap, ◌∙◌, subst, leb-true, arith}
use Rattle.std.specs.Prelude.{⊤}
use Rattle.policy_tokens.specs.declared.limits.TheConstants.{CALLS}
use Rattle.policy_tokens.specs.declared.kind.Kind.TheVariants as kind
use Rattle.net_base.specs.Network.{PlainNet}
use Rattle.net_base.specs.Prefixes.{PlainPattern}
use Rattle.net_base.specs.Steps.{◌>>=◌}
use Rattle.net_base.proofs.StepLemmas.{bind_ok, unless_ok}
use Rattle.policy_base.specs.declared.policy.FromSet.{FromSet}
use Rattle.policy_base.specs.Policies.{Ranking, plain_statement}
use Rattle.policy_tokens.specs.declared.fault.PolicyFault.{PolicyFault}
use Rattle.policy_tokens.specs.declared.fault.PolicyFault.TheVariants.{TooMany}
use Rattle.policy_grammar.specs.Raw.{RawStatement}
use Rattle.policy_rules.specs.KnownNames.{Names}
use Rattle.policy_rules.specs.Checks.{each, step_known, arg_known}
use Rattle.policy_rules.specs.Counts.{within}
use Rattle.policy_rules.specs.Ranks.{top as top_mark, or_broken}
use Rattle.policy_parser.specs.declared.values.StatementRead.{StatementRead}
use Rattle.policy_values.specs.Built.{top, all_behind, ranking_of_steps, patterns_of, from_of, statement_of}
use Rattle.policy_parser.specs.ItemValues.{IsStatement}
use Rattle.policy_values.specs.Parts.{PartsValue, names_of, first_fault, parts_of}
use Rattle.policy_values.specs.PatternValues.{PatternsValue, patterns_value}
use Rattle.policy_values.proofs.KnownCalls.{from_names}
use Rattle.policy_values.proofs.PartLaws.{parts_names, parts_calls, parts_places, parts_marks, parts_stack}
use Rattle.policy_values.proofs.PatternsBehind.{patterns_count, patterns_figures, patterns_list}

-- what is said of a statement with these parts
pub record Judges (p : PatternsValue) (q : PartsValue) (from : Result FromSet PolicyFault) (v : StatementRead) : Type 0 where
  pub names : v.names ≡ first_fault q.names (names_of from)
  pub figures : v.figures ≡ p.figures
  pub patterns : v.patterns ≡ p.count
  pub ranks : v.ranks ≡ or_broken (top_mark q.marks).broken
  pub calls : v.calls ≡ within kind.Calls CALLS q.calls
  pub places : v.places ≡ q.places
  pub value : (f : FromSet) → from ≡ Ok f → plain_statement v.value ≡ record { patterns = p.list; ranked = top q.stack; from = f }

-- no more calls than a statement may have
few_calls : (n : ℕ) → within kind.Calls CALLS n ≡ Ok tt → n ≤ CALLS
few_calls n is = omega (arith, leb-true n CALLS (unless_ok (TooMany kind.Calls n) _ tt is))

module _ (bytes : List ℕ) (net : PlainNet) (known : Names) where
  -- the value, by those of its parts
  built : (s : RawStatement) (patterns : List PlainPattern) (stack : List Ranking) (f : FromSet)
      → patterns_of bytes [] s.patterns ≡ Ok patterns → all_behind bytes net known [] s.ranked ≡ Ok stack → from_of bytes known s.from ≡ Ok f
      → statement_of bytes net known s ≡ Ok (record { patterns = patterns; ranked = top stack; from = f })
  unfolding statement_of ranking_of_steps
  built s patterns stack f governs ranked claims = rw (governs, ranked, claims) refl

  -- a statement with the parts of this one
  of_parts : (s : RawStatement) (v : StatementRead) → Judges (patterns_value bytes s.patterns) (parts_of bytes net known s.ranked) (from_of bytes known s.from) v → IsStatement bytes net known s v
  of_parts s v j =
      let p = patterns_value bytes s.patterns in
      let q = parts_of bytes net known s.ranked in
      let names : v.names ≡ (each (step_known bytes known) s.ranked >>= λ _. arg_known bytes known s.from) =
      j.names
      ∙ ap (λ (r : Result ⊤ PolicyFault). first_fault r (names_of (from_of bytes known s.from))) (parts_names bytes net known s.ranked)
      ∙ ap (first_fault (each (step_known bytes known) s.ranked)) (from_names bytes net known s.from) in
      record {
        names = names;
        figures = j.figures ∙ patterns_figures bytes s.patterns;
        patterns = j.patterns ∙ patterns_count bytes s.patterns;
        ranks = j.ranks ∙ ap (λ ms. or_broken (top_mark ms).broken) (parts_marks bytes net known s.ranked);
        calls = j.calls ∙ ap (within kind.Calls CALLS) (parts_calls bytes net known s.ranked);
        places = j.places ∙ parts_places bytes net known s.ranked;
        value = λ named fine counted placed few.
            let passed = bind_ok (each (step_known bytes known) s.ranked) (λ _. arg_known bytes known s.from) tt (sym names ∙ named) in
            let f = bind_ok (from_of bytes known s.from) (λ x. Ok tt) tt (from_names bytes net known s.from ∙ passed.2) in
            let patterns = patterns_list bytes s.patterns (sym (j.figures ∙ patterns_figures bytes s.patterns) ∙ fine) (omega (arith, few, j.patterns, patterns_count bytes s.patterns)) in
            let stack = parts_stack bytes net known s.ranked (parts_names bytes net known s.ranked ∙ passed.1) (sym j.places ∙ placed) (few_calls q.calls (sym j.calls ∙ counted)) in
            built s p.list q.stack f.0 patterns stack f.1 ∙ ap Ok (sym (j.value f.0 f.1));
      }

  -- a statement, by its parts
  pub judged : (s : RawStatement) (p : PatternsValue) (q : PartsValue) (from : Result FromSet PolicyFault) (v : StatementRead)
      → p ≡ patterns_value bytes s.patterns → q ≡ parts_of bytes net known s.ranked → from ≡ from_of bytes known s.from → Judges p q from v → IsStatement bytes net known s v
  judged s p q from v governs ranked claims j =
      of_parts s v (
      subst (λ x. Judges (patterns_value bytes s.patterns) (parts_of bytes net known s.ranked) x v) claims
      (subst (λ x. Judges (patterns_value bytes s.patterns) x from v) ranked
      (subst (λ x. Judges x q from v) governs j)))
