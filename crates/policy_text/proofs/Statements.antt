-- Statements and origins that are read are printable.
use Rattle.std.proofs.Common.{◌≡◌, ◌≢◌, ℕ, ◌+◌, ◌≤◌, List, [], ◌∷◌, ◌++◌, length, Option, Some, None, Result, Ok, Err, refl, subst, arith, leb-true}
use Rattle.std.specs.Prelude.{⊤, nat_le, sum_by}
use Rattle.std.specs.List.{AllByRecursion}
use Rattle.net_base.specs.declared.place.Place.{Place}
use Rattle.policy_tokens.specs.declared.kind.Kind.TheVariants as kind
use Rattle.net_base.specs.Network.{PlainNet, IsNet}
use Rattle.net_base.specs.Prefixes.{PlainPattern, IsPattern}
use Rattle.net_base.proofs.StepLemmas.{bind_ok, unless_ok}
use Rattle.policy_tokens.specs.declared.fault.PolicyFault.{PolicyFault}
use Rattle.policy_tokens.specs.declared.fault.PolicyFault.TheVariants.{RankUnder, TooMany}
use Rattle.policy_grammar.specs.declared.lexeme.Lexeme.{Lexeme}
use Rattle.policy_grammar.specs.Raw.{Arg, Arg as arg, RawStatement, Item}
use Rattle.policy_grammar.specs.Raw.Item.{Define, Originate, State}
use Rattle.policy_rules.specs.Checks.{set_of_names, each}
use Rattle.policy_rules.specs.Counts.{capped, call_amount, calls_within, paths_within}
use Rattle.policy_rules.specs.KnownNames.{Names}
use Rattle.policy_rules.specs.Ranks.{broken_rank, ranks_fine}
use Rattle.policy_base.specs.declared.policy.FromSet.{FromSet}
use Rattle.policy_base.specs.declared.policy.FromSet.TheVariants as from_set
use Rattle.policy_base.specs.declared.policy.Origin.{Origin}
use Rattle.policy_base.specs.Policies.{PlainStatement}
use Rattle.policy_values.specs.Built.{from_of, statement_of, statements_of, origin_of, origins_of}
use Rattle.policy_parser.proofs.BuiltParts.{origin_parts, statement_parts}
use Rattle.policy_parser.proofs.BuiltPolicies.{statement_patterns}
use Rattle.policy_text.specs.Printable.{HoldsSome, IsWritableFrom, IsPrintableStatement}
use Rattle.policy_text.specs.Values.{IsLocSet, HasSources, IsStatementValue}
use Rattle.list_law.proofs.Each.{AllByRecursion-push}
use Rattle.policy_text.proofs.Forms.{IsNamed, IsArg, IsStatementForm, HasForm}
use Rattle.policy_text.proofs.Sets.{IsSome, part_set, part_within}
use Rattle.policy_text.proofs.PrintedNames.{NamesStand, names_some}
use Rattle.policy_text.proofs.Expressions.{expression_read}

some_patterns : (ps : List PlainPattern) → 1 ≤ length ps → ps ≢ []
some_patterns [] some e = omega (arith, some)
some_patterns (p ∷ ps) some e = cc

told : Option Place → Result ⊤ PolicyFault
told (Some p) = Err (RankUnder p)
told None = Ok tt

not_told : (o : Option Place) (x : ⊤) → told o ≡ Ok x → o ≡ None
unfolding told
not_told (Some p) x h = absurd cc
not_told None x h = refl

rank_fine : (s : RawStatement) (x : ⊤) → ranks_fine (State s) ≡ Ok x → broken_rank s.ranked ≡ None
unfolding told
rank_fine s x h = not_told (broken_rank s.ranked) x h

few_calls : (s : RawStatement) (x : ⊤) → calls_within (State s) ≡ Ok x → sum_by call_amount s.ranked ≤ 256
few_calls s x h = let n : ℕ = sum_by call_amount s.ranked in omega (arith, leb-true (capped n) 256 (unless_ok (TooMany kind.Calls (capped n)) (nat_le (capped n) 256) x h))

-- what is promised of a statement that was read
abbrev pub IsReadStatement : PlainNet → PlainStatement → Type 0
IsReadStatement net t = IsPrintableStatement net t × (AllByRecursion IsPattern t.patterns → IsStatementValue t)

-- what is promised of the set of an origin
abbrev pub IsReadOrigin : Origin → Type 0
IsReadOrigin o = HoldsSome o.at × IsLocSet o.at

module _ (net : PlainNet) (rules : IsNet net) (bytes : List ℕ) (known : Names) (stand : NamesStand (length net.routers + length net.peers) known) where
  from_read : (a : Arg) (f : FromSet) → IsArg a → from_of bytes known a ≡ Ok f → IsWritableFrom net f × HasSources f
  from_read arg.Any f is e = let same : from_set.Any ≡ f = cc in subst (λ (x : FromSet). IsWritableFrom net x × HasSources x) same (tt, tt)
  from_read (arg.Names ls) f is e =
      let n : ℕ = length net.routers + length net.peers in
      let b = bind_ok (set_of_names bytes known ls) (λ s. Ok (from_set.Named s)) f e in
      let x : IsSome n b.0 = names_some n bytes known b.0 ls stand is b.1 in
      let same : from_set.Named b.0 ≡ f = cc in
      subst (λ (x : FromSet). IsWritableFrom net x × HasSources x) same ((part_within net b.0 x.part, x.some), part_set n b.0 x.part)

  statement_read : (s : RawStatement) (t : PlainStatement) (x y z : ⊤) → IsStatementForm s → ranks_fine (State s) ≡ Ok x
      → calls_within (State s) ≡ Ok y → paths_within (State s) ≡ Ok z → statement_of bytes net known s ≡ Ok t → IsReadStatement net t
  statement_read s t x y z form ranks calls places e =
      let parts = statement_parts bytes net known s t e in
      let r = expression_read net rules bytes known stand s.ranked form.tree t.ranked z form.steps form.few form.calls (rank_fine s x ranks) (few_calls s y calls) places parts.1 in
      let f = from_read s.from t.from form.from parts.2 in
      let patterns : 1 ≤ length t.patterns = omega (arith, form.patterns, statement_patterns bytes net known s t e) in
      let printable : IsPrintableStatement net t = record { patterns = some_patterns t.patterns patterns; ranked = r.writable; brackets = r.brackets; calls = r.calls; from = f.0 } in
      (printable, λ are. record { patterns = are; ranked = r.values; from = f.1 })

  pub statements_read : (so_far : List PlainStatement) (items : List Item) (ts : List PlainStatement) (x y z : ⊤) → AllByRecursion HasForm items
      → each ranks_fine items ≡ Ok x → each calls_within items ≡ Ok y → each paths_within items ≡ Ok z → statements_of bytes net known so_far items ≡ Ok ts
      → AllByRecursion (IsReadStatement net) so_far → AllByRecursion (IsReadStatement net) ts
  statements_read so_far [] ts x y z forms ranks calls places e before = let same : so_far ≡ ts = cc in subst (AllByRecursion (IsReadStatement net)) same before
  statements_read so_far (Define n m ∷ items) ts x y z forms ranks calls places e before = statements_read so_far items ts x y z forms.1 ranks calls places e before
  statements_read so_far (Originate p ns ∷ items) ts x y z forms ranks calls places e before = statements_read so_far items ts x y z forms.1 ranks calls places e before
  statements_read so_far (State s ∷ items) ts x y z forms ranks calls places e before =
      let f = bind_ok (ranks_fine (State s)) (λ _. each ranks_fine items) x ranks in
      let g = bind_ok (calls_within (State s)) (λ _. each calls_within items) y calls in
      let h = bind_ok (paths_within (State s)) (λ _. each paths_within items) z places in
      let b = bind_ok (statement_of bytes net known s) (λ t. statements_of bytes net known (so_far ++ t ∷ []) items) ts e in
      let here : IsReadStatement net b.0 = statement_read s b.0 f.0 g.0 h.0 forms.0 f.1 g.1 h.1 b.1 in
      statements_read (so_far ++ b.0 ∷ []) items ts x y z forms.1 f.2 g.2 h.2 b.2 (AllByRecursion-push (IsReadStatement net) so_far b.0 before here)

  origin_read : (p : Lexeme) (ns : List Lexeme) (o : Origin) → IsNamed ns → origin_of bytes known p ns ≡ Ok o → IsReadOrigin o
  origin_read p ns o named e =
      let n : ℕ = length net.routers + length net.peers in
      let x : IsSome n o.at = names_some n bytes known o.at ns stand named (origin_parts bytes known p ns o e).1 in
      (x.some, part_set n o.at x.part)

  pub origins_read : (so_far : List Origin) (items : List Item) (os : List Origin) → AllByRecursion HasForm items → origins_of bytes known so_far items ≡ Ok os
      → AllByRecursion IsReadOrigin so_far → AllByRecursion IsReadOrigin os
  origins_read so_far [] os forms e before = let same : so_far ≡ os = cc in subst (AllByRecursion IsReadOrigin) same before
  origins_read so_far (Define n m ∷ items) os forms e before = origins_read so_far items os forms.1 e before
  origins_read so_far (State s ∷ items) os forms e before = origins_read so_far items os forms.1 e before
  origins_read so_far (Originate p ns ∷ items) os forms e before =
      let b = bind_ok (origin_of bytes known p ns) (λ o. origins_of bytes known (so_far ++ o ∷ []) items) os e in
      origins_read (so_far ++ b.0 ∷ []) items os forms.1 b.2 (AllByRecursion-push IsReadOrigin so_far b.0 before (origin_read p ns b.0 forms.0 b.1))
