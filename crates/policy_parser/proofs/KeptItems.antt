-- What items come to stays as it is where more names are known.
use Rattle.std.proofs.Common.{◌≡◌, ℕ, List, [], ◌∷◌, ◌++◌, Result, Ok, Err, refl, sym, ◌∙◌}
use Rattle.std.specs.Prelude.{⊤}
use Rattle.net_base.specs.declared.loc.LocSet.{LocSet}
use Rattle.net_base.specs.Network.{PlainNet}
use Rattle.net_base.specs.SetOperations.{no_location, union_of}
use Rattle.net_base.specs.Steps.{◌>>=◌}
use Rattle.net_base.proofs.StepLemmas.{bind_ok}
use Rattle.policy_tokens.specs.declared.fault.PolicyFault.{PolicyFault}
use Rattle.policy_grammar.specs.declared.lexeme.Lexeme.{Lexeme}
use Rattle.policy_grammar.specs.Raw.{Arg, Arg as arg, RawStatement, Step, Step as step, Item}
use Rattle.policy_grammar.specs.Raw.Item.{Define, Originate, State}
use Rattle.policy_rules.specs.KnownNames.{Names}
use Rattle.policy_rules.specs.Checks.{set_at, joined, each, name_known, arg_known, step_known, learnt, all_learnt}
use Rattle.policy_rules.specs.Origins.{routers_alone, origins_fine}
use Rattle.policy_base.specs.declared.policy.Origin.{Origin}
use Rattle.policy_base.specs.Policies.{Ranking, PlainStatement}
use Rattle.policy_values.specs.Built.{set_of_arg, sets_of, behind, all_behind, ranking_of_steps, from_of, statement_of, statements_of, origin_of, origins_of}
use Rattle.policy_parser.proofs.KeptNames.{Keeps, keeps_on, keeps_all_learnt, set_at_kept}

-- the same steps behind the same
same_behind : {A B : Type 0} (r : Result A PolicyFault) (f g : A → Result B PolicyFault) → ((x : A) → f x ≡ g x) → (r >>= f) ≡ (r >>= g)
same_behind (Ok x) f g same = same x
same_behind (Err e) f g same = refl

-- ---- an item whose names are known

module _ (bytes : List ℕ) (net : PlainNet) (k l : Names) (keeps : Keeps k l) where
  joined_kept : (so_far : LocSet) (ls : List Lexeme) (u : ⊤) → each (name_known bytes k) ls ≡ Ok u → joined bytes k so_far ls ≡ joined bytes l so_far ls
  joined_kept so_far [] u known = refl
  joined_kept so_far (n ∷ ls) u known =
      let a = bind_ok (name_known bytes k n) (λ _. each (name_known bytes k) ls) u known in
      rw (set_at_kept bytes k l n a.0 keeps a.1) (same_behind (set_at bytes l n) _ _ (λ s. joined_kept (union_of so_far s) ls u a.2))

  routers_kept : (ls : List Lexeme) (u : ⊤) → each (name_known bytes k) ls ≡ Ok u → each (routers_alone bytes net k) ls ≡ each (routers_alone bytes net l) ls
  routers_kept [] u known = refl
  routers_kept (n ∷ ls) u known =
      let a = bind_ok (name_known bytes k n) (λ _. each (name_known bytes k) ls) u known in
      rw (set_at_kept bytes k l n a.0 keeps a.1) (same_behind (routers_alone bytes net l n) _ _ (λ _. routers_kept ls u a.2))

  arg_kept : (a : Arg) (u : ⊤) → arg_known bytes k a ≡ Ok u → set_of_arg bytes net k a ≡ set_of_arg bytes net l a
  arg_kept arg.Any u known = refl
  arg_kept (arg.Names ls) u known = joined_kept no_location ls u known

  from_kept : (a : Arg) (u : ⊤) → arg_known bytes k a ≡ Ok u → from_of bytes k a ≡ from_of bytes l a
  from_kept arg.Any u known = refl
  from_kept (arg.Names ls) u known = rw (joined_kept no_location ls u known) refl

  sets_kept : (so_far : List LocSet) (as' : List Arg) (u : ⊤) → each (arg_known bytes k) as' ≡ Ok u → sets_of bytes net k so_far as' ≡ sets_of bytes net l so_far as'
  sets_kept so_far [] u known = refl
  sets_kept so_far (a ∷ as') u known =
      let b = bind_ok (arg_known bytes k a) (λ _. each (arg_known bytes k) as') u known in
      rw (arg_kept a b.0 b.1) (same_behind (set_of_arg bytes net l a) _ _ (λ s. sets_kept (so_far ++ s ∷ []) as' u b.2))

  step_kept : (s : Step) (rs : List Ranking) (u : ⊤) → step_known bytes k s ≡ Ok u → behind bytes net k s rs ≡ behind bytes net l s rs
  step_kept (step.Call c) rs u known = rw (sets_kept [] c.args u known) refl
  step_kept (step.Above p) rs u known = refl
  step_kept step.Or rs u known = refl
  step_kept step.And rs u known = refl
  step_kept step.Not rs u known = refl

  steps_kept : (rs : List Ranking) (ss : List Step) (u : ⊤) → each (step_known bytes k) ss ≡ Ok u → all_behind bytes net k rs ss ≡ all_behind bytes net l rs ss
  steps_kept rs [] u known = refl
  steps_kept rs (s ∷ ss) u known =
      let a = bind_ok (step_known bytes k s) (λ _. each (step_known bytes k) ss) u known in
      rw (step_kept s rs a.0 a.1) (same_behind (behind bytes net l s rs) _ _ (λ next. steps_kept next ss u a.2))

  pub origin_kept : (p : Lexeme) (ls : List Lexeme) (m : Names) → learnt bytes k (Originate p ls) ≡ Ok m → origin_of bytes k p ls ≡ origin_of bytes l p ls
  unfolding origin_of
  origin_kept p ls m known =
      let a = bind_ok (each (name_known bytes k) ls) (λ _. Ok k) m known in
      rw (joined_kept no_location ls a.0 a.1) refl

  statement_kept : (s : RawStatement) (m : Names) → learnt bytes k (State s) ≡ Ok m → statement_of bytes net k s ≡ statement_of bytes net l s
  unfolding statement_of ranking_of_steps
  statement_kept s m known =
      let a = bind_ok (each (step_known bytes k) s.ranked) (λ _. arg_known bytes k s.from >>= λ _. Ok k) m known in
      let b = bind_ok (arg_known bytes k s.from) (λ _. Ok k) m a.2 in
      rw (steps_kept [] s.ranked a.0 a.1, from_kept s.from b.0 b.1) refl

  origins_fine_kept : (x : Item) (m : Names) → learnt bytes k x ≡ Ok m → origins_fine bytes net k x ≡ origins_fine bytes net l x
  origins_fine_kept (Define name members) m known = refl
  origins_fine_kept (Originate p ls) m known =
      let a = bind_ok (each (name_known bytes k) ls) (λ _. Ok k) m known in
      routers_kept ls a.0 a.1
  origins_fine_kept (State s) m known = refl

-- ---- the items of a text, whose names are learnt

module _ (bytes : List ℕ) (net : PlainNet) (m n : Names) (keeps : Keeps m n) where
  -- the names behind an item, and those behind all
  both_keep : (k : Names) (x : Item) (items : List Item) → all_learnt bytes k (x ∷ items) ≡ Ok m → Keeps k m × Keeps k n
  both_keep k x items h = let a = keeps_all_learnt bytes k m (x ∷ items) h in (a, keeps_on k m n a keeps)

  pub all_routers_kept : (k : Names) (items : List Item) → all_learnt bytes k items ≡ Ok m → each (origins_fine bytes net m) items ≡ each (origins_fine bytes net n) items
  all_routers_kept k [] h = refl
  all_routers_kept k (x ∷ items) h =
      let a = bind_ok (learnt bytes k x) (λ next. all_learnt bytes next items) m h in
      let b = both_keep k x items h in
      let one = sym (origins_fine_kept bytes net k m b.0 x a.0 a.1) ∙ origins_fine_kept bytes net k n b.1 x a.0 a.1 in
      rw one (same_behind (origins_fine bytes net n x) _ _ (λ _. all_routers_kept a.0 items a.2))

  pub all_origins_kept : (k : Names) (so_far : List Origin) (items : List Item) → all_learnt bytes k items ≡ Ok m → origins_of bytes m so_far items ≡ origins_of bytes n so_far items
  all_origins_kept k so_far [] h = refl
  all_origins_kept k so_far (Define name members ∷ items) h =
      let a = bind_ok (learnt bytes k (Define name members)) (λ next. all_learnt bytes next items) m h in
      all_origins_kept a.0 so_far items a.2
  all_origins_kept k so_far (State s ∷ items) h =
      let a = bind_ok (learnt bytes k (State s)) (λ next. all_learnt bytes next items) m h in
      all_origins_kept a.0 so_far items a.2
  all_origins_kept k so_far (Originate p ls ∷ items) h =
      let a = bind_ok (learnt bytes k (Originate p ls)) (λ next. all_learnt bytes next items) m h in
      let b = both_keep k (Originate p ls) items h in
      let one = sym (origin_kept bytes net k m b.0 p ls a.0 a.1) ∙ origin_kept bytes net k n b.1 p ls a.0 a.1 in
      rw one (same_behind (origin_of bytes n p ls) _ _ (λ o. all_origins_kept a.0 (so_far ++ o ∷ []) items a.2))

  pub all_statements_kept : (k : Names) (so_far : List PlainStatement) (items : List Item) → all_learnt bytes k items ≡ Ok m
      → statements_of bytes net m so_far items ≡ statements_of bytes net n so_far items
  all_statements_kept k so_far [] h = refl
  all_statements_kept k so_far (Define name members ∷ items) h =
      let a = bind_ok (learnt bytes k (Define name members)) (λ next. all_learnt bytes next items) m h in
      all_statements_kept a.0 so_far items a.2
  all_statements_kept k so_far (Originate p ls ∷ items) h =
      let a = bind_ok (learnt bytes k (Originate p ls)) (λ next. all_learnt bytes next items) m h in
      all_statements_kept a.0 so_far items a.2
  all_statements_kept k so_far (State s ∷ items) h =
      let a = bind_ok (learnt bytes k (State s)) (λ next. all_learnt bytes next items) m h in
      let b = both_keep k (State s) items h in
      let one = sym (statement_kept bytes net k m b.0 s a.0 a.1) ∙ statement_kept bytes net k n b.1 s a.0 a.1 in
      rw one (same_behind (statement_of bytes net n s) _ _ (λ t. all_statements_kept a.0 (so_far ++ t ∷ []) items a.2))
