-- What is told behind one item more.
use Rattle.std.proofs.Common.{◌≡◌, ℕ, ◌+◌, Bool, true, false, List, [], ◌∷◌, ◌++◌, Result, Ok, Err, refl, arith}
use Rattle.std.specs.Prelude.{⊤, not}
use Rattle.std.specs.List.{list_any}
use Rattle.std.proofs.lemmas.List.Sums.{sum_by_push}
use Rattle.net_base.specs.declared.loc.LocSet.{LocSet}
use Rattle.net_base.specs.declared.place.Place.{Place}
use Rattle.policy_tokens.specs.declared.kind.Kind.{Kind}
use Rattle.net_base.specs.Network.{PlainNet}
use Rattle.net_base.specs.Prefixes.{PlainPrefix, same_prefix}
use Rattle.net_base.specs.SetOperations.{union_of}
use Rattle.net_base.specs.Steps.{◌>>=◌, unless}
use Rattle.policy_tokens.specs.declared.fault.PolicyFault.{PolicyFault}
use Rattle.policy_tokens.specs.declared.fault.PolicyFault.TheVariants.{OriginTwice}
use Rattle.policy_grammar.specs.declared.lexeme.Lexeme.{Lexeme}
use Rattle.policy_grammar.specs.Raw.{Item}
use Rattle.policy_grammar.specs.Raw.Item.{Define, Originate, State}
use Rattle.policy_rules.specs.KnownNames.{Names}
use Rattle.policy_rules.specs.Checks.{set_at, joined, each, name_known, learnt, all_learnt}
use Rattle.policy_rules.specs.Counts.{amount, capped, counted}
use Rattle.policy_rules.specs.Origins.{once_from}
use Rattle.policy_base.specs.declared.policy.Origin.{Origin}
use Rattle.policy_base.specs.Policies.{PlainStatement}
use Rattle.policy_values.specs.Built.{origin_of, origins_of, statement_of, statements_of}
use Rattle.policy_parser.specs.Told.{PlainOnce, with_one, with_prefix}

-- ---- lists with one more item

pub counted_push : (k : Kind) (items : List Item) (x : Item) → counted k (items ++ x ∷ []) ≡ capped (counted k items + amount k x)
counted_push k items x = rw (sum_by_push (amount k) items x) (omega arith)

module _ (bytes : List ℕ) where
  pub all_learnt_push : (k : Names) (items : List Item) (x : Item) → all_learnt bytes k (items ++ x ∷ []) ≡ (all_learnt bytes k items >>= λ l. learnt bytes l x)
  all_learnt_push k [] x = alone (learnt bytes k x)
    where
      alone : (r : Result Names PolicyFault) → (r >>= λ l. Ok l) ≡ r
      alone (Ok l) = refl
      alone (Err e) = refl
  all_learnt_push k (y ∷ items) x = behind (learnt bytes k y) (λ l. all_learnt_push l items x)
    where
      behind : (r : Result Names PolicyFault)
          → ((l : Names) → all_learnt bytes l (items ++ x ∷ []) ≡ (all_learnt bytes l items >>= λ m. learnt bytes m x))
          → (r >>= λ l. all_learnt bytes l (items ++ x ∷ [])) ≡ ((r >>= λ l. all_learnt bytes l items) >>= λ m. learnt bytes m x)
      behind (Ok l) same = same l
      behind (Err e) same = refl

  pub origins_push : (k : Names) (so_far : List Origin) (items : List Item) (x : Item)
      → origins_of bytes k so_far (items ++ x ∷ []) ≡ (origins_of bytes k so_far items >>= λ os. origins_of bytes k os (x ∷ []))
  origins_push k so_far [] x = refl
  origins_push k so_far (Define n m ∷ items) x = origins_push k so_far items x
  origins_push k so_far (State s ∷ items) x = origins_push k so_far items x
  origins_push k so_far (Originate p ns ∷ items) x = behind (origin_of bytes k p ns) (λ o. origins_push k (so_far ++ o ∷ []) items x)
    where
      behind : (r : Result Origin PolicyFault)
          → ((o : Origin) → origins_of bytes k (so_far ++ o ∷ []) (items ++ x ∷ []) ≡ (origins_of bytes k (so_far ++ o ∷ []) items >>= λ os. origins_of bytes k os (x ∷ [])))
          → (r >>= λ o. origins_of bytes k (so_far ++ o ∷ []) (items ++ x ∷ [])) ≡ ((r >>= λ o. origins_of bytes k (so_far ++ o ∷ []) items) >>= λ os. origins_of bytes k os (x ∷ []))
      behind (Ok o) same = same o
      behind (Err e) same = refl

  pub statements_push : (net : PlainNet) (k : Names) (so_far : List PlainStatement) (items : List Item) (x : Item)
      → statements_of bytes net k so_far (items ++ x ∷ []) ≡ (statements_of bytes net k so_far items >>= λ ts. statements_of bytes net k ts (x ∷ []))
  statements_push net k so_far [] x = refl
  statements_push net k so_far (Define n m ∷ items) x = statements_push net k so_far items x
  statements_push net k so_far (Originate p ns ∷ items) x = statements_push net k so_far items x
  statements_push net k so_far (State s ∷ items) x = behind (statement_of bytes net k s) (λ t. statements_push net k (so_far ++ t ∷ []) items x)
    where
      behind : (r : Result PlainStatement PolicyFault)
          → ((t : PlainStatement)
          → statements_of bytes net k (so_far ++ t ∷ []) (items ++ x ∷ []) ≡ (statements_of bytes net k (so_far ++ t ∷ []) items >>= λ ts. statements_of bytes net k ts (x ∷ [])))
          → (r >>= λ t. statements_of bytes net k (so_far ++ t ∷ []) (items ++ x ∷ []))
          ≡ ((r >>= λ t. statements_of bytes net k (so_far ++ t ∷ []) items) >>= λ ts. statements_of bytes net k ts (x ∷ []))
      behind (Ok t) same = same t
      behind (Err e) same = refl

  -- a figure more
  pub once_push : (o : PlainOnce) (place : Place) (figure : Result PlainPrefix PolicyFault) (rest : List Item)
      → (o.fault >>= λ _. (figure >>= λ p. unless (OriginTwice place) (not (list_any (same_prefix p) o.before)) >>= λ _. once_from bytes (o.before ++ p ∷ []) rest))
      ≡ ((with_prefix o place figure).fault >>= λ _. once_from bytes (with_prefix o place figure).before rest)
  once_push o place figure rest = by o.fault refl figure
    where
      one : (p : PlainPrefix) (b : Bool)
          → (unless (OriginTwice place) (not b) >>= λ _. once_from bytes (o.before ++ p ∷ []) rest) ≡ ((with_one o place p b).fault >>= λ _. once_from bytes (with_one o place p b).before rest)
      one p true = refl
      one p false = refl

      by : (r : Result ⊤ PolicyFault) → o.fault ≡ r → (f : Result PlainPrefix PolicyFault)
          → (o.fault >>= λ _. (f >>= λ p. unless (OriginTwice place) (not (list_any (same_prefix p) o.before)) >>= λ _. once_from bytes (o.before ++ p ∷ []) rest))
          ≡ ((with_prefix o place f).fault >>= λ _. once_from bytes (with_prefix o place f).before rest)
      by (Ok u) e (Ok p) = rw e (one p (list_any (same_prefix p) o.before))
      by (Ok u) e (Err f) = rw e refl
      by (Err e') e f = rw e refl

-- ---- names of a list

-- whether it is there
abbrev pub passes : {A : Type 0} → Result A PolicyFault → Result ⊤ PolicyFault
passes r = r >>= λ _. Ok tt

pub passes_behind : {A B : Type 0} (r : Result A PolicyFault) (f : A → Result B PolicyFault) (t : Result ⊤ PolicyFault) → ((x : A) → passes (f x) ≡ t) → passes (r >>= f) ≡ (passes r >>= λ _. t)
passes_behind (Ok x) f t same = same x
passes_behind (Err e) f t same = refl

-- a set of names is there where each of them is known
pub joined_known : (bytes : List ℕ) (k : Names) (so_far : LocSet) (ls : List Lexeme) → passes (joined bytes k so_far ls) ≡ each (name_known bytes k) ls
joined_known bytes k so_far [] = refl
joined_known bytes k so_far (l ∷ ls) = passes_behind (set_at bytes k l) (λ s. joined bytes k (union_of so_far s) ls) (each (name_known bytes k) ls) (λ s. joined_known bytes k (union_of so_far s) ls)
