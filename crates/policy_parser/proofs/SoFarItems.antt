-- What is known of items and one more, and what it says of their text.
use Rattle.std.proofs.Common.{◌≡◌, ℕ, ◌≤◌, true, List, [], ◌∷◌, ◌++◌, length, Result, Ok, Err, refl, sym, ap, subst, ◌∙◌, arith}
use Rattle.std.specs.Prelude.{⊤, OnOk}
use Rattle.std.specs.Result.{is_err}
use Rattle.net_base.specs.Network.{PlainNet, IsNet}
use Rattle.net_base.specs.Steps.{◌>>=◌}
use Rattle.net_base.proofs.StepLemmas.{ok_same}
use Rattle.policy_tokens.specs.declared.fault.PolicyFault.{PolicyFault}
use Rattle.net_base.specs.Gives.{GivesUnless}
use Rattle.policy_tokens.specs.declared.fault.PolicyFault.TheVariants.{NoMemory}
use Rattle.policy_grammar.specs.Raw.{Item}
use Rattle.policy_rules.specs.KnownNames.{net_names}
use Rattle.policy_rules.specs.KnownView.{plain_names}
use Rattle.policy_base.specs.Policies.{IsPolicy}
use Rattle.policy_parser.specs.declared.told.Told.{Told}
use Rattle.policy_parser.specs.declared.values.ItemRead.{ItemRead}
use Rattle.policy_parser.specs.declared.verdicts.Kept.{Kept}
use Rattle.policy_parser.specs.declared.verdicts.Verdicts.{Verdicts}
use Rattle.policy_parser.specs.ItemValues.{IsItem}
use Rattle.policy_parser.specs.SoFar.{plain_kept, kept_item, IsTold, IsKept, IsSoFar}
use Rattle.policy_parser.specs.Spelled.{items_spelled, pairs, spelled}
use Rattle.policy_parser.specs.Told.{PlainTold, plain_told, nothing_told, with_item, first_fault}
use Rattle.policy_parser.proofs.KeptPolicies.{item_kept}
use Rattle.policy_parser.proofs.ToldFaults.{told_gives, kept_policy}
use Rattle.policy_parser.proofs.ToldItems.{item_told}

no_fault : (r : Result ⊤ PolicyFault) → is_err r ≡ true → r ≡ Ok tt → ⊥
no_fault (Ok u) h is = cc
no_fault (Err e) h is = cc

-- ---- nothing is read yet

module _ (bytes : List ℕ) (net : PlainNet) (is : IsNet net) (fit : length (net_names net).sets ≤ 768) where
  none_told : IsTold bytes net [] (nothing_told net)
  none_told = (
    net_names net,
    record {
      of = refl;
      rules = is;
      names = refl;
      known = record { like = record { names = refl; sets = refl; twice = refl }; same = λ few. refl; few = λ few. omega (arith, fit) };
      judged = λ ok. record {
        figures = refl;
        ranks = refl;
        routers = refl;
        once = λ rest. refl;
        definitions = refl;
        statements = refl;
        patterns = refl;
        prefixes = refl;
        pairs = λ few os made. ap pairs (ok_same {F = PolicyFault} [] os made);
        calls = refl;
        places = refl;
      };
    },
  )

  pub none_so_far : (v : Verdicts) → (let r : Result PlainTold PolicyFault = Ok (nothing_told net) in r ≡ Ok (plain_told v.told))
      → plain_kept v.kept ≡ record { origins = []; statements = [] } → IsSoFar bytes net [] v
  none_so_far v told kept = record {
    told = subst (IsTold bytes net []) (ok_same _ (plain_told v.told) told) none_told;
    kept = λ fine. subst (IsKept bytes net (plain_told v.told).known []) (sym kept) (record { origins = refl; statements = refl });
  }

-- ---- an item more

module _ (bytes : List ℕ) (net : PlainNet) (items : List Item) (v : Verdicts) where
  module _ (x : Item) (i : ItemRead) (next : Told) (same : (let r : Result PlainTold PolicyFault = Ok (with_item bytes (plain_told v.told) i) in r ≡ Ok (plain_told next))) where
    next_told : IsSoFar bytes net items v → IsItem bytes net (plain_names v.told.known) x i → IsTold bytes net (items ++ x ∷ []) (plain_told next)
    next_told so_far is = subst (IsTold bytes net (items ++ x ∷ [])) (ok_same _ (plain_told next) same) (item_told bytes net items (plain_told v.told) x i is so_far.told)

    -- a rule is broken or a limit is passed
    pub broken_so_far : (k : Kept) (r : Result ⊤ PolicyFault) → r ≡ first_fault (plain_told next) → is_err r ≡ true → IsSoFar bytes net items v → IsItem bytes net (plain_names v.told.known) x i
        → IsSoFar bytes net (items ++ x ∷ []) (record { told = next; kept = k })
    broken_so_far k r fault broken so_far is = record {
      told = next_told so_far is;
      kept = λ fine. absurd (no_fault r broken (fault ∙ fine));
    }

    -- the item is kept
    pub kept_so_far : (k : Kept) (r : Result ⊤ PolicyFault) → GivesUnless NoMemory (λ _. plain_kept k) r (Ok (kept_item (plain_kept v.kept) i))
        → IsSoFar bytes net items v → IsItem bytes net (plain_names v.told.known) x i
        → OnOk r (IsSoFar bytes net (items ++ x ∷ []) (record { told = next; kept = k }))
    kept_so_far k (Err e) gives so_far is = tt
    kept_so_far k (Ok u) gives so_far is = record {
      told = next_told so_far is;
      kept = subst (λ (t : PlainTold). first_fault t ≡ Ok tt → IsKept bytes net t.known (items ++ x ∷ []) (plain_kept k)) (ok_same _ (plain_told next) same) (λ fine.
          subst (IsKept bytes net (with_item bytes (plain_told v.told) i).known (items ++ x ∷ [])) (ok_same _ (plain_kept k) gives)
          (item_kept bytes net items so_far.told.0 (plain_told v.told) (plain_kept v.kept) x i is so_far.told.1 so_far.kept fine));
    }

  -- what the items' text spells
  gives : items_spelled bytes ≡ Ok items → IsSoFar bytes net items v → spelled net bytes ≡ (first_fault (plain_told v.told) >>= λ _. Ok (plain_kept v.kept))
  gives read so_far = told_gives bytes net items so_far.told.0 (plain_told v.told) (plain_kept v.kept) so_far.told.1 so_far.kept read

  pub fault_gives : (e : PolicyFault) → Err e ≡ first_fault (plain_told v.told) → items_spelled bytes ≡ Ok items → IsSoFar bytes net items v → spelled net bytes ≡ Err e
  fault_gives e fault read so_far = gives read so_far ∙ subst (λ (r : Result ⊤ PolicyFault). (r >>= λ _. Ok (plain_kept v.kept)) ≡ Err e) fault refl

  pub policy_gives : Ok tt ≡ first_fault (plain_told v.told) → items_spelled bytes ≡ Ok items → IsSoFar bytes net items v → spelled net bytes ≡ Ok (plain_kept v.kept)
  policy_gives fine read so_far = gives read so_far ∙ subst (λ (r : Result ⊤ PolicyFault). (r >>= λ _. Ok (plain_kept v.kept)) ≡ Ok (plain_kept v.kept)) fine refl

  pub policy_kept : Ok tt ≡ first_fault (plain_told v.told) → IsSoFar bytes net items v → IsPolicy (plain_kept v.kept)
  policy_kept fine so_far = kept_policy bytes net items so_far.told.0 (plain_told v.told) (plain_kept v.kept) so_far.told.1 (so_far.kept (sym fine)) (sym fine)
