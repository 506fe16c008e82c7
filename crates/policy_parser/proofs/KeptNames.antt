-- Groups that are defined later leave the sets of the names above them as they were.
use Rattle.std.proofs.Common.{◌≡◌, ℕ, ◌+◌, ◌<◌, Bool, true, false, List, [], ◌∷◌, ◌++◌, length, length-append, Some, Ok, refl, ap, ◌∙◌, arith, lt-ltb, ltb-true}
use Rattle.std.specs.Prelude.{⊤, nat_lt, slice_get}
use Rattle.std.specs.List.{position, position_or_len, prefix_len}
use Rattle.std.specs.Str.{bytes_eq}
use Rattle.std.proofs.lemmas.Option.{cond_some}
use Rattle.list_law.proofs.Items.{slice_get_in_front}
use Rattle.list_law.proofs.Options.{option_and_then_parts}
use Rattle.net_base.specs.declared.loc.LocSet.{LocSet}
use Rattle.net_base.specs.declared.place.Place.{Place}
use Rattle.net_base.specs.Steps.{◌>>=◌, or_fault}
use Rattle.net_base.proofs.StepLemmas.{bind_ok, or_fault_ok, ok_same}
use Rattle.policy_tokens.specs.declared.fault.PolicyFault.TheVariants.{Unknown}
use Rattle.policy_grammar.specs.declared.lexeme.Lexeme.{Lexeme}
use Rattle.policy_grammar.specs.Raw.{Item}
use Rattle.policy_grammar.specs.Raw.Item.{Define, Originate, State}
use Rattle.policy_rules.specs.KnownNames.{Names, set_named, is_known, with_name, with_group}
use Rattle.policy_rules.specs.Checks.{text, set_at, set_of_names, each, name_known, arg_known, step_known, learnt, all_learnt}

-- each name that is known keeps its set
pub record Keeps (k l : Names) : Type 0 where
  pub same : (name : List ℕ) (s : LocSet) → set_named k name ≡ Some s → set_named l name ≡ Some s

pub keeps_all : (k : Names) → Keeps k k
keeps_all k = record { same = λ name s h. h }

pub keeps_on : (k l m : Names) → Keeps k l → Keeps l m → Keeps k m
keeps_on k l m a b = record { same = λ name s h. b.same name s (a.same name s h) }

prefix_front : {A : Type 0} (q : A → Bool) (xs ys : List A) → prefix_len q xs < length xs → prefix_len q (xs ++ ys) ≡ prefix_len q xs
prefix_front q [] ys within = absurd (omega arith)
prefix_front q (x ∷ xs) ys within = by (q x) refl (prefix_front q xs ys)
  where
    by : (b : Bool) → q x ≡ b → (prefix_len q xs < length xs → prefix_len q (xs ++ ys) ≡ prefix_len q xs) → prefix_len q (x ∷ xs ++ ys) ≡ prefix_len q (x ∷ xs)
    by true e later = let w : 1 + prefix_len q xs < length (x ∷ xs) = rw e at within in rw e (ap (λ n. 1 + n) (later (omega (arith, w))))
    by false e later = rw e refl

-- what has a place keeps it before others
position_front : {A : Type 0} (p : A → Bool) (xs ys : List A) (i : ℕ) → position p xs ≡ Some i → position p (xs ++ ys) ≡ Some i
position_front p xs ys i h =
    let c = cond_some (nat_lt (position_or_len p xs) (length xs)) _ i h in
    let within : position_or_len p xs < length xs = ltb-true (position_or_len p xs) (length xs) c.0 in
    let same : position_or_len p (xs ++ ys) ≡ i = prefix_front _ xs ys within ∙ c.1 in
    let inside : i < length (xs ++ ys) = omega (arith, within, c.1, length-append xs ys) in
    rw (same, lt-ltb i (length (xs ++ ys)) inside) refl

keeps_name : (k : Names) (name : List ℕ) (s : LocSet) → Keeps k (with_name k name s)
keeps_name k name s = record {
  same = λ n t h.
      let a = option_and_then_parts (slice_get k.sets) (position (bytes_eq n) k.names) t h in
      rw (position_front (bytes_eq n) k.names (name ∷ []) a.0 a.1) (slice_get_in_front k.sets (s ∷ []) a.0 t a.2);
}

-- a group more
pub keeps_group : (k : Names) (p : Place) (name : List ℕ) (s : LocSet) → Keeps k (with_group k p name s)
keeps_group k p name s = by (is_known k name) refl
  where
    by : (b : Bool) → is_known k name ≡ b → Keeps k (with_group k p name s)
    by true e = rw e (record { same = λ n t h. h })
    by false e = rw e (keeps_name k name s)

module _ (bytes : List ℕ) where
  pub keeps_learnt : (k l : Names) (x : Item) → learnt bytes k x ≡ Ok l → Keeps k l
  keeps_learnt k l (Define name members) h =
      let a = bind_ok (set_of_names bytes k members) (λ s. Ok (with_group k name.place (text bytes name) s)) l h in
      rw (← ok_same _ l a.2) (keeps_group k name.place (text bytes name) a.0)
  keeps_learnt k l (Originate prefix names) h =
      let a = bind_ok (each (name_known bytes k) names) (λ _. Ok k) l h in
      rw (← ok_same k l a.2) (keeps_all k)
  keeps_learnt k l (State s) h =
      let a = bind_ok (each (step_known bytes k) s.ranked) (λ _. arg_known bytes k s.from >>= λ _. Ok k) l h in
      let b = bind_ok (arg_known bytes k s.from) (λ _. Ok k) l a.2 in
      rw (← ok_same k l b.2) (keeps_all k)

  pub keeps_all_learnt : (k l : Names) (items : List Item) → all_learnt bytes k items ≡ Ok l → Keeps k l
  keeps_all_learnt k l [] h = rw (← ok_same k l h) (keeps_all k)
  keeps_all_learnt k l (x ∷ items) h =
      let a = bind_ok (learnt bytes k x) (λ next. all_learnt bytes next items) l h in
      keeps_on k a.0 l (keeps_learnt k a.0 x a.1) (keeps_all_learnt a.0 l items a.2)

  -- a name that is known stands for the same set
  pub set_at_kept : (k l : Names) (n : Lexeme) (u : ⊤) → Keeps k l → name_known bytes k n ≡ Ok u → set_at bytes k n ≡ set_at bytes l n
  unfolding set_at
  set_at_kept k l n u keeps known =
      let a = bind_ok (or_fault (Unknown n.place) (set_named k (text bytes n))) (λ _. Ok tt) u known in
      let found = or_fault_ok (Unknown n.place) (set_named k (text bytes n)) a.0 a.1 in
      rw (found, keeps.same (text bytes n) a.0 found) refl
