-- Ranked expressions are built of their steps.
use Rattle.std.proofs.Common.{◌≡◌, ℕ, ◌≤◌, List, [], ◌∷◌, ◌++◌, length, map, Result, Ok, refl, sym, ap, ap₂, ◌∙◌, arith, append_assoc, append-nil}
use Rattle.std.specs.Prelude.{⊤, sum_by, IsTrue}
use Rattle.std.specs.List.{AllByRecursion, IsDistinct}
use Rattle.std.specs.Str.{bytes_eq}
use Rattle.std.proofs.lemmas.Bool.{le-leb}
use Rattle.std.proofs.lemmas.List.Sums.{sum_by-cons, sum_by-append}
use Rattle.net_base.specs.declared.loc.LocSet.{LocSet}
use Rattle.net_base.specs.declared.place.Place.{Place}
use Rattle.net_base.specs.Network.{PlainNet, sites}
use Rattle.net_base.proofs.StepLemmas.{bind_ok}
use Rattle.policy_tokens.specs.declared.fault.PolicyFault.{PolicyFault}
use Rattle.policy_words.specs.declared.word.SetCall.{SetCall}
use Rattle.policy_words.specs.declared.word.CallWord.{CallWord}
use Rattle.policy_words.specs.declared.word.CallWord.TheVariants as word
use Rattle.policy_grammar.specs.Raw.{RawCall, Step, Step as step}
use Rattle.policy_rules.specs.KnownNames.{Names}
use Rattle.policy_rules.specs.Checks.{each, step_known}
use Rattle.policy_rules.specs.Counts.{call_amount, places_within, word_places}
use Rattle.policy_base.specs.declared.call.Call.{Call}
use Rattle.policy_base.specs.declared.call.Call.TheVariants.{Any, Drop, Internal, Link, Path, Of}
use Rattle.policy_base.specs.Policies.{Ranking, call, calls, prefer, either, both, negated}
use Rattle.policy_base.specs.CallWords.{word_of}
use Rattle.policy_values.specs.Built.{call_of, behind, all_behind, ranking_of_steps}
use Rattle.policy_text.specs.Printable.{has_one_set, HasNoRank, call_count}
use Rattle.policy_text.specs.Values.{sets_in}
use Rattle.policy_text.proofs.Readings.{Pairs}
use Rattle.policy_text.proofs.ReadCalls.{IsSetArg, IsRawCall, set_in}
use Rattle.policy_text.proofs.ReadRankings.{AreSteps}
use Rattle.policy_text.proofs.Lookups.{site_names}
use Rattle.policy_text.proofs.BuildSets.{known, IsSet, sets_stand, args_are_known}
use Rattle.policy_rules.proofs.CallSums.{calls_of_sides}

-- a call is built of its word and its sets
call_there : (c : Call) → call_of (word_of c) (sets_in c) ≡ call c
call_there Any = refl
call_there Drop = refl
call_there Internal = refl
call_there (Of c s) = refl
call_there (Link a b) = refl
call_there (Path ps) = refl

-- a call of one set with this word is that of its set
one_there : (k : SetCall) (c : Call) → IsTrue (has_one_set c) → word_of c ≡ word.Of k → Of k (set_in c) ≡ c
one_there k Any one is = absurd (cc)
one_there k Drop one is = absurd (cc)
one_there k Internal one is = absurd (cc)
one_there k (Link a b) one is = absurd (cc)
one_there k (Path ps) one is = absurd (cc)
one_there k (Of j s) one is = let same : k ≡ j = cc in ap (λ (i : SetCall). Of i s) same

no_places : (c : Call) (n : ℕ) → IsTrue (has_one_set c) → word_places (word_of c) n ≡ 0
no_places Any n one = absurd (cc)
no_places Drop n one = absurd (cc)
no_places Internal n one = absurd (cc)
no_places (Link x y) n one = absurd (cc)
no_places (Path ps) n one = absurd (cc)
no_places (Of k s) n one = refl

each-append : {A : Type 0} (check : A → Result ⊤ PolicyFault) (xs ys : List A) → each check xs ≡ Ok tt → each check ys ≡ Ok tt → each check (xs ++ ys) ≡ Ok tt
each-append check [] ys a b = b
each-append check (x ∷ xs) ys a b =
    let h = bind_ok (check x) (λ _. each check xs) tt a in
    rw (h.1, each-append check xs ys h.2 b) refl

-- paired lists are as long
pub length-pairs : {A B : Type 0} (R : A → B → Type 0) (as' : List A) (bs : List B) → Pairs R as' bs → length as' ≡ length bs
length-pairs R [] [] all = refl
length-pairs R [] (b ∷ bs) all = absurd all
length-pairs R (a ∷ as') [] all = absurd all
length-pairs R (a ∷ as') (b ∷ bs) all = omega (arith, length-pairs R as' bs all.1)

module _ (bytes : List ℕ) (net : PlainNet) (apart : IsDistinct bytes_eq (site_names (sites net))) (small : length (sites net) ≤ 768) where
  abbrev names : Names
  names = known bytes net apart small

  abbrev pub IsFineSet : LocSet → Type 0
  IsFineSet s = IsSet bytes net apart small s

  -- the sets of a call, of which a path has 256 at most
  abbrev pub IsFineCall : Call → Type 0
  IsFineCall c = AllByRecursion IsFineSet (sets_in c) × (word_places (word_of c) (length (sets_in c)) ≤ 256)

  -- a call with one set, of the same name as the first
  abbrev pub IsLike : Call → Call → Type 0
  IsLike c d = IsTrue (has_one_set d) × IsFineSet (set_in d) × (word_of d ≡ word_of c)

  abbrev pub IsFine : Ranking → Type 0
  IsFine (call c) = IsFineCall c
  IsFine (calls []) = ⊥
  IsFine (calls (c ∷ cs)) = (1 ≤ length cs) × AllByRecursion (IsLike c) (c ∷ cs)
  IsFine (prefer a b) = IsFine a × IsFine b
  IsFine (either a b) = (IsFine a × IsFine b) × (HasNoRank a × HasNoRank b)
  IsFine (both a b) = IsFine a × IsFine b
  IsFine (negated a) = IsFine a × HasNoRank a

  sets_fine : (c : Call) (cs : List Call) → AllByRecursion (IsLike c) cs → AllByRecursion IsFineSet (map set_in cs)
  sets_fine c [] all = tt
  sets_fine c (d ∷ cs) all = (all.0.1, sets_fine c cs all.1)

  each_there : (k : SetCall) (s : LocSet) (cs : List Call) → AllByRecursion (IsLike (Of k s)) cs → map (Of k) (map set_in cs) ≡ cs
  each_there k s [] all = refl
  each_there k s (d ∷ cs) all = ap₂ (λ (x : Call) (xs : List Call). x ∷ xs) (one_there k d all.0.0 all.0.2) (each_there k s cs all.1)

  calls_there : (c : Call) (cs : List Call) → 1 ≤ length cs → AllByRecursion (IsLike c) (c ∷ cs) → call_of (word_of c) (map set_in (c ∷ cs)) ≡ calls (c ∷ cs)
  calls_there Any cs some all = let one = all.0.0 in absurd (cc)
  calls_there Drop cs some all = let one = all.0.0 in absurd (cc)
  calls_there Internal cs some all = let one = all.0.0 in absurd (cc)
  calls_there (Link a b) cs some all = let one = all.0.0 in absurd (cc)
  calls_there (Path ps) cs some all = let one = all.0.0 in absurd (cc)
  calls_there (Of k s) [] some all = absurd (omega (arith, some))
  calls_there (Of k s) (d ∷ cs) some all = ap (λ (ds : List Call). calls (Of k s ∷ ds)) (each_there k s (d ∷ cs) all.1)

  -- steps that are taken one after the other
  taken : (s : Step) (ss : List Step) (rs next : List Ranking) → behind bytes net names s rs ≡ Ok next → all_behind bytes net names rs (s ∷ ss) ≡ all_behind bytes net names next ss
  taken s ss rs next is = rw is refl

  call_taken : (raw : RawCall) (w : CallWord) (sets : List LocSet) (rs : List Ranking) → IsRawCall bytes net w sets raw
      → AllByRecursion IsFineSet sets → behind bytes net names (step.Call raw) rs ≡ Ok (call_of w sets ∷ rs)
  call_taken raw w sets rs is fine = rw (sets_stand bytes net apart small raw.args sets [] fine is.args, is.word) refl

  -- the steps of an expression put it on the stack
  all_there : (r : Ranking) → IsFine r → (ss : List Step) → AreSteps bytes net r ss → (rs : List Ranking) (more : List Step)
      → all_behind bytes net names rs (ss ++ more) ≡ all_behind bytes net names (r ∷ rs) more
  all_there (call c) fine ss is rs more =
      rw is.1 (taken (step.Call is.0) more rs (call_of (word_of c) (sets_in c) ∷ rs) (call_taken is.0 (word_of c) (sets_in c) rs is.2.0 fine.0)
      ∙ ap (λ (r : Ranking). all_behind bytes net names (r ∷ rs) more) (call_there c))
  all_there (calls []) fine ss is rs more = absurd fine
  all_there (calls (c ∷ cs)) fine ss is rs more =
      rw is.1 (taken (step.Call is.0) more rs (call_of (word_of c) (map set_in (c ∷ cs)) ∷ rs) (call_taken is.0 (word_of c) (map set_in (c ∷ cs)) rs is.2 (sets_fine c (c ∷ cs) fine.1))
      ∙ ap (λ (r : Ranking). all_behind bytes net names (r ∷ rs) more) (calls_there c cs fine.0 fine.1))
  all_there (prefer a b) fine ss is rs more =
      rw (is.3, append_assoc (is.0 ++ is.1) (step.Above is.2 ∷ []) more, append_assoc is.0 is.1 (step.Above is.2 ∷ more))
      (all_there a fine.0 is.0 is.4 rs (is.1 ++ step.Above is.2 ∷ more) ∙ all_there b fine.1 is.1 is.5 (a ∷ rs) (step.Above is.2 ∷ more))
  all_there (either a b) fine ss is rs more =
      rw (is.2, append_assoc (is.0 ++ is.1) (step.Or ∷ []) more, append_assoc is.0 is.1 (step.Or ∷ more))
      (all_there a fine.0.0 is.0 is.3 rs (is.1 ++ step.Or ∷ more) ∙ all_there b fine.0.1 is.1 is.4 (a ∷ rs) (step.Or ∷ more))
  all_there (both a b) fine ss is rs more =
      rw (is.2, append_assoc (is.0 ++ is.1) (step.And ∷ []) more, append_assoc is.0 is.1 (step.And ∷ more))
      (all_there a fine.0 is.0 is.3 rs (is.1 ++ step.And ∷ more) ∙ all_there b fine.1 is.1 is.4 (a ∷ rs) (step.And ∷ more))
  all_there (negated a) fine ss is rs more = rw (is.1, append_assoc is.0 (step.Not ∷ []) more) (all_there a fine.0 is.0 is.2 rs (step.Not ∷ more))

  pub ranking_there : (r : Ranking) → IsFine r → (ss : List Step) → AreSteps bytes net r ss → ranking_of_steps bytes net names ss ≡ Ok r
  unfolding ranking_of_steps
  ranking_there r fine ss is = let h : all_behind bytes net names [] ss ≡ Ok (r ∷ []) = ap (all_behind bytes net names []) (sym (append-nil ss)) ∙ all_there r fine ss is [] [] in rw h refl

  -- a test that operators pass, and calls
  module _ (check : Step → Result ⊤ PolicyFault) (above : (p : Place) → check (step.Above p) ≡ Ok tt) (or : check step.Or ≡ Ok tt) (and : check step.And ≡ Ok tt) (not : check step.Not ≡ Ok tt)
      (one : (raw : RawCall) (c : Call) → IsRawCall bytes net (word_of c) (sets_in c) raw → IsFineCall c → check (step.Call raw) ≡ Ok tt)
      (ranked : (raw : RawCall) (c : Call) (cs : List Call) → IsRawCall bytes net (word_of c) (map set_in (c ∷ cs)) raw → AllByRecursion (IsLike c) (c ∷ cs) → check (step.Call raw) ≡ Ok tt) where
    alone : (s : Step) → check s ≡ Ok tt → each check (s ∷ []) ≡ Ok tt
    alone s h = rw h refl

    passes : (r : Ranking) → IsFine r → (ss : List Step) → AreSteps bytes net r ss → each check ss ≡ Ok tt
    passes (call c) fine ss is = rw is.1 (alone (step.Call is.0) (one is.0 c is.2.0 fine))
    passes (calls []) fine ss is = absurd fine
    passes (calls (c ∷ cs)) fine ss is = rw is.1 (alone (step.Call is.0) (ranked is.0 c cs is.2 fine.1))
    passes (prefer a b) fine ss is =
        rw is.3 (each-append check (is.0 ++ is.1) (step.Above is.2 ∷ [])
        (each-append check is.0 is.1 (passes a fine.0 is.0 is.4) (passes b fine.1 is.1 is.5)) (alone (step.Above is.2) (above is.2)))
    passes (either a b) fine ss is =
        rw is.2 (each-append check (is.0 ++ is.1) (step.Or ∷ [])
        (each-append check is.0 is.1 (passes a fine.0.0 is.0 is.3) (passes b fine.0.1 is.1 is.4)) (alone step.Or or))
    passes (both a b) fine ss is = rw is.2 (each-append check (is.0 ++ is.1) (step.And ∷ []) (each-append check is.0 is.1 (passes a fine.0 is.0 is.3) (passes b fine.1 is.1 is.4)) (alone step.And and))
    passes (negated a) fine ss is = rw is.1 (each-append check is.0 (step.Not ∷ []) (passes a fine.0 is.0 is.2) (alone step.Not not))

  -- each name in it is known
  pub steps_known : (r : Ranking) → IsFine r → (ss : List Step) → AreSteps bytes net r ss → each (step_known bytes names) ss ≡ Ok tt
  steps_known r fine ss is =
      passes (step_known bytes names) (λ p. refl) refl refl refl (λ raw c is' fine'. args_are_known bytes net apart small raw.args (sets_in c) fine'.0 is'.args)
      (λ raw c cs is' fine'. args_are_known bytes net apart small raw.args (map set_in (c ∷ cs)) (sets_fine c (c ∷ cs) fine') is'.args) r fine ss is

  few_places : (raw : RawCall) (w : CallWord) (sets : List LocSet) → IsRawCall bytes net w sets raw → word_places w (length sets) ≤ 256 → places_within (step.Call raw) ≡ Ok tt
  few_places raw w sets is few = rw (is.word, length-pairs (IsSetArg bytes net) raw.args sets is.args, le-leb (word_places w (length sets)) 256 few) refl

  -- no path is too long
  pub paths_fit : (r : Ranking) → IsFine r → (ss : List Step) → AreSteps bytes net r ss → each places_within ss ≡ Ok tt
  paths_fit r fine ss is =
      passes places_within (λ p. refl) refl refl refl (λ raw c is' fine'. few_places raw (word_of c) (sets_in c) is' fine'.1)
      (λ raw c cs is' fine'. few_places raw (word_of c) (map set_in (c ∷ cs)) is' (omega (arith, no_places c (length (map set_in (c ∷ cs))) fine'.0.0))) r fine ss is

  -- it has as many calls as its steps
  pub calls_counted : (r : Ranking) → (ss : List Step) → AreSteps bytes net r ss → sum_by call_amount ss ≡ call_count r
  calls_counted (call c) ss is = rw is.1 (omega (arith, sum_by-cons call_amount (step.Call is.0) []))
  calls_counted (calls []) ss is = absurd is
  calls_counted (calls (c ∷ cs)) ss is = rw is.1 (omega (arith, sum_by-cons call_amount (step.Call is.0) []))
  calls_counted (prefer a b) ss is = rw is.3 (calls_of_sides is.0 is.1 (step.Above is.2) (call_count a) (call_count b) (calls_counted a is.0 is.4) (calls_counted b is.1 is.5) refl)
  calls_counted (either a b) ss is = rw is.2 (calls_of_sides is.0 is.1 step.Or (call_count a) (call_count b) (calls_counted a is.0 is.3) (calls_counted b is.1 is.4) refl)
  calls_counted (both a b) ss is = rw is.2 (calls_of_sides is.0 is.1 step.And (call_count a) (call_count b) (calls_counted a is.0 is.3) (calls_counted b is.1 is.4) refl)
  calls_counted (negated a) ss is = rw is.1 (omega (arith, sum_by-append call_amount is.0 (step.Not ∷ []), sum_by-cons call_amount step.Not [], calls_counted a is.0 is.2))
