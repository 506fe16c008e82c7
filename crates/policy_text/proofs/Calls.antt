-- What calls are built of is printable.
use Rattle.std.proofs.Common.{◌≡◌, ℕ, ◌+◌, ◌≤◌, Bool, true, List, [], ◌∷◌, ◌++◌, length, map, Option, None, Ok, refl, ap, subst, arith, inl, length-append}
use Rattle.std.specs.Prelude.{IsTrue}
use Rattle.std.specs.List.{AllByRecursion}
use Rattle.net_base.specs.declared.loc.LocSet.{LocSet}
use Rattle.net_base.specs.declared.place.Place.{Place}
use Rattle.net_base.specs.Network.{PlainNet, IsNet}
use Rattle.net_base.specs.NetSets.{locations}
use Rattle.net_base.proofs.StepLemmas.{bind_ok}
use Rattle.policy_grammar.specs.Raw.{Arg, Arg as arg}
use Rattle.policy_words.specs.declared.word.SetCall.{SetCall}
use Rattle.policy_words.specs.declared.word.CallWord.{CallWord}
use Rattle.policy_words.specs.declared.word.CallWord.TheVariants as word
use Rattle.policy_rules.specs.Counts.{word_places}
use Rattle.policy_rules.specs.KnownNames.{Names}
use Rattle.policy_base.specs.Policies.{Ranking, call, calls, prefer, either, both, negated}
use Rattle.policy_values.specs.Built.{set_of_arg, sets_of, ranked_sets, link_of, call_of}
use Rattle.policy_base.specs.declared.call.Call.TheVariants.{Of}
use Rattle.policy_base.specs.CallWords.{word_of}
use Rattle.policy_text.specs.Printable.{IsCallSet, HasCallSets, has_one_set, AreRanked, IsWritable, HasNoRank, call_count, open_brackets}
use Rattle.policy_text.specs.Values.{IsLocSet, sets_in, HasLocSets}
use Rattle.list_law.proofs.Each.{AllByRecursion-push, AllByRecursion-weaker}
use Rattle.policy_text.proofs.Forms.{has_brackets, one_if, IsArg, HasArgs}
use Rattle.policy_text.proofs.Sets.{IsSome, part_set, part_within, locations_set, locations_call}
use Rattle.policy_text.proofs.PrintedNames.{NamesStand, names_some}

-- ---- the sets of a call

-- a set that a call may have
abbrev pub IsGoodSet : PlainNet → LocSet → Type 0
IsGoodSet net s = IsCallSet net s × IsLocSet s

module _ (net : PlainNet) (rules : IsNet net) (bytes : List ℕ) (known : Names) (stand : NamesStand (length net.routers + length net.peers) known) where
  arg_set : (a : Arg) (s : LocSet) → IsArg a → set_of_arg bytes net known a ≡ Ok s → IsGoodSet net s
  arg_set arg.Any s is e = let same : locations net ≡ s = cc in subst (IsGoodSet net) same (locations_call net rules, locations_set net)
  arg_set (arg.Names ls) s is e =
      let n : ℕ = length net.routers + length net.peers in
      let x : IsSome n s = names_some n bytes known s ls stand is e in
      ((part_within net s x.part, inl x.some), part_set n s x.part)

  more_sets : (as' : List Arg) (so_far sets : List LocSet) → AllByRecursion IsArg as' → AllByRecursion (IsGoodSet net) so_far → sets_of bytes net known so_far as' ≡ Ok sets
      → AllByRecursion (IsGoodSet net) sets × (length sets ≡ length so_far + length as')
  more_sets [] so_far sets are before e = let same : so_far ≡ sets = cc in (subst (AllByRecursion (IsGoodSet net)) same before, omega (arith, ap length same))
  more_sets (a ∷ as') so_far sets are before e =
      let b = bind_ok (set_of_arg bytes net known a) (λ s. sets_of bytes net known (so_far ++ s ∷ []) as') sets e in
      let x = more_sets as' (so_far ++ b.0 ∷ []) sets are.1 (AllByRecursion-push (IsGoodSet net) so_far b.0 before (arg_set a b.0 are.0 b.1)) b.2 in
      (x.0, omega (arith, x.1, length-append so_far (b.0 ∷ [])))

  -- as many sets as arguments, each of them good
  pub call_sets : (as' : List Arg) (sets : List LocSet) → AllByRecursion IsArg as' → sets_of bytes net known [] as' ≡ Ok sets → AllByRecursion (IsGoodSet net) sets × (length sets ≡ length as')
  call_sets as' sets are e = let x = more_sets as' [] sets are tt e in (x.0, omega (arith, x.1))

-- ---- what is built of them

-- the calls of an expression can be printed
abbrev pub HasGoodSets : PlainNet → Ranking → Type 0
HasGoodSets net (call c) = HasCallSets net c
HasGoodSets net (calls cs) = AreRanked net cs
HasGoodSets net (prefer a b) = HasGoodSets net a × HasGoodSets net b
HasGoodSets net (either a b) = HasGoodSets net a × HasGoodSets net b
HasGoodSets net (both a b) = HasGoodSets net a × HasGoodSets net b
HasGoodSets net (negated a) = HasGoodSets net a

-- what can be said of a call, or of a call with ranked sets
pub record IsGoodCall (net : PlainNet) (above : Option Place) (b : Bool) (r : Ranking) : Type 0 where
  pub sets : HasGoodSets net r
  pub writable : IsWritable net r
  pub values : HasLocSets r
  pub rank : above ≡ None → HasNoRank r
  pub brackets : (least : ℕ) → open_brackets least r ≡ one_if b
  pub count : call_count r ≡ 1

-- a call of one set
module _ (net : PlainNet) (c : SetCall) where
  -- calls that are ranked with a first one
  ranked_like : (first : LocSet) (ss : List LocSet) → AllByRecursion (IsGoodSet net) ss
      → AllByRecursion (λ d. (word_of d ≡ word_of (Of c first)) × IsTrue (has_one_set d) × HasCallSets net d) (map (Of c) ss)
  ranked_like first [] all = tt
  ranked_like first (s ∷ ss) all = ((refl, refl, all.0.0), ranked_like first ss all.1)

  ranked_values : (ss : List LocSet) → AllByRecursion (IsGoodSet net) ss → AllByRecursion (λ d. AllByRecursion IsLocSet (sets_in d)) (map (Of c) ss)
  ranked_values [] all = tt
  ranked_values (s ∷ ss) all = ((all.0.1, tt), ranked_values ss all.1)

  ranked_good : (above : Option Place) (ss : List LocSet) → 1 ≤ length ss → (above ≡ None → length ss ≡ 1) → AllByRecursion (IsGoodSet net) ss → IsGoodCall net above true (ranked_sets c ss)
  ranked_good above [] some one all = absurd (omega (arith, some))
  ranked_good above (s ∷ []) some one all = record { sets = all.0.0; writable = all.0.0; values = (all.0.1, tt); rank = λ none. tt; brackets = λ least. refl; count = refl }
  ranked_good above (s ∷ t ∷ ss) some one all = record {
    sets = (omega arith, ranked_like s (s ∷ t ∷ ss) all);
    writable = (omega arith, ranked_like s (s ∷ t ∷ ss) all);
    values = ranked_values (s ∷ t ∷ ss) all;
    rank = λ none. absurd (two (one none));
    brackets = λ least. refl;
    count = refl;
  }
    where
      two : length (s ∷ t ∷ ss) ≡ 1 → ⊥
      two e = omega (arith, e)

link_good : (net : PlainNet) (above : Option Place) (ss : List LocSet) → length ss ≡ 2 → AllByRecursion (IsGoodSet net) ss → IsGoodCall net above true (call (link_of ss))
link_good net above [] two all = absurd (omega (arith, two))
link_good net above (a ∷ []) two all = absurd (omega (arith, two))
link_good net above (a ∷ b ∷ []) two all =
    record {
      sets = (all.0.0, all.1.0.0);
      writable = (all.0.0, all.1.0.0);
      values = (
        all.0.1,
        (all.1.0.1, tt),
      );
      rank = λ none. tt;
      brackets = λ least. refl;
      count = refl;
    }
link_good net above (a ∷ b ∷ c ∷ ss) two all = absurd (omega (arith, two))

-- a call of so many good sets
pub call_good : (net : PlainNet) (w : CallWord) (above : Option Place) (ss : List LocSet) → HasArgs w (length ss) above → word_places w (length ss) ≤ 256 → AllByRecursion (IsGoodSet net) ss
    → IsGoodCall net above (has_brackets w) (call_of w ss)
call_good net word.Any above ss is few all = record { sets = tt; writable = tt; values = tt; rank = λ none. tt; brackets = λ least. refl; count = refl }
call_good net word.Drop above ss is few all = record { sets = tt; writable = tt; values = tt; rank = λ none. tt; brackets = λ least. refl; count = refl }
call_good net word.Internal above ss is few all = record { sets = tt; writable = tt; values = tt; rank = λ none. tt; brackets = λ least. refl; count = refl }
call_good net word.Link above ss is few all = link_good net above ss is all
call_good net word.Path above ss is few all = record {
  sets = (AllByRecursion-weaker (IsGoodSet net) (IsCallSet net) ss (λ s h. h.0) all, is, few);
  writable = (AllByRecursion-weaker (IsGoodSet net) (IsCallSet net) ss (λ s h. h.0) all, is, few);
  values = AllByRecursion-weaker (IsGoodSet net) IsLocSet ss (λ s h. h.1) all;
  rank = λ none. tt;
  brackets = λ least. refl;
  count = refl;
}
call_good net (word.Of c) above ss is few all = ranked_good net c above ss is.0 is.1 all
