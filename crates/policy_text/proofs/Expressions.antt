-- What expressions are built of is printable, and needs no more brackets than were read.
use Rattle.std.proofs.Common.{◌≡◌, ℕ, ◌+◌, ◌≤◌, List, [], ◌∷◌, ◌++◌, length, Option, Some, None, Result, Ok, refl, sym, ap, ◌∙◌, subst, arith, append_assoc, append-nil, leb-true}
use Rattle.std.specs.Prelude.{⊤, nat_le, sum_by}
use Rattle.std.proofs.lemmas.List.Sums.{sum_by-cons, sum_by-append}
use Rattle.net_base.specs.declared.loc.LocSet.{LocSet}
use Rattle.net_base.specs.declared.place.Place.{Place}
use Rattle.policy_tokens.specs.declared.kind.Kind.TheVariants as kind
use Rattle.net_base.specs.Network.{PlainNet, IsNet}
use Rattle.net_base.specs.Steps.{unless}
use Rattle.net_base.proofs.StepLemmas.{bind_ok, unless_ok}
use Rattle.policy_tokens.specs.declared.fault.PolicyFault.{PolicyFault}
use Rattle.policy_tokens.specs.declared.fault.PolicyFault.TheVariants.{TooMany}
use Rattle.policy_grammar.specs.Raw.{RawCall, Step, Step as step}
use Rattle.policy_rules.specs.declared.ranks.Mark.{Mark}
use Rattle.policy_rules.specs.Checks.{each}
use Rattle.policy_rules.specs.Counts.{call_amount, places_within, word_places}
use Rattle.policy_rules.specs.KnownNames.{Names}
use Rattle.policy_rules.specs.Ranks.{earlier, top as top_mark, above_mark, or_mark, and_mark, not_mark, marks_of}
use Rattle.policy_base.specs.Policies.{Ranking, call, calls, prefer, either, both, negated}
use Rattle.policy_values.specs.Built.{sets_of, call_of, top, behind, all_behind, ranking_of_steps}
use Rattle.policy_text.specs.Printable.{IsWritable, HasNoRank, call_count, open_brackets}
use Rattle.policy_text.specs.Values.{HasLocSets}
use Rattle.policy_text.proofs.Forms.{Tree, steps_of, has_brackets, brackets_of, AllCalls, HasArgs, IsCallForm}
use Rattle.policy_text.proofs.PrintedNames.{NamesStand}
use Rattle.policy_text.proofs.Calls.{HasGoodSets, IsGoodCall, call_sets, call_good}
use Rattle.policy_rules.proofs.CallSums.{calls_of_sides}

-- ---- what the steps of a tree do

-- an operator behind its sides
sides_first : (xs ys : List Step) (s : Step) (more : List Step) → xs ++ ys ++ s ∷ [] ++ more ≡ xs ++ (ys ++ s ∷ more)
sides_first xs ys s more = append_assoc (xs ++ ys) (s ∷ []) more ∙ append_assoc xs ys (s ∷ more)

-- where the first `>>` of a tree stands, and the first one under an `or` or a `not`
pub mark_of : Tree → Mark
mark_of (Tree.leaf c) = record { first = c.above; broken = None }
mark_of (Tree.above p a b) = above_mark p (mark_of a) (mark_of b)
mark_of (Tree.or a b) = or_mark (mark_of a) (mark_of b)
mark_of (Tree.and a b) = and_mark (mark_of a) (mark_of b)
mark_of (Tree.not a) = not_mark (mark_of a)

marks_there : (t : Tree) (ms : List Mark) (more : List Step) → marks_of ms (steps_of t ++ more) ≡ marks_of (mark_of t ∷ ms) more
unfolding mark_of
marks_there (Tree.leaf c) ms more = refl
marks_there (Tree.above p a b) ms more =
    ap (marks_of ms) (sides_first (steps_of a) (steps_of b) (step.Above p) more) ∙ marks_there a ms (steps_of b ++ step.Above p ∷ more) ∙ marks_there b (mark_of a ∷ ms) (step.Above p ∷ more)
marks_there (Tree.or a b) ms more =
    ap (marks_of ms) (sides_first (steps_of a) (steps_of b) step.Or more) ∙ marks_there a ms (steps_of b ++ step.Or ∷ more)
    ∙ marks_there b (mark_of a ∷ ms) (step.Or ∷ more)
marks_there (Tree.and a b) ms more =
    ap (marks_of ms) (sides_first (steps_of a) (steps_of b) step.And more) ∙ marks_there a ms (steps_of b ++ step.And ∷ more)
    ∙ marks_there b (mark_of a ∷ ms) (step.And ∷ more)
marks_there (Tree.not a) ms more = ap (marks_of ms) (append_assoc (steps_of a) (step.Not ∷ []) more) ∙ marks_there a ms (step.Not ∷ more)

earlier_none : (p q : Option Place) → earlier p q ≡ None → (p ≡ None) × (q ≡ None)
earlier_none (Some p) q none = absurd cc
earlier_none None q none = (refl, none)

-- how many calls a tree has
pub calls_in : Tree → ℕ
calls_in (Tree.leaf c) = 1
calls_in (Tree.above p a b) = calls_in a + calls_in b
calls_in (Tree.or a b) = calls_in a + calls_in b
calls_in (Tree.and a b) = calls_in a + calls_in b
calls_in (Tree.not a) = calls_in a

calls_counted : (t : Tree) → sum_by call_amount (steps_of t) ≡ calls_in t
unfolding calls_in
calls_counted (Tree.leaf c) = omega (arith, sum_by-cons call_amount (step.Call c) [])
calls_counted (Tree.above p a b) = calls_of_sides (steps_of a) (steps_of b) (step.Above p) (calls_in a) (calls_in b) (calls_counted a) (calls_counted b) refl
calls_counted (Tree.or a b) = calls_of_sides (steps_of a) (steps_of b) step.Or (calls_in a) (calls_in b) (calls_counted a) (calls_counted b) refl
calls_counted (Tree.and a b) = calls_of_sides (steps_of a) (steps_of b) step.And (calls_in a) (calls_in b) (calls_counted a) (calls_counted b) refl
calls_counted (Tree.not a) = omega (arith, sum_by-append call_amount (steps_of a) (step.Not ∷ []), sum_by-cons call_amount step.Not [], calls_counted a)

each_parts : (check : Step → Result ⊤ PolicyFault) (xs ys : List Step) (x : ⊤) → each check (xs ++ ys) ≡ Ok x → (each check xs ≡ Ok tt) × (each check ys ≡ Ok x)
each_parts check [] ys x h = (refl, h)
each_parts check (s ∷ xs) ys x h =
    let b = bind_ok (check s) (λ _. each check (xs ++ ys)) x h in
    let c = each_parts check xs ys x b.2 in
    (rw (b.1, c.0) refl, c.1)

-- the places of a call are few enough
abbrev HasFewPlaces : RawCall → Type 0
HasFewPlaces c = word_places c.word (length c.args) ≤ 256

two_parts : (xs ys : List Step) (s : Step) (x : ⊤) → each places_within (xs ++ ys ++ s ∷ []) ≡ Ok x → (each places_within xs ≡ Ok tt) × (each places_within ys ≡ Ok tt)
two_parts xs ys s x h = each_parts places_within xs ys tt (each_parts places_within (xs ++ ys) (s ∷ []) x h).0

few_places : (t : Tree) (x : ⊤) → each places_within (steps_of t) ≡ Ok x → AllCalls HasFewPlaces t
few_places (Tree.leaf c) x h =
    let n : ℕ = word_places c.word (length c.args) in
    let b = bind_ok (unless (TooMany kind.Places n) (nat_le n 256)) (λ _. Ok tt) x h in
    leb-true n 256 (unless_ok (TooMany kind.Places n) (nat_le n 256) b.0 b.1)
few_places (Tree.above p a b) x h = let s = two_parts (steps_of a) (steps_of b) (step.Above p) x h in (few_places a tt s.0, few_places b tt s.1)
few_places (Tree.or a b) x h = let s = two_parts (steps_of a) (steps_of b) step.Or x h in (few_places a tt s.0, few_places b tt s.1)
few_places (Tree.and a b) x h = let s = two_parts (steps_of a) (steps_of b) step.And x h in (few_places a tt s.0, few_places b tt s.1)
few_places (Tree.not a) x h = few_places a tt (each_parts places_within (steps_of a) (step.Not ∷ []) x h).0

-- ---- what is built

-- where nothing is ranked, nothing ranked stands under an `or` or a `not`
unranked : (net : PlainNet) (r : Ranking) → HasGoodSets net r → HasNoRank r → IsWritable net r
unranked net (call c) sets none = sets
unranked net (calls cs) sets none = absurd none
unranked net (prefer a b) sets none = absurd none
unranked net (either a b) sets none = ((unranked net a sets.0 none.0, unranked net b sets.1 none.1), none)
unranked net (both a b) sets none = (unranked net a sets.0 none.0, unranked net b sets.1 none.1)
unranked net (negated a) sets none = (unranked net a sets none, none)

-- an expression that is built of a tree
pub record IsBuilt (net : PlainNet) (t : Tree) (r : Ranking) : Type 0 where
  pub sets : HasGoodSets net r
  pub values : HasLocSets r
  pub rank : (mark_of t).first ≡ None → HasNoRank r
  pub writable : (mark_of t).broken ≡ None → IsWritable net r
  pub brackets : (least : ℕ) → open_brackets least r ≡ brackets_of least t
  pub count : call_count r ≡ calls_in t

module _ (net : PlainNet) where
  prefer_built : (p : Place) (a b : Tree) (x y : Ranking) → IsBuilt net a x → IsBuilt net b y → IsBuilt net (Tree.above p a b) (prefer x y)
  unfolding mark_of calls_in
  prefer_built p a b x y f g = record {
    sets = (f.sets, g.sets);
    values = (f.values, g.values);
    rank = λ none. let last = earlier_none (mark_of a).first (Some p) none in absurd cc;
    writable = λ none. let sides = earlier_none (mark_of a).broken (mark_of b).broken none in (f.writable sides.0, g.writable sides.1);
    brackets = λ least. rw (f.brackets 1, g.brackets 2) refl;
    count = rw (f.count, g.count) refl;
  }

  either_built : (a b : Tree) (x y : Ranking) → IsBuilt net a x → IsBuilt net b y → IsBuilt net (Tree.or a b) (either x y)
  unfolding mark_of calls_in
  either_built a b x y f g = record {
    sets = (f.sets, g.sets);
    values = (f.values, g.values);
    rank = λ none. let sides = earlier_none (mark_of a).first (mark_of b).first none in (f.rank sides.0, g.rank sides.1);
    writable = λ none.
        let sides = earlier_none (mark_of a).first (mark_of b).first none in
        ((unranked net x f.sets (f.rank sides.0), unranked net y g.sets (g.rank sides.1)), (f.rank sides.0, g.rank sides.1));
    brackets = λ least. rw (f.brackets 2, g.brackets 3) refl;
    count = rw (f.count, g.count) refl;
  }

  both_built : (a b : Tree) (x y : Ranking) → IsBuilt net a x → IsBuilt net b y → IsBuilt net (Tree.and a b) (both x y)
  unfolding mark_of calls_in
  both_built a b x y f g = record {
    sets = (f.sets, g.sets);
    values = (f.values, g.values);
    rank = λ none. let sides = earlier_none (mark_of a).first (mark_of b).first none in (f.rank sides.0, g.rank sides.1);
    writable = λ none. let sides = earlier_none (mark_of a).broken (mark_of b).broken none in (f.writable sides.0, g.writable sides.1);
    brackets = λ least. rw (f.brackets 3, g.brackets 4) refl;
    count = rw (f.count, g.count) refl;
  }

  negated_built : (a : Tree) (x : Ranking) → IsBuilt net a x → IsBuilt net (Tree.not a) (negated x)
  unfolding mark_of calls_in
  negated_built a x f = record {
    sets = f.sets;
    values = f.values;
    rank = λ none. f.rank none;
    writable = λ none. (unranked net x f.sets (f.rank none), f.rank none);
    brackets = λ least. rw (f.brackets 5) refl;
    count = f.count;
  }

  call_built : (c : RawCall) (r : Ranking) → IsGoodCall net c.above (has_brackets c.word) r → IsBuilt net (Tree.leaf c) r
  unfolding mark_of calls_in
  call_built c r is = record { sets = is.sets; values = is.values; rank = is.rank; writable = λ none. is.writable; brackets = is.brackets; count = is.count }

module _ (net : PlainNet) (rules : IsNet net) (bytes : List ℕ) (known : Names) (stand : NamesStand (length net.routers + length net.peers) known) where
  -- what a call gives is good
  leaf_good : (c : RawCall) (sets : List LocSet) → IsCallForm c → HasFewPlaces c → sets_of bytes net known [] c.args ≡ Ok sets → IsGoodCall net c.above (has_brackets c.word) (call_of c.word sets)
  leaf_good c sets form few e =
      let x = call_sets net rules bytes known stand c.args sets form.args e in
      call_good net c.word c.above sets (subst (λ (n : ℕ). HasArgs c.word n c.above) (sym x.1) form.count) (subst (λ (n : ℕ). word_places c.word n ≤ 256) (sym x.1) few) x.0

  -- the steps of a tree put an expression on the stack
  built : (t : Tree) → AllCalls IsCallForm t → AllCalls HasFewPlaces t → (rs : List Ranking) (more : List Step) (out : List Ranking) → all_behind bytes net known rs (steps_of t ++ more) ≡ Ok out
      → (r : Ranking) × IsBuilt net t r × (all_behind bytes net known (r ∷ rs) more ≡ Ok out)
  built (Tree.leaf c) form few rs more out e =
      let a = bind_ok (behind bytes net known (step.Call c) rs) (λ next. all_behind bytes net known next more) out e in
      let b = bind_ok (sets_of bytes net known [] c.args) (λ sets. Ok (call_of c.word sets ∷ rs)) a.0 a.1 in
      let same : call_of c.word b.0 ∷ rs ≡ a.0 = cc in
      (call_of c.word b.0, call_built net c (call_of c.word b.0) (leaf_good c b.0 form few b.1), ap (λ (x : List Ranking). all_behind bytes net known x more) same ∙ a.2)
  built (Tree.above p a b) form few rs more out e =
      let x = built a form.0 few.0 rs (steps_of b ++ step.Above p ∷ more) out (ap (all_behind bytes net known rs) (sym (sides_first (steps_of a) (steps_of b) (step.Above p) more)) ∙ e) in
      let y = built b form.1 few.1 (x.0 ∷ rs) (step.Above p ∷ more) out x.2 in
      (prefer x.0 y.0, prefer_built net p a b x.0 y.0 x.1 y.1, y.2)
  built (Tree.or a b) form few rs more out e =
      let x = built a form.0 few.0 rs (steps_of b ++ step.Or ∷ more) out (ap (all_behind bytes net known rs) (sym (sides_first (steps_of a) (steps_of b) step.Or more)) ∙ e) in
      let y = built b form.1 few.1 (x.0 ∷ rs) (step.Or ∷ more) out x.2 in
      (either x.0 y.0, either_built net a b x.0 y.0 x.1 y.1, y.2)
  built (Tree.and a b) form few rs more out e =
      let x = built a form.0 few.0 rs (steps_of b ++ step.And ∷ more) out (ap (all_behind bytes net known rs) (sym (sides_first (steps_of a) (steps_of b) step.And more)) ∙ e) in
      let y = built b form.1 few.1 (x.0 ∷ rs) (step.And ∷ more) out x.2 in
      (both x.0 y.0, both_built net a b x.0 y.0 x.1 y.1, y.2)
  built (Tree.not a) form few rs more out e =
      let x = built a form few rs (step.Not ∷ more) out (ap (all_behind bytes net known rs) (sym (append_assoc (steps_of a) (step.Not ∷ []) more)) ∙ e) in
      (negated x.0, negated_built net a x.0 x.1, x.2)

  tree_built : (t : Tree) (r : Ranking) → AllCalls IsCallForm t → AllCalls HasFewPlaces t → ranking_of_steps bytes net known (steps_of t) ≡ Ok r → IsBuilt net t r
  unfolding ranking_of_steps
  tree_built t r form few e =
      let a = bind_ok (all_behind bytes net known [] (steps_of t)) (λ rs. Ok (top rs)) r e in
      let x = built t form few [] [] a.0 (ap (all_behind bytes net known []) (append-nil (steps_of t)) ∙ a.1) in
      let stack : x.0 ∷ [] ≡ a.0 = cc in
      let same : x.0 ≡ r = ap top stack ∙ cc in
      subst (IsBuilt net t) same x.1

-- ---- the steps of a statement

-- an expression that was read
pub record IsReadExpression (net : PlainNet) (r : Ranking) : Type 0 where
  pub writable : IsWritable net r
  pub values : HasLocSets r
  pub brackets : open_brackets 1 r ≤ 64
  pub calls : call_count r ≤ 256

pub expression_read : (net : PlainNet) → IsNet net → (bytes : List ℕ) (known : Names) → NamesStand (length net.routers + length net.peers) known
    → (steps : List Step) (t : Tree) (r : Ranking) (x : ⊤) → steps ≡ steps_of t → brackets_of 1 t ≤ 64 → AllCalls IsCallForm t
    → (top_mark (marks_of [] steps)).broken ≡ None → sum_by call_amount steps ≤ 256 → each places_within steps ≡ Ok x
    → ranking_of_steps bytes net known steps ≡ Ok r → IsReadExpression net r
expression_read net rules bytes known stand steps t r x is few form broken size places e =
    let b : IsBuilt net t r = tree_built net rules bytes known stand t r form (few_places t x (ap (each places_within) (sym is) ∙ places)) (ap (ranking_of_steps bytes net known) (sym is) ∙ e) in
    let marks : marks_of [] (steps_of t) ≡ mark_of t ∷ [] = ap (marks_of []) (sym (append-nil (steps_of t))) ∙ marks_there t [] [] in
    let whole : (mark_of t).broken ≡ None = ap (λ (ms : List Mark). (top_mark ms).broken) (sym marks) ∙ ap (λ (ss : List Step). (top_mark (marks_of [] ss)).broken) (sym is) ∙ broken in
    let counted : sum_by call_amount steps ≡ call_count r = ap (sum_by call_amount) is ∙ calls_counted t ∙ sym b.count in
    record { writable = b.writable whole; values = b.values; brackets = omega (arith, few, b.brackets 1); calls = omega (arith, size, counted) }
