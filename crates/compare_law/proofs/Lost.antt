-- A path that is lost shows failures under which its source has a good path in the old policy alone.
use Rattle.std.proofs.Common.{◌≡◌, ℕ, Bool, true, List, [], ◌∷◌, Some, None, refl, sym, ap, ◌∙◌, subst}
use Rattle.std.proofs.lemmas.Bool.{and_from, and_parts}
use Rattle.list_law.proofs.Options.{is_some_from, none_or_some}
use Rattle.net_base.specs.Network.{PlainNet}
use Rattle.net_base.specs.Prefixes.{PlainPrefix}
use Rattle.policy_base.specs.Policies.{PlainPolicy}
use Rattle.policy_base.specs.Walks.{is_loop_free, is_walk, steps_linked}
use Rattle.policy_base.specs.Governing.{is_origin, statement_of}
use Rattle.policy_base.specs.Permitted.{ends_at_origin}
use Rattle.policy_base.proofs.WalkParts.{walk_parts}
use Rattle.outcome_base.specs.Outcomes.{ends_heard, passes_live, survives}
use Rattle.compare_base.specs.Ranks.{rank_for}
use Rattle.compare_law.specs.Laws.{all_but, IsGoodBy, LostPathsShowFailures}
use Rattle.compare_law.proofs.Alone.{one_way, path_survives}
use Rattle.compare_law.proofs.Failing.{good_from, good_parts}
use Rattle.compare_law.proofs.Rows.{ranked_walk}

-- with the same origins a path ends at one in both
ends_alike : (o q : ℕ → Bool) → ((l : ℕ) → o l ≡ q l) → (path : List ℕ) → ends_at_origin q path ≡ true → ends_at_origin o path ≡ true
ends_alike o q same path ends = subst (λ (t : ℕ → Bool). ends_at_origin t path ≡ true) (λ i l. sym (same l) i) ends

module _ (net : PlainNet) (old new : PlainPolicy) (p : PlainPrefix) (origins : (l : ℕ) → is_origin net old p l ≡ is_origin net new p l) where
  -- a walk with a rank is linked and ends at an origin
  pub record IsWay (policy : PlainPolicy) (path : List ℕ) : Type 0 where
    pub links : steps_linked net path ≡ true
    pub ends : ends_at_origin (is_origin net policy p) path ≡ true

  way : (policy : PlainPolicy) (path : List ℕ) (n : ℕ) → rank_for net policy p path ≡ Some n → IsWay policy path
  way policy path n at =
      let walk = ranked_walk net policy p (statement_of policy p) path (is_some_from (rank_for net policy p path) n at) in
      let parts = and_parts (is_walk net path) (ends_at_origin (is_origin net policy p) path) walk in
      record { links = (walk_parts net path parts.0).0; ends = parts.1 }

  -- within the places and links of a path, a path of the new policy that begins as it does is the same
  same_way : (x : ℕ) (xs zs : List ℕ) (i j : ℕ) → rank_for net old p (x ∷ xs) ≡ Some i → rank_for net new p (x ∷ zs) ≡ Some j
      → is_loop_free (x ∷ xs) ≡ true → is_loop_free (x ∷ zs) ≡ true → passes_live (all_but net (x ∷ xs)) (x ∷ zs) ≡ true → xs ≡ zs
  same_way x xs zs i j at_old at_new free other lives =
      let there = way new (x ∷ zs) j at_new in
      one_way net (x ∷ xs) (is_origin net old p) free [] x xs zs refl other (way old (x ∷ xs) i at_old).ends
      (ends_alike (is_origin net old p) (is_origin net new p) origins (x ∷ zs) there.ends) there.links lives

  none_there : (x : ℕ) (xs zs : List ℕ) (i : ℕ) → rank_for net old p (x ∷ xs) ≡ Some i → rank_for net new p (x ∷ xs) ≡ None → is_loop_free (x ∷ xs) ≡ true
      → IsGoodBy net new (all_but net (x ∷ xs)) p (statement_of new p) (x ∷ zs) → ⊥
  none_there x xs zs i at none free good =
      let f = all_but net (x ∷ xs) in
      let parts = good_parts net new f p (x ∷ zs) (statement_of new p) good in
      let both = and_parts (is_loop_free (x ∷ zs)) (survives net f (x ∷ zs)) parts.3 in
      let lives = (and_parts (passes_live f (x ∷ zs)) (ends_heard net f (x ∷ zs)) both.1).0 in
      let same = same_way x xs zs i parts.0 at parts.1 free both.0 lives in
      none_or_some (rank_for net new p (x ∷ xs)) parts.0 none (ap (λ (ls : List ℕ). rank_for net new p (x ∷ ls)) same ∙ parts.1)

  good_here : (path : List ℕ) (i : ℕ) → rank_for net old p path ≡ Some i → is_loop_free path ≡ true → IsGoodBy net old (all_but net path) p (statement_of old p) path
  good_here path i at free =
      (good_from net old (all_but net path) p path (statement_of old p) i at (and_from (is_loop_free path) (survives net (all_but net path) path) free (path_survives net path))).0

pub lost_paths : LostPathsShowFailures
lost_paths net old new p r None rest i origins at none free =
    ((rest, good_here net old new p origins (r ∷ rest) i at free), λ good. none_there net old new p origins r rest good.0 i at none free good.1)
lost_paths net old new p r (Some peer) rest i origins at none free =
    ((rest, good_here net old new p origins (peer ∷ r ∷ rest) i at free), λ good. none_there net old new p origins peer (r ∷ rest) (r ∷ good.0) i at none free good.1)
