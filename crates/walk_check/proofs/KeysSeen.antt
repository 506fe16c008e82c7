-- Keys that are put behind one another, each where it isn't there yet.
use Rattle.std.proofs.Common.{◌≡◌, ℕ, ◌+◌, ◌<◌, true, false, List, [], ◌∷◌, ◌++◌, length, take, drop, get_or, refl, sym, ap, ◌∙◌, subst, Some, eq-eqb}
use Rattle.std.specs.Prelude.{◌==◌}
use Rattle.std.specs.Cmp.{IsEquivalence}
use Rattle.std.specs.List.{IsDistinct, list_any}
use Rattle.std.proofs.lemmas.Bool.{and_from, true≢false}
use Rattle.std.proofs.lemmas.List.{take-append-drop, take_more}
use Rattle.std.proofs.lemmas.Map.Keys.{IsDistinct-push}
use Rattle.std.proofs.lemmas.Option.{slice_get-get_or}
use Rattle.list_law.proofs.Items.{drop_from}
use Rattle.list_law.proofs.Keys.{others_before}
use Rattle.graph_base.specs.Rules.{same_pair}
use Rattle.node_classes.proofs.Finding.{pair_is}
use Rattle.node_classes.proofs.Ordered.{stands_turned}

same_pair-equivalence : IsEquivalence same_pair
same_pair-equivalence = record {
  refl = λ a. and_from (a.0 == a.0) (a.1 == a.1) (eq-eqb a.0 a.0 refl) (eq-eqb a.1 a.1 refl);
  symm = stands_turned;
  congr = λ a b c h. ap (λ x. same_pair x c) (pair_is a b h);
}

module _ (keys : List (ℕ × ℕ)) (i : ℕ) (key : ℕ × ℕ) (within : i < length keys) (is : key ≡ get_or keys i key) where
  pub next_keys : take (i + 1) keys ≡ take i keys ++ key ∷ []
  next_keys = take_more keys i key within ∙ ap (λ k. take i keys ++ k ∷ []) (sym is)

  -- a key that is new keeps them apart
  pub apart_next : IsDistinct same_pair (take i keys) → list_any (same_pair key) (take i keys) ≡ false → IsDistinct same_pair (take (i + 1) keys)
  apart_next apart new = subst (IsDistinct same_pair) (sym next_keys) (IsDistinct-push same_pair-equivalence (take i keys) key apart new)

  -- and one that isn't stands twice
  pub stands_twice : list_any (same_pair key) (take i keys) ≡ true → IsDistinct same_pair keys → ⊥
  stands_twice old apart =
      true≢false (sym old ∙ others_before same_pair (λ a b off. stands_turned b a ∙ off) (take i keys) key (drop (i + 1) keys) (subst (IsDistinct same_pair) (whole keys i key within is) apart))
    where
      whole : (xs : List (ℕ × ℕ)) (n : ℕ) (x : ℕ × ℕ) → n < length xs → x ≡ get_or xs n x → xs ≡ take n xs ++ x ∷ drop (n + 1) xs
      whole xs n x lt at = sym (take-append-drop n xs) ∙ ap (λ ys. take n xs ++ ys) (drop_from xs n x (slice_get-get_or xs n x lt ∙ ap Some (sym at)))
