-- Which links a set has, as far as a loop has come.
use Rattle.std.proofs.Common.{◌≡◌, ℕ, ◌+◌, ◌<◌, Bool, true, false, List, length, get_or, set, take, replicate, Option, Some, None, ◌⊎◌, refl, sym, ap, ◌∙◌, inl, inr}
use Rattle.std.specs.Prelude.{◌&&◌, ◌||◌, ◌==◌}
use Rattle.std.specs.List.{list_any, position}
use Rattle.std.specs.Option.{option_map_or}
use Rattle.std.proofs.Math.Bool.{or-true}
use Rattle.std.proofs.lemmas.Bool.{and_from, and_parts, cases_eq, eq-eqb, eqb-true, false_from_ne_true, lt-ltb, or_left, true≢false}
use Rattle.std.proofs.lemmas.List.{get_or-set_other, get_or-set_same}
use Rattle.std.proofs.lemmas.List.Folds.{list_any_more}
use Rattle.std.proofs.lemmas.List.Quantifiers.{position-Some}
use Rattle.list_law.proofs.Each.{AllByRecursion_at}
use Rattle.list_law.proofs.Options.{is_some_parts}
use Rattle.list_law.proofs.Tests.{list_any_parts}
use Rattle.list_law.proofs.Truth.{or_failed, same_tests}
use Rattle.list_law.proofs.Items.{get_or-replicate_same}
use Rattle.net_base.specs.Network.{PlainNet, IsLink, IsNet, is_peer, is_router, joins, linked}
use Rattle.net_base.proofs.LinkSearch.{is_some-position}
use Rattle.net_base.proofs.RoutersAndPeers.{peer_no_router}
use Rattle.net_base.proofs.Links.{joins_ends, joins_straight, joins_turned, position-joins_flips}

-- ---- pairs that join two locations

-- what joins the same locations has the same place
same_place : (net : PlainNet) (c d : ℕ) (e : ℕ × ℕ) → joins c d e ≡ true → position (joins c d) net.links ≡ position (joins e.0 e.1) net.links
same_place net c d e h = elim (joins_ends c d e h) [
  | inl same ↦ (λ k. position (joins (sym same.0 k) (sym same.1 k)) net.links)
  | inr other ↦ position-joins_flips c d net.links ∙ (λ k. position (joins (sym other.0 k) (sym other.1 k)) net.links)
]

-- and what has the same place joins the same locations
join_at : (net : PlainNet) (c d i : ℕ) (e : ℕ × ℕ) → position (joins c d) net.links ≡ Some i → position (joins e.0 e.1) net.links ≡ Some i → joins c d e ≡ true
join_at net c d i e one two =
    let link = get_or net.links i (0, 0) in
    both link (joins_ends c d link (position-Some (joins c d) net.links i (0, 0) one).1) (joins_ends e.0 e.1 link (position-Some (joins e.0 e.1) net.links i (0, 0) two).1)
  where
    both : (link : ℕ × ℕ) → ((link.0 ≡ c) × (link.1 ≡ d)) ⊎ ((link.0 ≡ d) × (link.1 ≡ c)) → ((link.0 ≡ e.0) × (link.1 ≡ e.1)) ⊎ ((link.0 ≡ e.1) × (link.1 ≡ e.0)) → joins c d e ≡ true
    both link (inl x) (inl y) = joins_straight c d e (sym y.0 ∙ x.0) (sym y.1 ∙ x.1)
    both link (inl x) (inr y) = joins_turned c d e (sym y.1 ∙ x.1) (sym y.0 ∙ x.0)
    both link (inr x) (inl y) = joins_turned c d e (sym y.0 ∙ x.0) (sym y.1 ∙ x.1)
    both link (inr x) (inr y) = joins_straight c d e (sym y.1 ∙ x.1) (sym y.0 ∙ x.0)

-- a place is one of the links
pub within_links : (net : PlainNet) (a b i : ℕ) → position (joins a b) net.links ≡ Some i → i < length net.links
within_links net a b i found = (position-Some (joins a b) net.links i (0, 0) found).0

-- a link has a place
placed : (net : PlainNet) (c d : ℕ) → linked net c d ≡ true → (j : ℕ) × (position (joins c d) net.links ≡ Some j)
placed net c d on = is_some_parts (position (joins c d) net.links) (is_some-position (joins c d) net.links ∙ on)

-- ---- marks by place

abbrev pub marked_at : PlainNet → List Bool → ℕ → ℕ → Bool
marked_at net marks a b = option_map_or (λ place. get_or marks place false) (position (joins a b) net.links) false

pub none_marked : (net : PlainNet) (n a b : ℕ) → marked_at net (replicate n false) a b ≡ false
none_marked net n a b = at (position (joins a b) net.links)
  where
    at : (o : Option ℕ) → option_map_or (λ place. get_or (replicate n false) place false) o false ≡ false
    at None = refl
    at (Some i) = get_or-replicate_same n i false

module _ (net : PlainNet) (marks : List Bool) (a b : ℕ) where
  -- one link more
  pub one_marked : (i : ℕ) → i < length marks → position (joins a b) net.links ≡ Some i
      → (c d : ℕ) → linked net c d ≡ true → marked_at net (set marks i true) c d ≡ (marked_at net marks c d || joins c d (a, b))
  one_marked i within found c d on =
      let at = placed net c d on in
      ap (λ o. option_map_or (λ place. get_or (set marks i true) place false) o false) at.1
      ∙ here at.0 at.1
      ∙ sym (ap (λ o. option_map_or (λ place. get_or marks place false) o false || joins c d (a, b)) at.1)
    where
      here : (j : ℕ) → position (joins c d) net.links ≡ Some j → get_or (set marks i true) j false ≡ (get_or marks j false || joins c d (a, b))
      here j place = elim (cases_eq j i) [
        | inl same ↦
            ap (λ k. get_or (set marks i true) k false) same
            ∙ get_or-set_same marks i true false within
            ∙ sym (ap (λ o. get_or marks j false || o) (join_at net c d j (a, b) place (found ∙ ap (λ k. Some k) (sym same))) ∙ or-true (get_or marks j false))
        | inr other ↦
            get_or-set_other marks i j true false other
            ∙ sym (or_failed (get_or marks j false) (joins c d (a, b)) (false_from_ne_true _ (λ t. other (apart (sym place ∙ same_place net c d (a, b) t ∙ found)))))
      ]
        where
          apart : {i j : ℕ} → Some j ≡ Some i → j ≡ i
          apart e = cc

  -- what is no link joins no linked locations
  pub none_more : position (joins a b) net.links ≡ None → (c d : ℕ) → linked net c d ≡ true → marked_at net marks c d ≡ (marked_at net marks c d || joins c d (a, b))
  none_more none c d on = sym (or_failed (marked_at net marks c d) (joins c d (a, b)) (false_from_ne_true _ (λ t. never t)))
    where
      never : joins c d (a, b) ≡ true → ⊥
      never t = let at = placed net c d on in let clash : Some at.0 ≡ None = sym at.1 ∙ same_place net c d (a, b) t ∙ none in cc

-- ---- sessions of peers

module _ (net : PlainNet) (rules : IsNet net) (r p : ℕ) (on : linked net r p ≡ true) (peer : is_peer net p ≡ true) where
  -- what is linked to a peer is a router
  at_router : is_peer net r ≡ true → ⊥
  at_router other =
      let found = list_any_parts (joins r p) net.links on in
      let link = found.1 in
      let first = lt-ltb link.0 (length net.routers) (AllByRecursion_at (IsLink net) net.links found.0 found.1 rules.links found.2).2 in
      elim (joins_ends r p link found.3) [
        | inl same ↦ true≢false (sym first ∙ ap (is_router net) same.0 ∙ peer_no_router net r other)
        | inr turn ↦ true≢false (sym first ∙ ap (is_router net) turn.0 ∙ peer_no_router net p peer)
      ]

  -- a session whose second place is a peer joins the two where it is theirs, the router first
  pub joined_session : (s : ℕ × ℕ) → is_peer net s.1 ≡ true → joins r p s ≡ (s.0 == r && s.1 == p)
  joined_session s kind = same_tests (joins r p s) (s.0 == r && s.1 == p) there back
    where
      there : joins r p s ≡ true → (s.0 == r && s.1 == p) ≡ true
      there h = elim (joins_ends r p s h) [
        | inl same ↦ and_from (s.0 == r) (s.1 == p) (eq-eqb s.0 r same.0) (eq-eqb s.1 p same.1)
        | inr turn ↦ absurd (at_router (ap (is_peer net) (sym turn.1) ∙ kind))
      ]

      back : (s.0 == r && s.1 == p) ≡ true → joins r p s ≡ true
      back h = or_left (s.0 == r && s.1 == p) (s.0 == p && s.1 == r) h

  -- and another one isn't theirs
  pub other_session : (s : ℕ × ℕ) → is_peer net s.1 ≡ false → (s.0 == r && s.1 == p) ≡ false
  other_session s kind = false_from_ne_true _ (λ t. true≢false (sym peer ∙ ap (is_peer net) (sym (eqb-true s.1 p (and_parts (s.0 == r) (s.1 == p) t).1)) ∙ kind))

-- ---- one pair more

module _ (test : ℕ × ℕ → Bool) (pairs : List (ℕ × ℕ)) (i : ℕ) (pair : ℕ × ℕ) (within : i < length pairs) (is : pair ≡ get_or pairs i pair) where
  pub any_next : list_any test (take (i + 1) pairs) ≡ (list_any test (take i pairs) || test pair)
  any_next = list_any_more test pairs i pair within ∙ ap (λ q. list_any test (take i pairs) || test q) (sym is)
