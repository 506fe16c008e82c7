-- Paths that can have a run, place by place.
use Rattle.std.proofs.Common.{◌≡◌, ℕ, ◌≤◌, Bool, true, false, not, ◌&&◌, ◌||◌, nat_le, List, [], ◌∷◌, length, refl, sym, ◌∙◌, ⊎_elim, arith, le-leb}
use Rattle.std.specs.List.{list_any}
use Rattle.std.proofs.lemmas.Bool.{and_parts, and_from, or_cases, or_parts, or_from, or_left, or_right, not-true, not_from_false, false≢true}
use Rattle.net_base.specs.Network.{PlainNet, is_location, is_peer, is_router, linked}
use Rattle.net_base.proofs.RoutersAndPeers.{router_or_peer}
use Rattle.policy_base.specs.Meaning.{at_last, front}
use Rattle.policy_base.specs.Walks.{is_walk, steps_linked}
use Rattle.policy_base.specs.Permitted.{ends_at_origin}
use Rattle.evidence_law.specs.Faithful.{is_walk_to, is_run_path}
use Rattle.policy_base.specs.CaseOrigins.{AreOrigins}

-- a walk to an origin that no other place is, or an origin alone
abbrev pub GoesTo : PlainNet → (ℕ → Bool) → List ℕ → Type 0
GoesTo net origin [] = ⊥
GoesTo net origin (l ∷ []) = origin l ≡ true
GoesTo net origin (l ∷ k ∷ []) = (linked net l k ≡ true) × (origin l ≡ false) × (origin k ≡ true)
GoesTo net origin (l ∷ k ∷ j ∷ ls) = (linked net l k ≡ true) × (origin l ≡ false) × (is_peer net k ≡ false) × GoesTo net origin (k ∷ j ∷ ls)

walk-places : (net : PlainNet) (origin : ℕ → Bool) (l k : ℕ) (ls : List ℕ) → steps_linked net (l ∷ k ∷ ls) ≡ true → list_any (is_peer net) (front (k ∷ ls)) ≡ false →
    at_last origin (l ∷ k ∷ ls) ≡ true → list_any origin (front (l ∷ k ∷ ls)) ≡ false → GoesTo net origin (l ∷ k ∷ ls)
walk-places net origin l k [] a b c d = ((and_parts (linked net l k) true a).0, (or_parts (origin l) false d).0, c)
walk-places net origin l k (j ∷ ls) a b c d =
    let links = and_parts (linked net l k) (steps_linked net (k ∷ j ∷ ls)) a in
    let peers = or_parts (is_peer net k) (list_any (is_peer net) (front (j ∷ ls))) b in
    let origins = or_parts (origin l) (list_any origin (front (k ∷ j ∷ ls))) d in
    (links.0, origins.0, peers.0, walk-places net origin k j ls links.1 peers.1 c origins.1)

-- a path of two places or more is a walk
pub walk-from_run_path : (net : PlainNet) (origin : ℕ → Bool) (l k : ℕ) (ls : List ℕ) → is_run_path net origin (l ∷ k ∷ ls) ≡ true → is_walk_to net origin (l ∷ k ∷ ls) ≡ true
walk-from_run_path net origin l k ls h =
    ⊎_elim (λ e. e) (λ e. absurd (false≢true e)) (or_cases (is_walk_to net origin (l ∷ k ∷ ls)) false h)

pub goes_from_run_path : (net : PlainNet) (origin : ℕ → Bool) (path : List ℕ) → is_run_path net origin path ≡ true → GoesTo net origin path
goes_from_run_path net origin [] h = absurd (false≢true h)
goes_from_run_path net origin (l ∷ []) h = h
goes_from_run_path net origin (l ∷ k ∷ ls) h =
    let whole = walk-from_run_path net origin l k ls h in
    let halves = and_parts (is_walk net (l ∷ k ∷ ls)) (ends_at_origin origin (l ∷ k ∷ ls)) whole in
    let walk = and_parts (nat_le 2 (length (l ∷ k ∷ ls)) && steps_linked net (l ∷ k ∷ ls)) (not (list_any (is_peer net) (front (k ∷ ls)))) halves.0 in
    let ends = and_parts (at_last origin (l ∷ k ∷ ls)) (not (list_any origin (front (l ∷ k ∷ ls)))) halves.1 in
    walk-places net origin l k ls (and_parts (nat_le 2 (length (l ∷ k ∷ ls))) (steps_linked net (l ∷ k ∷ ls)) walk.0).1 (not-true (list_any (is_peer net) (front (k ∷ ls))) walk.1)
    ends.0 (not-true (list_any origin (front (l ∷ k ∷ ls))) ends.1)

places-links : (net : PlainNet) (origin : ℕ → Bool) (l k : ℕ) (ls : List ℕ) → GoesTo net origin (l ∷ k ∷ ls) → steps_linked net (l ∷ k ∷ ls) ≡ true
places-links net origin l k [] h = and_from (linked net l k) true h.0 refl
places-links net origin l k (j ∷ ls) h = and_from (linked net l k) (steps_linked net (k ∷ j ∷ ls)) h.0 (places-links net origin k j ls h.3)

places-peers : (net : PlainNet) (origin : ℕ → Bool) (l k : ℕ) (ls : List ℕ) → GoesTo net origin (l ∷ k ∷ ls) → list_any (is_peer net) (front (k ∷ ls)) ≡ false
places-peers net origin l k [] h = refl
places-peers net origin l k (j ∷ ls) h = or_from (is_peer net k) (list_any (is_peer net) (front (j ∷ ls))) h.2 (places-peers net origin k j ls h.3)

places-last : (net : PlainNet) (origin : ℕ → Bool) (l k : ℕ) (ls : List ℕ) → GoesTo net origin (l ∷ k ∷ ls) → at_last origin (l ∷ k ∷ ls) ≡ true
places-last net origin l k [] h = h.2
places-last net origin l k (j ∷ ls) h = places-last net origin k j ls h.3

places-origins : (net : PlainNet) (origin : ℕ → Bool) (l k : ℕ) (ls : List ℕ) → GoesTo net origin (l ∷ k ∷ ls) → list_any origin (front (l ∷ k ∷ ls)) ≡ false
places-origins net origin l k [] h = or_from (origin l) false h.1 refl
places-origins net origin l k (j ∷ ls) h = or_from (origin l) (list_any origin (front (k ∷ j ∷ ls))) h.1 (places-origins net origin k j ls h.3)

pub walk_from_places : (net : PlainNet) (origin : ℕ → Bool) (l k : ℕ) (ls : List ℕ) → GoesTo net origin (l ∷ k ∷ ls) → is_walk_to net origin (l ∷ k ∷ ls) ≡ true
walk_from_places net origin l k ls h =
    let long : 2 ≤ length (l ∷ k ∷ ls) = omega arith in
    and_from (is_walk net (l ∷ k ∷ ls)) (ends_at_origin origin (l ∷ k ∷ ls))
    (and_from (nat_le 2 (length (l ∷ k ∷ ls)) && steps_linked net (l ∷ k ∷ ls)) (not (list_any (is_peer net) (front (k ∷ ls))))
    (and_from (nat_le 2 (length (l ∷ k ∷ ls))) (steps_linked net (l ∷ k ∷ ls)) (le-leb 2 (length (l ∷ k ∷ ls)) long) (places-links net origin l k ls h))
    (not_from_false (list_any (is_peer net) (front (k ∷ ls))) (places-peers net origin l k ls h)))
    (and_from (at_last origin (l ∷ k ∷ ls)) (not (list_any origin (front (l ∷ k ∷ ls))))
    (places-last net origin l k ls h)
    (not_from_false (list_any origin (front (l ∷ k ∷ ls))) (places-origins net origin l k ls h)))

pub run_path_from_places : (net : PlainNet) (origin : ℕ → Bool) (path : List ℕ) → GoesTo net origin path → is_run_path net origin path ≡ true
run_path_from_places net origin [] h = absurd h
run_path_from_places net origin (l ∷ []) h = h
run_path_from_places net origin (l ∷ k ∷ ls) h = or_left (is_walk_to net origin (l ∷ k ∷ ls)) false (walk_from_places net origin l k ls h)

-- the rest of such a path is one too
pub goes_from_rest : (net : PlainNet) (origin : ℕ → Bool) (l k : ℕ) (ls : List ℕ) → GoesTo net origin (l ∷ k ∷ ls) → GoesTo net origin (k ∷ ls)
goes_from_rest net origin l k [] h = h.2
goes_from_rest net origin l k (j ∷ ls) h = h.3

pub goes_link : (net : PlainNet) (origin : ℕ → Bool) (l k : ℕ) (ls : List ℕ) → GoesTo net origin (l ∷ k ∷ ls) → linked net l k ≡ true
goes_link net origin l k [] h = h.0
goes_link net origin l k (j ∷ ls) h = h.0

pub goes_no_origin : (net : PlainNet) (origin : ℕ → Bool) (l k : ℕ) (ls : List ℕ) → GoesTo net origin (l ∷ k ∷ ls) → origin l ≡ false
goes_no_origin net origin l k [] h = h.1
goes_no_origin net origin l k (j ∷ ls) h = h.1

-- origins

pub inside_unless_origin : (net : PlainNet) (origin : ℕ → Bool) (external : Bool) → AreOrigins net origin external → (l : ℕ) → is_location net l ≡ true →
    origin l ≡ false → (is_router net l || not external) ≡ true
inside_unless_origin net origin true are l at o = or_left (is_router net l) false (router_or_peer net l at (sym (are l) ∙ o))
inside_unless_origin net origin false are l at o = or_right (is_router net l) true refl
