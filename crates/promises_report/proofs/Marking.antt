-- The tables of ranks: one node or step more, and what they say of sources.
use Rattle.std.proofs.Common.{◌≡◌, ℕ, zero, suc, ◌+◌, ◌*◌, ◌<◌, ◌≤◌, ◌==◌, Bool, true, false, not, ◌&&◌, ◌||◌, List, [], ◌∷◌, length, Option, Some, None, inl, inr, refl, sym, ap, ap₂, ◌∙◌, add-one, arith}
use Rattle.std.specs.Prelude.{nat_le, nat_lt, if◌then◌else◌}
use Rattle.std.specs.List.{list_any}
use Rattle.std.proofs.lemmas.Bool.{and_from, and_parts, cases_Bool, cases_lt, eq-eqb, eqb-true, false_from_ne_true, leb-true, lt-ltb, ltb-true, not-true, not_from_false, or_left, or_right, true≢false}
use Rattle.std.proofs.lemmas.List.Folds.{list_any-append}
use Rattle.std.proofs.Math.Bool.{and-false, or-false, or_assoc}
use Rattle.list_law.proofs.Changed.{flat_map_same}
use Rattle.list_law.proofs.Members.{list_any-from_IsIn, list_any_member}
use Rattle.list_law.proofs.Numbers.{nat_lt-zero}
use Rattle.list_law.proofs.Tests.{list_any-never}
use Rattle.list_law.proofs.Truth.{same_tests}
use Rattle.bit_rows.specs.Tables.{IsSameSize, IsTable, PlainRows, has_at}
use Rattle.net_base.specs.Locations.{numbers_below}
use Rattle.net_base.specs.Network.{PlainNet, IsNet, is_peer, is_router}
use Rattle.net_base.proofs.NumbersBelow.{below_from_In}
use Rattle.graph_base.specs.Graphs.{PlainGraph}
use Rattle.graph_base.specs.Runs.{place_of, rank_at}
use Rattle.evidence_base.specs.Made.{PlainCaseEvidence}
use Rattle.promises_report.specs.Apart.{apart_pair, meet_at, meet_in, pairs_of, pairs_with, ranks_meet, sites}
use Rattle.promises_report.specs.Cases.{AreTold, cases_of}
use Rattle.promises_report.specs.Claims.{is_site}
use Rattle.promises_report.specs.NodeRanks.{has_rank_in, is_rank, tells_router, tells_session}
use Rattle.promises_report.specs.Promises.{Promises}
use Rattle.promises_report.specs.Tables.{IsTableFor, IsTableOf, bit_of, meet_among, meet_by, node_sets, step_sets}
use Rattle.promises_report.proofs.SiteLists.{listed_site, site_listed}
use Rattle.promises_report.proofs.SomeRouter.{some_passes}

pub any_next : (p : ℕ → Bool) (n : ℕ) → list_any p (numbers_below (n + 1)) ≡ (list_any p (numbers_below n) || p n)
any_next p n =
    ap (λ m. list_any p (numbers_below m)) (add-one n) ∙ list_any-append p (numbers_below n) (n ∷ [])
    ∙ ap (λ b. list_any p (numbers_below n) || b) (or-false (p n))

pub same_size : (one mid other : PlainRows) → IsSameSize one mid → IsSameSize mid other → IsSameSize one other
same_size one mid other s t = record { count = s.count ∙ t.count; bits = s.bits ∙ t.bits; width = s.width ∙ t.width }

pub table_kept : (net : PlainNet) (ranks : ℕ) (new old : PlainRows) → IsSameSize new old → IsTableFor net ranks old → IsTableFor net ranks new
table_kept net ranks new old same is = record { count = same.count ∙ is.count; bits = same.bits ∙ is.bits }

-- what is set before a loop, in it so far, and next
pub set_more : (before was now done next : Bool) → was ≡ (before || done) → now ≡ (was || next) → now ≡ (before || (done || next))
set_more before was now done next so_far step = step ∙ ap (λ b. b || next) so_far ∙ or_assoc before done next

-- ---- which ranks meet

-- a bit is set once more, in one row
pub turned : (row bit was is : Bool) → (row ≡ true → was ≡ is) → ((row && bit) && was) ≡ (bit && (row && is))
turned true true was is same = same refl
turned true false was is same = refl
turned false true was is same = refl
turned false false was is same = refl

-- where only one row counts
pub in_row : (row was is : Bool) → (row ≡ true → was ≡ is) → (row && was) ≡ (row && is)
in_row true was is same = same refl
in_row false was is same = refl

pub none_yet : (before next : Bool) (b : ℕ) → before ≡ (before || (nat_lt b 0 && next))
none_yet before next b = sym (or-false before) ∙ ap (λ t. before || (t && next)) (sym (nat_lt-zero b))

pub all_set : (before done : Bool) (b n : ℕ) → b < n → (before || (nat_lt b n && done)) ≡ (before || done)
all_set before done b n low = ap (λ t. before || (t && done)) (lt-ltb b n low)

-- ---- two ranks in a table

-- a bit that is set in both rows is among the bits of the table
pub both_set : (rows : PlainRows) (i j : ℕ) → IsTable rows → i < rows.count → meet_by rows i j ≡ false → (b : ℕ) → (has_at rows i b && has_at rows j b) ≡ false
both_set rows i j table row none b = elim (cases_lt b rows.bits) [
  | inl low ↦ false_from_ne_true _ (λ h. true≢false (sym (some_passes (λ k. has_at rows i k && has_at rows j k) b rows.bits low h) ∙ none))
  | inr high ↦ ap (λ t. t && has_at rows j b) (table.clear i b row high)
]

-- ---- what a table of a graph says

module _ (net : PlainNet) (rules : IsNet net) (ranks : ℕ) (g : PlainGraph) (rows : PlainRows) (is : IsTableOf net ranks g rows) where
  pub row_clear : (b : ℕ) → has_at rows 0 b ≡ false
  row_clear b =
      is.bits 0 b (omega arith)
      ∙ ap₂ (λ s t. s || t) (list_any-never (node_sets net g 0 b) (λ q. and-false _) (numbers_below (length g.nodes))) (list_any-never (step_sets net g 0 b) (λ t. and-false _) g.steps)

  abbrev bit : ℕ × Option ℕ → ℕ
  bit (r, None) = bit_of r r
  bit (r, Some peer) = bit_of r peer

  -- who has the rank
  abbrev Has : ℕ → ℕ → Type 0
  Has n b = (r : ℕ) × (peer : Option ℕ) × (is_site net r peer ≡ true) × (bit (r, peer) ≡ b) × (has_rank_in g r peer n ≡ true)

  has_from : (n b : ℕ) → n < ranks + 1 → has_at rows n b ≡ true → Has n b
  has_from n b low h = elim (cases_Bool (list_any (node_sets net g n b) (numbers_below (length g.nodes)))) [
    | inl some ↦ (
        let m = list_any_member (node_sets net g n b) (numbers_below (length g.nodes)) some in
        let q = m.0 in
        let r = place_of g q in
        let parts = and_parts (is_router net r) _ m.2 in
        let last = and_parts (nat_lt 0 n) _ parts.1 in
        let ends = and_parts (is_rank n (rank_at g q)) _ last.1 in
        (r, None, parts.0, sym (eqb-true _ _ ends.1), list_any-from_IsIn (tells_router g r n) (numbers_below (length g.nodes)) q m.1 (and_from _ _ (eq-eqb r r refl) ends.0)))
    | inr none ↦ (
        let some : list_any (step_sets net g n b) g.steps ≡ true = ap (λ t. t || list_any (step_sets net g n b) g.steps) (sym none) ∙ sym (is.bits n b low) ∙ h in
        let m = list_any_member (step_sets net g n b) g.steps some in
        let t = m.0 in
        let r = place_of g t.0 in
        let peer = place_of g t.1 in
        let parts = and_parts (is_router net r && is_peer net peer) _ m.2 in
        let last = and_parts (nat_lt 0 n) _ parts.1 in
        let ends = and_parts (is_rank n (rank_at g t.1)) _ last.1 in (
          r,
          Some peer,
          parts.0,
          sym (eqb-true _ _ ends.1),
          list_any-from_IsIn (tells_session g r peer n) g.steps t m.1 (and_from _ _ (and_from _ _ (eq-eqb r r refl) (eq-eqb peer peer refl)) ends.0),
        ))
  ]

  set_by : (n b : ℕ) → n < ranks + 1 → (list_any (node_sets net g n b) (numbers_below (length g.nodes)) || list_any (step_sets net g n b) g.steps) ≡ true → has_at rows n b ≡ true
  set_by n b low h = is.bits n b low ∙ h

  to_has : (n r : ℕ) (peer : Option ℕ) → 0 < n → n < ranks + 1 → is_site net r peer ≡ true → has_rank_in g r peer n ≡ true → has_at rows n (bit (r, peer)) ≡ true
  to_has n r None some low site h =
      let m = list_any_member (tells_router g r n) (numbers_below (length g.nodes)) h in
      let parts = and_parts (place_of g m.0 == r) _ m.2 in
      let at : place_of g m.0 ≡ r = eqb-true _ _ parts.0 in
      let b = bit_of r r in
      let same : bit_of r r ≡ bit_of (place_of g m.0) (place_of g m.0) = ap (λ l. bit_of l l) (sym at) in
      set_by n b low (or_left _ _ (list_any-from_IsIn (node_sets net g n b) (numbers_below (length g.nodes)) m.0 m.1
      (and_from _ _ (ap (is_router net) at ∙ site) (and_from _ _ (lt-ltb 0 n some) (and_from _ _ parts.1 (eq-eqb _ _ same))))))
  to_has n r (Some peer) some low site h =
      let m = list_any_member (tells_session g r peer n) g.steps h in
      let parts = and_parts (place_of g m.0.0 == r && place_of g m.0.1 == peer) _ m.2 in
      let ends = and_parts (place_of g m.0.0 == r) _ parts.0 in
      let from : place_of g m.0.0 ≡ r = eqb-true _ _ ends.0 in
      let to : place_of g m.0.1 ≡ peer = eqb-true _ _ ends.1 in
      let at = and_parts (is_router net r) _ site in
      let b = bit_of r peer in
      let same : bit_of r peer ≡ bit_of (place_of g m.0.0) (place_of g m.0.1) = ap₂ bit_of (sym from) (sym to) in
      set_by n b low (or_right _ _ (list_any-from_IsIn (step_sets net g n b) g.steps m.0 m.1
      (and_from _ _ (and_from _ _ (ap (is_router net) from ∙ at.0) (ap (is_peer net) to ∙ at.1)) (and_from _ _ (lt-ltb 0 n some) (and_from _ _ parts.1 (eq-eqb _ _ same))))))

  -- a router is below 512, and a location below 768
  router_low : (r : ℕ) → is_router net r ≡ true → r < length net.routers
  router_low r h = ltb-true _ _ h

  peer_low : (peer : ℕ) → is_peer net peer ≡ true → (length net.routers ≤ peer) × (peer < 768)
  peer_low peer h =
      let parts = and_parts (nat_le (length net.routers) peer) _ h in
      let low = ltb-true _ _ parts.1 in
      (leb-true _ _ parts.0, omega (arith, low, rules.routers, rules.peers))

  one_source : (r t : ℕ) (p q : Option ℕ) → is_site net r p ≡ true → is_site net t q ≡ true → bit (r, p) ≡ bit (t, q) → (r ≡ t) × (p ≡ q)
  one_source r t None None one other same = let e : r ≡ t = omega (arith, same) in (e, refl)
  one_source r t None (Some q) one other same =
      let parts = and_parts (is_router net t) _ other in
      let high = peer_low q parts.1 in
      absurd (omega (arith, same, router_low r one, router_low t parts.0, high.0, high.1, rules.routers))
  one_source r t (Some p) None one other same =
      let parts = and_parts (is_router net r) _ one in
      let high = peer_low p parts.1 in
      absurd (omega (arith, same, router_low t other, router_low r parts.0, high.0, high.1, rules.routers))
  one_source r t (Some p) (Some q) one other same =
      let first = peer_low p (and_parts (is_router net r) _ one).1 in
      let second = peer_low q (and_parts (is_router net t) _ other).1 in
      let e : r ≡ t = omega (arith, same, first.1, second.1) in
      let f : p ≡ q = omega (arith, same, first.1, second.1) in
      (e, ap Some f)

  bit_low : (r : ℕ) (peer : Option ℕ) → is_site net r peer ≡ true → bit (r, peer) < length net.routers * 768
  bit_low r None site = omega (arith, router_low r site, rules.routers)
  bit_low r (Some peer) site =
      let parts = and_parts (is_router net r) _ site in
      omega (arith, router_low r parts.0, (peer_low peer parts.1).1)

  pub table_meets : (i j : ℕ) → 0 < i → i < ranks + 1 → 0 < j → j < ranks + 1 → meet_by rows i j ≡ meet_in net (has_rank_in g) i j
  table_meets i j some_i low_i some_j low_j = same_tests _ _ there back
    where
      there : meet_by rows i j ≡ true → meet_in net (has_rank_in g) i j ≡ true
      there h =
          let m = list_any_member (λ b. has_at rows i b && has_at rows j b) (numbers_below rows.bits) h in
          let parts = and_parts (has_at rows i m.0) (has_at rows j m.0) m.2 in
          let x = has_from i m.0 low_i parts.0 in
          let y = has_from j m.0 low_j parts.1 in
          let one = one_source x.0 y.0 x.1 y.1 x.2 y.2 (x.3 ∙ sym y.3) in
          let also : has_rank_in g x.0 x.1 j ≡ true = ap₂ (λ r (p : Option ℕ). has_rank_in g r p j) one.0 one.1 ∙ y.4 in
          list_any-from_IsIn (meet_at (has_rank_in g) i j) (sites net) (x.0, x.1) (site_listed net x.0 x.1 x.2)
          (and_from (has_rank_in g x.0 x.1 i) (has_rank_in g x.0 x.1 j) x.4 also)

      back : meet_in net (has_rank_in g) i j ≡ true → meet_by rows i j ≡ true
      back h =
          let m = list_any_member (meet_at (has_rank_in g) i j) (sites net) h in
          let site = listed_site net m.0.0 m.0.1 m.1 in
          let parts = and_parts (has_rank_in g m.0.0 m.0.1 i) (has_rank_in g m.0.0 m.0.1 j) m.2 in
          let b = bit m.0 in
          some_passes (λ b. has_at rows i b && has_at rows j b) b rows.bits (omega (arith, bit_low m.0.0 m.0.1 site, is.size.bits))
          (and_from (has_at rows i b) (has_at rows j b) (to_has i m.0.0 m.0.1 some_i low_i site parts.0) (to_has j m.0.0 m.0.1 some_j low_j site parts.1))

-- ---- what is told of cases

pub same_everywhere : (f g : ℕ → ℕ → ℕ → Bool) → ((n i j : ℕ) → f n i j ≡ g n i j) → f ≡ g
same_everywhere f g same = λ k n i j. same n i j k

pub told_meets : (net : PlainNet) (ds : List PlainCaseEvidence) (xs : List Promises) → AreTold net ds xs → (number i j : ℕ)
    → meet_among net ds number i j ≡ ranks_meet net (cases_of ds) xs number i j
told_meets net [] xs told number i j = refl
told_meets net (d ∷ ds) [] told number i j = absurd told
told_meets net (d ∷ ds) (a ∷ xs) told number i j =
    let same : has_rank_in d.graph ≡ a.has_rank = ap (λ (b : Promises). b.has_rank) (sym told.0.2) in
    ap₂ (λ s t. s || t) (ap (λ (has : ℕ → Option ℕ → ℕ → Bool). d.case.statement == number && meet_in net has i j) same) (told_meets net ds xs told.1 number i j)

-- a pair of ranks that meet alike
pair_same : (f g : ℕ → ℕ → Bool) (number ranks : ℕ) → ((i j : ℕ) → 0 < i → i < ranks + 1 → 0 < j → j < ranks + 1 → f i j ≡ g i j)
    → (a b : ℕ) → a < ranks → b < ranks → apart_pair f number a b ≡ apart_pair g number a b
unfolding apart_pair
pair_same f g number ranks same a b low_a low_b =
    let one = same (a + 1) (a + 1) (omega arith) (omega (arith, low_a)) (omega arith) (omega (arith, low_a)) in
    let two = same (b + 1) (b + 1) (omega arith) (omega (arith, low_b)) (omega arith) (omega (arith, low_b)) in
    let both = same (a + 1) (b + 1) (omega arith) (omega (arith, low_a)) (omega arith) (omega (arith, low_b)) in
    ap (λ t. if t then record { statement = number; better = a + 1; worse = b + 1 } ∷ [] else [])
    (ap₂ (λ s t. nat_lt (a + 1) (b + 1) && s && t && not (f (a + 1) (b + 1))) one two ∙ ap (λ t. nat_lt (a + 1) (b + 1) && g (a + 1) (a + 1) && g (b + 1) (b + 1) && not t) both)

-- all pairs of them
pub pairs_same : (f g : ℕ → ℕ → Bool) (number ranks : ℕ) → ((i j : ℕ) → 0 < i → i < ranks + 1 → 0 < j → j < ranks + 1 → f i j ≡ g i j)
    → pairs_of f number ranks ≡ pairs_of g number ranks
pairs_same f g number ranks same = flat_map_same (pairs_with f number ranks) (pairs_with g number ranks) (numbers_below ranks) (λ a at_a.
    flat_map_same (apart_pair f number a) (apart_pair g number a) (numbers_below ranks) (λ b at_b.
    pair_same f g number ranks same a b (below_from_In a ranks at_a) (below_from_In b ranks at_b)))

pub few_pairs : (f : ℕ → ℕ → Bool) (number ranks : ℕ) → ranks < 2 → pairs_of f number ranks ≡ []
unfolding apart_pair
few_pairs f number zero few = refl
few_pairs f number (suc zero) few = refl
few_pairs f number (suc (suc n)) few = absurd (omega (arith, few))

-- ---- a test of two rows

still_none : (x y z : Bool) → (x && y) ≡ false → (x && (y && z)) ≡ false
still_none true true z none = absurd (true≢false none)
still_none true false z none = refl
still_none false y z none = refl

pub both_asked : (rows : PlainRows) (i j : ℕ) (r : Bool) → IsTable rows → i < rows.count → ((b : ℕ) → has_at rows 0 b ≡ false)
    → (r ≡ true → (k : ℕ) → (has_at rows i k && (has_at rows j k && not (has_at rows 0 k))) ≡ false)
    → (((k : ℕ) → (has_at rows i k && (has_at rows j k && not (has_at rows 0 k))) ≡ false) → r ≡ true) → not r ≡ meet_by rows i j
both_asked rows i j r table row clear none all = same_tests _ _ there back
  where
    there : not r ≡ true → meet_by rows i j ≡ true
    there h = elim (cases_Bool (meet_by rows i j)) [
      | inl t ↦ t
      | inr f ↦ absurd (true≢false (sym (all (λ k. still_none (has_at rows i k) (has_at rows j k) (not (has_at rows 0 k)) (both_set rows i j table row f k))) ∙ not-true r h))
    ]

    back : meet_by rows i j ≡ true → not r ≡ true
    back h = elim (cases_Bool r) [
      | inr f ↦ not_from_false r f
      | inl t ↦ (
          let m = list_any_member (λ b. has_at rows i b && has_at rows j b) (numbers_below rows.bits) h in
          let parts = and_parts (has_at rows i m.0) (has_at rows j m.0) m.2 in
          let yes = and_from (has_at rows i m.0) (has_at rows j m.0 && not (has_at rows 0 m.0)) parts.0 (and_from (has_at rows j m.0) (not (has_at rows 0 m.0)) parts.1 (ap not (clear m.0))) in
          absurd (true≢false (sym yes ∙ none t m.0)))
    ]
