-- How what is kept of the pairs stays so, one location after another.
use Rattle.std.proofs.Common.{◌≡◌, ◌⊎◌, ℕ, ◌+◌, ◌<◌, ◌≤◌, false, List, [], ◌∷◌, ◌++◌, length, Some, None, refl, sym, ap, ◌∙◌, subst, arith, inl, inr}
use Rattle.std.specs.Prelude.{◌&&◌, ◌==◌, slice_get}
use Rattle.std.specs.List.{list_any}
use Rattle.std.proofs.lemmas.Bool.{and_from, and_parts, cases_lt, eq-eqb, eqb-true, or_cases, or_left, or_right}
use Rattle.std.proofs.lemmas.List.{length-append}
use Rattle.std.proofs.lemmas.List.Folds.{list_any-append}
use Rattle.std.proofs.lemmas.Option.{slice_get_within}
use Rattle.list_law.proofs.Items.{from_front, slice_get-there}
use Rattle.list_law.proofs.Members.{list_any-from_IsIn}
use Rattle.pair_graph.specs.declared.pair.NodePair.{NodePair}
use Rattle.pair_graph.specs.Growth.{AreWalks, IsEarlier, IsExtended, IsFound, IsGrown, IsLink, Walks, finder, links}
use Rattle.pair_graph.specs.Nexts.{AreNexts, AreNextsBelow}
use Rattle.pair_graph.specs.Ways.{IsCut}
use Rattle.pair_graph.proofs.Nexts.{at_place, nexts_between, nexts_from}

-- ---- one step more

pub links_old : (steps : List (ℕ × ℕ)) (s : ℕ × ℕ) (m n : ℕ) → links steps m n → links (steps ++ s ∷ []) m n
links_old steps s m n h = list_any-append (λ (t : ℕ × ℕ). t.0 == m && t.1 == n) steps (s ∷ []) ∙ or_left _ _ h

pub links_new : (steps : List (ℕ × ℕ)) (m n : ℕ) → links (steps ++ (m, n) ∷ []) m n
links_new steps m n =
    list_any-append (λ (t : ℕ × ℕ). t.0 == m && t.1 == n) steps ((m, n) ∷ [])
    ∙ or_right (list_any (λ (t : ℕ × ℕ). t.0 == m && t.1 == n) steps) _ (or_left (m == m && n == n) false (and_from _ _ (eq-eqb m m refl) (eq-eqb n n refl)))

pub links_cases : (steps : List (ℕ × ℕ)) (k t m n : ℕ) → links (steps ++ (k, t) ∷ []) m n → links steps m n ⊎ ((m ≡ k) × (n ≡ t))
links_cases steps k t m n h =
    elim (or_cases _ _ (sym (list_any-append (λ (s : ℕ × ℕ). s.0 == m && s.1 == n) steps ((k, t) ∷ [])) ∙ h)) [
      | inl old ↦ inl old
      | inr new ↦ elim (or_cases (k == m && t == n) false new) [
        | inl is ↦ (let parts = and_parts (k == m) (t == n) is in inr (sym (eqb-true k m parts.0), sym (eqb-true t n parts.1)))
        | inr never ↦ absurd cc
      ]
    ]

-- ---- what was asked was asked before what comes next

pub earlier_next : (m i k l : ℕ) → IsEarlier m i k l → IsEarlier m i k (l + 1)
earlier_next m i k l (inl lt) = inl lt
earlier_next m i k l (inr e) = inr (e.0, omega (arith, e.1))

earlier_over : (m i k l c : ℕ) → l ≤ c → IsEarlier m i k l → IsEarlier m i k c
earlier_over m i k l c le (inl lt) = inl lt
earlier_over m i k l c le (inr e) = inr (e.0, omega (arith, e.1, le))

-- what was asked between two locations is new
earlier_between : (m i k l c : ℕ) → IsEarlier m i k c → IsEarlier m i k l ⊎ ((m ≡ k) × (l ≤ i) × (i < c))
earlier_between m i k l c (inl lt) = inl (inl lt)
earlier_between m i k l c (inr e) = elim (cases_lt i l) [
  | inl lt ↦ inl (inr (e.0, lt))
  | inr ge ↦ inr (e.0, ge, e.1)
]

pub earlier_turn : (m i k l : ℕ) → IsEarlier m i k l → IsEarlier m i (k + 1) 0
earlier_turn m i k l (inl lt) = inl (omega (arith, lt))
earlier_turn m i k l (inr e) = inl (omega (arith, e.0))

pub earlier_within : (m i k l : ℕ) → IsEarlier m i k l → m ≤ k
earlier_within m i k l (inl lt) = omega (arith, lt)
earlier_within m i k l (inr e) = omega (arith, e.0)

-- the last that was asked is new
earlier_last : (m i k l : ℕ) → IsEarlier m i k (l + 1) → IsEarlier m i k l ⊎ ((m ≡ k) × (i ≡ l))
earlier_last m i k l (inl lt) = inl (inl lt)
earlier_last m i k l (inr e) = elim (cases_lt i l) [
  | inl lt ↦ inl (inr (e.0, lt))
  | inr ge ↦ inr (e.0, omega (arith, e.1, ge))
]

link_later : (w : Walks) (pairs : List NodePair) (k l j i m n : ℕ) → ((a b : ℕ) → IsEarlier a b k l → IsEarlier a b j i) → IsLink w pairs k l m n → IsLink w pairs j i m n
link_later w pairs k l j i m n later link = record { from = link.from; to = link.to; at_from = link.at_from; at_to = link.at_to; goes = link.goes; asked = later m link.to.place link.asked }

found_later : (w : Walks) (before : List ℕ) (steps : List (ℕ × ℕ)) (k l j i n : ℕ) (y : NodePair) → ((a b : ℕ) → IsEarlier a b k l → IsEarlier a b j i)
    → IsFound w before steps k l n y → IsFound w before steps j i n y
found_later w before steps k l j i n y later found = record { step = found.step; less = found.less; asked = later (finder before n) y.place found.asked; least = found.least }

-- ---- at the next location

module _ (w : Walks) (starts : ℕ) (pairs : List NodePair) (before : List ℕ) (steps : List (ℕ × ℕ)) (k l : ℕ) (is : IsGrown w starts pairs before steps k l) where
  -- the pair k doesn't go on up to there
  grown_over : (x : NodePair) (c : ℕ) → slice_get pairs k ≡ Some x → l ≤ c → ((i : ℕ) → l ≤ i → i < c → w.next x i ≡ None) → IsGrown w starts pairs before steps k c
  grown_over x c at le none = record {
    few = is.few;
    size = is.size;
    begun = is.begun;
    start = is.start;
    all_starts = is.all_starts;
    start_order = is.start_order;
    link = λ m n h. link_later w pairs k l k c m n (λ a b. earlier_over a b k l c le) (is.link m n h);
    all_links = links_there;
    found = λ n y ge got. found_later w before steps k l k c n y (λ a b. earlier_over a b k l c le) (is.found n y ge got);
    apart = is.apart;
    steps_order = is.steps_order;
    order = is.order;
  }
    where
      links_there : (m i : ℕ) (z y : NodePair) → slice_get pairs m ≡ Some z → IsEarlier m i k c → w.next z i ≡ Some y → (n : ℕ) × links steps m n × (slice_get pairs n ≡ Some y)
      links_there m i z y got asked goes = elim (earlier_between m i k l c asked) [
        | inl old ↦ is.all_links m i z y got old goes
        | inr last ↦ absurd (
            let same : Some x ≡ Some z = sym at ∙ ap (slice_get pairs) (sym last.0) ∙ got in
            let one : x ≡ z = cc in
            let gone : w.next z i ≡ None = subst (λ p. w.next p i ≡ None) one (none i last.1 last.2) in
            cc)
      ]

  -- it was asked up to the next one to which it goes on
  pub grown_upto : (x : NodePair) (nexts : List NodePair) (i : ℕ) (y : NodePair) → AreWalks w → slice_get pairs k ≡ Some x → AreNexts (w.next x) nexts → IsCut at_place nexts l i
      → slice_get nexts i ≡ Some y → IsGrown w starts pairs before steps k y.place
  grown_upto x nexts i y walks at are cut item =
      grown_over x y.place at (nexts_from (w.next x) (walks.steps x) nexts are l i y cut item) (nexts_between (w.next x) (walks.steps x) nexts are l i y cut item)

  -- the pair k was asked at all locations
  pub grown_turn : (x : NodePair) → slice_get pairs k ≡ Some x → ((i : ℕ) (y : NodePair) → w.next x i ≡ Some y → i < l) → IsGrown w starts pairs before steps (k + 1) 0
  grown_turn x at within = record {
    few = is.few;
    size = is.size;
    begun = is.begun;
    start = is.start;
    all_starts = is.all_starts;
    start_order = is.start_order;
    link = λ m n h. link_later w pairs k l (k + 1) 0 m n (λ a b. earlier_turn a b k l) (is.link m n h);
    all_links = links_there;
    found = λ n y ge got. found_later w before steps k l (k + 1) 0 n y (λ a b. earlier_turn a b k l) (is.found n y ge got);
    apart = is.apart;
    steps_order = is.steps_order;
    order = is.order;
  }
    where
      links_there : (m i : ℕ) (z y : NodePair) → slice_get pairs m ≡ Some z → IsEarlier m i (k + 1) 0 → w.next z i ≡ Some y → (n : ℕ) × links steps m n × (slice_get pairs n ≡ Some y)
      links_there m i z y got (inl lt) goes = elim (cases_lt m k) [
        | inl less ↦ is.all_links m i z y got (inl less) goes
        | inr ge ↦ (
            let here : m ≡ k = omega (arith, lt, ge) in
            let same : Some z ≡ Some x = sym got ∙ ap (slice_get pairs) here ∙ at in
            let one : z ≡ x = cc in
            is.all_links m i z y got (inr (here, within i y (subst (λ p. w.next p i ≡ Some y) one goes))) goes)
      ]
      links_there m i z y got (inr e) goes = absurd (omega (arith, e.1))

  -- the pair k goes on there, to y with the number t
  module _ (x y : NodePair) (t : ℕ) (more : List NodePair) (later : List ℕ) (at : slice_get pairs k ≡ Some x) (goes : w.next x l ≡ Some y) (stands : y.place ≡ l)
      (ext : IsExtended pairs before k y t more later) where
    abbrev pub after : List (ℕ × ℕ)
    after = steps ++ (k, t) ∷ []

    low : k < length pairs
    low = slice_get_within pairs k x at

    old_pair : (n : ℕ) (z : NodePair) → n < length pairs → slice_get more n ≡ Some z → slice_get pairs n ≡ Some z
    old_pair n z lt got = elim (ext.new n z got) [
      | inl old ↦ old
      | inr new ↦ absurd (omega (arith, lt, new.0))
    ]

    target_inside : (m n : ℕ) → links steps m n → n < length pairs
    target_inside m n h = let link = is.link m n h in slice_get_within pairs n link.to link.at_to

    link_there : (m n : ℕ) → links after m n → IsLink w more k (l + 1) m n
    link_there m n h = elim (links_cases steps k t m n h) [
      | inl old ↦ (
          let link = is.link m n old in
          record {
            from = link.from;
            to = link.to;
            at_from = ext.kept m link.from link.at_from;
            at_to = ext.kept n link.to link.at_to;
            goes = link.goes;
            asked = earlier_next m link.to.place k l link.asked;
          })
      | inr new ↦ record {
        from = x;
        to = y;
        at_from = ap (slice_get more) new.0 ∙ ext.kept k x at;
        at_to = ap (slice_get more) new.1 ∙ ext.number;
        goes = ap (w.next x) stands ∙ goes;
        asked = inr (new.0, omega (arith, stands));
      }
    ]

    links_there : (m i : ℕ) (z u : NodePair) → slice_get more m ≡ Some z → IsEarlier m i k (l + 1) → w.next z i ≡ Some u → (n : ℕ) × links after m n × (slice_get more n ≡ Some u)
    links_there m i z u got asked goes_on =
        let inside : m < length pairs = omega (arith, earlier_within m i k (l + 1) asked, low) in
        let old = old_pair m z inside got in
        elim (earlier_last m i k l asked) [
          | inl before_it ↦ (
              let known = is.all_links m i z u old before_it goes_on in
              (known.0, links_old steps (k, t) m known.0 known.1, ext.kept known.0 u known.2))
          | inr last ↦ (
              let same : Some x ≡ Some z = sym at ∙ ap (slice_get pairs) (sym last.0) ∙ old in
              let one : x ≡ z = cc in
              let both : Some y ≡ Some u = sym goes ∙ ap (λ p. w.next p l) one ∙ ap (w.next z) (sym last.1) ∙ goes_on in
              (t, subst (λ j. links after j t) (sym last.0) (links_new steps k t), ext.number ∙ both))
        ]

    found_there : (n : ℕ) (z : NodePair) → starts ≤ n → slice_get more n ≡ Some z → IsFound w later after k (l + 1) n z
    found_there n z ge got = elim (ext.new n z got) [
      | inl old ↦ (
          let was = is.found n z ge old in
          let same : finder later n ≡ finder before n = ext.finders n (slice_get_within pairs n z old) in
          record {
            step = subst (λ j. links after j n) (sym same) (links_old steps (k, t) (finder before n) n was.step);
            less = subst (λ j. j < n) (sym same) was.less;
            asked = subst (λ j. IsEarlier j z.place k (l + 1)) (sym same) (earlier_next (finder before n) z.place k l was.asked);
            least = λ m h. subst (λ j. j ≤ m) (sym same) (elim (links_cases steps k t m n h) [
              | inl link ↦ was.least m link
              | inr new ↦ (let within = earlier_within (finder before n) z.place k l was.asked in omega (arith, within, new.0))
            ]);
          })
      | inr new ↦ (
          let same : finder later n ≡ k = new.3 in
          record {
            step = subst (λ j. links after j n) (sym same) (subst (links after k) (sym new.2) (links_new steps k t));
            less = omega (arith, same, low, new.0);
            asked = inr (same, (let here : z.place ≡ l = ap at_place new.1 ∙ stands in omega (arith, here)));
            least = λ m h. elim (links_cases steps k t m n h) [
              | inl link ↦ absurd (omega (arith, target_inside m n link, new.0))
              | inr is_new ↦ omega (arith, same, is_new.0)
            ];
          })
    ]

    order_there : (m n : ℕ) (u z : NodePair) → starts ≤ m → m < n → slice_get more m ≡ Some u → slice_get more n ≡ Some z
        → IsEarlier (finder later m) u.place (finder later n) z.place
    order_there m n u z ge lt got_m got_n = elim (ext.new n z got_n) [
      | inl old ↦ (
          let inside : m < length pairs = omega (arith, lt, slice_get_within pairs n z old) in
          let was = is.order m n u z ge lt (old_pair m u inside got_m) old in
          subst (λ j. IsEarlier j u.place (finder later n) z.place) (sym (ext.finders m inside))
          (subst (λ j. IsEarlier (finder before m) u.place j z.place) (sym (ext.finders n (slice_get_within pairs n z old))) was))
      | inr new ↦ (
          let inside : m < length pairs = omega (arith, lt, new.0) in
          let was = is.found m u ge (old_pair m u inside got_m) in
          subst (λ j. IsEarlier j u.place (finder later n) z.place) (sym (ext.finders m inside))
          (subst (λ j. IsEarlier (finder before m) u.place j z.place) (sym new.3)
          (subst (λ i. IsEarlier (finder before m) u.place k i) (sym (ap at_place new.1 ∙ stands)) was.asked)))
    ]

    apart_there : (m n : ℕ) (z : NodePair) → slice_get more m ≡ Some z → slice_get more n ≡ Some z → m ≡ n
    apart_there m n z got_m got_n = elim (ext.new m z got_m) [
      | inl old_m ↦ (elim (ext.new n z got_n) [
        | inl old_n ↦ is.apart m n z old_m old_n
        | inr new_n ↦ absurd (new_n.4 m old_m)
      ])
      | inr new_m ↦ (elim (ext.new n z got_n) [
        | inl old_n ↦ absurd (new_m.4 n old_n)
        | inr new_n ↦ omega (arith, new_m.0, new_n.0)
      ])
    ]

    old_link : (i : ℕ) (s : ℕ × ℕ) → slice_get steps i ≡ Some s → links steps s.0 s.1
    old_link i s got = list_any-from_IsIn (λ (t : ℕ × ℕ). t.0 == s.0 && t.1 == s.1) steps s (i, got) (and_from _ _ (eq-eqb s.0 s.0 refl) (eq-eqb s.1 s.1 refl))

    steps_there : (i j : ℕ) (s u : ℕ × ℕ) (a z : NodePair) → i < j → slice_get after i ≡ Some s → slice_get after j ≡ Some u → slice_get more s.1 ≡ Some a → slice_get more u.1 ≡ Some z
        → IsEarlier s.0 a.place u.0 z.place
    steps_there i j s u a z lt got_s got_u at_a at_z =
        let longer = length-append steps ((k, t) ∷ []) in
        let last : j < length after = slice_get_within after j u got_u in
        let old_s : slice_get steps i ≡ Some s = from_front steps ((k, t) ∷ []) i s got_s (omega (arith, lt, last, longer)) in
        let link = is.link s.0 s.1 (old_link i s old_s) in
        let old_a = old_pair s.1 a (slice_get_within pairs s.1 link.to link.at_to) at_a in
        elim (cases_lt j (length steps)) [
          | inl less ↦ (
              let old_u : slice_get steps j ≡ Some u = from_front steps ((k, t) ∷ []) j u got_u less in
              let to = is.link u.0 u.1 (old_link j u old_u) in
              is.steps_order i j s u a z lt old_s old_u old_a (old_pair u.1 z (slice_get_within pairs u.1 to.to to.at_to) at_z))
          | inr ge ↦ (
              let here : j ≡ length steps = omega (arith, ge, last, longer) in
              let item : Some u ≡ Some (k, t) = sym got_u ∙ ap (slice_get after) here ∙ slice_get-there steps (k, t) [] in
              let is_last : u ≡ (k, t) = cc in
              let both : Some z ≡ Some y = sym at_z ∙ ap (λ (v : ℕ × ℕ). slice_get more v.1) is_last ∙ ext.number in
              let same : z ≡ y = cc in
              let one : Some link.to ≡ Some a = sym link.at_to ∙ old_a in
              let first : link.to ≡ a = cc in
              subst (λ n. IsEarlier s.0 a.place n z.place) (sym (ap (λ (v : ℕ × ℕ). v.0) is_last))
              (subst (λ p. IsEarlier s.0 a.place k p) (sym (ap at_place same ∙ stands)) (subst (λ (p : NodePair). IsEarlier s.0 p.place k l) first link.asked)))
        ]

    pub grown_step : IsGrown w starts more later after k (l + 1)
    grown_step = record {
      few = ext.few;
      size = ext.size;
      begun = omega (arith, is.begun, ext.longer);
      start = λ n z lt got. is.start n z lt (old_pair n z (omega (arith, lt, is.begun)) got);
      all_starts = λ i z h. (let known = is.all_starts i z h in (known.0, known.1, ext.kept known.0 z known.2));
      start_order = λ m n u z lt below got_m got_n.
          is.start_order m n u z lt below (old_pair m u (omega (arith, lt, below, is.begun)) got_m) (old_pair n z (omega (arith, below, is.begun)) got_n);
      link = link_there;
      all_links = links_there;
      found = found_there;
      apart = apart_there;
      steps_order = steps_there;
      order = order_there;
    }

-- ---- starts

-- all starts were found, and no pair was asked yet
pub grown_first : (w : Walks) (pairs : List NodePair) (before : List ℕ) → AreWalks w → length pairs ≤ 4294967000 → length before ≡ length pairs → AreNexts w.start pairs
    → IsGrown w (length pairs) pairs before [] 0 0
grown_first w pairs before walks few size begun = record {
  few = few;
  size = size;
  begun = omega arith;
  start = λ n x lt got. begun.sound n x got;
  all_starts = λ i x h. (let known = begun.all i x h in (known.0, slice_get_within pairs known.0 x known.1, known.1));
  start_order = λ m n x y lt below. begun.order m n x y lt;
  link = λ m n h. absurd cc;
  all_links = λ m i x y got asked goes. absurd (elim asked [ inl lt ↦ omega (arith, lt) | inr e ↦ omega (arith, e.1) ]);
  found = λ n y ge got. absurd (omega (arith, ge, slice_get_within pairs n y got));
  apart = λ m n x got_m got_n. elim (cases_lt m n) [
    | inl less ↦ absurd (let before_it = begun.order m n x x less got_m got_n in omega (arith, before_it))
    | inr ge ↦ elim (cases_lt n m) [
      | inl more ↦ absurd (let before_it = begun.order n m x x more got_n got_m in omega (arith, before_it))
      | inr le ↦ omega (arith, ge, le)
    ]
  ];
  steps_order = λ i j s t y z lt got_s got_t at_y at_z. absurd cc;
  order = λ m n y z ge lt got_m got_n. absurd (omega (arith, ge, lt, slice_get_within pairs n z got_n));
}

pub grown_begun : (w : Walks) (starts : ℕ) (pairs : List NodePair) (before : List ℕ) (steps : List (ℕ × ℕ)) → AreWalks w → length pairs ≤ 4294967000 → length before ≡ length pairs → AreNexts w.start pairs
    → starts ≡ length pairs → steps ≡ [] → IsGrown w starts pairs before steps 0 0
grown_begun w starts pairs before steps walks few size begun all none =
    subst (λ s. IsGrown w s pairs before steps 0 0) (sym all) (subst (λ xs. IsGrown w (length pairs) pairs before xs 0 0) (sym none) (grown_first w pairs before walks few size begun))

-- one more start
pub begun_step : (w : Walks) (pairs more : List NodePair) (before later : List ℕ) (l t : ℕ) (y : NodePair) → AreNextsBelow w.start pairs l → w.start l ≡ Some y → y.place ≡ l
    → IsExtended pairs before 0 y t more later → AreNextsBelow w.start more (l + 1)
begun_step w pairs more before later l t y is starts stands ext = record {
  sound = λ n x got. elim (ext.new n x got) [
    | inl old ↦ (let known = is.sound n x old in (known.0, omega (arith, known.1)))
    | inr new ↦ (
        let here : x.place ≡ l = ap at_place new.1 ∙ stands in
        (ap w.start here ∙ starts ∙ ap Some (sym new.1), omega (arith, here)))
  ];
  all = λ i x lt h. elim (cases_lt i l) [
    | inl less ↦ (let known = is.all i x less h in (known.0, ext.kept known.0 x known.1))
    | inr ge ↦ (
        let here : i ≡ l = omega (arith, lt, ge) in
        let both : Some y ≡ Some x = sym starts ∙ ap w.start (sym here) ∙ h in
        (t, ext.number ∙ both))
  ];
  order = λ m n x z lt got_m got_n. elim (ext.new n z got_n) [
    | inl old ↦ (elim (ext.new m x got_m) [
      | inl was ↦ is.order m n x z lt was old
      | inr new ↦ absurd (omega (arith, lt, new.0, slice_get_within pairs n z old))
    ])
    | inr new ↦ (elim (ext.new m x got_m) [
      | inl was ↦ (let here : z.place ≡ l = ap at_place new.1 ∙ stands in omega (arith, here, (is.sound m x was).1))
      | inr also ↦ absurd (omega (arith, lt, new.0, also.0))
    ])
  ];
}
