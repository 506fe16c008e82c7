-- A search that takes finished rows over finds what the lists lead to.
use Rattle.std.proofs.Common.{◌≡◌, ◌≢◌, ℕ, ◌+◌, ◌<◌, Bool, true, false, cond, not, ◌&&◌, ◌||◌, eqb, List, [], ◌∷◌, ◌++◌, length, refl, sym, ap, ◌∙◌, inl, inr, ◌⊎◌, ◌↔◌, arith, ltb, vec_len}
use Rattle.std.proofs.lemmas.Bool.{cases_Bool, cases_eq, cases_lt, or_cases, or_left, or_parts, or_right, and_from, and_parts, not_from_false, not-true, both_ways}
use Rattle.std.proofs.lemmas.Bool.{eqb-true, eq-eqb, cond-true, cond-false, ltb-true, lt-ltb, le-ltb, ne_eqb}
use Rattle.std.specs.List.{count_by, range_with_len}
use Rattle.std.proofs.Math.Bool.{or-false, and-false}
use Rattle.bit_rows.specs.Tables.{IsSameSize, has_at}
use Rattle.reach_prune.specs.declared.steps.Way.{Way}
use Rattle.reach_prune.specs.declared.steps.Way.TheVariants.{Forward, Backward}
use Rattle.reach_prune.specs.declared.sweep.Sweep.{Sweep}
use Rattle.reach_prune.specs.Searches.{AreLists, is_among, is_listed, Leads}
use Rattle.reach_prune.specs.Sweeps.{Comes, Swept}
use Rattle.reach_prune.specs.Ways.{nth}
use Rattle.reach_prune.proofs.Trails.{chain_more, complete, leads_below, leads_on, waited}
use Rattle.reach_prune.proofs.Work.{count_le, count_lt}

-- The search from a node has come some way: what it found the lists lead to, and what is listed behind that is found too, but
-- for nodes that wait and those that are open.
pub record Stage (lists : List (List ℕ)) (done : ℕ → Bool) (node : ℕ) (Open : ℕ → Type 0) (s : Sweep) : Type 0 where
  pub count : s.rows.count ≡ length lists
  pub bits : s.rows.bits ≡ length lists
  pub finished : (a b : ℕ) → a < length lists → done a ≡ true → (has_at s.rows a b ≡ true) ↔ Leads lists a b
  pub clear : (a b : ℕ) → a < length lists → a ≢ node → done a ≡ false → has_at s.rows a b ≡ false
  pub own : has_at s.rows node node ≡ true
  pub waits : (n : ℕ) → is_among s.waiting.items n ≡ true → has_at s.rows node n ≡ true
  pub sound : (n : ℕ) → has_at s.rows node n ≡ true → Leads lists node n
  pub closed : (a b : ℕ) → has_at s.rows node a ≡ true → is_listed lists a b ≡ true → (has_at s.rows node b ≡ true) ⊎ ((is_among s.waiting.items a ≡ true) ⊎ Open a)

module _ (lists : List (List ℕ)) (done : ℕ → Bool) (node at : ℕ) (old mid : Sweep) (s : Stage lists done node (λ a. ⊥) old)
    (rows : mid.rows ≡ old.rows) (pop : old.waiting.items ≡ mid.waiting.items ++ at ∷ []) where
  same : (a b : ℕ) → has_at mid.rows a b ≡ has_at old.rows a b
  same a b = ap (λ r. has_at r a b) rows

  pub popped_found : has_at mid.rows node at ≡ true
  popped_found = same node at ∙ s.waits at (waited _ mid.waiting.items at at pop ∙ or_right _ _ (eq-eqb at at refl))

  -- the node that waited last is open
  pub popped : Stage lists done node (λ a. a ≡ at) mid
  popped = record {
    count = ap (λ r. r.count) rows ∙ s.count;
    bits = ap (λ r. r.bits) rows ∙ s.bits;
    finished = λ a b la d. (λ h. (s.finished a b la d).0 (sym (same a b) ∙ h), λ l. same a b ∙ (s.finished a b la d).1 l);
    clear = λ a b la ne d. same a b ∙ s.clear a b la ne d;
    own = same node node ∙ s.own;
    waits = λ n h. same node n ∙ s.waits n (waited _ mid.waiting.items at n pop ∙ or_left _ (eqb at n) h);
    sound = λ n h. s.sound n (sym (same node n) ∙ h);
    closed = λ a b h l. elim (s.closed a b (sym (same node a) ∙ h) l) [
      | inl f ↦ inl (same node b ∙ f)
      | inr o ↦ elim o [
        | inl w ↦ elim (or_cases _ _ (sym (waited _ mid.waiting.items at a pop) ∙ w)) [ inl r ↦ inr (inl r) | inr e ↦ inr (inr (sym (eqb-true at a e))) ]
        | inr never ↦ absurd never
      ]
    ];
  }

-- it is one of the nodes
pub open_below : (lists : List (List ℕ)) (done : ℕ → Bool) (node at : ℕ) (old mid : Sweep) → Stage lists done node (λ a. ⊥) old → mid.rows ≡ old.rows
    → old.waiting.items ≡ mid.waiting.items ++ at ∷ [] → AreLists lists → node < length lists → at < length lists
open_below lists done node at old mid s rows pop are ln =
    let led = s.sound at (sym (ap (λ r. has_at r node at) rows) ∙ popped_found lists done node at old mid s rows pop) in
    leads_below lists are node at led.0 ln led.1

module _ (lists : List (List ℕ)) (done : ℕ → Bool) (node at next : ℕ) (old new : Sweep) (s : Stage lists done node (λ a. a ≡ at) old)
    (c : Comes node next (done next) old new) (found : has_at old.rows node at ≡ true)
    (listed : is_listed lists at next ≡ true) (ln : node < length lists) (lx : next < length lists) (undone : done node ≡ false) where
  pub still_found : (b : ℕ) → has_at old.rows node b ≡ true → has_at new.rows node b ≡ true
  still_found b h = c.row b ∙ or_left _ _ h

  reached : Leads lists node next
  reached = let l = s.sound at found in (l.0 ++ next ∷ [], chain_more lists node at next l.0 l.1 listed)

  -- what is new in the row
  fresh : ℕ → Bool
  fresh b = cond (done next) (has_at old.rows next b) (eqb b next)

  fresh_itself : fresh next ≡ true
  unfolding fresh
  fresh_itself = elim (cases_Bool (done next)) [
    | inl d ↦ cond-true (done next) _ _ d ∙ (s.finished next next lx d).1 ([], refl)
    | inr d ↦ cond-false (done next) _ _ d ∙ eq-eqb next next refl
  ]

  pub next_found : has_at new.rows node next ≡ true
  unfolding fresh
  next_found = elim (cases_Bool (has_at old.rows node next)) [
    | inl h ↦ still_found next h
    | inr h ↦ c.row next ∙ or_right _ _ (and_from _ _ (not_from_false _ h) fresh_itself)
  ]

  other : (a : ℕ) → a < length lists → done a ≡ true → a ≢ node
  other a la d e = both_ways _ undone (ap done (sym e) ∙ d)

  others : (a b : ℕ) → a < length lists → a ≢ node → has_at new.rows a b ≡ has_at old.rows a b
  others a b la ne = c.others a b (omega (arith, s.count, la)) ne

  -- a node that is new leads on
  fresh_closed : (a b : ℕ) → has_at old.rows node next ≡ false → fresh a ≡ true → is_listed lists a b ≡ true → (has_at new.rows node b ≡ true) ⊎ (is_among new.waiting.items a ≡ true)
  unfolding fresh
  fresh_closed a b h f l = elim (cases_Bool (done next)) [
    | inl d ↦ (
        let to : Leads lists next a = (s.finished next a lx d).0 (sym (cond-true (done next) _ _ d) ∙ f) in
        let behind : has_at old.rows next b ≡ true = (s.finished next b lx d).1 (to.0 ++ b ∷ [], chain_more lists next a b to.0 to.1 l) in
        inl (c.row b ∙ or_right _ _ (and_from _ _ (not_from_false _ h) (cond-true (done next) _ _ d ∙ behind))))
    | inr d ↦ inr (c.waiting a ∙ or_right _ _ (and_from _ _ (not_from_false _ h) (and_from _ _ (not_from_false _ d) (sym (cond-false (done next) _ _ d) ∙ f))))
  ]

  fresh_sound : (n : ℕ) → fresh n ≡ true → Leads lists node n
  unfolding fresh
  fresh_sound n f = elim (cases_Bool (done next)) [
    | inl d ↦ leads_on lists node next n reached ((s.finished next n lx d).0 (sym (cond-true (done next) _ _ d) ∙ f))
    | inr d ↦ rw (eqb-true n next (sym (cond-false (done next) _ _ d) ∙ f)) reached
  ]

  pub come : Stage lists done node (λ a. a ≡ at) new
  unfolding fresh
  come = record {
    count = c.size.count ∙ s.count;
    bits = c.size.bits ∙ s.bits;
    finished = λ a b la d. (let e = others a b la (other a la d) in (λ h. (s.finished a b la d).0 (sym e ∙ h), λ l. e ∙ (s.finished a b la d).1 l));
    clear = λ a b la ne d. others a b la ne ∙ s.clear a b la ne d;
    own = still_found node s.own;
    waits = λ n h. elim (or_cases _ _ (sym (c.waiting n) ∙ h)) [
      | inl w ↦ still_found n (s.waits n w)
      | inr f ↦
          (let parts = and_parts (not (has_at old.rows node next)) _ f in
          let last = and_parts (not (done next)) (eqb n next) parts.1 in
          ap (has_at new.rows node) (eqb-true n next last.1) ∙ next_found)
    ];
    sound = λ n h. elim (or_cases _ _ (sym (c.row n) ∙ h)) [
      | inl o ↦ s.sound n o
      | inr f ↦ fresh_sound n (and_parts (not (has_at old.rows node next)) _ f).1
    ];
    closed = λ a b h l. elim (or_cases _ _ (sym (c.row a) ∙ h)) [
      | inl o ↦ elim (s.closed a b o l) [
        | inl f ↦ inl (still_found b f)
        | inr p ↦ elim p [ inl w ↦ inr (inl (c.waiting a ∙ or_left _ _ w)) | inr e ↦ inr (inr e) ]
      ]
      | inr f ↦ (let parts = and_parts (not (has_at old.rows node next)) _ f in elim (fresh_closed a b (not-true _ parts.0) parts.1 l) [ inl g ↦ inl g | inr w ↦ inr (inl w) ])
    ];
  }

-- once all that is listed behind it is found, the open node is open no more
pub close : (lists : List (List ℕ)) (done : ℕ → Bool) (node at : ℕ) (s : Sweep) → Stage lists done node (λ a. a ≡ at) s
    → ((b : ℕ) → is_listed lists at b ≡ true → has_at s.rows node b ≡ true) → Stage lists done node (λ a. ⊥) s
close lists done node at s t all = record {
  count = t.count;
  bits = t.bits;
  finished = t.finished;
  clear = t.clear;
  own = t.own;
  waits = t.waits;
  sound = t.sound;
  closed = λ a b h l. elim (t.closed a b h l) [
    | inl f ↦ inl f
    | inr o ↦ elim o [ inl w ↦ inr (inl w) | inr e ↦ inl (all b (ap (λ x. is_listed lists x b) (sym e) ∙ l)) ]
  ];
}

pub nth_twice : (way : Way) (size a : ℕ) → a < size → nth way size (nth way size a) ≡ a
nth_twice Forward size a lt = omega arith
nth_twice Backward size a lt = refl

pub nth_below : (way : Way) (size a : ℕ) → a < size → nth way size a < size
nth_below Forward size a lt = omega arith
nth_below Backward size a lt = lt

-- where nothing waits the row is finished
pub swept_more : (way : Way) (lists : List (List ℕ)) (place : ℕ) (s new : Sweep) → new.rows ≡ s.rows → new.waiting.items ≡ [] → place < length lists
    → Stage lists (λ a. ltb (nth way (length lists) a) place) (nth way (length lists) place) (λ a. ⊥) s → s.waiting.items ≡ []
    → Swept way lists (place + 1) new
swept_more way lists place s new same ended lp t idle =
    let node : ℕ = nth way (length lists) place in
    let back : nth way (length lists) node ≡ place = nth_twice way (length lists) place lp in
    let kept : (a b : ℕ) → has_at new.rows a b ≡ has_at s.rows a b = λ a b. ap (λ r. has_at r a b) same in
    record {
      count = ap (λ r. r.count) same ∙ t.count;
      bits = ap (λ r. r.bits) same ∙ t.bits;
      idle = ended;
      finished = λ a b la before. elim (cases_eq a node) [
        | inl e ↦ (
          λ h. rw e (t.sound b (ap (λ x. has_at s.rows x b) (sym e) ∙ sym (kept a b) ∙ h)),
          λ l. (let from : Leads lists node b = rw (sym e) l in
              kept a b ∙ ap (λ x. has_at s.rows x b) e ∙ complete lists (has_at s.rows node) (λ x y m listed. elim (t.closed x y m listed) [
                | inl f ↦ f
                | inr o ↦ elim o [ inl w ↦ absurd (both_ways _ (ap (λ l. is_among l x) idle) w) | inr never ↦ absurd never ]
              ]) node b from.0 t.own from.1),
        )
        | inr ne ↦ (
            let apart : nth way (length lists) a ≢ place = λ e. ne (sym (nth_twice way (length lists) a la) ∙ ap (nth way (length lists)) e) in
            let done = lt-ltb _ _ (omega arith) in
            (λ h. (t.finished a b la done).0 (sym (kept a b) ∙ h), λ l. kept a b ∙ (t.finished a b la done).1 l))
      ];
      clear = λ a b la after. kept a b ∙ t.clear a b la (λ e. let at : nth way (length lists) a ≡ place = ap (nth way (length lists)) e ∙ back in omega arith) (le-ltb _ _ (omega arith));
    }

-- the search begins
pub swept_begins : (way : Way) (lists : List (List ℕ)) (place : ℕ) (old new : Sweep) → place < length lists → Swept way lists place old
    → new.rows.count ≡ old.rows.count → new.rows.bits ≡ old.rows.bits →
    ((a b : ℕ) → a < old.rows.count
    → has_at new.rows a b ≡ (has_at old.rows a b || (eqb a (nth way (length lists) place) && eqb b (nth way (length lists) place))))
    → new.waiting.items ≡ old.waiting.items ++ nth way (length lists) place ∷ [] →
    Stage lists (λ a. ltb (nth way (length lists) a) place) (nth way (length lists) place) (λ a. ⊥) new
swept_begins way lists place old new lp s count bits rows waiting =
    let node : ℕ = nth way (length lists) place in
    let back : nth way (length lists) node ≡ place = nth_twice way (length lists) place lp in
    let ln : node < length lists = nth_below way (length lists) place lp in
    let apart : (a b : ℕ) → a < length lists → a ≢ node → has_at new.rows a b ≡ has_at old.rows a b = λ a b la ne. rows a b (omega (arith, s.count))
    ∙ ap (λ z. has_at old.rows a b || (z && eqb b node)) (ne_eqb _ _ ne) ∙ or-false (has_at old.rows a b) in
    let own : (b : ℕ) → has_at new.rows node b ≡ eqb b node = λ b. rows node b (omega (arith, s.count))
    ∙ ap (λ z. z || (eqb node node && eqb b node)) (s.clear node b ln (omega (arith, back))) ∙ ap (λ z. z && eqb b node) (eq-eqb node node refl) in
    let waits : (n : ℕ) → is_among new.waiting.items n ≡ eqb node n = λ n. waited new.waiting.items old.waiting.items node n waiting ∙ ap (λ l. is_among l n || eqb node n) s.idle in
    record {
      count = count ∙ s.count;
      bits = bits ∙ s.bits;
      finished = λ a b la d. (
          let lt = ltb-true _ _ d in
          let e = apart a b la (λ e. let at : nth way (length lists) a ≡ place = ap (nth way (length lists)) e ∙ back in omega arith) in
          (λ h. (s.finished a b la lt).0 (sym e ∙ h), λ l. e ∙ (s.finished a b la lt).1 l));
      clear = λ a b la ne d. apart a b la ne ∙ s.clear a b la (elim (cases_lt (nth way (length lists) a) place) [ inl lt ↦ absurd (both_ways _ d (lt-ltb _ _ lt)) | inr le ↦ le ]);
      own = own node ∙ eq-eqb node node refl;
      waits = λ n h. own n ∙ eq-eqb _ _ (sym (eqb-true node n (sym (waits n) ∙ h)));
      sound = λ n h. rw (eqb-true n node (sym (own n) ∙ h)) ([], refl);
      closed = λ a b h l. inr (inl (waits a ∙ eq-eqb _ _ (sym (eqb-true a node (sym (own a) ∙ h)))));
    }

-- ---- what a search does as it comes to a node

module _ (node next : ℕ) (finished : Bool) (old new : Sweep) where
  module _ (h : has_at old.rows node next ≡ false) (size : IsSameSize new.rows old.rows) (ln : node < old.rows.count) where
    -- what is new in the row of the node
    row_with : (fresh : ℕ → Bool) → ((r b : ℕ) → r < old.rows.count → has_at new.rows r b ≡ (has_at old.rows r b || (eqb r node && fresh b)))
        → ((b : ℕ) → cond finished (has_at old.rows next b) (eqb b next) ≡ fresh b) →
        (b : ℕ) → has_at new.rows node b ≡ (has_at old.rows node b || (not (has_at old.rows node next) && cond finished (has_at old.rows next b) (eqb b next)))
    row_with fresh rows is b =
        rows node b ln ∙ ap (λ z. has_at old.rows node b || (z && fresh b)) (eq-eqb node node refl)
        ∙ sym (ap (λ z. has_at old.rows node b || (not z && cond finished (has_at old.rows next b) (eqb b next))) h ∙ ap (λ z. has_at old.rows node b || z) (is b))

    -- its row is taken over
    pub Comes-taken : finished ≡ true
        → ((r b : ℕ) → r < old.rows.count → has_at new.rows r b ≡ (has_at old.rows r b || (eqb r node && has_at old.rows next b)))
        → new.waiting.items ≡ old.waiting.items → vec_len new.waiting ≡ vec_len old.waiting →
        Comes node next finished old new
    Comes-taken f rows same len = let row = row_with (has_at old.rows next) rows (λ b. cond-true finished _ _ f) in record {
      size = size;
      others = λ a b la ne. rows a b la ∙ ap (λ z. has_at old.rows a b || (z && has_at old.rows next b)) (ne_eqb _ _ ne) ∙ or-false (has_at old.rows a b);
      row = row;
      waiting =
          λ n. ap (λ l. is_among l n) same
          ∙ sym (ap (λ z. is_among old.waiting.items n || (not (has_at old.rows node next) && (not z && eqb n next))) f
          ∙ ap (λ z. is_among old.waiting.items n || z) (and-false (not (has_at old.rows node next)))
          ∙ or-false (is_among old.waiting.items n));
      left =
          let fewer = count_le (λ b. not (has_at new.rows node b)) (λ b. not (has_at old.rows node b)) 0 old.rows.bits
          (λ b n. not_from_false _ (or_parts (has_at old.rows node b) _ (sym (row b) ∙ not-true _ n)).0) in
          let to = ap (λ k. count_by (λ b. not (has_at new.rows node b)) (range_with_len 0 k)) size.bits in
          omega (arith, fewer, to, len);
    }

    -- it is found, and waits
    pub Comes-waits : finished ≡ false → next < old.rows.bits
        → ((r b : ℕ) → r < old.rows.count → has_at new.rows r b ≡ (has_at old.rows r b || (eqb r node && eqb b next)))
        → new.waiting.items ≡ old.waiting.items ++ next ∷ [] → vec_len new.waiting ≡ vec_len old.waiting + 1 →
        Comes node next finished old new
    Comes-waits f lx rows pushed len = let row = row_with (λ b. eqb b next) rows (λ b. cond-false finished _ _ f) in record {
      size = size;
      others = λ a b la ne. rows a b la ∙ ap (λ z. has_at old.rows a b || (z && eqb b next)) (ne_eqb _ _ ne) ∙ or-false (has_at old.rows a b);
      row = row;
      waiting = λ n. waited new.waiting.items old.waiting.items next n pushed ∙ ap (λ z. is_among old.waiting.items n || z) (turned n)
          ∙ sym (ap (λ z. is_among old.waiting.items n || (not z && (not finished && eqb n next))) h ∙ ap (λ z. is_among old.waiting.items n || (not z && eqb n next)) f);
      left =
          let out : not (has_at new.rows node next) ≡ false =
          ap not (row next
          ∙ or_right (has_at old.rows node next) _ (and_from _ _ (not_from_false _ h) (cond-false finished _ _ f ∙ eq-eqb next next refl))) in
          let fewer = count_lt (λ b. not (has_at new.rows node b)) (λ b. not (has_at old.rows node b)) 0 old.rows.bits next (omega arith)
          (omega arith) out (not_from_false _ h) (λ b n. not_from_false _ (or_parts (has_at old.rows node b) _ (sym (row b) ∙ not-true _ n)).0) in
          let to = ap (λ k. count_by (λ b. not (has_at new.rows node b)) (range_with_len 0 k)) size.bits in
          omega (arith, fewer, to, len);
    }
      where
        turned : (n : ℕ) → eqb next n ≡ eqb n next
        turned n = elim (cases_eq n next) [ inl e ↦ eq-eqb _ _ (sym e) ∙ sym (eq-eqb _ _ e) | inr ne ↦ ne_eqb _ _ (λ e. ne (sym e)) ∙ sym (ne_eqb _ _ ne) ]
