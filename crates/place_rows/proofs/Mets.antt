-- What is met, as one node or step follows another.
use Rattle.std.proofs.Common.{◌≡◌, ◌≢◌, ℕ, ◌+◌, ◌<◌, ◌≤◌, Bool, true, false, List, [], ◌∷◌, ◌++◌, Vec, filter, get_or, length, length-set, length-take, refl, set, take, sym, ap, ◌∙◌, subst, subst₂, append_assoc, arith, inl, inr, Option, Some, None}
use Rattle.std.specs.Prelude.{slice_get, if◌then◌else◌}
use Rattle.std.specs.Global.{Global}
use Rattle.std.specs.List.{flat_map, position_or_len}
use Rattle.std.proofs.lemmas.Bool.{cases_Bool, true≢false}
use Rattle.std.proofs.lemmas.List.{append-nil}
use Rattle.std.proofs.lemmas.Option.{same_Some, slice_get-get_or}
use Rattle.std.proofs.lemmas.Grind.{flat_map-append}
use Rattle.std.proofs.lemmas.List.Elements.{filter-append}
use Rattle.group_law.proofs.Taken.{take_next}
use Rattle.graph_base.specs.Graphs.{PlainGraph}
use Rattle.pair_graph.specs.declared.pair.NodePair.{NodePair}
use Rattle.compare_base.specs.declared.rows.Place.{Place}
use Rattle.compare_base.specs.declared.rows.Row.{Row}
use Rattle.compare_base.specs.Same.{same_place}
use Rattle.pair_rows.specs.declared.values.FirstRow.{FirstRow}
use Rattle.pair_rows.specs.declared.values.Met.{Met}
use Rattle.pair_rows.specs.Meetings.{AreFirst, is_at, is_row, met_between, met_if, mets_at, node_mets, row_at, step_mets}
use Rattle.pair_rows.proofs.RowsMet.{place_is, place_same}
use Rattle.place_rows.specs.Noted.{AreNoted, AreNotedAt, rows_at, rows_for}
use Rattle.place_rows.specs.Told.{is_told, told}
use Rattle.net_base.specs.Network.{PlainNet, is_peer}
use Rattle.place_rows.proofs.Order.{same_place_comm}
use Rattle.place_rows.proofs.Tables.{at_kept, at_read, at_set, rows_read, rows_set}

-- what is met at a place, after one met more
mets_more : (mets : List Met) (met : Met) (q : Place) → mets_at (mets ++ met ∷ []) q ≡ mets_at mets q ++ (if same_place met.place q then met ∷ [] else [])
mets_more mets met q = filter-append (is_at q) mets (met ∷ [])

module _ (mets : List Met) (met : Met) (keys : List Place) (rows : List (Vec FirstRow Global)) (size : length keys ≡ length rows) (noted : AreNoted mets keys rows)
    (n : ℕ) (at : n ≡ position_or_len (same_place met.place) keys) (within : n < length rows) (v w : Vec FirstRow Global) where
  -- the rows with the number of the place are those of the place
  pub read_first : slice_get rows n ≡ Some v → AreFirst (mets_at mets met.place) v.items
  read_first there = subst (λ (xs : List FirstRow). AreFirst (mets_at mets met.place) xs) (sym (rows_read met.place keys rows v n size at there)) (noted met.place)

  module _ (first : AreFirst (mets_at mets met.place ++ met ∷ []) w.items) where
    written : (q : Place) → rows_for keys (set rows n w) q ≡ (if same_place q met.place then w.items else rows_for keys rows q)
    written q = rows_set met.place keys rows w n q size at within

    -- so once one more is noted there, all places have the rows that are met
    pub noted_more : AreNoted (mets ++ met ∷ []) keys (set rows n w)
    noted_more q = elim (cases_Bool (same_place met.place q)) [
      | inl t ↦
          let is : met.place ≡ q = place_is met.place q t in
          let here : AreFirst (mets_at mets q ++ met ∷ []) w.items = subst (λ (a : Place). AreFirst (mets_at mets a ++ met ∷ []) w.items) is first in
          subst₂ (λ (ms : List Met) (xs : List FirstRow). AreFirst ms xs)
          (sym (mets_more mets met q ∙ ap (λ b. mets_at mets q ++ (if b then met ∷ [] else [])) t))
          (sym (written q ∙ ap (λ b. if b then w.items else rows_for keys rows q) (same_place_comm q met.place ∙ t)))
          here
      | inr t ↦
          subst₂ (λ (ms : List Met) (xs : List FirstRow). AreFirst ms xs)
          (sym (mets_more mets met q ∙ ap (λ b. mets_at mets q ++ (if b then met ∷ [] else [])) t ∙ append-nil (mets_at mets q)))
          (sym (written q ∙ ap (λ b. if b then w.items else rows_for keys rows q) (same_place_comm q met.place ∙ t)))
          (noted q)
    ]

-- ---- routers

abbrev router_at : ℕ → Place
router_at r = record { router = r; peer = None }

-- once one more is noted at a router, all routers have the rows that are met
pub noted_there : (mets : List Met) (met : Met) (at : ℕ) (rows : List (Vec FirstRow Global)) (v w : Vec FirstRow Global) → met.place ≡ router_at at → at < length rows → slice_get rows at ≡ Some v
    → AreNotedAt mets rows → (AreFirst (mets_at mets met.place) v.items → AreFirst (mets_at mets met.place ++ met ∷ []) w.items) → AreNotedAt (mets ++ met ∷ []) (set rows at w)
noted_there mets met at rows v w is within there noted more r less = elim (cases_Bool (same_place met.place (router_at r))) [
  | inl t ↦
      let here : met.place ≡ router_at r = place_is met.place (router_at r) t in
      let same : at ≡ r = ap (λ (q : Place). q.router) (sym is ∙ here) in
      let was : AreFirst (mets_at mets met.place) v.items =
      subst₂ (λ (q : Place) (xs : List FirstRow). AreFirst (mets_at mets q) xs) (sym is) (sym (at_read rows v at there)) (noted at within) in
      subst₂ (λ (ms : List Met) (xs : List FirstRow). AreFirst ms xs)
      (ap (λ (q : Place). mets_at mets q ++ met ∷ []) here ∙ sym (mets_more mets met (router_at r) ∙ ap (λ b. mets_at mets (router_at r) ++ (if b then met ∷ [] else [])) t))
      (sym (at_set rows w at within) ∙ ap (rows_at (set rows at w)) same)
      (more was)
  | inr t ↦
      let apart : at ≢ r = λ same. true≢false (sym (place_same met.place (router_at r) (is ∙ ap router_at same)) ∙ t) in
      subst₂ (λ (ms : List Met) (xs : List FirstRow). AreFirst ms xs)
      (sym (mets_more mets met (router_at r) ∙ ap (λ b. mets_at mets (router_at r) ++ (if b then met ∷ [] else [])) t ∙ append-nil (mets_at mets (router_at r))))
      (sym (at_kept rows w at r apart))
      (noted r (omega (arith, less, length-set rows at w)))
]

-- what is met at what is no router is met at no router
pub noted_nowhere : (mets : List Met) (met : Met) (at : ℕ) (rows : List (Vec FirstRow Global)) → met.place ≡ router_at at → length rows ≤ at → AreNotedAt mets rows → AreNotedAt (mets ++ met ∷ []) rows
noted_nowhere mets met at rows is beyond noted r less =
    let off : same_place met.place (router_at r) ≡ false = (
    elim (cases_Bool (same_place met.place (router_at r))) [
      | inl t ↦ absurd (omega (arith, beyond, less, ap (λ (q : Place). q.router) (sym is ∙ place_is met.place (router_at r) t)))
      | inr t ↦ t
    ]) in
    subst (λ (ms : List Met). AreFirst ms (rows_at rows r))
    (sym (mets_more mets met (router_at r) ∙ ap (λ b. mets_at mets (router_at r) ++ (if b then met ∷ [] else [])) off ∙ append-nil (mets_at mets (router_at r))))
    (noted r less)

-- ---- nodes

pub node_mets-push : (g h : PlainGraph) (xs : List NodePair) (x : NodePair) (n k : ℕ) → k ≡ n + length xs
    → node_mets g h (xs ++ x ∷ []) n ≡ node_mets g h xs n ++ met_if (record { place = record { router = x.place; peer = None }; row = row_at g h x; node = k })
node_mets-push g h [] x n k is =
    let same : n ≡ k = omega (arith, is) in
    append-nil (met_if (record { place = record { router = x.place; peer = None }; row = row_at g h x; node = n }))
    ∙ ap (λ (m : ℕ). met_if (record { place = record { router = x.place; peer = None }; row = row_at g h x; node = m })) same
node_mets-push g h (y ∷ xs) x n k is =
    let met = met_if (record { place = record { router = y.place; peer = None }; row = row_at g h y; node = n }) in
    ap (λ ms. met ++ ms) (node_mets-push g h xs x (n + 1) k (omega (arith, is)))
    ∙ sym (append_assoc met (node_mets g h xs (n + 1)) (met_if (record { place = record { router = x.place; peer = None }; row = row_at g h x; node = k })))

-- the next node, which is of this pair
pub nodes_next : (g h : PlainGraph) (pairs : List NodePair) (n : ℕ) (x : NodePair) (place : Place) (row : Row) (node : ℕ) → n < length pairs → x ≡ get_or pairs n x
    → place ≡ record { router = x.place; peer = None } → row ≡ row_at g h x → node ≡ n
    → node_mets g h (take (n + 1) pairs) 0 ≡ node_mets g h (take n pairs) 0 ++ met_if (record { place = place; row = row; node = node })
nodes_next g h pairs n x place row node within read is_place is_row is_node =
    ap (λ xs. node_mets g h xs 0) (take_next pairs n x within read) ∙ node_mets-push g h (take n pairs) x 0 n (omega (arith, length-take n pairs, within))
    ∙ (λ i. node_mets g h (take n pairs) 0 ++ met_if (record { place = sym is_place i; row = sym is_row i; node = sym is_node i }))

-- ---- steps

-- a pair that is read at a place
pub pair_read : (pairs read : List NodePair) (n : ℕ) (x : NodePair) → read ≡ pairs → n < length pairs → x ≡ get_or read n x → slice_get pairs n ≡ Some x
pair_read pairs read n x same within is = slice_get-get_or pairs n x within ∙ ap Some (sym (is ∙ ap (λ (xs : List NodePair). get_or xs n x) same))

pub steps_next : (g h : PlainGraph) (pairs : List NodePair) (steps : List (ℕ × ℕ)) (n : ℕ) (s : ℕ × ℕ) (x y : NodePair) (place : Place) (row : Row) (node : ℕ)
    → n < length steps → s ≡ get_or steps n (0, 0) → slice_get pairs s.0 ≡ Some x → slice_get pairs s.1 ≡ Some y
    → place ≡ record { router = x.place; peer = Some y.place } → row ≡ row_at g h y → node ≡ s.0
    → flat_map (step_mets g h pairs) (take (n + 1) steps) ≡ flat_map (step_mets g h pairs) (take n steps) ++ met_if (record { place = place; row = row; node = node })
steps_next g h pairs steps n s x y place row node within read from to is_place is_row is_node =
    ap (flat_map (step_mets g h pairs)) (take_next steps n s within same) ∙ flat_map-append (step_mets g h pairs) (take n steps) (s ∷ [])
    ∙ ap (λ ms. flat_map (step_mets g h pairs) (take n steps) ++ ms) (append-nil (step_mets g h pairs s) ∙ one)
  where
    same : s ≡ get_or steps n s
    same = read ∙ same_Some (get_or steps n (0, 0)) (get_or steps n s) (sym (slice_get-get_or steps n (0, 0) within) ∙ slice_get-get_or steps n s within)

    one : step_mets g h pairs s ≡ met_if (record { place = place; row = row; node = node })
    one =
        ap (λ (o : Option NodePair). met_between g h s.0 o (slice_get pairs s.1)) from ∙ ap (λ (o : Option NodePair). met_between g h s.0 (Some x) o) to
        ∙ (λ i. met_if (record { place = sym is_place i; row = sym is_row i; node = sym is_node i }))

-- what is met with no row
pub not_met : (mets : List Met) (met : Met) → is_row met.row ≡ false → mets ≡ mets ++ met_if met
not_met mets met off = sym (ap (λ (b : Bool). mets ++ (if b then met ∷ [] else [])) off ∙ append-nil mets)

pub is_met : (mets : List Met) (met : Met) → is_row met.row ≡ true → mets ++ met ∷ [] ≡ mets ++ met_if met
is_met mets met on = sym (ap (λ (b : Bool). mets ++ (if b then met ∷ [] else [])) on)

-- what is met at a session is told where it leads to a peer
module _ (net : PlainNet) where
  pub told_more : (mets : List Met) (met : Met) → is_told net met.place.router met.place.peer ≡ true → told net (mets ++ met_if met) ≡ told net mets ++ met_if met
  told_more mets met on = filter-append (λ (m : Met). is_told net m.place.router m.place.peer) mets (met_if met) ∙ ap (λ ms. told net mets ++ ms) (kept (is_row met.row))
    where
      kept : (b : Bool) → filter (λ (m : Met). is_told net m.place.router m.place.peer) (if b then met ∷ [] else []) ≡ (if b then met ∷ [] else [])
      kept true = ap (λ (b : Bool). if b then met ∷ [] else []) on
      kept false = refl

  pub untold : (mets : List Met) (met : Met) → is_told net met.place.router met.place.peer ≡ false → told net (mets ++ met_if met) ≡ told net mets
  untold mets met off = filter-append (λ (m : Met). is_told net m.place.router m.place.peer) mets (met_if met) ∙ ap (λ ms. told net mets ++ ms) (none (is_row met.row)) ∙ append-nil (told net mets)
    where
      none : (b : Bool) → filter (λ (m : Met). is_told net m.place.router m.place.peer) (if b then met ∷ [] else []) ≡ []
      none true = ap (λ (b : Bool). if b then met ∷ [] else []) off
      none false = refl

  -- at a place that is told all that is met is told
  pub told_at : (mets : List Met) (place : Place) → is_told net place.router place.peer ≡ true → mets_at (told net mets) place ≡ mets_at mets place
  told_at [] place on = refl
  told_at (met ∷ mets) place on = elim (cases_Bool (same_place met.place place)) [
    | inl t ↦
        let is : is_told net met.place.router met.place.peer ≡ true = ap (λ (q : Place). is_told net q.router q.peer) (place_is met.place place t) ∙ on in
        ap (λ (b : Bool). mets_at (if b then met ∷ told net mets else told net mets) place) is
        ∙ ap (λ (b : Bool). if b then met ∷ mets_at (told net mets) place else mets_at (told net mets) place) t
        ∙ ap (λ (ms : List Met). met ∷ ms) (told_at mets place on)
        ∙ sym (ap (λ (b : Bool). if b then met ∷ mets_at mets place else mets_at mets place) t)
    | inr t ↦
        skipped (is_told net met.place.router met.place.peer) t ∙ told_at mets place on ∙ sym (ap (λ (b : Bool). if b then met ∷ mets_at mets place else mets_at mets place) t)
  ]
    where
      skipped : (b : Bool) → same_place met.place place ≡ false → mets_at (if b then met ∷ told net mets else told net mets) place ≡ mets_at (told net mets) place
      skipped true off = ap (λ (b : Bool). if b then met ∷ mets_at (told net mets) place else mets_at (told net mets) place) off
      skipped false off = refl

  -- and at one that isn't nothing is
  pub untold_at : (mets : List Met) (place : Place) → is_told net place.router place.peer ≡ false → mets_at (told net mets) place ≡ []
  untold_at [] place off = refl
  untold_at (met ∷ mets) place off = elim (cases_Bool (is_told net met.place.router met.place.peer)) [
    | inl t ↦
        let apart : same_place met.place place ≡ false = (
        elim (cases_Bool (same_place met.place place)) [
          | inl u ↦ absurd (true≢false (sym t ∙ ap (λ (q : Place). is_told net q.router q.peer) (place_is met.place place u) ∙ off))
          | inr u ↦ u
        ]) in
        ap (λ (b : Bool). mets_at (if b then met ∷ told net mets else told net mets) place) t
        ∙ ap (λ (b : Bool). if b then met ∷ mets_at (told net mets) place else mets_at (told net mets) place) apart ∙ untold_at mets place off
    | inr t ↦ ap (λ (b : Bool). mets_at (if b then met ∷ told net mets else told net mets) place) t ∙ untold_at mets place off
  ]
