-- What is noted at routers and at sessions is what is met at places.
use Rattle.std.proofs.Common.{◌≡◌, ℕ, ◌+◌, ◌<◌, ◌≤◌, Bool, true, false, List, [], ◌∷◌, ◌++◌, Vec, filter, length, refl, sym, ap, ◌∙◌, subst, arith, Option, Some, None, ltb-false, ltb-true}
use Rattle.std.specs.Prelude.{◌&&◌, ◌==◌, IsTrue, nat_lt, slice_get, if◌then◌else◌}
use Rattle.std.specs.Global.{Global}
use Rattle.std.specs.List.{flat_map}
use Rattle.std.proofs.lemmas.List.{append-nil}
use Rattle.std.proofs.lemmas.List.Elements.{filter-append}
use Rattle.list_law.proofs.Members.{IsIn-nil}
use Rattle.net_base.specs.Network.{PlainNet}
use Rattle.graph_base.specs.Graphs.{PlainGraph}
use Rattle.pair_graph.specs.declared.pair.NodePair.{NodePair}
use Rattle.compare_base.specs.declared.rows.Place.{Place}
use Rattle.compare_base.specs.Same.{same_place}
use Rattle.pair_rows.specs.declared.values.FirstRow.{FirstRow}
use Rattle.pair_rows.specs.declared.values.Met.{Met}
use Rattle.pair_rows.specs.Meetings.{AreFirst, is_at, is_row, met_between, met_if, mets_at, node_mets, row_at, step_mets}
use Rattle.place_rows.specs.Noted.{AreNoted, AreNotedAt, rows_at, rows_for}
use Rattle.place_rows.specs.Told.{is_told, told}
use Rattle.place_rows.proofs.Mets.{told_at, untold_at}
use Rattle.place_rows.proofs.Tables.{at_beyond}

and_false : (b : Bool) → (b && false) ≡ false
and_false true = refl
and_false false = refl

-- a row that is met elsewhere isn't met at the place
met_elsewhere : (met : Met) (place : Place) (b : Bool) → same_place met.place place ≡ false → mets_at (if b then met ∷ [] else []) place ≡ []
met_elsewhere met place true off = ap (λ (x : Bool). if x then met ∷ [] else []) off
met_elsewhere met place false off = refl

module _ (g h : PlainGraph) (pairs : List NodePair) where
  -- steps meet nothing at a router
  step_elsewhere : (r n : ℕ) (from to : Option NodePair) → mets_at (met_between g h n from to) (record { router = r; peer = None }) ≡ []
  step_elsewhere r n (Some x) (Some y) =
      met_elsewhere (record { place = record { router = x.place; peer = Some y.place }; row = row_at g h y; node = n }) (record { router = r; peer = None }) (is_row (row_at g h y)) (and_false (x.place == r))
  step_elsewhere r n (Some x) None = refl
  step_elsewhere r n None to = refl

  steps_elsewhere : (r : ℕ) (steps : List (ℕ × ℕ)) → mets_at (flat_map (step_mets g h pairs) steps) (record { router = r; peer = None }) ≡ []
  steps_elsewhere r [] = refl
  steps_elsewhere r (s ∷ steps) =
      filter-append (is_at (record { router = r; peer = None })) (step_mets g h pairs s) (flat_map (step_mets g h pairs) steps)
      ∙ ap (λ ms. ms ++ mets_at (flat_map (step_mets g h pairs) steps) (record { router = r; peer = None })) (step_elsewhere r s.0 (slice_get pairs s.0) (slice_get pairs s.1))
      ∙ steps_elsewhere r steps

  -- nodes meet nothing at a session
  nodes_elsewhere : (r q : ℕ) (xs : List NodePair) (n : ℕ) → mets_at (node_mets g h xs n) (record { router = r; peer = Some q }) ≡ []
  nodes_elsewhere r q [] n = refl
  nodes_elsewhere r q (x ∷ xs) n =
      let met : Met = record { place = record { router = x.place; peer = None }; row = row_at g h x; node = n } in
      filter-append (is_at (record { router = r; peer = Some q })) (met_if met) (node_mets g h xs (n + 1))
      ∙ ap (λ ms. ms ++ mets_at (node_mets g h xs (n + 1)) (record { router = r; peer = Some q }))
      (met_elsewhere met (record { router = r; peer = Some q }) (is_row (row_at g h x)) (and_false (x.place == r)))
      ∙ nodes_elsewhere r q xs (n + 1)

no_rows_of_nothing : (rows : List FirstRow) → AreFirst [] rows → rows ≡ []
no_rows_of_nothing [] first = refl
no_rows_of_nothing (x ∷ rows) first = let met = first.sound x (0, refl) in absurd (IsIn-nil met.0 met.1)

module _ (net : PlainNet) (g h : PlainGraph) (pairs : List NodePair) (steps : List (ℕ × ℕ)) (routers : List (Vec FirstRow Global)) (keys : List Place) (sessions : List (Vec FirstRow Global))
    (size : length routers ≡ length net.routers) (at : AreNotedAt (node_mets g h pairs 0) routers) (for : AreNoted (told net (flat_map (step_mets g h pairs) steps)) keys sessions) where
  abbrev rows_by : Place → Option ℕ → List FirstRow
  rows_by place None = rows_at routers place.router
  rows_by place (Some peer) = rows_for keys sessions place

  all : Place → List Met
  all place = mets_at (node_mets g h pairs 0 ++ flat_map (step_mets g h pairs) steps) place

  pub placed : (r : ℕ) (peer : Option ℕ) → is_told net r peer ≡ true
      → AreFirst (mets_at (node_mets g h pairs 0 ++ flat_map (step_mets g h pairs) steps) (record { router = r; peer = peer })) (rows_by (record { router = r; peer = peer }) peer)
  placed r None on =
      let place : Place = record { router = r; peer = None } in
      subst (λ (ms : List Met). AreFirst ms (rows_at routers r))
      (sym (filter-append (is_at place) (node_mets g h pairs 0) (flat_map (step_mets g h pairs) steps)
      ∙ ap (λ ms. mets_at (node_mets g h pairs 0) place ++ ms) (steps_elsewhere g h pairs r steps) ∙ append-nil (mets_at (node_mets g h pairs 0) place)))
      (at r (omega (arith, size, ltb-true r (length net.routers) on)))
  placed r (Some q) on =
      let place : Place = record { router = r; peer = Some q } in
      subst (λ (ms : List Met). AreFirst ms (rows_for keys sessions place))
      (told_at net (flat_map (step_mets g h pairs) steps) place on
      ∙ sym (filter-append (is_at place) (node_mets g h pairs 0) (flat_map (step_mets g h pairs) steps)
      ∙ ap (λ ms. ms ++ mets_at (flat_map (step_mets g h pairs) steps) place) (nodes_elsewhere g h pairs r q pairs 0)))
      (for place)

  pub unplaced : (r : ℕ) (peer : Option ℕ) → is_told net r peer ≡ false → rows_by (record { router = r; peer = peer }) peer ≡ []
  unplaced r None off = at_beyond routers r (omega (arith, size, ltb-false r (length net.routers) off))
  unplaced r (Some q) off =
      let place : Place = record { router = r; peer = Some q } in
      no_rows_of_nothing (rows_for keys sessions place)
      (subst (λ (ms : List Met). AreFirst ms (rows_for keys sessions place)) (untold_at net (flat_map (step_mets g h pairs) steps) place off) (for place))
