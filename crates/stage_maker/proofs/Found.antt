-- What is found in the blocks of a stage is made of what is found in those of the two configurations.
use Rattle.std.proofs.Common.{◌≡◌, ℕ, suc, ◌+◌, Bool, true, false, not, List, [], ◌∷◌, Option, Some, None, refl, sym, ap, ◌∙◌, arith}
use Rattle.std.specs.Prelude.{◌&&◌, slice_get}
use Rattle.std.specs.List.{find}
use Rattle.net_base.specs.Network.{PlainNet, is_named, is_peer, is_router}
use Rattle.net_base.specs.Prefixes.{PlainPrefix}
use Rattle.policy_base.specs.Governing.{some_contains}
use Rattle.config_base.specs.declared.config.RouterConfig.{RouterConfig}
use Rattle.config_base.specs.declared.config.Session.{Session}
use Rattle.config_base.specs.Configs.{PlainConfig}
use Rattle.config_base.specs.Lines.{block_at, class_from, router_at}
use Rattle.stage_classes.specs.declared.cell.Cell.{Cell}
use Rattle.stage_classes.specs.Laws.{cell_of}
use Rattle.stage_maker.specs.Alike.{AreAlike, SameNeighbour, SameNeighbours, SameRouter}
use Rattle.stage_maker.specs.Joined.{classes_of, joined, router_of, routers_of, session_of, sessions_of}

-- ---- the class of a prefix

-- the place of the first cell with the prefix, from k
pub record IsPlaced (cs : List Cell) (p : PlainPrefix) (k : ℕ) (c : Cell) : Type 0 where
  pub place : ℕ
  pub at : slice_get cs place ≡ Some c
  pub class : class_from (classes_of cs) p k ≡ Some (k + place)

pub placed : (cs : List Cell) (p : PlainPrefix) (k : ℕ) (c : Cell) → cell_of cs p ≡ Some c → IsPlaced cs p k c
placed [] p k c h = absurd cc
placed (d ∷ cs) p k c h = by (some_contains d.patterns p) refl h (placed cs p (k + 1) c)
  where
    by : (b : Bool) → some_contains d.patterns p ≡ b → cell_of (d ∷ cs) p ≡ Some c → (cell_of cs p ≡ Some c → IsPlaced cs p (k + 1) c) → IsPlaced (d ∷ cs) p k c
    by true e found rest =
        let same : Some d ≡ Some c = rw e at found in
        let here : k ≡ k + 0 = omega arith in
        record { place = 0; at = same; class = rw e (ap Some here) }
    by false e found rest =
        let later = rest (rw e at found) in
        let on : k + 1 + later.place ≡ k + suc later.place = omega arith in
        record { place = suc later.place; at = later.at; class = rw e (later.class ∙ ap Some on) }

pub unplaced : (cs : List Cell) (p : PlainPrefix) (k : ℕ) → cell_of cs p ≡ None → class_from (classes_of cs) p k ≡ None
unplaced [] p k h = refl
unplaced (d ∷ cs) p k h = by (some_contains d.patterns p) refl h (unplaced cs p (k + 1))
  where
    by : (b : Bool) → some_contains d.patterns p ≡ b → cell_of (d ∷ cs) p ≡ None → (cell_of cs p ≡ None → class_from (classes_of cs) p (k + 1) ≡ None) → class_from (classes_of (d ∷ cs)) p k ≡ None
    by true e none rest = absurd (let clash : Some d ≡ None = rw e at none in cc)
    by false e none rest = rw e (rest (rw e at none))

module _ (cells : List Cell) where
  -- ---- a neighbour's block

  -- What a test of names and kinds finds in the blocks of a stage, and in those of the two.
  pub data FoundSession (of_stage start other : Option Session) : Type 0 where
    nowhere : of_stage ≡ None → start ≡ None → other ≡ None → FoundSession of_stage start other
    everywhere : (a b : Session) → SameNeighbour a b → of_stage ≡ Some (session_of cells a b) → start ≡ Some a → other ≡ Some b → FoundSession of_stage start other

  pub sessions_found : (test : List ℕ → Bool → Bool) (xs bs : List Session) → SameNeighbours xs bs
      → FoundSession (find (λ (s : Session). test s.name s.peer) (sessions_of cells xs bs)) (find (λ (s : Session). test s.name s.peer) xs) (find (λ (s : Session). test s.name s.peer) bs)
  sessions_found test [] [] same = nowhere refl refl refl
  sessions_found test [] (b ∷ bs) same = absurd same
  sessions_found test (a ∷ xs) [] same = absurd same
  sessions_found test (a ∷ xs) (b ∷ bs) same = by (test a.name a.peer) refl (sessions_found test xs bs same.1)
    where
      other_is : test b.name b.peer ≡ test a.name a.peer
      other_is = ap (λ n. test n b.peer) (sym same.0.name) ∙ ap (test a.name) (sym same.0.peer)

      by : (x : Bool) → test a.name a.peer ≡ x
          → FoundSession (find (λ (s : Session). test s.name s.peer) (sessions_of cells xs bs)) (find (λ (s : Session). test s.name s.peer) xs) (find (λ (s : Session). test s.name s.peer) bs)
          → FoundSession (find (λ (s : Session). test s.name s.peer) (sessions_of cells (a ∷ xs) (b ∷ bs))) (find (λ (s : Session). test s.name s.peer) (a ∷ xs)) (find (λ (s : Session). test s.name s.peer) (b ∷ bs))
      by true e later = everywhere a b same.0 (rw e refl) (rw e refl) (rw (other_is ∙ e) refl)
      by false e (nowhere x y z) = nowhere (rw e x) (rw e y) (rw (other_is ∙ e) z)
      by false e (everywhere c d alike x y z) = everywhere c d alike (rw e x) (rw e y) (rw (other_is ∙ e) z)

  -- ---- a router's block

  pub data FoundRouter (of_stage start other : Option RouterConfig) : Type 0 where
    no_router : of_stage ≡ None → start ≡ None → other ≡ None → FoundRouter of_stage start other
    router : (a b : RouterConfig) → SameRouter a b → of_stage ≡ Some (router_of cells a b) → start ≡ Some a → other ≡ Some b → FoundRouter of_stage start other

  routers_found : (test : List ℕ → Bool) (xs bs : List RouterConfig) → AreAlike xs bs
      → FoundRouter (find (λ (c : RouterConfig). test c.name) (routers_of cells xs bs)) (find (λ (c : RouterConfig). test c.name) xs) (find (λ (c : RouterConfig). test c.name) bs)
  routers_found test [] [] same = no_router refl refl refl
  routers_found test [] (b ∷ bs) same = absurd same
  routers_found test (a ∷ xs) [] same = absurd same
  routers_found test (a ∷ xs) (b ∷ bs) same = by (test a.name) refl (routers_found test xs bs same.1)
    where
      other_is : test b.name ≡ test a.name
      other_is = ap test (sym same.0.name)

      by : (x : Bool) → test a.name ≡ x
          → FoundRouter (find (λ (c : RouterConfig). test c.name) (routers_of cells xs bs)) (find (λ (c : RouterConfig). test c.name) xs) (find (λ (c : RouterConfig). test c.name) bs)
          → FoundRouter (find (λ (c : RouterConfig). test c.name) (routers_of cells (a ∷ xs) (b ∷ bs))) (find (λ (c : RouterConfig). test c.name) (a ∷ xs)) (find (λ (c : RouterConfig). test c.name) (b ∷ bs))
      by true e later = router a b same.0 (rw e refl) (rw e refl) (rw (other_is ∙ e) refl)
      by false e (no_router x y z) = no_router (rw e x) (rw e y) (rw (other_is ∙ e) z)
      by false e (router c d alike x y z) = router c d alike (rw e x) (rw e y) (rw (other_is ∙ e) z)

  module _ (net : PlainNet) (start other : PlainConfig) (alike : AreAlike start.routers other.routers) where
    pub router_found : (r : ℕ) → FoundRouter (router_at net (joined cells start other) r) (router_at net start r) (router_at net other r)
    router_found r = by (is_router net r) refl
      where
        by : (b : Bool) → is_router net r ≡ b → FoundRouter (router_at net (joined cells start other) r) (router_at net start r) (router_at net other r)
        by true e = rw e (routers_found (λ name. is_named net name r) start.routers other.routers alike)
        by false e = no_router (rw e refl) (rw e refl) (rw e refl)

    abbrev same_kind : Bool → Bool → Bool
    same_kind true b = b
    same_kind false b = not b

    pub session_found : (r z : ℕ) → FoundSession (block_at net (joined cells start other) r z) (block_at net start r z) (block_at net other r z)
    session_found r z = by (router_found r)
      where
        by : FoundRouter (router_at net (joined cells start other) r) (router_at net start r) (router_at net other r)
            → FoundSession (block_at net (joined cells start other) r z) (block_at net start r z) (block_at net other r z)
        by (no_router x y w) = nowhere (rw x refl) (rw y refl) (rw w refl)
        by (router a b same x y w) = rw (x, y, w) (sessions_found (λ name peer. is_named net name z && same_kind peer (is_peer net z)) a.sessions b.sessions same.sessions)
