-- Runs of a graph along paths, and ways from node to node.
use Rattle.std.proofs.Common.{◌≡◌, ℕ, ◌<◌, Bool, true, false, ◌&&◌, ◌||◌, ◌⊎◌, inl, inr, List, [], ◌∷◌, ◌++◌, Some, eqb, refl, sym, ap, ◌∙◌, subst}
use Rattle.std.proofs.lemmas.Bool.{and_parts, eqb-true, false≢true}
use Rattle.list_law.proofs.Options.{option_and_then_parts}
use Rattle.routing_law.specs.Graph.{Graph, Reaches, WellFormed, follow, run}
use Rattle.routing_law.specs.Network.{Alive, Network, stands_on, survives}

pub no_end : (fs back : List ℕ) (u : ℕ) → [] ≡ fs ++ u ∷ back → ⊥
no_end [] back u e = cc
no_end (f ∷ fs) back u e = cc

pub stands_split : (v : ℕ) (p : List ℕ) → stands_on v p ≡ true → (front : List ℕ) × (back : List ℕ) × (p ≡ front ++ v ∷ back)
stands_split v [] h = absurd (false≢true h)
stands_split v (u ∷ p) h = split (eqb u v) refl (stands_split v p)
  where
    split : (b : Bool) → eqb u v ≡ b → (stands_on v p ≡ true → (front : List ℕ) × (back : List ℕ) × (p ≡ front ++ v ∷ back)) → (front : List ℕ) × (back : List ℕ) × (u ∷ p ≡ front ++ v ∷ back)
    split true e again = ([], p, ap (λ a. a ∷ p) (eqb-true u v e))
    split false e again = let a = again (subst (λ b. (b || stands_on v p) ≡ true) e h) in (u ∷ a.0, a.1, ap (λ q. u ∷ q) a.2)

-- a walk that survives begins with a live location
pub first_lives : (alive : Alive) (v : ℕ) (rest : List ℕ) → survives alive (v ∷ rest) ≡ true → alive.live v ≡ true
first_lives alive v [] h = h
first_lives alive v (u ∷ q) h = (and_parts (alive.live v) (alive.carries u v && survives alive (u ∷ q)) h).0

-- a run of more than one place: that of the rest, and a step
pub run_more : (g : Graph) (v u : ℕ) (q : List ℕ) (n : ℕ) → run g (v ∷ u ∷ q) ≡ Some n → (m : ℕ) × (run g (u ∷ q) ≡ Some m) × (g.next m v ≡ Some n)
run_more g v u q n h = option_and_then_parts (λ m. g.next m v) (run g (u ∷ q)) n h

-- the node of a run is at the first place
pub run_place : {net : Network} {g : Graph} → WellFormed net g → (v : ℕ) (rest : List ℕ) (n : ℕ) → run g (v ∷ rest) ≡ Some n → g.place n ≡ v
run_place wf v [] n h = wf.start_place v n h
run_place {g = g} wf v (u ∷ q) n h = let a = run_more g v u q n h in wf.next_place a.0 v n a.2

pub node_below : {net : Network} {g : Graph} → WellFormed net g → (q : List ℕ) (u m : ℕ) → run g (u ∷ q) ≡ Some m → m < g.nodes
node_below wf [] u m h = (wf.start_below u m h).1
node_below {g = g} wf (t ∷ q) u m h = let a = run_more g u t q m h in (wf.next_below a.0 u m a.2).2

pub place_below : {net : Network} {g : Graph} → WellFormed net g → (q : List ℕ) (u m : ℕ) → run g (u ∷ q) ≡ Some m → u < net.size
place_below wf [] u m h = (wf.start_below u m h).0
place_below {g = g} wf (t ∷ q) u m h = let a = run_more g u t q m h in (wf.next_below a.0 u m a.2).1

pub follow_more : (g : Graph) (zs : List ℕ) (k m f n : ℕ) → follow g k zs ≡ Some m → g.next m f ≡ Some n → follow g k (zs ++ f ∷ []) ≡ Some n
follow_more g [] k m f n h e = let km : k ≡ m = cc in rw (km, e)
follow_more g (z ∷ zs) k m f n h e =
    let a = option_and_then_parts (λ j. follow g j zs) (g.next k z) m h in
    rw a.1 (follow_more g zs a.0 m f n a.2 e)

pub follow_append : (g : Graph) (zs ys : List ℕ) (k m n : ℕ) → follow g k zs ≡ Some m → follow g m ys ≡ Some n → follow g k (zs ++ ys) ≡ Some n
follow_append g [] ys k m n h e = let km : k ≡ m = cc in subst (λ j. follow g j ys ≡ Some n) (sym km) e
follow_append g (z ∷ zs) ys k m n h e =
    let a = option_and_then_parts (λ j. follow g j zs) (g.next k z) m h in
    rw a.1 (follow_append g zs ys a.0 m n a.2 e)

-- a run that passes v comes from v's node there
pub run_passes : (g : Graph) (front back : List ℕ) (v m : ℕ) → run g (front ++ v ∷ back) ≡ Some m → (k : ℕ) × (run g (v ∷ back) ≡ Some k) × Reaches g k m
run_passes g [] back v m h = (m, h, ([], refl))
run_passes g (f ∷ fs) back v m h = onto (fs ++ v ∷ back) refl (λ n. run_passes g fs back v n)
  where
    onto : (p : List ℕ) → fs ++ v ∷ back ≡ p → ((n : ℕ) → run g (fs ++ v ∷ back) ≡ Some n → (k : ℕ) × (run g (v ∷ back) ≡ Some k) × Reaches g k n)
        → (k : ℕ) × (run g (v ∷ back) ≡ Some k) × Reaches g k m
    onto [] e again = absurd (no_end fs back v (sym e))
    onto (u ∷ q) e again =
        let a = run_more g f u q m (subst (λ p. run g (f ∷ p) ≡ Some m) e h) in
        let b = again a.0 (ap (run g) e ∙ a.1) in
        (b.0, b.1, (b.2.0 ++ f ∷ [], follow_more g b.2.0 b.0 a.0 f m b.2.1 a.2))

-- a node at an origin is its start
pub start_is : {net : Network} {g : Graph} → WellFormed net g → (u n : ℕ) → n < g.nodes → g.place n ≡ u → net.origin u ≡ true → g.start u ≡ Some n
start_is {net} {g} wf u n b at o = ap g.start (sym at) ∙ wf.origin_start n b (ap net.origin at ∙ o)

-- the last step of a way
pub follow_last : {net : Network} {g : Graph} → WellFormed net g → (zs : List ℕ) (k m : ℕ) → follow g k zs ≡ Some m → (k ≡ m) ⊎ ((l : ℕ) × Reaches g k l × (g.next l (g.place m) ≡ Some m))
follow_last wf [] k m h = inl (cc)
follow_last {net} {g} wf (z ∷ zs) k m h =
    let a = option_and_then_parts (λ j. follow g j zs) (g.next k z) m h in
    by a.0 a.1 (follow_last wf zs a.0 m a.2)
  where
    by : (j : ℕ) → g.next k z ≡ Some j → (j ≡ m) ⊎ ((l : ℕ) × Reaches g j l × (g.next l (g.place m) ≡ Some m)) → (k ≡ m) ⊎ ((l : ℕ) × Reaches g k l × (g.next l (g.place m) ≡ Some m))
    by j e (inl jm) =
        let at : g.place m ≡ z = ap g.place (sym jm) ∙ wf.next_place k z j e in
        inr (k, ([], refl), ap (g.next k) at ∙ e ∙ ap Some jm)
    by j e (inr x) = inr (x.0, (z ∷ x.1.0, rw e x.1.1), x.2)

-- no way ends in a start but the one that begins there
pub follow_origin : {net : Network} {g : Graph} → WellFormed net g → (zs : List ℕ) (k m : ℕ) → follow g k zs ≡ Some m → net.origin (g.place m) ≡ true → k ≡ m
follow_origin {net} {g} wf zs k m h o =
    elim (follow_last wf zs k m h) [
      | inl e ↦ e
      | inr l ↦ absurd (false≢true (sym (wf.next_origin l.0 (g.place m) m l.2) ∙ o))
    ]
