-- Routers are settled in rounds, by the length of their paths.
use Rattle.std.proofs.Common.{◌≡◌, ℕ, zero, suc, ◌<◌, ◌≤◌, true, false, cond, ◌⊎◌, inl, inr, length, Option, Some, None, refl, sym, ap, ◌∙◌, subst, arith}
use Rattle.std.specs.Option.{is_some, option_and_then}
use Rattle.std.proofs.lemmas.Bool.{false≢true, cases_lt, eqb-true, eq-eqb, and_right}
use Rattle.std.proofs.Math.Bool.{and-false}
use Rattle.list_law.proofs.Options.{when_parts}
use Rattle.routing_law.specs.Graph.{WellFormed, run}
use Rattle.routing_law.specs.Laws.{GraphOutcomeExists}
use Rattle.routing_law.specs.Network.{chooses}
use Rattle.routing_law.specs.Outcome.{FullyStable, NoLater, Route, Setup, heard, own_route}
use Rattle.routing_law.specs.Settling.{SettlingEnds, Tops, Within, givers, has_number, kept, lowest, rounds, settled_by}
use Rattle.routing_law.proofs.Heard.{Heard, chooses_parts, heard_parts, own_parts}
use Rattle.routing_law.proofs.Reach.{tops}
use Rattle.routing_law.proofs.Rules.{Everywhere, everywhere}
use Rattle.routing_law.proofs.Runs.{place_below}
use Rattle.routing_law.proofs.Saturate.{IsLowest, comes_to_rest, lowest_is}
use Rattle.routing_law.proofs.Sound.{Backed, giver_is, heard_again, heard_reached, length_is, sound_of}
use Rattle.routing_law.proofs.Wheel.{Left, Stuck, Topped, wheel}

has_number_from : (w : Setup) (goal : ℕ) (o : Option Route) (x : Route) → o ≡ Some x → w.graph.number x.node ≡ goal → has_number w goal o ≡ true
has_number_from w goal o x h e = rw h (eq-eqb (w.graph.number x.node) goal e)

has_number_at : (w : Setup) (goal : ℕ) (o : Option Route) → has_number w goal o ≡ true → (x : Route) × (o ≡ Some x) × (w.graph.number x.node ≡ goal)
has_number_at w goal None h = absurd (false≢true h)
has_number_at w goal (Some x) h = (x, refl, eqb-true (w.graph.number x.node) goal h)

-- v was settled after round k
pub record Fresh (w : Setup) (t : Tops w) (k v : ℕ) (x : Route) : Type 0 where
  pub before : rounds w t.top k v ≡ None
  pub after : rounds w t.top (suc k) v ≡ Some x
  pub chooses : chooses w.net w.alive v ≡ true
  pub top : ℕ
  pub is_top : t.top v ≡ Some top
  pub from : ℕ
  pub gives : heard w (rounds w t.top k) v from ≡ Some x
  pub number : w.graph.number x.node ≡ w.graph.number top
  pub least : (u : ℕ) (y : Route) → u < w.net.size → heard w (rounds w t.top k) v u ≡ Some y → w.graph.number y.node ≡ w.graph.number top → w.net.name from ≤ w.net.name u

-- a route of round j is an origin's, or was settled in an earlier round
abbrev Settled : (w : Setup) → Tops w → ℕ → ℕ → Route → Type 0
Settled w t j v x = (rounds w t.top zero v ≡ Some x) ⊎ ((k : ℕ) × (k < j) × Fresh w t k v x)

module _ (w : Setup) (t : Tops w) where
  pub kept_on : (k v : ℕ) (x : Route) → rounds w t.top k v ≡ Some x → rounds w t.top (suc k) v ≡ Some x
  kept_on k v x h = rw h

  later : (j k v : ℕ) (x : Route) → k ≤ j → rounds w t.top k v ≡ Some x → rounds w t.top j v ≡ Some x
  later zero k v x l h = let e : k ≡ zero = omega arith in subst (λ i. rounds w t.top i v ≡ Some x) e h
  later (suc j) k v x l h = by (cases_lt j k) (later j k v x)
    where
      by : (j < k) ⊎ (k ≤ j) → (k ≤ j → rounds w t.top k v ≡ Some x → rounds w t.top j v ≡ Some x) → rounds w t.top (suc j) v ≡ Some x
      by (inl m) again = let e : k ≡ suc j = omega arith in subst (λ i. rounds w t.top i v ≡ Some x) e h
      by (inr m) again = kept_on j v x (again m h)

  pub fresh : (k v : ℕ) (x : Route) → rounds w t.top k v ≡ None → rounds w t.top (suc k) v ≡ Some x → Fresh w t k v x
  fresh k v x e h =
      let a : cond (chooses w.net w.alive v) (settled_by w (rounds w t.top k) v (t.top v)) None ≡ Some x =
      subst (λ o. kept o (cond (chooses w.net w.alive v) (settled_by w (rounds w t.top k) v (t.top v)) None) ≡ Some x) e h in
      let b = when_parts (chooses w.net w.alive v) (settled_by w (rounds w t.top k) v (t.top v)) x a in
      by (t.top v) refl b.0 b.1
    where
      by_lowest : (n : ℕ) → t.top v ≡ Some n → chooses w.net w.alive v ≡ true → (o : Option ℕ)
          → IsLowest (givers w (rounds w t.top k) v (w.graph.number n)) w.net.name w.net.size o
          → option_and_then (heard w (rounds w t.top k) v) o ≡ Some x → Fresh w t k v x
      by_lowest n f c None d g = absurd (cc)
      by_lowest n f c (Some i) d g =
          let q = has_number_at w (w.graph.number n) (heard w (rounds w t.top k) v i) d.1 in
          let qx : q.0 ≡ x = cc (q.1, g) in
          record {
            before = e;
            after = h;
            chooses = c;
            top = n;
            is_top = f;
            from = i;
            gives = g;
            number = subst (λ (y : Route). w.graph.number y.node ≡ w.graph.number n) qx q.2;
            least = λ u y l hu ny. d.2 u l (has_number_from w (w.graph.number n) (heard w (rounds w t.top k) v u) y hu ny);
          }

      by : (o : Option ℕ) → t.top v ≡ o → chooses w.net w.alive v ≡ true → settled_by w (rounds w t.top k) v o ≡ Some x → Fresh w t k v x
      by None f c g = absurd (cc)
      by (Some n) f c g =
          by_lowest n f c (lowest (givers w (rounds w t.top k) v (w.graph.number n)) w.net.name w.net.size)
          (lowest_is (givers w (rounds w t.top k) v (w.graph.number n)) w.net.name w.net.size) g

  -- what gives v its number at a time settles it
  pub picks : (k v u n : ℕ) (x : Route) → chooses w.net w.alive v ≡ true → t.top v ≡ Some n → u < w.net.size → heard w (rounds w t.top k) v u ≡ Some x
      → w.graph.number x.node ≡ w.graph.number n → rounds w t.top (suc k) v ≡ None → ⊥
  picks k v u n x c f l h e g = by (rounds w t.top k v) refl
    where
      by_lowest : (o : Option ℕ) → IsLowest (givers w (rounds w t.top k) v (w.graph.number n)) w.net.name w.net.size o → option_and_then (heard w (rounds w t.top k) v) o ≡ None → ⊥
      by_lowest None d i = false≢true (sym (d u l) ∙ has_number_from w (w.graph.number n) (heard w (rounds w t.top k) v u) x h e)
      by_lowest (Some m) d i =
          let q = has_number_at w (w.graph.number n) (heard w (rounds w t.top k) v m) d.1 in
          let z = sym i ∙ q.1 in
          (cc)

      by : (o : Option Route) → rounds w t.top k v ≡ o → ⊥
      by (Some y) i = let z = sym g ∙ kept_on k v y i in (cc)
      by None i =
          let a : kept None (cond (chooses w.net w.alive v) (settled_by w (rounds w t.top k) v (t.top v)) None) ≡ None =
          subst (λ o. kept o (cond (chooses w.net w.alive v) (settled_by w (rounds w t.top k) v (t.top v)) None) ≡ None) i g in
          let b : settled_by w (rounds w t.top k) v (t.top v) ≡ None = subst (λ b. cond b (settled_by w (rounds w t.top k) v (t.top v)) None ≡ None) c a in
          by_lowest (lowest (givers w (rounds w t.top k) v (w.graph.number n)) w.net.name w.net.size)
          (lowest_is (givers w (rounds w t.top k) v (w.graph.number n)) w.net.name w.net.size)
          (subst (λ o. settled_by w (rounds w t.top k) v o ≡ None) f b)

  settled : (j v : ℕ) (x : Route) → rounds w t.top j v ≡ Some x → Settled w t j v x
  settled zero v x h = inl h
  settled (suc j) v x h = by (rounds w t.top j v) refl (settled j v)
    where
      on : (y : Route) → y ≡ x → Settled w t j v y → Settled w t (suc j) v x
      on y e (inl a) = inl (a ∙ ap Some e)
      on y e (inr a) = inr (a.0, omega (arith, a.1), subst (λ z. Fresh w t a.0 v z) e a.2)

      by : (o : Option Route) → rounds w t.top j v ≡ o → ((y : Route) → rounds w t.top j v ≡ Some y → Settled w t j v y) → Settled w t (suc j) v x
      by None e again = inr (j, omega arith, fresh j v x e h)
      by (Some y) e again = let z = sym (kept_on j v y e) ∙ h in on y (cc) (again y e)

  at_origin : (j v : ℕ) → w.net.origin v ≡ true → rounds w t.top j v ≡ own_route w v
  at_origin zero v o = rw o
  at_origin (suc j) v o =
      let c : chooses w.net w.alive v ≡ false = rw o (and_right (w.net.router v) _ (and-false (w.alive.live v))) in
      let a : kept (rounds w t.top j v) None ≡ rounds w t.top j v = kept_none (rounds w t.top j v) in
      rw c (a ∙ at_origin j v o)
    where
      kept_none : (o : Option Route) → kept o None ≡ o
      kept_none None = refl
      kept_none (Some x) = refl

  not_chosen : (j v : ℕ) → w.net.origin v ≡ false → chooses w.net w.alive v ≡ false → rounds w t.top j v ≡ None
  not_chosen zero v o c = rw o
  not_chosen (suc j) v o c = rw (not_chosen j v o c, c)

  pub heard_later : (j k v u : ℕ) (x : Route) → k ≤ j → heard w (rounds w t.top k) v u ≡ Some x → heard w (rounds w t.top j) v u ≡ Some x
  heard_later j k v u x l h =
      let a = heard_parts w (rounds w t.top k) v u x h in
      heard_again w (rounds w t.top k) (rounds w t.top j) v u x a (later j k u a.from l a.has)

  pub backed_at : (j : ℕ) → Backed w (rounds w t.top j)
  backed_at j = record {
    own = at_origin j;
    none = not_chosen j;
    given = λ v x c h. by v x c (settled j v x h);
  }
    where
      by : (v : ℕ) (x : Route) → chooses w.net w.alive v ≡ true → Settled w t j v x → (u : ℕ) × (heard w (rounds w t.top j) v u ≡ Some x)
      by v x c (inl a) = let o = (chooses_parts w v c).2 in let z : None ≡ Some x = subst (λ b. cond b (own_route w v) None ≡ Some x) o a in absurd (cc)
      by v x c (inr a) = (a.2.from, heard_later j a.0 v a.2.from x (omega (arith, a.1)) a.2.gives)

  topped_at : (j : ℕ) → Topped w (rounds w t.top j) t
  topped_at j v x c h = by (settled j v x h)
    where
      by : Settled w t j v x → (n : ℕ) × (t.top v ≡ Some n) × (w.graph.number n ≤ w.graph.number x.node)
      by (inl a) = let o = (chooses_parts w v c).2 in let z : None ≡ Some x = subst (λ b. cond b (own_route w v) None ≡ Some x) o a in absurd (cc)
      by (inr a) = (a.2.top, a.2.is_top, omega (arith, a.2.number))

  -- after round k paths have at most k + 1 locations
  short : (k v : ℕ) (x : Route) → rounds w t.top k v ≡ Some x → length x.path ≤ suc k
  short zero v x h =
      let a = when_parts (w.net.origin v) (own_route w v) x h in
      let b : length x.path ≡ 1 = ap length (own_parts w v x a.1).2 in
      omega arith
  short (suc k) v x h = by (rounds w t.top k v) refl (short k)
    where
      by : (o : Option Route) → rounds w t.top k v ≡ o → ((u : ℕ) (y : Route) → rounds w t.top k u ≡ Some y → length y.path ≤ suc k) → length x.path ≤ suc (suc k)
      by (Some y) e again = let z = sym (kept_on k v y e) ∙ h in let yx : y ≡ x = cc in omega (arith, again v x (e ∙ ap Some yx))
      by None e again =
          let f = fresh k v x e h in
          let a = heard_parts w (rounds w t.top k) v f.from x f.gives in
          omega (arith, again f.from a.from a.has, length_is w (rounds w t.top k) v f.from x a)

  -- what gives a router that is left after round k its best number is settled last
  long : WellFormed w.net w.graph → (k v u n : ℕ) (x : Route) → chooses w.net w.alive v ≡ true → t.top v ≡ Some n → rounds w t.top k v ≡ None
      → heard w (rounds w t.top k) v u ≡ Some x → w.graph.number x.node ≡ w.graph.number n → suc (suc k) ≤ length x.path
  long wf zero v u n x c f g h e =
      let a = heard_parts w (rounds w t.top zero) v u x h in
      let b = sound_of w (rounds w t.top zero) (backed_at zero) u a.from a.has in
      let l : length a.from.path ≡ suc (length b.rest) = ap length b.begins in
      omega (arith, length_is w (rounds w t.top zero) v u x a)
  long wf (suc k) v u n x c f g h e = by (heard_parts w (rounds w t.top (suc k)) v u x h) (long wf k)
    where
      before : (o : Option Route) → rounds w t.top k v ≡ o → rounds w t.top k v ≡ None
      before None i = i
      before (Some y) i = let z = sym (kept_on k v y i) ∙ g in absurd (cc)

      by_from : (a : Heard w (rounds w t.top (suc k)) v u x) → (o : Option Route) → rounds w t.top k u ≡ o
          → ((v u n : ℕ) (x : Route) → chooses w.net w.alive v ≡ true → t.top v ≡ Some n → rounds w t.top k v ≡ None
          → heard w (rounds w t.top k) v u ≡ Some x → w.graph.number x.node ≡ w.graph.number n → suc (suc k) ≤ length x.path)
          → suc (suc (suc k)) ≤ length x.path
      by_from a (Some y) i again =
          let z = sym (kept_on k u y i) ∙ a.has in
          let ya : y ≡ a.from = cc in
          let b = heard_again w (rounds w t.top (suc k)) (rounds w t.top k) v u x a (i ∙ ap Some ya) in
          let s = sound_of w (rounds w t.top k) (backed_at k) u a.from (i ∙ ap Some ya) in
          let below = place_below wf s.rest u a.from.node (subst (λ p. run w.graph p ≡ Some a.from.node) s.begins s.runs) in
          absurd (picks k v u n x c f below b e g)
      by_from a None i again =
          let y = fresh k u a.from i a.has in
          omega (arith, again u y.from y.top a.from y.chooses y.is_top i y.gives y.number, length_is w (rounds w t.top (suc k)) v u x a)

      by : Heard w (rounds w t.top (suc k)) v u x
          → ((v u n : ℕ) (x : Route) → chooses w.net w.alive v ≡ true → t.top v ≡ Some n → rounds w t.top k v ≡ None
          → heard w (rounds w t.top k) v u ≡ Some x → w.graph.number x.node ≡ w.graph.number n → suc (suc k) ≤ length x.path)
          → suc (suc (suc k)) ≤ length x.path
      by a again = by_from a (rounds w t.top k u) refl again

  -- what is settled after round k has k + 2 locations
  fresh_length : WellFormed w.net w.graph → (k v : ℕ) (x : Route) → Fresh w t k v x → length x.path ≡ suc (suc k)
  fresh_length wf k v x f =
      let a = long wf k v f.from f.top x f.chooses f.is_top f.before f.gives f.number in
      let b = heard_parts w (rounds w t.top k) v f.from x f.gives in
      omega (arith, a, short k f.from b.from b.has, length_is w (rounds w t.top k) v f.from x b)

  -- what gives v its best number later isn't shorter; where it's as short, it gave that then
  late : WellFormed w.net w.graph → (j k v u n : ℕ) (x : Route) → k < j → chooses w.net w.alive v ≡ true → t.top v ≡ Some n
      → rounds w t.top k v ≡ None → heard w (rounds w t.top j) v u ≡ Some x → w.graph.number x.node ≡ w.graph.number n
      → (suc (suc k) ≤ length x.path) × (length x.path ≡ suc (suc k) → heard w (rounds w t.top k) v u ≡ Some x)
  late wf j k v u n x l c f g h e =
      let a = heard_parts w (rounds w t.top j) v u x h in
      by a (settled j u a.from a.has)
    where
      then' : (a : Heard w (rounds w t.top j) v u x) → rounds w t.top k u ≡ Some a.from → (suc (suc k) ≤ length x.path) × (length x.path ≡ suc (suc k) → heard w (rounds w t.top k) v u ≡ Some x)
      then' a i =
          let b = heard_again w (rounds w t.top j) (rounds w t.top k) v u x a i in
          (long wf k v u n x c f g b e, λ m. b)

      by : (a : Heard w (rounds w t.top j) v u x) → Settled w t j u a.from → (suc (suc k) ≤ length x.path) × (length x.path ≡ suc (suc k) → heard w (rounds w t.top k) v u ≡ Some x)
      by a (inl i) = then' a (later k zero u a.from (omega arith) i)
      by a (inr i) =
          let m = fresh_length wf i.0 u a.from i.2 in
          let o = length_is w (rounds w t.top j) v u x a in
          at (cases_lt i.0 k) m o
        where
          at : (i.0 < k) ⊎ (k ≤ i.0) → length a.from.path ≡ suc (suc i.0) → length x.path ≡ suc (length a.from.path)
              → (suc (suc k) ≤ length x.path) × (length x.path ≡ suc (suc k) → heard w (rounds w t.top k) v u ≡ Some x)
          at (inl q) m o = then' a (later k (suc i.0) u a.from (omega (arith, q)) i.2.after)
          at (inr q) m o = (omega (arith, q), λ r. absurd (omega (arith, q)))

-- a round after which nobody is settled: it's an outcome
module _ (w : Setup) (wf : WellFormed w.net w.graph) (ev : Everywhere w.net w.graph) (t : Tops w) (j : ℕ)
    (closed : Within w.net.size (λ v. is_some (rounds w t.top (suc j) v)) (λ v. is_some (rounds w t.top j v))) where
  none_after : (v : ℕ) → v < w.net.size → rounds w t.top j v ≡ None → rounds w t.top (suc j) v ≡ None
  none_after v l e = by (rounds w t.top (suc j) v) refl
    where
      by : (o : Option Route) → rounds w t.top (suc j) v ≡ o → rounds w t.top (suc j) v ≡ None
      by None h = h
      by (Some x) h = absurd (false≢true (sym (ap is_some e) ∙ closed v l (ap is_some h)))

  gets_stuck : Stuck w (rounds w t.top j) t
  gets_stuck v u n x c e f h = by (cases_lt (w.graph.number x.node) (w.graph.number n))
    where
      by : (w.graph.number x.node < w.graph.number n) ⊎ (w.graph.number n ≤ w.graph.number x.node) → w.graph.number x.node < w.graph.number n
      by (inl l) = l
      by (inr l) =
          let a = heard_parts w (rounds w t.top j) v u x h in
          let b = heard_reached w (rounds w t.top j) (backed_at w t j) v u x (chooses_parts w v c).1 a in
          let d = t.over v x.node b in
          let same : d.0 ≡ n = cc (d.1, f) in
          let le : w.graph.number x.node ≤ w.graph.number n = subst (λ m. w.graph.number x.node ≤ w.graph.number m) same d.2 in
          let s = sound_of w (rounds w t.top j) (backed_at w t j) u a.from a.has in
          let u_below = place_below wf s.rest u a.from.node (subst (λ p. run w.graph p ≡ Some a.from.node) s.begins s.runs) in
          let v_below = place_below wf b.rest v x.node b.runs in
          absurd (picks w t j v u n x c f u_below h (omega (arith, l, le)) (none_after v v_below e))

  nobody_left : (v : ℕ) → Left w (rounds w t.top j) t v → ⊥
  nobody_left = wheel w wf ev (rounds w t.top j) (backed_at w t j) t (topped_at w t j) gets_stuck

  best_at : (v u : ℕ) (y : Route) → chooses w.net w.alive v ≡ true → heard w (rounds w t.top j) v u ≡ Some y
      → (x : Route) × (rounds w t.top j v ≡ Some x) × (w.graph.number y.node ≤ w.graph.number x.node)
  best_at v u y c h = by (rounds w t.top j v) refl
    where
      by : (o : Option Route) → rounds w t.top j v ≡ o → (x : Route) × (rounds w t.top j v ≡ Some x) × (w.graph.number y.node ≤ w.graph.number x.node)
      by None e =
          let b = heard_reached w (rounds w t.top j) (backed_at w t j) v u y (chooses_parts w v c).1 (heard_parts w (rounds w t.top j) v u y h) in
          let d = t.over v y.node b in
          absurd (nobody_left v (record { chooses = c; none = e; top = d.0; is_top = d.1 }))
      by (Some x) e =
          let b = heard_reached w (rounds w t.top j) (backed_at w t j) v u y (chooses_parts w v c).1 (heard_parts w (rounds w t.top j) v u y h) in
          let d = t.over v y.node b in
          let g = topped_at w t j v x c e in
          let same : d.0 ≡ g.0 = cc (d.1, g.1) in
          let le : w.graph.number y.node ≤ w.graph.number g.0 = subst (λ m. w.graph.number y.node ≤ w.graph.number m) same d.2 in
          (x, e, omega (arith, le, g.2))

  first_at : (v u : ℕ) (x y : Route) → chooses w.net w.alive v ≡ true → rounds w t.top j v ≡ Some x → heard w (rounds w t.top j) v u ≡ Some y → NoLater w x y
  first_at v u x y c e h = by (settled w t j v x e)
    where
      by : Settled w t j v x → NoLater w x y
      by (inl a) = let o = (chooses_parts w v c).2 in let z : None ≡ Some x = subst (λ b. cond b (own_route w v) None ≡ Some x) o a in absurd (cc)
      by (inr (k, l, f)) =
          let b = best_at v u y c h in
          let bx : b.0 ≡ x = cc (b.1, e) in
          let le : w.graph.number y.node ≤ w.graph.number x.node = subst (λ (q : Route). w.graph.number y.node ≤ w.graph.number q.node) bx b.2 in
          let a = heard_parts w (rounds w t.top j) v u y h in
          let s = sound_of w (rounds w t.top j) (backed_at w t j) u a.from a.has in
          let below = place_below wf s.rest u a.from.node (subst (λ p. run w.graph p ≡ Some a.from.node) s.begins s.runs) in
          let gx = giver_is w (rounds w t.top k) (backed_at w t k) v f.from x (heard_parts w (rounds w t.top k) v f.from x f.gives) in
          let gy = giver_is w (rounds w t.top j) (backed_at w t j) v u y a in
          let len = fresh_length w t wf k v x f in
          record {
            number = le;
            fewer = λ same. omega (arith, (late w t wf j k v u f.top y l c f.is_top f.before h (same ∙ f.number)).0);
            lower = λ same as_long.
                let then' = (late w t wf j k v u f.top y l c f.is_top f.before h (same ∙ f.number)).1 (sym as_long ∙ len) in
                rw (gx, gy) (f.least u y below then' (same ∙ f.number));
          }

  full : FullyStable w (rounds w t.top j)
  full = record {
    stable = record { own = at_origin w t j; none = not_chosen w t j; given = (backed_at w t j).given; best = best_at };
    first = first_at;
  }

pub settling_ends : SettlingEnds
settling_ends w wf rules t j closed = full w wf (everywhere w.net w.graph wf rules) t j closed

pub exists : GraphOutcomeExists
exists w wf rules =
    let ev = everywhere w.net w.graph wf rules in
    let t = tops w wf in
    let a = comes_to_rest w.net.size (λ k v. is_some (rounds w t.top k v)) (grow t) in
    (rounds w t.top a.0, full w wf ev t a.0 a.1)
  where
    grow : (t : Tops w) (k v : ℕ) → is_some (rounds w t.top k v) ≡ true → is_some (rounds w t.top (suc k) v) ≡ true
    grow t k v h = by (rounds w t.top k v) refl
      where
        by : (o : Option Route) → rounds w t.top k v ≡ o → is_some (rounds w t.top (suc k) v) ≡ true
        by (Some x) e = ap is_some (kept_on w t k v x e)
        by None e = absurd (false≢true (sym (ap is_some e) ∙ h))
