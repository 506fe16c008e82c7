-- The front alone gives what a router that is left is settled by.
use Rattle.std.proofs.Common.{◌≡◌, ℕ, zero, suc, ◌<◌, ◌≤◌, true, false, not, inl, inr, Option, Some, None, refl, sym, ap, ◌∙◌, subst, arith}
use Rattle.std.specs.Option.{option_and_then, is_some}
use Rattle.std.proofs.lemmas.Bool.{and_from, and_right, both_ways, cases_Bool, eqb-true, false≢true, false_from_ne_true}
use Rattle.list_law.proofs.Options.{is_some_parts}
use Rattle.routing_law.specs.Graph.{MeetsRules, WellFormed, run}
use Rattle.routing_law.specs.Network.{NamesDiffer, chooses, stands_on}
use Rattle.routing_law.specs.Outcome.{FullyStable, Route, Routes, Setup, heard}
use Rattle.routing_law.specs.Settling.{Tops, Within, givers, has_number, lowest, rounds}
use Rattle.routing_law.proofs.Heard.{Heard, heard_parts}
use Rattle.routing_law.proofs.Rounds.{backed_at, fresh, kept_on, picks, settling_ends}
use Rattle.routing_law.proofs.Runs.{place_below, stands_split}
use Rattle.routing_law.proofs.Saturate.{IsLowest, lowest_is}
use Rattle.routing_law.proofs.Sound.{heard_again, sound_of}
use Rattle.settled_graph.specs.ByFronts.{IsFirstOf, gives, is_fresh, stepped}

module _ (w : Setup) (t : Tops w) (wf : WellFormed w.net w.graph) where
  abbrev at : ℕ → Routes
  at k = rounds w t.top k

  -- who is left stands on no path
  off_path : (k v u : ℕ) (y : Route) → at k v ≡ None → at k u ≡ Some y → stands_on v y.path ≡ false
  off_path k v u y none has = false_from_ne_true _ (λ on.
      let p = stands_split v y.path on in
      let s = sound_of w (at k) (backed_at w t k) u y has in
      let x = s.suffixes p.0 p.1 v p.2 in
      let clash = sym none ∙ x.1 in
      absurd (cc))

  -- so what it's given is what steps give
  heard_stepped : (k v u : ℕ) → at k v ≡ None → heard w (at k) v u ≡ stepped w (at k) v u
  heard_stepped k v u none = by (at k u) refl
    where
      by : (o : Option Route) → at k u ≡ o → heard w (at k) v u ≡ stepped w (at k) v u
      by None e = rw e refl
      by (Some y) e = rw (e, off_path k v u y none e) refl

  -- what gives v, which is left, its best number was settled last
  front_gives : (k v u n : ℕ) (x : Route) → chooses w.net w.alive v ≡ true → t.top v ≡ Some n → at k v ≡ None → u < w.net.size → heard w (at k) v u ≡ Some x → w.graph.number x.node ≡ w.graph.number n
      → is_fresh w t.top k u ≡ true
  front_gives zero v u n x c top none lu h same = ap is_some (heard_parts w (at zero) v u x h).has
  front_gives (suc k) v u n x c top none lu h same = by (at k u) refl
    where
      h' : Heard w (at (suc k)) v u x
      h' = heard_parts w (at (suc k)) v u x h

      by : (o : Option Route) → at k u ≡ o → is_fresh w t.top (suc k) u ≡ true
      by None e = and_from (is_some (at (suc k) u)) (not (is_some (at k u))) (ap is_some h'.has) (ap (λ z. not (is_some z)) e)
      by (Some y) e =
          let now : Some y ≡ Some h'.from = sym (kept_on w t k u y e) ∙ h'.has in
          let before : heard w (at k) v u ≡ Some x = heard_again w (at (suc k)) (at k) v u x h' (e ∙ now) in
          absurd (picks w t k v u n x c top lu before same none)

  has_number_of : (goal : ℕ) (o : Option Route) → has_number w goal o ≡ true → (x : Route) × (o ≡ Some x)
  has_number_of goal None h = absurd (false≢true h)
  has_number_of goal (Some x) h = (x, refl)

  module _ (names : NamesDiffer w.net) (k v n : ℕ) (c : chooses w.net w.alive v ≡ true) (none : at k v ≡ None) (top : t.top v ≡ Some n) where
    abbrev goal : ℕ
    goal = w.graph.number n

    number_is : (o : Option Route) (x : Route) → o ≡ Some x → has_number w goal o ≡ true → w.graph.number x.node ≡ goal
    number_is None x e h = absurd (false≢true h)
    number_is (Some y) x e h = numbered x (ap (has_number w goal) (sym e) ∙ h)
      where
        numbered : (x : Route) → has_number w goal (Some x) ≡ true → w.graph.number x.node ≡ goal
        numbered x h = eqb-true _ _ h

    -- the givers are those of the front
    same_givers : (u : ℕ) → u < w.net.size → givers w (at k) v goal u ≡ gives w t.top k v goal u
    same_givers u lu = elim (cases_Bool (givers w (at k) v goal u)) [
      | inl gave ↦ (
          let x = has_number_of goal (heard w (at k) v u) gave in
          let f = front_gives k v u n x.0 c top none lu x.1 (number_is (heard w (at k) v u) x.0 x.1 gave) in
          gave ∙ sym (and_from (is_fresh w t.top k u) (has_number w goal (stepped w (at k) v u)) f (ap (has_number w goal) (sym (heard_stepped k v u none)) ∙ gave)))
      | inr not_so ↦ (
          let s : has_number w goal (stepped w (at k) v u) ≡ false = ap (has_number w goal) (sym (heard_stepped k v u none)) ∙ not_so in
          not_so ∙ sym (and_right (is_fresh w t.top k u) _ s))
    ]

    -- the lowest of them is one
    same_lowest : (o p : Option ℕ) → IsLowest (givers w (at k) v goal) w.net.name w.net.size p → IsFirstOf w (gives w t.top k v goal) o → o ≡ p
    same_lowest None None a b = refl
    same_lowest None (Some j) a b = absurd (both_ways _ (b j a.0) (sym (same_givers j a.0) ∙ a.1))
    same_lowest (Some i) None a b = absurd (both_ways _ (a i b.0) (same_givers i b.0 ∙ b.1))
    same_lowest (Some i) (Some j) a b =
        let le : w.net.name i ≤ w.net.name j = b.2 j a.0 (sym (same_givers j a.0) ∙ a.1) in
        let ge : w.net.name j ≤ w.net.name i = a.2 i b.0 (same_givers i b.0 ∙ b.1) in
        ap Some (names i j b.0 a.0 (omega (arith, le, ge)))

    pub next_by_front : (o : Option ℕ) → IsFirstOf w (gives w t.top k v goal) o → rounds w t.top (suc k) v ≡ option_and_then (stepped w (at k) v) o
    next_by_front o first =
        let same : o ≡ lowest (givers w (at k) v goal) w.net.name w.net.size = same_lowest o (lowest (givers w (at k) v goal) w.net.name w.net.size)
        (lowest_is (givers w (at k) v goal) w.net.name w.net.size) first in
        let next : rounds w t.top (suc k) v ≡ option_and_then (heard w (at k) v) (lowest (givers w (at k) v goal) w.net.name w.net.size) = rw (none, c, top) refl in
        next ∙ ap (option_and_then (heard w (at k) v)) (sym same) ∙ steps o
      where
        steps : (o : Option ℕ) → option_and_then (heard w (at k) v) o ≡ option_and_then (stepped w (at k) v) o
        steps None = refl
        steps (Some u) = heard_stepped k v u none

  -- where the front is empty nobody is settled any more
  stuck : (k : ℕ) → ((u : ℕ) → u < w.net.size → is_fresh w t.top k u ≡ false) → Within w.net.size (λ v. is_some (rounds w t.top (suc k) v)) (λ v. is_some (rounds w t.top k v))
  stuck k empty v lv h = by (at k v) refl
    where
      by : (o : Option Route) → at k v ≡ o → is_some (at k v) ≡ true
      by (Some y) e = ap is_some e
      by None e =
          let x = is_some_parts (rounds w t.top (suc k) v) h in
          let f = fresh w t k v x.0 e x.1 in
          let a = heard_parts w (at k) v f.from x.0 f.gives in
          let s = sound_of w (at k) (backed_at w t k) f.from a.from a.has in
          let below = place_below wf s.rest f.from a.from.node (subst (λ p. run w.graph p ≡ Some a.from.node) s.begins s.runs) in
          absurd (both_ways _ (empty f.from below) (front_gives k v f.from f.top x.0 f.chooses f.is_top e below f.gives f.number))

  pub end_of_fronts : MeetsRules w.net w.graph → (k : ℕ) → ((u : ℕ) → u < w.net.size → is_fresh w t.top k u ≡ false) → FullyStable w (rounds w t.top k)
  end_of_fronts rules k empty = settling_ends w wf rules t k (stuck k empty)
