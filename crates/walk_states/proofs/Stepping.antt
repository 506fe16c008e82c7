-- How the steps grow with the standings.
use Rattle.std.proofs.Common.{◌≡◌, ℕ, ◌+◌, ◌<◌, true, false, List, [], ◌∷◌, ◌++◌, map, take, length, get_or, Some, refl, sym, ap, subst, ◌∙◌, append_assoc}
use Rattle.std.specs.Prelude.{slice_get}
use Rattle.std.specs.List.{flat_map}
use Rattle.std.proofs.lemmas.Bool.{cond-true, cond-false}
use Rattle.std.proofs.lemmas.Grind.{flat_map-append}
use Rattle.std.proofs.lemmas.List.{append-nil, map-append, take_more}
use Rattle.path_exprs.specs.Expression.{Expression}
use Rattle.path_exprs.specs.Derivative.{derivative}
use Rattle.path_automata.specs.States.{Extends}
use Rattle.walk_states.specs.Built.{place_in}
use Rattle.path_exprs.specs.Standings.{Standing, is_dead, moved}
use Rattle.walk_states.specs.Growth.{each_live, gathered, left_in, live, standing_in, standings_in, steps_to, with_standing}
use Rattle.walk_states.specs.Table.{Key}
use Rattle.walk_states.proofs.SameStandings.{Among, among-first, among-later}
use Rattle.walk_states.proofs.Numbering.{AreKnown, standing-after, standings_in-extends}
use Rattle.walk_states.proofs.Gathering.{gathered-append, gathered-among, gathered-extends, place-kept}

pub live-dead : (left : List Expression) (l : ℕ) → is_dead (map (derivative l) left) ≡ true → live left l ≡ []
unfolding live
live-dead left l h = cond-true (is_dead (map (derivative l) left)) _ _ h

pub live-alive : (left : List Expression) (l : ℕ) → is_dead (map (derivative l) left) ≡ false → live left l ≡ moved left l ∷ []
unfolding live
live-alive left l h = cond-false (is_dead (map (derivative l) left)) _ _ h

pub each_live-nil : (left : List Expression) → each_live left [] ≡ []
unfolding each_live
each_live-nil left = refl

pub each_live-more : (left : List Expression) (ls : List ℕ) (i : ℕ) (l : ℕ) → i < length ls → l ≡ get_or ls i l → each_live left (take (i + 1) ls) ≡ each_live left (take i ls) ++ live left l
unfolding each_live
each_live-more left ls i l lt at =
    ap (flat_map (live left)) (take_more ls i l lt)
    ∙ flat_map-append (live left) (take i ls) (get_or ls i l ∷ [])
    ∙ ap (λ m. flat_map (live left) (take i ls) ++ m) (append-nil (live left (get_or ls i l)) ∙ ap (live left) (sym at))

pub steps_to-nil : (all : List Standing) (k : ℕ) → steps_to all k [] ≡ []
unfolding steps_to
steps_to-nil all k = refl

pub steps_to-one : (all : List Standing) (k : ℕ) (x : Standing) → steps_to all k (x ∷ []) ≡ (k, place_in all x) ∷ []
unfolding steps_to
steps_to-one all k x = refl

pub gathered-nil : (xs : List Standing) → gathered xs [] ≡ xs
unfolding gathered
gathered-nil xs = refl

pub gathered-one : (xs : List Standing) (x : Standing) → gathered xs (x ∷ []) ≡ with_standing xs x
unfolding gathered
gathered-one xs x = refl

steps_to-append : (all : List Standing) (k : ℕ) (ts us : List Standing) → steps_to all k (ts ++ us) ≡ steps_to all k ts ++ steps_to all k us
unfolding steps_to
steps_to-append all k ts us = map-append (λ t. (k, place_in all t)) ts us

-- places stay where more standings follow
pub steps_to-kept : (xs more : List Standing) (k : ℕ) (ts : List Standing) → ((t : Standing) → Among ts t → Among xs t) → steps_to (xs ++ more) k ts ≡ steps_to xs k ts
unfolding steps_to
steps_to-kept xs more k [] inside = refl
steps_to-kept xs more k (t ∷ ts) inside =
    let head = place-kept xs more t (inside t (among-first t ts)) in
    let rest = steps_to-kept xs more k ts (λ u h. inside u (among-later u t ts h)) in
    λ i. (k, head i) ∷ rest i

pub grown-more : (start xs ys ts us : List Standing) → xs ≡ gathered start ts → ys ≡ gathered xs us → ys ≡ gathered start (ts ++ us)
grown-more start xs ys ts us e f = f ∙ ap (λ l. gathered l us) e ∙ sym (gathered-append start ts us)

pub steps-more : (start xs ys ts us : List Standing) (k : ℕ) (first steps next : List (ℕ × ℕ)) → xs ≡ gathered start ts → ys ≡ gathered xs us
    → steps ≡ first ++ steps_to xs k ts → next ≡ steps ++ steps_to ys k us → next ≡ first ++ steps_to ys k (ts ++ us)
steps-more start xs ys ts us k first steps next e f g h =
    let ext = gathered-extends xs us in
    let longer : ys ≡ xs ++ ext.0 = f ∙ ext.1 in
    let kept : steps_to ys k ts ≡ steps_to xs k ts = ap (λ l. steps_to l k ts) longer ∙ steps_to-kept xs ext.0 k ts (λ t a. subst (λ l. Among l t) (sym e) (gathered-among start ts t a)) in
    h ∙ ap (λ l. l ++ steps_to ys k us) (g ∙ ap (λ l. first ++ l) (sym kept))
    ∙ append_assoc first (steps_to ys k ts) (steps_to ys k us)
    ∙ ap (λ l. first ++ l) (sym (steps_to-append ys k ts us))

pub added-alive : (ss new : List (List Expression)) (ks : List Key) (at state from : ℕ) (xs : List Standing) → Extends ss new → AreKnown ss ks
    → slice_get new state ≡ Some (map (derivative at) (left_in ss from)) → is_dead (map (derivative at) (left_in ss from)) ≡ false
    → xs ≡ with_standing (standings_in new ks) (standing_in new (at, state)) → xs ≡ gathered (standings_in ss ks) (live (left_in ss from) at)
added-alive ss new ks at state from xs ext known is alive e =
    e ∙ ap (λ ys. with_standing ys (standing_in new (at, state))) (standings_in-extends ss new ks ext known)
    ∙ ap (with_standing (standings_in ss ks)) (standing-after ss new at state from is)
    ∙ sym (gathered-one (standings_in ss ks) (moved (left_in ss from) at))
    ∙ ap (gathered (standings_in ss ks)) (sym (live-alive (left_in ss from) at alive))

pub stepped-alive : (ss new : List (List Expression)) (at state from k target : ℕ) (xs : List Standing) (steps : List (ℕ × ℕ))
    → slice_get new state ≡ Some (map (derivative at) (left_in ss from)) → is_dead (map (derivative at) (left_in ss from)) ≡ false
    → target ≡ place_in xs (standing_in new (at, state)) → steps ++ (k, target) ∷ [] ≡ steps ++ steps_to xs k (live (left_in ss from) at)
stepped-alive ss new at state from k target xs steps is alive place =
    ap (λ t. steps ++ (k, t) ∷ []) (place ∙ ap (place_in xs) (standing-after ss new at state from is))
    ∙ ap (λ l. steps ++ l) (sym (steps_to-one xs k (moved (left_in ss from) at)) ∙ ap (steps_to xs k) (sym (live-alive (left_in ss from) at alive)))

pub gathered-dead : (xs : List Standing) (left : List Expression) (at : ℕ) → is_dead (map (derivative at) left) ≡ true → gathered xs (live left at) ≡ xs
gathered-dead xs left at dead = ap (gathered xs) (live-dead left at dead) ∙ gathered-nil xs

pub stepped-dead : (xs : List Standing) (left : List Expression) (at k : ℕ) → is_dead (map (derivative at) left) ≡ true → steps_to xs k (live left at) ≡ []
stepped-dead xs left at k dead = ap (steps_to xs k) (live-dead left at dead) ∙ steps_to-nil xs k
