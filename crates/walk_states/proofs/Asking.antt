-- The standings that were reached and asked where walks go on from them.
use Rattle.std.proofs.Common.{◌≡◌, ℕ, zero, suc, ◌+◌, ◌<◌, ◌≤◌, List, [], ◌∷◌, ◌++◌, map, take, length, get_or, Some, inl, inr, refl, sym, ap, subst, ◌∙◌, append_assoc, length-take-le, arith}
use Rattle.std.specs.Prelude.{All, filter, slice_get, ◌&&◌, ◌||◌}
use Rattle.std.specs.List.{flat_map, AllByRecursion, IsDistinct}
use Rattle.std.proofs.lemmas.Bool.{cases_lt, cond_both, false≢true}
use Rattle.std.proofs.lemmas.Grind.{flat_map-append}
use Rattle.std.proofs.lemmas.List.{append-nil, take_more, take-append-le}
use Rattle.std.proofs.lemmas.Option.{slice_get_within, get_or_from_slice_get}
use Rattle.list_law.proofs.Each.{AllByRecursion-filter}
use Rattle.list_law.proofs.Items.{slice_get-append_left}
use Rattle.net_base.specs.Network.{PlainNet, is_router, linked}
use Rattle.net_base.specs.Sets.{holds}
use Rattle.policy_base.specs.declared.case.Case.{Case}
use Rattle.path_exprs.specs.Expression.{Expression}
use Rattle.path_exprs.specs.Standings.{Standing, same_standing, AreReached}
use Rattle.net_base.specs.Locations.{in_order, numbers_below}
use Rattle.walk_states.specs.Growth.{AreAsked, each_live, gathered, left_in, live, may_enter, next_in, standing_in, standings_in, steps_over, steps_to, ways}
use Rattle.walk_states.specs.Table.{Key}
use Rattle.net_base.proofs.NumbersBelow.{numbers-below}
use Rattle.walk_states.proofs.Below.{made-at}
use Rattle.walk_states.proofs.SameStandings.{Among}
use Rattle.walk_states.proofs.Gathering.{among-append, among-left, among-right, gathered-among, gathered-append, gathered-distinct, gathered-extends, gathered-new}
use Rattle.walk_states.proofs.Numbering.{key-at, slice_get-standings_in}
use Rattle.walk_states.proofs.Stepping.{gathered-nil, steps_to-kept}

-- more targets of a standing that was reached
pub reached-more : (starts : List Standing) (next : Standing → List Standing) (xs ts : List Standing) (k : ℕ) (x : Standing) → AreReached starts next xs
    → slice_get xs k ≡ Some x → ((t : Standing) → Among ts t → Among (next x) t) → AreReached starts next (gathered xs ts)
reached-more starts next xs ts k x r at inside =
    let ext = gathered-extends xs ts in
    record {
      different = gathered-distinct xs ts r.different;
      begin = (r.begin.0 ++ ext.0, ext.1 ∙ ap (λ l. l ++ ext.0) r.begin.1 ∙ append_assoc starts r.begin.0 ext.0);
      earlier = λ j y le h. elim (cases_lt j (length xs)) [
        | inl lt ↦
            let here = sym (slice_get-append_left xs ext.0 j lt) ∙ ap (λ l. slice_get l j) (sym ext.1) ∙ h in
            let e = r.earlier j y le here in
            (e.0, e.1, e.2, kept e.0 e.1 e.3, e.4)
        | inr ge ↦
            let lt = slice_get_within xs k x at in
            (k, x, omega arith, kept k x at, inside y (gathered-new xs ts j y h ge))
      ];
    }
  where
    kept : (j : ℕ) (y : Standing) → slice_get xs j ≡ Some y → slice_get (gathered xs ts) j ≡ Some y
    kept j y h =
        let ext = gathered-extends xs ts in
        ap (λ l. slice_get l j) ext.1 ∙ slice_get-append_left xs ext.0 j (slice_get_within xs j y h) ∙ h

steps_over-append : (next : Standing → List Standing) (all ys zs : List Standing) (k m : ℕ) → m ≡ k + length ys
    → steps_over next all k (ys ++ zs) ≡ steps_over next all k ys ++ steps_over next all m zs
unfolding steps_over
steps_over-append next all [] zs k m e = ap (λ n. steps_over next all n zs) (omega arith)
steps_over-append next all (y ∷ ys) zs k m e =
    ap (λ l. steps_to all k (next y) ++ l) (steps_over-append next all ys zs (k + 1) m (omega arith))
    ∙ sym (append_assoc (steps_to all k (next y)) (steps_over next all (k + 1) ys) (steps_over next all m zs))

steps_over-kept : (next : Standing → List Standing) (xs more ys : List Standing) (k : ℕ) → ((t : Standing) → Among (flat_map next ys) t → Among xs t)
    → steps_over next (xs ++ more) k ys ≡ steps_over next xs k ys
unfolding steps_over
steps_over-kept next xs more [] k inside = refl
steps_over-kept next xs more (y ∷ ys) k inside =
    ap (λ l. l ++ steps_over next (xs ++ more) (k + 1) ys) (steps_to-kept xs more k (next y) (λ t h. inside t (among-left t (next y) (flat_map next ys) h)))
    ∙ ap (λ l. steps_to xs k (next y) ++ l) (steps_over-kept next xs more ys (k + 1) (λ t h. inside t (among-right t (next y) (flat_map next ys) h)))

steps_over-one : (next : Standing → List Standing) (all : List Standing) (k : ℕ) (x : Standing) → steps_over next all k (x ∷ []) ≡ steps_to all k (next x)
unfolding steps_over
steps_over-one next all k x = append-nil (steps_to all k (next x))

-- one more standing is asked
pub asked-more : (starts : List Standing) (next : Standing → List Standing) (xs ys : List Standing) (steps further : List (ℕ × ℕ)) (k : ℕ) (x : Standing)
    → AreAsked starts next xs steps k → slice_get xs k ≡ Some x → ys ≡ gathered xs (next x) → further ≡ steps ++ steps_to ys k (next x)
    → AreAsked starts next ys further (k + 1)
asked-more starts next xs ys steps further k x a at grown stepped = record {
  reached = subst (AreReached starts next) (sym grown) (reached-more starts next xs (next x) k x a.reached at (λ t h. h));
  order = grown ∙ ap (λ l. gathered l (next x)) a.order
      ∙ sym (gathered-append starts (flat_map next (take k xs)) (next x))
      ∙ ap (gathered starts) (sym asked);
  numbered = stepped ∙ ap (λ l. l ++ steps_to ys k (next x)) (a.numbered ∙ sym kept)
      ∙ ap (λ l. steps_over next ys 0 (take k xs) ++ l) (sym (steps_over-one next ys k x))
      ∙ sym (steps_over-append next ys (take k xs) (x ∷ []) 0 k (counted (length-take-le k xs short)))
      ∙ ap (steps_over next ys 0) (sym front);
}
  where
    counted : length (take k xs) ≡ k → k ≡ 0 + length (take k xs)
    counted e = omega (arith, e)

    short : k ≤ length xs
    short = omega (arith, slice_get_within xs k x at)

    front : take (k + 1) ys ≡ take k xs ++ x ∷ []
    front =
        let ext = gathered-extends xs (next x) in
        ap (take (k + 1)) (grown ∙ ext.1)
        ∙ take-append-le (k + 1) xs ext.0 (omega (arith, slice_get_within xs k x at))
        ∙ take_more xs k x (slice_get_within xs k x at)
        ∙ ap (λ y. take k xs ++ y ∷ []) (get_or_from_slice_get xs k x x at)

    asked : flat_map next (take (k + 1) ys) ≡ flat_map next (take k xs) ++ next x
    asked = ap (flat_map next) front ∙ flat_map-append next (take k xs) (x ∷ []) ∙ ap (λ l. flat_map next (take k xs) ++ l) (append-nil (next x))

    kept : steps_over next ys 0 (take k xs) ≡ steps_over next xs 0 (take k xs)
    kept =
        let ext = gathered-extends xs (next x) in
        ap (λ l. steps_over next l 0 (take k xs)) (grown ∙ ext.1)
        ∙ steps_over-kept next xs ext.0 (take k xs) 0 (λ t h. subst (λ l. Among l t) (sym a.order) (gathered-among starts (flat_map next (take k xs)) t h))

-- none is asked yet
pub asked-start : (next : Standing → List Standing) (xs : List Standing) → IsDistinct same_standing xs → AreAsked xs next xs [] 0
unfolding steps_over
asked-start next xs d = record {
  reached = record {
    different = d;
    begin = ([], sym (append-nil xs));
    earlier = λ k x le h. absurd (omega (arith, slice_get_within xs k x h));
  };
  order = sym (gathered-nil xs);
  numbered = refl;
}

-- locations

ways-below : (net : PlainNet) (case : Case) (at : ℕ) → AllByRecursion (λ l. l < length net.routers + length net.peers) (ways net case at)
unfolding ways
ways-below net case at =
    let n = length net.routers + length net.peers in
    let some = filter (λ l. linked net at l && may_enter net case l) (in_order net) in
    cond_both (holds case.origins at || is_router net at) some [] (AllByRecursion (λ l. l < n))
    (λ _. AllByRecursion-filter (λ l. l < n) (λ l. linked net at l && may_enter net case l) (in_order net) (numbers-below n))
    (λ _. tt)

-- a part of a standing's targets
pub each_live-part : (left : List Expression) (n : ℕ) (ls : List ℕ) (t : Standing) → Among (each_live left (take n ls)) t → Among (each_live left ls) t
unfolding each_live
each_live-part left zero ls t h = absurd (false≢true h)
each_live-part left (suc n) [] t h = absurd (false≢true h)
each_live-part left (suc n) (l ∷ ls) t h = elim (among-append t (live left l) (flat_map (live left) (take n ls)) h) [
  | inl e ↦ among-left t (live left l) (flat_map (live left) ls) e
  | inr e ↦ among-right t (live left l) (flat_map (live left) ls) (each_live-part left n ls t e)
]

-- the next key is asked
pub asked-key : (net : PlainNet) (case : Case) (starts : List Standing) (ss : List (List Expression)) (ks : List Key) (n at from : ℕ) (ls : List ℕ) (ys : List Standing) (steps further : List (ℕ × ℕ))
    → AreAsked starts (next_in net case) (standings_in ss ks) steps n → slice_get ks n ≡ Some (at, from) → ls ≡ ways net case at
    → ys ≡ gathered (standings_in ss ks) (each_live (left_in ss from) ls) → further ≡ steps ++ steps_to ys n (each_live (left_in ss from) ls)
    → AreAsked starts (next_in net case) ys further (n + 1)
unfolding next_in
asked-key net case starts ss ks n at from ls ys steps further a key is grown stepped =
    asked-more starts (next_in net case) (standings_in ss ks) ys steps further n (standing_in ss (at, from)) a
    (slice_get-standings_in ss ks n (at, from) key)
    (grown ∙ ap (λ l. gathered (standings_in ss ks) (each_live (left_in ss from) l)) is)
    (stepped ∙ ap (λ l. steps ++ steps_to ys n (each_live (left_in ss from) l)) is)

-- a part of what the next key leads to
pub reached-key : (net : PlainNet) (case : Case) (starts : List Standing) (ss : List (List Expression)) (ks : List Key) (n at from m : ℕ) (ls : List ℕ) (ys : List Standing) (steps : List (ℕ × ℕ))
    → AreAsked starts (next_in net case) (standings_in ss ks) steps n → slice_get ks n ≡ Some (at, from) → ls ≡ ways net case at
    → ys ≡ gathered (standings_in ss ks) (each_live (left_in ss from) (take m ls)) → AreReached starts (next_in net case) ys
unfolding next_in
reached-key net case starts ss ks n at from m ls ys steps a key is grown =
    subst (AreReached starts (next_in net case)) (sym grown)
    (reached-more starts (next_in net case) (standings_in ss ks) (each_live (left_in ss from) (take m ls)) n (standing_in ss (at, from)) a.reached
    (slice_get-standings_in ss ks n (at, from) key)
    (λ t h. each_live-part (left_in ss from) m (ways net case at) t (subst (λ l. Among (each_live (left_in ss from) (take m l)) t) is h)))

-- the location of the standing that is asked has its ways
pub ways_here : {V : Type 0} (net : PlainNet) (case : Case) (items : V → List ℕ) (all : List V) (n at : ℕ) (v d : V) → n ≡ length net.routers + length net.peers → at < n
    → map items all ≡ map (ways net case) (numbers_below (length net.routers + length net.peers)) → v ≡ get_or all at d → items v ≡ ways net case at
ways_here net case items all n at v d size low are is = made-at items all (ways net case) (length net.routers + length net.peers) at v d are (omega (arith, size, low)) is

-- what is read of the ways at the location of a key
pub ways_of_key : {V : Type 0} (net : PlainNet) (case : Case) (items : V → List ℕ) (all : List V) (n number i : ℕ) (keys : List Key) (key : Key) (v : V) (ls : List ℕ)
    → n ≡ length net.routers + length net.peers → All (λ (k : Key). k.0 < n) keys → slice_get keys i ≡ Some key → number ≡ key.0
    → map items all ≡ map (ways net case) (numbers_below (length net.routers + length net.peers)) → v ≡ get_or all number v → ls ≡ items v → ls ≡ ways net case key.0
ways_of_key net case items all n number i keys key v ls size inside at is are read is_ls =
    is_ls ∙ ways_here net case items all n key.0 v v size (key-at (λ (k : Key). k.0 < n) keys i key inside at) are (read ∙ ap (λ k. get_or all k v) is)

pub ways_below : (net : PlainNet) (case : Case) (n at : ℕ) (ls : List ℕ) → n ≡ length net.routers + length net.peers → ls ≡ ways net case at → AllByRecursion (λ l. l < n) ls
ways_below net case n at ls size is = subst (AllByRecursion (λ l. l < n)) (sym is) (subst (λ m. AllByRecursion (λ l. l < m) (ways net case at)) (sym size) (ways-below net case at))
