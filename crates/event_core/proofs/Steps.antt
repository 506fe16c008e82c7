-- What is done with the neighbours of a location, one after another, is done all around it.
use Rattle.std.proofs.Common.{◌≡◌, ℕ, Bool, true, false, ◌||◌, List, [], ◌∷◌, ◌++◌, None, inl, inr, refl, sym, ap, ◌∙◌}
use Rattle.std.specs.Prelude.{if◌then◌else◌, ◌==◌}
use Rattle.std.specs.List.{list_any}
use Rattle.std.proofs.lemmas.Bool.{and_parts, and_from, cases_Bool, eq-eqb, eqb-true, or_cases, or_left, or_right}
use Rattle.list_law.specs.Members.{IsIn}
use Rattle.list_law.proofs.Members.{list_any-from_IsIn, list_any_member}
use Rattle.list_law.proofs.Truth.{same_tests}
use Rattle.config_base.specs.declared.route.Route.{Route}
use Rattle.net_base.specs.Locations.{neighbours}
use Rattle.net_base.specs.Network.{PlainNet, IsNet, linked}
use Rattle.net_base.proofs.Links.{linked_flips}
use Rattle.net_base.proofs.Neighbours.{linked_neighbour}
use Rattle.event_base.specs.World.{Speakers, World, at, choose_again, each_again, emptied, is, joins, live, tell, touches, with_cut}
use Rattle.event_state.specs.declared.world.World.{World as Kept}
use Rattle.event_state.specs.Changes.{with_cut_way}
use Rattle.event_state.specs.States.{speakers, state}
use Rattle.event_state.proofs.Idleness.{unlinked}
use Rattle.event_core.proofs.Tellings.{some, told_alike}

module _ (net : PlainNet) (rules : IsNet net) where
  near : (r u : ℕ) → linked net r u ≡ true → IsIn (neighbours net r) u
  near r u h = linked_neighbour net r u rules h

  out_alike : (r x y : ℕ) → linked net x y ≡ true → list_any (λ u. is r u x y) (neighbours net r) ≡ at r x
  out_alike r x y h = same_tests _ _ there back
    where
      there : list_any (λ u. is r u x y) (neighbours net r) ≡ true → at r x ≡ true
      there t = (let k = list_any_member (λ u. is r u x y) (neighbours net r) t in (and_parts (x == r) (y == k.0) k.2).0)

      back : at r x ≡ true → list_any (λ u. is r u x y) (neighbours net r) ≡ true
      back t = list_any-from_IsIn (λ u. is r u x y) (neighbours net r) y (near r y (ap (λ z. linked net z y) (sym (eqb-true x r t)) ∙ h)) (and_from (x == r) (y == y) t (eq-eqb y y refl))

  around_alike : (r x y : ℕ) → linked net x y ≡ true → list_any (λ u. joins r u x y) (neighbours net r) ≡ touches r x y
  around_alike r x y h = same_tests _ _ there back
    where
      there : list_any (λ u. joins r u x y) (neighbours net r) ≡ true → touches r x y ≡ true
      there t = (
          let k = list_any_member (λ u. joins r u x y) (neighbours net r) t in
          elim (or_cases (is r k.0 x y) (is k.0 r x y) k.2) [
            | inl e ↦ or_left (x == r) (y == r) (and_parts (x == r) (y == k.0) e).0
            | inr e ↦ or_right (x == r) (y == r) (and_parts (x == k.0) (y == r) e).1
          ])

      back : touches r x y ≡ true → list_any (λ u. joins r u x y) (neighbours net r) ≡ true
      back t = elim (or_cases (x == r) (y == r) t) [
        | inl e ↦
            list_any-from_IsIn (λ u. joins r u x y) (neighbours net r) y (near r y (ap (λ z. linked net z y) (sym (eqb-true x r e)) ∙ h))
            (or_left (is r y x y) (is y r x y) (and_from (x == r) (y == y) e (eq-eqb y y refl)))
        | inr e ↦
            list_any-from_IsIn (λ u. joins r u x y) (neighbours net r) x
            (near r x (linked_flips net r x ∙ ap (linked net x) (sym (eqb-true y r e)) ∙ h))
            (or_right (is r x x y) (is x r x y) (and_from (x == x) (y == r) (eq-eqb x x refl) e))
      ]

module _ (kept : Kept) (rules : IsNet kept.net.now) where
  linked_where_live : (w : World Route) (x y : ℕ) → live (speakers kept) w x y ≡ true → linked kept.net.now x y ≡ true
  linked_where_live w x y h = (and_parts _ _ h).0

  pub told_out : (r : ℕ) (w : World Route) → tell (speakers kept) (some (is r) (neighbours kept.net.now r)) w ≡ tell (speakers kept) (λ a b. at r a) w
  told_out r w = told_alike (speakers kept) (some (is r) (neighbours kept.net.now r)) (λ a b. at r a) w (λ x y h. out_alike kept.net.now rules r x y (linked_where_live w x y h))

  pub told_around : (r : ℕ) (w : World Route) → tell (speakers kept) (some (joins r) (neighbours kept.net.now r)) w ≡ tell (speakers kept) (touches r) w
  told_around r w = told_alike (speakers kept) (some (joins r) (neighbours kept.net.now r)) (touches r) w (λ x y h. around_alike kept.net.now rules r x y (linked_where_live w x y h))

  -- what isn't linked was empty before
  pub emptied_around : (r : ℕ) → emptied (speakers kept) (some (joins r) (neighbours kept.net.now r)) (state kept) ≡ emptied (speakers kept) (touches r) (state kept)
  emptied_around r = λ i. record (state kept) {
    queue = λ x y. each (state kept).queue [] (unlinked kept.net.now kept.queues.items []) x y i;
    heard = λ x y. each (state kept).heard None (unlinked kept.net.now kept.heard.items None) x y i;
    queued = λ x y. each (state kept).queued None (unlinked kept.net.now kept.queued.items None) x y i;
  }
    where
      either : {A : Type 0} (c d : Bool) (nothing old : A) → old ≡ nothing → (if c then nothing else old) ≡ (if d then nothing else old)
      either true true nothing old e = refl
      either true false nothing old e = sym e
      either false true nothing old e = e
      either false false nothing old e = refl

      each : {A : Type 0} (f : ℕ → ℕ → A) (nothing : A) → ((a b : ℕ) → linked kept.net.now a b ≡ false → f a b ≡ nothing) → (x y : ℕ)
          → (if some (joins r) (neighbours kept.net.now r) x y then nothing else f x y) ≡ (if touches r x y then nothing else f x y)
      each f nothing none x y = elim (cases_Bool (linked kept.net.now x y)) [
        | inl t ↦ ap (λ b. if b then nothing else f x y) (around_alike kept.net.now rules r x y t)
        | inr e ↦ either (some (joins r) (neighbours kept.net.now r) x y) (touches r x y) nothing (f x y) (none x y e)
      ]

module _ {R : Type 0} (S : Speakers R) where
  pub each_more : (us : List ℕ) (u : ℕ) (w : World R) → each_again S (us ++ u ∷ []) w ≡ choose_again S u (each_again S us w)
  each_more [] u w = refl
  each_more (x ∷ us) u w = each_more us u (choose_again S x w)

-- a link that is cut one way and then the other
pub cut_both : (S : Speakers Route) (a b : ℕ) (v : Bool) (w : World Route) → with_cut_way b a v (with_cut_way a b v w) ≡ with_cut S a b v w
cut_both S a b v w = λ i. record w { cut = λ x y. either (is a b x y) (is b a x y) (w.cut x y) i }
  where
    either : (c d old : Bool) → (if d then v else (if c then v else old)) ≡ (if c || d then v else old)
    either true true old = refl
    either true false old = refl
    either false true old = refl
    either false false old = refl
