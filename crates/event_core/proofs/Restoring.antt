-- What is put back where it stood leaves the world as it was.
use Rattle.std.proofs.Common.{◌≡◌, ℕ, Bool, true, ◌++◌, ◌∷◌, [], List, Option, length, take, inl, inr, refl, sym, ap, ◌∙◌, arith}
use Rattle.std.specs.Prelude.{if◌then◌else◌, ◌==◌, ◌-◌, ◌+◌}
use Rattle.std.proofs.lemmas.Bool.{and_parts, and_from, cases_Bool, cond-true, cond-false, eq-eqb, eqb-true}
use Rattle.std.proofs.lemmas.List.{length-append, take-append-le, take_all}
use Rattle.config_base.specs.declared.route.Route.{Route}
use Rattle.event_base.specs.World.{World, at, is}
use Rattle.event_state.specs.Changes.{with_cut_way, with_heard, with_mark, with_queue, with_queued, with_route, with_silence}
use Rattle.event_state.specs.Idle.{without_last}

-- at one location, and at one direction
restored_at : {A : Type 0} (f : ℕ → A) (r : ℕ) (v : A) (x : ℕ) → (if at r x then f r else (if at r x then v else f x)) ≡ f x
restored_at f r v x = elim (cases_Bool (at r x)) [
  | inl t ↦ cond-true (at r x) (f r) _ t ∙ ap f (sym (eqb-true x r t))
  | inr e ↦ cond-false (at r x) (f r) _ e ∙ cond-false (at r x) v (f x) e
]

restored : {A : Type 0} (f : ℕ → ℕ → A) (a b : ℕ) (v : A) (x y : ℕ) → (if is a b x y then f a b else (if is a b x y then v else f x y)) ≡ f x y
restored f a b v x y = elim (cases_Bool (is a b x y)) [
  | inl t ↦ (let p = and_parts (x == a) (y == b) t in cond-true (is a b x y) (f a b) _ t ∙ ap (λ u. u b) (ap f (sym (eqb-true x a p.0))) ∙ ap (f x) (sym (eqb-true y b p.1)))
  | inr e ↦ cond-false (is a b x y) (f a b) _ e ∙ cond-false (is a b x y) v (f x y) e
]

-- what was written last at a direction stands there
here : (a b : ℕ) → is a b a b ≡ true
here a b = and_from (a == a) (b == b) (eq-eqb a a refl) (eq-eqb b b refl)

module _ (w v : World Route) where
  pub down_back : (r : ℕ) (new old : Bool) → v ≡ with_mark r new w → old ≡ w.down r → with_mark r old v ≡ w
  down_back r new old e o = ap (with_mark r old) e ∙ ap (λ b. with_mark r b (with_mark r new w)) o ∙ λ i. record w { down = λ x. restored_at w.down r new x i }

  pub route_back : (r : ℕ) (new old : Option Route) → v ≡ with_route r new w → old ≡ w.route r → with_route r old v ≡ w
  route_back r new old e o = ap (with_route r old) e ∙ ap (λ b. with_route r b (with_route r new w)) o ∙ λ i. record w { route = λ x. restored_at w.route r new x i }

  pub cut_back : (a b : ℕ) (new old : Bool) → v ≡ with_cut_way a b new w → old ≡ w.cut a b → with_cut_way a b old v ≡ w
  cut_back a b new old e o = ap (with_cut_way a b old) e ∙ ap (λ m. with_cut_way a b m (with_cut_way a b new w)) o ∙ λ i. record w { cut = λ x y. restored w.cut a b new x y i }

  pub silence_back : (a b : ℕ) (new old : Bool) → v ≡ with_silence a b new w → old ≡ w.silent a b → with_silence a b old v ≡ w
  silence_back a b new old e o = ap (with_silence a b old) e ∙ ap (λ m. with_silence a b m (with_silence a b new w)) o ∙ λ i. record w { silent = λ x y. restored w.silent a b new x y i }

  pub heard_back : (a b : ℕ) (new old : Option Route) → v ≡ with_heard a b new w → old ≡ w.heard a b → with_heard a b old v ≡ w
  heard_back a b new old e o = ap (with_heard a b old) e ∙ ap (λ m. with_heard a b m (with_heard a b new w)) o ∙ λ i. record w { heard = λ x y. restored w.heard a b new x y i }

  pub queued_back : (a b : ℕ) (new old : Option Route) → v ≡ with_queued a b new w → old ≡ w.queued a b → with_queued a b old v ≡ w
  queued_back a b new old e o = ap (with_queued a b old) e ∙ ap (λ m. with_queued a b m (with_queued a b new w)) o ∙ λ i. record w { queued = λ x y. restored w.queued a b new x y i }

  pub queue_back : (a b : ℕ) (new old : List (Option Route)) → v ≡ with_queue a b new w → old ≡ w.queue a b → with_queue a b old v ≡ w
  queue_back a b new old e o = ap (with_queue a b old) e ∙ ap (λ m. with_queue a b m (with_queue a b new w)) o ∙ λ i. record w { queue = λ x y. restored w.queue a b new x y i }

  -- a message that was queued is taken back
  last_left : (ms : List (Option Route)) (m : Option Route) → without_last (ms ++ m ∷ []) ≡ ms
  last_left ms m =
      let more : length (ms ++ m ∷ []) ≡ length ms + 1 = length-append ms (m ∷ []) in
      let less : length (ms ++ m ∷ []) - 1 ≡ length ms = omega (arith, more) in
      ap (λ n. take n (ms ++ m ∷ [])) less ∙ take-append-le (length ms) ms (m ∷ []) (omega arith) ∙ take_all (length ms) ms (omega arith)

  pub taken_back : (a b : ℕ) (m : Option Route) → v ≡ with_queue a b (w.queue a b ++ m ∷ []) w → with_queue a b (without_last (v.queue a b)) v ≡ w
  taken_back a b m e =
      queue_back a b (w.queue a b ++ m ∷ []) (without_last (v.queue a b)) e
      (ap (λ (u : World Route). without_last (u.queue a b)) e ∙ ap without_last (cond-true (is a b a b) (w.queue a b ++ m ∷ []) (w.queue a b) (here a b)) ∙ last_left (w.queue a b) m)
