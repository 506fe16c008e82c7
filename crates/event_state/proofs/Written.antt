-- A world in whose lists one entry is written.
use Rattle.std.proofs.Common.{◌≡◌, ℕ, ◌+◌, ◌<◌, Bool, false, List, [], length, get_or, Option, None, arith, sym, ap, ◌∙◌}
use Rattle.std.specs.Prelude.{slice_index_or, slice_set, Some, if◌then◌else◌}
use Rattle.std.specs.Option.{option_map_or}
use Rattle.std.proofs.lemmas.List.{get_or_default}
use Rattle.net_base.specs.Network.{IsNet}
use Rattle.config_base.specs.declared.route.Route.{Route}
use Rattle.event_base.specs.World.{is}
use Rattle.event_state.specs.declared.world.World.{World as Kept}
use Rattle.event_state.specs.Changes.{with_cut_way, with_heard, with_queue, with_queued, with_silence}
use Rattle.event_state.specs.Directions.{at_direction, direction}
use Rattle.event_state.specs.Sizes.{IsByDirection}
use Rattle.event_state.specs.States.{state, state_of}
use Rattle.event_state.proofs.Ways.{written}

-- an entry of a direction of a link
module _ (w : Kept) (a b d : ℕ) (at : direction w.net.now a b ≡ Some d) (within : d < length w.net.now.links + length w.net.now.links) where
  inside : {A : Type 0} (xs : List A) → IsByDirection w.net.now xs → d < length xs
  inside xs long = omega (arith, long, within)

  -- what stands there
  queue_at : (held : List (Option Route)) → held ≡ get_or w.queues.items d held → held ≡ (state w).queue a b
  queue_at held is =
      is ∙ get_or_default w.queues.items d held [] (inside w.queues.items w.by_direction.2)
      ∙ sym (ap (λ o. option_map_or (λ e. slice_index_or w.queues.items e []) o []) at)

  module _ (rules : IsNet w.net.now) where
    there : {A : Type 0} (xs : List A) → IsByDirection w.net.now xs → (nothing v : A) (x y : ℕ)
        → at_direction w.net.now (slice_set xs d v) nothing x y ≡ (if is a b x y then v else at_direction w.net.now xs nothing x y)
    there xs long nothing v = written w.net.now rules xs nothing v a b d at (inside xs long)

    pub cut_written : (v : Bool)
        → state_of w.net.now w.down.items w.routes.items (slice_set w.cut.items d v) w.silent.items w.queues.items w.heard.items w.queued.items ≡ with_cut_way a b v (state w)
    cut_written v = λ i. record (state w) { cut = λ x y. there w.cut.items w.by_direction.0 false v x y i }

    pub silent_written : (v : Bool)
        → state_of w.net.now w.down.items w.routes.items w.cut.items (slice_set w.silent.items d v) w.queues.items w.heard.items w.queued.items ≡ with_silence a b v (state w)
    silent_written v = λ i. record (state w) { silent = λ x y. there w.silent.items w.by_direction.1 false v x y i }

    pub queue_written : (ms now : List (Option Route)) → now ≡ ms
        → state_of w.net.now w.down.items w.routes.items w.cut.items w.silent.items (slice_set w.queues.items d now) w.heard.items w.queued.items ≡ with_queue a b ms (state w)
    queue_written ms now e =
        ap (λ q. state_of w.net.now w.down.items w.routes.items w.cut.items w.silent.items (slice_set w.queues.items d q) w.heard.items w.queued.items) e
        ∙ (λ i. record (state w) { queue = λ x y. there w.queues.items w.by_direction.2 [] ms x y i })

    -- where it is changed in its place
    pub queue_changed : (f : List (Option Route) → List (Option Route)) (held now : List (Option Route)) → held ≡ get_or w.queues.items d held → now ≡ f held
        → state_of w.net.now w.down.items w.routes.items w.cut.items w.silent.items (slice_set w.queues.items d now) w.heard.items w.queued.items
        ≡ with_queue a b (f ((state w).queue a b)) (state w)
    queue_changed f held now is e = queue_written (f ((state w).queue a b)) now (e ∙ ap f (queue_at held is))

    pub heard_written : (m now : Option Route) → now ≡ m
        → state_of w.net.now w.down.items w.routes.items w.cut.items w.silent.items w.queues.items (slice_set w.heard.items d now) w.queued.items ≡ with_heard a b m (state w)
    heard_written m now e =
        ap (λ h. state_of w.net.now w.down.items w.routes.items w.cut.items w.silent.items w.queues.items (slice_set w.heard.items d h) w.queued.items) e
        ∙ (λ i. record (state w) { heard = λ x y. there w.heard.items w.by_direction.3 None m x y i })

    pub queued_written : (m now : Option Route) → now ≡ m
        → state_of w.net.now w.down.items w.routes.items w.cut.items w.silent.items w.queues.items w.heard.items (slice_set w.queued.items d now) ≡ with_queued a b m (state w)
    queued_written m now e =
        ap (λ h. state_of w.net.now w.down.items w.routes.items w.cut.items w.silent.items w.queues.items w.heard.items (slice_set w.queued.items d h)) e
        ∙ (λ i. record (state w) { queued = λ x y. there w.queued.items w.by_direction.4 None m x y i })
