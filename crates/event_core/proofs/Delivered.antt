-- A message that is delivered might as well leave its queue in the end.
use Rattle.std.proofs.Common.{◌≡◌, ◌≢◌, ℕ, ◌<◌, true, ◌&&◌, List, [], ◌∷◌, ◌++◌, Option, Some, None, drop, inl, inr, refl, sym, ap, ◌∙◌, arith}
use Rattle.std.specs.Prelude.{if◌then◌else◌}
use Rattle.std.proofs.lemmas.Bool.{cases_Bool, cond-true, cond-false, ne_eqb}
use Rattle.list_law.proofs.Members.{AllByRecursion-IsIn, list_any_member}
use Rattle.config_base.specs.declared.route.Route.{Route}
use Rattle.net_base.specs.Network.{PlainNet, IsLink, IsNet, joins, linked}
use Rattle.net_base.proofs.Links.{joins_ends}
use Rattle.event_base.specs.declared.event.Event.TheVariants.{Deliver}
use Rattle.event_base.specs.declared.event.EventFault.{EventFault}
use Rattle.event_base.specs.declared.event.EventFault.TheVariants.{NothingWaits}
use Rattle.event_base.specs.Steps.{step, unless_waiting}
use Rattle.event_base.specs.World.{Speakers, World, at, choose_again, exported, owes, running, tell, with_choice}
use Rattle.event_law.proofs.Together.{order_is_free}
use Rattle.event_law.specs.Kept.{nowhere}
use Rattle.event_state.specs.Changes.{with_heard, with_queue}
use Rattle.event_core.specs.AtOnce.{settled, up_among}
use Rattle.event_core.proofs.OneGo.{events_settle_at_once, settled_alone}

-- linked locations differ
pub linked_apart : (net : PlainNet) (a b : ℕ) → IsNet net → linked net a b ≡ true → a ≢ b
linked_apart net a b rules h same =
    by (list_any_member (joins a b) net.links h).0 (AllByRecursion-IsIn (IsLink net) net.links (list_any_member (joins a b) net.links h).0 rules.links
    (list_any_member (joins a b) net.links h).1).0 (list_any_member (joins a b) net.links h).2
  where
    by : (k : ℕ × ℕ) → k.0 < k.1 → joins a b k ≡ true → ⊥
    by k less j = elim (joins_ends a b k j) [ inl e ↦ omega (arith, less, e.0, e.1, same) | inr e ↦ omega (arith, less, e.0, e.1, same) ]

module _ (S : Speakers Route) (a b : ℕ) (apart : a ≢ b) where
  -- the receiver queues nothing from the sender to itself
  same_queue : (w : World Route) → (choose_again S b w).queue a b ≡ w.queue a b
  same_queue w = elim (cases_Bool (running S w b)) [
    | inl t ↦ ap (λ (v : World Route). v.queue a b) (cond-true (running S w b) (tell S (λ x y. at b x) (with_choice S b w)) w t)
        ∙ ap (λ c. if c && owes S (with_choice S b w) a b then w.queue a b ++ exported S (with_choice S b w) a b ∷ [] else w.queue a b) (ne_eqb a b apart)
    | inr f ↦ ap (λ (v : World Route). v.queue a b) (cond-false (running S w b) (tell S (λ x y. at b x) (with_choice S b w)) w f)
  ]

  at_once_alone : (w : World Route) → choose_again S b w ≡ settled S (up_among S (b ∷ []) w) (nowhere S) w
  at_once_alone w = order_is_free S (b ∷ []) w (refl, tt) ∙ settled_alone S (up_among S (b ∷ []) w) w

  pub delivered_last : (m : Option Route) (rest : List (Option Route)) (w v : World Route) → w.queue a b ≡ m ∷ rest → v ≡ choose_again S b (with_heard a b m w)
      → with_queue a b (drop 1 (v.queue a b)) v ≡ step S (Deliver a b) w
  delivered_last m rest w v q e =
      ap (λ (u : World Route). with_queue a b (drop 1 (u.queue a b)) u) e
      ∙ ap (λ ms. with_queue a b (drop 1 ms) (choose_again S b (with_heard a b m w))) (same_queue (with_heard a b m w) ∙ q)
      ∙ ap (with_queue a b rest) (at_once_alone (with_heard a b m w))
      ∙ sym ((events_settle_at_once S).deliver a b m rest w apart q)

-- where nothing is wrong with a delivery a message waits
pub waiting_first : (ms : List (Option Route)) → unless_waiting ms ≡ None → (m : Option Route) × (rest : List (Option Route)) × (ms ≡ m ∷ rest)
waiting_first [] h = absurd (none h)
  where
    none : (let fault : Option EventFault = Some NothingWaits in fault ≡ None) → ⊥
    none e = cc
waiting_first (m ∷ rest) h = (m, rest, refl)
