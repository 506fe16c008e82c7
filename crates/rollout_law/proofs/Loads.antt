-- What holds of each part that is run or loaded.
use Rattle.std.proofs.Common.{ℕ, Bool, List, [], ◌∷◌, sym, subst, inl, inr}
use Rattle.std.proofs.lemmas.Bool.{cases_Bool, cond-true, cond-false, eqb-true}
use Rattle.net_base.specs.Network.{PlainNet}
use Rattle.net_base.specs.Prefixes.{PlainPrefix}
use Rattle.config_base.specs.declared.route.Route.{Route}
use Rattle.event_base.specs.World.{at}
use Rattle.event_law.specs.Kinds.{AreKinds, IsKind}
use Rattle.event_law.proofs.KindsKept.{choose_again-kinds, happens-kinds}
use Rattle.rollout_base.specs.Mixtures.{Change, Change as change, Load, Loaded, Mixture, Part, Running, after, mixed, with_part}

pub loaded_so : (P Q : ℕ → Part → Type 0) → ((r : ℕ) (part : Part) → P r part → Q r part) → (cs : List Change) → Loaded P cs → Loaded Q cs
loaded_so P Q f [] all = tt
loaded_so P Q f (change.event e ∷ cs) all = loaded_so P Q f cs all
loaded_so P Q f (change.load l ∷ cs) all = (f l.router l.part all.0, loaded_so P Q f cs all.1)

-- what holds of all holds on where one takes a part of which it holds
pub loaded_on : (P : ℕ → Part → Type 0) (l : Load) (m : Mixture) → ((r : ℕ) → P r (m r)) → P l.router l.part → (r : ℕ) → P r (with_part l.router l.part m r)
loaded_on P l m before new r = elim (cases_Bool (at l.router r)) [
  | inl here ↦ subst (P r) (sym (cond-true (at l.router r) l.part (m r) here)) (subst (λ (z : ℕ). P z l.part) (sym (eqb-true r l.router here)) new)
  | inr other ↦ subst (P r) (sym (cond-false (at l.router r) l.part (m r) other)) (before r)
]

-- kinds that mixtures of such parts keep stay through events and loads
module _ (net : PlainNet) (says : ℕ → Bool) (p : PlainPrefix) (P : ℕ → Part → Type 0) (hold : ℕ → Route → Type 0) (on : ℕ → ℕ → Route → Type 0)
    (kind : (m : Mixture) → ((r : ℕ) → P r (m r)) → IsKind (mixed net says p m) hold on) where
  pub kinds_after : (cs : List Change) (s : Running) → ((r : ℕ) → P r (s.runs r)) → Loaded P cs → AreKinds hold on s.world → AreKinds hold on (after net says p cs s).world
  kinds_after [] s runs loaded k = k
  kinds_after (change.event e ∷ cs) s runs loaded k =
      kinds_after cs (record { runs = s.runs; world = _ }) runs loaded (happens-kinds (mixed net says p s.runs) hold on (kind s.runs runs) e s.world k)
  kinds_after (change.load l ∷ cs) s runs loaded k =
      let next = with_part l.router l.part s.runs in
      let runs' = loaded_on P l s.runs runs loaded.0 in
      kinds_after cs (record { runs = next; world = _ }) runs' loaded.1 (choose_again-kinds (mixed net says p next) hold on (kind next runs') l.router s.world k)
