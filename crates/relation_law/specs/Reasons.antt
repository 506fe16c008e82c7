-- The reason for which a pair goes: the first one that holds.
use Rattle.std.specs.Prelude.{◌≡◌, ◌⊎◌, ℕ, ◌≤◌, Bool, false, not, ◌&&◌, IsTrue, Option, Some, None, option_map, IsSome, if◌then◌else◌}
use Rattle.graph_base.specs.Least.{least_below}
use Rattle.graph_base.specs.declared.refutation.Why.{Why}
use Rattle.graph_base.specs.declared.refutation.Why.TheVariants.{RankWorse, NoStep, StepWorse, LoopWorse, ListenerWorse}
use Rattle.relation_law.specs.Relations.{no_worse}
use Rattle.relation_law.specs.Rounds.{has_answer, is_heard_there, same_place}
use Rattle.relation_law.specs.Views.{View}

-- no pair has gone
abbrev pub none : ℕ → ℕ → Bool
none a b = false

-- the location of n is claimed, and m has a worse rank
abbrev pub is_outranked : View → ℕ → ℕ → Bool
is_outranked v m n = v.claimed (v.place n) && not (no_worse (v.rank m) (v.rank n))

-- the first reason at a step of n to t, where the pairs of gone have gone
abbrev pub reason_at : View → (ℕ → ℕ → Bool) → (ℕ → ℕ → Bool) → ℕ → ℕ → Option Why
reason_at v reach gone m t =
    if v.hears t then (if is_heard_there v m t then None else Some (ListenerWorse (v.place t)))
    else if not (has_answer v none m t) then Some (NoStep (v.place t))
    else if not (has_answer v gone m t) then Some (StepWorse (v.place t))
    else option_map (LoopWorse (v.place t)) (least_below v.size (λ k. same_place v k t && (reach k m && gone k t)))

-- of the steps of n at which there is a reason, this one stands first in order of location
pub record IsFirstFailing (v : View) (reach gone : ℕ → ℕ → Bool) (m n t : ℕ) : Type 0 where
  pub step : IsTrue (v.step n t)
  pub fails : IsSome (reason_at v reach gone m t)
  pub first : (u : ℕ) → IsTrue (v.step n u) → IsSome (reason_at v reach gone m u) → v.place t ≤ v.place u

-- the reason for which m above n goes: the rank, or else the one at the first step that fails
abbrev pub IsReason : View → (ℕ → ℕ → Bool) → (ℕ → ℕ → Bool) → ℕ → ℕ → Why → Type 0
IsReason v reach gone m n why =
    (IsTrue (is_outranked v m n) × (why ≡ RankWorse))
    ⊎ (is_outranked v m n ≡ false) × ((t : ℕ) × IsFirstFailing v reach gone m n t × (reason_at v reach gone m t ≡ Some why))
