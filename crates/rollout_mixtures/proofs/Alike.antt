-- Each router holds what it holds where all run what it runs.
use Rattle.std.proofs.Common.{◌≡◌, ℕ, true, sym, ap, ◌∙◌, inl, inr}
use Rattle.net_base.specs.Network.{is_router}
use Rattle.policy_base.specs.Governing.{is_origin}
use Rattle.outcome_base.specs.Outcomes.{Failures}
use Rattle.event_base.specs.Steps.{IsQuiet}
use Rattle.event_law.specs.Kept.{IsKept}
use Rattle.event_law.specs.Scenarios.{IsScenarioOf, routes_of}
use Rattle.rollout_base.specs.Mixtures.{after, begins, mixed}
use Rattle.rollout_rest.proofs.Rest.{keeps}
use Rattle.rollout_mixtures.specs.Alike.{HoldTheirs, RestingAlikesHoldTheirs}
use Rattle.rollout_mixtures.proofs.Idle.{IsIdle}
use Rattle.rollout_mixtures.proofs.Staying.{Stay, new_alone, odd, old_alone, stay_of, through}
use Rattle.rollout_mixtures.proofs.Theirs.{DoAs, held_there, is_heard, own_world}

module _ (k : Stay) where
  -- who is idle for the one is idle for the other
  idle_too : (r : ℕ) → IsIdle k.s.net k.s.p k.old r → IsIdle k.s.net k.s.p k.new r
  idle_too r idle = record { own = sym (k.alike.own r) ∙ idle.own; taken = λ u path t. sym (k.alike.taken r u path t) ∙ idle.taken u path t }

  do_as_old : DoAs k.s k.old
  do_as_old = record {
    says = λ r. (k.runs r).says;
    starts = λ r. elim (k.runs r).policy [
      | inl same ↦ inl (ap (λ policy. is_origin k.s.net policy k.s.p r) same)
      | inr same ↦ elim (odd k r) [
        | inl starts ↦ inl (ap (λ policy. is_origin k.s.net policy k.s.p r) same ∙ starts)
        | inr idle ↦ inr idle
      ]
    ];
    read = k.read;
    alone = old_alone k;
    speaks = k.old_says;
  }

  do_as_new : DoAs k.s k.new
  do_as_new = record {
    says = λ r. through k.s.net k.s.p (k.s.m r).config k.old.config k.new.config (k.runs r).says k.alike;
    starts = λ r. elim (k.runs r).policy [
      | inr same ↦ inl (ap (λ policy. is_origin k.s.net policy k.s.p r) same)
      | inl same ↦ elim (odd k r) [
        | inl starts ↦ inl (ap (λ policy. is_origin k.s.net policy k.s.p r) same ∙ sym starts)
        | inr idle ↦ inr (idle_too r idle)
      ]
    ];
    read = record { sent = λ r z. sym (k.alike.sent r z _) ∙ k.read.sent r z; taken = λ r u path from. sym (k.alike.taken r u path _) ∙ k.read.taken r u path from };
    alone = new_alone k;
    speaks = k.new_says;
  }

  module _ (kept : IsKept (mixed k.s.net k.s.says k.s.p k.s.m) k.s.w) (quiet : IsQuiet k.s.w) (f : Failures) (scenario : IsScenarioOf k.s.net k.s.w f) where
    both_starts : (r : ℕ) → is_router k.s.net r ≡ true → is_origin k.s.net k.old.policy k.s.p r ≡ is_origin k.s.net k.new.policy k.s.p r
        → (is_origin k.s.net (k.s.m r).policy k.s.p r ≡ is_origin k.s.net k.old.policy k.s.p r) × (is_origin k.s.net (k.s.m r).policy k.s.p r ≡ is_origin k.s.net k.new.policy k.s.p r)
    both_starts r router starts = elim (k.runs r).policy [
      | inl same ↦ (let here = ap (λ policy. is_origin k.s.net policy k.s.p r) same in (here, here ∙ starts))
      | inr same ↦ (let here = ap (λ policy. is_origin k.s.net policy k.s.p r) same in (here ∙ sym starts, here))
    ]

    hold_theirs : HoldTheirs k.s.net k.s.p k.old k.new k.s.m f k.s.w
    hold_theirs = record {
      before = routes_of k.s.net (own_world k.s k.old do_as_old);
      is_before = is_heard k.s k.old do_as_old kept quiet k.rules k.prefix k.old_cases k.old_policy k.old_passes f scenario;
      by_old = λ r router same. held_there k.s k.old do_as_old kept quiet r router (ap (λ policy. is_origin k.s.net policy k.s.p r) same);
      now = routes_of k.s.net (own_world k.s k.new do_as_new);
      is_now = is_heard k.s k.new do_as_new kept quiet k.rules k.prefix k.new_cases k.new_policy k.new_passes f scenario;
      by_new = λ r router same. held_there k.s k.new do_as_new kept quiet r router (ap (λ policy. is_origin k.s.net policy k.s.p r) same);
      same = λ r router starts. (
          let both = both_starts r router starts in
          sym (held_there k.s k.old do_as_old kept quiet r router both.0) ∙ held_there k.s k.new do_as_new kept quiet r router both.1);
    }

pub resting_alikes_hold_theirs : RestingAlikesHoldTheirs
resting_alikes_hold_theirs net says p old new cs ds m es f rules lawful passes config lawful' passes' prefix alike peers old_says new_says runs scenario quiet =
    let k = stay_of net says p old new cs ds (after net says p es (begins net says p m)) rules lawful passes config lawful' passes' prefix alike peers old_says new_says runs in
    hold_theirs k (keeps net says p m es rules) quiet f scenario
