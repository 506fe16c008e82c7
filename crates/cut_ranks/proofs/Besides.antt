-- What fails besides some failures adds to what is dead, and silences nobody.
use Rattle.std.proofs.Common.{◌≡◌, ℕ, Bool, true, false, not, ◌&&◌, ◌||◌, refl, sym, ap, ◌∙◌}
use Rattle.std.specs.Prelude.{◌==◌}
use Rattle.std.proofs.Math.Bool.{and-false, and_comm, or-false}
use Rattle.net_base.specs.Network.{PlainNet, is_peer, joins, linked}
use Rattle.outcome_base.specs.Outcomes.{Failures, is_dead, is_dead_link, is_live, is_silent, no_failures}
use Rattle.scenarios.specs.Surviving.{carries}
use Rattle.impact_law.specs.Cuts.{with_cut}
use Rattle.impact_law.specs.declared.impact.Cut.{Cut}
use Rattle.impact_law.specs.declared.impact.Cut.TheVariants.{Link, Router}
use Rattle.cut_ranks.specs.Left.{spares}

-- h is f, and k besides
pub record IsBesides (f k h : Failures) : Type 0 where
  pub dead : (l : ℕ) → is_dead h l ≡ (is_dead k l || is_dead f l)
  pub link : (a b : ℕ) → is_dead_link h a b ≡ (is_dead_link k a b || is_dead_link f a b)
  pub silent : (r p : ℕ) → is_silent h r p ≡ is_silent f r p

pub none_besides : (f : Failures) → IsBesides f no_failures f
none_besides f = record { dead = λ l. refl; link = λ a b. refl; silent = λ r p. refl }

pub cut_besides : (cut : Cut) (f : Failures) → IsBesides f (with_cut cut no_failures) (with_cut cut f)
cut_besides (Link x y) f = record {
  dead = λ l. refl;
  link = λ a b. ap (λ o. o || is_dead_link f a b) (sym (or-false (joins a b (x, y))));
  silent = λ r p. refl;
}
cut_besides (Router x) f = record {
  dead = λ l. ap (λ o. o || is_dead f l) (sym (or-false (x == l)));
  link = λ a b. refl;
  silent = λ r p. refl;
}

live_both : (l x a y b z c : Bool) → (l && not (x || a) && not (y || b) && not (z || c)) ≡ ((l && not a && not b && not c) && (not x && not y && not z))
live_both false x a y b z c = refl
live_both true true a y b z c = sym (and-false (true && not a && not b && not c))
live_both true false true y b z c = refl
live_both true false false true b z c = sym (and-false (true && not b && not c))
live_both true false false false true z c = refl
live_both true false false false false true c = sym (and-false (not c))
live_both true false false false false false true = refl
live_both true false false false false false false = refl

turn : (a b c : Bool) → ((a && b) && c) ≡ ((a && c) && b)
turn false b c = refl
turn true b c = and_comm b c

alive_both : (a b : Bool) → not a ≡ true → not b ≡ true → not (b || a) ≡ true
alive_both true b h k = absurd (cc)
alive_both false true h k = absurd (cc)
alive_both false false h k = refl

parts_alive : (a b : Bool) → not (b || a) ≡ true → (not a ≡ true) × (not b ≡ true)
parts_alive true true h = absurd (cc)
parts_alive true false h = absurd (cc)
parts_alive false true h = absurd (cc)
parts_alive false false h = (refl, refl)

module _ (net : PlainNet) (f k h : Failures) (is : IsBesides f k h) where
  pub lives : (l : ℕ) → not (is_dead f l) ≡ true → not (is_dead k l) ≡ true → not (is_dead h l) ≡ true
  lives l a b = ap not (is.dead l) ∙ alive_both (is_dead f l) (is_dead k l) a b

  pub alive_parts : (l : ℕ) → not (is_dead h l) ≡ true → (not (is_dead f l) ≡ true) × (not (is_dead k l) ≡ true)
  alive_parts l a = parts_alive (is_dead f l) (is_dead k l) (sym (ap not (is.dead l)) ∙ a)

  pub live_is : (a b : ℕ) → is_live net h a b ≡ (is_live net f a b && spares k a b)
  live_is a b =
      ap (λ o. linked net a b && not o && not (is_dead h a) && not (is_dead h b)) (is.link a b)
      ∙ ap (λ o. linked net a b && not (is_dead_link k a b || is_dead_link f a b) && not o && not (is_dead h b)) (is.dead a)
      ∙ ap (λ o. linked net a b && not (is_dead_link k a b || is_dead_link f a b) && not (is_dead k a || is_dead f a) && not o) (is.dead b)
      ∙ live_both (linked net a b) (is_dead_link k a b) (is_dead_link f a b) (is_dead k a) (is_dead f a) (is_dead k b) (is_dead f b)

  pub carries_is : (a b : ℕ) → carries net h a b ≡ (carries net f a b && spares k a b)
  carries_is a b =
      ap (λ o. is_live net h a b && not (is_peer net a && o)) (is.silent b a)
      ∙ ap (λ o. o && not (is_peer net a && is_silent f b a)) (live_is a b)
      ∙ turn (is_live net f a b) (spares k a b) (not (is_peer net a && is_silent f b a))
