-- The opening world, one router and one location after another.
use Rattle.std.proofs.Common.{◌≡◌, ℕ, ◌+◌, Bool, true, false, ◌||◌, Option, None, refl, sym, ap, ◌∙◌, add-one}
use Rattle.std.specs.Prelude.{if◌then◌else◌, ◌==◌, nat_lt}
use Rattle.std.proofs.lemmas.Bool.{and_parts, and_from, cond-true, cond-false, eqb-true}
use Rattle.list_law.proofs.Numbers.{nat_lt_more, nat_lt-zero}
use Rattle.config_base.specs.declared.route.Route.{Route}
use Rattle.net_base.specs.Network.{IsNet, is_location, linked}
use Rattle.net_base.proofs.Links.{linked_known}
use Rattle.event_base.specs.World.{Speakers, World, at, choice, live, offers, running, tell, with_choice}
use Rattle.event_state.specs.declared.world.World.{World as Kept}
use Rattle.event_state.specs.States.{blank, speakers}
use Rattle.event_core.proofs.Tellings.{told_alike}
use Rattle.event_core.proofs.OneGo.{told_once}

one_less : (x n : ℕ) → (nat_lt x n || x == n) ≡ nat_lt x (n + 1)
one_less x n = nat_lt_more x n ∙ ap (nat_lt x) (sym (add-one n))

module _ (S : Speakers Route) where
  -- the first routers hold their choices over nothing
  abbrev pub opened : ℕ → World Route
  opened n = record blank { route = λ x. if nat_lt x n then S.choose x (λ u. None) else None }

  pub opened_first : blank ≡ opened 0
  opened_first = λ i. record blank { route = λ x. sym (cond-false (nat_lt x 0) (S.choose x (λ u. None)) None (nat_lt-zero x)) i }

  silent_offers : (n r : ℕ) → offers S (opened n) r ≡ (λ u. None)
  silent_offers n r = λ i u. same (live S (opened n) u r) i
    where
      same : (b : Bool) → (let nothing : Option Route = None in (if b then nothing else None) ≡ None)
      same true = refl
      same false = refl

  pub opened_next : (n : ℕ) → S.is_router n ≡ true → with_choice S n (opened n) ≡ opened (n + 1)
  opened_next n h = λ i. record blank { route = λ x. each x i }
    where
      chosen : choice S (opened n) n ≡ S.choose n (λ u. None)
      chosen = cond-true (running S (opened n) n) (S.choose n (offers S (opened n) n)) None (and_from (S.is_router n) true h refl) ∙ ap (S.choose n) (silent_offers n n)

      either : (c d : Bool) (v old : Option Route) → (d ≡ true → v ≡ old) → (let nothing : Option Route = None in (if d then v else (if c then old else nothing)) ≡ (if c || d then old else nothing))
      either true true v old e = e refl
      either true false v old e = refl
      either false true v old e = e refl
      either false false v old e = refl

      each : (x : ℕ) → (if at n x then choice S (opened n) n else (if nat_lt x n then S.choose x (λ u. None) else None)) ≡ (if nat_lt x (n + 1) then S.choose x (λ u. None) else None)
      each x =
          either (nat_lt x n) (x == n) (choice S (opened n) n) (S.choose x (λ u. None)) (λ t. chosen ∙ ap (λ z. S.choose z (λ u. None)) (sym (eqb-true x n t)))
          ∙ ap (λ b. if b then S.choose x (λ u. None) else None) (one_less x n)

  pub told_below_next : (own : (m : Option Route) → S.same m m ≡ true) (n : ℕ) (w : World Route) → tell S (λ a b. at n a) (tell S (λ a b. nat_lt a n) w) ≡ tell S (λ a b. nat_lt a (n + 1)) w
  told_below_next own n w = told_once S own (λ a b. nat_lt a n) (λ a b. at n a) w ∙ ap (λ (q : ℕ → ℕ → Bool). tell S q w) (λ i a b. one_less a n i)

-- in the end all have
pub told_everywhere : (kept : Kept) → IsNet kept.net.now → (n : ℕ) → ((a : ℕ) → is_location kept.net.now a ≡ true → nat_lt a n ≡ true)
    → (w : World Route) → tell (speakers kept) (λ a b. nat_lt a n) w ≡ tell (speakers kept) (λ a b. true) w
told_everywhere kept rules n all w = told_alike (speakers kept) (λ a b. nat_lt a n) (λ a b. true) w (λ a b h. all a (linked_known kept.net.now a b rules (and_parts (linked kept.net.now a b) _ h).0).0)
