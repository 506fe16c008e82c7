-- The memory of a round: after it everybody has heard only what was said since it began.
use Rattle.std.proofs.Common.{◌≡◌, ℕ, ◌≤◌, ◌+◌, zero, suc, Bool, true, List, [], ◌∷◌, ◌++◌, length, Option, None, refl, sym, ap, ◌∙◌, subst, inl, inr, arith}
use Rattle.std.specs.Prelude.{◌&&◌, ◌==◌, if◌then◌else◌}
use Rattle.std.proofs.lemmas.Bool.{cases_Bool, cond-true, cond-false}
use Rattle.event_base.specs.World.{Speakers, World, exported, live, offers}
use Rattle.event_base.specs.Steps.{run}
use Rattle.event_law.specs.Kept.{AreSpeakers, IsKept}
use Rattle.event_law.proofs.Keeping.{run-keeps}
use Rattle.rest_law.specs.Holding.{After, Always, Chooses, Holding, Says}
use Rattle.rest_law.specs.Rounds.{AreRounds, IsRound, deliveries, times}
use Rattle.rest_law.proofs.Failures.{SameFailures, run_more, same_live, same_run, same_running, same_said}
use Rattle.rest_law.proofs.Fresh.{EachOne, behind_last, run-fresh}

times_more : (a b : ℕ) (ds es : List (ℕ × ℕ)) → times a b ds ≤ times a b (ds ++ es)
times_more a b [] es = omega arith
times_more a b (d ∷ ds) es = elim (cases_Bool (a == d.0 && b == d.1)) [
  | inl t ↦ rw t (let h = times_more a b ds es in omega (arith, h))
  | inr f ↦ rw f (times_more a b ds es)
]

module _ {R : Type 0} (net : Speakers R) (n : AreSpeakers net) (w : World R) where
  -- P is kept by deliveries
  pub later : (P : Holding R) (ds : List (ℕ × ℕ)) (v : World R) → Always net P v → Always net P (run net (deliveries ds) v)
  later P ds v always es r = subst (λ (u : World R). P r (u.route r)) (sym (run_more net ds es v)) (always (ds ++ es) r)

  says_now : (P : Holding R) (v : World R) (a b : ℕ) → SameFailures w v → P a (v.route a) → Says net w P a b (exported net v a b)
  says_now P v a b same p = (v.route a, p, same_said net w v same a b (v.route a))

  -- after a round each has heard over a live session only what is said of what was held since the round began, and nothing else waits
  pub memory : (P : Holding R) (v : World R) (ds : List (ℕ × ℕ)) → SameFailures w v → IsKept net v → Always net P v → IsRound v ds
      → (a b : ℕ) → live net w a b ≡ true → EachOne (Says net w P a b) ((run net (deliveries ds) v).heard a b ∷ (run net (deliveries ds) v).queue a b)
  memory P v ds same kept always round a b on =
      let Q = Says net w P a b in
      let last = kept.last a b (same_live net w v same a b ∙ on) ∙ kept.told a b (same_live net w v same a b ∙ on) refl in
      run-fresh net n Q a b ds (length (v.queue a b)) w v same kept on
      (λ es. says_now P (run net (deliveries es) v) a b (same_run net es w v same) (always es a))
      (behind_last net n Q (v.queue a b) (v.heard a b) (subst Q (sym last) (says_now P v a b same (always [] a))))
      (round a b)

  -- so each route is chosen of that
  chooses_now : (P : Holding R) (v : World R) → SameFailures w v → IsKept net v → ((a b : ℕ) → live net w a b ≡ true → Says net w P a b (v.heard a b)) → (r : ℕ) → Chooses net w P r (v.route r)
  chooses_now P v same kept says r = record {
    offer = offers net v r;
    lives = λ u on. subst (Says net w P u r) (sym (cond-true (live net v u r) (v.heard u r) None (same_live net w v same u r ∙ on))) (says u r on);
    fails = λ u off. cond-false (live net v u r) (v.heard u r) None (same_live net w v same u r ∙ off);
    chosen = kept.chosen r refl ∙ ap (λ (b : Bool). if b then net.choose r (offers net v r) else None) (same_running net w v same r);
  }

  pub round-chooses : (P : Holding R) (v : World R) (ds : List (ℕ × ℕ)) → SameFailures w v → IsKept net v → Always net P v → IsRound v ds → Always net (Chooses net w P) (run net (deliveries ds) v)
  round-chooses P v ds same kept always round es r =
      subst (λ (u : World R). Chooses net w P r (u.route r)) (sym (run_more net ds es v))
      (chooses_now P (run net (deliveries (ds ++ es)) v) (same_run net (ds ++ es) w v same) (run-keeps net n (deliveries (ds ++ es)) v kept)
      (λ a b on. (memory P v (ds ++ es) same kept always (λ x y. (let h = round x y in let k = times_more x y ds es in omega (arith, h, k))) a b on).0) r)

  pub round-after : (P : Holding R) (j : ℕ) (v : World R) (ds : List (ℕ × ℕ)) → SameFailures w v → IsKept net v → Always net (After net w P j) v
      → IsRound v ds → Always net (After net w P (suc j)) (run net (deliveries ds) v)
  round-after P j v ds same kept always round es r = (first j (later (After net w P j) ds v always es r), round-chooses (After net w P j) v ds same kept always round es r)
    where
      first : (j : ℕ) {x : Option R} → After net w P j r x → P r x
      first zero a = a
      first (suc j) a = a.0

  -- after j rounds and k more
  pub rounds-after : (k : ℕ) (P : Holding R) (j : ℕ) (v : World R) (ds : List (ℕ × ℕ)) → SameFailures w v → IsKept net v
      → Always net (After net w P j) v → AreRounds net k v ds → Always net (After net w P (j + k)) (run net (deliveries ds) v)
  rounds-after zero P j v ds same kept always rounds =
      let count : j ≡ j + 0 = omega arith in
      subst (λ (i : ℕ). Always net (After net w P i) (run net (deliveries ds) v)) count (later (After net w P j) ds v always)
  rounds-after (suc k) P j v ds same kept always rounds =
      let round = rounds.0 in
      let rest = rounds.1 in
      let next = run net (deliveries round) v in
      let more = rounds-after k P (suc j) next rest (same_run net round w v same) (run-keeps net n (deliveries round) v kept) (round-after P j v round same kept always rounds.3) rounds.4 in
      let here = run_more net round rest v ∙ ap (λ (es : List (ℕ × ℕ)). run net (deliveries es) v) rounds.2 in
      let count : suc j + k ≡ j + suc k = omega arith in
      subst (λ (i : ℕ). Always net (After net w P i) (run net (deliveries ds) v)) count (subst (Always net (After net w P (suc j + k))) here more)
