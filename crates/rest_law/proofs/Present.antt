-- A quiet world stays as it is, and there is a round in every world.
use Rattle.std.proofs.Common.{◌≡◌, ℕ, ◌≤◌, ◌+◌, zero, suc, true, List, [], ◌∷◌, ◌++◌, length, Option, Some, None, refl, sym, ap, ◌∙◌, subst, inl, inr, arith}
use Rattle.std.specs.Prelude.{replicate, ◌==◌}
use Rattle.std.proofs.lemmas.Bool.{and_from, and_left, cases_Bool, eq-eqb}
use Rattle.event_base.specs.declared.event.Event.TheVariants.{Deliver}
use Rattle.event_base.specs.declared.event.EventFault.{EventFault}
use Rattle.event_base.specs.World.{Speakers, World, is}
use Rattle.event_base.specs.Steps.{IsQuiet, delivered, fault_of, happens, or_as_before, run, step}
use Rattle.event_law.specs.Kept.{AreSpeakers, IsKept}
use Rattle.event_law.proofs.Keeping.{run-keeps}
use Rattle.rest_law.specs.Laws.{Lists, each_round, each_waiting}
use Rattle.rest_law.specs.Rounds.{AreRounds, IsRound, deliveries, times}

module _ {R : Type 0} (net : Speakers R) where
  nothing-delivered : (a b : ℕ) (ms : List (Option R)) (w : World R) → ms ≡ [] → delivered net a b ms w ≡ w
  nothing-delivered a b [] w e = refl
  nothing-delivered a b (m ∷ ms) w e = absurd (cc)

  nothing-happens : (a b : ℕ) (w : World R) → w.queue a b ≡ [] → happens net (Deliver a b) w ≡ w
  nothing-happens a b w e = by (fault_of net (Deliver a b) w)
    where
      by : (o : Option EventFault) → or_as_before o (step net (Deliver a b) w) w ≡ w
      by None = nothing-delivered a b (w.queue a b) w e
      by (Some f) = refl

  pub quiet_stays : (w : World R) (ds : List (ℕ × ℕ)) → IsQuiet w → run net (deliveries ds) w ≡ w
  quiet_stays w [] quiet = refl
  quiet_stays w (d ∷ ds) quiet = ap (run net (deliveries ds)) (nothing-happens d.0 d.1 w (quiet d.0 d.1)) ∙ quiet_stays w ds quiet

pub times_sum : (a b : ℕ) (ds es : List (ℕ × ℕ)) → times a b (ds ++ es) ≡ times a b ds + times a b es
times_sum a b [] es = omega arith
times_sum a b (d ∷ ds) es = elim (cases_Bool (is d.0 d.1 a b)) [
  | inl t ↦ rw t (let h = times_sum a b ds es in omega (arith, h))
  | inr f ↦ rw f (times_sum a b ds es)
]

times_all : (a b k : ℕ) → times a b (replicate k (a, b)) ≡ k
times_all a b zero = refl
times_all a b (suc k) = rw (and_from (a == a) (b == b) (eq-eqb a a refl) (eq-eqb b b refl)) (ap suc (times_all a b k))

module _ {R : Type 0} (w : World R) (a b : ℕ) where
  waiting : (links : List (ℕ × ℕ)) → Lists links a b → length (w.queue a b) ≤ times a b (each_waiting w links)
  waiting [] h = absurd h
  waiting (d ∷ links) (inl here) =
      let count = times_sum a b (replicate (length (w.queue d.0 d.1)) d) (each_waiting w links) in
      let all : times a b (replicate (length (w.queue d.0 d.1)) d) ≡ length (w.queue a b) =
      ap (λ (e : ℕ × ℕ). times a b (replicate (length (w.queue e.0 e.1)) e)) here ∙ times_all a b (length (w.queue a b)) in
      omega (arith, count, all)
  waiting (d ∷ links) (inr later) =
      let count = times_sum a b (replicate (length (w.queue d.0 d.1)) d) (each_waiting w links) in
      let rest = waiting links later in
      omega (arith, count, rest)

pub rounds_are_there : {R : Type 0} (net : Speakers R) (w : World R) (links : List (ℕ × ℕ)) → IsKept net w → ((a b : ℕ) → net.linked a b ≡ true → Lists links a b) → IsRound w (each_waiting w links)
rounds_are_there net w links kept all a b = elim (cases_Bool (net.linked a b)) [
  | inl t ↦ waiting w a b links (all a b t)
  | inr f ↦ subst (λ ms. length ms ≤ times a b (each_waiting w links)) (sym ((kept.empty a b (and_left (net.linked a b) _ f)).0)) (omega arith)
]

-- where there are so many rounds, there are fewer
pub fewer_rounds : {R : Type 0} (net : Speakers R) (j k : ℕ) (w : World R) (ds : List (ℕ × ℕ)) → j ≤ k → AreRounds net k w ds → AreRounds net j w ds
fewer_rounds net zero k w ds less rounds = tt
fewer_rounds net (suc j) zero w ds less rounds = absurd (omega (arith, less))
fewer_rounds net (suc j) (suc k) w ds less rounds = (rounds.0, rounds.1, rounds.2, rounds.3, fewer_rounds net j k (run net (deliveries rounds.0) w) rounds.1 (omega (arith, less)) rounds.4)

pub rounds_go_on : {R : Type 0} (net : Speakers R) → AreSpeakers net → (links : List (ℕ × ℕ)) → ((a b : ℕ) → net.linked a b ≡ true → Lists links a b)
    → (k : ℕ) (w : World R) → IsKept net w → AreRounds net k w (each_round net links k w)
rounds_go_on net n links all zero w kept = tt
rounds_go_on net n links all (suc k) w kept =
    let round = each_waiting w links in
    let next = run net (deliveries round) w in
    (round, each_round net links k next, refl, rounds_are_there net w links kept all, rounds_go_on net n links all k next (run-keeps net n (deliveries round) w kept))
