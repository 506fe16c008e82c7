-- A fair schedule has rounds.
use Rattle.std.proofs.Common.{◌≡◌, ℕ, ◌≤◌, ◌+◌, ◌-◌, zero, suc, true, List, [], ◌∷◌, ◌++◌, length, Option, refl, sym, ap, ◌∙◌, subst, inl, inr, arith, append_assoc}
use Rattle.std.specs.Prelude.{◌==◌}
use Rattle.std.proofs.lemmas.Bool.{and_from, and_left, cases_Bool, eq-eqb}
use Rattle.event_base.specs.Steps.{run}
use Rattle.event_base.specs.World.{Speakers, World, is}
use Rattle.event_law.specs.Kept.{AreSpeakers, IsKept}
use Rattle.event_law.proofs.Keeping.{run-keeps}
use Rattle.rest_law.specs.Laws.{Lists}
use Rattle.rest_law.specs.Rounds.{AreRounds, IsFair, IsRound, deliveries, stretch, times}
use Rattle.rest_law.proofs.Present.{times_sum}

module _ (f : ℕ → ℕ × ℕ) where
  stretch_more : (n k start : ℕ) → stretch f start (n + k) ≡ stretch f start n ++ stretch f (start + n) k
  stretch_more zero k start =
      let a : 0 + k ≡ k = omega arith in
      let b : start ≡ start + 0 = omega arith in
      ap (stretch f start) a ∙ ap (λ i. stretch f i k) b
  stretch_more (suc n) k start =
      let a : suc n + k ≡ suc (n + k) = omega arith in
      let b : suc start + n ≡ start + suc n = omega arith in
      ap (stretch f start) a ∙ ap (λ (ds : List (ℕ × ℕ)). f start ∷ ds) (stretch_more n k (suc start)) ∙ ap (λ i. f start ∷ stretch f (suc start) n ++ stretch f i k) b

  longer : (a b n k start : ℕ) → times a b (stretch f start n) ≤ times a b (stretch f start (n + k))
  longer a b n k start =
      let e = ap (times a b) (stretch_more n k start) ∙ times_sum a b (stretch f start n) (stretch f (start + n) k) in
      omega (arith, e)

  longer_too : (a b n k start : ℕ) → times a b (stretch f start k) ≤ times a b (stretch f start (n + k))
  longer_too a b n k start =
      let swap : k + n ≡ n + k = omega arith in
      subst (λ i. times a b (stretch f start k) ≤ times a b (stretch f start i)) swap (longer a b k n start)

  counted : (a b m n : ℕ) → f m ≡ (a, b) → times a b (stretch f m (suc n)) ≡ suc (times a b (stretch f (suc m) n))
  counted a b m n e =
      let here : is (f m).0 (f m).1 a b ≡ true = and_from (a == (f m).0) (b == (f m).1) (eq-eqb a (f m).0 (ap (λ (d : ℕ × ℕ). d.0) (sym e))) (eq-eqb b (f m).1 (ap (λ (d : ℕ × ℕ). d.1) (sym e))) in
      rw here refl

  enough : (a b : ℕ) → ((n : ℕ) → (m : ℕ) × (n ≤ m) × (f m ≡ (a, b))) → (l start : ℕ) → (n : ℕ) × (l ≤ times a b (stretch f start n))
  enough a b fair zero start = (0, omega arith)
  enough a b fair (suc l) start =
      let at = fair start in
      let m = at.0 in
      let rest = enough a b fair l (suc m) in
      let there : start + (m - start) ≡ m = (let le = at.1 in omega (arith, le)) in
      let split = ap (times a b) (stretch_more (m - start) (suc rest.0) start) ∙ times_sum a b (stretch f start (m - start)) (stretch f (start + (m - start)) (suc rest.0)) in
      let last = ap (λ i. times a b (stretch f i (suc rest.0))) there ∙ counted a b m rest.0 at.2 in
      let more = rest.1 in
      ((m - start) + suc rest.0, omega (arith, split, last, more))

module _ {R : Type 0} (net : Speakers R) (n : AreSpeakers net) (f : ℕ → ℕ × ℕ) (fair : IsFair net f) where
  for_each : (w : World R) → IsKept net w → (start : ℕ) (links : List (ℕ × ℕ)) → (n : ℕ) × ((a b : ℕ) → Lists links a b → length (w.queue a b) ≤ times a b (stretch f start n))
  for_each w kept start [] = (0, λ a b h. absurd h)
  for_each w kept start (d ∷ links) =
      let first : (n : ℕ) × (length (w.queue d.0 d.1) ≤ times d.0 d.1 (stretch f start n)) = elim (cases_Bool (net.linked d.0 d.1)) [
        | inl t ↦ enough f d.0 d.1 (λ n. fair d.0 d.1 n t) (length (w.queue d.0 d.1)) start
        | inr off ↦ (0, subst (λ (ms : List (Option R)). length ms ≤ 0) (sym ((kept.empty d.0 d.1 (and_left (net.linked d.0 d.1) _ off)).0)) (omega arith))
      ] in
      let rest = for_each w kept start links in (
        first.0 + rest.0,
        λ a b h. elim h [
          | inl here ↦ (
              let k = longer f d.0 d.1 first.0 rest.0 start in
              let l = first.1 in
              let le : length (w.queue d.0 d.1) ≤ times d.0 d.1 (stretch f start (first.0 + rest.0)) = omega (arith, k, l) in
              subst (λ (e : ℕ × ℕ). length (w.queue e.0 e.1) ≤ times e.0 e.1 (stretch f start (first.0 + rest.0))) here le)
          | inr later ↦ (let k = longer_too f a b first.0 rest.0 start in let l = rest.1 a b later in omega (arith, k, l))
        ],
      )

  module _ (links : List (ℕ × ℕ)) (all : (a b : ℕ) → net.linked a b ≡ true → Lists links a b) where
    a_round : (w : World R) → IsKept net w → (start : ℕ) → (n : ℕ) × IsRound w (stretch f start n)
    a_round w kept start =
        let each = for_each w kept start links in (
          each.0,
          λ a b. elim (cases_Bool (net.linked a b)) [
            | inl t ↦ each.1 a b (all a b t)
            | inr off ↦ subst (λ (ms : List (Option R)). length ms ≤ times a b (stretch f start each.0)) (sym ((kept.empty a b (and_left (net.linked a b) _ off)).0)) (omega arith)
          ],
        )

    pub fair_rounds : (k : ℕ) (w : World R) → IsKept net w → (start : ℕ) → (n : ℕ) × AreRounds net k w (stretch f start n)
    fair_rounds zero w kept start = (0, tt)
    fair_rounds (suc k) w kept start =
        let round = a_round w kept start in
        let next = run net (deliveries (stretch f start round.0)) w in
        let rest = fair_rounds k next (run-keeps net n (deliveries (stretch f start round.0)) w kept) (start + round.0) in
        (round.0 + rest.0, (stretch f start round.0, stretch f (start + round.0) rest.0, sym (stretch_more f round.0 rest.0 start), round.1, rest.1))

-- rounds and further deliveries behind them
more_behind : {R : Type 0} (net : Speakers R) (k : ℕ) (w : World R) (ds es : List (ℕ × ℕ)) → AreRounds net k w ds → AreRounds net k w (ds ++ es)
more_behind net zero w ds es rounds = tt
more_behind net (suc k) w ds es rounds = (
  rounds.0,
  rounds.1 ++ es,
  sym (append_assoc rounds.0 rounds.1 es)
      ∙ ap (λ (z : List (ℕ × ℕ)). z ++ es) rounds.2,
  rounds.3,
  more_behind net k (run net (deliveries rounds.0) w) rounds.1 es rounds.4,
)

pub rounds_before : {R : Type 0} (net : Speakers R) (f : ℕ → ℕ × ℕ) (k n m : ℕ) (w : World R) → n ≤ m → AreRounds net k w (stretch f 0 n) → AreRounds net k w (stretch f 0 m)
rounds_before net f k n m w le rounds =
    let there : n + (m - n) ≡ m = omega (arith, le) in
    subst (λ i. AreRounds net k w (stretch f 0 i)) there (subst (AreRounds net k w) (sym (stretch_more f n (m - n) 0)) (more_behind net k w (stretch f 0 n) (stretch f (0 + n) (m - n)) rounds))
