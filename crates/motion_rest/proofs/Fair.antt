-- In a schedule that forgets nobody there are as many rounds as one likes.
use Rattle.std.proofs.Common.{◌≡◌, ℕ, ◌<◌, ◌≤◌, ◌+◌, zero, suc, true, false, ◌⊎◌, length, Some, refl, sym, ap, ◌∙◌, subst, inl, inr, arith}
use Rattle.std.specs.Prelude.{◌==◌}
use Rattle.std.proofs.lemmas.Bool.{and_from, cases_Bool, cases_lt, cond-true, eq-eqb, ltb-true, true≢false}
use Rattle.net_base.specs.Network.{PlainNet, IsNet, is_location, is_router, linked}
use Rattle.net_base.specs.Prefixes.{PlainPrefix}
use Rattle.net_base.proofs.Links.{linked_known}
use Rattle.net_base.proofs.RoutersAndPeers.{router_known}
use Rattle.policy_base.specs.Policies.{PlainPolicy}
use Rattle.config_base.specs.Configs.{PlainConfig}
use Rattle.motion_law.specs.Motion.{Motion, Move as move}
use Rattle.motion_law.specs.Rounds.{IsCalm, IsRound, Schedule, hears, is_hear, world_at}
use Rattle.motion_law.proofs.Kept.{IsKept}
use Rattle.motion_law.proofs.Memory.{hears_grow}
use Rattle.motion_rest.specs.Rest.{AreRounds, IsFair}

-- where each of these has a time, they have one together
together : (n start : ℕ) (Q : ℕ → ℕ → Type 0) → ((i t u : ℕ) → t ≤ u → Q i t → Q i u) → ((i : ℕ) → i < n → (t : ℕ) × Q i t) → (t : ℕ) × (start ≤ t) × ((i : ℕ) → i < n → Q i t)
together zero start Q grows each = (start, omega arith, λ i l. absurd (omega (arith, l)))
together (suc n) start Q grows each =
    let a = together n start Q grows (λ i l. each i (omega (arith, l))) in
    let b = each n (omega arith) in
    let first = a.1 in
    (a.0 + b.0, omega (arith, first), λ i l. by i l (cases_lt i n) a b)
  where
    by : (i : ℕ) → i < suc n → (i < n) ⊎ (n ≤ i) → (a : (t : ℕ) × (start ≤ t) × ((i : ℕ) → i < n → Q i t)) → (b : (t : ℕ) × Q n t) → Q i (a.0 + b.0)
    by i l (inl k) a b = grows i a.0 (a.0 + b.0) (omega arith) (a.2 i k)
    by i l (inr k) a b = (let e : n ≡ i = omega (arith, k, l) in grows i b.0 (a.0 + b.0) (omega arith) (subst (λ j. Q j b.0) e b.1))

module _ (net : PlainNet) (policy : PlainPolicy) (config : PlainConfig) (p : PlainPrefix) (rules : IsNet net) (s : Schedule) (calm : IsCalm s) (w : Motion) (keeps : IsKept net policy config p w)
    (fair : IsFair net s) where
  abbrev n : ℕ
  n = length net.routers + length net.peers

  below : (l : ℕ) → is_location net l ≡ true → l < n
  below l h = ltb-true l n h

  -- of pairs of linked locations
  pairs : (start : ℕ) (Q : ℕ → ℕ → ℕ → Type 0) → ((a b t u : ℕ) → t ≤ u → Q a b t → Q a b u) → ((a b : ℕ) → linked net a b ≡ true → (t : ℕ) × Q a b t)
      → (t : ℕ) × (start ≤ t) × ((a b : ℕ) → linked net a b ≡ true → Q a b t)
  pairs start Q grows each =
      let all =
      together n start (λ a t. (b : ℕ) → b < n → linked net a b ≡ true → Q a b t) (λ a t u le h b l on. grows a b t u le (h b l on))
      (λ a l. (let one = together n start (λ b t. linked net a b ≡ true → Q a b t) (λ b t u le h on. grows a b t u le (h on)) (λ b k. some a b (cases_Bool (linked net a b))) in (one.0, one.2))) in
      (all.0, all.1, λ a b on. (let known = linked_known net a b rules on in all.2 a (below a known.0) b (below b known.1) on))
    where
      some : (a b : ℕ) → (linked net a b ≡ true) ⊎ (linked net a b ≡ false) → (t : ℕ) × (linked net a b ≡ true → Q a b t)
      some a b (inl on) = (let x = each a b on in (x.0, λ h. x.1))
      some a b (inr off) = (start, λ on. absurd (true≢false (sym on ∙ off)))

  -- one hears as often as one likes
  often : (a b from : ℕ) → linked net a b ≡ true → (k : ℕ) → (t : ℕ) × (hears s a b from + k ≤ hears s a b t)
  often a b from on zero = (from, omega arith)
  often a b from on (suc k) =
      let before = often a b from on k in
      let x = fair.hears a b before.0 on in
      let grown = hears_grow net policy config p s calm w keeps a b before.0 x.0 x.1 in
      let hear : is_hear a b (s x.0) ≡ true = ap (is_hear a b) x.2 ∙ and_from (a == a) (b == b) (eq-eqb a a refl) (eq-eqb b b refl) in
      let more : hears s a b (suc x.0) ≡ suc (hears s a b x.0) = cond-true (is_hear a b (s x.0)) (suc (hears s a b x.0)) (hears s a b x.0) hear in
      let so_far = before.1 in
      (suc x.0, omega (arith, so_far, grown, more))

  a_round : (start : ℕ) → (end : ℕ) × IsRound net policy config p s w start end
  a_round start =
      let sent =
      pairs start (λ a b t. (i : ℕ) × (start ≤ i) × (i < t) × (s i ≡ Some (move.send a b))) (λ a b t u le h. (let m = h.2 in (h.0, h.1, omega (arith, m, le), h.3)))
      (λ a b on. (let x = fair.sends a b start on in (suc x.0, (x.0, x.1, omega arith, x.2)))) in
      let m = sent.0 in
      let waits : ℕ → ℕ → ℕ = λ a b. length ((world_at net policy config p s w m).queue a b) in
      let heard =
      pairs m (λ a b t. hears s a b m + suc (waits a b) ≤ hears s a b t) (λ a b t u le h. (let g = hears_grow net policy config p s calm w keeps a b t u le in omega (arith, h, g)))
      (λ a b on. often a b m on (suc (waits a b))) in
      let chosen =
      together n heard.0 (λ r t. is_router net r ≡ true → (i : ℕ) × (u : ℕ) × (heard.0 ≤ i) × (i < t) × (s i ≡ Some (move.choose r u)))
      (λ r t u le h router. (let x = h router in let k = x.3 in (x.0, x.1, x.2, omega (arith, k, le), x.4)))
      (λ r l. choice heard.0 r (cases_Bool (is_router net r))) in (
        chosen.0,
        record {
          all_sent = m;
          all_heard = heard.0;
          order = (sent.1, heard.1, chosen.1);
          sends = sent.2;
          hears_all = λ a b on. (let h = heard.2 a b on in omega (arith, h));
          hears_once = λ a b on. (let h = heard.2 a b on in omega (arith, h));
          chooses = λ r router. chosen.2 r (below r (router_known net r router)) router;
        },
      )
    where
      choice : (from r : ℕ) → (is_router net r ≡ true) ⊎ (is_router net r ≡ false) → (t : ℕ) × (is_router net r ≡ true → (i : ℕ) × (u : ℕ) × (from ≤ i) × (i < t) × (s i ≡ Some (move.choose r u)))
      choice from r (inl on) = (let x = fair.chooses r from on in (suc x.0, λ h. (x.0, x.1, x.2, omega arith, x.3)))
      choice from r (inr off) = (from, λ on. absurd (true≢false (sym on ∙ off)))

  pub rounds_come : (k start : ℕ) → (end : ℕ) × AreRounds net policy config p s w k start end
  rounds_come zero start = (start, omega arith)
  rounds_come (suc k) start =
      let one = a_round start in
      let more = rounds_come k one.0 in
      (more.0, (one.0, one.1, more.1))
