-- Chains of pairs that went.
use Rattle.std.proofs.Common.{◌≡◌, ℕ, zero, suc, ◌<◌, ◌≤◌, Bool, true, false, ◌&&◌, ltb, leb, [], ◌∷◌, ◌++◌, inl, inr, ◌⊎◌, arith, refl, sym, ap, ◌∙◌, subst}
use Rattle.std.proofs.lemmas.Bool.{and_from, and_parts, and_right, both_ways, cases_lt, le-leb, le-ltb, leb-true, lt-ltb, ltb-true, or_cases}
use Rattle.bit_rows.specs.Tables.{has_at}
use Rattle.graph_base.specs.declared.refutation.Why.{Why}
use Rattle.graph_base.specs.Graphs.{PlainGraph, IsGraph}
use Rattle.graph_base.specs.Refuting.{HasSingleSteps}
use Rattle.net_base.specs.declared.loc.LocSet.{LocSet}
use Rattle.relation_law.specs.Choosing.{Goes, Rests}
use Rattle.relation_law.specs.Reasons.{IsReason}
use Rattle.relation_law.proofs.Chains.{chain-more}
use Rattle.relation_law.proofs.OneRefutation.{fails_alike, one_why, reasons_alike}
use Rattle.relation_law.proofs.Resting.{rests_earlier}
use Rattle.relation_law.specs.Relations.{Pair}
use Rattle.relation_law.specs.Rounds.{IsReach, fails, gone_after}
use Rattle.relation_law.specs.Views.{View, view_of}
use Rattle.relation_refute.specs.declared.falls.Fallen.{Fallen}
use Rattle.relation_refute.specs.Cells.{IsFallen, round_in, went}
use Rattle.relation_refute.specs.Lines.{Led}
use Rattle.relation_refute.proofs.Telling.{beyond}

module _ (g : PlainGraph) (claimed : LocSet) (ok : IsGraph g) (single : HasSingleSteps g) (f : Fallen) (are : IsFallen g claimed f) where
  abbrev V : View
  V = view_of g claimed

  abbrev reach : ℕ → ℕ → Bool
  reach = has_at f.onwards

  pub exact : IsReach V reach
  exact a b la lb = are.told.exact a b la

  below : (c before : ℕ) → ltb c (suc before) ≡ leb c before
  below c before = elim (cases_lt c (suc before)) [
    | inl t ↦ lt-ltb c (suc before) t ∙ sym (le-leb c before (omega (arith, t)))
    | inr t ↦ le-ltb c (suc before) t ∙ sym (beyond c before (omega (arith, t)))
  ]

  -- what the cells tell of the rounds before is what has gone
  went_is : (before s t : ℕ) → suc before ≤ f.last → Pair V s t → went f (suc before) s t ≡ gone_after V reach before s t
  went_is before s t le p = ap (λ z. ltb 0 (round_in f.cells s t) && z) (below (round_in f.cells s t) before) ∙ sym (are.tells.gone s t before p (omega (arith, le)))

  -- a pair with this round stayed until then, and went in it
  stayed : (before m n : ℕ) → Pair V m n → suc before ≡ round_in f.cells m n → gone_after V reach before m n ≡ false
  stayed before m n p is =
      let most = are.tells.most m n p in
      are.tells.gone m n before p (omega (arith, is, most)) ∙ and_right (ltb 0 (round_in f.cells m n)) (leb (round_in f.cells m n) before) (beyond (round_in f.cells m n) before (omega (arith, is)))

  fell : (before m n : ℕ) → Pair V m n → suc before ≡ round_in f.cells m n → fails V reach (gone_after V reach before) m n ≡ true
  fell before m n p is =
      let most = are.tells.most m n p in
      let gone : gone_after V reach (suc before) m n ≡ true = are.tells.gone m n (suc before) p (omega (arith, is, most))
      ∙ and_from _ _ (lt-ltb 0 (round_in f.cells m n) (omega (arith, is))) (le-leb (round_in f.cells m n) (suc before) (omega (arith, is))) in
      elim (or_cases (gone_after V reach before m n) (fails V reach (gone_after V reach before) m n) gone) [
        | inl e ↦ absurd (both_ways _ (stayed before m n p is) e)
        | inr e ↦ e
      ]

  -- so a rule fails for it against the pairs that the cells tell
  pub fails_told : (round m n : ℕ) → Pair V m n → 0 < round → round ≡ round_in f.cells m n → fails V reach (went f round) m n ≡ true
  fails_told zero m n p over is = absurd (omega (arith, over))
  fails_told (suc before) m n p over is =
      let most = are.tells.most m n p in
      fails_alike g claimed ok single reach reach exact exact (went f (suc before)) (gone_after V reach before)
      (λ s t q. went_is before s t (omega (arith, is, most)) q) m n p.left ∙ fell before m n p is

  pub goes_told : (round m n : ℕ) (why : Why) → Pair V m n → 0 < round → round ≡ round_in f.cells m n → IsReason V reach (went f round) m n why → Goes V reach m n round why
  goes_told zero m n why p over is reason = absurd (omega (arith, over))
  goes_told (suc before) m n why p over is reason =
      let most = are.tells.most m n p in
      record {
        pair = p;
        before = before;
        next = refl;
        stayed = stayed before m n p is;
        fell = fell before m n p is;
        reason =
            reasons_alike g claimed ok single reach reach exact exact (went f (suc before)) (gone_after V reach before)
            (λ s t q. went_is before s t (omega (arith, is, most)) q) m n why p.left reason;
      }

  pub goes_there : (round m n : ℕ) (why : Why) → Pair V m n → round ≡ round_in f.cells m n → 0 < round_in f.cells m n
      → IsReason V reach (went f round) m n why → Goes V reach m n (round_in f.cells m n) why
  goes_there round m n why p is over reason = subst (λ r. Goes V reach m n r why) is (goes_told round m n why p (omega (arith, is, over)) is reason)

  -- the pair on which a reason rests went in an earlier round
  pub earlier_round : (m n round a b : ℕ) (why : Why) (goes : Goes V reach m n round why) → round ≡ round_in f.cells m n → Rests V m n why a b
      → Pair V a b × (0 < round_in f.cells a b) × (round_in f.cells a b < round)
  earlier_round m n round a b why goes is rests =
      let most = are.tells.most m n goes.pair in
      let x = rests_earlier g claimed ok single reach exact m n round a b why goes rests in
      let told = sym (are.tells.gone a b goes.before x.0 (omega (arith, is, most, goes.next))) ∙ x.1 in
      let parts = and_parts (ltb 0 (round_in f.cells a b)) (leb (round_in f.cells a b) goes.before) told in
      let over = ltb-true 0 (round_in f.cells a b) parts.0 in
      let under = leb-true (round_in f.cells a b) goes.before parts.1 in
      (x.0, over, omega (arith, under, goes.next))

  -- ---- chains

  pub led_here : (m n : ℕ) → Led V reach m n m n
  led_here m n = ([], (refl, refl))

  pub led_more : (m n c d a b round : ℕ) (why : Why) → Led V reach m n c d → Goes V reach c d round why → Rests V c d why a b → Led V reach m n a b
  led_more m n c d a b round why (via, chain) goes rests = (via ++ (a, b) ∷ [], chain-more g claimed ok reach exact m n c d a b via round why chain goes rests)

  -- from a pair a chain leads to itself, or to the pair on which it rests and on
  pub led_on : (c d round a b : ℕ) (why : Why) → Goes V reach c d round why → Led V reach c d a b → ((c ≡ a) × (d ≡ b)) ⊎ ((x y : ℕ) × Rests V c d why x y × Led V reach x y a b)
  led_on c d round a b why goes ([], (e, h)) = inl (e, h)
  led_on c d round a b why goes (x ∷ via, (r, w, go, rests, chain)) =
      let same = one_why g claimed ok single reach exact c d r round w why go goes in
      inr (x.0, x.1, subst (λ (z : Why). Rests V c d z x.0 x.1) same rests, (via, chain))
