-- The two sides of a mixture, and who takes no part in each.
use Rattle.std.proofs.Common.{◌≡◌, ℕ, Bool, true, false, not, ◌&&◌, ◌||◌, Option, None, ap, inl, inr}
use Rattle.std.specs.Prelude.{is_some}
use Rattle.std.proofs.lemmas.Bool.{and_cases, and_left, and_right, both_ways, cases_Bool, not-false, not_from_true, or_from, or_parts}
use Rattle.list_law.proofs.Options.{cases_Option}
use Rattle.net_base.specs.Network.{is_router}
use Rattle.policy_base.specs.Governing.{is_origin}
use Rattle.config_base.specs.declared.route.Route.{Route}
use Rattle.event_base.specs.World.{World}
use Rattle.rollout_base.specs.Mixtures.{Part}
use Rattle.rollout_mixtures.specs.Between.{IsAbove, IsBetween}
use Rattle.rollout_mixtures.proofs.Alone.{IsAlone}
use Rattle.rollout_mixtures.proofs.Setting.{Setting, SideOf, cut_off}

pub record Two : Type 0 where
  pub s : Setting
  pub old : Part
  pub new : Part
  pub between : (r : ℕ) → IsBetween s.net s.p old new r (s.m r)
  pub above : IsAbove s.net s.p old new
  pub old_says : (a : ℕ) → is_router s.net a ≡ false → is_origin s.net old.policy s.p a ≡ true → s.says a ≡ true
  pub new_says : (a : ℕ) → is_router s.net a ≡ false → is_origin s.net new.policy s.p a ≡ true → s.says a ≡ true
  pub old_alone : IsAlone s.net s.p old
  pub new_alone : IsAlone s.net s.p new

module _ (k : Two) where
  abbrev pub flipped : ℕ → Bool
  flipped r = (k.between r).flipped

  abbrev pub waits : ℕ → Bool
  waits r = not (flipped r)

  abbrev pub has_old : ℕ → Bool
  has_old r = (k.between r).has_old

  abbrev pub has_new : ℕ → Bool
  has_new r = (k.between r).has_new

  -- an origin by either
  abbrev pub begins : ℕ → Bool
  begins r = is_origin k.s.net k.old.policy k.s.p r || is_origin k.s.net k.new.policy k.s.p r

  -- ---- the new side

  -- who lacks its lines, and who is an origin and hasn't flipped
  abbrev pub off2 : ℕ → Bool
  off2 r = is_router k.s.net r && (not (has_new r) || (waits r && begins r))

  abbrev pub w2 : World Route
  w2 = cut_off off2 waits k.s.w

  pub off2_parts : (r : ℕ) → is_router k.s.net r ≡ true → off2 r ≡ false → (has_new r ≡ true) × (flipped r ≡ false → begins r ≡ false)
  off2_parts r router on =
      let rest : (not (has_new r) || (waits r && begins r)) ≡ false = elim (and_cases (is_router k.s.net r) _ on) [ inl f ↦ absurd (both_ways (is_router k.s.net r) f router) | inr f ↦ f ] in
      let q = or_parts (not (has_new r)) (waits r && begins r) rest in (
        not-false (has_new r) q.0,
        λ not_yet. elim (and_cases (waits r) (begins r) q.1) [
          | inl f ↦ absurd (both_ways (flipped r) not_yet (not-false (flipped r) f))
          | inr f ↦ f
        ],
      )

  pub off2_from : (r : ℕ) → has_new r ≡ true → (flipped r ≡ false → begins r ≡ false) → off2 r ≡ false
  off2_from r has none =
      and_right (is_router k.s.net r) _ (or_from (not (has_new r)) (waits r && begins r) (not_from_true (has_new r) has) (elim (cases_Bool (flipped r)) [
        | inl flips ↦ and_left (waits r) (begins r) (not_from_true (flipped r) flips)
        | inr not_yet ↦ and_right (waits r) (begins r) (none not_yet)
      ]))

  pub later_side : SideOf k.s k.new has_new waits off2
  later_side = record {
    lines = λ r on. (k.between r).new_lines on;
    lacks = λ r f. (k.between r).new_none f;
    hears = λ r f. ((k.between r).after (not-false (flipped r) f)).0;
    speaks = k.new_says;
    alone = k.new_alone;
    peer_on = λ r f. and_left (is_router k.s.net r) _ f;
    on_has = λ r router on. (off2_parts r router on).0;
  }

  -- ---- the old side, where these are the routes of the new one

  module _ (out2 : ℕ → Option Route) where
    -- who lacks its lines, who is an origin and has flipped, and who holds a new route
    abbrev pub off1 : ℕ → Bool
    off1 r = is_router k.s.net r && (not (has_old r) || ((flipped r && begins r) || is_some (out2 r)))

    abbrev pub w1 : World Route
    w1 = cut_off off1 flipped k.s.w

    pub off1_parts : (r : ℕ) → is_router k.s.net r ≡ true → off1 r ≡ false → (has_old r ≡ true) × (flipped r ≡ true → begins r ≡ false) × (out2 r ≡ None)
    off1_parts r router on =
        let rest : (not (has_old r) || ((flipped r && begins r) || is_some (out2 r))) ≡ false = elim (and_cases (is_router k.s.net r) _ on) [ inl f ↦ absurd (both_ways (is_router k.s.net r) f router) | inr f ↦ f ] in
        let q = or_parts (not (has_old r)) ((flipped r && begins r) || is_some (out2 r)) rest in
        let t = or_parts (flipped r && begins r) (is_some (out2 r)) q.1 in (
          not-false (has_old r) q.0,
          λ flips. elim (and_cases (flipped r) (begins r) t.0) [
            | inl f ↦ absurd (both_ways (flipped r) f flips)
            | inr f ↦ f
          ],
          elim (cases_Option (out2 r)) [
            | inl none ↦ none
            | inr y ↦ absurd (both_ways (is_some (out2 r)) t.1 (ap is_some y.1))
          ],
        )

    pub off1_from : (r : ℕ) → has_old r ≡ true → (flipped r ≡ true → begins r ≡ false) → out2 r ≡ None → off1 r ≡ false
    off1_from r has none unheld =
        and_right (is_router k.s.net r) _ (or_from (not (has_old r)) ((flipped r && begins r) || is_some (out2 r)) (not_from_true (has_old r) has)
        (or_from (flipped r && begins r) (is_some (out2 r)) (elim (cases_Bool (flipped r)) [
          | inr not_yet ↦ and_left (flipped r) (begins r) not_yet
          | inl flips ↦ and_right (flipped r) (begins r) (none flips)
        ]) (ap is_some unheld)))

    pub earlier_side : SideOf k.s k.old has_old flipped off1
    earlier_side = record {
      lines = λ r on. (k.between r).old_lines on;
      lacks = λ r f. (k.between r).old_none f;
      hears = λ r f. ((k.between r).before f).0;
      speaks = k.old_says;
      alone = k.old_alone;
      peer_on = λ r f. and_left (is_router k.s.net r) _ f;
      on_has = λ r router on. (off1_parts r router on).0;
    }
