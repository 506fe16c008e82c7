-- Two layers beside each other: a stable outcome of the new side, and one of the old side where who holds a new route is dead.
use Rattle.std.proofs.Common.{◌≡◌, ℕ, Bool, true, false, not, ◌&&◌, ◌||◌, Some, None, refl, sym, ap, ◌∙◌, inl, inr}
use Rattle.std.specs.Prelude.{is_some, if◌then◌else◌}
use Rattle.std.proofs.lemmas.Bool.{and_cases, and_from, and_left, and_parts, and_right, both_ways, cases_Bool, cond-false, cond-true, not-false, not-true, not_from_false, not_from_true, or_cases, or_from, or_left, or_parts, or_right}
use Rattle.list_law.proofs.Options.{cases_Option, none_or_some}
use Rattle.routing_law.specs.Lines.{LineRoute, LineRoutes, Lines, LinesStable, Tag, line_heard}
use Rattle.routing_law.specs.Network.{Alive, Network, chooses}
use Rattle.rollout_layers.specs.Layers.{ArePaired, joined, off_beside, off_new, starts, without}
use Rattle.rollout_layers.specs.Mixtures.{Side, Stages, mixed_lines, mixed_origin, with_origin}
use Rattle.rollout_layers.proofs.Held.{either_first, either_second}
use Rattle.rollout_layers.proofs.Foreign.{never_theirs}
use Rattle.rollout_layers.proofs.Parts.{Extends, given_by_peer, given_by_router, given_parts}

pub record Beside : Type 0 where
  pub net : Network
  pub alive : Alive
  pub st : Stages
  pub one : Side
  pub two : Side
  pub old : ℕ → Tag → Bool
  pub new : ℕ → Tag → Bool
  pub later : LineRoutes
  pub earlier : LineRoutes
  pub pair : ArePaired net st one two old new
  pub second : LinesStable (with_origin net two.origin) (without net alive (off_new net st one two new later) st.flipped) two.lines later
  pub first : LinesStable (with_origin net one.origin) (without net alive (off_beside net st one two later) (λ v. not (st.flipped v))) one.lines earlier

module _ (j : Beside) where
  abbrev net : Network
  net = j.net

  abbrev alive : Alive
  alive = j.alive

  abbrev st : Stages
  st = j.st

  abbrev one : Side
  one = j.one

  abbrev two : Side
  two = j.two

  abbrev later : LineRoutes
  later = j.later

  abbrev earlier : LineRoutes
  earlier = j.earlier

  abbrev pub Origin : ℕ → Bool
  Origin = mixed_origin net st one two

  abbrev pub Mixed : Lines
  Mixed = mixed_lines net st one two

  abbrev pub off2 : ℕ → Bool
  off2 = off_new net st one two j.new later

  abbrev pub off1 : ℕ → Bool
  off1 = off_beside net st one two later

  abbrev pub begins : ℕ → Bool
  begins = starts net st one two j.new later

  abbrev pub alive2 : Alive
  alive2 = without net alive off2 st.flipped

  abbrev pub alive1 : Alive
  alive1 = without net alive off1 (λ v. not (st.flipped v))

  abbrev pub both : LineRoutes
  both = joined later earlier

  pub is_later : (v : ℕ) (x : LineRoute) → later v ≡ Some x → both v ≡ Some x
  is_later v x has = rw has refl

  pub is_earlier : (v : ℕ) → later v ≡ None → both v ≡ earlier v
  is_earlier v none = rw none refl

  pub some_is : (v : ℕ) (x : LineRoute) → later v ≡ Some x → is_some (later v) ≡ true
  some_is v x has = ap is_some has

  pub none_is : (v : ℕ) → is_some (later v) ≡ false → later v ≡ None
  none_is v h = elim (cases_Option (later v)) [
    | inl none ↦ none
    | inr some ↦ absurd (both_ways (is_some (later v)) h (some_is v some.0 some.1))
  ]

  -- ---- who takes part

  pub parts2 : (v : ℕ) → net.router v ≡ true → off2 v ≡ false → (st.new v ≡ true) × (st.flipped v ≡ false → begins v ≡ false)
  parts2 v router on =
      let rest : (not (st.new v) || (not (st.flipped v) && begins v)) ≡ false = elim (and_cases (net.router v) _ on) [ inl f ↦ absurd (both_ways (net.router v) f router) | inr f ↦ f ] in
      let p = or_parts (not (st.new v)) (not (st.flipped v) && begins v) rest in (
        not-false (st.new v) p.0,
        λ not_yet. elim (and_cases (not (st.flipped v)) (begins v) p.1) [
          | inl f ↦ absurd (both_ways (st.flipped v) not_yet (not-false (st.flipped v) f))
          | inr f ↦ f
        ],
      )

  pub on2 : (v : ℕ) → st.new v ≡ true → (st.flipped v ≡ false → begins v ≡ false) → off2 v ≡ false
  on2 v has none =
      and_right (net.router v) _ (or_from (not (st.new v)) (not (st.flipped v) && begins v) (not_from_true (st.new v) has) (elim (cases_Bool (st.flipped v)) [
        | inl flipped ↦ and_left (not (st.flipped v)) (begins v) (not_from_true (st.flipped v) flipped)
        | inr not_yet ↦ and_right (not (st.flipped v)) (begins v) (none not_yet)
      ]))

  pub parts1 : (v : ℕ) → net.router v ≡ true → off1 v ≡ false → (st.old v ≡ true) × (st.flipped v ≡ true → begins v ≡ false) × (later v ≡ None)
  parts1 v router on =
      let rest : (not (st.old v) || ((st.flipped v && begins v) || is_some (later v))) ≡ false = elim (and_cases (net.router v) _ on) [ inl f ↦ absurd (both_ways (net.router v) f router) | inr f ↦ f ] in
      let p = or_parts (not (st.old v)) ((st.flipped v && begins v) || is_some (later v)) rest in
      let q = or_parts (st.flipped v && begins v) (is_some (later v)) p.1 in (
        not-false (st.old v) p.0,
        λ flipped. elim (and_cases (st.flipped v) (begins v) q.0) [
          | inl f ↦ absurd (both_ways (st.flipped v) f flipped)
          | inr f ↦ f
        ],
        none_is v q.1,
      )

  pub on1 : (v : ℕ) → st.old v ≡ true → (st.flipped v ≡ true → begins v ≡ false) → later v ≡ None → off1 v ≡ false
  on1 v has none unheld =
      and_right (net.router v) _
      (or_from (not (st.old v)) ((st.flipped v && begins v) || is_some (later v)) (not_from_true (st.old v) has) (or_from (st.flipped v && begins v) (is_some (later v)) (elim (cases_Bool (st.flipped v)) [
        | inr not_yet ↦ and_left (st.flipped v) (begins v) not_yet
        | inl flipped ↦ and_right (st.flipped v) (begins v) (none flipped)
      ]) (ap is_some unheld)))

  pub peer_on2 : (u : ℕ) → net.router u ≡ false → off2 u ≡ false
  peer_on2 u off = and_left (net.router u) _ off

  pub peer_on1 : (u : ℕ) → net.router u ≡ false → off1 u ≡ false
  peer_on1 u off = and_left (net.router u) _ off

  -- who holds a route of a layer takes part in it
  pub holder2 : (v : ℕ) (x : LineRoute) → net.router v ≡ true → later v ≡ Some x → (off2 v ≡ false) × (alive.live v ≡ true)
  holder2 v x router has = elim (cases_Bool (alive2.live v)) [
    | inl on ↦ (let p = and_parts (alive.live v) (not (off2 v)) on in (not-true (off2 v) p.1, p.0))
    | inr gone ↦ absurd (none_or_some (later v) x (j.second.dead v router gone) has)
  ]

  pub holder1 : (v : ℕ) (x : LineRoute) → net.router v ≡ true → earlier v ≡ Some x → (off1 v ≡ false) × (alive.live v ≡ true)
  holder1 v x router has = elim (cases_Bool (alive1.live v)) [
    | inl on ↦ (let p = and_parts (alive.live v) (not (off1 v)) on in (not-true (off1 v) p.1, p.0))
    | inr gone ↦ absurd (none_or_some (earlier v) x (j.first.dead v router gone) has)
  ]

  -- ---- who originates

  pub after : (v : ℕ) → net.router v ≡ true → st.flipped v ≡ true → Origin v ≡ two.origin v
  after v router flipped = rw (router, flipped) refl

  pub before : (v : ℕ) → net.router v ≡ true → st.flipped v ≡ false → Origin v ≡ one.origin v
  before v router flipped = rw (router, flipped) refl

  -- who takes part for the new side and originates nothing in the mixture is no origin there
  pub other2 : (v : ℕ) → net.router v ≡ true → off2 v ≡ false → Origin v ≡ false → two.origin v ≡ false
  other2 v router on other = elim (cases_Bool (st.flipped v)) [
    | inl flipped ↦ sym (after v router flipped) ∙ other
    | inr not_yet ↦ (or_parts (one.origin v) (two.origin v) ((parts2 v router on).1 not_yet)).1
  ]

  pub other1 : (v : ℕ) → net.router v ≡ true → off1 v ≡ false → Origin v ≡ false → one.origin v ≡ false
  other1 v router on other = elim (cases_Bool (st.flipped v)) [
    | inl flipped ↦ (or_parts (one.origin v) (two.origin v) ((parts1 v router on).1 flipped)).0
    | inr not_yet ↦ sym (before v router not_yet) ∙ other
  ]

  pub chooses2 : (v : ℕ) → net.router v ≡ true → alive.live v ≡ true → off2 v ≡ false → Origin v ≡ false → chooses (with_origin net two.origin) alive2 v ≡ true
  chooses2 v router live on other =
      and_from (net.router v) ((alive.live v && not (off2 v)) && not (two.origin v)) router
      (and_from (alive.live v && not (off2 v)) (not (two.origin v)) (and_from (alive.live v) (not (off2 v)) live (not_from_false (off2 v) on)) (not_from_false (two.origin v) (other2 v router on other)))

  pub chooses1 : (v : ℕ) → net.router v ≡ true → alive.live v ≡ true → off1 v ≡ false → Origin v ≡ false → chooses (with_origin net one.origin) alive1 v ≡ true
  chooses1 v router live on other =
      and_from (net.router v) ((alive.live v && not (off1 v)) && not (one.origin v)) router
      (and_from (alive.live v && not (off1 v)) (not (one.origin v)) (and_from (alive.live v) (not (off1 v)) live (not_from_false (off1 v) on)) (not_from_false (one.origin v) (other1 v router on other)))

  -- ---- tags

  pub tag2 : (v : ℕ) (x : LineRoute) → net.router v ≡ true → later v ≡ Some x → j.old v x.tag ≡ true → ⊥
  tag2 v x router has tagged = never_theirs net alive2 j.new j.old two one later j.pair.new_side j.pair.old_side.foreign (λ u t from mine theirs. j.pair.apart u t from theirs mine) j.second v x router has tagged

  pub tag1 : (v : ℕ) (x : LineRoute) → net.router v ≡ true → earlier v ≡ Some x → j.new v x.tag ≡ true → ⊥
  tag1 v x router has tagged = never_theirs net alive1 j.old j.new one two earlier j.pair.old_side j.pair.new_side.foreign j.pair.apart j.first v x router has tagged

  -- ---- from a layer up

  pub up2 : (v u : ℕ) (x y : LineRoute) → net.router v ≡ true → net.router u ≡ true → off2 v ≡ false → off2 u ≡ false → Extends two.lines v u y x → Extends Mixed v u y x
  up2 v u x y router from on there e =
      let tagged = j.pair.new_side.reads v u y.tag e.line router from e.taken in
      let none : one.lines.imported v u y.tag ≡ None = elim (cases_Option (one.lines.imported v u y.tag)) [
        | inl none ↦ none
        | inr some ↦ absurd (j.pair.apart u y.tag from (j.pair.old_side.reads v u y.tag some.0 router from some.1) tagged)
      ] in
      record {
        off = e.off;
        sent = or_right (st.old u && one.lines.exported u v y.tag) (st.new u && two.lines.exported u v y.tag) (and_from (st.new u) (two.lines.exported u v y.tag) (parts2 u from there).0 e.sent);
        line = e.line;
        taken = either_second (st.old v) (st.new v) (one.lines.imported v u y.tag) (two.lines.imported v u y.tag) e.line none (parts2 v router on).0 e.taken;
        is = e.is;
      }

  pub up1 : (v u : ℕ) (x y : LineRoute) → net.router v ≡ true → net.router u ≡ true → off1 v ≡ false → off1 u ≡ false → Extends one.lines v u y x → Extends Mixed v u y x
  up1 v u x y router from on there e = record {
    off = e.off;
    sent = or_left (st.old u && one.lines.exported u v y.tag) (st.new u && two.lines.exported u v y.tag) (and_from (st.old u) (one.lines.exported u v y.tag) (parts1 u from there).0 e.sent);
    line = e.line;
    taken = either_first (st.old v) (one.lines.imported v u y.tag) (if st.new v then two.lines.imported v u y.tag else None) e.line (parts1 v router on).0 e.taken;
    is = e.is;
  }

  pub carried : (off hears : ℕ → Bool) (u v : ℕ) → (without net alive off hears).carries u v ≡ true → (alive.carries u v ≡ true) × (off u ≡ false) × (off v ≡ false) × ((net.router u || hears v) ≡ true)
  carried off hears u v h =
      let a = and_parts (alive.carries u v) (not (off u) && (not (off v) && (net.router u || hears v))) h in
      let b = and_parts (not (off u)) (not (off v) && (net.router u || hears v)) a.1 in
      let c = and_parts (not (off v)) (net.router u || hears v) b.1 in
      (a.0, not-true (off u) b.0, not-true (off v) c.0, c.1)

  pub carries : (off hears : ℕ → Bool) (u v : ℕ) → alive.carries u v ≡ true → off u ≡ false → off v ≡ false → (net.router u || hears v) ≡ true → (without net alive off hears).carries u v ≡ true
  carries off hears u v c a b d =
      and_from (alive.carries u v) _ c (and_from (not (off u)) _ (not_from_false (off u) a) (and_from (not (off v)) (net.router u || hears v) (not_from_false (off v) b) d))

  pub heard2 : (v u : ℕ) (x : LineRoute) → net.router v ≡ true → line_heard (with_origin net two.origin) alive2 two.lines later v u ≡ Some x → line_heard (with_origin net Origin) alive Mixed both v u ≡ Some x
  heard2 v u x router h =
      let g = given_parts (with_origin net two.origin) alive2 two.lines later v u x h in
      let c = carried off2 st.flipped u v g.0 in
      elim g.1 [
        | inl from ↦ given_by_router (with_origin net Origin) alive Mixed both v u x c.0
            (record { router = from.router; from = from.from; has = is_later u from.from from.has; extends = up2 v u x from.from router from.router c.2 c.1 from.extends })
        | inr from ↦ (
            let flipped : st.flipped v ≡ true = elim (or_cases (net.router u) (st.flipped v) c.3) [ inl t ↦ absurd (both_ways (net.router u) from.off t) | inr t ↦ t ] in
            given_by_peer (with_origin net Origin) alive Mixed both v u x c.0 (record {
              off = from.off;
              announces = record {
                origin = cond-false (net.router u) (if st.flipped u then two.origin u else one.origin u) (one.origin u || two.origin u) from.off ∙ or_right (one.origin u) (two.origin u) from.announces.origin;
                lives = (and_parts (alive.live u) (not (off2 u)) from.announces.lives).0;
                line = from.announces.line;
                taken = cond-true (st.flipped v) (two.lines.from_peer v u) (one.lines.from_peer v u) flipped ∙ from.announces.taken;
                is = from.announces.is;
              };
            }))
      ]

  pub heard1 : (v u : ℕ) (x : LineRoute) → net.router v ≡ true → line_heard (with_origin net one.origin) alive1 one.lines earlier v u ≡ Some x → line_heard (with_origin net Origin) alive Mixed both v u ≡ Some x
  heard1 v u x router h =
      let g = given_parts (with_origin net one.origin) alive1 one.lines earlier v u x h in
      let c = carried off1 (λ v. not (st.flipped v)) u v g.0 in
      elim g.1 [
        | inl from ↦ given_by_router (with_origin net Origin) alive Mixed both v u x c.0
            (record { router = from.router; from = from.from; has = is_earlier u (parts1 u from.router c.1).2 ∙ from.has; extends = up1 v u x from.from router from.router c.2 c.1 from.extends })
        | inr from ↦ (
            let not_yet : st.flipped v ≡ false = elim (or_cases (net.router u) (not (st.flipped v)) c.3) [ inl t ↦ absurd (both_ways (net.router u) from.off t) | inr t ↦ not-true (st.flipped v) t ] in
            given_by_peer (with_origin net Origin) alive Mixed both v u x c.0 (record {
              off = from.off;
              announces = record {
                origin = cond-false (net.router u) (if st.flipped u then two.origin u else one.origin u) (one.origin u || two.origin u) from.off ∙ or_left (one.origin u) (two.origin u) from.announces.origin;
                lives = (and_parts (alive.live u) (not (off1 u)) from.announces.lives).0;
                line = from.announces.line;
                taken = cond-false (st.flipped v) (two.lines.from_peer v u) (one.lines.from_peer v u) not_yet ∙ from.announces.taken;
                is = from.announces.is;
              };
            }))
      ]
