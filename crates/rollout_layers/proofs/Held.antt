-- What routers of a mixture hold, and by which side.
use Rattle.std.proofs.Common.{◌≡◌, ℕ, Bool, true, false, ◌&&◌, ◌⊎◌, Option, Some, None, refl, sym, ap, ◌∙◌, inl, inr, not}
use Rattle.std.specs.Prelude.{if◌then◌else◌}
use Rattle.std.specs.Option.{option_map_or}
use Rattle.std.proofs.lemmas.Bool.{and_from, both_ways, cases_Bool, cond-true, cond-false, not_from_false, or_cases, and_parts}
use Rattle.list_law.proofs.Options.{none_or_some, when_parts}
use Rattle.routing_law.specs.Lines.{LineRoute, LineRoutes, Lines, LinesStable, Tag, own_line}
use Rattle.routing_law.specs.Network.{Alive, Network, chooses}
use Rattle.rollout_layers.specs.Layers.{holds_new}
use Rattle.rollout_layers.specs.Mixtures.{Gives, Side, Stages, either, mixed_lines, mixed_origin, with_origin}
use Rattle.rollout_layers.proofs.Parts.{given_parts}

pub either_parts : {A : Type 0} (a b : Option A) (x : A) → either a b ≡ Some x → (a ≡ Some x) ⊎ (b ≡ Some x)
either_parts (Some y) b x h = inl h
either_parts None b x h = inr h

pub either_second : {A : Type 0} (b c : Bool) (o p : Option A) (x : A) → o ≡ None → c ≡ true → p ≡ Some x → either (if b then o else None) (if c then p else None) ≡ Some x
either_second true c o p x none on some = rw (none, on, some) refl
either_second false c o p x none on some = rw (on, some) refl

pub either_first : {A : Type 0} (b : Bool) (o p : Option A) (x : A) → b ≡ true → o ≡ Some x → either (if b then o else None) p ≡ Some x
either_first b o p x on some = rw (on, some) refl

module _ (net : Network) (alive : Alive) (st : Stages) (one two : Side) (r : LineRoutes)
    (stable : LinesStable (with_origin net (mixed_origin net st one two)) alive (mixed_lines net st one two) r) where
  abbrev Origin : ℕ → Bool
  Origin = mixed_origin net st one two

  abbrev Mixed : Lines
  Mixed = mixed_lines net st one two

  pub origin_after : (v : ℕ) → net.router v ≡ true → st.flipped v ≡ true → Origin v ≡ two.origin v
  origin_after v router flipped = rw (router, flipped) refl

  pub origin_before : (v : ℕ) → net.router v ≡ true → st.flipped v ≡ false → Origin v ≡ one.origin v
  origin_before v router flipped = rw (router, flipped) refl

  pub own_after : (v : ℕ) → st.flipped v ≡ true → Mixed.own v ≡ two.lines.own v
  own_after v flipped = cond-true (st.flipped v) (two.lines.own v) (one.lines.own v) flipped

  pub own_before : (v : ℕ) → st.flipped v ≡ false → Mixed.own v ≡ one.lines.own v
  own_before v flipped = cond-false (st.flipped v) (two.lines.own v) (one.lines.own v) flipped

  pub peer_after : (v u : ℕ) → st.flipped v ≡ true → Mixed.from_peer v u ≡ two.lines.from_peer v u
  peer_after v u flipped = cond-true (st.flipped v) (two.lines.from_peer v u) (one.lines.from_peer v u) flipped

  pub peer_before : (v u : ℕ) → st.flipped v ≡ false → Mixed.from_peer v u ≡ one.lines.from_peer v u
  peer_before v u flipped = cond-false (st.flipped v) (two.lines.from_peer v u) (one.lines.from_peer v u) flipped

  -- who holds a route is alive
  pub live_of : (v : ℕ) (x : LineRoute) → net.router v ≡ true → r v ≡ Some x → alive.live v ≡ true
  live_of v x router has = elim (cases_Bool (alive.live v)) [
    | inl on ↦ on
    | inr gone ↦ absurd (none_or_some (r v) x (stable.dead v router gone) has)
  ]

  -- an origin holds its own route
  pub own_tag_of : (v : ℕ) (x : LineRoute) → net.router v ≡ true → Origin v ≡ true → r v ≡ Some x → x.tag ≡ Mixed.own v
  own_tag_of v x router origin has =
      let same : Some x ≡ Some (own_line Mixed v) = sym has ∙ stable.own v router origin (live_of v x router has) in
      let is : x ≡ own_line Mixed v = cc in
      ap (λ (y : LineRoute). y.tag) is

  -- what any other router holds a line of one side gave
  pub record HeldBy (v : ℕ) (x : LineRoute) : Type 0 where
    pub line : Tag × ℕ
    pub tag : line.0 ≡ x.tag
    pub pref : line.1 ≡ x.pref
    pub by : (Gives net one.lines v line × ((st.old v ≡ true) ⊎ (st.flipped v ≡ false))) ⊎ Gives net two.lines v line

  pub imported_by : (v u : ℕ) (t : Tag) (q : Tag × ℕ) → Mixed.imported v u t ≡ Some q → ((one.lines.imported v u t ≡ Some q) × (st.old v ≡ true)) ⊎ (two.lines.imported v u t ≡ Some q)
  imported_by v u t q h = elim (either_parts (if st.old v then one.lines.imported v u t else None) (if st.new v then two.lines.imported v u t else None) q h) [
    | inl a ↦ (let p = when_parts (st.old v) (one.lines.imported v u t) q a in inl (p.1, p.0))
    | inr b ↦ inr (when_parts (st.new v) (two.lines.imported v u t) q b).1
  ]

  pub exported_by : (u v : ℕ) (t : Tag) → Mixed.exported u v t ≡ true → ((st.old u ≡ true) × (one.lines.exported u v t ≡ true)) ⊎ ((st.new u ≡ true) × (two.lines.exported u v t ≡ true))
  exported_by u v t h = elim (or_cases (st.old u && one.lines.exported u v t) (st.new u && two.lines.exported u v t) h) [
    | inl a ↦ (let p = and_parts (st.old u) (one.lines.exported u v t) a in inl (p.0, p.1))
    | inr b ↦ (let p = and_parts (st.new u) (two.lines.exported u v t) b in inr (p.0, p.1))
  ]

  peer_by : (v u : ℕ) (q : Tag × ℕ) → Mixed.from_peer v u ≡ Some q → ((one.lines.from_peer v u ≡ Some q) × (st.flipped v ≡ false)) ⊎ (two.lines.from_peer v u ≡ Some q)
  peer_by v u q h = elim (cases_Bool (st.flipped v)) [
    | inl flipped ↦ inr (sym (peer_after v u flipped) ∙ h)
    | inr not_yet ↦ inl (sym (peer_before v u not_yet) ∙ h, not_yet)
  ]

  gives_router : (v u : ℕ) (t : Tag) (q : Tag × ℕ) → net.router u ≡ true → ((one.lines.imported v u t ≡ Some q) × (st.old v ≡ true)) ⊎ (two.lines.imported v u t ≡ Some q)
      → (Gives net one.lines v q × ((st.old v ≡ true) ⊎ (st.flipped v ≡ false))) ⊎ Gives net two.lines v q
  gives_router v u t q router (inl a) = inl (inl (u, t, router, a.0), inl a.1)
  gives_router v u t q router (inr b) = inr (inl (u, t, router, b))

  gives_peer : (v u : ℕ) (q : Tag × ℕ) → net.router u ≡ false → ((one.lines.from_peer v u ≡ Some q) × (st.flipped v ≡ false)) ⊎ (two.lines.from_peer v u ≡ Some q)
      → (Gives net one.lines v q × ((st.old v ≡ true) ⊎ (st.flipped v ≡ false))) ⊎ Gives net two.lines v q
  gives_peer v u q off (inl a) = inl (inr (u, off, a.0), inr a.1)
  gives_peer v u q off (inr b) = inr (inr (u, off, b))

  pub held_by : (v : ℕ) (x : LineRoute) → net.router v ≡ true → Origin v ≡ false → r v ≡ Some x → HeldBy v x
  held_by v x router other has =
      let choosing : chooses (with_origin net Origin) alive v ≡ true =
      and_from (net.router v) (alive.live v && not (Origin v)) router (and_from (alive.live v) (not (Origin v)) (live_of v x router has) (not_from_false (Origin v) other)) in
      let by = stable.given v x choosing has in
      let g = given_parts (with_origin net Origin) alive Mixed r v by.0 x by.1 in
      elim g.1 [
        | inl from ↦ record {
          line = from.extends.line;
          tag = ap (λ (y : LineRoute). y.tag) from.extends.is;
          pref = ap (λ (y : LineRoute). y.pref) from.extends.is;
          by = gives_router v by.0 from.from.tag from.extends.line from.router (imported_by v by.0 from.from.tag from.extends.line from.extends.taken);
        }
        | inr from ↦ record {
          line = from.announces.line;
          tag = ap (λ (y : LineRoute). y.tag) from.announces.is;
          pref = ap (λ (y : LineRoute). y.pref) from.announces.is;
          by = gives_peer v by.0 from.announces.line from.off (peer_by v by.0 from.announces.line from.announces.taken);
        }
      ]

  -- where v lacks the new lines a line of the old side gave it, unless it has flipped
  pub held_by_lines : (v : ℕ) (x : LineRoute) → net.router v ≡ true → Origin v ≡ false → r v ≡ Some x → st.new v ≡ false → st.flipped v ≡ false
      → (q : Tag × ℕ) × (q.0 ≡ x.tag) × Gives net one.lines v q
  held_by_lines v x router other has lacks not_yet =
      let choosing : chooses (with_origin net Origin) alive v ≡ true =
      and_from (net.router v) (alive.live v && not (Origin v)) router (and_from (alive.live v) (not (Origin v)) (live_of v x router has) (not_from_false (Origin v) other)) in
      let by = stable.given v x choosing has in
      let g = given_parts (with_origin net Origin) alive Mixed r v by.0 x by.1 in
      elim g.1 [
        | inr from ↦ (from.announces.line, ap (λ (y : LineRoute). y.tag) from.announces.is, inr (by.0, from.off, sym (peer_before v by.0 not_yet) ∙ from.announces.taken))
        | inl from ↦ (
          from.extends.line,
          ap (λ (y : LineRoute). y.tag) from.extends.is,
          elim (either_parts (if st.old v then one.lines.imported v by.0 from.from.tag else None)
              (if st.new v then two.lines.imported v by.0 from.from.tag else None) from.extends.line from.extends.taken) [
                | inl a ↦ inl (by.0, from.from.tag, from.router, (when_parts (st.old v) (one.lines.imported v by.0 from.from.tag) from.extends.line a).1)
                | inr b ↦ absurd (both_ways (st.new v) lacks (when_parts (st.new v) (two.lines.imported v by.0 from.from.tag) from.extends.line b).0)
              ],
        )
      ]

  -- ---- who holds a new route

  module _ (new : ℕ → Tag → Bool) where
    pub holds_new_tag : (v : ℕ) (x : LineRoute) → net.router v ≡ true → Origin v ≡ false → r v ≡ Some x → holds_new net st one two new r v ≡ new v x.tag
    holds_new_tag v x router other has =
        ap (λ (b : Bool). b && (if Origin v then st.flipped v else option_map_or (λ (y : LineRoute). new v y.tag) (r v) false)) router
        ∙ cond-false (Origin v) (st.flipped v) (option_map_or (λ (y : LineRoute). new v y.tag) (r v) false) other ∙ ap (λ (o : Option LineRoute). option_map_or (λ (y : LineRoute). new v y.tag) o false) has

    pub holds_new_own : (v : ℕ) → net.router v ≡ true → Origin v ≡ true → holds_new net st one two new r v ≡ st.flipped v
    holds_new_own v router origin =
        ap (λ (b : Bool). b && (if Origin v then st.flipped v else option_map_or (λ (y : LineRoute). new v y.tag) (r v) false)) router
        ∙ cond-true (Origin v) (st.flipped v) (option_map_or (λ (y : LineRoute). new v y.tag) (r v) false) origin
