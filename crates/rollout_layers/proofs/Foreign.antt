-- In an outcome of one side no router holds a route with a tag of the other.
use Rattle.std.proofs.Common.{◌≡◌, ℕ, Bool, true, false, not, ◌&&◌, Some, sym, ap, ◌∙◌, inl, inr}
use Rattle.std.proofs.lemmas.Bool.{and_from, both_ways, cases_Bool, not_from_false}
use Rattle.list_law.proofs.Options.{none_or_some}
use Rattle.routing_law.specs.Lines.{LineRoute, LineRoutes, LinesStable, Tag, own_line}
use Rattle.routing_law.specs.Network.{Alive, Network, chooses}
use Rattle.rollout_layers.specs.Mixtures.{IsSide, Side, with_origin}
use Rattle.rollout_layers.proofs.Parts.{given_parts}

module _ (net : Network) (alive : Alive) (mine theirs : ℕ → Tag → Bool) (one other : Side) (r : LineRoutes) (side : IsSide net mine one other)
    (foreign : (v : ℕ) → net.router v ≡ true → one.origin v ≡ true → theirs v (one.lines.own v) ≡ false)
    (apart : (v : ℕ) (t : Tag) → net.router v ≡ true → mine v t ≡ true → theirs v t ≡ true → ⊥)
    (stable : LinesStable (with_origin net one.origin) alive one.lines r) where
  own_is_not : (v : ℕ) (x : LineRoute) → net.router v ≡ true → r v ≡ Some x → alive.live v ≡ true → one.origin v ≡ true → theirs v x.tag ≡ false
  own_is_not v x router has live origin =
      let same : Some x ≡ Some (own_line one.lines v) = sym has ∙ stable.own v router origin live in
      let is : x ≡ own_line one.lines v = cc in
      ap (λ (y : LineRoute). theirs v y.tag) is ∙ foreign v router origin

  given_is : (v : ℕ) (x : LineRoute) → net.router v ≡ true → r v ≡ Some x → alive.live v ≡ true → one.origin v ≡ false → mine v x.tag ≡ true
  given_is v x router has live other =
      let choosing : chooses (with_origin net one.origin) alive v ≡ true =
      and_from (net.router v) (alive.live v && not (one.origin v)) router (and_from (alive.live v) (not (one.origin v)) live (not_from_false (one.origin v) other)) in
      let by = stable.given v x choosing has in
      elim (given_parts (with_origin net one.origin) alive one.lines r v by.0 x by.1).1 [
        | inl from ↦ sym (ap (mine v) (ap (λ (y : LineRoute). y.tag) from.extends.is)) ∙ side.gives v from.extends.line router (inl (by.0, from.from.tag, from.router, from.extends.taken))
        | inr from ↦ sym (ap (mine v) (ap (λ (y : LineRoute). y.tag) from.announces.is)) ∙ side.gives v from.announces.line router (inr (by.0, from.off, from.announces.taken))
      ]

  pub never_theirs : (v : ℕ) (x : LineRoute) → net.router v ≡ true → r v ≡ Some x → theirs v x.tag ≡ true → ⊥
  never_theirs v x router has tagged = elim (cases_Bool (alive.live v)) [
    | inr gone ↦ none_or_some (r v) x (stable.dead v router gone) has
    | inl live ↦ elim (cases_Bool (one.origin v)) [
      | inl origin ↦ both_ways (theirs v x.tag) (own_is_not v x router has live origin) tagged
      | inr other ↦ apart v x.tag router (given_is v x router has live other) tagged
    ]
  ]
