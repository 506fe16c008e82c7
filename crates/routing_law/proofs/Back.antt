-- An outcome of the graph is one of the lines.
use Rattle.std.proofs.Common.{◌≡◌, ℕ, ◌≤◌, Bool, true, false, cond, ◌∷◌, Option, Some, None, refl, sym, ap, ◌∙◌, subst}
use Rattle.std.specs.Option.{option_map}
use Rattle.std.proofs.lemmas.Option.{same_Some}
use Rattle.list_law.proofs.Options.{option_map_parts, when_parts}
use Rattle.routing_law.specs.Graph.{Graph, MeetsRules, run}
use Rattle.routing_law.specs.Laws.{GraphIsLines, OutcomeExists, OutcomeIsUnique}
use Rattle.routing_law.specs.Lines.{LineRoute, LineRoutes, Lines, LinesFullyStable, LinesNoLater, LinesStable, Tag, own_line}
use Rattle.routing_law.specs.Network.{NamesDiffer, chooses}
use Rattle.routing_law.specs.Outcome.{FullyStable, NoLater, Route, Routes, Same, Setup, with_nodes, with_tag, with_tags}
use Rattle.routing_law.specs.Spells.{Written}
use Rattle.routing_law.proofs.Bridge.{graph_stable, same_routes, tied_nodes}
use Rattle.routing_law.proofs.Heard.{chooses_from, chooses_parts, not_live, own_parts}
use Rattle.routing_law.proofs.Rounds.{exists}
use Rattle.routing_law.proofs.Sound.{backed, route_is, sound}
use Rattle.routing_law.proofs.Tied.{Behind, Tied, given_down, given_up, own_down}
use Rattle.routing_law.proofs.Unique.{unique}

pub is_with_tag : (g : Graph) (tag : ℕ → Tag) (x : LineRoute) (y : Route) → Same g tag x y → x ≡ with_tag g tag y
is_with_tag g tag x y s = λ i. record { path = s.path_is i; tag = s.tag_is i; pref = s.pref_is i }

-- the full order is the same
pub lines_no_later : (w : Setup) (tag : ℕ → Tag) (a b : Route) (x y : LineRoute) → Same w.graph tag x a → Same w.graph tag y b → NoLater w a b → LinesNoLater w.net x y
lines_no_later w tag a b x y e f n =
    subst (λ z. LinesNoLater w.net z y) (sym (is_with_tag w.graph tag x a e)) (subst (LinesNoLater w.net (with_tag w.graph tag a))
    (sym (is_with_tag w.graph tag y b f)) (record { higher = n.number; fewer = n.fewer; lower = n.lower }))

pub no_later : (w : Setup) (tag : ℕ → Tag) (a b : Route) (x y : LineRoute) → Same w.graph tag x a → Same w.graph tag y b → LinesNoLater w.net x y → NoLater w a b
no_later w tag a b x y e f n = back (subst (λ z. LinesNoLater w.net z (with_tag w.graph tag b)) (is_with_tag w.graph tag x a e) (subst (LinesNoLater w.net x) (is_with_tag w.graph tag y b f) n))
  where
    back : LinesNoLater w.net (with_tag w.graph tag a) (with_tag w.graph tag b) → NoLater w a b
    back m = record { number = m.higher; fewer = m.fewer; lower = m.lower }

module _ (w : Setup) (tag : ℕ → Tag) (c : Lines) (s : Routes) where
  tags_at_origin : (v : ℕ) → w.net.origin v ≡ true → with_tags w tag c s v ≡ cond (w.alive.live v) (Some (own_line c v)) None
  tags_at_origin v o = rw o

  tags_elsewhere : (v : ℕ) → w.net.origin v ≡ false → with_tags w tag c s v ≡ option_map (with_tag w.graph tag) (s v)
  tags_elsewhere v o = rw o

  has_tag : (v : ℕ) (y : Route) → w.net.origin v ≡ false → s v ≡ Some y → with_tags w tag c s v ≡ Some (with_tag w.graph tag y)
  has_tag v y o h = tags_elsewhere v o ∙ ap (option_map (with_tag w.graph tag)) h

  -- the graph's route behind one of the lines
  route_of : (v : ℕ) (x : LineRoute) → w.net.origin v ≡ false → with_tags w tag c s v ≡ Some x → (y : Route) × (s v ≡ Some y) × Same w.graph tag x y
  route_of v x o h =
      let a = option_map_parts (with_tag w.graph tag) (s v) x (sym (tags_elsewhere v o) ∙ h) in
      (a.0, a.1, record { path_is = ap (λ (y : LineRoute). y.path) (sym a.2); tag_is = ap (λ (y : LineRoute). y.tag) (sym a.2); pref_is = ap (λ (y : LineRoute). y.pref) (sym a.2) })

module _ (w : Setup) (tag : ℕ → Tag) (c : Lines) (s : Routes) (written : Written w.net w.graph tag c) (full : FullyStable w s) where
  own_at : (v : ℕ) → w.net.origin v ≡ true → w.alive.live v ≡ true → with_tags w tag c s v ≡ Some (own_line c v)
  own_at v o l = tags_at_origin w tag c s v o ∙ ap (λ b. cond b (Some (own_line c v)) None) l

  tied_tags : Tied w tag c (with_tags w tag c s) s
  tied_tags = record {
    backed = backed w s full.stable;
    down = λ u v z ro h ex. down u v z ro h ex (w.net.origin u) refl;
    up = λ u y ro h. up u y ro h (w.net.origin u) refl;
  }
    where
      down : (u v : ℕ) (z : LineRoute) → w.net.router u ≡ true → with_tags w tag c s u ≡ Some z → c.exported u v z.tag ≡ true → (b : Bool) → w.net.origin u ≡ b → Behind w tag s u z
      down u v z ro h ex true o =
          let a = when_parts (w.alive.live u) (Some (own_line c u)) z (sym (tags_at_origin w tag c s u o) ∙ h) in
          own_down w tag c written (with_tags w tag c s) s u v z ro o a.0 (full.stable.own u o) (same_Some (own_line c u) z a.1) ex
      down u v z ro h ex false o =
          let a = route_of w tag c s u z o h in
          let d = sound w s full.stable u a.0 a.1 in
          record {
            rest = d.rest;
            node = a.0.node;
            has = a.1 ∙ ap Some (route_is a.0 (u ∷ d.rest) d.begins);
            begins = a.2.path_is ∙ d.begins;
            runs = subst (λ p. run w.graph p ≡ Some a.0.node) d.begins d.runs;
            tag_is = a.2.tag_is;
          }

      up : (u : ℕ) (y : Route) → w.net.router u ≡ true → s u ≡ Some y → (b : Bool) → w.net.origin u ≡ b → (z : LineRoute) × (with_tags w tag c s u ≡ Some z) × (z.path ≡ y.path) × (z.tag ≡ tag y.node)
      up u y ro h true o =
          let a = own_parts w u y (sym (full.stable.own u o) ∙ h) in
          (own_line c u, own_at u o a.0, sym a.2, written.lines.own u y.node ro a.1)
      up u y ro h false o = (with_tag w.graph tag y, has_tag w tag c s u y o h, refl, refl)

  tags_dead : (v : ℕ) → w.net.router v ≡ true → w.alive.live v ≡ false → (b : Bool) → w.net.origin v ≡ b → with_tags w tag c s v ≡ None
  tags_dead v ro l true o = tags_at_origin w tag c s v o ∙ ap (λ b. cond b (Some (own_line c v)) None) l
  tags_dead v ro l false o = tags_elsewhere w tag c s v o ∙ ap (option_map (with_tag w.graph tag)) (full.stable.none v o (not_live w v l))

  tags_stable : LinesStable w.net w.alive c (with_tags w tag c s)
  tags_stable = record {
    dead = λ v ro l. tags_dead v ro l (w.net.origin v) refl;
    own = λ v ro o l. own_at v o l;
    given = λ v x k h.
        let p = chooses_parts w v k in
        let a = route_of w tag c s v x p.2 h in
        let g = full.stable.given v a.0 k a.1 in
        let b = given_up w tag c written (with_tags w tag c s) s tied_tags v g.0 a.0 p.0 g.1 in
        (g.0, b.1 ∙ ap Some (is_with_tag w.graph tag b.0 a.0 b.2 ∙ sym (is_with_tag w.graph tag x a.0 a.2)));
    best = λ v u y k h.
        let p = chooses_parts w v k in
        let a = given_down w tag c written (with_tags w tag c s) s tied_tags v u y p.0 h in
        let b = full.stable.best v u a.0 k a.1 in
        (with_tag w.graph tag b.0, has_tag w tag c s v b.0 p.2 b.1, subst (λ q. q ≤ w.graph.number b.0.node) (sym a.2.pref_is) b.2);
  }

pub graph_is_lines : GraphIsLines
graph_is_lines w tag c s written full = record {
  stable = tags_stable w tag c s written full;
  first = λ v u x y k h g.
      let p = chooses_parts w v k in
      let a = route_of w tag c s v x p.2 h in
      let b = given_down w tag c written (with_tags w tag c s) s (tied_tags w tag c s written full) v u y p.0 g in
      lines_no_later w tag a.0 b.0 x y a.2 b.2 (full.first v u a.0 b.0 k a.1 b.1);
}

module _ (w : Setup) (tag : ℕ → Tag) (c : Lines) (differ : NamesDiffer w.net) (written : Written w.net w.graph tag c) (rules : MeetsRules w.net w.graph) where
  graph_full : (r : LineRoutes) → LinesFullyStable w.net w.alive c r → FullyStable w (with_nodes w r)
  graph_full r full = record {
    stable = graph_stable w tag c r written full.stable;
    first = λ v u x y k h g.
        let a = (same_routes w tag c r written full.stable).up v x k h in
        let b = given_up w tag c written r (with_nodes w r) (tied_nodes w tag c r written full.stable) v u y (chooses_parts w v k).0 g in
        no_later w tag x y a.0 b.0 a.2 b.2 (full.first v u a.0 b.0 k a.1 b.1);
  }

  -- where one outcome has a route, the other has it too
  has_too : (r s : LineRoutes) → LinesFullyStable w.net w.alive c r → LinesFullyStable w.net w.alive c s → (v : ℕ) (x : LineRoute) → chooses w.net w.alive v ≡ true → r v ≡ Some x → s v ≡ Some x
  has_too r s fr fs v x k h =
      let a = (same_routes w tag c r written fr.stable).down v x k h in
      let e = unique w (with_nodes w r) (with_nodes w s) differ written.formed rules (graph_full r fr) (graph_full s fs) v in
      let b = (same_routes w tag c s written fs.stable).up v a.0 k (sym e ∙ a.1) in
      b.1 ∙ ap Some (is_with_tag w.graph tag b.0 a.0 b.2 ∙ sym (is_with_tag w.graph tag x a.0 a.2))

pub lines_unique : OutcomeIsUnique
lines_unique w tag c r s differ written rules fr fs v ro = by (w.alive.live v) refl (w.net.origin v) refl
  where
    chosen : chooses w.net w.alive v ≡ true → (a b : Option LineRoute) → r v ≡ a → s v ≡ b → a ≡ b
    chosen k None None e f = refl
    chosen k (Some x) b e f = sym (has_too w tag c differ written rules r s fr fs v x k e) ∙ f
    chosen k None (Some y) e f = sym e ∙ has_too w tag c differ written rules s r fs fr v y k f

    by : (a : Bool) → w.alive.live v ≡ a → (b : Bool) → w.net.origin v ≡ b → r v ≡ s v
    by false l b o = fr.stable.dead v ro l ∙ sym (fs.stable.dead v ro l)
    by true l true o = fr.stable.own v ro o l ∙ sym (fs.stable.own v ro o l)
    by true l false o = chosen (chooses_from w v ro l o) (r v) (s v) refl refl

pub lines_exist : OutcomeExists
lines_exist w tag c written rules =
    let a = exists w written.formed rules in
    (with_tags w tag c a.0, graph_is_lines w tag c a.0 written a.1)
