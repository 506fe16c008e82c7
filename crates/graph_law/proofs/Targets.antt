-- Where walks start, and where they go on.
use Rattle.std.proofs.Common.{◌≡◌, ℕ, ◌+◌, Bool, true, false, cond, ◌||◌, [], map, length, filter, refl, sym, ap, ◌∙◌, subst, ltb-true, lt-ltb}
use Rattle.list_law.proofs.Apart.{Apart, Apart-filter, Apart-map}
use Rattle.list_law.proofs.Members.{IsIn-map, IsIn-map_parts, IsIn-filter, IsIn-filter_parts, IsIn-nil}
use Rattle.list_law.specs.Members.{IsIn}
use Rattle.net_base.specs.Network.{PlainNet, is_location, is_router}
use Rattle.net_base.specs.NetSets.{locations}
use Rattle.path_exprs.specs.Runs.{start_of}
use Rattle.path_exprs.specs.Standings.{Plan, Standing, moved, starts, may_go, targets}
use Rattle.net_base.specs.Locations.{in_order}
use Rattle.net_base.proofs.NumbersBelow.{In-numbers_below, below_from_In, Apart-numbers_below}

In-in_order : (net : PlainNet) (l : ℕ) → is_location net l ≡ true → IsIn (in_order net) l
In-in_order net l h = In-numbers_below l (length net.routers + length net.peers) (ltb-true l (length net.routers + length net.peers) h)

location_from_In : (net : PlainNet) (l : ℕ) → IsIn (in_order net) l → is_location net l ≡ true
location_from_In net l h = lt-ltb l (length net.routers + length net.peers) (below_from_In l (length net.routers + length net.peers) h)

-- a standing where a walk starts
pub record IsBegin (net : PlainNet) (plan : Plan) (y : Standing) : Type 0 where
  pub location : is_location net y.at ≡ true
  pub origin : plan.origin y.at ≡ true
  pub moves : y ≡ moved (start_of (locations net) plan.expressions) y.at

pub begin_from_In : (net : PlainNet) (plan : Plan) (y : Standing) → IsIn (starts net plan) y → IsBegin net plan y
begin_from_In net plan y h =
    let o = IsIn-map_parts (moved (start_of (locations net) plan.expressions)) (filter plan.origin (in_order net)) y h in
    let f = IsIn-filter_parts plan.origin (in_order net) o.0 o.1 in
    let at : o.0 ≡ y.at = ap (λ (s : Standing). s.at) o.2 in
    record {
      location = ap (is_location net) (sym at) ∙ location_from_In net o.0 f.0;
      origin = ap plan.origin (sym at) ∙ f.1;
      moves = sym o.2 ∙ ap (moved (start_of (locations net) plan.expressions)) at;
    }

pub In-starts : (net : PlainNet) (plan : Plan) (l : ℕ) → is_location net l ≡ true → plan.origin l ≡ true → IsIn (starts net plan) (moved (start_of (locations net) plan.expressions) l)
In-starts net plan l h o =
    IsIn-map (moved (start_of (locations net) plan.expressions)) (filter plan.origin (in_order net)) l (IsIn-filter plan.origin (in_order net) l (In-in_order net l h) o)

pub Apart-starts : (net : PlainNet) (plan : Plan) → Apart (λ y z. y ≡ z) (starts net plan)
Apart-starts net plan =
    Apart-map (λ (i : ℕ) (j : ℕ). i ≡ j) (λ y z. y ≡ z) (moved (start_of (locations net) plan.expressions)) (filter plan.origin (in_order net))
    (Apart-filter (λ (i : ℕ) (j : ℕ). i ≡ j) plan.origin (in_order net) (Apart-numbers_below (length net.routers + length net.peers)))
    (λ i j h k e. ap (λ (s : Standing). s.at) e)

-- a standing where a walk goes on from x
pub record IsNext (net : PlainNet) (plan : Plan) (x y : Standing) : Type 0 where
  pub location : is_location net y.at ≡ true
  pub sends : (plan.origin x.at || is_router net x.at) ≡ true
  pub goes : may_go net plan x y.at ≡ true
  pub moves : y ≡ moved x.left y.at

next-at : (net : PlainNet) (plan : Plan) (x y : Standing) (b : Bool) → (plan.origin x.at || is_router net x.at) ≡ b →
    IsIn (cond b (map (moved x.left) (filter (may_go net plan x) (in_order net))) []) y → IsNext net plan x y
next-at net plan x y true e h =
    let o = IsIn-map_parts (moved x.left) (filter (may_go net plan x) (in_order net)) y h in
    let f = IsIn-filter_parts (may_go net plan x) (in_order net) o.0 o.1 in
    let at : o.0 ≡ y.at = ap (λ (s : Standing). s.at) o.2 in
    record {
      location = ap (is_location net) (sym at) ∙ location_from_In net o.0 f.0;
      sends = e;
      goes = ap (may_go net plan x) (sym at) ∙ f.1;
      moves = sym o.2 ∙ ap (moved x.left) at;
    }
next-at net plan x y false e h = absurd (IsIn-nil y h)

pub next_from_In : (net : PlainNet) (plan : Plan) (x y : Standing) → IsIn (targets net plan x) y → IsNext net plan x y
next_from_In net plan x y h = next-at net plan x y (plan.origin x.at || is_router net x.at) refl h

pub In-targets : (net : PlainNet) (plan : Plan) (x : Standing) (l : ℕ) → is_location net l ≡ true → (plan.origin x.at || is_router net x.at) ≡ true →
    may_go net plan x l ≡ true → IsIn (targets net plan x) (moved x.left l)
In-targets net plan x l h s g =
    subst (λ b. IsIn (cond b (map (moved x.left) (filter (may_go net plan x) (in_order net))) []) (moved x.left l)) (sym s)
    (IsIn-map (moved x.left) (filter (may_go net plan x) (in_order net)) l (IsIn-filter (may_go net plan x) (in_order net) l (In-in_order net l h) g))

apart-at : (net : PlainNet) (plan : Plan) (x : Standing) (b : Bool) →
    Apart (λ (y : Standing) (z : Standing). y.at ≡ z.at) (cond b (map (moved x.left) (filter (may_go net plan x) (in_order net))) [])
apart-at net plan x true =
    Apart-map (λ (i : ℕ) (j : ℕ). i ≡ j) (λ (y : Standing) (z : Standing). y.at ≡ z.at) (moved x.left) (filter (may_go net plan x) (in_order net))
    (Apart-filter (λ (i : ℕ) (j : ℕ). i ≡ j) (may_go net plan x) (in_order net) (Apart-numbers_below (length net.routers + length net.peers)))
    (λ i j h k e. e)
apart-at net plan x false = tt

pub Apart-targets : (net : PlainNet) (plan : Plan) (x : Standing) → Apart (λ (y : Standing) (z : Standing). y.at ≡ z.at) (targets net plan x)
Apart-targets net plan x = apart-at net plan x (plan.origin x.at || is_router net x.at)
