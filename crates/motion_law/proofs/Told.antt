-- What is held was made of what was said before, and that of what was held before.
use Rattle.std.proofs.Common.{◌≡◌, ℕ, zero, suc, ◌≤◌, true, List, [], Some, sym, subst, inl, inr, arith}
use Rattle.std.specs.Prelude.{◌&&◌}
use Rattle.std.proofs.lemmas.Bool.{and_from, cases_Bool, le-leb, ltb-false}
use Rattle.net_base.specs.Network.{PlainNet, is_peer, is_router}
use Rattle.net_base.specs.Prefixes.{PlainPrefix}
use Rattle.policy_base.specs.Policies.{PlainPolicy}
use Rattle.policy_base.specs.Governing.{is_origin}
use Rattle.config_base.specs.Configs.{PlainConfig}
use Rattle.config_base.specs.Lines.{export_of, own_route}
use Rattle.outcome_base.specs.Announcements.{FullRoute, Sent, taken_under}
use Rattle.motion_law.specs.Ever.{MayHold, MayHold as may, MaySend}
use Rattle.motion_law.specs.Told.{IsMadeOfTold, TellsOnly, Telling, WhatIsToldMayBeHeld}

module _ (net : PlainNet) (policy : PlainPolicy) (config : PlainConfig) (p : PlainPrefix) (m : Telling) (only : TellsOnly net policy config p m) where
  abbrev Held : ℕ → FullRoute → Type 0
  Held r t = MayHold net policy config p r t

  -- what is made of a message that may be sent, by a peer or a router, may be held
  of_told : (now r : ℕ) (t : FullRoute) (made : IsMadeOfTold net policy config p m now r t)
      → (is_router net made.from ≡ true → MaySend net policy config p made.from r made.message) → Held r t
  of_told now r t made sent = elim (cases_Bool (is_router net made.from)) [
    | inr off ↦
        let peer : is_peer net made.from ≡ true = and_from _ _ (le-leb _ _ (ltb-false _ _ off)) made.known in
        let path = only.peers made.before made.from r made.message peer made.was_said in
        let takes = subst (λ (q : List ℕ). taken_under net config made.class r made.from (record { path = q; behind = made.message.behind; tag = made.message.tag }) ≡ Some t) path made.takes in
        may.of_peer made.from made.class (record { behind = made.message.behind; tag = made.message.tag }) made.who peer made.of_class takes
    | inl on ↦
        let s = sent on in
        let same : s.class ≡ made.class = cc in
        let out = subst (λ (i : ℕ). export_of net config i made.from r s.of.route.tag ≡ Some made.message.tag) same s.permits in
        let takes = subst (λ (q : List ℕ). taken_under net config made.class r made.from (record { path = s.of.route.path; behind = q; tag = made.message.tag }) ≡ Some t) s.behind
        (subst (λ (q : List ℕ). taken_under net config made.class r made.from (record { path = q; behind = made.message.behind; tag = made.message.tag }) ≡ Some t) s.path made.takes) in
        may.of_router made.from made.class s.of made.message.tag made.who on s.held made.of_class out takes
  ]

  told_sent : (now r to : ℕ) (x : Sent) → is_router net r ≡ true → m.said now r to ≡ Some x
      → ((before : ℕ) (t : FullRoute) → before ≤ now → m.held before r ≡ Some t → Held r t) → MaySend net policy config p r to x
  told_sent now r to x router e holds =
      let a = only.routers now r to x router e in
      record { class = a.1; of_class = a.5; of = a.2; held = holds a.0 a.2 a.3 a.4; permits = a.6; path = a.7; behind = a.8 }

  own_held : (r : ℕ) (t : FullRoute) → (is_router net r && is_origin net policy p r) ≡ true → t ≡ record { route = own_route net config p r; behind = [] } → Held r t
  own_held r t who is = subst (Held r) (sym is) (may.own who)

  held_by : (n now r : ℕ) (t : FullRoute) → now ≤ n → m.held now r ≡ Some t → Held r t
  held_by zero now r t l e = elim (only.held now r t e) [
    | inl own ↦ own_held r t own.0 own.1
    | inr made ↦ (let less = made.earlier in absurd (omega (arith, less, l)))
  ]
  held_by (suc n) now r t l e = elim (only.held now r t e) [
    | inl own ↦ own_held r t own.0 own.1
    | inr made ↦
        let less = made.earlier in
        of_told now r t made (λ on. told_sent made.before made.from r made.message on made.was_said (λ before z early has. held_by n before made.from z (omega (arith, early, less, l)) has))
  ]

pub what_is_told_may_be_held : WhatIsToldMayBeHeld
what_is_told_may_be_held net policy config p m only =
    let all : (now r : ℕ) (t : FullRoute) → m.held now r ≡ Some t → MayHold net policy config p r t = λ now r t e. held_by net policy config p m only now now r t (omega arith) e in
    (all, λ now r to x router e. told_sent net policy config p m only now r to x router e (λ before t early has. all before r t has))
