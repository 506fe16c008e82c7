-- There is one configuration of the evidence.
use Rattle.std.proofs.Common.{◌≡◌, ℕ, suc, List, [], ◌∷◌, map, refl, sym, subst, ◌∙◌, arith, inl, inr}
use Rattle.std.specs.Prelude.{◌↔◌}
use Rattle.std.specs.List.{AllByRecursion}
use Rattle.std.proofs.lemmas.Option.{same_Some}
use Rattle.net_base.specs.declared.net.Site.{Site}
use Rattle.net_base.specs.Network.{PlainNet}
use Rattle.policy_base.specs.Policies.{PlainPolicy}
use Rattle.net_base.specs.Locations.{neighbours}
use Rattle.config_base.specs.declared.config.RouterConfig.{RouterConfig}
use Rattle.config_base.specs.declared.config.Session.{Session}
use Rattle.config_base.specs.declared.config.Import.{Import}
use Rattle.config_base.specs.declared.config.Export.{Export}
use Rattle.config_base.specs.Configs.{PlainConfig, Key, IsBelow, Ascend, tag_key, origination_key}
use Rattle.evidence_base.specs.Made.{PlainCaseEvidence, IsBlock, AreBlocks, IsRouterBlock, IsConfigOf}
use Rattle.list_law.specs.Members.{IsIn}
use Rattle.list_law.proofs.Items.{same_by_places}
use Rattle.list_law.proofs.Members.{AllByRecursion-IsIn, IsIn-cons_cases, IsIn-map, IsIn-nil}

-- ---- lists in order

not_below_itself : (k : Key) → IsBelow k k → ⊥
not_below_itself k h = absurd (omega (arith, (h.1 refl).1 refl))

not_both_below : (k l : Key) → IsBelow k l → IsBelow l k → ⊥
not_both_below k l a b =
    let first : k.first ≡ l.first = omega (arith, a.0, b.0) in
    let there = a.1 first in
    let back = b.1 (sym first) in
    let second : k.second ≡ l.second = omega (arith, there.0, back.0) in
    absurd (omega (arith, there.1 second, back.1 (sym second)))

module _ {A : Type 0} (key : A → Key) where
  above : (k : Key) (xs : List A) (x : A) → AllByRecursion (IsBelow k) (map key xs) → IsIn xs x → IsBelow k (key x)
  above k xs x all h = AllByRecursion-IsIn (IsBelow k) (map key xs) (key x) all (IsIn-map key xs x h)

  heads : (x y : A) (xs ys : List A) → Ascend (map key (x ∷ xs)) → Ascend (map key (y ∷ ys)) → IsIn (y ∷ ys) x → IsIn (x ∷ xs) y → x ≡ y
  heads x y xs ys a b to from = elim (IsIn-cons_cases y ys x to) [
    | inl same ↦ sym same
    | inr later ↦ elim (IsIn-cons_cases x xs y from) [
      | inl same ↦ same
      | inr also ↦ absurd (not_both_below (key x) (key y) (above (key x) xs y a.0 also) (above (key y) ys x b.0 later))
    ]
  ]

  -- what stands behind the first one isn't the first one
  later_in : (x y z : A) (xs ys : List A) → x ≡ y → AllByRecursion (IsBelow (key x)) (map key xs) → IsIn xs z → IsIn (y ∷ ys) z → IsIn ys z
  later_in x y z xs ys same all h to = elim (IsIn-cons_cases y ys z to) [
    | inl first ↦ absurd (not_below_itself (key x) (subst (λ (w : A). IsBelow (key x) (key w)) (sym (same ∙ first)) (above (key x) xs z all h)))
    | inr later ↦ later
  ]

  -- two lists in order with the same items are one
  one_order : (xs ys : List A) → Ascend (map key xs) → Ascend (map key ys) → ((x : A) → IsIn xs x → IsIn ys x) → ((x : A) → IsIn ys x → IsIn xs x) → xs ≡ ys
  one_order [] [] a b to from = refl
  one_order [] (y ∷ ys) a b to from = absurd (IsIn-nil y (from y (0, refl)))
  one_order (x ∷ xs) [] a b to from = absurd (IsIn-nil x (to x (0, refl)))
  one_order (x ∷ xs) (y ∷ ys) a b to from =
      let same = heads x y xs ys a b (to x (0, refl)) (from y (0, refl)) in
      let later = one_order xs ys a.1 b.1 (λ z h. later_in x y z xs ys same a.0 h (to z (suc h.0, h.1))) (λ z h. later_in y x z ys xs (sym same) b.0 h (from z (suc h.0, h.1))) in
      λ i. same i ∷ later i

  -- and so they are where each says the same of its items
  one_meaning : (Is : A → Type 0) (xs ys : List A) → Ascend (map key xs) → Ascend (map key ys) → ((x : A) → IsIn xs x ↔ Is x) → ((x : A) → IsIn ys x ↔ Is x) → xs ≡ ys
  one_meaning Is xs ys a b left right = one_order xs ys a b (λ x h. (right x).1 ((left x).0 h)) (λ x h. (left x).1 ((right x).0 h))

-- ---- blocks

module _ (net : PlainNet) (cs : List PlainCaseEvidence) (x : ℕ) where
  one_block : (z : ℕ) (b c : Session) → IsBlock net cs x z b → IsBlock net cs x z c → b ≡ c
  one_block z b c one other =
      let name = same_Some b.name c.name (sym one.name ∙ other.name) in
      let asn = one.asn ∙ sym other.asn in
      let peer = one.peer ∙ sym other.peer in
      let imports = one_meaning (λ (r : Import). tag_key r.class r.tag) _ b.imports c.imports one.import_order other.import_order one.imports other.imports in
      let exports = one_meaning (λ (e : Export). tag_key e.class e.tag) _ b.exports c.exports one.export_order other.export_order one.exports other.exports in
      λ i. record { name = name i; asn = asn i; peer = peer i; imports = imports i; exports = exports i }

  one_blocks : (zs : List ℕ) (bs ds : List Session) → AreBlocks net cs x zs bs → AreBlocks net cs x zs ds → bs ≡ ds
  one_blocks [] [] [] one other = refl
  one_blocks [] (b ∷ bs) ds one other = absurd one
  one_blocks [] [] (d ∷ ds) one other = absurd other
  one_blocks (z ∷ zs) [] ds one other = absurd one
  one_blocks (z ∷ zs) (b ∷ bs) [] one other = absurd other
  one_blocks (z ∷ zs) (b ∷ bs) (d ∷ ds) one other =
      let first = one_block z b d one.0 other.0 in
      let later = one_blocks zs bs ds one.1 other.1 in
      λ i. first i ∷ later i

  one_router : (r q : RouterConfig) → IsRouterBlock net cs x r → IsRouterBlock net cs x q → r ≡ q
  one_router r q one other =
      let here : Site = record { name = r.name; asn = r.asn; id = r.id } in
      let there : Site = record { name = q.name; asn = q.asn; id = q.id } in
      let site : here ≡ there = same_Some here there (sym one.site ∙ other.site) in
      let own = one_meaning origination_key _ r.own q.own one.own_order other.own_order one.own other.own in
      let sessions = one_blocks (neighbours net x) r.sessions q.sessions one.sessions other.sessions in
      λ i. record { name = (site i).name; asn = (site i).asn; id = (site i).id; own = own i; sessions = sessions i }

pub one_configuration : (net : PlainNet) (policy : PlainPolicy) (cs : List PlainCaseEvidence) (c d : PlainConfig) → IsConfigOf net policy cs c → IsConfigOf net policy cs d → c ≡ d
one_configuration net policy cs c d one other =
    let classes = one.classes ∙ sym other.classes in
    let routers = same_by_places c.routers d.routers (one.count ∙ sym other.count) (λ x r q at there. one_router net cs x r q (one.routers x r at) (other.routers x q there)) in
    λ i. record { classes = classes i; routers = routers i }
