-- The classes that were seen tell which prefixes join.
use Rattle.std.proofs.Common.{◌≡◌, Bool, true, false, List, [], ◌∷◌, ◌++◌, map, Option, Some, None, Result, Ok, Err, OnOk, sym, ap, ap₂, ◌∙◌}
use Rattle.std.specs.Prelude.{if◌then◌else◌}
use Rattle.std.specs.List.{list_any}
use Rattle.std.proofs.lemmas.List.{map-append}
use Rattle.list_law.proofs.Tests.{list_any-map}
use Rattle.net_base.specs.Prefixes.{PlainPrefix}
use Rattle.policy_base.specs.Policies.{PlainPolicy}
use Rattle.least_prefixes.specs.declared.asked.Class.{Class}
use Rattle.least_prefixes.specs.Classes.{class_for}
use Rattle.least_prefixes.specs.Least.{AreSeen, is_of, joined, joined_by, same_class, with_class}

module _ (old new : PlainPolicy) (seen : List Class) (ps : List PlainPrefix) (p : PlainPrefix) (are_seen : AreSeen old new seen ps) where
  any_seen : (c : Class) → list_any (λ q. is_of c (class_for old new q)) ps ≡ list_any (same_class c) seen
  any_seen c = sym (list_any-map (is_of c) (class_for old new) ps) ∙ ap (list_any (is_of c)) are_seen ∙ list_any-map (is_of c) Some seen

  module _ (c : Class) (is : class_for old new p ≡ Some c) where
    joined_some : with_class seen ps c p ≡ joined old new ps p
    joined_some = ap (λ b. if b then ps else ps ++ p ∷ []) (sym (any_seen c)) ∙ ap (joined_by old new ps p) (sym is)

    seen_if : (b : Bool) → AreSeen old new (if b then seen else seen ++ c ∷ []) (if b then ps else ps ++ p ∷ [])
    seen_if true = are_seen
    seen_if false =
        map-append (class_for old new) ps (p ∷ []) ∙ ap₂ (λ (xs ys : List (Option Class)). xs ++ ys) are_seen (ap (λ (o : Option Class). o ∷ []) is)
        ∙ sym (map-append Some seen (c ∷ []))

    seen_some : AreSeen old new (if list_any (same_class c) seen then seen else seen ++ c ∷ []) (with_class seen ps c p)
    seen_some = seen_if (list_any (same_class c) seen)

-- ---- what one prefix makes of them

pub on_ok_map : {T E : Type 0} (r : Result T E) {P Q : Type 0} → (P → Q) → OnOk r P → OnOk r Q
on_ok_map (Ok x) f h = f h
on_ok_map (Err e) f h = h

pub none_joins : (old new : PlainPolicy) (ps : List PlainPrefix) (p : PlainPrefix) (found : Option Class) → found ≡ class_for old new p → found ≡ None → ps ≡ joined old new ps p
none_joins old new ps p found class none = ap (joined_by old new ps p) (sym none ∙ class)

pub some_joins : (old new : PlainPolicy) (seen : List Class) (ps : List PlainPrefix) (p : PlainPrefix) (found : Option Class) (c : Class) (joining : List PlainPrefix)
    → AreSeen old new seen ps → found ≡ class_for old new p → found ≡ Some c → joining ≡ with_class seen ps c p → joining ≡ joined old new ps p
some_joins old new seen ps p found c joining are_seen class is joins = joins ∙ joined_some old new seen ps p are_seen c (sym class ∙ is)

pub some_is_seen : (old new : PlainPolicy) (seen : List Class) (ps : List PlainPrefix) (p : PlainPrefix) (found : Option Class) (c : Class) (more : List Class) (joining : List PlainPrefix)
    → AreSeen old new seen ps → found ≡ class_for old new p → found ≡ Some c → more ≡ (if list_any (same_class c) seen then seen else seen ++ c ∷ [])
    → joining ≡ with_class seen ps c p → AreSeen old new more joining
some_is_seen old new seen ps p found c more joining are_seen class is sees joins =
    ap (map (class_for old new)) joins ∙ seen_some old new seen ps p are_seen c (sym class ∙ is) ∙ ap (map Some) (sym sees)
