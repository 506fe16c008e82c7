-- Where nothing waits on any link, nothing waits anywhere.
use Rattle.std.proofs.Common.{◌≡◌, ℕ, Bool, true, false, ◌&&◌, List, [], ◌∷◌, inl, inr, refl, sym, ap, ◌∙◌}
use Rattle.std.specs.Prelude.{option_map, slice_index_or, nat_lt, if◌then◌else◌, ◌+◌, length}
use Rattle.std.specs.List.{list_all, position}
use Rattle.std.specs.Option.{option_map_or}
use Rattle.std.proofs.lemmas.Bool.{and_parts, and_from, cases_Bool}
use Rattle.list_law.specs.Members.{IsIn}
use Rattle.list_law.proofs.Each.{AllByRecursion-from_list_all}
use Rattle.list_law.proofs.Members.{AllByRecursion-IsIn, list_any_member}
use Rattle.list_law.proofs.Options.{none_from_not_some}
use Rattle.net_base.specs.Network.{PlainNet, joins, linked}
use Rattle.net_base.proofs.LinkSearch.{is_some-position}
use Rattle.net_base.proofs.Links.{joins_ends}
use Rattle.event_state.specs.Directions.{at_direction}
use Rattle.event_state.specs.Idle.{is_idle}

-- where there is no link nothing stands
pub unlinked : {A : Type 0} (net : PlainNet) (xs : List A) (nothing : A) (a b : ℕ) → linked net a b ≡ false → at_direction net xs nothing a b ≡ nothing
unlinked net xs nothing a b h =
    ap (λ o. option_map_or (λ d. slice_index_or xs d nothing) (option_map (λ place. if nat_lt a b then place else length net.links + place) o) nothing)
    (none_from_not_some (position (joins a b) net.links) (is_some-position (joins a b) net.links ∙ h))

empty : {A : Type 0} (ms : List A) → is_idle ms ≡ true → ms ≡ []
empty [] h = refl
empty (m ∷ ms) h = cc

-- nothing waits on a link, either way
abbrev pub is_idle_link : {A : Type 0} → (ℕ → ℕ → List A) → ℕ × ℕ → Bool
is_idle_link queue k = is_idle (queue k.0 k.1) && is_idle (queue k.1 k.0)

module _ {A : Type 0} (net : PlainNet) (queues : List (List A)) where
  abbrev pub queue : ℕ → ℕ → List A
  queue = at_direction net queues []

  idle_each : (ks : List (ℕ × ℕ)) → ((a b : ℕ) → queue a b ≡ []) → list_all (is_idle_link queue) ks ≡ true
  idle_each [] h = refl
  idle_each (k ∷ ks) h = and_from _ _ (and_from _ _ (ap is_idle (h k.0 k.1)) (ap is_idle (h k.1 k.0))) (idle_each ks h)

  empty_all : list_all (is_idle_link queue) net.links ≡ true → (a b : ℕ) → queue a b ≡ []
  empty_all h a b = elim (cases_Bool (linked net a b)) [
    | inl t ↦ (let k = list_any_member (joins a b) net.links t in on_link k.0 k.1 k.2)
    | inr f ↦ unlinked net queues [] a b f
  ]
    where
      on_link : (k : ℕ × ℕ) → IsIn net.links k → joins a b k ≡ true → queue a b ≡ []
      on_link k at j =
          let idle = and_parts _ _ (AllByRecursion-IsIn (λ l. is_idle_link queue l ≡ true) net.links k
          (AllByRecursion-from_list_all (λ l. is_idle_link queue l ≡ true) (is_idle_link queue) (λ l t. t) net.links h) at) in
          elim (joins_ends a b k j) [
            | inl e ↦ ap (λ x. queue x b) (sym e.0) ∙ ap (queue k.0) (sym e.1) ∙ empty (queue k.0 k.1) idle.0
            | inr e ↦ ap (λ x. queue x b) (sym e.1) ∙ ap (queue k.1) (sym e.0) ∙ empty (queue k.1 k.0) idle.1
          ]

  pub quiet_where : (r : Bool) → r ≡ list_all (is_idle_link queue) net.links → (r ≡ true → (a b : ℕ) → queue a b ≡ []) × (((a b : ℕ) → queue a b ≡ []) → r ≡ true)
  quiet_where r e = (λ t. empty_all (sym e ∙ t), λ h. e ∙ idle_each net.links h)
