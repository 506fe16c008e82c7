-- The names that are known stand for locations of the network, and each for one at least.
use Rattle.std.proofs.Common.{◌≡◌, ℕ, ◌+◌, ◌≤◌, List, [], ◌∷◌, length, Bool, true, false, Option, Some, None, Ok, subst, arith}
use Rattle.std.specs.Prelude.{slice_get, if◌then◌else◌}
use Rattle.std.specs.List.{AllByRecursion, position}
use Rattle.std.specs.Str.{bytes_eq}
use Rattle.std.proofs.lemmas.Option.{option_and_then_some}
use Rattle.net_base.specs.declared.loc.LocSet.{LocSet}
use Rattle.net_base.specs.declared.net.Site.{Site}
use Rattle.net_base.specs.declared.place.Place.{Place}
use Rattle.net_base.specs.Network.{PlainNet, IsNet}
use Rattle.net_base.specs.Steps.{◌>>=◌}
use Rattle.net_base.proofs.StepLemmas.{bind_ok, or_fault_ok}
use Rattle.policy_tokens.specs.declared.fault.PolicyFault.TheVariants.{Unknown, Twice}
use Rattle.policy_grammar.specs.declared.lexeme.Lexeme.{Lexeme}
use Rattle.policy_grammar.specs.Raw.{Item}
use Rattle.policy_grammar.specs.Raw.Item.{Define, Originate, State}
use Rattle.net_base.specs.SetOperations.{no_location, with_location, union_of}
use Rattle.policy_rules.specs.KnownNames.{Names, set_named, is_known, with_name, with_new_name, with_sites, net_names, with_group, first_place}
use Rattle.policy_rules.specs.Checks.{text, set_at, joined, set_of_names, each, name_known, arg_known, step_known, learnt, all_learnt}
use Rattle.policy_parser.specs.Spelled.{names_spelled, none_at}
use Rattle.list_law.proofs.Each.{AllByRecursion-push, AllByRecursion_at}
use Rattle.policy_text.proofs.Forms.{IsNamed, HasForm}
use Rattle.policy_text.proofs.Sets.{IsSome, none_part, one_some, both_some}

-- each name stands for a set of this kind
abbrev pub NamesStand : ℕ → Names → Type 0
NamesStand n known = AllByRecursion (IsSome n) known.sets

module _ (n : ℕ) (bytes : List ℕ) where
  -- ---- lists of names

  named_some : (known : Names) (name : List ℕ) (s : LocSet) → NamesStand n known → set_named known name ≡ Some s → IsSome n s
  named_some known name s stand found =
      option_and_then_some (slice_get known.sets) (position (bytes_eq name) known.names) s found (λ i at here. AllByRecursion_at (IsSome n) known.sets i s stand here)

  set_at_some : (known : Names) (l : Lexeme) (s : LocSet) → NamesStand n known → set_at bytes known l ≡ Ok s → IsSome n s
  unfolding set_at
  set_at_some known l s stand found = named_some known (text bytes l) s stand (or_fault_ok (Unknown l.place) (set_named known (text bytes l)) s found)

  joined_some : (known : Names) (so_far s : LocSet) (ls : List Lexeme) → NamesStand n known → IsSome n so_far → joined bytes known so_far ls ≡ Ok s → IsSome n s
  joined_some known so_far s [] stand before e = let same : so_far ≡ s = cc in subst (IsSome n) same before
  joined_some known so_far s (l ∷ ls) stand before e =
      let b = bind_ok (set_at bytes known l) (λ t. joined bytes known (union_of so_far t) ls) s e in
      joined_some known (union_of so_far b.0) s ls stand (both_some n so_far b.0 before.part (set_at_some known l b.0 stand b.1)) b.2

  -- a list of names stands for such a set
  pub names_some : (known : Names) (s : LocSet) (ls : List Lexeme) → NamesStand n known → IsNamed ls → set_of_names bytes known ls ≡ Ok s → IsSome n s
  names_some known s [] stand named e = absurd named
  names_some known s (l ∷ ls) stand named e =
      let b = bind_ok (set_at bytes known l) (λ t. joined bytes known (union_of no_location t) ls) s e in
      joined_some known (union_of no_location b.0) s ls stand (both_some n no_location b.0 (none_part n) (set_at_some known l b.0 stand b.1)) b.2

  -- ---- one name more

  name_more : (known : Names) (name : List ℕ) (s : LocSet) (b : Bool) → NamesStand n known → IsSome n s → NamesStand n (if b then known else with_name known name s)
  name_more known name s true stand here = stand
  name_more known name s false stand here = AllByRecursion-push (IsSome n) known.sets s stand here

  group_more : (known : Names) (place : Option Place) (name : List ℕ) (s : LocSet) (b : Bool) → NamesStand n known → IsSome n s
      → NamesStand n (if b then record { names = known.names; sets = known.sets; twice = place } else with_name known name s)
  group_more known place name s true stand here = stand
  group_more known place name s false stand here = AllByRecursion-push (IsSome n) known.sets s stand here

  -- ---- the names of the network

  sites_stand : n ≤ 768 → (l : ℕ) (xs : List Site) (known : Names) → l + length xs ≤ n → NamesStand n known → NamesStand n (with_sites l xs known)
  sites_stand small l [] known room stand = stand
  sites_stand small l (x ∷ xs) known room stand =
      let s : LocSet = with_location no_location l in
      sites_stand small (l + 1) xs (with_new_name known x.name s) (omega (arith, room)) (name_more known x.name s (is_known known x.name) stand (one_some n l (omega (arith, room)) small))

  -- ---- the names of the groups

  learnt_stand : (known next : Names) (item : Item) → HasForm item → NamesStand n known → learnt bytes known item ≡ Ok next → NamesStand n next
  learnt_stand known next (Define name members) form stand e =
      let b = bind_ok (set_of_names bytes known members) (λ s. Ok (with_group known name.place (text bytes name) s)) next e in
      let same : with_group known name.place (text bytes name) b.0 ≡ next = cc in
      subst (NamesStand n) same (group_more known (first_place known.twice name.place) (text bytes name) b.0 (is_known known (text bytes name)) stand (names_some known b.0 members stand form b.1))
  learnt_stand known next (Originate prefix names) form stand e =
      let b = bind_ok (each (name_known bytes known) names) (λ _. Ok known) next e in
      let same : known ≡ next = cc in
      subst (NamesStand n) same stand
  learnt_stand known next (State s) form stand e =
      let a = bind_ok (each (step_known bytes known) s.ranked) (λ _. arg_known bytes known s.from >>= λ _. Ok known) next e in
      let b = bind_ok (arg_known bytes known s.from) (λ _. Ok known) next a.2 in
      let same : known ≡ next = cc in
      subst (NamesStand n) same stand

  all_stand : (known last : Names) (items : List Item) → AllByRecursion HasForm items → NamesStand n known → all_learnt bytes known items ≡ Ok last → NamesStand n last
  all_stand known last [] forms stand e = let same : known ≡ last = cc in subst (NamesStand n) same stand
  all_stand known last (item ∷ items) forms stand e =
      let b = bind_ok (learnt bytes known item) (λ next. all_learnt bytes next items) last e in
      all_stand b.0 last items forms.1 (learnt_stand known b.0 item forms.0 stand b.1) b.2

net_stand : (net : PlainNet) → IsNet net → (bytes : List ℕ) → NamesStand (length net.routers + length net.peers) (net_names net)
net_stand net rules bytes =
    let n : ℕ = length net.routers + length net.peers in
    let few_routers : length net.routers ≤ 512 = rules.routers in
    let few_peers : length net.peers ≤ 256 = rules.peers in
    let small : n ≤ 768 = omega arith in
    let empty : Names = record { names = []; sets = []; twice = None } in
    sites_stand n bytes small (length net.routers) net.peers (with_sites 0 net.routers empty) (omega arith) (sites_stand n bytes small 0 net.routers empty (omega arith) tt)

-- each name that a text may use
pub names_stand : (bytes : List ℕ) (net : PlainNet) (known : Names) (items : List Item) → IsNet net → AllByRecursion HasForm items
    → names_spelled bytes net items ≡ Ok known → NamesStand (length net.routers + length net.peers) known
unfolding names_spelled
names_stand bytes net known items rules forms e =
    let n : ℕ = length net.routers + length net.peers in
    let a = bind_ok (all_learnt bytes (net_names net) items) (λ k. none_at Twice k.twice >>= λ _. Ok k) known e in
    let b = bind_ok (none_at Twice a.0.twice) (λ _. Ok a.0) known a.2 in
    let same : a.0 ≡ known = cc in
    subst (NamesStand n) same (all_stand n bytes (net_names net) a.0 items forms (net_stand net rules bytes) a.1)
