-- The names that are known in place of those of a text: no other names are unknown, and no other sets have a peer.
use Rattle.std.proofs.Common.{◌≡◌, ℕ, zero, suc, ◌+◌, ◌≤◌, ◌<◌, Bool, true, false, List, [], ◌∷◌, length, length-append, Option, Some, None, Result, Ok, Err, refl, sym, ap, ◌∙◌, arith, lt-ltb}
use Rattle.std.specs.Prelude.{⊤, ◌||◌, not, nat_lt, slice_get, option_map, option_and_then}
use Rattle.std.specs.List.{position}
use Rattle.std.specs.Str.{bytes_eq}
use Rattle.std.proofs.lemmas.Cmp.{nat_eq_equiv}
use Rattle.std.proofs.lemmas.List.{map-append}
use Rattle.std.proofs.lemmas.Option.{slice_get-map}
use Rattle.list_law.proofs.Truth.{or_or_or_comm}
use Rattle.net_base.specs.declared.loc.LocSet.{LocSet}
use Rattle.net_base.specs.declared.place.Place.{Place}
use Rattle.net_base.specs.Network.{PlainNet, IsNet}
use Rattle.net_base.specs.Sets.{holds}
use Rattle.net_base.specs.SetOperations.{no_location, with_location, union_of}
use Rattle.net_base.specs.Steps.{◌>>=◌, or_fault, unless}
use Rattle.net_base.proofs.SetLaws.{holds-none, holds-one_more, holds-union}
use Rattle.net_base.proofs.StepLemmas.{ok_same, err_same}
use Rattle.policy_tokens.specs.declared.fault.PolicyFault.{PolicyFault}
use Rattle.policy_tokens.specs.declared.fault.PolicyFault.TheVariants.{OriginPeer, Unknown}
use Rattle.policy_grammar.specs.declared.lexeme.Lexeme.{Lexeme}
use Rattle.policy_grammar.specs.Raw.{Arg, Arg as arg, Step, Step as step}
use Rattle.policy_rules.specs.KeptNames.{stand_in, kept_set, with_kept_group}
use Rattle.policy_rules.specs.KnownNames.{Names, set_named, is_known, with_group}
use Rattle.policy_rules.specs.Checks.{text, set_at, joined, each, name_known, arg_known, step_known}
use Rattle.policy_rules.specs.Origins.{has_some, has_peer, routers_alone}
use Rattle.policy_parser.specs.SoFar.{IsLike, IsKnown}
use Rattle.policy_parser.proofs.TakenItems.{passes}

-- ---- sets

-- either of two sets has one
has_some_union : (s t : LocSet) (l n : ℕ) → l + n ≤ 768 → has_some (union_of s t) l n ≡ (has_some s l n || has_some t l n)
has_some_union s t l zero fit = refl
has_some_union s t l (suc n) fit =
    rw (holds-union s t l (omega (arith, fit)), has_some_union s t (l + 1) n (omega (arith, fit)))
    (or_or_or_comm (holds s l) (holds t l) (has_some s (l + 1) n) (has_some t (l + 1) n))

has_some_none : (l n : ℕ) → l + n ≤ 768 → has_some no_location l n ≡ false
has_some_none l zero fit = refl
has_some_none l (suc n) fit = rw (holds-none l (omega (arith, fit)), has_some_none (l + 1) n (omega (arith, fit))) refl

has_some_here : (l n : ℕ) → l < 768 → has_some (with_location no_location l) l (suc n) ≡ true
has_some_here l n low = rw (holds-one_more no_location l l low refl, holds-none l low, nat_eq_equiv.refl l) refl

has_some_stand_in : (net : PlainNet) (b : Bool) (n : ℕ) (s : LocSet) → length net.routers + n ≤ 768 → has_some s (length net.routers) n ≡ b → has_some (stand_in net b) (length net.routers) n ≡ b
has_some_stand_in net false n s fit e = has_some_none (length net.routers) n fit
has_some_stand_in net true zero s fit e = absurd cc
has_some_stand_in net true (suc n) s fit e = has_some_here (length net.routers) n (omega (arith, fit))

module _ (net : PlainNet) (is : IsNet net) where
  fit : length net.routers + length net.peers ≤ 768
  fit = omega (arith, is.routers, is.peers)

  has_peer_union : (s t : LocSet) → has_peer net (union_of s t) ≡ (has_peer net s || has_peer net t)
  has_peer_union s t = has_some_union s t (length net.routers) (length net.peers) fit

  -- what is kept of a set has a peer where the set has one
  kept_like : (known : Names) (s : LocSet) → has_peer net (kept_set net known s) ≡ has_peer net s
  kept_like known s = by (nat_lt (length known.sets) 1024) refl
    where
      by : (b : Bool) → nat_lt (length known.sets) 1024 ≡ b → has_peer net (kept_set net known s) ≡ has_peer net s
      by true e = rw e refl
      by false e = rw e (has_some_stand_in net (has_peer net s) (length net.peers) s fit refl)

-- where there is room, the set itself is kept
pub kept_whole : (net : PlainNet) (known : Names) (s : LocSet) → length known.sets < 1024 → kept_set net known s ≡ s
kept_whole net known s room = rw (lt-ltb (length known.sets) 1024 room) refl

-- ---- the peers of a set that is read

-- whether it has one
abbrev pub peer_told : PlainNet → Result LocSet PolicyFault → Result Bool PolicyFault
peer_told net r = r >>= λ s. Ok (has_peer net s)

pub peer_ok : (net : PlainNet) (r : Result LocSet PolicyFault) (b : Bool) → peer_told net r ≡ Ok b → (s : LocSet) × (r ≡ Ok s) × (has_peer net s ≡ b)
peer_ok net (Ok s) b h = (s, refl, ok_same (has_peer net s) b h)
peer_ok net (Err e) b h = absurd cc

pub peer_err : (net : PlainNet) (r : Result LocSet PolicyFault) (e : PolicyFault) → peer_told net r ≡ Err e → r ≡ Err e
peer_err net (Ok s) e h = absurd cc
peer_err net (Err d) e h = ap (λ (f : PolicyFault). Err f) (err_same d e h)

told_behind : (net : PlainNet) (r q : Result LocSet PolicyFault) (f g : LocSet → Result LocSet PolicyFault) → peer_told net r ≡ peer_told net q
    → ((s t : LocSet) → has_peer net s ≡ has_peer net t → peer_told net (f s) ≡ peer_told net (g t))
    → peer_told net (r >>= f) ≡ peer_told net (q >>= g)
told_behind net (Ok s) (Ok t) f g same next = next s t (ok_same (has_peer net s) (has_peer net t) same)
told_behind net (Ok s) (Err e) f g same next = absurd cc
told_behind net (Err e) (Ok t) f g same next = absurd cc
told_behind net (Err d) (Err e) f g same next = ap (λ (x : PolicyFault). Err x) (err_same d e same)

-- each of them passes both
each_same_check : {A : Type 0} (f g : A → Result ⊤ PolicyFault) → ((x : A) → f x ≡ g x) → (xs : List A) → each f xs ≡ each g xs
each_same_check f g same [] = refl
each_same_check f g same (x ∷ xs) = rw (same x, each_same_check f g same xs) refl

module _ (bytes : List ℕ) (net : PlainNet) (k known : Names) (like : IsLike net k known) where
  named_like : (name : List ℕ) → option_map (has_peer net) (set_named k name) ≡ option_map (has_peer net) (set_named known name)
  named_like name = rw like.names (by (position (bytes_eq name) known.names))
    where
      by : (o : Option ℕ) → option_map (has_peer net) (option_and_then (slice_get k.sets) o) ≡ option_map (has_peer net) (option_and_then (slice_get known.sets) o)
      by (Some i) = sym (slice_get-map (has_peer net) k.sets i) ∙ ap (λ (bs : List Bool). slice_get bs i) like.sets ∙ slice_get-map (has_peer net) known.sets i
      by None = refl

  at_like : (n : Lexeme) → peer_told net (set_at bytes k n) ≡ peer_told net (set_at bytes known n)
  unfolding set_at
  at_like n = told (set_named k (text bytes n)) ∙ ap (or_fault (Unknown n.place)) (named_like (text bytes n)) ∙ sym (told (set_named known (text bytes n)))
    where
      told : (o : Option LocSet) → peer_told net (or_fault (Unknown n.place) o) ≡ or_fault (Unknown n.place) (option_map (has_peer net) o)
      told (Some s) = refl
      told None = refl

  -- the same names are known
  name_like : (n : Lexeme) → name_known bytes k n ≡ name_known bytes known n
  name_like n = told (set_at bytes k n) ∙ ap (λ (r : Result Bool PolicyFault). passes r) (at_like n) ∙ sym (told (set_at bytes known n))
    where
      told : (r : Result LocSet PolicyFault) → passes r ≡ passes (peer_told net r)
      told (Ok s) = refl
      told (Err e) = refl

  pub names_like : (ns : List Lexeme) → each (name_known bytes k) ns ≡ each (name_known bytes known) ns
  names_like = each_same_check (name_known bytes k) (name_known bytes known) name_like

  pub arg_like : (a : Arg) → arg_known bytes k a ≡ arg_known bytes known a
  arg_like arg.Any = refl
  arg_like (arg.Names ns) = names_like ns

  step_like : (s : Step) → step_known bytes k s ≡ step_known bytes known s
  step_like (step.Call c) = each_same_check (arg_known bytes k) (arg_known bytes known) arg_like c.args
  step_like (step.Above p) = refl
  step_like step.Or = refl
  step_like step.And = refl
  step_like step.Not = refl

  pub steps_like : (ss : List Step) → each (step_known bytes k) ss ≡ each (step_known bytes known) ss
  steps_like = each_same_check (step_known bytes k) (step_known bytes known) step_like

  -- the same names stand for routers alone
  alone_like : (n : Lexeme) → routers_alone bytes net k n ≡ routers_alone bytes net known n
  alone_like n = told (set_at bytes k n) ∙ ap (λ (r : Result Bool PolicyFault). r >>= λ b. unless (OriginPeer n.place) (not b)) (at_like n) ∙ sym (told (set_at bytes known n))
    where
      told : (r : Result LocSet PolicyFault) → (r >>= λ s. unless (OriginPeer n.place) (not (has_peer net s))) ≡ (peer_told net r >>= λ b. unless (OriginPeer n.place) (not b))
      told (Ok s) = refl
      told (Err e) = refl

  pub all_alone_like : (ns : List Lexeme) → each (routers_alone bytes net k) ns ≡ each (routers_alone bytes net known) ns
  all_alone_like = each_same_check (routers_alone bytes net k) (routers_alone bytes net known) alone_like

  -- a list of names has a peer for both
  pub joined_like : IsNet net → (s t : LocSet) → has_peer net s ≡ has_peer net t → (ns : List Lexeme) → peer_told net (joined bytes k s ns) ≡ peer_told net (joined bytes known t ns)
  joined_like is s t same [] = ap (λ (b : Bool). Ok b) same
  joined_like is s t same (n ∷ ns) =
      told_behind net (set_at bytes k n) (set_at bytes known n) (λ x. joined bytes k (union_of s x) ns) (λ x. joined bytes known (union_of t x) ns) (at_like n)
      (λ x y peer. joined_like is (union_of s x) (union_of t y) (has_peer_union net is s x ∙ rw (same, peer) (sym (has_peer_union net is t y))) ns)

-- ---- a group more

module _ (net : PlainNet) (is : IsNet net) (k known : Names) (p : Place) (name : List ℕ) (s t : LocSet) where
  group_like : has_peer net s ≡ has_peer net t → IsLike net k known → IsLike net (with_group k p name s) (with_kept_group net known p name t)
  group_like peer like = by (is_known known name) refl
    where
      one : has_peer net s ≡ has_peer net (kept_set net known t)
      one = peer ∙ sym (kept_like net is known t)

      by : (b : Bool) → is_known known name ≡ b → IsLike net (with_group k p name s) (with_kept_group net known p name t)
      by true e = rw (like.names, e) (record { names = refl; sets = like.sets; twice = rw like.twice refl })
      by false e = rw (like.names, e) (record {
        names = refl;
        sets = map-append (has_peer net) k.sets (s ∷ []) ∙ rw (like.sets, one) (sym (map-append (has_peer net) known.sets (kept_set net known t ∷ [])));
        twice = like.twice;
      })

  group_few : length (with_kept_group net known p name t).sets ≤ length known.sets + 1
  group_few = by (is_known known name) refl
    where
      by : (b : Bool) → is_known known name ≡ b → length (with_kept_group net known p name t).sets ≤ length known.sets + 1
      by true e = rw e (omega arith)
      by false e = rw e (omega (arith, length-append known.sets (kept_set net known t ∷ [])))

  -- as long as there are no more groups than a policy may have, a group more keeps its set
  pub group_known : (definitions next : ℕ) → (next ≤ 256 → definitions + 1 ≡ next) → has_peer net s ≡ has_peer net t → (k ≡ known → s ≡ t)
      → IsKnown net k known definitions → IsKnown net (with_group k p name s) (with_kept_group net known p name t) next
  group_known definitions next one peer set i = record {
    like = group_like peer i.like;
    same = λ fits.
        let before : definitions ≤ 256 = omega (arith, fits, one fits) in
        let few = i.few before in
        let here = i.same before in
        rw (here, set here, kept_whole net known t (omega (arith, few, fits, one fits))) refl;
    few = λ fits.
        let before : definitions ≤ 256 = omega (arith, fits, one fits) in
        omega (arith, group_few, i.few before, one fits);
  }
