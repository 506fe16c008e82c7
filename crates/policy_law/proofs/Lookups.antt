-- Names that are looked up in order.
use Rattle.std.proofs.Common.{◌≡◌, ℕ, ◌+◌, List, [], ◌∷◌, ◌++◌, length, Bool, true, false, Option, Some, None, refl, sym, ap, ap₂, ◌∙◌, arith, length-append, append_assoc}
use Rattle.std.specs.Option.{is_some}
use Rattle.std.specs.Prelude.{slice_get, option_and_then, option_map, if◌then◌else◌}
use Rattle.std.specs.List.{list_any, position_from}
use Rattle.std.specs.Str.{bytes_eq}
use Rattle.std.proofs.lemmas.Iterator.Adapters.{position_from-zero}
use Rattle.std.proofs.lemmas.Slice.Eq.{bytes_eq-Decides}
use Rattle.list_law.proofs.Items.{slice_get-there}
use Rattle.net_base.specs.declared.loc.LocSet.{LocSet}
use Rattle.net_base.specs.declared.net.Site.{Site}
use Rattle.net_base.specs.Network.{PlainNet}
use Rattle.net_base.specs.SetOperations.{no_location, with_location}
use Rattle.policy_rules.specs.KnownNames.{Names, set_named, is_known, with_name, with_new_name, with_sites, net_names}
use Rattle.policy_law.specs.Senses.{or_else, location_named}

-- what stands beside the first name that passes
pub lookup : {N S : Type 0} → (N → Bool) → List N → List S → Option S
lookup p [] ss = None
lookup p (n ∷ ns) [] = None
lookup p (n ∷ ns) (s ∷ ss) = if p n then Some s else lookup p ns ss

from_place : {N S : Type 0} (p : N → Bool) (ns : List N) (ss pre : List S) → length ns ≡ length ss → option_and_then (slice_get (pre ++ ss)) (position_from p (length pre) ns) ≡ lookup p ns ss
unfolding lookup
from_place p [] ss pre size = refl
from_place p (n ∷ ns) [] pre size = absurd (omega (arith, size))
from_place {S = S} p (n ∷ ns) (s ∷ ss) pre size = by (p n) refl (from_place p ns ss (pre ++ s ∷ []) (omega (arith, size)))
  where
    by : (b : Bool) → p n ≡ b → option_and_then (slice_get ((pre ++ s ∷ []) ++ ss)) (position_from p (length (pre ++ s ∷ [])) ns) ≡ lookup p ns ss
        → option_and_then (slice_get (pre ++ s ∷ ss)) (position_from p (length pre) (n ∷ ns)) ≡ lookup p (n ∷ ns) (s ∷ ss)
    by true e again = rw e (slice_get-there pre s ss)
    by false e again =
        let size' : length (pre ++ s ∷ []) ≡ length pre + 1 = length-append pre (s ∷ []) in
        rw e (ap₂ (λ (xs : List S) (k : ℕ). option_and_then (slice_get xs) (position_from p k ns)) (sym (append_assoc pre (s ∷ []) ss)) (sym size') ∙ again)

-- names and sets are as many
abbrev pub IsPaired : Names → Type 0
IsPaired known = length known.names ≡ length known.sets

-- a name stands for the set beside the first name that is the same
pub found : (known : Names) (name : List ℕ) → IsPaired known → set_named known name ≡ lookup (bytes_eq name) known.names known.sets
found known name paired = ap (option_and_then (slice_get known.sets)) (position_from-zero (bytes_eq name) known.names) ∙ from_place (bytes_eq name) known.names known.sets [] paired

lookup-more : {N S : Type 0} (p : N → Bool) (ns : List N) (ss : List S) (n : N) (s : S) → length ns ≡ length ss
    → lookup p (ns ++ n ∷ []) (ss ++ s ∷ []) ≡ or_else (lookup p ns ss) (if p n then Some s else None)
unfolding lookup
lookup-more p [] [] n s size = refl
lookup-more p [] (t ∷ ss) n s size = absurd (omega (arith, size))
lookup-more p (m ∷ ns) [] n s size = absurd (omega (arith, size))
lookup-more p (m ∷ ns) (t ∷ ss) n s size = by (p m) refl (lookup-more p ns ss n s (omega (arith, size)))
  where
    by : (b : Bool) → p m ≡ b → lookup p (ns ++ n ∷ []) (ss ++ s ∷ []) ≡ or_else (lookup p ns ss) (if p n then Some s else None)
        → lookup p (m ∷ ns ++ n ∷ []) (t ∷ ss ++ s ∷ []) ≡ or_else (lookup p (m ∷ ns) (t ∷ ss)) (if p n then Some s else None)
    by true e again = rw e refl
    by false e again = rw e again

-- a name more stands for its set, where it stood for none
pub name_more : (known : Names) (n : List ℕ) (s : LocSet) (name : List ℕ) → IsPaired known
    → set_named (with_name known n s) name ≡ or_else (set_named known name) (if bytes_eq name n then Some s else None)
name_more known n s name paired =
    found (with_name known n s) name (omega (arith, paired, length-append known.names (n ∷ []), length-append known.sets (s ∷ [])))
    ∙ lookup-more (bytes_eq name) known.names known.sets n s paired
    ∙ ap (λ (o : Option LocSet). or_else o (if bytes_eq name n then Some s else None)) (sym (found known name paired))

pub paired_more : (known : Names) (n : List ℕ) (s : LocSet) → IsPaired known → IsPaired (with_name known n s)
paired_more known n s paired = omega (arith, paired, length-append known.names (n ∷ []), length-append known.sets (s ∷ []))

any_lookup : {N S : Type 0} (p : N → Bool) (ns : List N) (ss : List S) → length ns ≡ length ss → list_any p ns ≡ is_some (lookup p ns ss)
unfolding lookup
any_lookup p [] ss size = refl
any_lookup p (n ∷ ns) [] size = absurd (omega (arith, size))
any_lookup p (n ∷ ns) (s ∷ ss) size = by (p n) refl (any_lookup p ns ss (omega (arith, size)))
  where
    by : (b : Bool) → p n ≡ b → list_any p ns ≡ is_some (lookup p ns ss) → list_any p (n ∷ ns) ≡ is_some (lookup p (n ∷ ns) (s ∷ ss))
    by true e again = rw e refl
    by false e again = rw e again

-- a name is known where it stands for a set
pub known_some : (known : Names) (name : List ℕ) → IsPaired known → is_known known name ≡ is_some (set_named known name)
known_some known name paired = any_lookup (bytes_eq name) known.names known.sets paired ∙ ap is_some (sym (found known name paired))

-- what stands for a set stands for no other
pub kept : (o : Option LocSet) (p : Option LocSet) → is_some o ≡ true → or_else o p ≡ o
kept (Some s) p e = refl
kept None p e = absurd cc

none_more : (o : Option LocSet) → or_else o None ≡ o
none_more (Some s) = refl
none_more None = refl

-- a name that is known is not known anew
pub known_more : (known : Names) (n : List ℕ) (s : LocSet) (name : List ℕ) → IsPaired known → is_known known n ≡ true
    → set_named known name ≡ or_else (set_named known name) (if bytes_eq name n then Some s else None)
known_more known n s name paired there = by (bytes_eq name n) refl
  where
    by : (b : Bool) → bytes_eq name n ≡ b → set_named known name ≡ or_else (set_named known name) (if b then Some s else None)
    by true e =
        let same : name ≡ n = (bytes_eq-Decides name n).0 e in
        sym (kept (set_named known name) (Some s) (sym (known_some known name paired) ∙ ap (is_known known) same ∙ there))
    by false e = sym (none_more (set_named known name))

-- ---- the names of a network

abbrev one_more : Names → List ℕ → LocSet → List ℕ → Option LocSet
one_more known n s name = or_else (set_named known name) (if bytes_eq name n then Some s else None)

new_name : (known : Names) (n : List ℕ) (s : LocSet) (name : List ℕ) → IsPaired known → set_named (with_new_name known n s) name ≡ one_more known n s name
new_name known n s name paired = by (is_known known n) refl
  where
    by : (b : Bool) → is_known known n ≡ b → set_named (if b then known else with_name known n s) name ≡ one_more known n s name
    by true e = known_more known n s name paired e
    by false e = name_more known n s name paired

paired_new : (known : Names) (n : List ℕ) (s : LocSet) → IsPaired known → IsPaired (with_new_name known n s)
paired_new known n s paired = by (is_known known n)
  where
    by : (b : Bool) → IsPaired (if b then known else with_name known n s)
    by true = paired
    by false = paired_more known n s paired

abbrev among : List ℕ → ℕ → List Site → Option LocSet
among name l xs = option_map (with_location no_location) (position_from (λ (x : Site). bytes_eq name x.name) l xs)

or_else_assoc : {A : Type 0} (o p q : Option A) → or_else (or_else o p) q ≡ or_else o (or_else p q)
or_else_assoc (Some x) p q = refl
or_else_assoc None p q = refl

among-cons : (name : List ℕ) (l : ℕ) (x : Site) (xs : List Site) → or_else (if bytes_eq name x.name then Some (with_location no_location l) else None) (among name (l + 1) xs) ≡ among name l (x ∷ xs)
among-cons name l x xs = by (bytes_eq name x.name) refl
  where
    by : (b : Bool) → bytes_eq name x.name ≡ b → or_else (if bytes_eq name x.name then Some (with_location no_location l) else None) (among name (l + 1) xs) ≡ among name l (x ∷ xs)
    by true e = rw e refl
    by false e = rw e refl

sites_more : (l : ℕ) (xs : List Site) (known : Names) (name : List ℕ) → IsPaired known → set_named (with_sites l xs known) name ≡ or_else (set_named known name) (among name l xs)
sites_more l [] known name paired = sym (none_more (set_named known name))
sites_more l (x ∷ xs) known name paired =
    let s : LocSet = with_location no_location l in
    sites_more (l + 1) xs (with_new_name known x.name s) name (paired_new known x.name s paired)
    ∙ ap (λ (o : Option LocSet). or_else o (among name (l + 1) xs)) (new_name known x.name s name paired)
    ∙ or_else_assoc (set_named known name) (if bytes_eq name x.name then Some s else None) (among name (l + 1) xs)
    ∙ ap (or_else (set_named known name)) (among-cons name l x xs)

paired_sites : (l : ℕ) (xs : List Site) (known : Names) → IsPaired known → IsPaired (with_sites l xs known)
paired_sites l [] known paired = paired
paired_sites l (x ∷ xs) known paired = paired_sites (l + 1) xs (with_new_name known x.name (with_location no_location l)) (paired_new known x.name (with_location no_location l) paired)

among-append : (name : List ℕ) (l : ℕ) (xs ys : List Site) → or_else (among name l xs) (among name (l + length xs) ys) ≡ among name l (xs ++ ys)
among-append name l [] ys = ap (λ (k : ℕ). among name k ys) (omega arith)
among-append name l (x ∷ xs) ys =
    let one : Option LocSet = if bytes_eq name x.name then Some (with_location no_location l) else None in
    let place : l + length (x ∷ xs) ≡ l + 1 + length xs = omega arith in
    ap₂ or_else (sym (among-cons name l x xs)) (ap (λ (k : ℕ). among name k ys) place)
    ∙ or_else_assoc one (among name (l + 1) xs) (among name (l + 1 + length xs) ys)
    ∙ ap (or_else one) (among-append name (l + 1) xs ys)
    ∙ among-cons name l x (xs ++ ys)

no_names : Names
no_names = record { names = []; sets = []; twice = None }

pub net_paired : (net : PlainNet) → IsPaired (net_names net)
unfolding no_names
net_paired net = paired_sites (length net.routers) net.peers (with_sites 0 net.routers no_names) (paired_sites 0 net.routers no_names refl)

-- a name that a network gives stands for the location that has it
pub net_named : (net : PlainNet) (name : List ℕ) → set_named (net_names net) name ≡ location_named net name
unfolding no_names
net_named net name =
    sites_more (length net.routers) net.peers (with_sites 0 net.routers no_names) name (paired_sites 0 net.routers no_names refl)
    ∙ ap (λ (o : Option LocSet). or_else o (among name (length net.routers) net.peers)) (sites_more 0 net.routers no_names name refl)
    ∙ ap (λ (k : ℕ). or_else (among name 0 net.routers) (among name k net.peers)) (omega arith)
    ∙ among-append name 0 net.routers net.peers

-- nothing is defined again
pub sites_twice : (l : ℕ) (xs : List Site) (known : Names) → (with_sites l xs known).twice ≡ known.twice
sites_twice l [] known = refl
sites_twice l (x ∷ xs) known = sites_twice (l + 1) xs (with_new_name known x.name (with_location no_location l)) ∙ by (is_known known x.name)
  where
    by : (b : Bool) → (let k : Names = if b then known else with_name known x.name (with_location no_location l) in k.twice) ≡ known.twice
    by true = refl
    by false = refl

pub net_twice : (net : PlainNet) → (net_names net).twice ≡ None
unfolding no_names
net_twice net = sites_twice (length net.routers) net.peers (with_sites 0 net.routers no_names) ∙ sites_twice 0 net.routers no_names
