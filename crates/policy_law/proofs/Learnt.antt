-- The names that are known behind some items.
use Rattle.std.proofs.Common.{◌≡◌, ℕ, List, [], ◌∷◌, ◌++◌, map, reverse, Bool, true, false, Option, Some, None, Result, Ok, refl, sym, ap, ap₂, ◌∙◌, append-nil, append_assoc}
use Rattle.std.specs.Option.{is_some}
use Rattle.std.specs.Prelude.{⊤, if◌then◌else◌}
use Rattle.std.specs.List.{flat_map}
use Rattle.std.specs.Str.{bytes_eq}
use Rattle.std.proofs.lemmas.List.{reverse-append}
use Rattle.net_base.specs.declared.loc.LocSet.{LocSet}
use Rattle.net_base.specs.declared.place.Place.{Place}
use Rattle.net_base.specs.Network.{PlainNet}
use Rattle.net_base.specs.Steps.{◌>>=◌}
use Rattle.net_base.proofs.StepLemmas.{ok_same, ok_not_err}
use Rattle.policy_tokens.specs.declared.fault.PolicyFault.{PolicyFault}
use Rattle.policy_tokens.specs.declared.fault.PolicyFault.TheVariants.{Unknown, Twice}
use Rattle.policy_rules.specs.KnownNames.{Names, set_named, is_known, with_name, with_group, net_names, first_place}
use Rattle.policy_rules.specs.Checks.{text, learnt, all_learnt}
use Rattle.policy_parser.specs.Spelled.{none_at, names_spelled}
use Rattle.policy_law.specs.Told.{first, told}
use Rattle.policy_law.specs.Trees.{Written, define, originate, state, item_of}
use Rattle.policy_law.specs.Senses.{or_else, Sense, set_of_names, stands_for, below, sense_of, unknown, unknown_in, unknown_in_set, unknown_in_item, if_some, named_again, item_by_item}
use Rattle.policy_law.proofs.Binds.{told_join, told_gives}
use Rattle.policy_law.proofs.Lookups.{IsPaired, known_some, known_more, name_more, paired_more, net_paired, net_named, net_twice}
use Rattle.policy_law.proofs.Uses.{HasSense, names_set, names_told, set_told, expression_told}

-- the names that are known stand for what they do below these items
pub record Means (net : PlainNet) (bytes : List ℕ) (above : List Written) (known : Names) : Type 0 where
  pub paired : IsPaired known
  pub named : (name : List ℕ) → set_named known name ≡ stands_for net bytes above name

pub means-sense : (net : PlainNet) (bytes : List ℕ) (above : List Written) (known : Names) → Means net bytes above known → HasSense bytes known (below net bytes above)
means-sense net bytes above known m l = m.named (text bytes l)

-- the names behind an item
abbrev behind_item : List ℕ → Sense → Names → Written → Names
behind_item bytes sense known (define group members) = with_group known group.place (text bytes group) (set_of_names sense members)
behind_item bytes sense known (originate prefix names) = known
behind_item bytes sense known (state patterns e from) = known

item_learnt : (bytes : List ℕ) (known : Names) (sense : Sense) → HasSense bytes known sense → (x : Written)
    → learnt bytes known (item_of x) ≡ (told Unknown (unknown_in_item sense x) >>= λ _. Ok (behind_item bytes sense known x))
item_learnt bytes known sense has (define group members) =
    let xs : List Place = flat_map (unknown sense) members in
    ap (λ (r : Result LocSet PolicyFault). r >>= λ s. Ok (with_group known group.place (text bytes group) s)) (names_set bytes known sense has members)
    ∙ told_gives Unknown xs (set_of_names sense members) (λ s. Ok (with_group known group.place (text bytes group) s))
item_learnt bytes known sense has (originate prefix names) = ap (λ (r : Result ⊤ PolicyFault). r >>= λ _. Ok known) (names_told bytes known sense has names)
item_learnt bytes known sense has (state patterns e from) =
    ap₂ (λ (r t : Result ⊤ PolicyFault). r >>= λ _. (t >>= λ _. Ok known)) (expression_told bytes known sense has e) (set_told bytes known sense has from)
    ∙ told_join Unknown (unknown_in sense e) (unknown_in_set sense from) (Ok known)

-- ---- a group more

group_known : (known : Names) (place : Place) (name : List ℕ) (s : LocSet) (other : List ℕ) → IsPaired known
    → set_named (with_group known place name s) other ≡ or_else (set_named known other) (if bytes_eq other name then Some s else None)
group_known known place name s other paired = by (is_known known name) refl
  where
    by : (b : Bool) → is_known known name ≡ b
        → set_named (if b then record { names = known.names; sets = known.sets; twice = first_place known.twice place } else with_name known name s) other
        ≡ or_else (set_named known other) (if bytes_eq other name then Some s else None)
    by true e = known_more known name s other paired e
    by false e = name_more known name s other paired

group_paired : (known : Names) (place : Place) (name : List ℕ) (s : LocSet) → IsPaired known → IsPaired (with_group known place name s)
group_paired known place name s paired = by (is_known known name)
  where
    by : (b : Bool) → IsPaired (if b then record { names = known.names; sets = known.sets; twice = first_place known.twice place } else with_name known name s)
    by true = paired
    by false = paired_more known name s paired

item_means : (net : PlainNet) (bytes : List ℕ) (above : List Written) (known : Names) (x : Written) → Means net bytes above known
    → Means net bytes (x ∷ above) (behind_item bytes (below net bytes above) known x)
item_means net bytes above known (define group members) m =
    let s : LocSet = set_of_names (below net bytes above) members in
    record {
      paired = group_paired known group.place (text bytes group) s m.paired;
      named =
          λ name. group_known known group.place (text bytes group) s name m.paired
          ∙ ap (λ (o : Option LocSet). or_else o (if bytes_eq name (text bytes group) then Some s else None)) (m.named name);
    }
item_means net bytes above known (originate prefix names) m = record { paired = m.paired; named = m.named }
item_means net bytes above known (state patterns e from) m = record { paired = m.paired; named = m.named }

-- ---- a group again

earlier-nil : (o : Option Place) → o ≡ or_else o (first [])
earlier-nil (Some p) = refl
earlier-nil None = refl

group_twice : (known : Names) (place : Place) (name : List ℕ) (s : LocSet) (o : Option LocSet) → IsPaired known → set_named known name ≡ o
    → (with_group known place name s).twice ≡ or_else known.twice (first (if_some place o))
group_twice known place name s o paired is = by o (known_some known name paired ∙ ap is_some is)
  where
    told_first : (t : Option Place) → first_place t place ≡ or_else t (Some place)
    told_first (Some p) = refl
    told_first None = refl

    by : (o : Option LocSet) → is_known known name ≡ is_some o → (with_group known place name s).twice ≡ or_else known.twice (first (if_some place o))
    by (Some t) e = rw e (told_first known.twice)
    by None e = rw e (earlier-nil known.twice)

item_twice : (bytes : List ℕ) (sense : Sense) (known : Names) (x : Written) → IsPaired known → HasSense bytes known sense
    → (behind_item bytes sense known x).twice ≡ or_else known.twice (first (named_again sense x))
item_twice bytes sense known (define group members) paired has = group_twice known group.place (text bytes group) (set_of_names sense members) (sense group) paired (has group)
item_twice bytes sense known (originate prefix names) paired has = earlier-nil known.twice
item_twice bytes sense known (state patterns e from) paired has = earlier-nil known.twice

-- ---- all items

-- some items above those that stand above them
abbrev pub turned : List Written → List Written → List Written
turned above [] = above
turned above (x ∷ xs) = turned (x ∷ above) xs

turned-reverse : (above xs : List Written) → turned above xs ≡ reverse xs ++ above
turned-reverse above [] = refl
turned-reverse above (x ∷ xs) =
    turned-reverse (x ∷ above) xs ∙ sym (append_assoc (reverse xs) (x ∷ []) above) ∙ ap (λ (zs : List Written). zs ++ above) (sym (reverse-append (x ∷ []) xs))

pub turned-all : (xs : List Written) → turned [] xs ≡ reverse xs
turned-all xs = turned-reverse [] xs ∙ append-nil (reverse xs)

behind_items : PlainNet → List ℕ → List Written → Names → List Written → Names
behind_items net bytes above known [] = known
behind_items net bytes above known (x ∷ xs) = behind_items net bytes (x ∷ above) (behind_item bytes (below net bytes above) known x) xs

abbrev pub unknown_from : PlainNet → List ℕ → List Written → List Written → List Place
unknown_from net bytes above xs = item_by_item (λ above'. unknown_in_item (below net bytes above')) above xs

abbrev pub again_from : PlainNet → List ℕ → List Written → List Written → List Place
again_from net bytes above xs = item_by_item (λ above'. named_again (below net bytes above')) above xs

items_learnt : (net : PlainNet) (bytes : List ℕ) (above : List Written) (known : Names) (xs : List Written) → Means net bytes above known
    → all_learnt bytes known (map item_of xs) ≡ (told Unknown (unknown_from net bytes above xs) >>= λ _. Ok (behind_items net bytes above known xs))
unfolding behind_items
items_learnt net bytes above known [] m = refl
items_learnt net bytes above known (x ∷ xs) m =
    let sense : Sense = below net bytes above in
    let here : List Place = unknown_in_item sense x in
    let next : Names = behind_item bytes sense known x in
    ap (λ (r : Result Names PolicyFault). r >>= λ next. all_learnt bytes next (map item_of xs)) (item_learnt bytes known sense (means-sense net bytes above known m) x)
    ∙ told_gives Unknown here next (λ next. all_learnt bytes next (map item_of xs))
    ∙ ap (λ (r : Result Names PolicyFault). told Unknown here >>= λ _. r) (items_learnt net bytes (x ∷ above) next xs (item_means net bytes above known x m))
    ∙ told_join Unknown here (unknown_from net bytes (x ∷ above) xs) (Ok (behind_items net bytes (x ∷ above) next xs))

items_mean : (net : PlainNet) (bytes : List ℕ) (above : List Written) (known : Names) (xs : List Written) → Means net bytes above known
    → Means net bytes (turned above xs) (behind_items net bytes above known xs)
unfolding behind_items
items_mean net bytes above known [] m = m
items_mean net bytes above known (x ∷ xs) m = items_mean net bytes (x ∷ above) (behind_item bytes (below net bytes above) known x) xs (item_means net bytes above known x m)

first_of_both : (t : Option Place) (xs ys : List Place) → or_else (or_else t (first xs)) (first ys) ≡ or_else t (first (xs ++ ys))
first_of_both (Some p) xs ys = refl
first_of_both None [] ys = refl
first_of_both None (x ∷ xs) ys = refl

items_twice : (net : PlainNet) (bytes : List ℕ) (above : List Written) (known : Names) (xs : List Written) → Means net bytes above known
    → (behind_items net bytes above known xs).twice ≡ or_else known.twice (first (again_from net bytes above xs))
unfolding behind_items
items_twice net bytes above known [] m = earlier-nil known.twice
items_twice net bytes above known (x ∷ xs) m =
    let sense : Sense = below net bytes above in
    items_twice net bytes (x ∷ above) (behind_item bytes sense known x) xs (item_means net bytes above known x m)
    ∙ ap (λ (t : Option Place). or_else t (first (again_from net bytes (x ∷ above) xs))) (item_twice bytes sense known x m.paired (means-sense net bytes above known m))
    ∙ first_of_both known.twice (named_again sense x) (again_from net bytes (x ∷ above) xs)

net_means : (net : PlainNet) (bytes : List ℕ) → Means net bytes [] (net_names net)
net_means net bytes = record { paired = net_paired net; named = net_named net }

-- ---- the names of a text

-- the names that are known behind all items of a text
pub names_of : PlainNet → List ℕ → List Written → Names
unfolding behind_items
names_of net bytes xs = behind_items net bytes [] (net_names net) xs

pub names_sense : (net : PlainNet) (bytes : List ℕ) (xs : List Written) → HasSense bytes (names_of net bytes xs) (sense_of net bytes xs)
unfolding names_of
names_sense net bytes xs l =
    (items_mean net bytes [] (net_names net) xs (net_means net bytes)).named (text bytes l)
    ∙ ap (λ (above : List Written). stands_for net bytes above (text bytes l)) (turned-all xs)

all_told : (net : PlainNet) (bytes : List ℕ) (xs : List Written) → all_learnt bytes (net_names net) (map item_of xs) ≡ (told Unknown (unknown_from net bytes [] xs) >>= λ _. Ok (names_of net bytes xs))
unfolding names_of
all_told net bytes xs = items_learnt net bytes [] (net_names net) xs (net_means net bytes)

given_same : (ps : List Place) (a b : Names) → (told Unknown ps >>= λ _. Ok a) ≡ Ok b → a ≡ b
given_same [] a b e = ok_same {F = PolicyFault} a b e
given_same (p ∷ ps) a b e = absurd (ok_not_err {A = Names} b (Unknown p) (sym e))

pub learnt_sense : (net : PlainNet) (bytes : List ℕ) (xs : List Written) (known : Names) → all_learnt bytes (net_names net) (map item_of xs) ≡ Ok known → HasSense bytes known (sense_of net bytes xs)
learnt_sense net bytes xs known e l =
    let same = given_same (unknown_from net bytes [] xs) (names_of net bytes xs) known (sym (all_told net bytes xs) ∙ e) in
    ap (λ (k : Names). set_named k (text bytes l)) (sym same) ∙ names_sense net bytes xs l

twice_told : (ps : List Place) (o : Option Place) (known : Names) → o ≡ first ps → (none_at Twice o >>= λ _. Ok known) ≡ (told Twice ps >>= λ _. Ok known)
twice_told [] o known e = rw e refl
twice_told (p ∷ ps) o known e = rw e refl

names_twice : (net : PlainNet) (bytes : List ℕ) (xs : List Written) → (names_of net bytes xs).twice ≡ first (again_from net bytes [] xs)
unfolding names_of
names_twice net bytes xs = items_twice net bytes [] (net_names net) xs (net_means net bytes) ∙ ap (λ (t : Option Place). or_else t (first (again_from net bytes [] xs))) (net_twice net)

-- the names of a text, or the first that stands for nothing, or the first group without a name of its own
pub names_are_told : (net : PlainNet) (bytes : List ℕ) (xs : List Written)
    → names_spelled bytes net (map item_of xs) ≡ (told Unknown (unknown_from net bytes [] xs) >>= λ _. (told Twice (again_from net bytes [] xs) >>= λ _. Ok (names_of net bytes xs)))
unfolding names_spelled
names_are_told net bytes xs =
    let known : Names = names_of net bytes xs in
    ap (λ (r : Result Names PolicyFault). r >>= λ known. none_at Twice known.twice >>= λ _. Ok known) (all_told net bytes xs)
    ∙ told_gives Unknown (unknown_from net bytes [] xs) known (λ known. none_at Twice known.twice >>= λ _. Ok known)
    ∙ ap (λ (r : Result Names PolicyFault). told Unknown (unknown_from net bytes [] xs) >>= λ _. r) (twice_told (again_from net bytes [] xs) known.twice known (names_twice net bytes xs))
