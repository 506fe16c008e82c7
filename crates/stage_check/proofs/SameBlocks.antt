-- Two classes whose lines are the same one by one have the same lines in every block.
use Rattle.std.proofs.Common.{◌≡◌, ℕ, ◌+◌, ◌≤◌, ◌<◌, Bool, true, false, List, [], ◌∷◌, ◌++◌, map, filter, refl, sym, ap, ap₂, ◌∙◌, arith}
use Rattle.std.specs.Prelude.{◌&&◌, ◌==◌}
use Rattle.std.specs.List.{AllByRecursion}
use Rattle.std.proofs.lemmas.Bool.{and_parts, eq-eqb, eqb-true, false≢true}
use Rattle.std.proofs.lemmas.List.{map-append}
use Rattle.std.proofs.lemmas.List.Elements.{filter-append}
use Rattle.list_law.proofs.Each.{AllByRecursion-append, AllByRecursion-filter, AllByRecursion-map}
use Rattle.net_base.specs.declared.numbers.Tag.{Tag}
use Rattle.net_base.specs.Numbers.{no_tag}
use Rattle.net_base.specs.Prefixes.{PlainPattern, PlainPrefix, same_prefix}
use Rattle.policy_base.specs.Governing.{some_contains}
use Rattle.config_base.specs.declared.config.RouterConfig.{RouterConfig}
use Rattle.config_base.specs.declared.config.Session.{Session}
use Rattle.config_base.specs.declared.config.Import.{Import}
use Rattle.config_base.specs.declared.config.Export.{Export}
use Rattle.config_base.specs.declared.config.Origination.{Origination}
use Rattle.config_base.specs.Lines.{same_tag}
use Rattle.config_base.proofs.SameTags.{same_tag-is}
use Rattle.class_lines.specs.declared.class_line.ClassLine.{ClassLine}
use Rattle.class_lines.specs.declared.class_line.Says.{Says}
use Rattle.class_lines.specs.declared.class_line.Says.TheVariants.{Originates, Takes, Sends}
use Rattle.class_lines.specs.ClassLines.{export_line, import_line, is_about, lines_about, of_class, own_line, router_lines, routers_from, same_line, same_lines, same_says, session_lines, sessions_from}
use Rattle.stage_maker.specs.Alike.{AreAlike, SameNeighbours}
use Rattle.stage_maker.proofs.OwnLines.{same_prefix-is}
use Rattle.stage_law.specs.Mixing.{SameAtRouter, SameInBlock, SameInBlocks, SaySame, exports_of, imports_of, own_of}
use Rattle.stage_check.proofs.Splitting.{split_by}

-- ---- what a line is, but for its class

abbrev View : Type 0
View = ℕ × (ℕ × Says)

abbrev seen : ℕ → ℕ → Says → View
seen r k s = (r, (k, s))

abbrev view : ClassLine → View
view l = seen l.router l.neighbour l.says

same_says-is : (a b : Says) → same_says a b ≡ true → a ≡ b
same_says-is (Originates p t) (Originates q u) h =
    let parts = and_parts (same_prefix p q) (same_tag t u) h in
    ap₂ (λ x y. Originates x y) (same_prefix-is p q parts.0) (same_tag-is t u parts.1)
same_says-is (Originates p t) (Takes u k m) h = absurd (false≢true h)
same_says-is (Originates p t) (Sends u) h = absurd (false≢true h)
same_says-is (Takes t s n) (Originates q u) h = absurd (false≢true h)
same_says-is (Takes t s n) (Takes u k m) h =
    let one = and_parts (same_tag t u) (same_tag s k && n == m) h in
    let two = and_parts (same_tag s k) (n == m) one.1 in
    ap (λ x. Takes x s n) (same_tag-is t u one.0) ∙ ap (λ x. Takes u x n) (same_tag-is s k two.0) ∙ ap (λ x. Takes u k x) (eqb-true n m two.1)
same_says-is (Takes t s n) (Sends u) h = absurd (false≢true h)
same_says-is (Sends t) (Originates q u) h = absurd (false≢true h)
same_says-is (Sends t) (Takes u k m) h = absurd (false≢true h)
same_says-is (Sends t) (Sends u) h = ap Sends (same_tag-is t u h)

same_line-is : (a b : ClassLine) → same_line a b ≡ true → view a ≡ view b
same_line-is a b h =
    let one = and_parts (a.router == b.router) (a.neighbour == b.neighbour && same_says a.says b.says) h in
    let two = and_parts (a.neighbour == b.neighbour) (same_says a.says b.says) one.1 in
    ap (λ r. seen r a.neighbour a.says) (eqb-true a.router b.router one.0)
    ∙ ap (λ k. seen b.router k a.says) (eqb-true a.neighbour b.neighbour two.0)
    ∙ ap (λ s. seen b.router b.neighbour s) (same_says-is a.says b.says two.1)

same_lines-is : (xs ys : List ClassLine) → same_lines xs ys ≡ true → map view xs ≡ map view ys
same_lines-is [] [] h = refl
same_lines-is [] (y ∷ ys) h = absurd (false≢true h)
same_lines-is (x ∷ xs) [] h = absurd (false≢true h)
same_lines-is (x ∷ xs) (y ∷ ys) h =
    let parts = and_parts (same_line x y) (same_lines xs ys) h in
    ap₂ (λ v vs. v ∷ vs) (same_line-is x y parts.0) (same_lines-is xs ys parts.1)

-- ---- those of a class that are about some prefixes

abbrev mine : List PlainPattern → ℕ → List ClassLine → List View
mine ps n ls = map view (lines_about ps (of_class n ls))

mine-append : (ps : List PlainPattern) (n : ℕ) (xs ys : List ClassLine) → mine ps n (xs ++ ys) ≡ mine ps n xs ++ mine ps n ys
mine-append ps n xs ys =
    ap (λ ls. map view (lines_about ps ls)) (filter-append (λ (l : ClassLine). l.class == n) xs ys)
    ∙ ap (map view) (filter-append (λ (l : ClassLine). is_about ps l.says) (of_class n xs) (of_class n ys))
    ∙ map-append view (lines_about ps (of_class n xs)) (lines_about ps (of_class n ys))

mine_each : (P : View → Type 0) (ps : List PlainPattern) (n : ℕ) (ls : List ClassLine) → AllByRecursion (λ l. P (view l)) ls → AllByRecursion P (mine ps n ls)
mine_each P ps n ls all =
    AllByRecursion-map view P (lines_about ps (of_class n ls))
    (AllByRecursion-filter (λ l. P (view l)) (λ (l : ClassLine). is_about ps l.says) (of_class n ls)
    (AllByRecursion-filter (λ l. P (view l)) (λ (l : ClassLine). l.class == n) ls all))

-- ---- where lines stand

mapped_each : {X : Type 0} (P : ClassLine → Type 0) (f : X → ClassLine) (xs : List X) → ((x : X) → P (f x)) → AllByRecursion P (map f xs)
mapped_each P f [] all = tt
mapped_each P f (x ∷ xs) all = (all x, mapped_each P f xs all)

block_each : (P : ClassLine → Type 0) (r k : ℕ) (b : Session) → ((l : ClassLine) → l.router ≡ r → l.neighbour ≡ k → P l) → AllByRecursion P (session_lines r k b)
block_each P r k b all =
    AllByRecursion-append P (map (import_line r k) b.imports) (map (export_line r k) b.exports) (mapped_each P (import_line r k) b.imports (λ x. all (import_line r k x) refl refl))
    (mapped_each P (export_line r k) b.exports (λ x. all (export_line r k x) refl refl))

sessions_each : (P : ClassLine → Type 0) (r k : ℕ) (bs : List Session) → ((l : ClassLine) → l.router ≡ r → k ≤ l.neighbour → P l) → AllByRecursion P (sessions_from r k bs)
sessions_each P r k [] all = tt
sessions_each P r k (b ∷ bs) all =
    AllByRecursion-append P (session_lines r k b) (sessions_from r (k + 1) bs) (block_each P r k b (λ l at is. all l at (omega (arith, is))))
    (sessions_each P r (k + 1) bs (λ l at after. all l at (omega (arith, after))))

router_each : (P : ClassLine → Type 0) (r : ℕ) (c : RouterConfig) → ((l : ClassLine) → l.router ≡ r → P l) → AllByRecursion P (router_lines r c)
router_each P r c all =
    AllByRecursion-append P (map (own_line r) c.own) (sessions_from r 1 c.sessions) (mapped_each P (own_line r) c.own (λ x. all (own_line r x) refl))
    (sessions_each P r 1 c.sessions (λ l at after. all l at))

routers_each : (P : ClassLine → Type 0) (r : ℕ) (cs : List RouterConfig) → ((l : ClassLine) → r ≤ l.router → P l) → AllByRecursion P (routers_from r cs)
routers_each P r [] all = tt
routers_each P r (c ∷ cs) all =
    AllByRecursion-append P (router_lines r c) (routers_from (r + 1) cs) (router_each P r c (λ l at. all l (omega (arith, at))))
    (routers_each P (r + 1) cs (λ l after. all l (omega (arith, after))))

-- a later number is another one
other : (a k : ℕ) → k + 1 ≤ a → (a == k) ≡ false
other a k after = by (a == k) refl
  where
    by : (b : Bool) → (a == k) ≡ b → b ≡ false
    by true e = absurd (let is = eqb-true a k e in omega (arith, is, after))
    by false e = refl

-- ---- and back

abbrev own_part : Says → PlainPrefix × Tag
own_part (Originates p t) = (p, t)
own_part (Takes t s n) = (record { bits = 0; len = 0 }, t)
own_part (Sends t) = (record { bits = 0; len = 0 }, t)

abbrev own_said : View → PlainPrefix × Tag
own_said v = own_part v.1.1

abbrev import_part : Says → Tag × (Tag × ℕ)
import_part (Originates p t) = (t, (t, 0))
import_part (Takes t s n) = (t, (s, n))
import_part (Sends t) = (t, (t, 0))

abbrev import_said : View → Tag × (Tag × ℕ)
import_said v = import_part v.1.1

abbrev export_part : Says → Tag
export_part (Originates p t) = t
export_part (Takes t s n) = t
export_part (Sends t) = t

abbrev export_said : View → Tag
export_said v = export_part v.1.1

module _ {X Y : Type 0} (f : X → ClassLine) (class_of : X → ℕ) (same_class : (x : X) → (f x).class ≡ class_of x) (said : View → Y) (of : X → Y) (said_is : (x : X) → said (view (f x)) ≡ of x)
    (ps : List PlainPattern) (keeps : X → Bool) (same_kept : (x : X) → is_about ps (f x).says ≡ keeps x) (n : ℕ) where
  back : (xs : List X) → map said (mine ps n (map f xs)) ≡ map of (filter keeps (filter (λ x. class_of x == n) xs))
  back [] = refl
  back (x ∷ xs) = by (class_of x == n) (keeps x) refl refl (back xs)
    where
      by : (b k : Bool) → (class_of x == n) ≡ b → keeps x ≡ k → map said (mine ps n (map f xs)) ≡ map of (filter keeps (filter (λ x. class_of x == n) xs))
          → map said (mine ps n (map f (x ∷ xs))) ≡ map of (filter keeps (filter (λ x. class_of x == n) (x ∷ xs)))
      by true true e k later = rw (ap (λ c. c == n) (same_class x) ∙ e, e, same_kept x ∙ k, k) (ap₂ (λ y ys. y ∷ ys) (said_is x) later)
      by true false e k later = rw (ap (λ c. c == n) (same_class x) ∙ e, e, same_kept x ∙ k, k) later
      by false k e kept later = rw (ap (λ c. c == n) (same_class x) ∙ e, e) later

own_back : (ps : List PlainPattern) (r n : ℕ) (c : RouterConfig) → map own_said (mine ps n (map (own_line r) c.own)) ≡ own_of ps n c
own_back ps r n c =
    back (own_line r) (λ (o : Origination). o.class) (λ o. refl) own_said (λ (o : Origination). (o.prefix, o.tag)) (λ o. refl) ps
    (λ (o : Origination). some_contains ps o.prefix) (λ o. refl) n c.own

-- nothing is left out
all_kept : {X : Type 0} (xs : List X) → filter (λ x. true) xs ≡ xs
all_kept [] = refl
all_kept (x ∷ xs) = ap (λ ys. x ∷ ys) (all_kept xs)

imports_back : (ps : List PlainPattern) (r k n : ℕ) (b : Session) → map import_said (mine ps n (map (import_line r k) b.imports)) ≡ imports_of n b
imports_back ps r k n b =
    back (import_line r k) (λ (i : Import). i.class) (λ i. refl) import_said (λ (i : Import). (i.tag, (i.set, i.pref))) (λ i. refl) ps (λ i. true) (λ i. refl) n b.imports
    ∙ ap (map (λ (i : Import). (i.tag, (i.set, i.pref)))) (all_kept (filter (λ (i : Import). i.class == n) b.imports))

exports_back : (ps : List PlainPattern) (r k n : ℕ) (b : Session) → map export_said (mine ps n (map (export_line r k) b.exports)) ≡ exports_of n b
exports_back ps r k n b =
    back (export_line r k) (λ (e : Export). e.class) (λ e. refl) export_said (λ (e : Export). e.tag) (λ e. refl) ps (λ e. true) (λ e. refl) n b.exports
    ∙ ap (map (λ (e : Export). e.tag)) (all_kept (filter (λ (e : Export). e.class == n) b.exports))

-- ---- block by block

abbrev takes_part : Says → Bool
takes_part (Originates p t) = false
takes_part (Takes t s n) = true
takes_part (Sends t) = false

abbrev takes_it : View → Bool
takes_it v = takes_part v.1.1

module _ (ps : List PlainPattern) (m n : ℕ) where
  block_same : (r k : ℕ) (a b : Session) → mine ps m (session_lines r k a) ≡ mine ps n (session_lines r k b) → SameInBlock m n a b
  block_same r k a b same =
      let parts = split_by takes_it (mine ps m (map (import_line r k) a.imports)) (mine ps n (map (import_line r k) b.imports)) (mine ps m (map (export_line r k) a.exports))
      (mine ps n (map (export_line r k) b.exports))
      (mine_each (λ v. takes_it v ≡ true) ps m (map (import_line r k) a.imports) (mapped_each (λ l. takes_it (view l) ≡ true) (import_line r k) a.imports (λ x. refl)))
      (mine_each (λ v. takes_it v ≡ true) ps n (map (import_line r k) b.imports) (mapped_each (λ l. takes_it (view l) ≡ true) (import_line r k) b.imports (λ x. refl)))
      (mine_each (λ v. takes_it v ≡ false) ps m (map (export_line r k) a.exports) (mapped_each (λ l. takes_it (view l) ≡ false) (export_line r k) a.exports (λ x. refl)))
      (mine_each (λ v. takes_it v ≡ false) ps n (map (export_line r k) b.exports) (mapped_each (λ l. takes_it (view l) ≡ false) (export_line r k) b.exports (λ x. refl)))
      (sym (mine-append ps m (map (import_line r k) a.imports) (map (export_line r k) a.exports)) ∙ same ∙ mine-append ps n (map (import_line r k) b.imports) (map (export_line r k) b.exports)) in
      record {
        imports = sym (imports_back ps r k m a) ∙ ap (map import_said) parts.0 ∙ imports_back ps r k n b;
        exports = sym (exports_back ps r k m a) ∙ ap (map export_said) parts.1 ∙ exports_back ps r k n b;
      }

  sessions_same : (r k : ℕ) (xs ys : List Session) → SameNeighbours xs ys → mine ps m (sessions_from r k xs) ≡ mine ps n (sessions_from r k ys) → SameInBlocks m n xs ys
  sessions_same r k [] [] alike same = tt
  sessions_same r k [] (y ∷ ys) alike same = absurd alike
  sessions_same r k (x ∷ xs) [] alike same = absurd alike
  sessions_same r k (x ∷ xs) (y ∷ ys) alike same =
      let here : View → Bool = λ v. v.1.0 == k in
      let parts = split_by here (mine ps m (session_lines r k x)) (mine ps n (session_lines r k y)) (mine ps m (sessions_from r (k + 1) xs)) (mine ps n (sessions_from r (k + 1) ys))
      (mine_each (λ v. here v ≡ true) ps m (session_lines r k x) (block_each (λ l. here (view l) ≡ true) r k x (λ l at is. eq-eqb l.neighbour k is)))
      (mine_each (λ v. here v ≡ true) ps n (session_lines r k y) (block_each (λ l. here (view l) ≡ true) r k y (λ l at is. eq-eqb l.neighbour k is)))
      (mine_each (λ v. here v ≡ false) ps m (sessions_from r (k + 1) xs) (sessions_each (λ l. here (view l) ≡ false) r (k + 1) xs (λ l at after. other l.neighbour k after)))
      (mine_each (λ v. here v ≡ false) ps n (sessions_from r (k + 1) ys) (sessions_each (λ l. here (view l) ≡ false) r (k + 1) ys (λ l at after. other l.neighbour k after)))
      (sym (mine-append ps m (session_lines r k x) (sessions_from r (k + 1) xs)) ∙ same ∙ mine-append ps n (session_lines r k y) (sessions_from r (k + 1) ys)) in
      (block_same r k x y parts.0, sessions_same r (k + 1) xs ys alike.1 parts.1)

  router_same : (r : ℕ) (a b : RouterConfig) → SameNeighbours a.sessions b.sessions → mine ps m (router_lines r a) ≡ mine ps n (router_lines r b) → SameAtRouter ps m n a b
  router_same r a b alike same =
      let here : View → Bool = λ v. v.1.0 == 0 in
      let parts = split_by here (mine ps m (map (own_line r) a.own)) (mine ps n (map (own_line r) b.own)) (mine ps m (sessions_from r 1 a.sessions)) (mine ps n (sessions_from r 1 b.sessions))
      (mine_each (λ v. here v ≡ true) ps m (map (own_line r) a.own) (mapped_each (λ l. here (view l) ≡ true) (own_line r) a.own (λ x. refl)))
      (mine_each (λ v. here v ≡ true) ps n (map (own_line r) b.own) (mapped_each (λ l. here (view l) ≡ true) (own_line r) b.own (λ x. refl)))
      (mine_each (λ v. here v ≡ false) ps m (sessions_from r 1 a.sessions) (sessions_each (λ l. here (view l) ≡ false) r 1 a.sessions (λ l at after. other l.neighbour 0 after)))
      (mine_each (λ v. here v ≡ false) ps n (sessions_from r 1 b.sessions) (sessions_each (λ l. here (view l) ≡ false) r 1 b.sessions (λ l at after. other l.neighbour 0 after)))
      (sym (mine-append ps m (map (own_line r) a.own) (sessions_from r 1 a.sessions)) ∙ same ∙ mine-append ps n (map (own_line r) b.own) (sessions_from r 1 b.sessions)) in
      record {
        own = sym (own_back ps r m a) ∙ ap (map own_said) parts.0 ∙ own_back ps r n b;
        sessions = sessions_same r 1 a.sessions b.sessions alike parts.1;
      }

  routers_same : (r : ℕ) (xs ys : List RouterConfig) → AreAlike xs ys → mine ps m (routers_from r xs) ≡ mine ps n (routers_from r ys) → SaySame ps m n xs ys
  routers_same r [] [] alike same = tt
  routers_same r [] (y ∷ ys) alike same = absurd alike
  routers_same r (x ∷ xs) [] alike same = absurd alike
  routers_same r (x ∷ xs) (y ∷ ys) alike same =
      let here : View → Bool = λ v. v.0 == r in
      let parts = split_by here (mine ps m (router_lines r x)) (mine ps n (router_lines r y)) (mine ps m (routers_from (r + 1) xs)) (mine ps n (routers_from (r + 1) ys))
      (mine_each (λ v. here v ≡ true) ps m (router_lines r x) (router_each (λ l. here (view l) ≡ true) r x (λ l at. eq-eqb l.router r at)))
      (mine_each (λ v. here v ≡ true) ps n (router_lines r y) (router_each (λ l. here (view l) ≡ true) r y (λ l at. eq-eqb l.router r at)))
      (mine_each (λ v. here v ≡ false) ps m (routers_from (r + 1) xs) (routers_each (λ l. here (view l) ≡ false) (r + 1) xs (λ l after. other l.router r after)))
      (mine_each (λ v. here v ≡ false) ps n (routers_from (r + 1) ys) (routers_each (λ l. here (view l) ≡ false) (r + 1) ys (λ l after. other l.router r after)))
      (sym (mine-append ps m (router_lines r x) (routers_from (r + 1) xs)) ∙ same ∙ mine-append ps n (router_lines r y) (routers_from (r + 1) ys)) in
      (router_same r x y alike.0.sessions parts.0, routers_same (r + 1) xs ys alike.1 parts.1)

pub say_same : (ps : List PlainPattern) (m n : ℕ) (xs ys : List RouterConfig) → AreAlike xs ys
    → same_lines (lines_about ps (of_class m (routers_from 0 xs))) (lines_about ps (of_class n (routers_from 0 ys))) ≡ true → SaySame ps m n xs ys
say_same ps m n xs ys alike same =
    routers_same ps m n 0 xs ys alike (same_lines-is (lines_about ps (of_class m (routers_from 0 xs))) (lines_about ps (of_class n (routers_from 0 ys))) same)
