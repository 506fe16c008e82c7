-- What is kept beside the routers that are read.
use Rattle.std.proofs.Common.{◌≡◌, ℕ, List, [], ◌∷◌, ◌++◌, Bool, true, false, refl, sym, ◌∙◌, ap, subst}
use Rattle.std.specs.Prelude.{◌||◌, not, nat_eq, IsTrue, if◌then◌else◌}
use Rattle.std.specs.List.{list_any}
use Rattle.std.specs.Str.{bytes_eq}
use Rattle.std.proofs.lemmas.Bool.{eqb-true}
use Rattle.std.proofs.lemmas.List.Folds.{list_any-append}
use Rattle.std.proofs.lemmas.Slice.Eq.{bytes_eq-Decides}
use Rattle.std.proofs.Math.Bool.{or-false}
use Rattle.indexmap.specs.IndexSet.{insert_key}
use Rattle.list_law.proofs.Numbers.{eqb_comm}
use Rattle.list_law.proofs.Texts.{bytes_eq_apart, bytes_eq_self}
use Rattle.config_base.specs.declared.config.RouterConfig.{RouterConfig}
use Rattle.config_reader.specs.Known.{AreKnown}
use Rattle.config_reader.specs.Reading.{stood_before}

-- ---- one key more

module _ {K : Type 0} (eq : K → K → Bool) (sound : (a b : K) → eq a b ≡ true → a ≡ b) where
  any_more : (keys : List K) (x n : K) → list_any (eq n) (insert_key eq keys x) ≡ (list_any (eq n) keys || eq n x)
  any_more keys x n = by (list_any (eq x) keys) refl
    where
      there : list_any (eq x) keys ≡ true → (c : Bool) → eq n x ≡ c → list_any (eq n) keys ≡ (list_any (eq n) keys || c)
      there e true f = let all : list_any (eq n) keys ≡ true = subst (λ (k : K). list_any (eq k) keys ≡ true) (sym (sound n x f)) e in rw all refl
      there e false f = sym (or-false (list_any (eq n) keys))

      by : (b : Bool) → list_any (eq x) keys ≡ b → list_any (eq n) (if b then keys else keys ++ x ∷ []) ≡ (list_any (eq n) keys || eq n x)
      by true e = there e (eq n x) refl
      by false e = list_any-append (eq n) keys (x ∷ []) ∙ ap (λ (b : Bool). list_any (eq n) keys || b) (or-false (eq n x))

  -- and one router more with that key
  more_alike : (key : RouterConfig → K) (keys : List K) (all : List RouterConfig) (r : RouterConfig) → ((n : K) → list_any (eq n) keys ≡ list_any (λ (q : RouterConfig). eq n (key q)) all)
      → (n : K) → list_any (eq n) (insert_key eq keys (key r)) ≡ list_any (λ (q : RouterConfig). eq n (key q)) (all ++ r ∷ [])
  more_alike key keys all r alike n =
      any_more keys (key r) n
      ∙ ap (λ (b : Bool). b || eq n (key r)) (alike n)
      ∙ sym (list_any-append (λ (q : RouterConfig). eq n (key q)) all (r ∷ []) ∙ ap (λ (b : Bool). list_any (λ (q : RouterConfig). eq n (key q)) all || b) (or-false (eq n (key r))))

nat_sound : (a b : ℕ) → nat_eq a b ≡ true → a ≡ b
nat_sound a b e = eqb-true a b e

bytes_sound : (a b : List ℕ) → bytes_eq a b ≡ true → a ≡ b
bytes_sound a b e = (bytes_eq-Decides a b).0 e

-- names with one more, unless it is there
pub names_more : (old new : List (List ℕ)) (name : List ℕ) (fresh : Bool) → fresh ≡ not (list_any (bytes_eq name) old)
    → (IsTrue fresh → new ≡ old ++ name ∷ []) → (fresh ≡ false → new ≡ old) → new ≡ insert_key bytes_eq old name
names_more old new name fresh is added kept = by fresh (list_any (bytes_eq name) old) refl refl
  where
    by : (f b : Bool) → fresh ≡ f → list_any (bytes_eq name) old ≡ b → new ≡ (if b then old else old ++ name ∷ [])
    by true true e g = absurd (let h = is in cc)
    by true false e g = added e
    by false true e g = kept e
    by false false e g = absurd (let h = is in cc)

pub known_more : (names names' : List (List ℕ)) (asns asns' ids ids' : List ℕ) (all : List RouterConfig) (r : RouterConfig) → AreKnown names asns ids all
    → names' ≡ insert_key bytes_eq names r.name → asns' ≡ insert_key nat_eq asns r.asn → ids' ≡ insert_key nat_eq ids r.id → AreKnown names' asns' ids' (all ++ r ∷ [])
known_more names names' asns asns' ids ids' all r known en ea ei = record {
  by_name = λ n. ap (list_any (bytes_eq n)) en ∙ more_alike bytes_eq bytes_sound (λ (q : RouterConfig). q.name) names all r known.by_name n;
  by_asn = λ n. ap (list_any (nat_eq n)) ea ∙ more_alike nat_eq nat_sound (λ (q : RouterConfig). q.asn) asns all r known.by_asn n;
  by_id = λ n. ap (list_any (nat_eq n)) ei ∙ more_alike nat_eq nat_sound (λ (q : RouterConfig). q.id) ids all r known.by_id n;
}

-- ---- what is known

bytes_comm : (a b : List ℕ) → bytes_eq a b ≡ bytes_eq b a
bytes_comm a b = by (bytes_eq a b) refl
  where
    by : (t : Bool) → bytes_eq a b ≡ t → t ≡ bytes_eq b a
    by true e = let same = bytes_sound a b e in sym (ap (λ (x : List ℕ). bytes_eq b x) same ∙ bytes_eq_self b)
    by false e = sym (bytes_eq_apart a b e)

shuffle : (a b c x y z : Bool) → (((a || x) || (b || y)) || (c || z)) ≡ ((a || (b || c)) || ((x || y) || z))
shuffle true b c x y z = refl
shuffle false true c true y z = refl
shuffle false true c false y z = refl
shuffle false false true true y z = refl
shuffle false false true false true z = refl
shuffle false false true false false z = refl
shuffle false false false x y z = refl

module _ (name : List ℕ) (asn id : ℕ) where
  any_of_three : (all : List RouterConfig)
      → ((list_any (λ (r : RouterConfig). nat_eq asn r.asn) all || list_any (λ (r : RouterConfig). nat_eq id r.id) all) || list_any (λ (r : RouterConfig). bytes_eq name r.name) all)
      ≡ stood_before name asn id all
  any_of_three [] = refl
  any_of_three (r ∷ rs) =
      shuffle (nat_eq asn r.asn) (nat_eq id r.id) (bytes_eq name r.name) (list_any (λ (r : RouterConfig). nat_eq asn r.asn) rs)
      (list_any (λ (r : RouterConfig). nat_eq id r.id) rs) (list_any (λ (r : RouterConfig). bytes_eq name r.name) rs)
      ∙ rw (eqb_comm asn r.asn, eqb_comm id r.id, bytes_comm name r.name, any_of_three rs) refl

  pub known_like : (names : List (List ℕ)) (asns ids : List ℕ) (all : List RouterConfig) → AreKnown names asns ids all
      → ((list_any (nat_eq asn) asns || list_any (nat_eq id) ids) || list_any (bytes_eq name) names) ≡ stood_before name asn id all
  known_like names asns ids all known = rw (known.by_asn asn, known.by_id id, known.by_name name) (any_of_three all)
