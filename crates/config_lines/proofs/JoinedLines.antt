-- The texts of lines are their words, joined by spaces.
use Rattle.std.proofs.Common.{◌≡◌, ℕ, List, [], ◌∷◌, ◌++◌, true, false, refl, append_assoc, append-nil}
use Rattle.std.specs.Prelude.{codes}
use Rattle.std.specs.List.{join_with_byte}
use Rattle.std.specs.Fmt.{decimal}
use Rattle.net_base.specs.declared.numbers.Tag.{Tag}
use Rattle.config_base.specs.declared.config.Import.{Import}
use Rattle.config_lines.specs.declared.edition.Edition.{Edition}
use Rattle.config_lines.specs.Editions.{tag_text}
use Rattle.config_lines.specs.LineText.{import_text, read_tag}

pub router_joined : (name asn n id address v a b : List ℕ) → asn ≡ codes "asn" → id ≡ codes "id" → name ≡ v → n ≡ a → address ≡ b
    → join_with_byte 32 (codes "router" ∷ name ∷ asn ∷ n ∷ id ∷ address ∷ []) ≡ codes "router " ++ v ++ codes " asn " ++ a ++ codes " id " ++ b
router_joined name asn n id address v a b e1 e2 e3 e4 e5 = rw (e1, e2, e3, e4, e5) (simp append_assoc refl)

pub own_joined : (n prefix tag t a b c : List ℕ) → tag ≡ codes "tag" → n ≡ a → prefix ≡ b → t ≡ c
    → join_with_byte 32 (codes "originate" ∷ n ∷ prefix ∷ tag ∷ t ∷ []) ≡ codes "originate " ++ a ++ codes " " ++ b ++ codes " tag " ++ c
own_joined n prefix tag t a b c e1 e2 e3 e4 = rw (e1, e2, e3, e4) (simp append_assoc refl)

-- a neighbour's name and number behind this word
abbrev pub neighbour_text : List ℕ → List ℕ → ℕ → List ℕ
neighbour_text word name asn = word ++ (32 ∷ (name ++ codes " asn " ++ decimal asn))

pub neighbour_joined : (word name asn n v a : List ℕ) → asn ≡ codes "asn" → name ≡ v → n ≡ a
    → join_with_byte 32 (word ∷ name ∷ asn ∷ n ∷ []) ≡ word ++ (32 ∷ (v ++ codes " asn " ++ a))
neighbour_joined word name asn n v a e1 e2 e3 = rw (e1, e2, e3) (simp append_assoc refl)

pub export_joined : (n tag t a b : List ℕ) → tag ≡ codes "tag" → n ≡ a → t ≡ b
    → join_with_byte 32 (codes "export" ∷ n ∷ tag ∷ t ∷ []) ≡ codes "export " ++ a ++ codes " tag " ++ b
export_joined n tag t a b e1 e2 e3 = rw (e1, e2, e3) (simp append_assoc refl)

tagged_by : (a b c d : List ℕ) → join_with_byte 32 (codes "import" ∷ a ∷ codes "tag" ∷ b ∷ codes "set" ∷ c ∷ codes "pref" ∷ d ∷ [])
    ≡ codes "import " ++ a ++ (codes " tag " ++ b) ++ (codes " set " ++ c ++ codes " pref " ++ d)
tagged_by a b c d = rw (append_assoc a (codes " tag " ++ b) (codes " set " ++ c ++ codes " pref " ++ d), append_assoc c (codes " pref ") d) refl

-- what an import gives a route
abbrev pub setting_words : Edition → Tag → ℕ → List (List ℕ)
setting_words e set pref = codes "set" ∷ tag_text e set ∷ codes "pref" ∷ decimal pref ∷ []

pub tagged_joined : (e : Edition) (n tag t : List ℕ) (r : Import) → tag ≡ codes "tag" → n ≡ decimal r.class → t ≡ tag_text e r.tag
    → join_with_byte 32 (codes "import" ∷ n ∷ tag ∷ t ∷ setting_words e r.set r.pref) ≡ import_text e false r
unfolding import_text read_tag
tagged_joined e n tag t r e1 e2 e3 = rw (e1, e2, e3) (tagged_by (decimal r.class) (tag_text e r.tag) (tag_text e r.set) (decimal r.pref))

untagged_by : (a c d : List ℕ) → join_with_byte 32 (codes "import" ∷ a ∷ codes "set" ∷ c ∷ codes "pref" ∷ d ∷ [])
    ≡ codes "import " ++ a ++ [] ++ (codes " set " ++ c ++ codes " pref " ++ d)
untagged_by a c d = rw (append-nil a, append_assoc c (codes " pref ") d) refl

pub untagged_joined : (e : Edition) (n : List ℕ) (r : Import) → n ≡ decimal r.class → join_with_byte 32 (codes "import" ∷ n ∷ setting_words e r.set r.pref) ≡ import_text e true r
unfolding import_text read_tag
untagged_joined e n r same = rw same (untagged_by (decimal r.class) (tag_text e r.set) (decimal r.pref))
