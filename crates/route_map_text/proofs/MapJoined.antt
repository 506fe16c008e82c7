-- The texts of lines are their words, joined by spaces.
use Rattle.std.proofs.Common.{◌≡◌, ℕ, Bool, true, false, List, [], ◌∷◌, ◌++◌, refl, append_assoc}
use Rattle.std.specs.Prelude.{codes}
use Rattle.std.specs.List.{join_with_byte}
use Rattle.std.specs.Fmt.{decimal}
use Rattle.net_base.specs.declared.numbers.Tag.{Tag}
use Rattle.config_lines.specs.declared.edition.Edition.TheVariants.{Second}
use Rattle.config_lines.specs.Editions.{tag_text}
use Rattle.config_lines.proofs.JoinedLines.{setting_words}
use Rattle.route_map_text.specs.MapLineText.{kind_text}

abbrev pub kind_word : Bool → List ℕ
kind_word true = codes "permit"
kind_word false = codes "deny"

pub list_joined : (number kind a joined b : List ℕ) (permit : Bool) → number ≡ a → kind ≡ kind_word permit → joined ≡ b
    → codes "list" ++ (32 ∷ (number ++ (32 ∷ (kind ++ (32 ∷ joined))))) ≡ codes "list " ++ a ++ kind_text permit ++ b
list_joined number kind a joined b true e1 e2 e3 = rw (e1, e2, e3) (simp append_assoc refl)
list_joined number kind a joined b false e1 e2 e3 = rw (e1, e2, e3) (simp append_assoc refl)

pub network_joined : (prefix list n set t a b c : List ℕ) → list ≡ codes "list" → set ≡ codes "set" → prefix ≡ a → n ≡ b → t ≡ c
    → join_with_byte 32 (codes "network" ∷ prefix ∷ list ∷ n ∷ set ∷ t ∷ []) ≡ codes "network " ++ a ++ codes " list " ++ b ++ codes " set " ++ c
network_joined prefix list n set t a b c e1 e2 e3 e4 e5 = rw (e1, e2, e3, e4, e5) (simp append_assoc refl)

matched_by : (a b c d e : List ℕ) → join_with_byte 32 (codes "in" ∷ a ∷ codes "list" ∷ b ∷ codes "match" ∷ c ∷ codes "set" ∷ d ∷ codes "pref" ∷ e ∷ [])
    ≡ codes "in " ++ a ++ (codes " list " ++ b ++ codes " match " ++ c ++ (codes " set " ++ d ++ codes " pref " ++ e))
matched_by a b c d e =
    rw (
      append_assoc (b ++ codes " match ") c (codes " set " ++ d ++ codes " pref " ++ e),
      append_assoc b (codes " match ") (c ++ (codes " set " ++ d ++ codes " pref " ++ e)),
      append_assoc d (codes " pref ") e,
    ) refl

pub matched_joined : (k list n match' t a b c : List ℕ) (set : Tag) (pref : ℕ) → list ≡ codes "list" → match' ≡ codes "match" → k ≡ a → n ≡ b → t ≡ c
    → join_with_byte 32 (codes "in" ∷ k ∷ list ∷ n ∷ match' ∷ t ∷ setting_words Second set pref)
    ≡ codes "in " ++ a ++ (codes " list " ++ b ++ codes " match " ++ c ++ (codes " set " ++ tag_text Second set ++ codes " pref " ++ decimal pref))
matched_joined k list n match' t a b c set pref e1 e2 e3 e4 e5 = rw (e1, e2, e3, e4, e5) (matched_by a b c (tag_text Second set) (decimal pref))

pub unmatched_joined : (k list n a b : List ℕ) (set : Tag) (pref : ℕ) → list ≡ codes "list" → k ≡ a → n ≡ b
    → join_with_byte 32 (codes "in" ∷ k ∷ list ∷ n ∷ setting_words Second set pref)
    ≡ codes "in " ++ a ++ (codes " list " ++ b ++ (codes " set " ++ tag_text Second set ++ codes " pref " ++ decimal pref))
unmatched_joined k list n a b set pref e1 e2 e3 = rw (e1, e2, e3) (simp append_assoc refl)

pub out_joined : (k list n match' t a b c : List ℕ) → list ≡ codes "list" → match' ≡ codes "match" → k ≡ a → n ≡ b → t ≡ c
    → join_with_byte 32 (codes "out" ∷ k ∷ list ∷ n ∷ match' ∷ t ∷ []) ≡ codes "out " ++ a ++ (codes " list " ++ b ++ codes " match " ++ c)
out_joined k list n match' t a b c e1 e2 e3 e4 e5 = rw (e1, e2, e3, e4, e5) (simp append_assoc refl)
