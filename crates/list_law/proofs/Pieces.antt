-- Pieces of a text that are written one after another.
use Rattle.std.proofs.Common.{◌++◌, ◌∙◌, ◌∷◌, ◌≡◌, List, [], ap, append-nil, append_assoc, sym, ℕ}

-- each piece with the text that it leaves
abbrev pub AreWritten : List ℕ → List (List ℕ × List ℕ) → Type 0
AreWritten old [] = Unit {0}
AreWritten old (p ∷ ps) = (p.1 ≡ old ++ p.0) × AreWritten p.1 ps

abbrev pub text_after : List ℕ → List (List ℕ × List ℕ) → List ℕ
text_after old [] = old
text_after old (p ∷ ps) = text_after p.1 ps

abbrev pub pieces : List (List ℕ × List ℕ) → List ℕ
pieces [] = []
pieces (p ∷ ps) = p.0 ++ pieces ps

pub written : (old : List ℕ) (ps : List (List ℕ × List ℕ)) → AreWritten old ps → text_after old ps ≡ old ++ pieces ps
written old [] h = sym (append-nil old)
written old (p ∷ ps) h = written p.1 ps h.1 ∙ ap (λ t. t ++ pieces ps) h.0 ∙ append_assoc old p.0 (pieces ps)
