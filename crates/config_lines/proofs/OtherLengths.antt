-- Words that are fewer or more than those of a form are not of it.
use Rattle.std.proofs.Common.{◌≡◌, ℕ, List, [], ◌∷◌, length, Err, refl}
use Rattle.std.specs.Prelude.{◌≢◌}
use Rattle.config_lines.specs.declared.edition.Edition.{Edition}
use Rattle.config_lines.specs.declared.line.LineFault.TheVariants.{Form}
use Rattle.config_lines.specs.Lines.{router_line, own_line, neighbour, setting, export_line}

pub other_router : (edition : Edition) (ws : List (List ℕ)) → length ws ≢ 5 → Err Form ≡ router_line edition ws
unfolding router_line
other_router edition (a ∷ b ∷ c ∷ d ∷ e ∷ []) other = absurd (other refl)
other_router edition _ other = refl

pub other_own : (edition : Edition) (classes : ℕ) (ws : List (List ℕ)) → length ws ≢ 4 → Err Form ≡ own_line edition classes ws
unfolding own_line
other_own edition classes (a ∷ b ∷ c ∷ d ∷ []) other = absurd (other refl)
other_own edition classes _ other = refl

pub other_neighbour : (ws : List (List ℕ)) → length ws ≢ 3 → Err Form ≡ neighbour ws
unfolding neighbour
other_neighbour (a ∷ b ∷ c ∷ []) other = absurd (other refl)
other_neighbour _ other = refl

pub other_setting : (edition : Edition) (ws : List (List ℕ)) → length ws ≢ 4 → Err Form ≡ setting edition ws
unfolding setting
other_setting edition (a ∷ b ∷ c ∷ d ∷ []) other = absurd (other refl)
other_setting edition _ other = refl

pub other_export : (edition : Edition) (classes : ℕ) (ws : List (List ℕ)) → length ws ≢ 3 → Err Form ≡ export_line edition classes ws
unfolding export_line
other_export edition classes (a ∷ b ∷ c ∷ []) other = absurd (other refl)
other_export edition classes _ other = refl
