-- Words that are fewer or more than those of a form of maps are not of it.
use Rattle.std.proofs.Common.{◌≡◌, ℕ, List, [], ◌∷◌, length, Err, refl}
use Rattle.std.specs.Prelude.{◌≢◌}
use Rattle.config_lines.specs.declared.line.LineFault.TheVariants.{Form}
use Rattle.config_lines.specs.declared.number.Figure.{Figure}
use Rattle.route_map_text.specs.MapLines.{network_line, exported}

pub other_network : (lists : ℕ) (ws : List (List ℕ)) → length ws ≢ 5 → Err Form ≡ network_line lists ws
unfolding network_line
other_network lists (a ∷ b ∷ c ∷ d ∷ e ∷ []) other = absurd (other refl)
other_network lists _ other = refl

pub other_exported : (lists : ℕ) (n : Figure) (ws : List (List ℕ)) → length ws ≢ 2 → Err Form ≡ exported lists n ws
unfolding exported
other_exported lists n (a ∷ b ∷ []) other = absurd (other refl)
other_exported lists n _ other = refl
