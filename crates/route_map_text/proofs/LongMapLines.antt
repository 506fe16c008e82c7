-- A line of more than ten words has none of the forms.
use Rattle.std.proofs.Common.{◌≡◌, ℕ, ◌<◌, List, [], ◌∷◌, length, Bool, true, false, Result, Ok, Err, refl, sym, arith, inl, inr}
use Rattle.std.specs.Prelude.{◌==◌, codes, if◌then◌else◌}
use Rattle.std.specs.Str.{bytes_eq}
use Rattle.std.proofs.lemmas.Bool.{ne_eqb}
use Rattle.config_lines.specs.declared.edition.Edition.TheVariants.{Second}
use Rattle.config_lines.specs.declared.line.Line.{Line}
use Rattle.config_lines.specs.declared.line.LineFault.{LineFault}
use Rattle.config_lines.specs.declared.line.LineFault.TheVariants.{Form}
use Rattle.config_lines.specs.declared.number.Figure.{Figure}
use Rattle.config_lines.specs.Numbers.{number_of}
use Rattle.config_lines.proofs.LongLines.{IsFormal, no_form_behind, number_of-formal, long_pattern, long_setting, long_router, long_session, long_peer, long_end}
use Rattle.list_law.proofs.Truth.{either_way}
use Rattle.route_map_text.specs.MapLines.{kind_of, list_line, matched, unmatched, in_line, exported, out_line, as_block, form_line, words_line}
use Rattle.route_map_text.proofs.Entries.{no_entry}
use Rattle.route_map_text.proofs.OtherMapLengths.{other_network, other_exported}

kind_of-formal : (w : List ℕ) → IsFormal (kind_of w)
unfolding kind_of
kind_of-formal w = by (bytes_eq w (codes "permit")) (bytes_eq w (codes "deny"))
  where
    by : (p d : Bool) → IsFormal (if p then Ok true else (if d then Ok false else Err Form))
    by true d = inr (true, refl)
    by false true = inr (false, refl)
    by false false = inl refl

long_list : (ws : List (List ℕ)) → 9 < length ws → list_line ws ≡ Err Form
unfolding list_line
long_list (n ∷ kind ∷ ws) long =
    no_form_behind (number_of n) _ (number_of-formal n) (λ _. no_form_behind (kind_of kind) _ (kind_of-formal kind) (λ _. rw (long_pattern ws (omega (arith, long))) refl))
long_list _ long = absurd (omega (arith, long))

long_unmatched : (lists : ℕ) (n : Figure) (ws : List (List ℕ)) → 6 < length ws → unmatched lists n ws ≡ Err Form
unfolding unmatched
long_unmatched lists n ws long = rw (long_setting Second ws (omega (arith, long))) refl

-- behind the list
long_imported : (lists : ℕ) (n : Figure) (ws : List (List ℕ)) → 6 < length ws → (if length ws == 6 then matched lists n ws else unmatched lists n ws) ≡ Err Form
long_imported lists n ws long = rw (ne_eqb (length ws) 6 (λ e. omega (arith, e, long))) (long_unmatched lists n ws long)

long_in : (lists : ℕ) (ws : List (List ℕ)) → 9 < length ws → in_line lists ws ≡ Err Form
unfolding in_line
long_in lists (k ∷ list ∷ n ∷ ws) long =
    no_entry k list n (λ m. if length ws == 6 then matched lists m ws else unmatched lists m ws) (λ m. long_imported lists m ws (omega (arith, long)))
long_in lists _ long = absurd (omega (arith, long))

long_out : (lists : ℕ) (ws : List (List ℕ)) → 9 < length ws → out_line lists ws ≡ Err Form
unfolding out_line
long_out lists (k ∷ list ∷ n ∷ ws) long = no_entry k list n (λ m. exported lists m ws) (λ m. sym (other_exported lists m ws (λ e. omega (arith, e, long))))
long_out lists _ long = absurd (omega (arith, long))

block : (r : Result Line LineFault) → r ≡ Err Form → as_block r ≡ Err Form
block r e = rw e refl

long_form : (lists : ℕ) (w : List ℕ) (ws : List (List ℕ)) → 9 < length ws → form_line lists w ws ≡ Err Form
unfolding form_line
long_form lists w ws long =
    either_way (bytes_eq w (codes "list")) _ _ (Err Form) (long_list ws long)
    (either_way (bytes_eq w (codes "router")) _ _ (Err Form) (block _ (long_router Second ws long))
    (either_way (bytes_eq w (codes "network")) _ _ (Err Form) (block _ (sym (other_network lists ws (λ e. omega (arith, e, long)))))
    (either_way (bytes_eq w (codes "neighbor")) _ _ (Err Form) (block _ (long_session Second ws long))
    (either_way (bytes_eq w (codes "peer")) _ _ (Err Form) (block _ (long_peer Second ws long))
    (either_way (bytes_eq w (codes "in")) _ _ (Err Form) (long_in lists ws long)
    (either_way (bytes_eq w (codes "out")) _ _ (Err Form) (long_out lists ws long)
    (either_way (bytes_eq w (codes "end")) _ _ (Err Form) (block _ (long_end ws long)) refl)))))))

pub long_line : (lists : ℕ) (ws : List (List ℕ)) → 10 < length ws → words_line lists ws ≡ Err Form
long_line lists [] long = refl
long_line lists (w ∷ ws) long = long_form lists w ws (omega (arith, long))
