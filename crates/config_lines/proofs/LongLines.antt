-- A line of more than ten words has none of the forms.
use Rattle.std.proofs.Common.{Bor, ◌≡◌, ℕ, ◌<◌, List, [], ◌∷◌, length, map, get_or, Bool, true, false, Result, Ok, Err, refl, sym, arith, inl, inr}
use Rattle.std.specs.Prelude.{◌==◌, ◌⊎◌, codes}
use Rattle.std.specs.Str.{bytes_eq}
use Rattle.std.proofs.lemmas.Bool.{ne_eqb}
use Rattle.list_law.proofs.Truth.{either_way}
use Rattle.net_base.specs.Steps.{◌>>=◌, unless}
use Rattle.config_lines.specs.declared.edition.Edition.{Edition}
use Rattle.config_lines.specs.declared.line.LineFault.{LineFault}
use Rattle.config_lines.specs.declared.line.LineFault.TheVariants.{Form}
use Rattle.config_lines.specs.Lines.{class_line, router_line, neighbour, session_line, peer_line, setting, untagged_line, import_line, end_line, form_line, words_line}
use Rattle.config_lines.specs.Numbers.{is_number, number_of, figure_of}
use Rattle.config_lines.specs.Patterns.{pattern_of, behind_space}
use Rattle.config_lines.specs.Words.{is_word}
use Rattle.config_lines.proofs.OtherLengths.{other_router, other_own, other_neighbour, other_setting, other_export}

-- what is read has its form, or else this is its fault
abbrev pub IsFormal : {A : Type 0} → Result A LineFault → Type 0
IsFormal {A} r = (r ≡ Err Form) ⊎ ((x : A) × (r ≡ Ok x))

-- where what follows has no form, the whole has none
pub no_form_behind : {A B : Type 0} (r : Result A LineFault) (f : A → Result B LineFault) → IsFormal r → ((x : A) → f x ≡ Err Form) → (r >>= f) ≡ Err Form
no_form_behind r f (inl e) none = rw e refl
no_form_behind r f (inr x) none = rw x.1 (none x.0)

pub number_of-formal : (w : List ℕ) → IsFormal (number_of w)
unfolding number_of
number_of-formal w = by (is_number w)
  where
    by : (b : Bool) → IsFormal (unless Form b >>= (λ _. Ok (figure_of w)))
    by true = inr (figure_of w, refl)
    by false = inl refl

pub is_word-formal : (fixed word : List ℕ) → IsFormal (is_word fixed word)
is_word-formal fixed word = by (bytes_eq word fixed)
  where
    by : (b : Bool) → IsFormal (unless Form b)
    by true = inr (tt, refl)
    by false = inl refl

-- ---- too many words

pub long_pattern : (ws : List (List ℕ)) → 3 < length ws → pattern_of ws ≡ Err Form
unfolding pattern_of
long_pattern (a ∷ b ∷ c ∷ d ∷ ws) long = refl
long_pattern _ long = absurd (omega (arith, long))

-- a pattern behind a comma
pub long_piece : (ws : List (List ℕ)) → 10 < length ws → behind_space ws ≡ Err Form
long_piece [] long = refl
long_piece (gap ∷ ws) long = no_form_behind (is_word [] gap) (λ _. pattern_of ws) (is_word-formal [] gap) (λ _. long_pattern ws (omega (arith, long)))

pub long_setting : (edition : Edition) (ws : List (List ℕ)) → 4 < length ws → setting edition ws ≡ Err Form
long_setting edition ws long = sym (other_setting edition ws (λ e. omega (arith, e, long)))

long_class : (ws ps : List (List ℕ)) → 9 < length ws → class_line ws ps ≡ Err Form
unfolding class_line
long_class [] ps long = refl
long_class (n ∷ ws) ps long = no_form_behind (number_of n) _ (number_of-formal n) (λ _. rw (long_pattern ws (omega (arith, long))) refl)

long_untagged : (edition : Edition) (classes : ℕ) (ws : List (List ℕ)) → 9 < length ws → untagged_line edition classes ws ≡ Err Form
unfolding untagged_line
long_untagged edition classes [] long = refl
long_untagged edition classes (n ∷ ws) long = no_form_behind (number_of n) _ (number_of-formal n) (λ _. rw (long_setting edition ws (omega (arith, long))) refl)

long_import : (edition : Edition) (classes : ℕ) (ws : List (List ℕ)) → 9 < length ws → import_line edition classes ws ≡ Err Form
unfolding import_line
long_import edition classes ws long = rw (ne_eqb (length ws) 7 (λ e. omega (arith, e, long))) (long_untagged edition classes ws long)

pub long_router : (edition : Edition) (ws : List (List ℕ)) → 9 < length ws → router_line edition ws ≡ Err Form
long_router edition ws long = sym (other_router edition ws (λ e. omega (arith, e, long)))

long_neighbour : (ws : List (List ℕ)) → 9 < length ws → neighbour ws ≡ Err Form
long_neighbour ws long = sym (other_neighbour ws (λ e. omega (arith, e, long)))

pub long_session : (edition : Edition) (ws : List (List ℕ)) → 9 < length ws → session_line edition ws ≡ Err Form
unfolding session_line
long_session edition ws long = rw (long_neighbour ws long) refl

pub long_peer : (edition : Edition) (ws : List (List ℕ)) → 9 < length ws → peer_line edition ws ≡ Err Form
unfolding peer_line
long_peer edition ws long = rw (long_neighbour ws long) refl

pub long_end : (ws : List (List ℕ)) → 9 < length ws → end_line ws ≡ Err Form
unfolding end_line
long_end [] long = absurd (omega (arith, long))
long_end (w ∷ ws) long = refl

long_form : (edition : Edition) (classes : ℕ) (w : List ℕ) (ws : List (List ℕ)) → 9 < length ws → form_line edition classes w ws ≡ Err Form
unfolding form_line
long_form edition classes w ws long =
    either_way (bytes_eq w (codes "router")) _ _ (Err Form) (long_router edition ws long)
    (either_way (bytes_eq w (codes "originate")) _ _ (Err Form) (sym (other_own edition classes ws (λ e. omega (arith, e, long))))
    (either_way (bytes_eq w (codes "session")) _ _ (Err Form) (long_session edition ws long)
    (either_way (bytes_eq w (codes "peer")) _ _ (Err Form) (long_peer edition ws long)
    (either_way (bytes_eq w (codes "import")) _ _ (Err Form) (long_import edition classes ws long)
    (either_way (bytes_eq w (codes "export")) _ _ (Err Form) (sym (other_export edition classes ws (λ e. omega (arith, e, long))))
    (either_way (bytes_eq w (codes "end")) _ _ (Err Form) (long_end ws long) refl))))))

pub long_line : (edition : Edition) (classes : ℕ) (ws ps : List (List ℕ)) → 10 < length ws → words_line edition classes ws ps ≡ Err Form
unfolding words_line
long_line edition classes [] ps long = refl
long_line edition classes (w ∷ ws) ps long =
    let rest : 9 < length ws = omega (arith, long) in
    either_way (bytes_eq w (codes "class")) _ _ (Err Form) (long_class ws ps rest)
    (either_way (length ps == 0) _ _ (Err Form) (long_form edition classes w ws rest) refl)

-- ---- a comma behind another word than `class`

pub comma_misplaced : (edition : Edition) (classes : ℕ) (ws : List (Bor (List ℕ))) (d : Bor (List ℕ)) (ps : List (List ℕ))
    → bytes_eq (get_or ws 0 d).now (codes "class") ≡ false → (length ps == 0) ≡ false
    → words_line edition classes (map (λ w. w.now) ws) ps ≡ Err Form
unfolding words_line
comma_misplaced edition classes [] d ps other some = refl
comma_misplaced edition classes (w ∷ ws) d ps other some = rw (other, some) refl
