-- The words of a form one by one, where they are as many or more.
use Rattle.std.proofs.Common.{Bor, ◌≡◌, ℕ, zero, suc, ◌≤◌, ◌<◌, ◌-◌, List, [], ◌∷◌, length, map, take, drop, get_or, Result, refl, sym, ap, subst, ◌∙◌, arith}
use Rattle.std.specs.Prelude.{◌≢◌}
use Rattle.std.proofs.lemmas.List.{take_rest, drop_all, length-map}
use Rattle.net_base.specs.Gives.{GivesUnless}
use Rattle.config_lines.specs.declared.line.Line.{Line}
use Rattle.config_lines.specs.declared.line.LineFault.{LineFault}
use Rattle.config_lines.specs.declared.line.LineFault.TheVariants.{NoMemory}

-- the word at a place
abbrev pub word : List (Bor (List ℕ)) → ℕ → List ℕ
word ws i = (get_or ws i (record { ref_ptr = (0, 0); now = [] })).now

-- so many words from a place on, one by one, and others behind them
abbrev pub words_from : List (Bor (List ℕ)) → ℕ → ℕ → List (List ℕ) → List (List ℕ)
words_from ws i zero others = others
words_from ws i (suc n) others = word ws i ∷ words_from ws (suc i) n others

-- those behind the first ones
abbrev pub words_behind : ℕ → List (Bor (List ℕ)) → List (List ℕ)
words_behind n ws = map (λ w. w.now) (take (length ws - n) (drop n ws))

one_further : (w : Bor (List ℕ)) (ws : List (Bor (List ℕ))) (i n : ℕ) (others : List (List ℕ)) → words_from ws i n others ≡ words_from (w ∷ ws) (suc i) n others
one_further w ws i zero others = refl
one_further w ws i (suc n) others = ap (λ (x : List (List ℕ)). word ws i ∷ x) (one_further w ws (suc i) n others)

one_by_one : (n : ℕ) (ws : List (Bor (List ℕ))) → n ≤ length ws → map (λ w. w.now) ws ≡ words_from ws 0 n (map (λ w. w.now) (drop n ws))
one_by_one zero ws least = refl
one_by_one (suc n) [] least = absurd (omega (arith, least))
one_by_one (suc n) (w ∷ ws) least = ap (λ (x : List (List ℕ)). w.now ∷ x) (one_by_one n ws (omega (arith, least)) ∙ one_further w ws 0 n (map (λ w. w.now) (drop n ws)))

-- the first words, one by one
pub first_words : (n : ℕ) (ws : List (Bor (List ℕ))) → n ≤ length ws → map (λ w. w.now) ws ≡ words_from ws 0 n (words_behind n ws)
first_words n ws least = one_by_one n ws least ∙ ap (λ (x : List (Bor (List ℕ))). words_from ws 0 n (map (λ w. w.now) x)) (sym (take_rest ws n))

-- what is so of the first words one by one and of those behind them is so of the words
pub by_first_words : {A : Type 0} (f : List (List ℕ) → A) (n : ℕ) (ws : List (Bor (List ℕ))) (r : A) → n ≤ length ws
    → r ≡ f (words_from ws 0 n (words_behind n ws)) → r ≡ f (map (λ w. w.now) ws)
by_first_words f n ws r least e = e ∙ ap f (sym (first_words n ws least))

-- where memory may run out
pub given_by_first_words : (f : List (List ℕ) → Result Line LineFault) (n : ℕ) (ws : List (Bor (List ℕ))) (r : Result Line LineFault) → n ≤ length ws
    → GivesUnless NoMemory (λ l. l) r (f (words_from ws 0 n (words_behind n ws))) → GivesUnless NoMemory (λ l. l) r (f (map (λ w. w.now) ws))
given_by_first_words f n ws r least = subst (λ (x : List (List ℕ)). GivesUnless NoMemory (λ l. l) r (f x)) (sym (first_words n ws least))

-- what is so of all the words one by one is so of the words
pub by_words : {A : Type 0} (f : List (List ℕ) → A) (n : ℕ) (ws : List (Bor (List ℕ))) (r : A) → n ≤ length ws → length ws < suc n
    → r ≡ f (words_from ws 0 n []) → r ≡ f (map (λ w. w.now) ws)
by_words f n ws r least below e =
    e ∙ ap f (sym (one_by_one n ws least ∙ ap (λ (x : List (Bor (List ℕ))). words_from ws 0 n (map (λ w. w.now) x)) (drop_all n ws (omega (arith, below)))))

-- the words are not as many
pub other_length : (n : ℕ) (ws : List (Bor (List ℕ))) → length ws ≢ n → length (map (λ w. w.now) ws) ≢ n
other_length n ws other e = other (sym (length-map ws (λ (w : Bor (List ℕ)). w.now)) ∙ e)
