-- What is told, number by number and statement by statement.
use Rattle.std.proofs.Common.{◌≡◌, ℕ, zero, suc, ◌+◌, ◌<◌, Bool, true, false, cond, List, [], ◌∷◌, ◌++◌, length, get_or, take, drop, map, Some, refl, sym, ap, ◌∙◌, arith, append_assoc}
use Rattle.std.specs.Prelude.{filter, slice_get, if◌then◌else◌}
use Rattle.std.specs.List.{range_with_len}
use Rattle.std.proofs.lemmas.List.{map-append}
use Rattle.std.proofs.lemmas.List.Elements.{filter-append, filter_more}
use Rattle.list_law.proofs.Items.{drop_from}
use Rattle.policy_base.specs.Meaning.{alternative_count}
use Rattle.policy_base.specs.Policies.{PlainStatement}
use Rattle.bit_rows.specs.Tables.{PlainRows}
use Rattle.policy_lint.specs.declared.finding.Finding.{Finding}
use Rattle.policy_lint.specs.Told.{marked, told, told_from, told_unreached}

range_more : (a n j : ℕ) → a + n ≡ j → range_with_len a (n + 1) ≡ range_with_len a n ++ j ∷ []
range_more a zero j is = ap (λ k. k ∷ []) (omega (arith, is))
range_more a (suc n) j is =
    let e : suc n + 1 ≡ suc (n + 1) = omega arith in
    rw e (ap (λ ks. a ∷ ks) (range_more (a + 1) n j (omega (arith, is))))

map_kept : {B : Type 0} (finding : B → Finding) (b : Bool) (x : B) → map finding (cond b (x ∷ []) []) ≡ (if b then finding x ∷ [] else [])
map_kept finding true x = refl
map_kept finding false x = refl

-- one number more
pub told_more : (finding : ℕ → Finding) (passes : ℕ → Bool) (n j : ℕ) → j ≡ n + 1 → told finding passes (n + 1) ≡ told finding passes n ++ (if passes j then finding j ∷ [] else [])
told_more finding passes n j is =
    ap (λ ks. map finding (filter passes ks)) (range_more 1 n j (omega (arith, is)))
    ∙ ap (map finding) (filter-append passes (range_with_len 1 n) (j ∷ []))
    ∙ map-append finding (filter passes (range_with_len 1 n)) (filter passes (j ∷ []))
    ∙ ap (λ fs. map finding (filter passes (range_with_len 1 n)) ++ fs) (map_kept finding (passes j) j)

-- the findings so far with one more
pub told_next : (finding : ℕ → Finding) (passes : ℕ → Bool) (n j : ℕ) (first old new : List Finding) (b : Bool) → j ≡ n + 1 → old ≡ first ++ told finding passes n → b ≡ passes j
    → new ≡ old ++ (if b then finding j ∷ [] else []) → new ≡ first ++ told finding passes (n + 1)
told_next finding passes n j first old new b is before same after =
    after ∙ ap (λ fs. fs ++ (if b then finding j ∷ [] else [])) before ∙ ap (λ c. first ++ told finding passes n ++ (if c then finding j ∷ [] else [])) same
    ∙ append_assoc first (told finding passes n) (if passes j then finding j ∷ [] else [])
    ∙ sym (ap (λ fs. first ++ fs) (told_more finding passes n j is))

-- one of a list more
pub kept_next : {B : Type 0} (finding : B → Finding) (passes : B → Bool) (xs : List B) (i : ℕ) (x : B) (first old new : List Finding) (b : Bool) → i < length xs → x ≡ get_or xs i x
    → old ≡ first ++ map finding (filter passes (take i xs)) → b ≡ passes x → new ≡ old ++ (if b then finding x ∷ [] else []) → new ≡ first ++ map finding (filter passes (take (i + 1) xs))
kept_next finding passes xs i x first old new b within item before same after =
    let so_far = map finding (filter passes (take i xs)) in
    after ∙ ap (λ fs. fs ++ (if b then finding x ∷ [] else [])) before ∙ ap (λ c. first ++ so_far ++ (if c then finding x ∷ [] else [])) same
    ∙ append_assoc first so_far (if passes x then finding x ∷ [] else [])
    ∙ ap (λ fs. first ++ fs)
    (ap (λ fs. so_far ++ fs) (sym (map_kept finding (passes x) x))
    ∙ sym (map-append finding (filter passes (take i xs)) (cond (passes x) (x ∷ []) []))
    ∙ sym (ap (map finding) (filter_more passes xs i x within ∙ ap (λ y. filter passes (take i xs) ++ cond (passes y) (y ∷ []) []) (sym item))))

-- one statement more
pub told_step : (ranks : PlainRows) (have : List Bool) (i : ℕ) (ss : List PlainStatement) (s : PlainStatement) (old new whole added : List Finding) → slice_get ss i ≡ Some s
    → added ≡ (if marked have (i + 1) then told_unreached ranks (i + 1) (alternative_count s.ranked) else []) → new ≡ old ++ added
    → old ++ told_from ranks have (i + 1) (drop i ss) ≡ whole → new ++ told_from ranks have (i + 1 + 1) (drop (i + 1) ss) ≡ whole
told_step ranks have i ss s old new whole added at is after before =
    ap (λ fs. fs ++ told_from ranks have (i + 1 + 1) (drop (i + 1) ss)) (after ∙ ap (λ fs. old ++ fs) is)
    ∙ append_assoc old (if marked have (i + 1) then told_unreached ranks (i + 1) (alternative_count s.ranked) else []) (told_from ranks have (i + 1 + 1) (drop (i + 1) ss))
    ∙ sym (ap (λ (rest : List PlainStatement). old ++ told_from ranks have (i + 1) rest) (drop_from ss i s at))
    ∙ before
