-- One more of the items of a list is written, or all are.
use Rattle.std.proofs.Common.{◌≡◌, ℕ, ◌+◌, ◌<◌, ◌≤◌, List, ◌++◌, length, take, drop, get_or, flat_map, sym, ap, subst, ◌∙◌, append_assoc}
use Rattle.std.specs.List.{AllByRecursion}
use Rattle.std.proofs.lemmas.List.{drop_more, flat_map_more, take_all, take_more}
use Rattle.list_law.proofs.Each.{AllByRecursion-push}
use Rattle.net_base.specs.Prefixes.{PlainPattern}
use Rattle.config_lines.specs.declared.edition.Edition.TheVariants.{Second}
use Rattle.config_text.specs.ConfigText.{class_line, class_lines}

pub rule_more : {X : Type 0} (P : X → Type 0) (xs : List X) (i : ℕ) (d : X) → i < length xs → AllByRecursion P (take i xs) → P (get_or xs i d) → AllByRecursion P (take (i + 1) xs)
rule_more P xs i d less old here = subst (AllByRecursion P) (sym (take_more xs i d less)) (AllByRecursion-push P (take i xs) (get_or xs i d) old here)

pub all_rules : {X : Type 0} (P : X → Type 0) (xs : List X) (i : ℕ) → length xs ≤ i → AllByRecursion P (take i xs) → AllByRecursion P xs
all_rules P xs i past = subst (AllByRecursion P) (take_all i xs past)

module _ {X : Type 0} (line : X → List ℕ) (P : X → Type 0) (first : List ℕ) (xs : List X) where
  -- so many items are written behind the first text, and each of them keeps the rule
  pub record Written (so_far : List ℕ) (i : ℕ) : Type 0 where
    pub text : so_far ≡ first ++ flat_map line (take i xs)
    pub rules : AllByRecursion P (take i xs)

  pub one_more : (before after : List ℕ) (i : ℕ) (x : X) → i < length xs → x ≡ get_or xs i x → Written before i → after ≡ before ++ line x → P x → Written after (i + 1)
  one_more before after i x less is old new rule = record {
    text =
        new
        ∙ ap (λ (y : X). before ++ line y) is
        ∙ ap (λ (t : List ℕ). t ++ line (get_or xs i x)) old.text
        ∙ flat_map_more line first (take i xs) (get_or xs i x)
        ∙ ap (λ ys. first ++ flat_map line ys) (sym (take_more xs i x less));
    rules = rule_more P xs i x less old.rules (subst P is rule);
  }

  pub all_written : (so_far : List ℕ) (i : ℕ) → length xs ≤ i → Written so_far i → (so_far ≡ first ++ flat_map line xs) × AllByRecursion P xs
  all_written so_far i past old = (old.text ∙ ap (λ ys. first ++ flat_map line ys) (take_all i xs past), all_rules P xs i past old.rules)

-- two texts, one after the other
pub both_behind : (before middle after one other : List ℕ) → middle ≡ before ++ one → after ≡ middle ++ other → after ≡ before ++ (one ++ other)
both_behind before middle after one other first then = then ∙ ap (λ (t : List ℕ). t ++ other) first ∙ append_assoc before one other

-- the lines of classes, numbered on
pub class_more : (k : ℕ) (all text after : List ℕ) (cs : List (List PlainPattern)) (i : ℕ) (d : List PlainPattern) → i < length cs
    → text ++ class_lines Second k (drop i cs) ≡ all → after ≡ text ++ class_line Second k (get_or cs i d) → after ++ class_lines Second (k + 1) (drop (i + 1) cs) ≡ all
class_more k all text after cs i d less old new =
    ap (λ (t : List ℕ). t ++ class_lines Second (k + 1) (drop (i + 1) cs)) new
    ∙ append_assoc text (class_line Second k (get_or cs i d)) (class_lines Second (k + 1) (drop (i + 1) cs))
    ∙ ap (λ (x : List (List PlainPattern)). text ++ class_lines Second k x) (sym (drop_more cs i d less))
    ∙ old
