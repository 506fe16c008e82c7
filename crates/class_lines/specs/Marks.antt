-- Tags and preferences in lines.
use Rattle.std.specs.Prelude.{ℕ, nat_le, nat_lt, Bool, ◌&&◌, false, List, [], ◌∷◌, Option, Some, None, if◌then◌else◌}
use Rattle.std.specs.List.{filter, flat_map, fold, list_any}
use Rattle.net_base.specs.declared.numbers.Tag.{Tag}
use Rattle.net_base.specs.Numbers.{is_tag}
use Rattle.config_base.specs.Lines.{same_tag}
use Rattle.stage_blocks.specs.Merging.{is_below}
use Rattle.class_lines.specs.declared.class_line.ClassLine.{ClassLine}
use Rattle.class_lines.specs.declared.class_line.Says.{Says}
use Rattle.class_lines.specs.declared.class_line.Says.TheVariants.{Originates, Takes, Sends}

-- ---- tags

-- the tags that a line asks for or gives
abbrev pub tags_said : Says → List Tag
tags_said (Originates p t) = t ∷ []
tags_said (Takes t s n) = t ∷ s ∷ []
tags_said (Sends t) = t ∷ []

abbrev pub tags_in : List ClassLine → List Tag
tags_in ls = flat_map (λ l. tags_said l.says) ls

-- it's a tag, and one of these
abbrev pub is_among : List Tag → Tag → Bool
is_among tags t = is_tag t && list_any (same_tag t) tags

-- those of the second lines that stand in the first ones too
abbrev pub shared_tags : List ClassLine → List ClassLine → List Tag
shared_tags old new = filter (is_among (tags_in old)) (tags_in new)

-- ---- preferences

abbrev pub prefs_said : Says → List ℕ
prefs_said (Originates p t) = []
prefs_said (Takes t s n) = n ∷ []
prefs_said (Sends t) = []

abbrev pub prefs_in : List ClassLine → List ℕ
prefs_in ls = flat_map (λ l. prefs_said l.says) ls

-- one of these isn't below it
abbrev pub is_low : List ℕ → ℕ → Bool
is_low prefs n = list_any (nat_le n) prefs

-- it isn't above this one, if there is one
abbrev pub within : ℕ → Option ℕ → Bool
within n None = false
within n (Some m) = nat_le n m

-- those of the second lines that aren't above all of the first ones
abbrev pub low_prefs : List ClassLine → List ClassLine → List ℕ
low_prefs old new = filter (is_low (prefs_in old)) (prefs_in new)

-- ---- the least

abbrev pub lesser_tag : Option Tag → Tag → Option Tag
lesser_tag None t = Some t
lesser_tag (Some u) t = if is_below t u then Some t else Some u

abbrev pub least_of_tags : List Tag → Option Tag
least_of_tags tags = fold lesser_tag None tags

abbrev pub lesser_pref : Option ℕ → ℕ → Option ℕ
lesser_pref None n = Some n
lesser_pref (Some m) n = if nat_lt n m then Some n else Some m

abbrev pub least_of_prefs : List ℕ → Option ℕ
least_of_prefs prefs = fold lesser_pref None prefs
