use Rattle.std.proofs.Common.{Bor, ◌≡◌, ℕ, ◌-◌, List, length, take, drop, rules}
use Rattle.std.proofs.lemmas.List.{length-map}
use Rattle.config_lines.proofs.FormWords.{words_behind, by_first_words}
use Rattle.route_map_text.specs.MapLines.{in_line}
use Rattle.route_map_text.proofs.read.read_in_line.Goals as goal

-- how many words follow the list
follow : (ws : List (Bor (List ℕ))) → length (words_behind 3 ws) ≡ length (take (length ws - 3) (drop 3 ws))
follow ws = length-map (take (length ws - 3) (drop 3 ws)) (λ (w : Bor (List ℕ)). w.now)

pub returns-in_err-number : goal.returns-in_err-number
unfolding in_line
returns-in_err-number c = by_first_words (in_line c.args.lists) 3 c.args.words.now _ c.in-len3-up.len_at_least (search rules)

pub returns-in_err-expect : goal.returns-in_err-expect
unfolding in_line
returns-in_err-expect c = by_first_words (in_line c.args.lists) 3 c.args.words.now _ c.in-len3-up.len_at_least (search rules)

pub returns-in_err-list : goal.returns-in_err-list
unfolding in_line
returns-in_err-list c = by_first_words (in_line c.args.lists) 3 c.args.words.now _ c.in-len3-up.len_at_least (search rules)

pub returns-in_err-line : goal.returns-in_err-line
unfolding in_line
returns-in_err-line c = by_first_words (in_line c.args.lists) 3 c.args.words.now _ c.in-len3-up.len_at_least (rw (follow c.args.words.now) (search rules))

pub returns-in_err-number-2 : goal.returns-in_err-number-2
unfolding in_line
returns-in_err-number-2 c = by_first_words (in_line c.args.lists) 3 c.args.words.now _ c.in-len3-up.len_at_least (rw (follow c.args.words.now) (search rules))

pub returns : goal.returns
unfolding in_line
returns c = by_first_words (in_line c.args.lists) 3 c.args.words.now _ c.in-len3-up.len_at_least (rw (follow c.args.words.now) (search rules))
