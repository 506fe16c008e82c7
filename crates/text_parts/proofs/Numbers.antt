-- A number below 256 is read again from its digits.
use Rattle.std.proofs.Common.{◌≡◌, ℕ, ◌<◌, ◌≤◌, length, Bool, true, false, Some, refl}
use Rattle.std.specs.Prelude.{◌&&◌, ◌==◌, not, nat_le}
use Rattle.std.specs.List.{list_all}
use Rattle.std.specs.Option.{option_map_or}
use Rattle.std.specs.Fmt.{decimal, digits}
use Rattle.std.proofs.lemmas.Bool.{and_parts, leb-true, agree_below, agree_below_at}
use Rattle.list_law.proofs.Options.{option_map_or_equal}
use Rattle.net_base.specs.Addresses.{is_figure, small_number}

-- a digit
pub figure_range : (b : ℕ) → is_figure b ≡ true → (48 ≤ b) × (b ≤ 57)
figure_range b h = let p = and_parts (nat_le 48 b) (nat_le b 57) h in (leb-true 48 b p.0, leb-true b 57 p.1)

-- a number below 256 is written with digits alone, and read again
abbrev is_read_again : ℕ → Bool
is_read_again n = option_map_or (λ m. m == n) (small_number (decimal n)) false && (list_all is_figure (decimal n) && not (length (decimal n) == 0))

table : agree_below is_read_again (λ n. true) 256 ≡ true
unfolding digits
table = refl

pub small_number-decimal : (n : ℕ) → n < 256 → small_number (decimal n) ≡ Some n
small_number-decimal n low =
    option_map_or_equal (small_number (decimal n)) n
    (and_parts _ (list_all is_figure (decimal n) && not (length (decimal n) == 0)) (agree_below_at is_read_again (λ m. true) 256 n table low)).0

pub digits_below : (n : ℕ) → n < 256 → (list_all is_figure (decimal n) ≡ true) × (not (length (decimal n) == 0) ≡ true)
digits_below n low =
    and_parts (list_all is_figure (decimal n)) (not (length (decimal n) == 0))
    (and_parts (option_map_or (λ m. m == n) (small_number (decimal n)) false) _ (agree_below_at is_read_again (λ m. true) 256 n table low)).1

pub list_all-is_figure : (n : ℕ) → n < 256 → list_all is_figure (decimal n) ≡ true
list_all-is_figure n low = (digits_below n low).0
