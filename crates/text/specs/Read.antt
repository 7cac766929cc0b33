-- Numbers read from hex digits in the bytes of ASCII.
use Rattle.std.specs.Prelude.{ℕ, ◌+◌, ◌*◌, ◌-◌, Bool, ◌&&◌, cond, List, [], ◌∷◌, leb, length, take, drop}

-- is b one of the bytes from `low` up to `high`?
abbrev pub between : ℕ → ℕ → ℕ → Bool
between low b high = leb low b && leb b high

-- 0 to 9
abbrev pub is_decimal : ℕ → Bool
is_decimal b = between 48 b 57

-- a to f
abbrev pub is_letter : ℕ → Bool
is_letter b = between 97 b 102

-- the value of a hex digit; 0 for any other byte
unfoldable pub digit_of : ℕ → ℕ
digit_of b = cond (is_decimal b) (b - 48) (cond (is_letter b) (b - 97 + 10) 0)

-- the number whose hex digits are those of n and after them the bytes
unfoldable pub hex_after : ℕ → List ℕ → ℕ
hex_after n [] = n
hex_after n (b ∷ bs) = hex_after (16 * n + digit_of b) bs

-- the number in k columns from place `at` on; 0 where they are not all there, and for more than sixteen
unfoldable pub hex_at : ℕ → ℕ → List ℕ → ℕ
hex_at at k l = cond (leb k 16 && leb (at + k) (length l)) (hex_after 0 (take k (drop at l))) 0
