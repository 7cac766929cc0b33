-- Texts, numbers and names in the bytes of ASCII.
use Rattle.std.specs.Prelude.{ℕ, zero, suc, ◌+◌, ◌/◌, ◌%◌, ◌≡◌, Bool, true, false, not, cond, ◌&&◌, List, [], ◌∷◌, ◌++◌}
use Rattle.std.specs.Prelude.{ltb, eqb, ℤ, pos, negsuc}
use Prim.Native.Char.{code}
use Prim.Native.String.{String, len, char_at}

-- ── texts ──

-- the letter of a text at a place, and 0 past its end
unfoldable pub letter : String → ℕ → ℕ
letter s i = cond (ltb i (len s)) (code (char_at s i)) 0

-- n of its letters, from a place on
unfoldable pub letters : ℕ → ℕ → String → List ℕ
letters zero i s = []
letters (suc n) i s = letter s i ∷ letters n (suc i) s

-- the text
unfoldable pub text_of : String → List ℕ
text_of s = letters (len s) 0 s

-- the text, then zeros: n bytes in all
unfoldable pub padded : ℕ → String → List ℕ
padded n s = letters n 0 s

-- are the bytes the same?
unfoldable pub same : List ℕ → List ℕ → Bool
same [] [] = true
same [] (y ∷ ys) = false
same (x ∷ xs) [] = false
same (x ∷ xs) (y ∷ ys) = eqb x y && same xs ys

-- ── numerals ──

-- a digit below sixteen: 0 to 9, a to f
abbrev pub glyph_of : ℕ → ℕ
glyph_of d = cond (ltb d 10) (48 + d) (87 + d)

-- the last k digits of n in a base, without leading zeros: none for 0
unfoldable pub last_of : ℕ → ℕ → ℕ → List ℕ
last_of base zero n = []
last_of base (suc k) n = cond (eqb n 0) [] (last_of base k (n / base) ++ (glyph_of (n % base) ∷ []))

-- n in a base without leading zeros; 0 is one digit. Twenty digits are enough for any number below 2^64 in the bases
-- ten and sixteen
unfoldable pub numeral_of : ℕ → ℕ → List ℕ
numeral_of base n = last_of base 19 (n / base) ++ (glyph_of (n % base) ∷ [])

-- a signed number in decimal, with a minus sign before a negative one
unfoldable pub decimal_of : ℤ → List ℕ
decimal_of (pos n) = numeral_of 10 n
decimal_of (negsuc n) = 45 ∷ numeral_of 10 (suc n)

-- 0x and lower-case hex without leading zeros
unfoldable pub address_of : ℕ → List ℕ
address_of a = 48 ∷ 120 ∷ numeral_of 16 a

-- ── columns ──

-- the low k hex digits of n
unfoldable pub hex_of : ℕ → ℕ → List ℕ
hex_of zero n = []
hex_of (suc k) n = hex_of k (n / 16) ++ (glyph_of (n % 16) ∷ [])

-- ── names ──

-- the bytes before the first zero
unfoldable pub before_zero : List ℕ → List ℕ
before_zero [] = []
before_zero (b ∷ bs) = cond (eqb b 0) [] (b ∷ before_zero bs)

-- ── lines ──

abbrev pub newline : ℕ
newline = 10

-- no byte of the text is this one
unfoldable pub without : ℕ → List ℕ → Bool
without c [] = true
without c (b ∷ bs) = not (eqb b c) && without c bs

-- a byte before the first line; where there is no line, it is one
abbrev pub longer : ℕ → List (List ℕ) → List (List ℕ)
longer b [] = (b ∷ []) ∷ []
longer b (l ∷ ls) = (b ∷ l) ∷ ls

-- the lines of a text, each with its newline; bytes after the last newline are a line too
unfoldable pub lines_of : List ℕ → List (List ℕ)
lines_of [] = []
lines_of (b ∷ bs) = cond (eqb b newline) ((newline ∷ []) ∷ lines_of bs) (longer b (lines_of bs))

-- one line: a text without a newline, and a newline
pub record OneLine (l : List ℕ) : Type 0 where
  pub text : List ℕ
  pub is : l ≡ text ++ (newline ∷ [])
  pub clear : without newline text ≡ true
