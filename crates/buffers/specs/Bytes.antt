-- Bytes that a caller lends: what a writer leaves of them, and a number as bytes.
use Rattle.std.specs.Prelude.{ℕ, zero, suc, ◌+◌, ◌*◌, ◌/◌, ◌%◌, cond, List, [], ◌∷◌, ◌++◌, leb, length, take, drop}

-- d with the bytes l from its start on, and as before after them
abbrev pub over : List ℕ → List ℕ → List ℕ
over l d = l ++ drop (length l) d

-- d with the bytes l from place `at` on, and as before elsewhere
abbrev pub over_at : ℕ → List ℕ → List ℕ → List ℕ
over_at at l d = take at d ++ l ++ drop (at + length l) d

-- the same where they have room, else d as it was
abbrev pub placed : ℕ → List ℕ → List ℕ → List ℕ
placed at l d = cond (leb (at + length l) (length d)) (over_at at l d) d

-- bytes that have this much room; else none
abbrev pub whole : List ℕ → ℕ → List ℕ
whole l room = cond (leb (length l) room) l []

-- the low k bytes of n, the lowest first
abbrev pub low_bytes : ℕ → ℕ → List ℕ
low_bytes zero n = []
low_bytes (suc k) n = n % 256 ∷ low_bytes k (n / 256)

-- the number that bytes give, the lowest first
abbrev pub num : List ℕ → ℕ
num [] = 0
num (b ∷ bs) = b + 256 * num bs

-- the number in the k bytes from place `at` on, and 0 where there are fewer
abbrev pub num_at : ℕ → ℕ → List ℕ → ℕ
num_at k at l = cond (leb (at + k) (length l)) (num (take k (drop at l))) 0
