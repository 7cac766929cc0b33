-- Numbers as bytes, the lowest first: a number's own bytes. A row of writes is one write (Laws.antt, Writes.antt).
use mathlib.Core.Path.{◌≡◌, refl, ap}
use mathlib.Core.List.{List, ◌∷◌}
use Prim.Native.Nat.{ℕ, zero, suc, ◌+◌, ◌*◌, ◌/◌, ◌%◌, ◌≤◌, ◌<◌}
use native.Mathlib.Nat.{mul_assoc}
use native.Mathlib.Omega.{arith}
use lib.ListN.{length, take, drop}
use borrow.Author.Tests.{le-leb}
use Rattle.buffers.specs.Bytes.{low_bytes, num, num_at}

-- ── a number's own bytes ──

-- k bytes hold a number below 256 ^ k
abbrev pub room : ℕ → ℕ
room zero = 1
room (suc k) = 256 * room k

pub num_le : (k n : ℕ) → n < room k → num (low_bytes k n) ≡ n
num_le zero n h = omega arith
num_le (suc k) n h =
    let e : num (low_bytes k (n / 256)) ≡ n / 256 = num_le k (n / 256) (omega arith) in
    rw e (omega arith)

-- the low k bytes of a number are those of what is left of it modulo 256 ^ k
pub le_low : (k n m : ℕ) → low_bytes k (n + room k * m) ≡ low_bytes k n
le_low zero n m = refl
le_low (suc k) n m = rw (mul_assoc 256 (room k) m) (go (room k * m) (le_low k (n / 256) m))
  where
    go : (q : ℕ) → low_bytes k (n / 256 + q) ≡ low_bytes k (n / 256) → low_bytes (suc k) (n + 256 * q) ≡ low_bytes (suc k) n
    go q h =
        let e : (n + 256 * q) % 256 ≡ n % 256 = omega arith in
        let f : (n + 256 * q) / 256 ≡ n / 256 + q = omega arith in
        rw (e, f) (ap (λ (l : List ℕ). n % 256 ∷ l) h)

-- ── at any place ──

-- the bytes are there
pub in_reach : (k at : ℕ) (l : List ℕ) → at + k ≤ length l → num_at k at l ≡ num (take k (drop at l))
in_reach k at l h = rw (le-leb (at + k) (length l) h)
