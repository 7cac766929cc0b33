-- Signed numbers: n bits as two's complement, and as std casts them; multiples of an immediate as the code works them
-- out; a size; what fits 64 bits.
use Rattle.std.proofs.Common.{◌≡◌, ℕ, zero, suc, ◌+◌, ◌-◌, ◌*◌, ◌/◌, ◌%◌, ◌^◌, ◌<◌, ◌≤◌, Bool, true, false, cond, ltb, ℤ, pos, negsuc, ◌+ℤ◌, ◌-ℤ◌, ◌*ℤ◌, neg_ℤ, sym, refl, ap, ◌∙◌, subst, lt_of_le_of_lt, mul-le-mul_left, arith, to_z-of_z, w64, SFits, to_z, of_z, ltb-false, ltb-true, le-ltb, lt-ltb}
use lib.IntN.{sub_ℕ}
use lib.Signed.{mag}
use mir.Syntax.{Width, w16, w32}
use mir.Val.{bits, hbits}
use Rattle.word.specs.Facts.{TwosComplement}
use Rattle.word.specs.Numbers.{signed, modulo64, branch_to, jump_to, upper, size_of}

-- ── differences of numbers ──

pub sub_is : (a b : ℕ) → pos a -ℤ pos b ≡ sub_ℕ a b
sub_is a zero = rw (le-ltb a 0 (omega arith)) (ap pos (omega arith))
sub_is a (suc b) = refl

pub sub_more : (a b : ℕ) → a < b → sub_ℕ a b ≡ negsuc (b - (a + 1))
sub_more a b h = rw (lt-ltb a b h) (ap negsuc (omega arith))

pub sub_less : (a b : ℕ) → b ≤ a → sub_ℕ a b ≡ pos (a - b)
sub_less a b h = rw (le-ltb a b h)

-- ── n bits as two's complement ──

module _ (n : ℕ) (halves : 2 ^ n ≡ 2 ^ (n - 1) + 2 ^ (n - 1)) where
  signed_low : (u : ℕ) → u < 2 ^ (n - 1) → signed n u ≡ pos u
  unfolding signed
  signed_low u h = rw (lt-ltb u (2 ^ (n - 1)) h)

  signed_high : (u : ℕ) → 2 ^ (n - 1) ≤ u → u < 2 ^ n → signed n u ≡ negsuc (2 ^ n - (u + 1))
  unfolding signed
  signed_high u h l = rw (le-ltb u (2 ^ (n - 1)) h) (sub_is u (2 ^ n) ∙ sub_more u (2 ^ n) l)

  pub twos_complement : TwosComplement n
  twos_complement =
      record {
        upward = signed_low;
        downward = λ k h. signed_high (2 ^ n - (k + 1)) (omega arith) (omega arith) ∙ ap negsuc (omega arith);
      }

-- the same for sixteen bits, in the numbers that the code has
pub low16 : (u : ℕ) → u < 32768 → signed 16 u ≡ pos u
low16 = signed_low 16 refl

pub high16 : (u : ℕ) → 32768 ≤ u → u < 65536 → signed 16 u ≡ negsuc (65535 - u)
high16 u h l = signed_high 16 refl u h l ∙ ap negsuc (omega arith)

-- either way of an immediate
pub by_sign : (P : ℤ → Type 0) (u : ℕ) → u < 65536 → (u < 32768 → P (pos u)) → (32768 ≤ u → P (negsuc (65535 - u))) → P (signed 16 u)
by_sign P u h p q = go (ltb u 32768) refl
  where
    go : (b : Bool) → ltb u 32768 ≡ b → P (signed 16 u)
    go true e = let l = ltb-true u 32768 e in rw (low16 u l) (p l)
    go false e = let l = ltb-false u 32768 e in rw (high16 u l h) (q l)

-- ── a multiple of a signed immediate ──

pub neg_pos : (m : ℕ) → 0 < m → neg_ℤ (pos m) ≡ negsuc (m - 1)
neg_pos zero h = absurd (omega arith)
neg_pos (suc m) h = ap negsuc (omega arith)

mag_neg : (m : ℕ) → mag (neg_ℤ (pos m)) ≤ m
mag_neg zero = omega arith
mag_neg (suc m) = omega arith

-- an immediate fits an i64, and so does k times it
pub signed_fits : (u : ℕ) → u < 65536 → SFits w64 (signed 16 u)
signed_fits u h = by_sign (SFits w64) u h (λ l. record { sfits = omega arith }) (λ l. record { sfits = omega arith })

pub times_fits : (k u : ℕ) → k * 65536 < 2 ^ 63 → u < 65536 → SFits w64 (pos k *ℤ signed 16 u)
times_fits k u m h =
    by_sign (λ z. SFits w64 (pos k *ℤ z)) u h
    (λ l. record { sfits = lt_of_le_of_lt (mul-le-mul_left k (omega arith)) m })
    (λ l. record { sfits = lt_of_le_of_lt (mag_neg (k * suc (65535 - u))) (lt_of_le_of_lt (mul-le-mul_left k (omega arith)) m) })

-- an immediate that an i64 holds, times k, as the code works it out
module _ (k u : ℕ) (m : k * 65536 < 2 ^ 63) (h : u < 65536) (z : ℤ) (e : z ≡ signed 16 u) where
  product : pos k *ℤ to_z w64 (of_z w64 z) ≡ pos k *ℤ signed 16 u
  product = ap (λ (y : ℤ). pos k *ℤ y) (to_z-of_z {w = w64} (subst (SFits w64) (sym e) (signed_fits u h)) ∙ e)

  pub product_fits : SFits w64 (pos k *ℤ to_z w64 (of_z w64 z))
  product_fits = subst (SFits w64) (sym product) (times_fits k u m h)

  pub product_held : to_z w64 (of_z w64 (pos k *ℤ to_z w64 (of_z w64 z))) ≡ pos k *ℤ signed 16 u
  product_held = to_z-of_z {w = w64} product_fits ∙ product

-- ── modulo 2^64 ──

-- a sum modulo 2^64, from the numbers modulo 2^64
add_modulo : (a : ℕ) (z : ℤ) → modulo64 (pos a +ℤ z) ≡ (a % 2 ^ 64 + modulo64 z) % 2 ^ 64
add_modulo a (pos n) = omega arith
add_modulo a (negsuc n) = go (ltb a (suc n)) refl
  where
    go : (t : Bool) → ltb a (suc n) ≡ t → modulo64 (cond t (negsuc (suc n - suc a)) (pos (a - suc n))) ≡ (a % 2 ^ 64 + (2 ^ 64 - 1 - n % 2 ^ 64)) % 2 ^ 64
    go true e = omega (arith, ltb-true a (suc n) e)
    go false e = omega (arith, ltb-false a (suc n) e)

pub branch_is : (va u : ℕ) → branch_to va u ≡ ((va + 4) % 2 ^ 64 + modulo64 (pos 4 *ℤ signed 16 u)) % 2 ^ 64
unfolding branch_to
branch_is va u = add_modulo (va + 4) (pos 4 *ℤ signed 16 u)

-- ── the size of `ins` ──

plus_one : (a b : ℕ) → sub_ℕ a b +ℤ pos 1 ≡ sub_ℕ (a + 1) b
plus_one a b = go (ltb a b) (ltb (a + 1) b) refl refl
  where
    go : (t s : Bool) → ltb a b ≡ t → ltb (a + 1) b ≡ s → cond t (negsuc (b - suc a)) (pos (a - b)) +ℤ pos 1 ≡ cond s (negsuc (b - suc (a + 1))) (pos (a + 1 - b))
    go true true e d = sub_more 1 (suc (b - suc a)) (omega (arith, ltb-true (a + 1) b d)) ∙ ap negsuc (omega arith)
    go true false e d = sub_less 1 (suc (b - suc a)) (omega (arith, ltb-false (a + 1) b d)) ∙ ap pos (omega (arith, ltb-true a b e, ltb-false (a + 1) b d))
    go false true e d = absurd (omega (arith, ltb-false a b e, ltb-true (a + 1) b d))
    go false false e d = ap pos (omega (arith, ltb-false a b e))

pub size_is : (msb lsb : ℕ) → size_of msb lsb ≡ sub_ℕ (msb + 1) lsb
unfolding size_of
size_is msb lsb = ap (λ (z : ℤ). z +ℤ pos 1) (sub_is msb lsb) ∙ plus_one msb lsb

-- ── in an i64 ──

-- the difference of two numbers that fit
mag_sub : (a b : ℕ) → mag (sub_ℕ a b) ≤ a + b
mag_sub a b = go (ltb a b)
  where
    go : (t : Bool) → mag (cond t (negsuc (b - suc a)) (pos (a - b))) ≤ a + b
    go true = omega arith
    go false = omega arith

sub_fits : (a b : ℕ) → a < 2 ^ 62 → b < 2 ^ 62 → SFits w64 (sub_ℕ a b)
sub_fits a b p q = record { sfits = lt_of_le_of_lt (mag_sub a b) (omega arith) }

pub size_fits : (msb lsb : ℕ) → msb < 64 → lsb < 64 → SFits w64 (size_of msb lsb)
size_fits msb lsb p q = rw (size_is msb lsb) (sub_fits (msb + 1) lsb (omega arith) (omega arith))

-- bits as a signed number, at each width
module _ (w : Width) (n : ℕ) (halves : 2 ^ n ≡ 2 ^ (n - 1) + 2 ^ (n - 1)) (size : 2 ^ bits w ≡ 2 ^ n) (half : 2 ^ hbits w ≡ 2 ^ (n - 1)) where
  as_signed : (v : ℕ) → v < 2 ^ n → to_z w v ≡ signed n v
  unfolding signed
  as_signed v h = rw (size, half) (grind arith)

pub i16_is : (v : ℕ) → v < 2 ^ 16 → to_z w16 v ≡ signed 16 v
i16_is = as_signed w16 16 refl refl refl

pub i32_is : (v : ℕ) → v < 2 ^ 32 → to_z w32 v ≡ signed 32 v
i32_is = as_signed w32 32 refl refl refl

pub signed_is : (v : ℕ) → v < 2 ^ 64 → to_z w64 v ≡ signed 64 v
signed_is = as_signed w64 64 refl refl refl

-- and back from the 64 bits of one
pub modulo_back : (z : ℤ) → SFits w64 z → signed 64 (modulo64 z) ≡ z
modulo_back (pos n) f = ap (signed 64) (omega (arith, f.sfits)) ∙ (twos_complement 64 refl).upward n f.sfits
modulo_back (negsuc n) f = ap (signed 64) (omega (arith, f.sfits)) ∙ (twos_complement 64 refl).downward n f.sfits

-- ── addresses have 64 bits ──

pub modulo_small : (z : ℤ) → modulo64 z < 2 ^ 64
modulo_small (pos n) = omega arith
modulo_small (negsuc n) = omega arith

pub branch_small : (va u : ℕ) → branch_to va u < 2 ^ 64
unfolding branch_to
branch_small va u = modulo_small (pos (va + 4) +ℤ pos 4 *ℤ signed 16 u)

pub jump_small : (va i : ℕ) → i < 67108864 → jump_to va i < 2 ^ 64
unfolding jump_to
jump_small va i h =
    let q : ℕ = (va + 4) % 2 ^ 64 / 2 ^ 28 in
    let k : q < 2 ^ 36 = omega arith in
    omega (arith, h, k)

pub upper_small : (u : ℕ) → upper u < 2 ^ 64
unfolding upper
upper_small u = modulo_small (signed 32 (u * 65536))
