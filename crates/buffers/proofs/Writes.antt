-- A row of writes is one write.
use mathlib.Core.Path.{◌≡◌, refl, sym, ap, ◌∙◌}
use mathlib.Core.List.{List, [], ◌++◌}
use Prim.Native.Nat.{ℕ, ◌+◌, ◌≤◌}
use native.Mathlib.Nat.{zero-add}
use native.Mathlib.Omega.{arith}
use lib.ListN.{length, take, drop, length-append}
use lib.Seq.{take_at}
use Rattle.buffers.specs.Bytes.{over_at, placed}
use Rattle.buffers.proofs.Laws.{placed_in, row_at, over_at_length, over_nothing}
use Rattle.buffers.specs.Writes.{Wrote}

-- what a writer that takes any place says, where there was room
pub wrote : {at m : ℕ} {l d d' : List ℕ} {n : ℕ} → length l ≤ m → at + length l ≤ length d → n ≡ length l →
    d' ≡ placed at l d → Wrote at m l d d' (at + n)
wrote {at} {m} {l} {d} {d'} {n} h room e w =
    record { after = ap (λ (x : ℕ). at + x) e; short = omega (arith, h, e); bytes = w ∙ placed_in at l d room }

-- the same from the start on
pub first : {m : ℕ} {l d d' : List ℕ} {n : ℕ} → length l ≤ m → length l ≤ length d → n ≡ length l →
    d' ≡ placed 0 l d → Wrote 0 m l d d' n
first {m} {l} {d} {d'} {n} h room e w =
    record { after = omega arith; short = omega arith; bytes = w ∙ placed_in 0 l d (omega arith) }

-- nothing
pub nothing : {at m : ℕ} {d : List ℕ} → Wrote at m [] d d at
nothing {at} {m} {d} = record { after = omega arith; short = omega arith; bytes = sym (over_nothing at d) }

-- another bound
pub bound : {m at m₀ r : ℕ} {l d d' : List ℕ} → r ≤ at + m → Wrote at m₀ l d d' r → Wrote at m l d d' r
bound h w = record { after = w.after; short = h; bytes = w.bytes }

-- one write after another
pub after : {at m₁ m₂ p r : ℕ} {l₁ l₂ d d₁ d₂ : List ℕ} → Wrote at m₁ l₁ d d₁ p → Wrote p m₂ l₂ d₁ d₂ r →
    at ≤ length d → Wrote at (m₁ + m₂) (l₁ ++ l₂) d d₂ r
after {at} {m₁} {m₂} {p} {r} {l₁} {l₂} {d} {d₁} {d₂} a b h =
    record {
      after = simp length-append (omega arith);
      short = omega arith;
      bytes = b.bytes ∙ ap (over_at p l₂) a.bytes ∙ row_at at p l₁ l₂ d (sym a.after) h;
    }

-- the first r bytes are what was written from the start on
pub front : {m r : ℕ} {l d d' : List ℕ} → Wrote 0 m l d d' r → take r d' ≡ l
front {m} {r} {l} {d} {d'} w = rw (w.bytes, w.after, zero-add (length l)) (take_at l (drop (length l) d) (length l) refl)

-- no byte is added or lost
pub kept : {at m r : ℕ} {l d d' : List ℕ} → Wrote at m l d d' r → at + length l ≤ length d → length d' ≡ length d
kept {at} {m} {r} {l} {d} {d'} w h = ap length w.bytes ∙ over_at_length at l d h
