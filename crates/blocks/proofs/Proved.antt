-- What specs/Theorems.antt states, proved.
use Prim.Native.Nat.{ℕ, zero, suc, ◌+◌, ◌-◌, ◌≤◌, ◌<◌}
use mathlib.Core.Path.{◌≡◌, sym, ap, ◌∙◌}
use mathlib.Core.List.{List}
use native.Mathlib.Decide.{dec_le, dec_lt}
use native.Mathlib.Omega.{arith}
use borrow.Author.Tests.{lt-ltb, le-ltb}
use Rattle.body.specs.declared.View.{View}
use Rattle.body.specs.Body.{words_in}
use Rattle.blocks.specs.Block.{Ended, block, block_from, block_of}
use Rattle.blocks.specs.Private.Steps.{step_of}
use Rattle.blocks.specs.Theorems.{Theorems}
use Rattle.blocks.proofs.Blocks.{step_within, ends_here, goes_on}

-- a block on k words: it has no more, and one of the four ends
record Block (k : ℕ) (b : Ended) : Type 0 where
  words : b.words ≤ k
  low : 1 ≤ b.kind
  high : b.kind ≤ 4

block_from_lem : (v : View) (body : List ℕ) (k n : ℕ) → Block k (block_from v body k n)
unfolding block_from
block_from_lem v body zero n = record { words = omega arith; low = omega arith; high = omega arith }
block_from_lem v body (suc k) n = go (dec_le 1 (step_of v body k n).kind) (block_from_lem v body k (n + 1))
  where
    go : Dec (1 ≤ (step_of v body k n).kind) → Block k (block_from v body k (n + 1)) →
        Block (suc k) (block_from v body (suc k) n)
    go (yes h) b =
        let w = step_within v body k n in
        rw (ends_here v body k n (λ z. omega arith))
        (record { words = w.words; low = h; high = omega (arith, w.kind) })
    go (no h) b =
        rw (goes_on v body k n (omega arith))
        (record { words = omega (arith, b.words); low = b.low; high = b.high })

module _ (v : View) (body : List ℕ) (n : ℕ) where
  block_in : n < words_in body → block_of v body n ≡ block_from v body (words_in body - n) n
  unfolding block_of
  block_in h = rw (lt-ltb n (words_in body) h)

  block_out : words_in body ≤ n → block_of v body n ≡ block 15 0 0
  unfolding block_of
  block_out h = rw (le-ltb n (words_in body) h)

  pub counted : (block_of v body n).words ≤ words_in body - n
  counted = go (dec_lt n (words_in body))
    where
      go : Dec (n < words_in body) → (block_of v body n).words ≤ words_in body - n
      go (yes h) = rw (block_in h) (block_from_lem v body (words_in body - n) n).words
      go (no h) = rw (block_out (omega arith)) (omega arith)

  pub ended : (block_of v body n).number ≡ 0 → (1 ≤ (block_of v body n).kind) × ((block_of v body n).kind ≤ 4)
  ended = go (dec_lt n (words_in body))
    where
      go : Dec (n < words_in body) → (block_of v body n).number ≡ 0 →
          (1 ≤ (block_of v body n).kind) × ((block_of v body n).kind ≤ 4)
      go (yes h) e = let b = block_from_lem v body (words_in body - n) n in rw (block_in h) (b.low, b.high)
      go (no h) e =
          let z : (block 15 0 0).number ≡ 0 = sym (ap (λ (b : Ended). b.number) (block_out (omega arith))) ∙ e in
          absurd (omega arith)

pub theorems : Theorems
theorems = record { counted = counted; ended = ended }
