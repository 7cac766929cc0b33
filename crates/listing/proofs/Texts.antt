-- The lines without a word, as the code writes them.
use Prim.Native.Nat.{ℕ, ◌+◌, ◌≤◌, ◌<◌}
use mathlib.Core.Path.{◌≡◌, refl}
use mathlib.Core.List.{List, [], ◌∷◌, ◌++◌}
use native.Mathlib.Omega.{arith}
use mathlib.Core.Bool.{Bool, true, false, cond}
use lib.Dec.{eqb}
use lib.ListN.{length, length-append}
use Rattle.buffers.specs.Bytes.{placed}
use Rattle.buffers.specs.Writes.{Wrote}
use Rattle.buffers.proofs.Writes.{wrote, after, kept}
use Rattle.text.specs.Text.{newline, letter, letters, text_of, numeral_of}
use Rattle.section.specs.Section.{checked, count_of}
use Rattle.listing.specs.Swept.{word_count, counted, head_line, total_line, refused_line}
use Rattle.listing.specs.Piece.{last_line}
use Rattle.listing.specs.Private.Steps.{refused_with, Totals}

pub head_is : (f : List ℕ) (n w : ℕ) → w ≡ word_count f n →
    counted (115 ∷ 101 ∷ 99 ∷ 116 ∷ 105 ∷ 111 ∷ 110 ∷ 32 ∷ []) n (32 ∷ 119 ∷ 111 ∷ 114 ∷ 100 ∷ 115 ∷ 32 ∷ []) w ≡
    head_line f n
unfolding head_line text_of letters letter
head_is f n w e = rw e

pub total_is : (f : List ℕ) (w r : ℕ) → Totals f (count_of f) w r →
    counted (119 ∷ 111 ∷ 114 ∷ 100 ∷ 115 ∷ 32 ∷ []) w (32 ∷ 114 ∷ 101 ∷ 102 ∷ 117 ∷ 115 ∷ 101 ∷ 100 ∷ 32 ∷ []) r ≡
    total_line f
unfolding total_line text_of letters letter
total_is f w r t = rw (t.words_are, t.refused_are)

pub refused_is : (m n : ℕ) → m ≡ n →
    (102 ∷ 105 ∷ 108 ∷ 101 ∷ 32 ∷ 114 ∷ 101 ∷ 102 ∷ 117 ∷ 115 ∷ 101 ∷ 100 ∷ 32 ∷ [])
    ++ numeral_of 10 m ++ (newline ∷ []) ≡ refused_with n
unfolding text_of letters letter
refused_is m n e = rw e

-- a newline after what was written
pub line_ended : {m q : ℕ} {l d d₁ d₂ : List ℕ} → m + 1 ≤ length d → Wrote 0 m l d d₁ q →
    d₂ ≡ placed q (newline ∷ []) d₁ → Wrote 0 (m + 1) (l ++ (newline ∷ [])) d d₂ (q + 1)
line_ended {m} {q} {l} {d} {d₁} {d₂} h u e =
    let k : length d₁ ≡ length d = kept u (omega (arith, u.after, u.short)) in
    let v : Wrote q 1 (newline ∷ []) d₁ d₂ (q + 1) = wrote (omega arith) (omega (arith, u.short)) refl e in
    after u v (omega arith)

-- none of them is empty

pub head_some : (f : List ℕ) (n : ℕ) → 0 < length (head_line f n)
unfolding head_line
head_some f n = simp length-append (omega arith)

pub last_some : (f : List ℕ) → 0 < length (last_line f)
unfolding last_line total_line refused_line
last_some f = go (eqb (checked f) 0)
  where
    go : (b : Bool) → 0 < length (cond b (total_line f) (refused_line f))
    go true = simp length-append (omega arith)
    go false = simp length-append (omega arith)
