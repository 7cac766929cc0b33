-- What specs/Theorems.antt states, proved.
use Prim.Native.Nat.{ℕ, ◌<◌, ◌≤◌}
use mathlib.Core.Path.{◌≡◌, sym, ap, ◌∙◌}
use mathlib.Core.Bool.{Bool}
use mathlib.Core.List.{List, ◌++◌}
use native.Mathlib.Nat.{le_antisymm}
use native.Mathlib.Omega.{arith}
use lib.ListN.{length, length-append}
use lib.Seq.{take_at}
use Rattle.word.specs.Word.{words}
use Rattle.reading.specs.declared.Decoded.{Decoded}
use Rattle.classes.specs.Decoded.{decoded_of}
use Rattle.record.specs.Record.{size, record_of}
use Rattle.record.proofs.Proved.{record_long}
use Rattle.calmuredda.specs.Boundary.{answer, HasRecord, EncodesRecord, short, smallest, no_word}
use Rattle.calmuredda.specs.Theorems.{Theorems}
use Rattle.calmuredda.proofs.Encoded.{has_answer}

one : (l : List ℕ) (va : ℕ) (wide : Bool) (r s : ℕ) → EncodesRecord l va wide r → EncodesRecord l va wide s → r ≡ s
one l va wide r s (short h e) (short k f) = e ∙ sym f
one l va wide r s (short h e) (smallest k v f b m) = absurd (omega (arith, h, k))
one l va wide r s (short h e) (no_word k f m) = absurd (omega (arith, h, k))
one l va wide r s (smallest h w e a n) (short k f) = absurd (omega (arith, h, k))
one l va wide r s (smallest h w e a n) (smallest k v f b m) = e ∙ ap (answer 0) (le_antisymm (n v b) (m w a)) ∙ sym f
one l va wide r s (smallest h w e a n) (no_word k f m) = absurd (m w a)
one l va wide r s (no_word h e n) (short k f) = absurd (omega (arith, h, k))
one l va wide r s (no_word h e n) (smallest k v f b m) = absurd (n v b)
one l va wide r s (no_word h e n) (no_word k f m) = e ∙ sym f

restored : (w va : ℕ) (wide : Bool) (after : List ℕ) (r : ℕ) → w < words → (decoded_of w va wide).number ≡ 0 → EncodesRecord (record_of (decoded_of w va wide) ++ after) va wide r →
    (v : ℕ) × (r ≡ answer 0 v) × (v ≤ w) × (decoded_of v va wide ≡ decoded_of w va wide)
restored w va wide after r small z k = go k
  where
    d : Decoded
    d = decoded_of w va wide

    l : List ℕ
    l = record_of d ++ after

    enough : size ≤ length l
    enough = rw (length-append (record_of d) after) (omega (arith, record_long d))

    mine : HasRecord l va wide w
    mine = record { small = small; accepted = z; packed = sym (take_at (record_of d) after size (record_long d)) }

    go : EncodesRecord l va wide r → (v : ℕ) × (r ≡ answer 0 v) × (v ≤ w) × (decoded_of v va wide ≡ d)
    go (short h e) = absurd (omega (arith, h, enough))
    go (smallest h v e a n) = (v, e, n w mine, sym (has_answer l va wide v a) ∙ has_answer l va wide w mine)
    go (no_word h e n) = absurd (n w mine)

pub theorems : Theorems
theorems = record { one = one; restored = restored }
