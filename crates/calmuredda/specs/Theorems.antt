-- WHAT IS PROVED OF THE BOUNDARY. The proofs are in proofs/Proved.antt.
use Rattle.std.specs.Prelude.{ℕ, ◌<◌, ◌≤◌, ◌≡◌, Bool, List, ◌++◌}
use Rattle.word.specs.Word.{words}
use Rattle.classes.specs.Decoded.{decoded_of}
use Rattle.record.specs.Record.{record_of}
use Rattle.calmuredda.specs.Boundary.{answer, EncodesRecord}

pub record Theorems : Type 0 where
  -- two answers of the encoder that both meet its contract are equal
  pub one : (l : List ℕ) (va : ℕ) (wide : Bool) (r s : ℕ) →
      EncodesRecord l va wide r → EncodesRecord l va wide s → r ≡ s
  -- the record of an accepted word, whatever comes after it, is encoded to a word with that record, no larger than the
  -- first
  pub restored : (w va : ℕ) (wide : Bool) (after : List ℕ) (r : ℕ) → w < words → (decoded_of w va wide).number ≡ 0 →
      EncodesRecord (record_of (decoded_of w va wide) ++ after) va wide r →
      (v : ℕ) × (r ≡ answer 0 v) × (v ≤ w) × (decoded_of v va wide ≡ decoded_of w va wide)
