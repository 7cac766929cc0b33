-- The reading of every word of a body has a line, and its text is short in every spelling within its limits.
use Prim.Native.Nat.{ℕ, ◌*◌, ◌≤◌}
use mathlib.Core.Bool.{Bool, true, false, cond}
use mathlib.Core.List.{List, [], ◌∷◌, ◌++◌}
use native.Mathlib.Omega.{arith}
use lib.ListN.{length, drop, length-append}
use Rattle.reading.specs.declared.Decoded.{Decoded}
use Rattle.reading.specs.Reading.{refused_of}
use Rattle.word.specs.Numbers.{word_in}
use Rattle.decode.specs.Bytes.{decoded_in}
use Rattle.text.specs.Text.{letters, text_of, numeral_of}
use Rattle.text.proofs.Lengths.{numeral_most}
use Rattle.line.specs.Line.{Spelling, line_of, longest, Within}
use Rattle.line.proofs.Readable.{blank_printable, readable}
use Rattle.body.specs.declared.View.{View}
use Rattle.body.specs.Body.{address_at, decoded_at, is_refused}
use Rattle.pages.specs.Page.{answer_text}
use Rattle.pages.specs.Private.Steps.{Answers}
use Rattle.line.proofs.Short.{blank_short, short}

module _ {σ : Spelling} (s : Within σ) where
  blank : Answers σ (refused_of 1)
  blank = record { lined = blank_printable; short = blank_short σ }

  pub answers : (v : View) (body : List ℕ) (n : ℕ) → Answers σ (decoded_at v body n)
  unfolding decoded_at
  answers v body n = go (drop (4 * n) body)
    where
      go : (l : List ℕ) → Answers σ (decoded_in l (address_at v n) v.big_endian v.wide)
      go [] = blank
      go (a ∷ []) = blank
      go (a ∷ b ∷ []) = blank
      go (a ∷ b ∷ c ∷ []) = blank
      go (a ∷ b ∷ c ∷ d ∷ l) =
          let w : ℕ = word_in v.big_endian (a ∷ b ∷ c ∷ d ∷ []) in
          record { lined = readable w (address_at v n) v.wide; short = short s w (address_at v n) v.wide }

  -- the line, or `refused` and a number
  pub answer_most : (v : View) (body : List ℕ) (n : ℕ) → length (answer_text σ (decoded_at v body n)) ≤ longest
  unfolding answer_text text_of letters
  answer_most v body n = go (is_refused d)
    where
      d : Decoded
      d = decoded_at v body n

      go : (b : Bool) → length (cond b (text_of "refused " ++ numeral_of 10 d.number) (line_of σ d.insn)) ≤ longest
      go true = simp length-append (omega (arith, numeral_most 10 d.number))
      go false = (answers v body n).short
