-- WHICH WORD A READING GETS. How words are answered at an address and under a width flag is a parameter: for the
-- decoder it is λ w. decoded_of w va wide.
use Rattle.std.specs.Prelude.{ℕ, ◌<◌, ◌≤◌, ◌≡◌, Result, Ok, Err}
use Rattle.refusal.specs.Numbers as refusal
use Rattle.word.specs.Word.{words}
use Rattle.reading.specs.declared.Insn.{Insn}
use Rattle.reading.specs.declared.Decoded.{Decoded}
use Rattle.refusal.specs.declared.Refusal.{Refusal}
use Rattle.refusal.specs.Refusals.{number_of}
use Rattle.reading.specs.Reading.{accepted_as}

-- the word is accepted, and this is its reading
pub record Has (answer : ℕ → Decoded) (i : Insn) (w : ℕ) : Type 0 where
  pub small : w < words
  pub reads : answer w ≡ accepted_as i

-- what encoding a reading gives: 0 and the word, or the refusal number and word 0
pub record Encoded : Type 0 where
  pub number : ℕ
  pub word : ℕ

abbrev pub encoded_as : ℕ → Encoded
encoded_as w = record { number = 0; word = w }

-- an encoder's answer in that number and word
abbrev pub encoding_of : Result ℕ Refusal → Encoded
encoding_of (Ok w) = encoded_as w
encoding_of (Err r) = record { number = number_of r; word = 0 }

-- number 0 and the smallest word that has the reading, or a refusal and word 0 if no word has it
pub data Encodes (answer : ℕ → Decoded) (i : Insn) (e : Encoded) : Type 0 where
  smallest : e.number ≡ 0 → Has answer i e.word → ((w : ℕ) → Has answer i w → e.word ≤ w) → Encodes answer i e
  no_word : e.number ≡ refusal.no_word → e.word ≡ 0 → ((w : ℕ) → ¬ Has answer i w) → Encodes answer i e
