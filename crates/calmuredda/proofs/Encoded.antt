-- From what the encoder answers to the reading in a record, to what the record gets.
use Rattle.inverse.specs.Encoded.{Encoded, Has, Encodes}
use Prim.Native.Nat.{ℕ, ◌≤◌}
use mathlib.Core.Path.{◌≡◌, refl, sym, ap, ◌∙◌}
use mathlib.Core.Bool.{Bool, true, false, cond}
use mathlib.Core.List.{List, ◌++◌}
use native.Mathlib.Omega.{arith}
use lib.Dec.{ltb}
use lib.ListN.{length, drop, take-append-drop}
use borrow.Author.Tests.{ltb-true, ltb-false}
use Rattle.reading.specs.declared.Insn.{Insn}
use Rattle.reading.specs.declared.Decoded.{Decoded}
use Rattle.reading.specs.Reading.{refused_of, accepted_as}
use Rattle.classes.specs.Decoded.{decoded_of}
use Rattle.inverse.specs.Encoded as encoded
use Rattle.record.specs.Record.{size, record_of}
use Rattle.record.specs.Unpacked.{insn_in, is_record, unpacked}
use Rattle.record.proofs.Accepted.{proper}
use Rattle.record.proofs.Proved.{answer_back, theorems}
use Rattle.calmuredda.specs.Boundary.{answer, HasRecord, EncodesRecord, short, smallest, no_word}

module _ (l : List ℕ) (va : ℕ) (wide : Bool) where
  -- a word with this record is answered as the record is unpacked
  pub has_answer : (v : ℕ) → HasRecord l va wide v → unpacked l ≡ decoded_of v va wide
  has_answer v h =
      let d : Decoded = decoded_of v va wide in
      let whole : record_of d ++ drop size l ≡ l = ap (λ (x : List ℕ). x ++ drop size l) h.packed ∙ take-append-drop size l in
      ap unpacked (sym whole) ∙ answer_back d h.accepted (proper v va wide) (drop size l)

  -- what is not unpacked: too few bytes, or no reading's record
  pub refused : (d : Decoded) → unpacked l ≡ d → ¬ (d.number ≡ 0) → EncodesRecord l va wide (answer d.number 0)
  refused d e k = go (ltb (length l) size) (is_record l) refl e
    where
      none : (v : ℕ) → ¬ HasRecord l va wide v
      none v h = k (ap (λ (x : Decoded). x.number) (sym e ∙ has_answer v h) ∙ h.accepted)

      go : (s t : Bool) → ltb (length l) size ≡ s → cond s (refused_of 16) (cond t (accepted_as (insn_in l)) (refused_of 9)) ≡ d → EncodesRecord l va wide (answer d.number 0)
      go true t p f = short (ltb-true (length l) size p) (ap (λ (x : Decoded). answer x.number 0) (sym f))
      go false true p f = absurd (k (ap (λ (x : Decoded). x.number) (sym f)))
      go false false p f = no_word (ltb-false (length l) size p) (ap (λ (x : Decoded). answer x.number 0) (sym f)) none

  -- enough bytes, since a reading came of them
  enough : (i : Insn) → unpacked l ≡ accepted_as i → size ≤ length l
  enough i e = go (ltb (length l) size) (is_record l) refl e
    where
      go : (s t : Bool) → ltb (length l) size ≡ s → cond s (refused_of 16) (cond t (accepted_as (insn_in l)) (refused_of 9)) ≡ accepted_as i → size ≤ length l
      go true t p f = absurd (let z : 16 ≡ 0 = ap (λ (d : Decoded). d.number) f in omega (arith, z))
      go false t p f = ltb-false (length l) size p

  -- the reading's smallest word is the record's
  pub unpacked_to : (i : Insn) (e : Encoded) → unpacked l ≡ accepted_as i → Encodes (λ w. decoded_of w va wide) i e → EncodesRecord l va wide (answer e.number e.word)
  unpacked_to i e u k = go k
    where
      has : (v : ℕ) → HasRecord l va wide v → Has (λ w. decoded_of w va wide) i v
      has v h = record { small = h.small; reads = sym (has_answer v h) ∙ u }

      its : Has (λ w. decoded_of w va wide) i e.word → HasRecord l va wide e.word
      its h = record { small = h.small; accepted = ap (λ (d : Decoded). d.number) h.reads; packed = ap record_of h.reads ∙ theorems.forth l i u }

      go : Encodes (λ w. decoded_of w va wide) i e → EncodesRecord l va wide (answer e.number e.word)
      go (encoded.smallest z h m) = smallest (enough i u) e.word (ap (λ (n : ℕ). answer n e.word) z) (its h) (λ v r. m v (has v r))
      go (encoded.no_word z o m) = no_word (enough i u) (λ t. answer (z t) (o t)) (λ v r. m v (has v r))
