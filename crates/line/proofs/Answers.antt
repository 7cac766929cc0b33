-- What printing answers and writes in each of its three cases.
use Prim.Native.Nat.{ℕ, ◌≤◌, ◌<◌}
use mathlib.Core.Path.{◌≡◌}
use mathlib.Core.Bool.{true, false, ◌&&◌}
use mathlib.Core.List.{List, []}
use lib.Dec.{ltb, leb, leb→le}
use lib.ListN.{length}
use borrow.Author.Tests.{le-leb, lt-leb}
use Rattle.refusal.specs.Numbers as refusal
use Rattle.reading.specs.declared.Insn.{Insn}
use Rattle.reading.specs.Kind.{many}
use Rattle.laws.proofs.Tests.{and_l, and_r, at_true}
use Rattle.line.specs.Line.{Spelling, used, line_of, all_registered, printable, print_number, printed, printed_of}

-- the number n is the answer, and l is written
pub record Answers (σ : Spelling) (i : Insn) (room n : ℕ) (l : List ℕ) : Type 0 where
  pub number : print_number σ i room ≡ n
  pub bytes : printed σ i room ≡ l

pub answer : {σ : Spelling} {i : Insn} {room n : ℕ} {l : List ℕ} {k : ℕ} → Answers σ i room n l → k ≡ length l →
    record { number = n; length = k } ≡ printed_of σ i room
answer a e = rw (a.number, a.bytes, e)

module _ (σ : Spelling) (i : Insn) (room : ℕ) where
  pub no_line : printable i ≡ false → Answers σ i room refusal.no_line []
  unfolding print_number printed
  no_line p = record { number = rw p; bytes = rw p }

  pub no_room : printable i ≡ true → room < length (line_of σ i) → Answers σ i room refusal.no_room []
  unfolding print_number printed
  no_room p h =
      let e = lt-leb (length (line_of σ i)) room h in
      record { number = rw (p, e); bytes = rw (p, e) }

  pub fits : printable i ≡ true → length (line_of σ i) ≤ room → Answers σ i room 0 (line_of σ i)
  unfolding print_number printed
  fits p h =
      let e = le-leb (length (line_of σ i)) room h in
      record { number = rw (p, e); bytes = rw (p, e) }

-- what has a line has at most four operands
pub few : (i : Insn) → printable i ≡ true → i.count ≤ 4
unfolding printable
few i e =
    leb→le i.count 4
    (and_l (leb i.count 4) (all_registered (used i))
    (and_r (ltb i.mnemonic many) (leb i.count 4 && all_registered (used i)) (at_true e)))
