-- Operands one by one, as the code goes through them, in any spelling.
use Prim.Native.Nat.{ℕ, ◌+◌, ◌*◌, ◌-◌, ◌≤◌}
use mathlib.Core.Path.{◌≡◌, refl, sym, ap, ◌∙◌}
use mathlib.Core.Bool.{Bool, true, ◌&&◌}
use mathlib.Core.List.{List, [], ◌∷◌, ◌++◌, append-nil, append_assoc}
use native.Mathlib.Omega.{arith}
use lib.ListN.{length, take}
use lib.Seq.{length-take-le}
use Rattle.std.specs.List.{list_all}
use Rattle.reading.specs.declared.Operand.{Operand}
use Rattle.reading.specs.declared.Insn.{Insn}
use Rattle.reading.specs.Names.{name_of}
use Rattle.buffers.specs.Writes.{Wrote}
use Rattle.buffers.proofs.Writes as Writes
use Rattle.text.specs.Text.{letter, letters, text_of}
use Rattle.laws.proofs.Tests.{and_r, at_true, true_of}
use Rattle.line.specs.declared.Draft.{Draft}
use Rattle.line.specs.Line.{Spelling, op_text, listed, used, line_of, registered, all_registered}
use Rattle.line.specs.Line.{longest_mnemonic, longest_operand, longest}
use Rattle.line.specs.Private.Steps.{text_in, Added}
use Rattle.line.proofs.Drafts.{bound, after}

-- they have registers if each of them has
pub all_registered_lem : (os : List Operand) → list_all (λ (o : Operand). registered o.op) os ≡ all_registered os
unfolding all_registered
all_registered_lem [] = refl
all_registered_lem (o ∷ os) = ap (λ (b : Bool). registered o.op && b) (all_registered_lem os)

-- k operands have this many bytes at most: a comma, a space and 26 bytes for each, but the first has a space alone
-- before it
abbrev pub most : ℕ → ℕ
most k = (2 + longest_operand) * k - 1

-- the mnemonic is in d₀; `done` was added to that, which gives d, and with what is left, each with `before` or a comma
-- and a space before it, it is all that is to be added
pub record Turn (σ : Spelling) (i : Insn) (d₀ d : Draft) (before : List ℕ) (left : List Operand) : Type 0 where
  pub slots : length i.ops ≡ 4
  pub four : i.count ≤ 4
  pub name : text_in d₀ ≡ text_of (name_of i.mnemonic)
  pub size₀ : length d₀.bytes ≡ longest
  pub start : d₀.end ≤ longest_mnemonic
  pub high : length left ≤ i.count
  pub done : List ℕ
  pub whole : done ++ listed σ before left ≡ listed σ (text_of " ") (used i)
  pub registers : all_registered (used i) ≡ true → all_registered left ≡ true
  pub added : Added (most (i.count - length left)) done d₀ d
  pub room : d.end + length before + (2 + longest_operand) * length left ≤ d₀.end + 1 + (2 + longest_operand) * i.count

-- the mnemonic is there
pub begins : (σ : Spelling) (i : Insn) {d₀ d : Draft} → i.count ≤ 4 → length i.ops ≡ 4 →
    length d₀.bytes ≡ longest → d₀.end ≡ 0 → Added longest_mnemonic (text_of (name_of i.mnemonic)) d₀ d →
    Turn σ i d d (text_of " ") (used i)
unfolding text_of letters letter
begins σ i {d₀} {d} four slots size z a =
    let none : text_in d₀ ≡ [] = ap (λ (n : ℕ). take n d₀.bytes) z in
    let many = length-take-le i.count i.ops (omega (arith, four, slots)) in
    record {
      slots = slots;
      four = four;
      name = a.text ∙ ap (λ (l : List ℕ). l ++ text_of (name_of i.mnemonic)) none;
      size₀ = Writes.kept a.wrote (omega (arith, a.wrote.after, a.short, size, z)) ∙ size;
      start = omega (arith, a.short, z);
      high = omega (arith, many);
      done = [];
      whole = refl;
      registers = λ e. e;
      added = record { text = sym (append-nil (text_in d)); short = omega arith; wrote = Writes.nothing };
      room = omega (arith, many);
    }

module _ {σ : Spelling} {i : Insn} {d₀ d : Draft} {before : List ℕ} where
  -- no byte is added or lost
  pub size : {left : List Operand} → Turn σ i d₀ d before left → length d.bytes ≡ longest
  size t =
      let w = t.added.wrote in
      Writes.kept w (omega (arith, w.after, w.short, t.size₀, t.start, t.four)) ∙ t.size₀

  -- one operand more
  pub turn : {o : Operand} {left : List Operand} {d₁ d₂ : Draft} → Turn σ i d₀ d before (o ∷ left) →
      Added (length before) before d d₁ → Added longest_operand (op_text σ o.op) d₁ d₂ →
      Turn σ i d₀ d₂ (text_of ", ") left
  unfolding listed all_registered text_of letters letter
  turn {o} {left} {d₁} {d₂} t a b =
      let step = after a b (omega (arith, size t, t.added.short, t.start, t.four)) in
      let row = after t.added step (omega (arith, t.size₀, t.start)) in
      let short : d₂.end ≤ d₀.end + most (i.count - length left) = omega (arith, t.high, t.room, step.short) in
      record {
        slots = t.slots;
        four = t.four;
        name = t.name;
        size₀ = t.size₀;
        start = t.start;
        high = omega (arith, t.high);
        done = t.done ++ (before ++ op_text σ o.op);
        whole = append_assoc t.done (before ++ op_text σ o.op) (listed σ (text_of ", ") left) ∙ t.whole;
        registers = λ e.
            true_of (all_registered left) (and_r (registered o.op) (all_registered left) (at_true (t.registers e)));
        added = record { text = row.text; short = short; wrote = Writes.bound short row.wrote };
        room = omega (arith, t.room, step.short);
      }

  -- with what is left, it is the whole line
  pub so_far : {left : List Operand} → Turn σ i d₀ d before left → text_in d ++ listed σ before left ≡ line_of σ i
  unfolding line_of
  so_far {left} t =
      ap (λ (l : List ℕ). l ++ listed σ before left) t.added.text
      ∙ append_assoc (text_in d₀) t.done (listed σ before left) ∙ ap (λ (l : List ℕ). text_in d₀ ++ l) t.whole
      ∙ ap (λ (l : List ℕ). l ++ listed σ (text_of " ") (used i)) t.name

  -- it is never too long, nor with what stands before the next operand and the longest operands that can be left
  pub in_bounds : {left : List Operand} → Turn σ i d₀ d before left →
      (d.end + length before + (2 + longest_operand) * length left ≤ 2 + longest) × (d.end ≤ longest)
  in_bounds t = (omega (arith, t.room, t.start, t.four), omega (arith, t.added.short, t.start, t.four))

  -- none is left: the operands are there, and with the mnemonic they are the line
  pub ends : Turn σ i d₀ d before [] → Added (most 4) (listed σ (text_of " ") (used i)) d₀ d × (text_in d ≡ line_of σ i)
  unfolding listed
  ends t =
      let all = sym (append-nil t.done) ∙ t.whole in
      (bound (omega (arith, t.four)) (rw all at t.added), sym (append-nil (text_in d)) ∙ so_far t)

-- the mnemonic, and then the operands
pub line_of_lem : (σ : Spelling) (i : Insn) {d d₁ d₂ : List ℕ} {at r : ℕ} →
    Wrote 0 longest_mnemonic (text_of (name_of i.mnemonic)) d d₁ at →
    Wrote at (most 4) (listed σ (text_of " ") (used i)) d₁ d₂ r → Wrote 0 longest (line_of σ i) d d₂ r
unfolding line_of
line_of_lem σ i a b = Writes.after a b (omega arith)
