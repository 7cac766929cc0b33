-- A line, written piece by piece, and that it is one line.
use Prim.Native.Nat.{ℕ, ◌+◌, ◌-◌, ◌≤◌, ◌<◌}
use mathlib.Core.Path.{◌≡◌, refl, sym, ap, ◌∙◌}
use mathlib.Core.Bool.{Bool, true, false, cond}
use mathlib.Core.List.{List, [], ◌∷◌, ◌++◌, append_assoc}
use native.Mathlib.Omega.{arith}
use borrow.Author.Tests.{ne_eqb}
use lib.ListN.{length, length-append}
use borrow.Rule.Slice.PartMut.{put_mid, mid_of}
use Rattle.refusal.specs.declared.Refusal.{Refusal}
use Rattle.refusal.specs.Refusals.{number_of}
use Rattle.refusal.proofs.One.{number_above_0}
use Rattle.reading.specs.declared.Decoded.{Decoded}
use Rattle.reading.specs.Reading.{refused_of}
use Rattle.buffers.specs.Bytes.{over, placed}
use Rattle.buffers.proofs.Laws.{first_at, next_at, then_at, at_start, lent_over}
use Rattle.text.specs.Text.{letter, letters, text_of, numeral_of, hex_of, newline, without, OneLine}
use Rattle.buffers.specs.Writes.{Wrote}
use Rattle.text.proofs.Texts.{space}
use Rattle.text.proofs.Lengths.{hex_long, numeral_most}
use Rattle.text.proofs.Rows.{without_append, numeral_without, hex_without}
use Rattle.line.specs.Line.{Spelling, line_of, longest, Unbroken, printed}
use Rattle.line.proofs.Answers.{fits}
use Rattle.line.proofs.Unbroken.{unbroken}
use Rattle.body.specs.declared.View.{View}
use Rattle.body.specs.Body.{address_at, word_at, decoded_at, is_refused}
use Rattle.pages.specs.Page.{answer_text, word_line, text_column, longest_line}
use Rattle.pages.specs.Private.Steps.{Answers, columns_of}

-- ── texts ──

says_refused : 114 ∷ 101 ∷ 102 ∷ 117 ∷ 115 ∷ 101 ∷ 100 ∷ 32 ∷ [] ≡ text_of "refused "
unfolding text_of letters letter
says_refused = refl

-- ── the text of an answer ──

module _ (σ : Spelling) (d : Decoded) where
  text_without : Unbroken σ → without newline (answer_text σ d) ≡ true
  unfolding answer_text without text_of letters letter
  text_without s = go (is_refused d)
    where
      go : (b : Bool) →
          without newline (cond b (text_of "refused " ++ numeral_of 10 d.number) (line_of σ d.insn)) ≡ true
      go true = numeral_without newline (omega arith) 10 d.number
      go false = unbroken s d.insn

  -- a line that has room is printed
  pub printed_whole : (room : ℕ) → Answers σ d → longest ≤ room → printed σ d.insn room ≡ line_of σ d.insn
  printed_whole room a h = (fits σ d.insn room a.lined (omega (arith, a.short))).bytes

-- `refused` and the number, written one after the other
module _ (σ : Spelling) (r : Refusal) {n size : ℕ} (d : List ℕ) {d₁ d₂ : List ℕ} where
  pub refused_written : longest ≤ length d → n ≡ number_of r →
      d₁ ≡ placed 0 (114 ∷ 101 ∷ 102 ∷ 117 ∷ 115 ∷ 101 ∷ 100 ∷ 32 ∷ []) d →
      size ≡ length (numeral_of 10 n) → d₂ ≡ placed 8 (numeral_of 10 n) d₁ →
      let text = answer_text σ (refused_of (number_of r)) in
      (8 + size ≡ length text) × (d₂ ≡ over text d)
  unfolding answer_text
  refused_written h en e₁ es e₂ =
      let N : List ℕ = numeral_of 10 n in
      let most : length N ≤ 20 = numeral_most 10 n in
      let l : length (text_of "refused ") ≡ 8 = ap length (sym says_refused) in
      let p₁ = first_at 0 (text_of "refused ") d (omega arith) says_refused e₁ in
      let p₂ = next_at 0 8 (text_of "refused ") N d (omega arith) (omega arith) p₁ refl e₂ in
      rw (ne_eqb (number_of r) 0 (λ z. omega (arith, z, number_above_0 r)), ← en)
      (simp length-append (omega (arith, l, es)), p₂ ∙ at_start (text_of "refused " ++ N) d)

-- ── the columns ──

module _ (v : View) (body : List ℕ) (n : ℕ) where
  pub columns_long : length (columns_of v body n) ≡ text_column
  unfolding columns_of
  columns_long = rw (← space) (simp (length-append, hex_long))

  columns_without : without newline (columns_of v body n) ≡ true
  unfolding columns_of without text_of letters letter
  columns_without = simp (without_append, hex_without newline (omega arith))

  pub columns_written : {a w : ℕ} (d : List ℕ) {d₁ d₂ d₃ d₄ : List ℕ} → text_column ≤ length d →
      a ≡ address_at v n → w ≡ word_at v body n → d₁ ≡ placed 0 (hex_of 16 a) d → d₂ ≡ placed 16 (32 ∷ []) d₁ →
      d₃ ≡ placed 17 (hex_of 8 w) d₂ → d₄ ≡ placed 25 (32 ∷ []) d₃ → d₄ ≡ over (columns_of v body n) d
  unfolding columns_of
  columns_written {a} {w} d h ea ew e₁ e₂ e₃ e₄ =
      let A : List ℕ = hex_of 16 a in
      let W : List ℕ = hex_of 8 w in
      let S : List ℕ = 32 ∷ [] in
      let la : length A ≡ 16 = hex_long 16 a in
      let lw : length W ≡ 8 = hex_long 8 w in
      let p₁ = first_at 0 A d (omega arith) refl e₁ in
      let p₂ = next_at 0 16 A S d (omega arith) (omega arith) p₁ refl e₂ in
      let p₃ = next_at 0 17 (A ++ S) W d (simp length-append (omega arith)) (omega arith) p₂ refl e₃ in
      let p₄ = next_at 0 25 ((A ++ S) ++ W) S d (simp length-append (omega arith)) (omega arith) p₃ refl e₄ in
      let q : ((A ++ S) ++ W) ++ S ≡ columns_of v body n = simp append_assoc (rw (ea, ew, ← space)) in
      p₄ ∙ at_start (((A ++ S) ++ W) ++ S) d ∙ ap (λ (l : List ℕ). over l d) q

-- ── the line ──

module _ (σ : Spelling) (v : View) (body : List ℕ) (n : ℕ) where
  abbrev shown : List ℕ
  shown = answer_text σ (decoded_at v body n)

  pub word_line_is : word_line σ v body n ≡ (columns_of v body n ++ shown) ++ (newline ∷ [])
  unfolding word_line columns_of
  word_line_is = simp append_assoc

  -- its newline is at its end, and there is no other
  pub own_line : Unbroken σ → OneLine (word_line σ v body n)
  own_line s =
      record {
        text = columns_of v body n ++ shown;
        is = word_line_is;
        clear = simp (without_append, columns_without v body n, text_without σ (decoded_at v body n) s);
      }

  pub line_written : {m : ℕ} (d : List ℕ) {d₁ ys d₃ : List ℕ} → length d ≡ longest_line → length shown ≤ longest →
      d₁ ≡ over (columns_of v body n) d → m ≡ length shown →
      ys ≡ over shown (mid_of text_column (length d₁ - text_column) d₁) →
      d₃ ≡ placed (text_column + m) (newline ∷ []) (put_mid text_column (length d₁ - text_column) d₁ ys) →
      Wrote 0 longest_line (word_line σ v body n) d d₃ (text_column + m + 1)
  line_written {m} d {d₁} {ys} h most e₁ em ey e₃ =
      let C : List ℕ = columns_of v body n in
      let lc : length C ≡ text_column = columns_long v body n in
      let p₁ = e₁ ∙ sym (at_start C d) in
      let p₂ = then_at 0 text_column C shown d (omega arith) (omega arith) p₁ (lent_over text_column shown d₁ ys ey) in
      let p₃ =
      next_at 0 (text_column + m) (C ++ shown) (newline ∷ []) d (simp length-append (omega arith)) (omega arith) p₂ refl
      e₃ in
      record {
        after = rw word_line_is (simp length-append (omega arith));
        short = omega arith;
        bytes = rw word_line_is p₃;
      }

  -- a line is not empty
  pub line_some : 0 < length (word_line σ v body n)
  line_some = rw word_line_is (simp length-append (omega arith))
