-- The page by its cases, and how far it goes.
use Prim.Native.Nat.{ℕ, suc, ◌+◌, ◌*◌, ◌-◌, ◌≤◌, ◌<◌}
use mathlib.Core.Path.{◌≡◌, sym}
use mathlib.Core.List.{List, [], ◌++◌, append-nil}
use native.Mathlib.Omega.{arith}
use borrow.Author.Tests.{lt-ltb, le-ltb, eq-eqb, ne_eqb}
use lib.ListN.{length, length-append}
use Rattle.buffers.specs.Bytes.{over_at}
use Rattle.buffers.proofs.Laws.{over_nothing}
use Rattle.line.specs.Line.{Spelling, Within}
use Rattle.body.specs.declared.View.{View}
use Rattle.body.specs.Body.{words_in}
use Rattle.pages.specs.Lines.{lines_from, fitting}
use Rattle.pages.specs.Page.{word_line, longest_line, page_words, page_bytes, page_number, page_of}
use Rattle.pages.proofs.Rows.{lines_add}
use Rattle.pages.proofs.Runs.{none_fits, no_lines, run_fits, run_most, run_longest, run_all}
use Rattle.pages.proofs.Pieces.{columns_long, word_line_is, line_some}
use Rattle.pages.proofs.Answers.{answer_most}

-- ── the cases of a page ──

module _ (σ : Spelling) (v : View) (body : List ℕ) (n size place : ℕ) where
  no_bytes : page_words σ v body n size place ≡ 0 → page_bytes σ v body n size place ≡ []
  unfolding page_bytes
  no_bytes e = no_lines (word_line σ v body) (page_words σ v body n size place) n e

  pub no_index : words_in body ≤ n → page_words σ v body n size place ≡ 0
  unfolding page_words fitting
  no_index h = let e : words_in body - n ≡ 0 = omega arith in rw e

  pub number_15 : words_in body ≤ n → page_number σ v body n size place ≡ 15
  unfolding page_number
  number_15 h = rw (le-ltb n (words_in body) h)

  module _ (h : n < words_in body) where
    pub past_end : size < place → page_words σ v body n size place ≡ 0
    unfolding page_words
    past_end p =
        let e : words_in body - n ≡ suc (words_in body - (n + 1)) = omega arith in
        let z : size - place ≡ 0 = omega arith in
        rw (e, z) (none_fits (word_line σ v body) (words_in body - (n + 1)) n 0 (line_some σ v body n))

    pub number_11 : page_words σ v body n size place ≡ 0 → page_number σ v body n size place ≡ 11
    unfolding page_number
    number_11 z = rw (lt-ltb n (words_in body) h, eq-eqb (page_words σ v body n size place) 0 z)

    pub number_0 : (page_words σ v body n size place ≡ 0 → ⊥) → page_number σ v body n size place ≡ 0
    unfolding page_number
    number_0 z = rw (lt-ltb n (words_in body) h, ne_eqb (page_words σ v body n size place) 0 z)

  -- what is answered where there are no words
  answers_nothing : {number : ℕ} → page_number σ v body n size place ≡ number → page_words σ v body n size place ≡ 0 →
      record { number = number; words = 0; bytes = 0 } ≡ page_of σ v body n size place
  answers_nothing e z = rw (e, z, no_bytes z)

  pub answers_15 : words_in body ≤ n → record { number = 15; words = 0; bytes = 0 } ≡ page_of σ v body n size place
  answers_15 h = answers_nothing (number_15 h) (no_index h)

  pub answers_11 : n < words_in body → page_words σ v body n size place ≡ 0 →
      record { number = 11; words = 0; bytes = 0 } ≡ page_of σ v body n size place
  answers_11 h z = answers_nothing (number_11 h z) z

  -- ── how far a page goes ──

  pub fits : length (page_bytes σ v body n size place) ≤ size - place
  unfolding page_bytes page_words
  fits = run_fits (word_line σ v body) (words_in body - n) n (size - place)

  pub most : page_words σ v body n size place ≤ words_in body - n
  unfolding page_words
  most = run_most (word_line σ v body) (words_in body - n) n (size - place)

  -- what comes after it begins where it ends
  pub goes_on :
      let next : ℕ = n + page_words σ v body n size place in
      page_bytes σ v body n size place ++ lines_from (word_line σ v body) (words_in body - next) next ≡
      lines_from (word_line σ v body) (words_in body - n) n
  unfolding page_bytes
  goes_on =
      let k : ℕ = page_words σ v body n size place in
      let e : words_in body - n ≡ k + (words_in body - (n + k)) = omega (arith, most) in
      rw e (sym (lines_add (word_line σ v body) k (words_in body - (n + k)) n))

  pub longest : (m : ℕ) → m ≤ words_in body - n → length (lines_from (word_line σ v body) m n) ≤ size - place →
      m ≤ page_words σ v body n size place
  unfolding page_words
  longest m h l = run_longest (word_line σ v body) (words_in body - n) n (size - place) m h l

  module _ (s : Within σ) where
    pub line_most : (i : ℕ) → length (word_line σ v body i) ≤ longest_line
    line_most i =
        rw (word_line_is σ v body i) (simp length-append (omega (arith, columns_long v body i, answer_most s v body i)))

    pub whole_sheet : longest_line * (words_in body - n) ≤ size - place →
        page_words σ v body n size place ≡ words_in body - n
    unfolding page_words
    whole_sheet h = run_all (word_line σ v body) longest_line line_most (words_in body - n) n (size - place) h

    -- room for one line is room for one word
    pub one_word : n < words_in body → longest_line ≤ size - place → 1 ≤ page_words σ v body n size place
    unfolding lines_from
    one_word h r = longest 1 (omega arith) (simp append-nil (omega (arith, line_most n)))

-- a page without words leaves what was there
pub untouched : (σ : Spelling) (v : View) (body : List ℕ) (n place : ℕ) (out : List ℕ) →
    page_words σ v body n (length out) place ≡ 0 → out ≡ over_at place (page_bytes σ v body n (length out) place) out
untouched σ v body n place out z = rw (no_bytes σ v body n (length out) place z) (sym (over_nothing place out))
