-- WHAT IS PROVED OF PAGES, in every spelling. The proofs are in proofs/Proved.antt.
use Rattle.std.specs.Prelude.{ℕ, ◌+◌, ◌*◌, ◌-◌, ◌≤◌, ◌<◌, ◌≡◌, List, ◌++◌, length}
use Rattle.text.specs.Text.{OneLine}
use Rattle.line.specs.Line.{Spelling, Within, Unbroken}
use Rattle.body.specs.declared.View.{View}
use Rattle.body.specs.Body.{words_in}
use Rattle.pages.specs.Lines.{lines_from}
use Rattle.pages.specs.Page.{word_line, longest_line, page_words, page_bytes, page_number}

pub record Theorems : Type 0 where
  -- a page's bytes fit
  pub fits : (σ : Spelling) (v : View) (body : List ℕ) (n size place : ℕ) →
      length (page_bytes σ v body n size place) ≤ size - place
  -- no longer run of its lines does
  pub longest : (σ : Spelling) (v : View) (body : List ℕ) (n size place m : ℕ) →
      m ≤ words_in body - n → length (lines_from (word_line σ v body) m n) ≤ size - place →
      m ≤ page_words σ v body n size place
  -- a page that is not refused has a word, and no more than there are from its index on
  pub some : (σ : Spelling) (v : View) (body : List ℕ) (n size place : ℕ) → page_number σ v body n size place ≡ 0 →
      (1 ≤ page_words σ v body n size place) × (page_words σ v body n size place ≤ words_in body - n)
  -- in a spelling within its limits, a page with room for the longest line has a word
  pub one_line : (σ : Spelling) → Within σ → (v : View) (body : List ℕ) (n size place : ℕ) →
      n < words_in body → longest_line ≤ size - place → page_number σ v body n size place ≡ 0
  -- and with that much room for each word, it has all of them
  pub whole_sheet : (σ : Spelling) → Within σ → (v : View) (body : List ℕ) (n size place : ℕ) →
      longest_line * (words_in body - n) ≤ size - place → page_words σ v body n size place ≡ words_in body - n
  -- a word's line is one line, in every spelling that writes no newline: in the bytes of a page, a line ends at the
  -- first newline
  pub own_line : (σ : Spelling) → Unbroken σ → (v : View) (body : List ℕ) (n : ℕ) → OneLine (word_line σ v body n)
  -- a page and the lines from the word after it on are the lines from its first word on: pages one after the other
  -- pass over no line and repeat none
  pub goes_on : (σ : Spelling) (v : View) (body : List ℕ) (n size place : ℕ) →
      let next : ℕ = n + page_words σ v body n size place in
      page_bytes σ v body n size place ++ lines_from (word_line σ v body) (words_in body - next) next ≡
      lines_from (word_line σ v body) (words_in body - n) n
