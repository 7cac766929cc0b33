-- What specs/Theorems.antt states, proved.
use Prim.Native.Nat.{ℕ, ◌-◌, ◌≤◌, ◌<◌}
use mathlib.Core.Path.{◌≡◌}
use mathlib.Core.List.{List}
use native.Mathlib.Decide.{dec_le, dec_lt}
use native.Mathlib.Omega.{arith}
use Rattle.line.specs.Line.{Spelling, Within}
use Rattle.body.specs.declared.View.{View}
use Rattle.body.specs.Body.{words_in}
use Rattle.pages.specs.Page.{longest_line, page_words, page_number}
use Rattle.pages.specs.Theorems.{Theorems}
use Rattle.pages.proofs.Pieces.{own_line}
use Rattle.pages.proofs.Sheets.{number_15, number_11, number_0}
use Rattle.pages.proofs.Sheets.{fits, most, goes_on, longest, one_word, whole_sheet}

some : (σ : Spelling) (v : View) (body : List ℕ) (n size place : ℕ) → page_number σ v body n size place ≡ 0 →
    (1 ≤ page_words σ v body n size place) × (page_words σ v body n size place ≤ words_in body - n)
some σ v body n size place e =
    (go (dec_lt n (words_in body)) (dec_le 1 (page_words σ v body n size place)), most σ v body n size place)
  where
    go : Dec (n < words_in body) → Dec (1 ≤ page_words σ v body n size place) → 1 ≤ page_words σ v body n size place
    go (no h) d = absurd (omega (arith, e, number_15 σ v body n size place (omega arith)))
    go (yes h) (yes y) = y
    go (yes h) (no y) = absurd (omega (arith, e, number_11 σ v body n size place h (omega arith)))

one_line : (σ : Spelling) → Within σ → (v : View) (body : List ℕ) (n size place : ℕ) →
    n < words_in body → longest_line ≤ size - place → page_number σ v body n size place ≡ 0
one_line σ s v body n size place h r =
    number_0 σ v body n size place h (λ z. omega (arith, z, one_word σ v body n size place s h r))

pub theorems : Theorems
theorems =
    record {
      fits = fits;
      longest = longest;
      some = some;
      one_line = one_line;
      whole_sheet = λ σ s v body n size place. whole_sheet σ v body n size place s;
      own_line = λ σ s v body n. own_line σ v body n s;
      goes_on = goes_on;
    }
