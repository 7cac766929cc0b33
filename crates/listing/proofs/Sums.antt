-- Counts added up over the sections of a file, one section after the other.
use Prim.Native.Nat.{ℕ, zero, suc, ◌+◌, ◌*◌, ◌-◌, ◌<◌, ◌≤◌}
use mathlib.Core.Path.{◌≡◌}
use mathlib.Core.List.{List}
use native.Mathlib.Omega.{arith}
use Rattle.section.proofs.Proved.{body_most}
use Rattle.body.proofs.Proved.{theorems}
use Rattle.section.specs.Section.{body_of}
use Rattle.listing.specs.Swept.{view_in, word_count, refused_count, sum_from}

-- a body of at most 65,535 bytes has no more words
abbrev pub most_words : ℕ
most_words = 16383

pub words_most : (f : List ℕ) (n : ℕ) → word_count f n ≤ most_words
words_most f n = omega (arith, body_most f n)

pub refused_most : (f : List ℕ) (n : ℕ) → refused_count f n ≤ most_words
refused_most f n = omega (arith, words_most f n, theorems.few (view_in f n) (body_of f n))

-- one more
pub sum_more : (g : ℕ → ℕ) (count n : ℕ) → n < count →
    sum_from g (count - n) n ≡ g n + sum_from g (count - (n + 1)) (n + 1)
unfolding sum_from
sum_more g count n h = let e : count - n ≡ suc (count - (n + 1)) = omega arith in rw e

-- two runs of sections
pub sum_add : (g : ℕ → ℕ) (j k n : ℕ) → sum_from g (j + k) n ≡ sum_from g j n + sum_from g k (n + j)
unfolding sum_from
sum_add g zero k n =
    let e : 0 + k ≡ k = omega arith in
    let d : n + 0 ≡ n = omega arith in
    rw (e, d) (omega arith)
sum_add g (suc j) k n =
    let e : suc j + k ≡ suc (j + k) = omega arith in
    let d : n + suc j ≡ n + 1 + j = omega arith in
    rw (e, d) (omega (arith, sum_add g j k (n + 1)))

-- what the first n of them come to
pub record Sum (g : ℕ → ℕ) (count n s : ℕ) : Type 0 where
  pub is : s + sum_from g (count - n) n ≡ sum_from g count 0
  pub few : s ≤ most_words * n

module _ (g : ℕ → ℕ) (count : ℕ) where
  pub none : Sum g count 0 0
  none = let e : count - 0 ≡ count = omega arith in record { is = rw e (omega arith); few = omega arith }

  module _ (n s : ℕ) (t : Sum g count n s) where
    pub more : g n ≤ most_words → n < count → Sum g count (n + 1) (s + g n)
    more m h = record { is = omega (arith, t.is, sum_more g count n h); few = omega (arith, t.few) }

    pub all : count ≤ n → s ≡ sum_from g count 0
    unfolding sum_from
    all h =
        let e : count - n ≡ 0 = omega arith in
        let z : sum_from g (count - n) n ≡ 0 = rw e in
        omega (arith, z, t.is)
