-- Lines as a list of them, which has their number and their bytes: runs one after the other, and each line by its
-- place.
use Prim.Native.Nat.{ℕ, zero, suc, ◌+◌, ◌<◌}
use mathlib.Core.Path.{◌≡◌, refl, sym, ap, ◌∙◌}
use mathlib.Core.List.{List, [], ◌∷◌, ◌++◌, append_assoc}
use native.Mathlib.Omega.{arith}
use lib.ListN.{length, get_or}
use Rattle.text.specs.Text.{lines_of, OneLine}
use Rattle.text.proofs.Rows.{cut}
use Rattle.pages.specs.Lines.{lines_from}

-- their bytes
unfoldable pub joined : List (List ℕ) → List ℕ
joined [] = []
joined (l ∷ ls) = l ++ joined ls

pub joined_append : (a b : List (List ℕ)) → joined (a ++ b) ≡ joined a ++ joined b
unfolding joined
joined_append [] b = refl
joined_append (l ∷ a) b =
    ap (λ (x : List ℕ). l ++ x) (joined_append a b) ∙ sym (append_assoc l (joined a) (joined b))

-- k lines from line n on
unfoldable pub rows_from : (ℕ → List ℕ) → ℕ → ℕ → List (List ℕ)
rows_from line zero n = []
rows_from line (suc k) n = line n ∷ rows_from line k (n + 1)

module _ (line : ℕ → List ℕ) where
  pub rows_joined : (k n : ℕ) → joined (rows_from line k n) ≡ lines_from line k n
  unfolding joined rows_from lines_from
  rows_joined zero n = refl
  rows_joined (suc k) n = ap (λ (x : List ℕ). line n ++ x) (rows_joined k (n + 1))

  pub rows_long : (k n : ℕ) → length (rows_from line k n) ≡ k
  unfolding rows_from
  rows_long zero n = refl
  rows_long (suc k) n = omega (arith, rows_long k (n + 1))

  -- two runs, the second where the first ended
  pub rows_add : (j k n : ℕ) → rows_from line (j + k) n ≡ rows_from line j n ++ rows_from line k (n + j)
  unfolding rows_from
  rows_add zero k n =
      let e : 0 + k ≡ k = omega arith in
      let d : n + 0 ≡ n = omega arith in
      rw (e, d)
  rows_add (suc j) k n =
      let e : suc j + k ≡ suc (j + k) = omega arith in
      let d : n + suc j ≡ n + 1 + j = omega arith in
      rw (e, d) (ap (λ (x : List (List ℕ)). line n ∷ x) (rows_add j k (n + 1)))

  -- in bytes
  pub lines_add : (j k n : ℕ) → lines_from line (j + k) n ≡ lines_from line j n ++ lines_from line k (n + j)
  lines_add j k n =
      rw (← rows_joined (j + k) n, ← rows_joined j n, ← rows_joined k (n + j), rows_add j k n)
      (joined_append (rows_from line j n) (rows_from line k (n + j)))

  -- line n + i is the one at place i, whatever comes after
  pub row_at : (k n i : ℕ) (rest : List (List ℕ)) → i < k → get_or (rows_from line k n ++ rest) i [] ≡ line (n + i)
  unfolding rows_from
  row_at zero n i rest h = absurd (omega arith)
  row_at (suc k) n zero rest h = let e : n + 0 ≡ n = omega arith in rw e
  row_at (suc k) n (suc i) rest h =
      let e : n + suc i ≡ n + 1 + i = omega arith in
      rw e (row_at k (n + 1) i rest (omega arith))

  -- lines that are one line each are told by their newlines
  pub rows_cut : ((i : ℕ) → OneLine (line i)) → (k n : ℕ) (rest : List ℕ) →
      lines_of (joined (rows_from line k n) ++ rest) ≡ rows_from line k n ++ lines_of rest
  unfolding rows_from joined
  rows_cut one zero n rest = refl
  rows_cut one (suc k) n rest =
      ap lines_of (append_assoc (line n) (joined (rows_from line k (n + 1))) rest)
      ∙ cut (one n) (joined (rows_from line k (n + 1)) ++ rest)
      ∙ ap (λ (x : List (List ℕ)). line n ∷ x) (rows_cut one k (n + 1) rest)
