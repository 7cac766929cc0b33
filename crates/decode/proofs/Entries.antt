-- An entry of the acceptance table that refuses every word of which these facts are known.
use Prim.Native.Nat.{ℕ, ◌+◌, ◌≤◌}
use mathlib.Core.Path.{◌≡◌, refl, subst}
use mathlib.Core.Bool.{Bool, true, false, not, cond, ◌&&◌}
use mathlib.Core.List.{List, [], ◌∷◌}
use mathlib.Core.Option.{Option, none, some, none-ne-some, some-injective}
use native.Mathlib.Omega.{arith}
use lib.Dec.{T}
use Rattle.word.specs.Word.{Fields, Fit}
use Rattle.laws.specs.Lists.{elem}
use Rattle.classes.specs.Refusals.{Test, ◌one_of◌, ◌none_of◌, holds, Refusal, meets, refusal}
use Rattle.laws.proofs.Tests.{and_l, and_r, and_i, at_true}
use Rattle.classes.proofs.Boxes.{bit, refusing}
use Rattle.decode.proofs.Facts.{Fact, Known, sure, sure_holds}

-- ── the entry that refuses it ──

unfoldable pub sure_test : List Fact → Test → Bool
sure_test ks (x one_of vs) = sure ks x (λ a. elem a vs)
sure_test ks (x none_of vs) = sure ks x (λ a. not (elem a vs))

unfoldable pub sure_tests : List Fact → List Test → Bool
sure_tests ks [] = true
sure_tests ks (t ∷ ts) = sure_test ks t && sure_tests ks ts

sure_test_lem : (ks : List Fact) (f : Fields) → Known f ks → Fit f → (u : Test) → T (sure_test ks u) → T (holds u f)
unfolding sure_test holds
sure_test_lem ks f h i (x one_of vs) t = sure_holds ks f h i x (λ a. elem a vs) t
sure_test_lem ks f h i (x none_of vs) t = sure_holds ks f h i x (λ a. not (elem a vs)) t

sure_tests_lem : (ks : List Fact) (f : Fields) → Known f ks → Fit f → (us : List Test) →
    T (sure_tests ks us) → T (meets us f)
unfolding sure_tests meets
sure_tests_lem ks f h i [] t = tt
sure_tests_lem ks f h i (u ∷ us) t =
    and_i (holds u f) (meets us f) (sure_test_lem ks f h i u (and_l (sure_test ks u) (sure_tests ks us) t))
    (sure_tests_lem ks f h i us (and_r (sure_test ks u) (sure_tests ks us) t))

-- the number of the first such entry
unfoldable pub refusing_number : List Fact → List Refusal → Option ℕ
refusing_number ks [] = none
refusing_number ks (e ∷ es) = elim (sure_tests ks e.tests) [ true ↦ some e.number | false ↦ refusing_number ks es ]

number_refusing : (ks : List Fact) (f : Fields) → Known f ks → Fit f → (es : List Refusal) (n : ℕ) →
    refusing_number ks es ≡ some n →
    1 ≤ refusing es f
unfolding refusing_number refusing
number_refusing ks f h i [] n e = absurd (none-ne-some n e)
number_refusing ks f h i (d ∷ es) n e = go (sure_tests ks d.tests) refl e (number_refusing ks f h i es n)
  where
    met : (b : Bool) → T b → 1 ≤ bit b + refusing es f
    met true t = omega arith
    met false t = absurd t

    go : (b : Bool) → sure_tests ks d.tests ≡ b →
        elim b [ true ↦ some d.number | false ↦ refusing_number ks es ] ≡ some n →
        (refusing_number ks es ≡ some n → 1 ≤ refusing es f) → 1 ≤ bit (meets d.tests f) + refusing es f
    go true c q rec = met (meets d.tests f) (sure_tests_lem ks f h i d.tests (at_true c))
    go false c q rec = omega (arith, rec q)

-- if no two entries refuse the word, the number is that one's
pub number_is : (ks : List Fact) (f : Fields) → Known f ks → Fit f → (es : List Refusal) → refusing es f ≤ 1 → (n : ℕ) →
    refusing_number ks es ≡ some n → refusal es f ≡ n
unfolding refusing_number refusing refusal
number_is ks f h i [] u n e = absurd (none-ne-some n e)
number_is ks f h i (d ∷ es) u n e = go (sure_tests ks d.tests) refl (meets d.tests f) refl u e (number_is ks f h i es)
  where
    go : (b : Bool) → sure_tests ks d.tests ≡ b → (t : Bool) → meets d.tests f ≡ t → bit t + refusing es f ≤ 1 →
        elim b [ true ↦ some d.number | false ↦ refusing_number ks es ] ≡ some n →
        (refusing es f ≤ 1 → (n : ℕ) → refusing_number ks es ≡ some n → refusal es f ≡ n) →
        cond t d.number (refusal es f) ≡ n
    go true c true m v q rec = some-injective d.number n q
    go true c false m v q rec = absurd (subst T m (sure_tests_lem ks f h i d.tests (at_true c)))
    go false c true m v q rec = absurd (omega (arith, number_refusing ks f h i es n q))
    go false c false m v q rec = rec (omega arith) n q
