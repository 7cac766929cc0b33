-- A row that takes every word of which these facts are known: found by trying the values that the fields can still
-- have.
use Prim.Native.Nat.{◌≤◌, ◌%◌}
use mathlib.Core.Path.{◌≡◌, refl, sym, ap, subst}
use mathlib.Core.Bool.{Bool, true, false, not, ◌&&◌, ◌||◌}
use mathlib.Core.List.{List, [], ◌∷◌}
use mathlib.Core.Logic.{◌⊎◌, inl, inr}
use mathlib.Core.Option.{Option, none, some, none-ne-some, some-injective}
use lib.Dec.{T, eqb}
use Rattle.word.specs.Word.{Field, Fields, Fit}
use Rattle.classes.specs.Row.{Pat, is, read, read_but, zeros, extra, skip_but, low, Row, pat_of}
use Rattle.classes.specs.Meaning.{match, six, nop_like, takes, find}
use Rattle.classes.specs.Theorems.{taking}
use Rattle.laws.proofs.Tests.{and_l, and_r, and_i, at_true}
use Rattle.classes.proofs.Tests.{six_at, six_make}
use Rattle.classes.proofs.Find.{In, only_row}
use Rattle.decode.proofs.Facts.{Fact, ◌≐◌, ◌≠◌, ◌is_none_of◌, ◌lowIs◌, ◌low_is_none_of◌, busy, Known, sure, sure_holds}

-- ── the row that takes the word ──

unfoldable pub surely : List Fact → Field → Pat → Bool
surely ks x (is v) = sure ks x (λ a. eqb a v)
surely ks x read = true
surely ks x (read_but v) = sure ks x (λ a. not (eqb a v))
surely ks x zeros = true
surely ks x extra = true
surely ks x (skip_but v) = sure ks x (λ a. not (eqb a v))
surely ks x (low v) = sure ks x (λ a. eqb (a % 4) v)

surely_match : (ks : List Fact) (f : Fields) → Known f ks → Fit f → (x : Field) (q : Pat) →
    T (surely ks x q) → T (match q (f x))
unfolding surely match
surely_match ks f h i x (is v) t = sure_holds ks f h i x (λ a. eqb a v) t
surely_match ks f h i x read t = tt
surely_match ks f h i x (read_but v) t = sure_holds ks f h i x (λ a. not (eqb a v)) t
surely_match ks f h i x zeros t = tt
surely_match ks f h i x extra t = tt
surely_match ks f h i x (skip_but v) t = sure_holds ks f h i x (λ a. not (eqb a v)) t
surely_match ks f h i x (low v) t = sure_holds ks f h i x (λ a. eqb (a % 4) v) t

unfoldable pub is_busy : List Fact → Bool
is_busy [] = false
is_busy ((y ≐ v) ∷ ks) = is_busy ks
is_busy ((y ≠ v) ∷ ks) = is_busy ks
is_busy ((y is_none_of vs) ∷ ks) = is_busy ks
is_busy ((y lowIs v) ∷ ks) = is_busy ks
is_busy ((y low_is_none_of vs) ∷ ks) = is_busy ks
is_busy (busy ∷ ks) = true

busy_is : (ks : List Fact) (f : Fields) → Known f ks → T (is_busy ks) → nop_like f ≡ false
unfolding is_busy
busy_is [] f h t = absurd t
busy_is ((y ≐ v) ∷ ks) f h t = busy_is ks f h.1 t
busy_is ((y ≠ v) ∷ ks) f h t = busy_is ks f h.1 t
busy_is ((y is_none_of vs) ∷ ks) f h t = busy_is ks f h.1 t
busy_is ((y lowIs v) ∷ ks) f h t = busy_is ks f h.1 t
busy_is ((y low_is_none_of vs) ∷ ks) f h t = busy_is ks f h.1 t
busy_is (busy ∷ ks) f h t = h.0

unfoldable pub certain : List Fact → Row → Bool
certain ks r = six (λ x. surely ks x (pat_of r x)) && (not r.nops || is_busy ks)

not_nop : (b n : Bool) (k : Bool) → T (not b || k) → (T k → n ≡ false) → T (not (b && n))
not_nop true n k t h = at_true (ap not (h t))
not_nop false n k t h = tt

certain_takes : (ks : List Fact) (f : Fields) → Known f ks → Fit f → (r : Row) → T (certain ks r) → T (takes r f)
unfolding certain takes
certain_takes ks f h i r t =
    and_i (six (λ x. match (pat_of r x) (f x))) (not (r.nops && nop_like f))
    (six_make (λ x. match (pat_of r x) (f x))
    (λ x. surely_match ks f h i x (pat_of r x)
    (six_at (λ x. surely ks x (pat_of r x)) (and_l (six (λ x. surely ks x (pat_of r x))) _ t) x)))
    (not_nop r.nops (nop_like f) (is_busy ks) (and_r (six (λ x. surely ks x (pat_of r x))) (not r.nops || is_busy ks) t)
    (busy_is ks f h))

-- the first such row
unfoldable pub chosen : List Fact → List Row → Option Row
chosen ks [] = none
chosen ks (r ∷ ts) = elim (certain ks r) [ true ↦ some r | false ↦ chosen ks ts ]

-- it is in the table and takes the word
chosen_in : (ks : List Fact) (f : Fields) → Known f ks → Fit f → (ts : List Row) (r : Row) →
    chosen ks ts ≡ some r → In r ts × T (takes r f)
unfolding chosen In
chosen_in ks f h i [] r e = absurd (none-ne-some r e)
chosen_in ks f h i (s ∷ ts) r e = go (certain ks s) refl e (chosen_in ks f h i ts r)
  where
    go : (b : Bool) → certain ks s ≡ b → elim b [ true ↦ some s | false ↦ chosen ks ts ] ≡ some r →
        (chosen ks ts ≡ some r → In r ts × T (takes r f)) →
        ((r ≡ s) ⊎ In r ts) × T (takes r f)
    go true c d rec =
        let is : s ≡ r = some-injective s r d in
        (inl (sym is), subst (λ (x : Row). T (takes x f)) is (certain_takes ks f h i s (at_true c)))
    go false c d rec = let p : In r ts × T (takes r f) = rec d in (inr p.0, p.1)

-- if no two rows take the word, it is the one that is found
pub chosen_found : (ks : List Fact) (f : Fields) → Known f ks → Fit f → (ts : List Row) →
    taking ts f ≤ 1 → (r : Row) → chosen ks ts ≡ some r →
    find ts f ≡ some r
chosen_found ks f h i ts u r e = let p : In r ts × T (takes r f) = chosen_in ks f h i ts r e in
    only_row ts f u r p.0 p.1
