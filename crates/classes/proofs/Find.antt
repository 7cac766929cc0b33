-- What is found in a table: a row of it, which takes the word and passes whatever all rows pass. So what holds of the
-- blank reading and of every row's readings holds of every word's. And, in two tables one after the other, what the first
-- has.
use Prim.Native.Nat.{ℕ, ◌+◌, ◌≤◌}
use mathlib.Core.Path.{◌≡◌, refl, sym, ap, subst}
use mathlib.Core.Bool.{Bool, true, false, cond, ◌&&◌}
use mathlib.Core.List.{List, [], ◌∷◌, ◌++◌}
use mathlib.Core.Logic.{◌⊎◌, inl, inr}
use mathlib.Core.Option.{Option, none, some, none-ne-some, some-injective}
use native.Mathlib.Omega.{arith}
use lib.Dec.{T}
use Rattle.word.specs.Word.{Fields, fields_of}
use Rattle.reading.specs.declared.Insn.{Insn}
use Rattle.reading.specs.Reading.{blank_insn}
use Rattle.classes.specs.Row.{Row}
use Rattle.classes.specs.Meaning.{takes, find, meaning}
use Rattle.classes.specs.Table.{table}
use Rattle.classes.specs.Refusals.{Refusal, refusals}
use Rattle.classes.specs.Decoded.{reading_by, decoded_by, decoded_of}
use Rattle.classes.specs.Theorems.{taking}
use Rattle.laws.proofs.Tests.{and_l, and_r, true_of, at_true}

-- ── rows of a table ──

unfoldable pub In : Row → List Row → Type 0
In r [] = ⊥
In r (s ∷ ts) = (r ≡ s) ⊎ In r ts

-- a test of every row
unfoldable pub every : (Row → Bool) → List Row → Bool
every p [] = true
every p (r ∷ ts) = p r && every p ts

pub every_in : (p : Row → Bool) (ts : List Row) → T (every p ts) → (r : Row) → In r ts → T (p r)
unfolding every In
every_in p [] t r i = absurd i
every_in p (s ∷ ts) t r (inl e) = subst (λ (q : Row). T (p q)) (sym e) (and_l (p s) (every p ts) t)
every_in p (s ∷ ts) t r (inr i) = every_in p ts (and_r (p s) (every p ts) t) r i

-- the row of a word is one that takes it
pub find_in : (ts : List Row) (f : Fields) (r : Row) → find ts f ≡ some r → In r ts × T (takes r f)
unfolding find In
find_in [] f r e = absurd (none-ne-some r e)
find_in (s ∷ ts) f r e = go (find_in ts f r) (takes s f) refl e
  where
    go : (find ts f ≡ some r → In r ts × T (takes r f)) → (b : Bool) → takes s f ≡ b → cond b (some s) (find ts f) ≡ some r →
        ((r ≡ s) ⊎ In r ts) × T (takes r f)
    go rec true q d =
        let is : s ≡ r = some-injective s r d in
        (inl (sym is), subst (λ (x : Row). T (takes x f)) is (at_true q))
    go rec false q d = let p : In r ts × T (takes r f) = rec d in (inr p.0, p.1)

pub every_found : (p : Row → Bool) (ts : List Row) → T (every p ts) → (f : Fields) (r : Row) → find ts f ≡ some r → T (p r)
every_found p ts t f r e = every_in p ts t r (find_in ts f r e).0

in_taking : (ts : List Row) (f : Fields) (r : Row) → In r ts → T (takes r f) → 1 ≤ taking ts f
unfolding taking In
in_taking [] f r i t = absurd i
in_taking (s ∷ ts) f r (inl e) t = rw (true_of (takes s f) (subst (λ (x : Row). T (takes x f)) e t)) (omega arith)
in_taking (s ∷ ts) f r (inr i) t = omega (arith, in_taking ts f r i t)

-- one is found: some row takes the word
pub found_taking : (ts : List Row) (f : Fields) (r : Row) → find ts f ≡ some r → 1 ≤ taking ts f
found_taking ts f r e = let p : In r ts × T (takes r f) = find_in ts f r e in in_taking ts f r p.0 p.1

-- if no more than one row takes the word, each that does is its row
pub only_row : (ts : List Row) (f : Fields) → taking ts f ≤ 1 → (r : Row) → In r ts → T (takes r f) → find ts f ≡ some r
unfolding taking find In
only_row [] f l r i t = absurd i
only_row (s ∷ ts) f l r (inl e) t = rw (true_of (takes s f) (subst (λ (x : Row). T (takes x f)) e t)) (ap some (sym e))
only_row (s ∷ ts) f l r (inr i) t = go (takes s f) l (in_taking ts f r i t) (λ m. only_row ts f m r i t)
  where
    go : (b : Bool) → cond b 1 0 + taking ts f ≤ 1 → 1 ≤ taking ts f → (taking ts f ≤ 1 → find ts f ≡ some r) → cond b (some s) (find ts f) ≡ some r
    go true m n rec = absurd (omega arith)
    go false m n rec = rec (omega arith)

-- ── a word's reading ──

-- THE LAW of readings, for whatever holds of the blank one, and of what a row reads that passes a test
module _ (P : Insn → Type 0) (p : Row → Bool) (blank : P blank_insn) where
  pub reading_by_lem : (ts : List Row) (es : List Refusal) → T (every p ts) → (va : ℕ) (f : Fields) →
      ((r : Row) → T (p r) → P (meaning r va f)) →
      P (decoded_by ts es va f).insn
  unfolding decoded_by
  reading_by_lem ts es t va f h = go (find ts f) refl
    where
      go : (o : Option Row) → find ts f ≡ o → P (reading_by o va f)
      go none e = blank
      go (some r) e = h r (every_found p ts t f r e)

  -- of the definition's tables
  pub each_reading : (w va : ℕ) (wide : Bool) → T (every p (table wide)) →
      ((r : Row) → T (p r) → P (meaning r va (fields_of w))) →
      P (decoded_of w va wide).insn
  unfolding decoded_of
  each_reading w va wide t = reading_by_lem (table wide) refusals t va (fields_of w)

-- ── two tables ──

-- the first answer, or else the second
abbrev pub or_else : Option Row → Option Row → Option Row
or_else none o = o
or_else (some r) o = some r

pub find_append : (ts us : List Row) (f : Fields) → find (ts ++ us) f ≡ or_else (find ts f) (find us f)
unfolding find
find_append [] us f = refl
find_append (r ∷ ts) us f = go (takes r f) (find_append ts us f)
  where
    go : (b : Bool) → find (ts ++ us) f ≡ or_else (find ts f) (find us f) → cond b (some r) (find (ts ++ us) f) ≡ or_else (cond b (some r) (find ts f)) (find us f)
    go true e = refl
    go false e = e

pub taking_append : (ts us : List Row) (f : Fields) → taking (ts ++ us) f ≡ taking ts f + taking us f
unfolding taking
taking_append [] us f = omega arith
taking_append (r ∷ ts) us f = omega (arith, taking_append ts us f)
