-- What an arm of the decoder knows of a word's fields, and the values that a field can still have.
use Prim.Native.Nat.{ℕ, ◌%◌}
use mathlib.Core.Path.{◌≡◌, refl, sym, ◌∙◌, ap, subst}
use mathlib.Core.Bool.{Bool, true, false, not, ◌&&◌, ◌||◌}
use mathlib.Core.List.{List, [], ◌∷◌}
use mathlib.Core.Option.{Option, none, some, none-ne-some, some-injective}
use borrow.Author.Tests.{eqb-true, eq-eqb, ne_eqb}
use lib.Dec.{T, eqb}
use Rattle.word.specs.Word.{Field, same_field, Field_discrete, Fields, room, Fit}
use Rattle.classes.specs.Meaning.{nop_like}
use Rattle.laws.specs.Lists.{elem}
use Rattle.laws.proofs.Tests.{all_below, below, and_i, implied, at_true}
use Rattle.decode.specs.Private.Groups.{NoneOf}

-- ── facts ──

pub data Fact : Type 0 where
  ◌≐◌ : Field → ℕ → Fact  -- the field is this
  ◌≠◌ : Field → ℕ → Fact  -- the field is not this
  ◌is_none_of◌ : Field → List ℕ → Fact  -- it is none of these
  ◌lowIs◌ : Field → ℕ → Fact  -- its two low bits are this
  ◌low_is_none_of◌ : Field → List ℕ → Fact  -- they are none of these
  busy : Fact  -- the word is neither `nop` nor `ssnop`

infix 90 ◌≐◌
infix 90 ◌≠◌
infix 90 ◌is_none_of◌
infix 90 ◌lowIs◌
infix 90 ◌low_is_none_of◌
abbrev pub Holds : Fields → Fact → Type 0
Holds f (x ≐ v) = f x ≡ v
Holds f (x ≠ v) = ¬ (f x ≡ v)
Holds f (x is_none_of vs) = NoneOf (f x) vs
Holds f (x lowIs v) = f x % 4 ≡ v
Holds f (x low_is_none_of vs) = NoneOf (f x % 4) vs
Holds f busy = nop_like f ≡ false

abbrev pub Known : Fields → List Fact → Type 0
Known f [] = Unit {0}
Known f (k ∷ ks) = Holds f k × Known f ks

-- ── the values that a field can still have ──

-- does the fact leave this value to this field?
unfoldable pub leaves : Fact → Field → ℕ → Bool
leaves (y ≐ v) x a = not (same_field y x) || eqb a v
leaves (y ≠ v) x a = not (same_field y x) || not (eqb a v)
leaves (y is_none_of vs) x a = not (same_field y x) || not (elem a vs)
leaves (y lowIs v) x a = not (same_field y x) || eqb (a % 4) v
leaves (y low_is_none_of vs) x a = not (same_field y x) || not (elem (a % 4) vs)
leaves busy x a = true

unfoldable pub possible : List Fact → Field → ℕ → Bool
possible [] x a = true
possible (k ∷ ks) x a = leaves k x a && possible ks x a

abbrev pub when : Bool → ℕ → Option ℕ
when true v = some v
when false v = none

-- the one value, where a fact names it
unfoldable pub value_in : Fact → Field → Option ℕ
value_in (y ≐ v) x = when (same_field y x) v
value_in (y ≠ v) x = none
value_in (y is_none_of vs) x = none
value_in (y lowIs v) x = none
value_in (y low_is_none_of vs) x = none
value_in busy x = none

unfoldable pub value_of : List Fact → Field → Option ℕ
value_of [] x = none
value_of (k ∷ ks) x = elim (value_in k x) [ some v ↦ some v | none ↦ value_of ks x ]

-- the test holds at every value that is left
unfoldable pub sure : List Fact → Field → (ℕ → Bool) → Bool
sure ks x p = elim (value_of ks x) [ some v ↦ p v | none ↦ all_below (λ a. not (possible ks x a) || p a) (room x) ]

-- ── they are all that it can have ──

none_no : (a : ℕ) (vs : List ℕ) → NoneOf a vs → T (not (elem a vs))
unfolding elem
none_no a [] h = tt
none_no a (v ∷ vs) h = go (eqb a v) refl (none_no a vs h.0)
  where
    go : (b : Bool) → eqb a v ≡ b → T (not (elem a vs)) → T (not (b || elem a vs))
    go true e t = absurd (h.1 (eqb-true a v e))
    go false e t = t

-- a fact about a field says nothing of another
about : (x y : Field) (f : Fields) (p : ℕ → Bool) → T (p (f y)) → T (not (same_field y x) || p (f x))
about x y f p t = go (Field_discrete y x)
  where
    go : (d : Dec (y ≡ x)) → T (not (elim d [ yes e ↦ true | no n ↦ false ]) || p (f x))
    go (yes e) = subst (λ (z : Field). T (p (f z))) e t
    go (no n) = tt

left : (k : Fact) (f : Fields) → Holds f k → (x : Field) → T (leaves k x (f x))
unfolding leaves
left (y ≐ v) f h x = about x y f (λ a. eqb a v) (at_true (eq-eqb (f y) v h))
left (y ≠ v) f h x = about x y f (λ a. not (eqb a v)) (at_true (ap not (ne_eqb (f y) v h)))
left (y is_none_of vs) f h x = about x y f (λ a. not (elem a vs)) (none_no (f y) vs h)
left (y lowIs v) f h x = about x y f (λ a. eqb (a % 4) v) (at_true (eq-eqb (f y % 4) v h))
left (y low_is_none_of vs) f h x = about x y f (λ a. not (elem (a % 4) vs)) (none_no (f y % 4) vs h)
left busy f h x = tt

possible_is : (ks : List Fact) (f : Fields) → Known f ks → (x : Field) → T (possible ks x (f x))
unfolding possible
possible_is [] f h x = tt
possible_is (k ∷ ks) f h x = and_i (leaves k x (f x)) (possible ks x (f x)) (left k f h.0 x) (possible_is ks f h.1 x)

value_in_lem : (k : Fact) (f : Fields) → Holds f k → (x : Field) (v : ℕ) → value_in k x ≡ some v → f x ≡ v
unfolding value_in
value_in_lem (y ≐ u) f h x v e = go (Field_discrete y x) e
  where
    go : (d : Dec (y ≡ x)) → when (elim d [ yes i ↦ true | no n ↦ false ]) u ≡ some v → f x ≡ v
    go (yes i) q = ap f (sym i) ∙ (h ∙ some-injective u v q)
    go (no n) q = absurd (none-ne-some v q)
value_in_lem (y ≠ u) f h x v e = absurd (none-ne-some v e)
value_in_lem (y is_none_of vs) f h x v e = absurd (none-ne-some v e)
value_in_lem (y lowIs u) f h x v e = absurd (none-ne-some v e)
value_in_lem (y low_is_none_of vs) f h x v e = absurd (none-ne-some v e)
value_in_lem busy f h x v e = absurd (none-ne-some v e)

value_is : (ks : List Fact) (f : Fields) → Known f ks → (x : Field) (v : ℕ) → value_of ks x ≡ some v → f x ≡ v
unfolding value_of
value_is [] f h x v e = absurd (none-ne-some v e)
value_is (k ∷ ks) f h x v e = go (value_in k x) refl e (value_is ks f h.1 x v)
  where
    go : (o : Option ℕ) → value_in k x ≡ o → elim o [ some u ↦ some u | none ↦ value_of ks x ] ≡ some v →
        (value_of ks x ≡ some v → f x ≡ v) → f x ≡ v
    go (some u) q d rec = value_in_lem k f h.0 x u q ∙ some-injective u v d
    go none q d rec = rec d

pub sure_holds : (ks : List Fact) (f : Fields) → Known f ks → Fit f → (x : Field) (p : ℕ → Bool) →
    T (sure ks x p) → T (p (f x))
unfolding sure
sure_holds ks f h i x p t = go (value_of ks x) refl t
  where
    go : (o : Option ℕ) → value_of ks x ≡ o →
        T (elim o [ some v ↦ p v | none ↦ all_below (λ a. not (possible ks x a) || p a) (room x) ]) → T (p (f x))
    go (some v) q s = subst (λ (a : ℕ). T (p a)) (sym (value_is ks f h x v q)) s
    go none q s = implied (possible ks x (f x)) (p (f x))
        (below (λ a. not (possible ks x a) || p a) (room x) s (f x) (i x)) (possible_is ks f h x)
