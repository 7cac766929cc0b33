-- Laws of tests: their connectives, what a choice keeps, a test computed at every number below a bound, numbers of which none is there twice, what no
-- arm of a `match` has.
use Prim.Native.Nat.{ℕ, zero, suc, ◌+◌, ◌<◌, ◌≤◌}
use mathlib.Core.Path.{◌≡◌, refl, sym, subst}
use mathlib.Core.Bool.{Bool, true, false, not, cond, ◌&&◌, ◌||◌, beq}
use mathlib.Core.List.{List, [], ◌∷◌}
use mathlib.Core.Logic.{◌⊎◌, inl, inr}
use native.Mathlib.Omega.{arith}
use lib.Dec.{T, eqb}
use borrow.Author.Tests.{eqb-true, eqb-false}
use Rattle.laws.specs.Lists.{elem}

pub and_l : (a b : Bool) → T (a && b) → T a
and_l true b t = tt
and_l false b t = t

pub and_r : (a b : Bool) → T (a && b) → T b
and_r true b t = t
and_r false b t = absurd t

pub and_i : (a b : Bool) → T a → T b → T (a && b)
and_i true b s t = t
and_i false b s t = s

-- tests joined by &&, and what each of them says
abbrev pub all_of : List Bool → Bool
all_of [] = true
all_of (b ∷ []) = b
all_of (b ∷ c ∷ bs) = b && all_of (c ∷ bs)

abbrev pub EachOf : List Bool → Type 0
EachOf [] = Unit {0}
EachOf (b ∷ bs) = T b × EachOf bs

pub each_of : (bs : List Bool) → T (all_of bs) → EachOf bs
each_of [] t = tt
each_of (b ∷ []) t = (t, tt)
each_of (b ∷ c ∷ bs) t = (and_l b (all_of (c ∷ bs)) t, each_of (c ∷ bs) (and_r b (all_of (c ∷ bs)) t))

pub or_l : (a b : Bool) → T a → T (a || b)
or_l true b t = tt
or_l false b t = absurd t

pub or_r : (a b : Bool) → T b → T (a || b)
or_r true b t = tt
or_r false b t = t

pub or_e : (a b : Bool) → T (a || b) → T a ⊎ T b
or_e true b t = inl tt
or_e false b t = inr t

pub implies : (a b : Bool) → (T a → T b) → T (not a || b)
implies true b h = h tt
implies false b h = tt

pub implied : (a b : Bool) → T (not a || b) → T a → T b
implied true b t s = t
implied false b t s = absurd s

-- either way of a choice
pub chosen : {A : Type 0} (b : Bool) (P : A → Type 0) (x y : A) → (T b → P x) → (¬ T b → P y) → P (cond b x y)
chosen true P x y p q = p tt
chosen false P x y p q = q (λ t. t)

pub either : {A : Type 0} (P : A → Type 0) (b : Bool) {x y : A} → P x → P y → P (cond b x y)
either P b {x} {y} p q = chosen b P x y (λ t. p) (λ n. q)

-- a test whose value is known
pub true_of : (b : Bool) → T b → b ≡ true
true_of true t = refl
true_of false t = absurd t

pub at_true : {b : Bool} → b ≡ true → T b
at_true e = subst T (sym e) tt

pub at_false : {b : Bool} → b ≡ false → T (not b)
at_false e = subst (λ (c : Bool). T (not c)) (sym e) tt

-- two tests that agree
pub beq_same : (a b : Bool) → T (beq a b) → a ≡ b
beq_same true true t = refl
beq_same true false t = absurd t
beq_same false true t = absurd t
beq_same false false t = refl

-- a decision that computes to yes
pub decided : {A : Type 0} (d : Dec A) → T (elim d [ yes e ↦ true | no n ↦ false ]) → A
decided (yes e) t = e
decided (no n) t = absurd t

-- two conjunctions, pair by pair
pub zip : (a b c d : Bool) → (a && b) && (c && d) ≡ (a && c) && (b && d)
zip false b c d = refl
zip true false false d = refl
zip true false true d = refl
zip true true c d = refl

-- a test at every number below a bound
unfoldable pub all_below : (ℕ → Bool) → ℕ → Bool
all_below p zero = true
all_below p (suc n) = p n && all_below p n

pub below : (p : ℕ → Bool) (n : ℕ) → T (all_below p n) → (k : ℕ) → k < n → T (p k)
unfolding all_below
below p zero t k h = absurd (omega arith)
below p (suc n) t k h = go (eqb k n) refl (below p n (and_r (p n) (all_below p n) t) k)
  where
    go : (b : Bool) → eqb k n ≡ b → (k < n → T (p k)) → T (p k)
    go true e rec = subst (λ (m : ℕ). T (p m)) (sym (eqb-true k n e)) (and_l (p n) (all_below p n) t)
    go false e rec = let d : ¬ (k ≡ n) = eqb-false k n e in rec (omega arith)

-- no number twice
unfoldable pub distinct : List ℕ → Bool
distinct [] = true
distinct (k ∷ l) = not (elem k l) && distinct l

-- none of n numbers from a on, the last first, as the arm `_` of a `match` knows it
abbrev pub NoneFrom : ℕ → ℕ → ℕ → Type 0
NoneFrom m a zero = Unit {0}
NoneFrom m a (suc n) = NoneFrom m a n × (m ≡ a + n → ⊥)

-- what no arm has stands past them
pub past : (m a n : ℕ) → a ≤ m → NoneFrom m a n → a + n ≤ m
past m a zero h p = omega arith
past m a (suc n) h p = let q : a + n ≤ m = past m a n h p.0 in let d : ¬ (m ≡ a + n) = p.1 in omega arith
