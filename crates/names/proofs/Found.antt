-- What `kind_of` finds: the place of a name in the list. No two names are the same, so each kind has its name back.
use Prim.Native.Nat.{ℕ, zero, suc, ◌+◌, ◌≤◌, ◌<◌}
use Prim.Native.String.{String}
use mathlib.Core.Path.{◌≡◌, refl, sym, ◌∙◌, ap, subst}
use mathlib.Core.Bool.{Bool, true, false, not}
use mathlib.Core.Logic.{◌⊎◌, inl, inr}
use mathlib.Core.List.{List, [], ◌∷◌, map}
use native.Mathlib.Omega.{arith}
use lib.Dec.{T, T_not, eqb, eqb_refl}
use lib.ListN.{length, get_or, length-map, get_or-map, get_or-eq_default}
use Rattle.buffers.specs.Bytes.{num}
use Rattle.reading.specs.Kind.{many}
use Rattle.reading.specs.Names.{mnemonics, name_of}
use Rattle.text.specs.Text.{letter, letters, padded, same}
use Rattle.names.specs.Names.{name_bytes, no_kind, kind_in, kind_of}
use Rattle.laws.specs.Lists.{elem}
use Rattle.laws.proofs.Tests.{and_l, and_r, or_l, or_r, distinct}
use Rattle.text.proofs.Texts.{same_eq, same_self}

-- ── the place of a name in a list ──

-- l is the name at place `at` of the names ss, which are counted from k on
pub record FoundAt (ss : List String) (k : ℕ) (l : List ℕ) : Type 0 where
  pub at : ℕ
  pub inside : at < length ss
  pub kind : kind_in ss k l ≡ k + at
  pub bytes : l ≡ padded 16 (get_or ss at "")

here : (s : String) (ss : List String) (k : ℕ) (l : List ℕ) → same (padded 16 s) l ≡ true → FoundAt (s ∷ ss) k l
unfolding kind_in
here s ss k l e =
    record {
      at = 0;
      inside = omega arith;
      kind = rw e (omega arith);
      bytes = sym (same_eq (padded 16 s) l (subst T (sym e) tt));
    }

later : (s : String) (ss : List String) (k : ℕ) (l : List ℕ) → same (padded 16 s) l ≡ false →
    FoundAt ss (suc k) l → FoundAt (s ∷ ss) k l
unfolding kind_in
later s ss k l e f =
    record { at = suc f.at; inside = omega arith; kind = rw e (f.kind ∙ omega arith); bytes = f.bytes }

-- no name is `kind_or_none`, or one at some place
finds : (ss : List String) (k : ℕ) (l : List ℕ) → (kind_in ss k l ≡ no_kind) ⊎ FoundAt ss k l
unfolding kind_in
finds [] k l = inl refl
finds (s ∷ ss) k l = go (same (padded 16 s) l) refl (finds ss (suc k) l)
  where
    go : (b : Bool) → same (padded 16 s) l ≡ b → (kind_in ss (suc k) l ≡ no_kind) ⊎ FoundAt ss (suc k) l →
        (kind_in (s ∷ ss) k l ≡ no_kind) ⊎ FoundAt (s ∷ ss) k l
    go true e rec = inr (here s ss k l e)
    go false e (inl n) = inl (rw e n)
    go false e (inr f) = inr (later s ss k l e f)

-- a name of the list is found
reaches : (ss : List String) (k : ℕ) (l : List ℕ) (j : ℕ) → j < length ss → l ≡ padded 16 (get_or ss j "") →
    FoundAt ss k l
unfolding kind_in
reaches [] k l j h e = absurd (omega arith)
reaches (s ∷ ss) k l zero h e = here s ss k l (rw e (same_self (padded 16 s)))
reaches (s ∷ ss) k l (suc j) h e = go (same (padded 16 s) l) refl (reaches ss (suc k) l j (omega arith) e)
  where
    go : (b : Bool) → same (padded 16 s) l ≡ b → FoundAt ss (suc k) l → FoundAt (s ∷ ss) k l
    go true d f = here s ss k l d
    go false d f = later s ss k l d f

-- ── no two names are the same ──

elem_at : (xs : List ℕ) (i : ℕ) → i < length xs → T (elem (get_or xs i 0) xs)
unfolding elem
elem_at [] i h = absurd (omega arith)
elem_at (y ∷ ys) zero h = or_l (eqb y y) (elem y ys) (eqb_refl y)
elem_at (y ∷ ys) (suc i) h = or_r (eqb (get_or ys i 0) y) (elem (get_or ys i 0) ys) (elem_at ys i (omega arith))

absent_at : (x : ℕ) (xs : List ℕ) (i : ℕ) → T (not (elem x xs)) → i < length xs → x ≡ get_or xs i 0 → ⊥
absent_at x xs i t h e = T_not (elem x xs) t (subst (λ (y : ℕ). T (elem y xs)) (sym e) (elem_at xs i h))

apart : (xs : List ℕ) (i j : ℕ) → T (distinct xs) → i < length xs → j < length xs →
    get_or xs i 0 ≡ get_or xs j 0 → i ≡ j
unfolding distinct
apart [] i j t h k e = absurd (omega arith)
apart (x ∷ xs) zero zero t h k e = refl
apart (x ∷ xs) zero (suc j) t h k e =
    absurd (absent_at x xs j (and_l (not (elem x xs)) (distinct xs) t) (omega arith) e)
apart (x ∷ xs) (suc i) zero t h k e =
    absurd (absent_at x xs i (and_l (not (elem x xs)) (distinct xs) t) (omega arith) (sym e))
apart (x ∷ xs) (suc i) (suc j) t h k e =
    ap suc (apart xs i j (and_r (not (elem x xs)) (distinct xs) t) (omega arith) (omega arith) e)

-- a name as one number
abbrev number : String → ℕ
number s = num (padded 16 s)

all_apart : T (distinct (map number mnemonics))
unfolding elem distinct mnemonics padded letters letter
all_apart = tt

names_many : length mnemonics ≡ many
unfolding mnemonics
names_many = refl

pub name_one : (j k : ℕ) → j < many → k < many → name_bytes j ≡ name_bytes k → j ≡ k
unfolding name_bytes name_of padded letters letter
name_one j k h i e =
    apart (map number mnemonics) j k all_apart (inside j h) (inside k i)
    (get_or-map number mnemonics j "" ∙ ap num e ∙ sym (get_or-map number mnemonics k ""))
  where
    inside : (n : ℕ) → n < many → n < length (map number mnemonics)
    inside n h = rw (length-map mnemonics number, names_many) h

-- ── what follows ──

-- past the kinds there is no name
pub no_name : (k : ℕ) → many ≤ k → name_bytes k ≡ padded 16 ""
unfolding name_bytes name_of
no_name k h = ap (padded 16) (get_or-eq_default mnemonics "" (rw names_many h))

-- the kind of l
pub record HasKind (l : List ℕ) : Type 0 where
  pub kind : ℕ
  pub small : kind < many
  pub is : kind_of l ≡ kind
  pub bytes : l ≡ name_bytes kind

-- a kind that is found has the name
pub kind_or_none : (l : List ℕ) → (kind_of l ≡ no_kind) ⊎ HasKind l
unfolding kind_of name_bytes name_of
kind_or_none l = go (finds mnemonics 0 l)
  where
    go : (kind_in mnemonics 0 l ≡ no_kind) ⊎ FoundAt mnemonics 0 l → (kind_of l ≡ no_kind) ⊎ HasKind l
    go (inl n) = inl n
    go (inr f) =
        inr (record { kind = f.at; small = rw names_many at f.inside; is = f.kind ∙ omega arith; bytes = f.bytes })

pub back : (k : ℕ) → k < many → kind_of (name_bytes k) ≡ k
unfolding kind_of name_bytes name_of
back k h =
    let f : FoundAt mnemonics 0 (name_bytes k) = reaches mnemonics 0 (name_bytes k) k (rw names_many h) refl in
    let i : f.at < many = rw names_many at f.inside in
    let e : f.at ≡ k = name_one f.at k i h (sym f.bytes) in
    f.kind ∙ omega arith

-- bytes that have a kind are its name
pub named : (l : List ℕ) (k : ℕ) → k < many → kind_of l ≡ k → l ≡ name_bytes k
named l k h e = go (kind_or_none l)
  where
    go : (kind_of l ≡ no_kind) ⊎ HasKind l → l ≡ name_bytes k
    go (inl n) = absurd (omega arith)
    go (inr f) = f.bytes ∙ ap name_bytes (sym f.is ∙ e)

-- zeros are not a name
pub no_kind_lem : kind_of (padded 16 "") ≡ no_kind
unfolding kind_of kind_in same mnemonics padded letters letter
no_kind_lem = refl
