-- A walk over axes, along each of which a word has a value: for each value that some test on the axis tells from others, what the tests
-- leave of a list is walked on with. antt computes it; it shows that what is left for any word passes a last test.
use Prim.Native.Nat.{ℕ, zero, suc, ◌+◌, ◌*◌, ◌<◌}
use mathlib.Core.Path.{◌≡◌, refl, sym, ◌∙◌, ap, subst}
use mathlib.Core.Bool.{Bool, true, false, cond, ◌&&◌, ◌||◌}
use mathlib.Core.List.{List, [], ◌∷◌, ◌++◌}
use mathlib.Core.Option.{Option, none, some}
use native.Mathlib.Omega.{arith}
use lib.Dec.{T, eqb}
use borrow.Author.Tests.{eqb-true, eqb-false}
use Rattle.laws.specs.Lists.{elem}
use Rattle.laws.proofs.Tests.{and_l, and_r}

-- ── values that differ ──

-- a test at every number below a bound, but only once for numbers that have the same mark
unfoldable pub spread : (ℕ → Bool) → (ℕ → ℕ) → ℕ → List ℕ → Bool
spread p m zero seen = true
spread p m (suc n) seen = elim (elem (m n) seen) [ true ↦ spread p m n seen | false ↦ p n && spread p m n (m n ∷ seen) ]

module _ (p : ℕ → Bool) (m : ℕ → ℕ) (like : (u v : ℕ) → m u ≡ m v → T (p u) → T (p v)) where
  one_more : (u : ℕ) (seen : List ℕ) → T (p u) → ((v : ℕ) → T (elem (m v) seen) → T (p v)) → (v : ℕ) → T (elem (m v) (m u ∷ seen)) → T (p v)
  unfolding elem
  one_more u seen t known v e = go (eqb (m v) (m u)) refl e
    where
      go : (b : Bool) → eqb (m v) (m u) ≡ b → T (elem (m v) (m u ∷ seen)) → T (p v)
      go true d s = like u v (sym (eqb-true (m v) (m u) d)) t
      go false d s = known v (subst (λ (c : Bool). T (c || elem (m v) seen)) d s)

  pub spread_at : (n : ℕ) (seen : List ℕ) → ((v : ℕ) → T (elem (m v) seen) → T (p v)) → T (spread p m n seen) → (v : ℕ) → v < n → T (p v)
  unfolding spread
  spread_at zero seen known t v h = absurd (omega arith)
  spread_at (suc n) seen known t v h = go (elem (m n) seen) refl t (λ l k s. spread_at n l k s v)
    where
      here : T (p n) → (v < n → T (p v)) → T (p v)
      here s rec = at (eqb v n) refl
        where
          at : (b : Bool) → eqb v n ≡ b → T (p v)
          at true e = subst (λ (k : ℕ). T (p k)) (sym (eqb-true v n e)) s
          at false e = let d : ¬ (v ≡ n) = eqb-false v n e in rec (omega arith)

      go : (b : Bool) → elem (m n) seen ≡ b → T (elim b [ true ↦ spread p m n seen | false ↦ p n && spread p m n (m n ∷ seen) ]) →
          ((l : List ℕ) → ((k : ℕ) → T (elem (m k) l) → T (p k)) → T (spread p m n l) → v < n → T (p v)) → T (p v)
      go true e s rec = here (known n (subst T (sym e) tt)) (rec seen known s)
      go false e s rec =
          here (and_l (p n) (spread p m n (m n ∷ seen)) s)
          (rec (m n ∷ seen) (one_more n seen (and_l (p n) (spread p m n (m n ∷ seen)) s) known) (and_r (p n) (spread p m n (m n ∷ seen)) s))

-- ── the walk ──

-- what is walked with (S), how a value on an axis cuts it down (`keep`), whether no value does (`free`), and a mark that tells values
-- apart which cut it down otherwise
module _ {Axis S : Type 0} (room : Axis → ℕ) (keep : Axis → ℕ → S → S) (free : Axis → S → Bool) (mark : Axis → ℕ → S → ℕ) where
  unfoldable pub walk : (S → Bool) → List Axis → S → Bool
  walk good [] s = good s
  walk good (x ∷ xs) s =
      elim (free x s) [ true ↦ walk good xs s | false ↦ spread (λ v. walk good xs (keep x v s)) (λ v. mark x v s) (room x) [] ]

  -- what is left for a word
  unfoldable pub left : List Axis → S → (Axis → ℕ) → S
  left [] s c = s
  left (x ∷ xs) s c = left xs (keep x (c x) s) c

  -- THE LAW of the walk
  pub walked : ((x : Axis) (v : ℕ) (s : S) → T (free x s) → keep x v s ≡ s) → ((x : Axis) (u v : ℕ) (s : S) → mark x u s ≡ mark x v s → keep x u s ≡ keep x v s) →
      (good : S → Bool) (xs : List Axis) (s : S) (c : Axis → ℕ) → ((x : Axis) → c x < room x) → T (walk good xs s) → T (good (left xs s c))
  unfolding walk left elem
  walked frees marks good [] s c h t = t
  walked frees marks good (x ∷ xs) s c h t = go (free x s) refl t (walked frees marks good xs s c h) (walked frees marks good xs (keep x (c x) s) c h)
    where
      go : (b : Bool) → free x s ≡ b →
          T (elim b [ true ↦ walk good xs s | false ↦ spread (λ v. walk good xs (keep x v s)) (λ v. mark x v s) (room x) [] ]) →
          (T (walk good xs s) → T (good (left xs s c))) → (T (walk good xs (keep x (c x) s)) → T (good (left xs (keep x (c x) s) c))) →
          T (good (left xs (keep x (c x) s) c))
      go true e w same cut = subst (λ (r : S). T (good (left xs r c))) (sym (frees x (c x) s (subst T (sym e) tt))) (same w)
      go false e w same cut =
          cut
          (spread_at (λ v. walk good xs (keep x v s)) (λ v. mark x v s)
          (λ u v d. subst (λ (r : S). T (walk good xs r)) (marks x u v s d))
          (room x) [] (λ v k. absurd k) w (c x) (h x))

-- ── lists of things that ask something on each axis ──

-- what is asked on an axis: nothing, or a test
abbrev pub Guard : Type 0
Guard = Option (ℕ → Bool)

abbrev pub passes : Guard → ℕ → Bool
passes none a = true
passes (some p) a = p a

abbrev free_guard : Guard → Bool
free_guard none = true
free_guard (some p) = false

-- a mark of what came before, and whether a value passes
abbrev marked : Guard → ℕ → ℕ → ℕ
marked none v s = s
marked (some p) v s = 2 * s + cond (p v) 1 0

-- the members of a list that pass a test
module _ {A : Type 0} where
  unfoldable pub sift : (A → Bool) → List A → List A
  sift p [] = []
  sift p (a ∷ l) = cond (p a) (a ∷ sift p l) (sift p l)

  pub sift_append : (p : A → Bool) (l k : List A) → sift p (l ++ k) ≡ sift p l ++ sift p k
  unfolding sift
  sift_append p [] k = refl
  sift_append p (a ∷ l) k = go (p a) (sift_append p l k)
    where
      go : (b : Bool) → sift p (l ++ k) ≡ sift p l ++ sift p k → cond b (a ∷ sift p (l ++ k)) (sift p (l ++ k)) ≡ cond b (a ∷ sift p l) (sift p l) ++ sift p k
      go true e = ap (λ (r : List A). a ∷ r) e
      go false e = e

  pub sift_true : (l : List A) → sift (λ a. true) l ≡ l
  unfolding sift
  sift_true [] = refl
  sift_true (a ∷ l) = ap (λ (r : List A). a ∷ r) (sift_true l)

  sift_twice : (p q : A → Bool) (l : List A) → sift q (sift p l) ≡ sift (λ a. p a && q a) l
  unfolding sift
  sift_twice p q [] = refl
  sift_twice p q (a ∷ l) = go (p a) (sift_twice p q l)
    where
      both : (d : Bool) → sift q (sift p l) ≡ sift (λ k. p k && q k) l →
          cond d (a ∷ sift q (sift p l)) (sift q (sift p l)) ≡ cond d (a ∷ sift (λ k. p k && q k) l) (sift (λ k. p k && q k) l)
      both true e = ap (λ (r : List A). a ∷ r) e
      both false e = e

      go : (b : Bool) → sift q (sift p l) ≡ sift (λ k. p k && q k) l →
          sift q (cond b (a ∷ sift p l) (sift p l)) ≡ cond (b && q a) (a ∷ sift (λ k. p k && q k) l) (sift (λ k. p k && q k) l)
      go true e = both (q a) e
      go false e = e

module _ {Axis A : Type 0} (ask : A → Axis → Guard) where
  abbrev pub keep_in : Axis → ℕ → List A → List A
  keep_in x v l = sift (λ a. passes (ask a x) v) l

  unfoldable pub free_in : Axis → List A → Bool
  free_in x [] = true
  free_in x (a ∷ l) = free_guard (ask a x) && free_in x l

  -- the mark of a list, after that of another one
  unfoldable pub mark_in : Axis → ℕ → List A → ℕ → ℕ
  mark_in x v [] s = s
  mark_in x v (a ∷ l) s = mark_in x v l (marked (ask a x) v s)

  pub keep_free : (x : Axis) (v : ℕ) (l : List A) → T (free_in x l) → keep_in x v l ≡ l
  unfolding sift free_in
  keep_free x v [] t = refl
  keep_free x v (a ∷ l) t = go (ask a x) (and_l (free_guard (ask a x)) (free_in x l) t) (keep_free x v l (and_r (free_guard (ask a x)) (free_in x l) t))
    where
      go : (g : Guard) → T (free_guard g) → keep_in x v l ≡ l → cond (passes g v) (a ∷ keep_in x v l) (keep_in x v l) ≡ a ∷ l
      go none s e = ap (λ (r : List A). a ∷ r) e
      go (some p) s e = absurd s

  -- equal marks: equal marks before, and the same members pass
  pub mark_keep : (x : Axis) (u v : ℕ) (l : List A) (s t : ℕ) → mark_in x u l s ≡ mark_in x v l t → (keep_in x u l ≡ keep_in x v l) × (s ≡ t)
  unfolding sift mark_in
  mark_keep x u v [] s t e = (refl, e)
  mark_keep x u v (a ∷ l) s t e = go (ask a x) (mark_keep x u v l (marked (ask a x) u s) (marked (ask a x) v t) e)
    where
      pair : (b d : Bool) → (keep_in x u l ≡ keep_in x v l) × (2 * s + cond b 1 0 ≡ 2 * t + cond d 1 0) →
          (cond b (a ∷ keep_in x u l) (keep_in x u l) ≡ cond d (a ∷ keep_in x v l) (keep_in x v l)) × (s ≡ t)
      pair true true r = (ap (λ (k : List A). a ∷ k) r.0, omega (arith, r.1))
      pair true false r = absurd (omega (arith, r.1))
      pair false true r = absurd (omega (arith, r.1))
      pair false false r = (r.0, omega (arith, r.1))

      go : (g : Guard) → (keep_in x u l ≡ keep_in x v l) × (marked g u s ≡ marked g v t) →
          (cond (passes g u) (a ∷ keep_in x u l) (keep_in x u l) ≡ cond (passes g v) (a ∷ keep_in x v l) (keep_in x v l)) × (s ≡ t)
      go none r = (ap (λ (k : List A). a ∷ k) r.0, r.1)
      go (some p) r = pair (p u) (p v) r

  -- does it pass on all axes of a list?
  unfoldable pub passing : List Axis → A → (Axis → ℕ) → Bool
  passing [] a c = true
  passing (x ∷ xs) a c = passes (ask a x) (c x) && passing xs a c

  -- what is left of a list for a word: the members that pass on all axes
  pub left_sift : (room : Axis → ℕ) (free : Axis → List A → Bool) (mark : Axis → ℕ → List A → ℕ) (xs : List Axis) (l : List A) (c : Axis → ℕ) →
      left room keep_in free mark xs l c ≡ sift (λ a. passing xs a c) l
  unfolding left passing
  left_sift room free mark [] l c = sym (sift_true l)
  left_sift room free mark (x ∷ xs) l c =
      left_sift room free mark xs (keep_in x (c x) l) c ∙ sift_twice (λ a. passes (ask a x) (c x)) (λ a. passing xs a c) l
