-- The row of a reading, in a table that passes the test.
use Prim.Native.Nat.{ℕ}
use mathlib.Core.Path.{◌≡◌, refl, sym, ◌∙◌, ap, subst}
use mathlib.Core.Bool.{Bool, true, false, not, cond, ◌&&◌, ◌||◌}
use mathlib.Core.List.{List, [], ◌∷◌}
use mathlib.Core.Logic.{◌⊎◌, inl, inr}
use mathlib.Core.Option.{some, none-ne-some, some-injective}
use borrow.Author.Tests.{eqb-true, eq-eqb}
use lib.Dec.{T, T_not, eqb, eqb→eq, eqb_refl}
use lib.IntN.{ℤ}
use Rattle.reading.specs.Kind as kind
use Rattle.classes.specs.Row.{Row}
use Rattle.classes.specs.Refusals.{Refusal}
use Rattle.laws.proofs.Tests.{and_l, and_r, and_i, implied, at_true, at_false, EachOf, each_of}
use Rattle.classes.proofs.Boxes.{exact}
use Rattle.classes.proofs.Accepts.{numbered}
use Rattle.classes.proofs.Find.{In, every, every_in}
use Rattle.inverse.specs.Private.Candidate.{pick, first, holds, suits}
use Rattle.inverse.proofs.Good.{sound, twin, paired, good}
use Rattle.inverse.proofs.Rows.{Sound, sound_row}
use Rattle.inverse.proofs.Twins.{Pair, twin_pair}

-- ── the row of a reading ──

-- but for `li` that is the same
pub pick_first : (ts : List Row) (k : ℕ) (z : ℤ) → ¬ (k ≡ kind.li) → pick ts k z ≡ first ts k
unfolding pick first suits
pick_first [] k z n = refl
pick_first (s ∷ ts) k z n = go (pick_first ts k z n) (eqb s.kind k) refl (eqb s.kind kind.li) refl
  where
    go : pick ts k z ≡ first ts k → (b : Bool) → eqb s.kind k ≡ b → (c : Bool) → eqb s.kind kind.li ≡ c →
        cond (b && (not c || holds s.form z)) (some s) (pick ts k z) ≡ cond b (some s) (first ts k)
    go rec true e true d = absurd (n (sym (eqb-true s.kind k e) ∙ eqb-true s.kind kind.li d))
    go rec true e false d = refl
    go rec false e c d = rec

-- and it is the same if the first can have the value
pub pick_suited : (ts : List Row) (k : ℕ) (z : ℤ) (h : Row) → first ts k ≡ some h → T (suits h z) → pick ts k z ≡ some h
unfolding pick first
pick_suited [] k z h e t = absurd (none-ne-some h e)
pick_suited (s ∷ ts) k z h e t = go (eqb s.kind k) e (λ d. pick_suited ts k z h d t)
  where
    at_once : (b : Bool) → T b → cond b (some s) (pick ts k z) ≡ some s
    at_once true u = refl
    at_once false u = absurd u

    go : (b : Bool) → cond b (some s) (first ts k) ≡ some h → (first ts k ≡ some h → pick ts k z ≡ some h) →
        cond (b && suits s z) (some s) (pick ts k z) ≡ some h
    go true d rec =
        let is : s ≡ h = some-injective s h d in
        at_once (suits s z) (subst (λ (x : Row). T (suits x z)) (sym is) t) ∙ d
    go false d rec = rec d

-- what is picked has the mnemonic, and passes what all rows pass
pub pick_every : (p : Row → Bool) (ts : List Row) → T (every p ts) → (k : ℕ) (z : ℤ) (h : Row) → pick ts k z ≡ some h → (h.kind ≡ k) × T (p h)
unfolding pick every
pick_every p [] t k z h e = absurd (none-ne-some h e)
pick_every p (s ∷ ts) t k z h e = go (eqb s.kind k && suits s z) refl e (pick_every p ts (and_r (p s) (every p ts) t) k z h)
  where
    go : (b : Bool) → (eqb s.kind k && suits s z) ≡ b → cond b (some s) (pick ts k z) ≡ some h →
        (pick ts k z ≡ some h → (h.kind ≡ k) × T (p h)) → (h.kind ≡ k) × T (p h)
    go true q d rec =
        subst (λ (x : Row). (x.kind ≡ k) × T (p x)) (some-injective s h d)
        (eqb→eq s.kind k (and_l (eqb s.kind k) (suits s z) (at_true q)), and_l (p s) (every p ts) t)
    go false q d rec = rec d

-- one row, or the other's twin
abbrev pub Near : Row → Row → Type 0
Near h r = (h ≡ r) ⊎ Pair h r

pub record Picked (ts : List Row) (r : Row) (z : ℤ) (h : Row) : Type 0 where
  pub found : pick ts r.kind z ≡ some h
  pub here : In h ts
  pub kind : h.kind ≡ r.kind
  pub suited : T (suits h z)
  pub near : Near h r

later_pair : (h : Row) (ts : List Row) → T (paired (h ∷ ts)) → (r : Row) → In r ts → h.kind ≡ r.kind → Pair h r
unfolding paired
later_pair h ts t r i e = twin_pair h r (implied (eqb h.kind r.kind) (twin h r) both (at_true (eq-eqb h.kind r.kind e)))
  where
    ok : Row → Bool
    ok s = not (eqb h.kind s.kind) || twin h s

    both : T (ok r)
    both = every_in ok ts (and_l (every ok ts) (paired ts) t) r i

later : (h : Row) (ts : List Row) → T (paired (h ∷ ts)) → T (paired ts)
unfolding paired
later h ts t = and_r (every (λ s. not (eqb h.kind s.kind) || twin h s) ts) (paired ts) t

pub pick_law : (ts : List Row) → T (paired ts) → (r : Row) → In r ts → (z : ℤ) → T (suits r z) → (h : Row) × Picked ts r z h
unfolding pick In
pick_law [] t r i z u = absurd i
pick_law (s ∷ ts) t r i z u = go (λ j. pick_law ts (later s ts t) r j z u) (eqb s.kind r.kind && suits s z) refl
  where
    near : (r ≡ s) ⊎ In r ts → s.kind ≡ r.kind → Near s r
    near (inl e) k = inl (sym e)
    near (inr j) k = inr (later_pair s ts t r j k)

    behind : (eqb s.kind r.kind && suits s z) ≡ false → (r ≡ s) ⊎ In r ts → In r ts
    behind q (inl e) =
        absurd (T_not (eqb s.kind r.kind && suits s z) (at_false q)
        (subst (λ (x : Row). T (eqb x.kind r.kind && suits x z)) e (and_i (eqb r.kind r.kind) (suits r z) (eqb_refl r.kind) u)))
    behind q (inr j) = j

    chosen : (b : Bool) → (eqb s.kind r.kind && suits s z) ≡ b → pick (s ∷ ts) r.kind z ≡ cond b (some s) (pick ts r.kind z)
    chosen b q = ap (λ (c : Bool). cond c (some s) (pick ts r.kind z)) q

    go : (In r ts → (h : Row) × Picked ts r z h) → (b : Bool) → (eqb s.kind r.kind && suits s z) ≡ b → (h : Row) × Picked (s ∷ ts) r z h
    go rec true q =
        let k : s.kind ≡ r.kind = eqb→eq s.kind r.kind (and_l (eqb s.kind r.kind) (suits s z) (at_true q)) in
        let u : T (suits s z) = and_r (eqb s.kind r.kind) (suits s z) (at_true q) in
        (s, record { found = chosen true q; here = inl refl; kind = k; suited = u; near = near i k })
    go rec false q =
        let p : (h : Row) × Picked ts r z h = rec (behind q i) in
        (p.0, record { found = chosen false q ∙ p.1.found; here = inr p.1.here; kind = p.1.kind; suited = p.1.suited; near = p.1.near })

-- two rows of one mnemonic
pub same_kind : (ts : List Row) → T (paired ts) → (r s : Row) → In r ts → In s ts → r.kind ≡ s.kind → Near r s ⊎ Pair s r
unfolding In
same_kind [] t r s i j k = absurd i
same_kind (q ∷ ts) t r s (inl e) (inl d) k = inl (inl (e ∙ sym d))
same_kind (q ∷ ts) t r s (inl e) (inr j) k =
    inl (inr (subst (λ (x : Row). Pair x s) (sym e) (later_pair q ts t s j (ap (λ (x : Row). x.kind) (sym e) ∙ k))))
same_kind (q ∷ ts) t r s (inr i) (inl d) k =
    inr (subst (λ (x : Row). Pair x r) (sym d) (later_pair q ts t r i (ap (λ (x : Row). x.kind) (sym d) ∙ sym k)))
same_kind (q ∷ ts) t r s (inr i) (inr j) k = same_kind ts (later q ts t) r s i j k

-- ── what the test says of the tables ──

pub record Good (ts : List Row) (es : List Refusal) : Type 0 where
  pub exact : T (exact ts es)
  pub numbered : T (numbered es)
  pub rows : (r : Row) → In r ts → Sound r
  pub paired : T (paired ts)

pub good_is : (ts : List Row) (es : List Refusal) → T (good ts es) → Good ts es
unfolding good
good_is ts es t = go (each_of (exact ts es ∷ numbered es ∷ every sound ts ∷ paired ts ∷ []) t)
  where
    go : EachOf (exact ts es ∷ numbered es ∷ every sound ts ∷ paired ts ∷ []) → Good ts es
    go (exact, (numbered, (rows, (paired, _)))) =
        record {
          exact = exact;
          numbered = numbered;
          rows = λ r i. sound_row r (every_in sound ts rows r i);
          paired = paired;
        }
