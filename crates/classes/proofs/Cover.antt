-- Boxes: sets of words given field by field. The walk, computed, shows that each word is in exactly one box of a list.
use Prim.Native.Nat.{ℕ, ◌+◌}
use mathlib.Core.Path.{◌≡◌, refl, sym, ◌∙◌, ap, subst, fun_ext}
use mathlib.Core.Bool.{Bool, true, false, cond, ◌&&◌, and-true, and_comm, and_assoc}
use mathlib.Core.List.{List, [], ◌∷◌, ◌++◌}
use mathlib.Core.Option.{none, some}
use lib.Dec.{T, eqb, eqb→eq}
use lib.ListN.{length, length-append}
use Rattle.word.specs.Word.{Field, op, rs, rt, rd, sa, funct, Fields, Fit, room}
use Rattle.classes.specs.Meaning.{six}
use Rattle.classes.proofs.Tests.{six_and}
use Rattle.laws.proofs.Walk.{Guard, passes, walk, left, walked, sift, sift_append, keep_in, free_in, mark_in, keep_free}
use Rattle.laws.proofs.Walk.{mark_keep, passing, left_sift}

abbrev pub Box : Type 0
Box = Field → Guard

-- is the word in the box?
abbrev pub within : Box → Fields → Bool
within b f = six (λ x. passes (b x) (f x))

-- how many boxes is it in?
abbrev pub count : List Box → Fields → ℕ
count bs f = length (sift (λ b. within b f) bs)

pub count_append : (bs cs : List Box) (f : Fields) → count (bs ++ cs) f ≡ count bs f + count cs f
count_append bs cs f = ap length (sift_append (λ b. within b f) bs cs) ∙ length-append (sift (λ b. within b f) bs) (sift (λ b. within b f) cs)

pub count_none : (f : Fields) → count [] f ≡ 0
unfolding sift
count_none f = refl

pub count_box : (b : Box) (f : Fields) → count (b ∷ []) f ≡ cond (within b f) 1 0
unfolding sift
count_box b f = go (within b f)
  where
    go : (t : Bool) → length (cond t (b ∷ []) []) ≡ cond t 1 0
    go true = refl
    go false = refl

-- ── the walk ──

-- the order in which the walk takes the fields: funct soon, since it tells the rows of a group apart
abbrev pub order : List Field
order = op ∷ funct ∷ rs ∷ rt ∷ rd ∷ sa ∷ []

-- funct second or last
later : (a g b : Bool) → a && (g && b) ≡ a && (b && g)
later a g b = rw (and_comm g b)

regroup : (a b c d e g : Bool) → a && ((b && (c && (d && e))) && g) ≡ a && (b && (c && (d && (e && g))))
regroup a b c d e g = simp and_assoc

pub in_order : (p : Field → Bool) → (p op && (p funct && (p rs && (p rt && (p rd && (p sa && true)))))) ≡ six p
unfolding six
in_order p =
    ap (λ (b : Bool). p op && (p funct && (p rs && (p rt && (p rd && b))))) (and-true (p sa))
    ∙ (later (p op) (p funct) (p rs && (p rt && (p rd && p sa))) ∙ regroup (p op) (p rs) (p rt) (p rd) (p sa) (p funct))

abbrev asked : Box → Field → Guard
asked b = b

abbrev mark : Field → ℕ → List Box → ℕ
mark x v l = mark_in asked x v l 0

-- one box is left, whatever the fields are
unfoldable pub ones : List Box → Bool
ones bs = walk room (keep_in asked) (free_in asked) mark (λ l. eqb (length l) 1) order bs

pub walked_ones : (bs : List Box) (f : Fields) → Fit f → T (ones bs) → count bs f ≡ 1
unfolding ones passing
walked_ones bs f h t = eqb→eq (count bs f) 1 (subst (λ (l : List Box). T (eqb (length l) 1)) left_within passed)
  where
    left_within : left room (keep_in asked) (free_in asked) mark order bs f ≡ sift (λ b. within b f) bs
    left_within =
        left_sift asked room (free_in asked) mark order bs f
        ∙ ap (λ (p : Box → Bool). sift p bs) (fun_ext (λ b. in_order (λ x. passes (b x) (f x))))

    passed : T (eqb (length (left room (keep_in asked) (free_in asked) mark order bs f)) 1)
    passed =
        walked room (keep_in asked) (free_in asked) mark (keep_free asked) (λ x u v l e. (mark_keep asked x u v l 0 0 e).0)
        (λ l. eqb (length l) 1) order bs f h t

-- ── boxes that meet ──

abbrev pub both : Guard → Guard → Guard
both none h = h
both (some p) none = some p
both (some p) (some q) = some (λ a. p a && q a)

pub passes_both : (g h : Guard) (a : ℕ) → passes (both g h) a ≡ (passes g a && passes h a)
passes_both none h a = refl
passes_both (some p) none a = sym (and-true (p a))
passes_both (some p) (some q) a = refl

abbrev pub meet : Box → Box → Box
meet b c x = both (b x) (c x)

pub six_same : (p q : Field → Bool) → ((x : Field) → p x ≡ q x) → six p ≡ six q
six_same p q h = ap six (fun_ext h)

pub within_meet : (b c : Box) (f : Fields) → within (meet b c) f ≡ (within b f && within c f)
within_meet b c f =
    six_same (λ x. passes (both (b x) (c x)) (f x)) (λ x. passes (b x) (f x) && passes (c x) (f x)) (λ x. passes_both (b x) (c x) (f x))
    ∙ six_and (λ x. passes (b x) (f x)) (λ x. passes (c x) (f x))
