-- The axes of the walk: a word's six fields, and the relations between two of them. What a line of the manual, a row, an entry of the
-- acceptance table and an exception ask on each axis; and that they ask just that.
use Prim.Native.Nat.{ℕ, ◌<◌}
use mathlib.Core.Path.{◌≡◌, refl, ◌∙◌, ap, ap₂, fun_ext}
use mathlib.Core.Bool.{Bool, true, false, not, cond, ◌&&◌, and-true, and_assoc}
use mathlib.Core.List.{List, [], ◌∷◌}
use mathlib.Core.Option.{none, some}
use native.Mathlib.Omega.{arith}
use lib.Dec.{eqb}
use Rattle.word.specs.Word.{Field, op, rs, rt, rd, sa, funct, Fields, Fit, room}
use Rattle.classes.specs.Meaning.{six}
use Rattle.classes.specs.Refusals.{meets}
use Rattle.laws.proofs.Tests.{zip}
use Rattle.laws.proofs.Walk.{Guard, passes, passing}
use Rattle.classes.proofs.Cover.{Box, within, in_order, both, passes_both, six_same, meet, within_meet}
use Rattle.classes.proofs.Boxes.{bit, tests_box, within_tests}
use Rattle.manual.specs.Page.{Column, is, box, over, under, fit, Relation, Relation_discrete, rs_is_rd, rt_is_rd}
use Rattle.manual.specs.Page.{inside, ordered, related}
use Rattle.manual.specs.Page.{Claim, holds, fails, true_of, claimed, Rules, obeys, column_of, defines, Line, has}

-- ── axes ──

pub data Axis : Type 0 where
  at : Field → Axis
  pair : Relation → Axis

abbrev pub room_of : Axis → ℕ
room_of (at x) = room x
room_of (pair ρ) = 2

-- the value of a word on an axis
abbrev pub coord : Fields → Axis → ℕ
coord f (at x) = f x
coord f (pair ρ) = bit (related ρ f)

pub coord_fits : (f : Fields) → Fit f → (a : Axis) → coord f a < room_of a
coord_fits f h (at x) = h x
coord_fits f h (pair ρ) = go (related ρ f)
  where
    go : (b : Bool) → bit b < 2
    go true = omega arith
    go false = omega arith

-- funct soon, since it tells the words of a group apart
abbrev pub axes : List Axis
axes = at op ∷ at funct ∷ at rs ∷ at rt ∷ at rd ∷ at sa ∷ pair rs_is_rd ∷ pair rt_is_rd ∷ pair inside ∷ pair ordered ∷ []

-- a test at each relation
unfoldable pub four : (Relation → Bool) → Bool
four p = p rs_is_rd && (p rt_is_rd && (p inside && p ordered))

-- six tests and what follows them
rest : (a b c d e g r : Bool) → a && (b && (c && (d && (e && (g && r))))) ≡ (a && (b && (c && (d && (e && (g && true)))))) && r
rest a b c d e g r = simp and_assoc

-- to pass on all axes is to pass at each field and each relation
pub by_parts : {A : Type 0} (ask : A → Axis → Guard) (a : A) (f : Fields) →
    passing ask axes a (coord f) ≡ (six (λ x. passes (ask a (at x)) (f x)) && four (λ ρ. passes (ask a (pair ρ)) (bit (related ρ f))))
unfolding passing four
by_parts ask a f =
    rest (p (at op)) (p (at funct)) (p (at rs)) (p (at rt)) (p (at rd)) (p (at sa)) _
    ∙ ap₂ ◌&&◌ (in_order (λ x. p (at x))) (ap (λ (b : Bool). p (pair rs_is_rd) && (p (pair rt_is_rd) && (p (pair inside) && b))) (and-true (p (pair ordered))))
  where
    p : Axis → Bool
    p x = passes (ask a x) (coord f x)

four_true : four (λ ρ. true) ≡ true
unfolding four
four_true = refl

four_and : (p q : Relation → Bool) → four (λ ρ. p ρ && q ρ) ≡ (four p && four q)
unfolding four
four_and p q =
    ap (λ (b : Bool). (p rs_is_rd && q rs_is_rd) && ((p rt_is_rd && q rt_is_rd) && b)) (zip (p inside) (q inside) (p ordered) (q ordered))
    ∙ (ap (λ (b : Bool). (p rs_is_rd && q rs_is_rd) && b) (zip (p rt_is_rd) (q rt_is_rd) (p inside && p ordered) (q inside && q ordered))
    ∙ zip (p rs_is_rd) (q rs_is_rd) (p rt_is_rd && (p inside && p ordered)) (q rt_is_rd && (q inside && q ordered)))

-- ── rows and refusals: nothing on relations ──

abbrev pub ask_box : Box → Axis → Guard
ask_box b (at x) = b x
ask_box b (pair ρ) = none

pub box_passing : (b : Box) (f : Fields) → passing ask_box axes b (coord f) ≡ within b f
box_passing b f = by_parts ask_box b f ∙ (ap (λ (t : Bool). within b f && t) four_true ∙ and-true (within b f))

-- ── claims ──

abbrev same_relation : Relation → Relation → Bool
same_relation ρ σ = elim (Relation_discrete ρ σ) [ yes e ↦ true | no d ↦ false ]

unfoldable pub ask_claim : Claim → Relation → Guard
ask_claim (holds σ) ρ = cond (same_relation σ ρ) (some (λ a. eqb a 1)) none
ask_claim (fails σ) ρ = cond (same_relation σ ρ) (some (λ a. eqb a 0)) none

unfoldable pub ask_claims : List Claim → Relation → Guard
ask_claims [] ρ = none
ask_claims (c ∷ cs) ρ = both (ask_claim c ρ) (ask_claims cs ρ)

-- a test at one relation is that test
only_four : (σ : Relation) (p : ℕ → Bool) (f : Fields) → four (λ ρ. passes (cond (same_relation σ ρ) (some p) none) (bit (related ρ f))) ≡ p (bit (related σ f))
unfolding four
only_four rs_is_rd p f = and-true (p (bit (related rs_is_rd f)))
only_four rt_is_rd p f = and-true (p (bit (related rt_is_rd f)))
only_four inside p f = and-true (p (bit (related inside f)))
only_four ordered p f = refl

claim_passing : (c : Claim) (f : Fields) → four (λ ρ. passes (ask_claim c ρ) (bit (related ρ f))) ≡ true_of c f
unfolding ask_claim true_of
claim_passing (holds σ) f = only_four σ (λ a. eqb a 1) f ∙ go (related σ f)
  where
    go : (b : Bool) → eqb (bit b) 1 ≡ b
    go true = refl
    go false = refl
claim_passing (fails σ) f = only_four σ (λ a. eqb a 0) f ∙ go (related σ f)
  where
    go : (b : Bool) → eqb (bit b) 0 ≡ not b
    go true = refl
    go false = refl

claims_passing : (cs : List Claim) (f : Fields) → four (λ ρ. passes (ask_claims cs ρ) (bit (related ρ f))) ≡ claimed cs f
unfolding ask_claims claimed
claims_passing [] f = four_true
claims_passing (c ∷ cs) f =
    ap four (fun_ext (λ ρ. passes_both (ask_claim c ρ) (ask_claims cs ρ) (bit (related ρ f))))
    ∙ (four_and (λ ρ. passes (ask_claim c ρ) (bit (related ρ f))) (λ ρ. passes (ask_claims cs ρ) (bit (related ρ f)))
    ∙ ap₂ ◌&&◌ (claim_passing c f) (claims_passing cs f))

abbrev pub ask_rules : Rules → Axis → Guard
ask_rules u (at x) = tests_box u.tests x
ask_rules u (pair ρ) = ask_claims u.claims ρ

pub rules_passing : (u : Rules) (f : Fields) → passing ask_rules axes u (coord f) ≡ obeys u f
unfolding obeys
rules_passing u f = by_parts ask_rules u f ∙ ap₂ ◌&&◌ (within_tests u.tests f) (claims_passing u.claims f)

-- ── lines ──

unfoldable pub ask_column : Column → Guard
ask_column (is v) = some (λ a. eqb a v)
ask_column (box n) = none
ask_column (over n k v) = some (fit (over n k v))
ask_column (under v k n) = some (fit (under v k n))

column_passing : (c : Column) (a : ℕ) → passes (ask_column c) a ≡ fit c a
unfolding ask_column fit
column_passing (is v) a = refl
column_passing (box n) a = refl
column_passing (over n k v) a = refl
column_passing (under v k n) a = refl

abbrev pub ask_line : Line → Axis → Guard
ask_line ℓ (at x) = both (ask_column (column_of ℓ.page x)) (both (tests_box ℓ.page.limit.tests x) (tests_box ℓ.when x))
ask_line ℓ (pair ρ) = ask_claims ℓ.page.limit.claims ρ

mix : (a b c d : Bool) → ((a && (b && c)) && d) ≡ ((a && (b && d)) && c)
mix false b c d = refl
mix true false c d = refl
mix true true true true = refl
mix true true true false = refl
mix true true false true = refl
mix true true false false = refl

pub line_passing : (ℓ : Line) (f : Fields) → passing ask_line axes ℓ (coord f) ≡ has ℓ f
unfolding has defines obeys
line_passing ℓ f =
    by_parts ask_line ℓ f
    ∙ (ap₂ ◌&&◌ fields (claims_passing ℓ.page.limit.claims f)
    ∙ mix (six (λ x. fit (column_of ℓ.page x) (f x))) (meets ℓ.page.limit.tests f) (meets ℓ.when f) (claimed ℓ.page.limit.claims f))
  where
    columns : Box
    columns x = ask_column (column_of ℓ.page x)

    fields : within (λ x. ask_line ℓ (at x)) f ≡ (six (λ x. fit (column_of ℓ.page x) (f x)) && (meets ℓ.page.limit.tests f && meets ℓ.when f))
    fields =
        within_meet columns (meet (tests_box ℓ.page.limit.tests) (tests_box ℓ.when)) f
        ∙ ap₂ ◌&&◌
        (six_same (λ x. passes (columns x) (f x)) (λ x. fit (column_of ℓ.page x) (f x)) (λ x. column_passing (column_of ℓ.page x) (f x)))
        (within_meet (tests_box ℓ.page.limit.tests) (tests_box ℓ.when) f ∙ ap₂ ◌&&◌ (within_tests ℓ.page.limit.tests f) (within_tests ℓ.when f))
