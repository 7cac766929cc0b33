-- A word is a sum over its fields: what some of the fields weigh in it.
use Prim.Native.Nat.{ℕ, ◌+◌, ◌*◌}
use mathlib.Core.Path.{◌≡◌, refl, ◌∙◌, ap, fun_ext}
use mathlib.Core.Bool.{Bool, true, false, not, cond, ◌&&◌, ◌||◌}
use native.Mathlib.Omega.{arith}
use lib.Dec.{T}
use Rattle.word.specs.Word.{Field, same_field, op, rs, rt, rd, sa, funct, Fields, word}
use Rattle.word.specs.Numbers.{imm, index}
use Rattle.classes.proofs.Uses.{uses, low16}
use Rattle.classes.specs.Row.{jmp}
use Rattle.inverse.specs.Private.Fill.{place}

-- what the fields that pass a test weigh
unfoldable pub weigh : (Field → Bool) → Fields → ℕ
weigh p f = word (λ x. cond (p x) (f x) 0)

pub word_add : (f g : Fields) → word (λ x. f x + g x) ≡ word f + word g
unfolding word
word_add f g = omega arith

-- some fields of f among those of g, which has zeros there
pub word_mixed : (p : Field → Bool) (f g : Fields) → ((x : Field) → T (p x) → g x ≡ 0) → word (λ x. cond (p x) (f x) (g x)) ≡ word g + weigh p f
unfolding weigh
word_mixed p f g h = ap word (fun_ext (λ x. go x (p x) (h x))) ∙ word_add g (λ x. cond (p x) (f x) 0)
  where
    go : (x : Field) (b : Bool) → (T b → g x ≡ 0) → cond b (f x) (g x) ≡ g x + cond b (f x) 0
    go x true z = omega (arith, z tt)
    go x false z = omega arith

-- two tests that no field passes both of
pub weigh_or : (p q : Field → Bool) (f : Fields) → ((x : Field) → T (not (p x && q x))) → weigh (λ x. p x || q x) f ≡ weigh p f + weigh q f
unfolding weigh
weigh_or p q f h = ap word (fun_ext (λ x. go (p x) (q x) (f x) (h x))) ∙ word_add (λ x. cond (p x) (f x) 0) (λ x. cond (q x) (f x) 0)
  where
    go : (a b : Bool) (n : ℕ) → T (not (a && b)) → cond (a || b) n 0 ≡ cond a n 0 + cond b n 0
    go true true n t = absurd t
    go true false n t = omega arith
    go false true n t = omega arith
    go false false n t = refl

-- one field, the immediate, the index
pub weigh_one : (x : Field) (f : Fields) → weigh (same_field x) f ≡ f x * place x
unfolding weigh word
weigh_one op f = omega arith
weigh_one rs f = omega arith
weigh_one rt f = omega arith
weigh_one rd f = omega arith
weigh_one sa f = omega arith
weigh_one funct f = omega arith

pub weigh_imm : (f : Fields) → weigh low16 f ≡ imm f
unfolding weigh word imm
weigh_imm f = omega arith

pub weigh_index : (f : Fields) → weigh (uses jmp) f ≡ index f
unfolding weigh word index uses
weigh_index f = omega arith
