-- The operands of a word put its own fields back.
use Prim.Native.Nat.{ℕ, suc, ◌+◌, ◌*◌, ◌-◌, ◌/◌, ◌%◌, ◌^◌, ◌<◌}
use mathlib.Core.Path.{◌≡◌, refl, sym, ◌∙◌, ap, ap₂}
use mathlib.Core.Bool.{Bool, true, false, not, cond, ◌&&◌}
use mathlib.Core.List.{List, [], ◌∷◌}
use native.Mathlib.Nat.{mod-eq_of_lt}
use native.Mathlib.Omega.{arith}
use borrow.Author.Tests.{ltb-true, ltb-false, eqb-true}
use lib.Dec.{T, eqb, ltb}
use lib.IntN.{ℤ, pos, negsuc, ◌*ℤ◌}
use lib.ListN.{length, get_or}
use Rattle.word.specs.Word.{Field, same_field, op, rs, rt, rd, sa, funct, Fields, room, Fit, word}
use Rattle.word.specs.Numbers.{imm, index, signed, modulo64, branch_to, jump_to, size_of}
use Rattle.word.proofs.Fields.{field_small, imm_small, index_small}
use Rattle.word.proofs.Signed.{neg_pos, by_sign, branch_is, size_is}
use Rattle.reading.specs.declared.Op.{Op}
use Rattle.reading.specs.declared.Op.TheVariants.{Reg}
use Rattle.classes.specs.Row.{Code, reg, freg, cop0, num, size, s16, u16, mem, br, jmp, Form, end, ◌▸◌, pos_size, link}
use Rattle.classes.specs.Meaning.{six, out, outs}
use Rattle.laws.proofs.Tests.{and_l, and_r}
use Rattle.classes.proofs.Tests.{six_at}
use Rattle.classes.proofs.Uses.{uses, uses_form}
use Rattle.inverse.specs.Private.Fill.{branch_back, last_bit, part, filled, place}
use Rattle.inverse.proofs.Weigh.{weigh, weigh_or, weigh_one, weigh_imm, weigh_index}

-- the operand at a place; register 0 where there is none
abbrev pub nth : List Op → ℕ → Op
nth os n = get_or os n (Reg 0)

-- ── numbers come back ──

signed_back : (u : ℕ) → u < 65536 → modulo64 (signed 16 u) % 2 ^ 16 ≡ u
signed_back u h = by_sign (λ z. modulo64 z % 2 ^ 16 ≡ u) u h (λ l. omega arith) (λ l. omega arith)

branch_back_lem : (va u : ℕ) → u < 65536 → branch_back va (branch_to va u) ≡ u
unfolding branch_back
branch_back_lem va u h =
    ap (λ (t : ℕ). (t + (2 ^ 64 - (va + 4) % 2 ^ 64)) % 2 ^ 64 / 4 % 2 ^ 16) (branch_is va u)
    ∙ by_sign (λ z. (((va + 4) % 2 ^ 64 + modulo64 (pos 4 *ℤ z)) % 2 ^ 64 + (2 ^ 64 - (va + 4) % 2 ^ 64)) % 2 ^ 64 / 4 % 2 ^ 16 ≡ u) u h (λ l. omega arith)
    (λ l. rw (neg_pos (4 * suc (65535 - u)) (omega arith)) (omega arith))

jump_back : (va i : ℕ) → i < 67108864 → jump_to va i / 4 % 2 ^ 26 ≡ i
unfolding jump_to
jump_back va i h = omega arith

ins_back : (msb lsb : ℕ) → msb < 32 → lsb < 32 → last_bit (modulo64 (size_of msb lsb)) lsb ≡ msb
ins_back msb lsb h l = ap (λ (z : ℤ). (modulo64 z % 32 + lsb + 31) % 32) (size_is msb lsb) ∙ go (ltb (msb + 1) lsb) refl
  where
    go : (b : Bool) → ltb (msb + 1) lsb ≡ b → (modulo64 (cond b (negsuc (lsb - suc (msb + 1))) (pos (msb + 1 - lsb))) % 32 + lsb + 31) % 32 ≡ msb
    go true e = omega (arith, ltb-true (msb + 1) lsb e)
    go false e = omega (arith, ltb-false (msb + 1) lsb e)

-- ── a word's operands put its fields back ──

one_back : (x : Field) (f : Fields) → Fit f → f x % room x * place x ≡ weigh (same_field x) f
one_back x f h = ap (λ (n : ℕ). n * place x) (mod-eq_of_lt (h x)) ∙ sym (weigh_one x f)

imm_back : (f : Fields) (n : ℕ) → n ≡ imm f → n ≡ weigh (uses s16) f
unfolding uses
imm_back f n e = e ∙ sym (weigh_imm f)

mem_back : (f : Fields) → Fit f → weigh (uses mem) f ≡ f rs * 2 ^ 21 + imm f
unfolding uses
mem_back f h = weigh_or (same_field rs) (uses s16) f apart_mem ∙ omega (arith, weigh_one rs f, weigh_imm f)
  where
    apart_mem : (x : Field) → T (not (same_field rs x && uses s16 x))
    apart_mem op = tt
    apart_mem rs = tt
    apart_mem rt = tt
    apart_mem rd = tt
    apart_mem sa = tt
    apart_mem funct = tt

pub part_law : (c : Code) (va : ℕ) (f : Fields) → Fit f → part c va (out c va f) ≡ weigh (uses c) f
unfolding part out uses
part_law (reg x) va f h = one_back x f h
part_law (freg x) va f h = one_back x f h
part_law (cop0 x) va f h = one_back x f h
part_law (num x) va f h = ap (λ (n : ℕ). n % room x * place x) (mod-eq_of_lt (omega (arith, field_small f h x))) ∙ one_back x f h
part_law size va f h = omega (arith, h rd, weigh_one rd f)
part_law s16 va f h = imm_back f _ (signed_back (imm f) (imm_small f h))
part_law u16 va f h = imm_back f _ (omega (arith, imm_small f h))
part_law mem va f h = omega (arith, h rs, signed_back (imm f) (imm_small f h), mem_back f h)
part_law br va f h = imm_back f _ (branch_back_lem va (imm f) (imm_small f h))
part_law jmp va f h = jump_back va (index f) (index_small f h) ∙ sym (weigh_index f)

-- no field is used twice
unfoldable pub apart : Form → Bool
apart end = true
apart (c ▸ φ) = six (λ x. not (uses c x && uses_form φ x)) && apart φ
apart pos_size = true
apart link = true

last_back : (f : Fields) → Fit f → (s : ℕ) → s ≡ f sa → last_bit (modulo64 (size_of (f rd) (f sa))) s ≡ f rd
last_back f h s e = ap (last_bit (modulo64 (size_of (f rd) (f sa)))) e ∙ ins_back (f rd) (f sa) (h rd) (h sa)

weigh_ins : (f : Fields) → weigh (uses_form pos_size) f ≡ f rd * 2 ^ 11 + f sa * 2 ^ 6
unfolding weigh word uses_form
weigh_ins f = omega arith

weigh_link : (f : Fields) → weigh (uses_form link) f ≡ f rd * 2 ^ 11 + f rs * 2 ^ 21
unfolding weigh word uses_form
weigh_link f = omega arith

-- the operands of `jalr`; rd is register 31, or not
abbrev linked : Bool → Fields → List Op
linked b f = cond b (Reg (f rs) ∷ []) (Reg (f rd) ∷ Reg (f rs) ∷ [])

pub fill_law : (φ : Form) (va : ℕ) (f : Fields) → Fit f → T (apart φ) → filled φ va (length (outs φ va f)) (nth (outs φ va f)) ≡ weigh (uses_form φ) f
unfolding filled outs uses_form apart
fill_law end va f h t = unfold weigh word in refl
fill_law (c ▸ φ) va f h t =
    ap₂ ◌+◌ (part_law c va f h) (fill_law φ va f h (and_r (six (λ x. not (uses c x && uses_form φ x))) (apart φ) t))
    ∙ sym (weigh_or (uses c) (uses_form φ) f (six_at (λ x. not (uses c x && uses_form φ x)) (and_l (six (λ x. not (uses c x && uses_form φ x))) (apart φ) t)))
fill_law pos_size va f h t = omega (arith, h sa, last_back f h (f sa % 2 ^ 64 % 2 ^ 5) (omega (arith, h sa)), weigh_ins f)
fill_law link va f h t = go (eqb (f rd) 31) refl
  where
    go : (b : Bool) → eqb (f rd) 31 ≡ b →
        filled link va (length (linked b f)) (nth (linked b f)) ≡ weigh (uses_form link) f
    go true e = omega (arith, h rs, eqb-true (f rd) 31 e, weigh_link f)
    go false e = omega (arith, h rs, h rd, weigh_link f)
