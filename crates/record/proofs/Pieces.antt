-- Some bytes and then a number, at a place; and pieces one after the other.
use Rattle.std.proofs.lemmas.Bool.{eqb-false}
use Rattle.std.proofs.lemmas.Bool.Decides.{Decides-eqb}
use Rattle.std.proofs.lemmas.Slice.Eq.{slice_eq-Decides}
use Rattle.std.specs.Cmp.Lexicographic.{pointwise}
use Rattle.record.specs.Record.{size}
use Rattle.std.proofs.Common.{◌≡◌, ℕ, zero, suc, ◌+◌, ◌-◌, ◌*◌, ◌^◌, ◌<◌, ◌≤◌, Bool, true, false, eqb, List, [], ◌++◌, length, take, drop, sym, refl, ap, ◌∙◌, subst, arith, length-append, length-drop, length-take-le, take-take, drop-drop, take_at, take-add, drop_at, eq-eqb, eqb-true}
use Rattle.buffers.specs.Bytes.{low_bytes, num}
use Rattle.buffers.proofs.Numbers.{num_le}
use Rattle.laws.proofs.Says.{Says}
use Rattle.reading.specs.declared.Insn.{Insn}
use Rattle.record.specs.Record.{slot_of, slot_bytes}
use Rattle.record.specs.Private.Steps.{part}

-- ── p and then q, of n and m bytes ──

module _ (at n m : ℕ) (p q l : List ℕ) (long : length p ≡ n) where
  pub left_part : p ++ q ≡ part at (n + m) l → p ≡ part at n l
  left_part e = sym (take_at p q n long) ∙ ap (take n) e ∙ take-take n (n + m) (drop at l) (omega arith)

  pub right_part : at + n ≤ length l → p ++ q ≡ part at (n + m) l → q ≡ part (at + n) m l
  right_part h e =
      let size = length-take-le n (drop at l) (simp length-drop (omega (arith, h))) in
      sym (drop_at p q n long)
      ∙ ap (drop n) (e ∙ take-add n m (drop at l))
      ∙ drop_at (take n (drop at l)) (take m (drop n (drop at l))) n size
      ∙ ap (take m) (drop-drop n at l)

  pub both_parts : p ≡ part at n l → q ≡ part (at + n) m l → p ++ q ≡ part at (n + m) l
  both_parts e f =
      (λ i. e i ++ f i) ∙ ap (λ (x : List ℕ). take n (drop at l) ++ take m x) (sym (drop-drop n at l))
      ∙ sym (take-add n m (drop at l))

-- do the bytes from a place on start with p?
pub starts : (at n : ℕ) (p l : List ℕ) {r : Bool} → length p ≡ n → at + n ≤ size →
    r ≡ pointwise eqb p (take (length p) (take (size - at) (drop at l))) → Says r (p ≡ part at n l)
starts at n p l {r} long h e =
    subst (λ (q : List ℕ). Says r (p ≡ q))
    (take-take (length p) (size - at) (drop at l) (omega arith) ∙ ap (λ (m : ℕ). take m (drop at l)) long)
    (slice_eq-Decides Decides-eqb p (take (length p) (take (size - at) (drop at l))) r e)

-- ── eight bytes as a number ──

pub one_number : (v n : ℕ) → v < 2 ^ 64 → n < 2 ^ 64 → low_bytes 8 v ≡ low_bytes 8 n → v ≡ n
one_number v n h k e = sym (num_le 8 v h) ∙ ap num e ∙ num_le 8 n k

-- some bytes that are there, and a number n in the eight bytes after them: is it v?
pub then_number : (at k : ℕ) (bs l : List ℕ) (v n : ℕ) → length bs ≡ k →
    at + k + 8 ≤ length l → v < 2 ^ 64 → n < 2 ^ 64 →
    bs ≡ part at k l → low_bytes 8 n ≡ part (at + k) 8 l → Says (eqb n v) (bs ++ low_bytes 8 v ≡ part at (k + 8) l)
then_number at k bs l v n long h p q b e = (
  λ t. both_parts at k 8 bs (low_bytes 8 v) l long b (ap (low_bytes 8) (sym (eqb-true n v t)) ∙ e),
  λ f. eq-eqb n v (sym (one_number v n p q (right_part at k 8 bs (low_bytes 8 v) l long (omega arith) f ∙ sym e))),
)

-- ── the slots, ten bytes each ──

abbrev slot : Insn → ℕ → List ℕ
slot i k = slot_bytes (slot_of i k)

-- the first n
abbrev pub slots : Insn → ℕ → List ℕ
slots i zero = []
slots i (suc n) = slots i n ++ slot i n

pub slots_long : (i : Insn) (n : ℕ) → length (slots i n) ≡ n * 10
slots_long i zero = refl
slots_long i (suc n) = length-append (slots i n) (slot i n) ∙ omega (arith, slots_long i n)

module _ (i : Insn) (l : List ℕ) where
  abbrev pub Slot : ℕ → Type 0
  Slot k = slot i k ≡ part (24 + k * 10) 10 l

  more : (n : ℕ) → suc n * 10 ≡ n * 10 + 10
  more n = omega arith

  -- they are there if each of them is
  pub all_slots : (n : ℕ) → ((k : ℕ) → k < n → Slot k) → slots i n ≡ part 24 (n * 10) l
  all_slots zero f = refl
  all_slots (suc n) f =
      rw (more n)
      (both_parts 24 (n * 10) 10 (slots i n) (slot i n) l (slots_long i n) (all_slots n (λ k h. f k (omega arith)))
      (f n (omega arith)))

  one_more : (n : ℕ) → ((k : ℕ) → k < n → Slot k) → Slot n → (k : ℕ) → k < suc n → Slot k
  one_more n f s k h = go (eqb k n) refl
    where
      go : (b : Bool) → eqb k n ≡ b → Slot k
      go true e = subst Slot (sym (eqb-true k n e)) s
      go false e = f k (omega (arith, eqb-false k n e))

  -- each of them is there if all are
  pub each_slot : (n : ℕ) → 24 + n * 10 ≤ length l → slots i n ≡ part 24 (n * 10) l → (k : ℕ) → k < n → Slot k
  each_slot zero h e k below = absurd (omega arith)
  each_slot (suc n) h e k below =
      let whole : slots i n ++ slot i n ≡ part 24 (n * 10 + 10) l = rw (more n) at e in
      one_more n
      (each_slot n (omega arith) (left_part 24 (n * 10) 10 (slots i n) (slot i n) l (slots_long i n) whole))
      (right_part 24 (n * 10) 10 (slots i n) (slot i n) l (slots_long i n) (omega arith) whole)
      k below
