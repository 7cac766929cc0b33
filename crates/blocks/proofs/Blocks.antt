-- What one word does to a block, and what is left of a block at a word.
-- How: `step_of` says what one word does, and a block is gone through with it word by word.
use Prim.Native.Nat.{ℕ, zero, suc, ◌+◌, ◌-◌, ◌≤◌, ◌<◌}
use mathlib.Core.Path.{◌≡◌, refl, sym, ap, ◌∙◌}
use mathlib.Core.Bool.{Bool, true, false, cond}
use mathlib.Core.List.{List}
use native.Mathlib.Nat.{add-zero, zero-add}
use native.Mathlib.Omega.{arith}
use borrow.Author.Tests.{lt-ltb, eq-eqb, ne_eqb}
use lib.Dec.{eqb}
use Rattle.reading.specs.declared.Insn.{Insn}
use Rattle.reading.specs.declared.Ending.{Ending}
use Rattle.reading.specs.declared.Ending.TheVariants.{On, Slot, Here}
use Rattle.reading.specs.Ends.{ending_of}
use Rattle.body.specs.declared.View.{View}
use Rattle.body.specs.Body.{words_in, decoded_at, is_refused}
use Rattle.blocks.specs.declared.End.{End}
use Rattle.blocks.specs.declared.End.TheVariants as end
use Rattle.blocks.specs.declared.extent.Block.{Block}
use Rattle.blocks.specs.Block.{kind_of, ended_as}
use Rattle.blocks.specs.Block.{Ended, block, with_one_more, slot_end, by_ending, block_from, block_of}
use Rattle.blocks.specs.Private.Steps.{step_of}

-- the three tell apart
abbrev place : Ending → ℕ
place On = 0
place Slot = 1
place Here = 2

-- no reading ends a block here
never_here : (i : Insn) → ending_of i ≡ Here → ⊥
unfolding ending_of
never_here i = go i.delay_slot
  where
    go : (m : Bool) → cond m Slot On ≡ Here → ⊥
    go true e = omega (arith, ap place e)
    go false e = omega (arith, ap place e)

-- ── what holds of one word ──

-- an answer on k words and no more
pub record Within (k most : ℕ) (t : Ended) : Type 0 where
  pub zero : t.number ≡ 0
  pub words : t.words ≤ k
  pub kind : t.kind ≤ most

slot_within : (v : View) (body : List ℕ) (k n : ℕ) →
    (Within (suc k) 2 (slot_end v body k n)) × (1 ≤ (slot_end v body k n).kind)
unfolding slot_end
slot_within v body zero n = (record { zero = refl; words = omega arith; kind = omega arith }, omega arith)
slot_within v body (suc k) n = go (is_refused (decoded_at v body n))
  where
    go : (r : Bool) →
        (Within (suc (suc k)) 2 (cond r (block 0 2 1) (block 0 1 2))) × (1 ≤ (cond r (block 0 2 1) (block 0 1 2)).kind)
    go true = (record { zero = refl; words = omega arith; kind = omega arith }, omega arith)
    go false = (record { zero = refl; words = omega arith; kind = omega arith }, omega arith)

-- a word's cases, over any end of the slot
abbrev cases : Bool → Ending → Ended → Ended
cases r e s = cond r (block 0 3 0) (by_ending e (block 0 0 1) s (block 0 5 1))

module _ (v : View) (body : List ℕ) (k n : ℕ) where
  abbrev does : Ending
  does = ending_of (decoded_at v body n).insn

  abbrev slot : Ended
  slot = slot_end v body k (n + 1)

  pub step_within : Within (suc k) 3 (step_of v body k n)
  unfolding step_of
  step_within =
      go (is_refused (decoded_at v body n)) does (never_here (decoded_at v body n).insn) slot
      (slot_within v body k (n + 1)).0
    where
      go : (r : Bool) (e : Ending) → (e ≡ Here → ⊥) → (s : Ended) → Within (suc k) 2 s → Within (suc k) 3 (cases r e s)
      go true e z s w = record { zero = refl; words = omega arith; kind = omega arith }
      go false On z s w = record { zero = refl; words = omega arith; kind = omega arith }
      go false Slot z s w = record { zero = w.zero; words = w.words; kind = omega (arith, w.kind) }
      go false Here z s w = absurd (z refl)

  -- a block that goes on has that word
  pub one_word : (step_of v body k n).kind ≡ 0 → (step_of v body k n).words ≡ 1
  unfolding step_of
  one_word = go (is_refused (decoded_at v body n)) does slot (slot_within v body k (n + 1)).1
    where
      go : (r : Bool) (e : Ending) (s : Ended) → 1 ≤ s.kind → (cases r e s).kind ≡ 0 → (cases r e s).words ≡ 1
      go true e s h z = absurd (omega arith)
      go false On s h z = refl
      go false Slot s h z = absurd (omega (arith, h, z))
      go false Here s h z = absurd (omega arith)

  -- the block by its first word
  by_step : block_from v body (suc k) n
      ≡ cond (eqb (step_of v body k n).kind 0) (with_one_more (block_from v body k (n + 1))) (step_of v body k n)
  unfolding block_from step_of
  by_step =
      go (is_refused (decoded_at v body n)) does slot (block_from v body k (n + 1)) (slot_within v body k (n + 1)).1
    where
      go : (r : Bool) (e : Ending) (s rest : Ended) → 1 ≤ s.kind →
          cond r (block 0 3 0) (by_ending e (with_one_more rest) s (block 0 5 1))
          ≡ cond (eqb (cases r e s).kind 0) (with_one_more rest) (cases r e s)
      go true e s rest h = refl
      go false On s rest h = refl
      go false Slot s rest h = rw (ne_eqb s.kind 0 (omega (arith, h)))
      go false Here s rest h = refl

  pub ends_here : ((step_of v body k n).kind ≡ 0 → ⊥) → block_from v body (suc k) n ≡ step_of v body k n
  ends_here z = by_step ∙ rw (ne_eqb (step_of v body k n).kind 0 z)

  pub goes_on : (step_of v body k n).kind ≡ 0 →
      block_from v body (suc k) n ≡ with_one_more (block_from v body k (n + 1))
  goes_on z = by_step ∙ rw (eq-eqb (step_of v body k n).kind 0 z)

kind_above_0 : (e : End) → 0 < kind_of e
kind_above_0 end.Slot = omega arith
kind_above_0 end.NoSlot = omega arith
kind_above_0 end.Refused = omega arith
kind_above_0 end.Body = omega arith
kind_above_0 end.Here = omega arith

-- ── the loop ──

-- j words before a block
abbrev pub after : ℕ → Ended → Ended
after j b = block b.number b.kind (j + b.words)

-- the block from word n on, and what is left of it at word k
pub record Left (v : View) (body : List ℕ) (n k : ℕ) : Type 0 where
  pub low : n ≤ k
  pub high : k ≤ words_in body
  pub rest : block_of v body n ≡ after (k - n) (block_from v body (words_in body - k) k)

pub start : (v : View) (body : List ℕ) (n : ℕ) → n < words_in body → Left v body n n
unfolding block_of
start v body n h =
    let e : n - n ≡ 0 = omega arith in
    record { low = omega arith; high = omega arith; rest = rw (lt-ltb n (words_in body) h, e) (simp zero-add) }

module _ {v : View} {body : List ℕ} {n k : ℕ} (l : Left v body n k) where
  pub ran_out : words_in body ≤ k → block 0 4 (k - n) ≡ block_of v body n
  unfolding block_from
  ran_out h =
      let e : words_in body - k ≡ 0 = omega arith in
      sym (l.rest ∙ rw e (simp add-zero))

  module _ (h : k < words_in body) where
    abbrev t : Ended
    t = step_of v body (words_in body - (k + 1)) k

    left_is : words_in body - k ≡ suc (words_in body - (k + 1))
    left_is = omega arith

    pub inside : k + t.words ≤ words_in body
    inside = omega (arith, (step_within v body (words_in body - (k + 1)) k).words)

    -- the block ends with word k
    pub stopped : (b : Block) → ended_as b ≡ t → block 0 (kind_of b.end) (k - n + b.words) ≡ block_of v body n
    stopped b e =
        let z : t.kind ≡ 0 → ⊥ = λ z. omega (arith, kind_above_0 b.end, ap (λ (t : Ended). t.kind) e, z) in
        let last : block_from v body (words_in body - k) k ≡ ended_as b =
        rw left_is (ends_here v body (words_in body - (k + 1)) k z) ∙ sym e in
        sym (l.rest ∙ ap (after (k - n)) last)

    -- it goes on after it
    pub went : block 0 0 1 ≡ t → Left v body n (k + 1)
    went e =
        let b : Ended = block_from v body (words_in body - (k + 1)) (k + 1) in
        let more : block_from v body (words_in body - k) k ≡ with_one_more b =
        rw left_is (goes_on v body (words_in body - (k + 1)) k (sym (ap (λ (t : Ended). t.kind) e))) in
        let w : k - n + (b.words + 1) ≡ k + 1 - n + b.words = omega (arith, l.low) in
        record {
          low = omega (arith, l.low);
          high = omega arith;
          rest = l.rest ∙ ap (after (k - n)) more ∙ ap (block b.number b.kind) w;
        }
