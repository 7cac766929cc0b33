-- When the reading that 80 bytes say is packed into those bytes again.
use Rattle.std.proofs.Common.{◌≡◌, ℕ, ◌+◌, ◌-◌, ◌%◌, ◌<◌, ◌≤◌, Bool, true, false, eqb, ltb, ◌⊎◌, List, [], ◌∷◌, ◌++◌, length, take, drop, sym, refl, ap, ◌∙◌, subst, inl, inr, arith, lt-ltb, le-ltb, eqb-true, cond, ◌&&◌, take-take, get_or-take, length-take-le}
use Rattle.std.specs.Prelude.{None, Some}
use Rattle.std.proofs.lemmas.List.{drop-take}
use Rattle.std.proofs.lemmas.Bool.{eqb-false}
use Rattle.std.proofs.lemmas.Grind.{common_steps}
use Rattle.refusal.specs.Numbers as refusal
use Rattle.reading.specs.declared.Insn.{Insn}
use Rattle.reading.specs.Kind.{many}
use Rattle.laws.proofs.Tests.{and_r, at_true}
use Rattle.text.specs.Text.{same}
use Rattle.buffers.specs.Bytes.{num, num_at}
use Rattle.buffers.proofs.Numbers.{in_reach}
use Rattle.names.specs.Names.{name_bytes, kind_of, kind_named, no_kind}
use Rattle.text.proofs.Texts.{same_eq, same_self}
use Rattle.names.proofs.Found.{HasKind, kind_or_none}
use Rattle.record.specs.Record.{size, head_bytes, effect_bytes, operand_bytes, insn_bytes}
use Rattle.record.specs.Unpacked.{byte_at, op_by, effect_by, flow_by, target_by, slot_in, insn_in, is_record, unpacked}
use Rattle.reading.specs.Reading.{operand, accepted_as, refused_of}
use Rattle.record.specs.Private.Steps.{part, Holds}
use Rattle.record.proofs.Pieces.{left_part, right_part, both_parts}

-- bytes that are the same pass the test, and the other way round
pub same_bytes : (a b : List ℕ) → a ≡ b → same a b ≡ true
same_bytes a b e = subst (λ (x : List ℕ). same a x ≡ true) e (same_self a)

-- a mnemonic and the same bytes
pub is_record_lem : (l : List ℕ) → (insn_in l).mnemonic < many → insn_bytes (insn_in l) ≡ take size l →
    is_record l ≡ true
is_record_lem l k e = rw (lt-ltb (insn_in l).mnemonic many k) (same_bytes (insn_bytes (insn_in l)) (take size l) e)

pub record_bytes : (l : List ℕ) → is_record l ≡ true → insn_bytes (insn_in l) ≡ take size l
record_bytes l e =
    same_eq (insn_bytes (insn_in l)) (take size l)
    (and_r (ltb (insn_in l).mnemonic many) (same (insn_bytes (insn_in l)) (take size l)) (at_true e))

-- ── the first 80 bytes say it all ──

module _ (l : List ℕ) (h : size ≤ length l) where
  part_take : (at n : ℕ) → at + n ≤ size → part at n (take size l) ≡ part at n l
  part_take at n b =
      let e : at + (size - at) ≡ size = omega arith in
      ap (λ (m : ℕ). part at n (take m l)) (sym e) ∙ ap (take n) (drop-take at (size - at) l)
      ∙ take-take n (size - at) (drop at l) (omega arith)

  number_take : (at : ℕ) → at + 8 ≤ size → num_at 8 at (take size l) ≡ num_at 8 at l
  number_take at b =
      in_reach 8 at (take size l) (omega (arith, length-take-le size l h))
      ∙ ap num (part_take at 8 b) ∙ sym (in_reach 8 at l (omega (arith, h)))

  byte : (at : ℕ) → at < size → byte_at at (take size l) ≡ byte_at at l
  byte at b = get_or-take size l at 0 b

  slot : (at : ℕ) → at + 10 ≤ size → slot_in at (take size l) ≡ slot_in at l
  slot at b =
      let first = byte at (omega arith) in
      let second = byte (at + 1) (omega arith) in
      let value = number_take (at + 2) (omega arith) in
      λ t. operand (op_by (first t) (second t) (value t))

  pub insn_take : insn_in (take size l) ≡ insn_in l
  unfolding insn_in
  insn_take = λ t.
      record {
        mnemonic = kind_of (part_take 64 16 (omega arith) t);
        count = byte 3 (omega arith) t;
        ops =
            slot 24 (omega arith) t ∷ slot 34 (omega arith) t ∷ slot 44 (omega arith) t ∷ slot 54 (omega arith) t ∷ [];
        flow = flow_by (byte 1 (omega arith) t);
        target = target_by (byte 2 (omega arith) t) (number_take 4 (omega arith) t);
        delay_slot = eqb (byte 2 (omega arith) t % 2) 1;
        effect =
            effect_by (byte 12 (omega arith) t) (byte 13 (omega arith) t) (byte 14 (omega arith) t)
            (byte 15 (omega arith) t) (number_take 16 (omega arith) t);
      }

  is_take : is_record (take size l) ≡ is_record l
  is_take =
      let bytes = take-take size size l (omega arith) in
      λ t. ltb (insn_take t).mnemonic many && same (insn_bytes (insn_take t)) (bytes t)

  -- they are a record, or not
  pub accepts : (r : List ℕ) → r ≡ take size l → is_record r ≡ true → unpacked l ≡ accepted_as (insn_in r)
  accepts r e t =
      rw (le-ltb (length l) size h, sym is_take ∙ ap is_record (sym e) ∙ t)
      (ap accepted_as (sym insn_take ∙ ap insn_in (sym e)))

  pub refuses : (r : List ℕ) → r ≡ take size l → is_record r ≡ false → unpacked l ≡ refused_of refusal.no_word
  refuses r e f = rw (le-ltb (length l) size h, sym is_take ∙ ap is_record (sym e) ∙ f)

-- ── the mnemonic by its name ──

module _ (l : List ℕ) where
  chosen : (b : Bool) (k n : ℕ) → cond b None (Some n) ≡ Some k → (b ≡ false) × (k ≡ n)
  chosen true k n e = grind (arith, common_steps)
  chosen false k n e = grind (arith, common_steps)

  pub kind_some : (k : ℕ) → kind_named l ≡ Some k → (k ≡ kind_of l) × (kind_of l ≡ no_kind → ⊥)
  unfolding kind_named
  kind_some k e =
      let c = chosen (eqb (kind_of l) no_kind) k (kind_of l) e in
      (c.1, eqb-false (kind_of l) no_kind c.0)

  missing : (b : Bool) (n : ℕ) → cond b None (Some n) ≡ None → b ≡ true
  missing true n e = refl
  missing false n e = grind (arith, common_steps)

  pub kind_none : kind_named l ≡ None → kind_of l ≡ no_kind
  unfolding kind_named
  kind_none e = eqb-true (kind_of l) no_kind (missing (eqb (kind_of l) no_kind) (kind_of l) e)

-- the name is that of the kind which it has
kind_name : (l : List ℕ) → ¬ (kind_of l ≡ no_kind) → (kind_of l < many) × (name_bytes (kind_of l) ≡ l)
kind_name l n = go (kind_or_none l)
  where
    go : (kind_of l ≡ no_kind) ⊎ HasKind l → (kind_of l < many) × (name_bytes (kind_of l) ≡ l)
    go (inl e) = absurd (n e)
    go (inr k) = (subst (λ (x : ℕ). x < many) (sym k.is) k.small, ap name_bytes k.is ∙ sym k.bytes)

-- ── a record, and none ──

module _ (l : List ℕ) where
  pub holds_record : ¬ ((insn_in l).mnemonic ≡ no_kind) → Holds (insn_in l) l → is_record l ≡ true
  unfolding insn_in
  holds_record n h =
      let i : Insn = insn_in l in
      let k = kind_name (part 64 16 l) n in
      is_record_lem l k.0
      (both_parts 0 64 16 (head_bytes i ++ effect_bytes i.effect ++ operand_bytes i) (name_bytes i.mnemonic) l refl
      (both_parts 0 24 40 (head_bytes i ++ effect_bytes i.effect) (operand_bytes i) l refl
      (both_parts 0 12 12 (head_bytes i) (effect_bytes i.effect) l refl h.head h.effect) h.operands)
      k.1)

  pub record_holds : size ≤ length l → is_record l ≡ true → Holds (insn_in l) l
  record_holds h e =
      let i : Insn = insn_in l in
      let w : insn_bytes i ≡ part 0 80 l = record_bytes l e in
      let most = head_bytes i ++ effect_bytes i.effect ++ operand_bytes i in
      let p = left_part 0 64 16 most (name_bytes i.mnemonic) l refl w in
      let q = left_part 0 24 40 (head_bytes i ++ effect_bytes i.effect) (operand_bytes i) l refl p in
      record {
        head = left_part 0 12 12 (head_bytes i) (effect_bytes i.effect) l refl q;
        effect = right_part 0 12 12 (head_bytes i) (effect_bytes i.effect) l refl (omega arith) q;
        operands = right_part 0 24 40 (head_bytes i ++ effect_bytes i.effect) (operand_bytes i) l refl (omega arith) p;
      }

  -- no mnemonic has the name
  pub no_name : (insn_in l).mnemonic ≡ no_kind → is_record l ≡ false
  no_name e = rw e

  -- other bytes stand there
  pub not_record : size ≤ length l → (Holds (insn_in l) l → ⊥) → is_record l ≡ false
  not_record h n = go (is_record l) refl
    where
      go : (b : Bool) → is_record l ≡ b → is_record l ≡ false
      go true e = absurd (n (record_holds h e))
      go false e = e
