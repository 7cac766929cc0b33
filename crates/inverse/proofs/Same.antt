-- When two words have the same reading.
use Prim.Native.Nat.{ℕ, ◌%◌, ◌<◌}
use mathlib.Core.Path.{◌≡◌, sym, ◌∙◌, ap, subst}
use mathlib.Core.Bool.{Bool, true, false, cond}
use mathlib.Core.List.{List}
use mathlib.Core.Logic.{◌⊎◌, inl, inr, ◌↔◌}
use mathlib.Core.Option.{some}
use native.Mathlib.Omega.{arith}
use lib.Dec.{T, eqb→eq}
use lib.ListN.{length}
use lib.Seq.{ext_get_or}
use Rattle.word.specs.Word.{Field, op, rs, rt, rd, sa, funct, Fields, room, Fit, fields_of}
use Rattle.word.proofs.Fields.{fields_fit, fields_word}
use Rattle.reading.specs.declared.Op.{Op}
use Rattle.reading.specs.declared.Op.TheVariants.{Reg}
use Rattle.reading.specs.declared.Insn.{Insn}
use Rattle.reading.specs.declared.Decoded.{Decoded}
use Rattle.classes.specs.Row.{Pat, is, read, read_but, zeros, extra, skip_but, low, Row, pat_of}
use Rattle.classes.specs.Meaning.{match, takes, find, outs, reading, meaning}
use Rattle.laws.specs.Lists.{elem}
use Rattle.classes.specs.Refusals.{Refusal}
use Rattle.classes.specs.Theorems.{AgreeAt, Agree}
use Rattle.laws.proofs.Tests.{chosen}
use Rattle.classes.proofs.Find.{In, find_in}
use Rattle.classes.proofs.Uses.{uses_form, is_read, read_agree}
use Rattle.inverse.specs.Same.{groups, Alike, one_class, twins}
use Rattle.inverse.proofs.Weigh.{weigh}
use Rattle.inverse.specs.Private.Fill.{filled}
use Rattle.inverse.specs.Private.Candidate.{operand_at}
use Rattle.inverse.proofs.Fill.{nth, fill_law}
use Rattle.inverse.proofs.Rows.{takes_at, Sound, same_read}
use Rattle.inverse.proofs.Twins.{Pair}
use Rattle.inverse.proofs.Tables.{Near, same_kind, Good}
use Rattle.inverse.proofs.Smallest.{answer_by, operands_back, near_reading, row_of, answer_is}

-- ── operands tell the fields that they are made of ──

zero_fits : (x : Field) → 0 < room x
zero_fits op = omega arith
zero_fits rs = omega arith
zero_fits rt = omega arith
zero_fits rd = omega arith
zero_fits sa = omega arith
zero_fits funct = omega arith

-- the fields that pass a test, and zeros
abbrev masked : (Field → Bool) → Fields → Fields
masked p f x = cond (p x) (f x) 0

masked_fit : (p : Field → Bool) (f : Fields) → Fit f → Fit (masked p f)
masked_fit p f h x = chosen (p x) (λ n. n < room x) (f x) 0 (λ t. h x) (λ n. zero_fits x)

-- fields that weigh the same are the same
weigh_tells : (p : Field → Bool) (f g : Fields) → Fit f → Fit g → weigh p f ≡ weigh p g → (x : Field) → T (p x) → f x ≡ g x
unfolding weigh
weigh_tells p f g h k e x t = go (p x) t (ap (λ (q : Fields). q x) same)
  where
    same : masked p f ≡ masked p g
    same = sym (fields_word (masked p f) (masked_fit p f h)) ∙ (ap fields_of e ∙ fields_word (masked p g) (masked_fit p g k))

    go : (b : Bool) → T b → cond b (f x) 0 ≡ cond b (g x) 0 → f x ≡ g x
    go true u d = d
    go false u d = absurd u

outs_tell : (r : Row) → Sound r → (va : ℕ) (f g : Fields) → Fit f → Fit g → outs r.form va f ≡ outs r.form va g →
    (x : Field) → T (is_read (pat_of r x)) → f x ≡ g x
outs_tell r ok va f g h k e x t = weigh_tells (uses_form r.form) f g h k same x (subst (λ (p : Field → Bool). T (p x)) (sym ok.made) t)
  where
    same : weigh (uses_form r.form) f ≡ weigh (uses_form r.form) g
    same =
        sym (fill_law r.form va f h ok.apart)
        ∙ (ap (λ (os : List Op). filled r.form va (length os) (nth os)) e ∙ fill_law r.form va g k ok.apart)

-- ── agreement ──

agree_at : (p : Pat) (a b : ℕ) → T (match p a) → T (match p b) → (T (is_read p) → a ≡ b) → AgreeAt p a b
unfolding match is_read
agree_at (is v) a b s t h = eqb→eq a v s ∙ sym (eqb→eq b v t)
agree_at read a b s t h = h tt
agree_at (read_but v) a b s t h = h tt
agree_at zeros a b s t h = tt
agree_at extra a b s t h = tt
agree_at (skip_but v) a b s t h = tt
agree_at (low v) a b s t h = eqb→eq (a % 4) v s ∙ sym (eqb→eq (b % 4) v t)

outs_agree : (r : Row) → Sound r → (va : ℕ) (f g : Fields) → Fit f → Fit g → T (takes r f) → T (takes r g) →
    outs r.form va f ≡ outs r.form va g → Agree r f g
outs_agree r ok va f g h k s t e x =
    agree_at (pat_of r x) (f x) (g x) (takes_at r f s x) (takes_at r g t x) (outs_tell r ok va f g h k e x)

agree_outs : (r : Row) → Sound r → (va : ℕ) (f g : Fields) → Agree r f g → outs r.form va f ≡ outs r.form va g
agree_outs r ok va f g a = same_read r ok g va f (λ x t. read_agree (pat_of r x) (f x) (g x) t (a x))

-- ── the two directions ──

module _ (ts : List Row) (es : List Refusal) (ok : Good ts es) (va w v : ℕ) where
  abbrev f : Fields
  f = fields_of w

  abbrev g : Fields
  g = fields_of v

  abbrev Same : Type 0
  Same = (answer_by ts es va w).insn ≡ (answer_by ts es va v).insn

  insn : (u : ℕ) (r : Row) → find ts (fields_of u) ≡ some r → (answer_by ts es va u).insn ≡ meaning r va (fields_of u)
  insn u r e = ap (λ (d : Decoded). d.insn) (answer_is ts es ok va u r e)

  module _ (r s : Row) (p : find ts f ≡ some r) (q : find ts g ≡ some s) where
    here : In r ts × T (takes r f)
    here = find_in ts f r p

    there : In s ts × T (takes s g)
    there = find_in ts g s q

    meanings : Same → meaning r va f ≡ meaning s va g
    meanings e = sym (insn w r p) ∙ (e ∙ insn v s q)

    kinds : Same → r.kind ≡ s.kind
    unfolding meaning reading
    kinds e = ap (λ (i : Insn). i.mnemonic) (meanings e)

    lists : Same → outs r.form va f ≡ outs s.form va g
    unfolding meaning reading
    lists e = ext_get_or (Reg 0) (outs r.form va f) (outs s.form va g) (ap (λ (i : Insn). i.count) (meanings e)) (λ n l. ap (λ (o : ℕ → Op). o n) places)
      where
        places : nth (outs r.form va f) ≡ nth (outs s.form va g)
        places =
            sym (operands_back r (ok.rows r here.0) va f)
            ∙ (ap (λ (i : Insn). operand_at i.ops) (meanings e) ∙ operands_back s (ok.rows s there.0) va g)

    onward : Same → Alike ts va f g
    onward e = go (same_kind ts ok.paired r s here.0 there.0 (kinds e))
      where
        go : Near r s ⊎ Pair s r → Alike ts va f g
        go (inl (inl d)) =
            let taken : T (takes r g) = subst (λ (x : Row). T (takes x g)) (sym d) there.1 in
            let same : outs r.form va f ≡ outs r.form va g = lists e ∙ ap (λ (x : Row). outs x.form va g) (sym d) in
            one_class r p (q ∙ ap some (sym d)) (outs_agree r (ok.rows r here.0) va f g (fields_fit w) (fields_fit v) here.1 taken same)
        go (inl (inr t)) =
            let group : T (elem r.kind groups) = subst (λ (k : ℕ). T (elem k groups)) (sym (kinds e)) t.group in
            twins r s p q (record { mnemonic = kinds e; group = group }) (lists e)
        go (inr t) = twins r s p q (record { mnemonic = kinds e; group = t.group }) (lists e)

  back : Alike ts va f g → Same
  unfolding meaning
  back (one_class r p q a) =
      insn w r p
      ∙ (ap (reading r.kind r.manner) (agree_outs r (ok.rows r (find_in ts f r p).0) va f g a) ∙ sym (insn v r q))
  back (twins r s p q t e) =
      insn w r p
      ∙ (ap (reading r.kind r.manner) e
      ∙ (go (same_kind ts ok.paired r s (find_in ts f r p).0 (find_in ts g s q).0 t.mnemonic) (outs s.form va g) ∙ sym (insn v s q)))
    where
      go : Near r s ⊎ Pair s r → (os : List Op) → reading r.kind r.manner os ≡ reading s.kind s.manner os
      go (inl n) os = near_reading r s os t.mnemonic n
      go (inr n) os = sym (near_reading s r os (sym t.mnemonic) (inr n))

  -- THE LAW of shared readings
  pub same_law : (answer_by ts es va w).number ≡ 0 → (answer_by ts es va v).number ≡ 0 → Same ↔ Alike ts va f g
  same_law a b = (λ e. onward r.0 s.0 r.1 s.1 e, back)
    where
      r : (r : Row) × (find ts f ≡ some r)
      r = row_of ts es ok va w a

      s : (r : Row) × (find ts g ≡ some r)
      s = row_of ts es ok va v b
