-- The word that a word's reading gets: which row it is of, and its fields. And that what its class does not read of it is zero.
use Rattle.inverse.specs.Encoded.{Encoded, Encodes, smallest, no_word}
use Prim.Native.Nat.{ℕ, ◌+◌, ◌%◌, ◌^◌, ◌<◌, ◌≤◌}
use mathlib.Core.Path.{◌≡◌, refl, sym, ◌∙◌, ap, subst}
use mathlib.Core.Bool.{Bool, true, false, not, cond, ◌&&◌, ◌||◌}
use mathlib.Core.List.{List}
use mathlib.Core.Logic.{inl, inr, ⊎_elim}
use mathlib.Core.Option.{some, some-injective}
use native.Mathlib.Omega.{arith}
use borrow.Author.Tests.{eq-eqb}
use lib.Dec.{T, eqb, eqb→eq}
use lib.ListN.{length}
use Rattle.word.specs.Word.{Field, op, rs, rt, rd, sa, funct, Fields, Fit, fields_of, word, words}
use Rattle.word.proofs.Fields.{fields_fit, fields_word}
use Rattle.reading.specs.declared.Op.{Op}
use Rattle.reading.specs.declared.Insn.{Insn}
use Rattle.reading.specs.declared.Decoded.{Decoded}
use Rattle.reading.specs.Kind as kind
use Rattle.classes.specs.Row.{Pat, is, read, read_but, zeros, extra, skip_but, low, Row, pat_of}
use Rattle.classes.specs.Meaning.{match, takes, find, outs, meaning}
use Rattle.classes.specs.Refusals.{Refusal}
use Rattle.laws.proofs.Tests.{and_l, and_r, or_e, implied, at_true, chosen}
use Rattle.classes.proofs.Boxes.{taken_or_refused}
use Rattle.classes.proofs.Accepts.{accepted_insn}
use Rattle.classes.proofs.Find.{In, every, every_in, find_in, only_row}
use Rattle.classes.proofs.Uses.{is_read}
use Rattle.inverse.specs.Least.{ZeroAt, NeedsOne, rotr, sll_by_0, sll_by_1, Least}
use Rattle.inverse.specs.Private.Fill.{filled}
use Rattle.inverse.specs.Private.Candidate.{least, base, suits, is_nop, after_nops, candidate}
use Rattle.inverse.proofs.Fill.{nth}
use Rattle.inverse.proofs.Good.{fixed_to}
use Rattle.inverse.proofs.Rows.{takes_at, takes_nop, nop_fields, like_nop, Sound, Nops, nops_row, Within, lift}
use Rattle.inverse.proofs.Rows.{lift_fit, lift_word}
use Rattle.inverse.proofs.Twins.{value_in, pair_outs}
use Rattle.inverse.proofs.Tables.{Near, Picked, Good}
use Rattle.inverse.proofs.Smallest.{answer_by, answer_is, picked_for, tried_for, within_for, has_for, tries_for}
use Rattle.inverse.proofs.Smallest.{smallest_law}

-- ── the candidate's fields ──

-- those of the word that the row reads, and the least in the others
near_word : (h r : Row) → Sound h → Near h r → (va : ℕ) (f : Fields) → Fit f → T (suits h (value_in (outs r.form va f))) →
    candidate h va (length (outs r.form va f)) (nth (outs r.form va f)) ≡ after_nops h.nops (word (lift h f))
unfolding candidate
near_word h r ok near va f fit u =
    ap (after_nops h.nops)
    (ap (λ (os : List Op). word (base h) + filled h.form va (length os) (nth os)) (sym (same near)) ∙ lift_word h ok f va fit)
  where
    same : Near h r → outs h.form va f ≡ outs r.form va f
    same (inl e) = ap (λ (x : Row). outs x.form va f) e
    same (inr p) = pair_outs h r va f fit p.forms u

pub record Restored (ts : List Row) (va : ℕ) (r : Row) (f : Fields) (e : Encoded) : Type 0 where
  pub row : Row
  pub picked : Picked ts r (value_in (outs r.form va f)) row
  pub accepted : e.number ≡ 0
  pub found : find ts (fields_of e.word) ≡ some row
  pub is : e.word ≡ after_nops row.nops (word (lift row f))

module _ (ts : List Row) (es : List Refusal) (ok : Good ts es) (va : ℕ) where
  -- THE LAW of what a word's reading gets
  pub restored : (w : ℕ) → w < words → (r : Row) → find ts (fields_of w) ≡ some r → (e : Encoded) →
      Encodes (answer_by ts es va) (meaning r va (fields_of w)) e → Restored ts va r (fields_of w) e
  restored w small r q e (no_word n z none) = absurd (none w (record { small = small; reads = answer_is ts es ok va w r q }))
  restored w small r q e (smallest n h l) =
      record {
        row = p.0;
        picked = p.1;
        accepted = n;
        found = ap (find ts) (ap fields_of (same ∙ g.are) ∙ fields_word g.fields g.fit) ∙ taken;
        is = same ∙ near_word p.0 r (ok.rows p.0 p.1.here) p.1.near va (fields_of w) (fields_fit w) p.1.suited;
      }
    where
      p : (h : Row) × Picked ts r (value_in (outs r.form va (fields_of w))) h
      p = picked_for ts es ok va w r q

      g : Within p.0 va (outs r.form va (fields_of w)) (fields_of w) (tried_for ts es ok va w r q)
      g = within_for ts es ok va w r q

      same : e.word ≡ tried_for ts es ok va w r q
      same =
          let below : e.word ≤ tried_for ts es ok va w r q = l (tried_for ts es ok va w r q) (has_for ts es ok va w r q) in
          let above : tried_for ts es ok va w r q ≤ e.word =
          (smallest_law ts es ok va (meaning r va (fields_of w)) (tried_for ts es ok va w r q) (tries_for ts es ok va w r q) e.word h).1 in
          omega arith

      taken : find ts g.fields ≡ some p.0
      taken =
          only_row ts g.fields (omega (arith, taken_or_refused ts es ok.exact g.fields g.fit)) p.0 p.1.here g.taken

-- a word of a row that leaves words 0 and 0x40 out is neither
pub kept_word : (r : Row) (f : Fields) → T (takes r f) → after_nops r.nops (word f) ≡ word f
unfolding after_nops word
kept_word r f t = go (r.nops && is_nop (word f)) refl
  where
    go : (b : Bool) → (r.nops && is_nop (word f)) ≡ b → cond b (word f + 2 ^ 21) (word f) ≡ word f
    go false q = refl
    go true q =
        let nop : T (is_nop (word f)) = and_r r.nops (is_nop (word f)) (at_true q) in
        let zeros : (f rt ≡ 0) × (f rd ≡ 0) × (f sa ≤ 1) = nop_fields f nop in
        let small : word f ≤ 64 =
        ⊎_elim (λ u. omega (arith, eqb→eq (word f) 0 u)) (λ u. omega (arith, eqb→eq (word f) 64 u)) (or_e (eqb (word f) 0) (eqb (word f) 64) nop) in
        absurd (takes_nop r f t (and_l r.nops (is_nop (word f)) (at_true q)) (like_nop f (omega (arith, small)) zeros.0 zeros.1 zeros.2))

-- ── what is not read is zero ──

zero_least : (p : Pat) → T (match p (least p)) → ¬ T (is_read p) → ZeroAt p (least p)
unfolding match least is_read
zero_least (is v) t n = tt
zero_least read t n = tt
zero_least (read_but v) t n = tt
zero_least zeros t n = refl
zero_least extra t n = refl
zero_least (skip_but v) t n = refl
zero_least (low v) t n = omega (arith, eqb→eq (v % 4) v t)

zero_read : (p : Pat) (a : ℕ) → T (is_read p) → ZeroAt p a
unfolding is_read
zero_read (is v) a t = absurd t
zero_read read a t = tt
zero_read (read_but v) a t = tt
zero_read zeros a t = absurd t
zero_read extra a t = absurd t
zero_read (skip_but v) a t = absurd t
zero_read (low v) a t = absurd t

-- the least in the fields that a row does not read
pub zero_lift : (r : Row) → Sound r → (f : Fields) (x : Field) → ZeroAt (pat_of r x) (lift r f x)
unfolding lift
zero_lift r ok f x =
    chosen (is_read (pat_of r x)) (ZeroAt (pat_of r x)) (f x) (base r x) (zero_read (pat_of r x) (f x))
    (λ n. zero_least (pat_of r x) (ok.allowed x n) n)

zero_zero : (p : Pat) → ZeroAt p 0
zero_zero (is v) = tt
zero_zero read = tt
zero_zero (read_but v) = tt
zero_zero zeros = refl
zero_zero extra = refl
zero_zero (skip_but v) = refl
zero_zero (low v) = refl

-- ── rs 1 ──

-- the row of `rotr` has it
unfoldable pub rotates : Row → Bool
rotates r = not (eqb r.kind kind.rotr) || fixed_to 1 r.prs

one_is : (p : Pat) (a : ℕ) → T (fixed_to 1 p) → T (match p a) → a ≡ 1
unfolding match
one_is (is v) a t m = eqb→eq a v m ∙ eqb→eq v 1 t
one_is read a t m = absurd t
one_is (read_but v) a t m = absurd t
one_is zeros a t m = absurd t
one_is extra a t m = absurd t
one_is (skip_but v) a t m = absurd t
one_is (low v) a t m = absurd t

pub needs_one : (r : Row) (w : ℕ) → T (rotates r) → T (takes r (fields_of w)) → NeedsOne r w → fields_of w rs ≡ 1
unfolding rotates fields_of
needs_one r w t k (rotr e) =
    one_is r.prs (fields_of w rs) (implied (eqb r.kind kind.rotr) (fixed_to 1 r.prs) t (at_true (eq-eqb r.kind kind.rotr e)))
    (takes_at r (fields_of w) k rs)
needs_one r w t k (sll_by_0 e) = ap (λ (n : ℕ). fields_of n rs) e
needs_one r w t k (sll_by_1 e) = ap (λ (n : ℕ). fields_of n rs) e

-- the two words that are raised: zero in every field but rs, and sa of the second, which is read
raised_zero : (r : Row) → Nops r → (n : ℕ) → T (is_nop n) → (x : Field) → ¬ (x ≡ rs) → ZeroAt (pat_of r x) (fields_of (n + 2 ^ 21) x)
unfolding fields_of
raised_zero r nops n t x d =
    ⊎_elim (λ u. subst (λ (m : ℕ). ZeroAt (pat_of r x) (fields_of (m + 2 ^ 21) x)) (sym (eqb→eq n 0 u)) (by_0 x d))
    (λ u. subst (λ (m : ℕ). ZeroAt (pat_of r x) (fields_of (m + 2 ^ 21) x)) (sym (eqb→eq n 64 u)) (by_1 x d)) (or_e (eqb n 0) (eqb n 64) t)
  where
    by_0 : (x : Field) → ¬ (x ≡ rs) → ZeroAt (pat_of r x) (fields_of (2 ^ 21) x)
    by_0 op d = zero_zero r.pop
    by_0 rs d = absurd (d refl)
    by_0 rt d = zero_zero r.prt
    by_0 rd d = zero_zero r.prd
    by_0 sa d = zero_zero r.psa
    by_0 funct d = zero_zero r.pfunct

    by_1 : (x : Field) → ¬ (x ≡ rs) → ZeroAt (pat_of r x) (fields_of (64 + 2 ^ 21) x)
    by_1 op d = zero_zero r.pop
    by_1 rs d = absurd (d refl)
    by_1 rt d = zero_zero r.prt
    by_1 rd d = zero_zero r.prd
    by_1 sa d = zero_read r.psa 1 nops.sa_read
    by_1 funct d = zero_zero r.pfunct

raised_needs : (r : Row) (n : ℕ) → T (is_nop n) → NeedsOne r (n + 2 ^ 21)
raised_needs r n t =
    ⊎_elim (λ u. sll_by_0 (ap (λ (m : ℕ). m + 2 ^ 21) (eqb→eq n 0 u))) (λ u. sll_by_1 (ap (λ (m : ℕ). m + 2 ^ 21) (eqb→eq n 64 u)))
    (or_e (eqb n 0) (eqb n 64) t)

-- a word that is as its row has it with nothing put in but what the row reads
pub least_word : (r : Row) → Sound r → T (rotates r) → (w : ℕ) → T (takes r (fields_of w)) → w ≡ after_nops r.nops (word (lift r (fields_of w))) →
    Least r w
unfolding after_nops
least_word r ok t w k e = go (r.nops && is_nop (word g)) refl e
  where
    g : Fields
    g = lift r (fields_of w)

    by_zeros : ((x : Field) → ZeroAt (pat_of r x) (fields_of w x)) → Least r w
    by_zeros z = record { zeros = λ n. z; one = needs_one r w t k; beside = λ n x d. z x }

    go : (b : Bool) → (r.nops && is_nop (word g)) ≡ b → w ≡ cond b (word g + 2 ^ 21) (word g) → Least r w
    go false q d =
        by_zeros (λ x. subst (λ (h : Fields). ZeroAt (pat_of r x) (h x)) (sym (ap fields_of d ∙ fields_word g (lift_fit r ok (fields_of w) (fields_fit w)))) (zero_lift r ok (fields_of w) x))
    go true q d =
        let nop : T (is_nop (word g)) = and_r r.nops (is_nop (word g)) (at_true q) in
        let nops : Nops r = nops_row r ok.nops (and_l r.nops (is_nop (word g)) (at_true q)) in
        record {
          zeros = λ n. absurd (n (subst (NeedsOne r) (sym d) (raised_needs r (word g) nop)));
          one = needs_one r w t k;
          beside = λ n x ne. subst (λ (v : ℕ). ZeroAt (pat_of r x) (fields_of v x)) (sym d) (raised_zero r nops (word g) nop x ne);
        }

-- and so is the word that a reading gets
module _ (ts : List Row) (es : List Refusal) (ok : Good ts es) (turning : T (every rotates ts)) (va : ℕ) where
  pub least_law : (w : ℕ) (e : Encoded) (r : Row) → w < words → (answer_by ts es va w).number ≡ 0 →
      Encodes (answer_by ts es va) (answer_by ts es va w).insn e → find ts (fields_of e.word) ≡ some r → Least r e.word
  least_law w e r small z (no_word n y none) q =
      absurd (none w (record { small = small; reads = accepted_insn (answer_by ts es va w) z }))
  least_law w e r small z (smallest n h l) q =
      least_word r (ok.rows r here.0) (every_in rotates ts turning r here.0) e.word here.1
      (kept.is ∙ ap (λ (x : Row). after_nops x.nops (word (lift x (fields_of e.word)))) same)
    where
      here : In r ts × T (takes r (fields_of e.word))
      here = find_in ts (fields_of e.word) r q

      reading : (answer_by ts es va w).insn ≡ meaning r va (fields_of e.word)
      reading = ap (λ (d : Decoded). d.insn) (sym h.reads ∙ answer_is ts es ok va e.word r q)

      kept : Restored ts va r (fields_of e.word) e
      kept =
          restored ts es ok va e.word h.small r q e
          (subst (λ (i : Insn). Encodes (answer_by ts es va) i e) reading (smallest n h l))

      same : kept.row ≡ r
      same = some-injective kept.row r (sym kept.found ∙ q)
