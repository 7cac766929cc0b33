-- The smallest word of one row: the operands of any of its words give a word of the row with these operands that is no larger.
use Prim.Native.Nat.{ℕ, ◌+◌, ◌*◌, ◌%◌, ◌^◌, ◌<◌, ◌≤◌, zero-le}
use mathlib.Core.Path.{◌≡◌, refl, sym, ◌∙◌, ap, subst, fun_ext}
use mathlib.Core.Bool.{Bool, true, false, not, cond, ◌&&◌, ◌||◌, beq}
use mathlib.Core.List.{List, [], ◌∷◌}
use mathlib.Core.Logic.{⊎_elim}
use native.Mathlib.Nat.{le_refl, le_of_eq}
use native.Mathlib.Omega.{arith}
use borrow.Author.Tests.{eqb-true, eqb-false, eq-eqb, le-leb}
use lib.Dec.{T, T_not, not_T, eqb, ltb, leb, eqb→eq, leb→le, ltb→lt}
use lib.ListN.{length}
use Rattle.word.specs.Word.{Field, op, rs, rt, rd, sa, funct, Fields, room, Fit, word}
use Rattle.word.proofs.Fields.{word_mono}
use Rattle.reading.specs.declared.Op.{Op}
use Rattle.classes.specs.Row.{Pat, is, read, read_but, zeros, extra, skip_but, low, Row, pat_of}
use Rattle.classes.specs.Meaning.{match, six, nop_like, takes, outs}
use Rattle.laws.proofs.Tests.{and_l, and_r, and_i, or_l, or_r, or_e, chosen, at_true, at_false, beq_same, all_of, EachOf}
use Rattle.laws.proofs.Tests.{each_of, implied}
use Rattle.classes.proofs.Tests.{six_at, six_make}
use Rattle.classes.proofs.Operands.{operands_in}
use Rattle.classes.proofs.Uses.{uses_form, is_read, made_of_read, outs_same}
use Rattle.inverse.proofs.Weigh.{weigh, word_mixed}
use Rattle.inverse.specs.Private.Fill.{filled}
use Rattle.inverse.specs.Private.Candidate.{is_nop, after_nops, candidate, least, base}
use Rattle.inverse.proofs.Fill.{nth, apart, fill_law}
use Rattle.inverse.proofs.Good.{least_in, is_zero, is_free, nops_in, sound}

-- ── what a row takes ──

module _ (r : Row) (f : Fields) where
  abbrev asked : Bool
  asked = six (λ x. match (pat_of r x) (f x))

  pub takes_at : T (takes r f) → (x : Field) → T (match (pat_of r x) (f x))
  unfolding takes
  takes_at t = six_at (λ x. match (pat_of r x) (f x)) (and_l asked (not (r.nops && nop_like f)) t)

  pub takes_nop : T (takes r f) → T r.nops → ¬ T (nop_like f)
  unfolding takes
  takes_nop t n l = T_not (r.nops && nop_like f) (and_r asked (not (r.nops && nop_like f)) t) (and_i r.nops (nop_like f) n l)

  pub takes_make : ((x : Field) → T (match (pat_of r x) (f x))) → T (not (r.nops && nop_like f)) → T (takes r f)
  unfolding takes
  takes_make h n = and_i asked (not (r.nops && nop_like f)) (six_make (λ x. match (pat_of r x) (f x)) h) n

pub least_le : (p : Pat) (a : ℕ) → T (match p a) → least p ≤ a
unfolding match least
least_le (is v) a t = le_of_eq (sym (eqb→eq a v t))
least_le read a t = zero-le
least_le (read_but v) a t = zero-le
least_le zeros a t = zero-le
least_le extra a t = zero-le
least_le (skip_but v) a t = zero-le
least_le (low v) a t = omega (arith, eqb→eq (a % 4) v t)

least_read : (p : Pat) → T (is_read p) → least p ≡ 0
unfolding is_read least
least_read (is v) t = absurd t
least_read read t = refl
least_read (read_but v) t = refl
least_read zeros t = absurd t
least_read extra t = absurd t
least_read (skip_but v) t = absurd t
least_read (low v) t = absurd t

-- ── what the test says of a row ──

pub record Sound (r : Row) : Type 0 where
  pub made : uses_form r.form ≡ (λ x. is_read (pat_of r x))
  pub fits : (x : Field) → base r x < room x
  pub allowed : (x : Field) → ¬ T (is_read (pat_of r x)) → T (match (pat_of r x) (base r x))
  pub nops : T (nops_in r)
  pub apart : T (apart r.form)
  pub four : operands_in r.form ≤ 4

pub sound_row : (r : Row) → T (sound r) → Sound r
unfolding sound
sound_row r t = go (each_of tests t)
  where
    tests : List Bool
    tests = made_of_read r ∷ six (least_in r) ∷ nops_in r ∷ apart r.form ∷ leb (operands_in r.form) 4 ∷ []

    made_of : T (made_of_read r) → (x : Field) → T (beq (uses_form r.form x) (is_read (pat_of r x)))
    made_of made = six_at (λ y. beq (uses_form r.form y) (is_read (pat_of r y))) (unfold made_of_read in made)

    free : Field → Bool
    free x = is_read (pat_of r x) || match (pat_of r x) (base r x)

    both : T (six (least_in r)) → (x : Field) → T (free x && ltb (base r x) (room x))
    both least x = unfold least_in in six_at (least_in r) least x

    free_of : (x : Field) → ¬ T (is_read (pat_of r x)) → T (free x) → T (match (pat_of r x) (base r x))
    free_of x n u = ⊎_elim (λ s. absurd (n s)) (λ s. s) (or_e (is_read (pat_of r x)) (match (pat_of r x) (base r x)) u)

    go : EachOf tests → Sound r
    go (made, (least, (nops, (apart, (four, _))))) =
        record {
          made = fun_ext (λ x. beq_same (uses_form r.form x) (is_read (pat_of r x)) (made_of made x));
          fits = λ x. ltb→lt (base r x) (room x) (and_r (free x) (ltb (base r x) (room x)) (both least x));
          allowed = λ x n. free_of x n (and_l (free x) _ (both least x));
          nops = nops;
          apart = apart;
          four = leb→le (operands_in r.form) 4 four;
        }

-- ── the word that operands give ──

-- w is a word of row h with the operands os, no larger than f's
pub record Within (h : Row) (va : ℕ) (os : List Op) (f : Fields) (w : ℕ) : Type 0 where
  pub fields : Fields
  pub are : w ≡ word fields
  pub fit : Fit fields
  pub taken : T (takes h fields)
  pub operands : outs h.form va fields ≡ os
  pub le : w ≤ word f

-- f's values in the fields that the row reads, and the least in the others
unfoldable pub lift : Row → Fields → Fields
lift r f x = cond (is_read (pat_of r x)) (f x) (base r x)

module _ (r : Row) (ok : Sound r) (f : Fields) where
  pub lift_read : (x : Field) → T (is_read (pat_of r x)) → lift r f x ≡ f x
  unfolding lift
  lift_read x t = go (is_read (pat_of r x)) t
    where
      go : (b : Bool) → T b → cond b (f x) (base r x) ≡ f x
      go true u = refl
      go false u = absurd u

  pub lift_unread : (x : Field) → ¬ T (is_read (pat_of r x)) → lift r f x ≡ base r x
  unfolding lift
  lift_unread x n = go (is_read (pat_of r x)) n
    where
      go : (b : Bool) → ¬ T b → cond b (f x) (base r x) ≡ base r x
      go true m = absurd (m tt)
      go false m = refl

  pub lift_match : ((x : Field) → T (is_read (pat_of r x)) → T (match (pat_of r x) (f x))) → (x : Field) → T (match (pat_of r x) (lift r f x))
  unfolding lift
  lift_match h x = chosen (is_read (pat_of r x)) (λ n. T (match (pat_of r x) n)) (f x) (base r x) (h x) (ok.allowed x)

  pub lift_le : (x : Field) → base r x ≤ f x → lift r f x ≤ f x
  unfolding lift
  lift_le x l = chosen (is_read (pat_of r x)) (λ n. n ≤ f x) (f x) (base r x) (λ t. le_refl (f x)) (λ n. l)

  pub lift_fit : Fit f → Fit (lift r f)
  unfolding lift
  lift_fit h x = chosen (is_read (pat_of r x)) (λ n. n < room x) (f x) (base r x) (λ t. h x) (λ n. ok.fits x)

  -- what the operands are made of is what is read
  pub same_read : (va : ℕ) (g : Fields) → ((x : Field) → T (is_read (pat_of r x)) → g x ≡ f x) → outs r.form va g ≡ outs r.form va f
  same_read va g h = outs_same g f r.form va (λ x t. h x (subst (λ (p : Field → Bool). T (p x)) ok.made t))

  -- the operands of f, put into the row's word with nothing in it
  pub lift_word : (va : ℕ) → Fit f → word (base r) + filled r.form va (length (outs r.form va f)) (nth (outs r.form va f)) ≡ word (lift r f)
  unfolding lift
  lift_word va h =
      ap (λ (n : ℕ). word (base r) + n) (fill_law r.form va f h ok.apart ∙ ap (λ (p : Field → Bool). weigh p f) ok.made)
      ∙ sym (word_mixed (λ x. is_read (pat_of r x)) f (base r) (λ x t. least_read (pat_of r x) t))

-- ── a row that leaves words 0 and 0x40 out ──

pub record Nops (r : Row) : Type 0 where
  pub zero_op : base r op ≡ 0
  pub op_unread : ¬ T (is_read r.pop)
  pub zero_funct : base r funct ≡ 0
  pub funct_unread : ¬ T (is_read r.pfunct)
  pub any_rs : T (match r.prs 1)
  pub zero_rs : base r rs ≡ 0
  pub rs_unread : ¬ T (is_read r.prs)
  pub rt_read : T (is_read r.prt)
  pub rd_read : T (is_read r.prd)
  pub sa_read : T (is_read r.psa)

zero_is : (p : Pat) → T (is_zero p) → (least p ≡ 0) × (¬ T (is_read p))
unfolding least is_read
zero_is (is v) t = (eqb→eq v 0 t, λ u. u)
zero_is read t = absurd t
zero_is (read_but v) t = absurd t
zero_is zeros t = absurd t
zero_is extra t = absurd t
zero_is (skip_but v) t = absurd t
zero_is (low v) t = absurd t

free_is : (p : Pat) → T (is_free p) → T (match p 1) × (least p ≡ 0) × (¬ T (is_read p))
unfolding match least is_read
free_is (is v) t = absurd t
free_is read t = absurd t
free_is (read_but v) t = absurd t
free_is zeros t = (tt, refl, λ u. u)
free_is extra t = (tt, refl, λ u. u)
free_is (skip_but v) t = absurd t
free_is (low v) t = absurd t

pub nops_row : (r : Row) → T (nops_in r) → T r.nops → Nops r
unfolding nops_in
nops_row r t n = go (each_of tests (implied r.nops (all_of tests) t n))
  where
    tests : List Bool
    tests =
        is_zero r.pop ∷ is_zero r.pfunct ∷ is_free r.prs ∷ is_read r.prt ∷ is_read r.prd ∷ is_read r.psa ∷ []

    go : EachOf tests → Nops r
    go (o, (k, (free, (rt_read, (rd_read, (sa_read, _)))))) =
        record {
          zero_op = (zero_is r.pop o).0;
          op_unread = (zero_is r.pop o).1;
          zero_funct = (zero_is r.pfunct k).0;
          funct_unread = (zero_is r.pfunct k).1;
          any_rs = (free_is r.prs free).0;
          zero_rs = (free_is r.prs free).1;
          rs_unread = (free_is r.prs free).2;
          rt_read = rt_read;
          rd_read = rd_read;
          sa_read = sa_read;
        }

-- the same fields with rs 1
abbrev raised : Fields → Fields
raised g op = g op
raised g rs = 1
raised g rt = g rt
raised g rd = g rd
raised g sa = g sa
raised g funct = g funct

raised_word : (g : Fields) → g rs ≡ 0 → word g + 2 ^ 21 ≡ word (raised g)
unfolding word
raised_word g e = omega arith

-- what such a word's fields are
pub nop_fields : (g : Fields) → T (is_nop (word g)) → (g rt ≡ 0) × (g rd ≡ 0) × (g sa ≤ 1)
unfolding word
nop_fields g t = (omega (arith, small), omega (arith, small), omega (arith, small))
  where
    small : word g ≤ 64
    small = ⊎_elim (λ u. omega (arith, eqb→eq (word g) 0 u)) (λ u. omega (arith, eqb→eq (word g) 64 u)) (or_e (eqb (word g) 0) (eqb (word g) 64) t)

-- and a word with such fields
pub like_nop : (g : Fields) → g rs ≡ 0 → g rt ≡ 0 → g rd ≡ 0 → g sa ≤ 1 → T (nop_like g)
unfolding nop_like
like_nop g a b c d =
    and_i (eqb (g rs) 0) _ (at_true (eq-eqb (g rs) 0 a))
    (and_i (eqb (g rt) 0) _ (at_true (eq-eqb (g rt) 0 b))
    (and_i (eqb (g rd) 0) (leb (g sa) 1) (at_true (eq-eqb (g rd) 0 c)) (at_true (le-leb (g sa) 1 d))))

-- if op and funct are 0
nop_word : (g : Fields) → g op ≡ 0 → g funct ≡ 0 → T (nop_like g) → T (is_nop (word g))
unfolding nop_like word
nop_word g a b t = go (eqb (g sa) 0) refl
  where
    each : EachOf (eqb (g rs) 0 ∷ eqb (g rt) 0 ∷ eqb (g rd) 0 ∷ leb (g sa) 1 ∷ [])
    each = each_of (eqb (g rs) 0 ∷ eqb (g rt) 0 ∷ eqb (g rd) 0 ∷ leb (g sa) 1 ∷ []) t

    e : word g ≡ g sa * 2 ^ 6
    e = omega (arith, eqb→eq (g rs) 0 each.0, eqb→eq (g rt) 0 each.1.0, eqb→eq (g rd) 0 each.1.1.0)

    one_at_most : g sa ≤ 1
    one_at_most = leb→le (g sa) 1 each.1.1.1.0

    go : (s : Bool) → eqb (g sa) 0 ≡ s → T (is_nop (word g))
    go true q =
        or_l (eqb (word g) 0) (eqb (word g) 64) (at_true (eq-eqb (word g) 0 (omega (arith, e, eqb-true (g sa) 0 q))))
    go false q =
        or_r (eqb (word g) 0) (eqb (word g) 64)
        (at_true (eq-eqb (word g) 64 (omega (arith, e, eqb-false (g sa) 0 q, one_at_most))))

-- ── a word's own row ──

module _ (r : Row) (ok : Sound r) (va : ℕ) (f : Fields) (fit : Fit f) (t : T (takes r f)) where
  abbrev g : Fields
  g = lift r f

  abbrev Good : ℕ → Type 0
  Good = Within r va (outs r.form va f) f

  le_at : (x : Field) → g x ≤ f x
  le_at x = lift_le r ok f x (least_le (pat_of r x) (f x) (takes_at r f t x))

  match_at : (x : Field) → T (match (pat_of r x) (g x))
  match_at = lift_match r ok f (λ y u. takes_at r f t y)

  not_nop : ¬ T (r.nops && is_nop (word g)) → ¬ T (r.nops && nop_like g)
  not_nop n u = n (and_i r.nops (is_nop (word g)) nops (nop_word g zero_op zero_funct (and_r r.nops (nop_like g) u)))
    where
      nops : T r.nops
      nops = and_l r.nops (nop_like g) u

      at : Nops r
      at = nops_row r ok.nops nops

      zero_op : g op ≡ 0
      zero_op = lift_unread r ok f op at.op_unread ∙ at.zero_op

      zero_funct : g funct ≡ 0
      zero_funct = lift_unread r ok f funct at.funct_unread ∙ at.zero_funct

  own_plain : ¬ T (r.nops && is_nop (word g)) → Good (word g)
  own_plain n =
      record {
        fields = g;
        are = refl;
        fit = lift_fit r ok f fit;
        taken = takes_make r g match_at (not_T (r.nops && nop_like g) (not_nop n));
        operands = same_read r ok f va g (lift_read r ok f);
        le = word_mono g f le_at;
      }

  -- where it would be word 0 or 0x40
  module _ (nops : T r.nops) (is : T (is_nop (word g))) where
    at : Nops r
    at = nops_row r ok.nops nops

    rs_zero : g rs ≡ 0
    rs_zero = lift_unread r ok f rs at.rs_unread ∙ at.zero_rs

    -- f is such a word too, but for rs
    rs_some : 1 ≤ f rs
    rs_some = let n : ¬ (f rs ≡ 0) = (λ e. takes_nop r f t nops (like_nop f e rt_zero rd_zero sa_small)) in omega arith
      where
        zeros : (g rt ≡ 0) × (g rd ≡ 0) × (g sa ≤ 1)
        zeros = nop_fields g is

        rt_zero : f rt ≡ 0
        rt_zero = sym (lift_read r ok f rt at.rt_read) ∙ zeros.0

        rd_zero : f rd ≡ 0
        rd_zero = sym (lift_read r ok f rd at.rd_read) ∙ zeros.1

        sa_small : f sa ≤ 1
        sa_small = subst (λ (n : ℕ). n ≤ 1) (lift_read r ok f sa at.sa_read) zeros.2

    raised_le : (x : Field) → raised g x ≤ f x
    raised_le op = le_at op
    raised_le rs = rs_some
    raised_le rt = le_at rt
    raised_le rd = le_at rd
    raised_le sa = le_at sa
    raised_le funct = le_at funct

    raised_fit : Fit (raised g)
    raised_fit op = lift_fit r ok f fit op
    raised_fit rs = omega arith
    raised_fit rt = lift_fit r ok f fit rt
    raised_fit rd = lift_fit r ok f fit rd
    raised_fit sa = lift_fit r ok f fit sa
    raised_fit funct = lift_fit r ok f fit funct

    raised_match : (x : Field) → T (match (pat_of r x) (raised g x))
    raised_match op = match_at op
    raised_match rs = at.any_rs
    raised_match rt = match_at rt
    raised_match rd = match_at rd
    raised_match sa = match_at sa
    raised_match funct = match_at funct

    raised_read : (x : Field) → T (is_read (pat_of r x)) → raised g x ≡ f x
    raised_read op u = lift_read r ok f op u
    raised_read rs u = absurd (at.rs_unread u)
    raised_read rt u = lift_read r ok f rt u
    raised_read rd u = lift_read r ok f rd u
    raised_read sa u = lift_read r ok f sa u
    raised_read funct u = lift_read r ok f funct u

    raised_nop : ¬ T (r.nops && nop_like (raised g))
    raised_nop u = unfold nop_like in and_r r.nops false u

    own_raised : Good (word g + 2 ^ 21)
    own_raised =
        record {
          fields = raised g;
          are = raised_word g rs_zero;
          fit = raised_fit;
          taken = takes_make r (raised g) raised_match (not_T (r.nops && nop_like (raised g)) raised_nop);
          operands = same_read r ok f va (raised g) raised_read;
          le = subst (λ (n : ℕ). n ≤ word f) (sym (raised_word g rs_zero)) (word_mono (raised g) f raised_le);
        }

  -- THE LAW of one row
  pub own : Good (candidate r va (length (outs r.form va f)) (nth (outs r.form va f)))
  unfolding candidate after_nops
  own = subst (λ (w : ℕ). Good (cond (r.nops && is_nop w) (w + 2 ^ 21) w)) (sym (lift_word r ok f va fit)) (go (r.nops && is_nop (word g)) refl)
    where
      go : (b : Bool) → (r.nops && is_nop (word g)) ≡ b → Good (cond b (word g + 2 ^ 21) (word g))
      go true e = own_raised (and_l r.nops (is_nop (word g)) (at_true e)) (and_r r.nops (is_nop (word g)) (at_true e))
      go false e = own_plain (T_not (r.nops && is_nop (word g)) (at_false e))
