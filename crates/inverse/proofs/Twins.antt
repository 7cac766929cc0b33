-- Twins: a row that comes before a word's own row in the table and can have the word's operands gives them a word that is no larger.
use Prim.Native.Nat.{ℕ, ◌+◌, ◌-◌, ◌<◌, ◌≤◌}
use mathlib.Core.Path.{◌≡◌, refl, sym, ◌∙◌, ap, subst}
use mathlib.Core.Bool.{Bool, true, false, not, ◌&&◌, ◌||◌}
use mathlib.Core.List.{List, [], ◌∷◌}
use mathlib.Core.Logic.{⊎_elim}
use native.Mathlib.Decide.{ℕ_discrete}
use native.Mathlib.Nat.{le_trans}
use native.Mathlib.Omega.{arith}
use borrow.Author.Tests.{lt-ltb}
use lib.Dec.{T, T_not, eqb, ltb, leb, leb→le, ltb→lt, lt→ltb}
use lib.IntN.{ℤ, pos}
use lib.ListN.{length}
use Rattle.word.specs.Word.{Field, op, Fields, Fit, word}
use Rattle.word.specs.Numbers.{imm, signed}
use Rattle.word.proofs.Fields.{word_mono, word_op, imm_small}
use Rattle.word.proofs.Signed.{low16, by_sign}
use Rattle.reading.specs.declared.Op.{Op}
use Rattle.reading.specs.Kind as kind
use Rattle.classes.specs.Row.{Pat, is, read, read_but, zeros, extra, skip_but, low, Form, Row, pat_of}
use Rattle.classes.specs.Meaning.{match, six, takes, out, outs, int_of}
use Rattle.classes.specs.Table.{rt_imm, rt_uimm}
use Rattle.laws.specs.Lists.{elem}
use Rattle.laws.proofs.Tests.{and_l, and_r, and_i, or_r, or_e, implies, implied, at_true, EachOf, each_of}
use Rattle.classes.specs.Private.Same.{same_form}
use Rattle.classes.proofs.Tests.{six_at, same_form_lem, same_manner, same_manner_lem}
use Rattle.classes.proofs.Uses.{is_read}
use Rattle.inverse.specs.Same.{groups}
use Rattle.inverse.specs.Private.Fill.{filled}
use Rattle.inverse.specs.Private.Candidate.{least, base, in_signed, in_unsigned, holds, suits, after_nops, candidate}
use Rattle.inverse.proofs.Fill.{nth}
use Rattle.inverse.proofs.Good.{same_operands, is_plain, before, twin}
use Rattle.inverse.proofs.Rows.{takes_at, takes_make, least_le, Sound, Within, lift, lift_read, lift_unread}
use Rattle.inverse.proofs.Rows.{lift_match}
use Rattle.inverse.proofs.Rows.{lift_le, lift_fit, same_read, lift_word}

-- ── the two forms of `li` ──

signed_in : (u : ℕ) → u < 65536 → T (in_signed (signed 16 u))
signed_in u h = by_sign (λ z. T (in_signed z)) u h (λ l. lt→ltb u 32768 l) (λ l. lt→ltb (65535 - u) 32768 (omega arith))

unsigned_same : (u : ℕ) → u < 65536 → T (in_unsigned (signed 16 u)) → signed 16 u ≡ pos u
unsigned_same u h = by_sign (λ z. T (in_unsigned z) → z ≡ pos u) u h (λ l t. refl) (λ l t. absurd t)

-- the value of the second operand
abbrev pub value_in : List Op → ℤ
value_in os = int_of (nth os 1)

pub own_holds : (φ : Form) (va : ℕ) (f : Fields) → Fit f → T (holds φ (value_in (outs φ va f)))
unfolding holds
own_holds φ va f h =
    and_i (not (same_form φ rt_imm) || in_signed (value_in (outs φ va f))) (not (same_form φ rt_uimm) || in_unsigned (value_in (outs φ va f)))
    (implies (same_form φ rt_imm) (in_signed (value_in (outs φ va f))) (λ y. signed_form (same_form_lem φ rt_imm y)))
    (implies (same_form φ rt_uimm) (in_unsigned (value_in (outs φ va f))) (λ y. unsigned_form (same_form_lem φ rt_uimm y)))
  where
    signed_form : φ ≡ rt_imm → T (in_signed (value_in (outs φ va f)))
    signed_form e = subst (λ (ψ : Form). T (in_signed (value_in (outs ψ va f)))) (sym e) (unfold outs out in signed_in (imm f) (imm_small f h))

    unsigned_form : φ ≡ rt_uimm → T (in_unsigned (value_in (outs φ va f)))
    unsigned_form e = subst (λ (ψ : Form). T (in_unsigned (value_in (outs ψ va f)))) (sym e) (unfold outs out in at_true (lt-ltb (imm f) 65536 (imm_small f h)))

pub own_suits : (r : Row) (va : ℕ) (f : Fields) → Fit f → T (suits r (value_in (outs r.form va f)))
unfolding suits
own_suits r va f h = or_r (not (eqb r.kind kind.li)) (holds r.form (value_in (outs r.form va f))) (own_holds r.form va f h)

signed_for_unsigned : (va : ℕ) (f : Fields) → Fit f → T (holds rt_imm (value_in (outs rt_uimm va f))) → outs rt_imm va f ≡ outs rt_uimm va f
unfolding holds outs out ℕ_discrete
signed_for_unsigned va f h t =
    let e : signed 16 (imm f) ≡ pos (imm f) = low16 (imm f) (ltb→lt (imm f) 32768 (and_l (in_signed (pos (imm f))) true t)) in
    cc

unsigned_for_signed : (va : ℕ) (f : Fields) → Fit f → T (holds rt_uimm (value_in (outs rt_imm va f))) → outs rt_uimm va f ≡ outs rt_imm va f
unfolding holds outs out ℕ_discrete
unsigned_for_signed va f h t =
    let e : signed 16 (imm f) ≡ pos (imm f) = unsigned_same (imm f) (imm_small f h) t in
    cc

-- ── what the test says of two rows ──

pub record Pair (h r : Row) : Type 0 where
  pub group : T (elem r.kind groups)
  pub manner : h.manner ≡ r.manner
  pub nops : T (not h.nops)
  pub forms : T (same_operands h r)
  pub plain : (x : Field) → T (is_plain (pat_of h x))
  pub order : T (before h r)

pub twin_pair : (h r : Row) → T (twin h r) → Pair h r
unfolding twin
twin_pair h r t = go (each_of tests t)
  where
    tests : List Bool
    tests =
        elem r.kind groups ∷ same_manner h.manner r.manner ∷ not h.nops ∷ same_operands h r ∷
        six (λ x. is_plain (pat_of h x)) ∷ before h r ∷
        []

    go : EachOf tests → Pair h r
    go (group, (manner, (nops, (forms, (plain, (order, _)))))) =
        record {
          group = group;
          manner = same_manner_lem h.manner r.manner manner;
          nops = nops;
          forms = forms;
          plain = six_at (λ x. is_plain (pat_of h x)) plain;
          order = order;
        }

-- the forms of twins give the same operands, if h can have the value
module _ (h r : Row) (va : ℕ) (f : Fields) (fit : Fit f) where
  abbrev z : ℤ
  z = value_in (outs r.form va f)

  -- h and r have these two forms
  by_forms : (φ ψ : Form) → T (same_form h.form φ && same_form r.form ψ) → T (holds h.form z) →
      (T (holds φ (value_in (outs ψ va f))) → outs φ va f ≡ outs ψ va f) → outs h.form va f ≡ outs r.form va f
  by_forms φ ψ t v law = ap (λ (χ : Form). outs χ va f) p ∙ (law held ∙ ap (λ (χ : Form). outs χ va f) (sym q))
    where
      p : h.form ≡ φ
      p = same_form_lem h.form φ (and_l (same_form h.form φ) (same_form r.form ψ) t)

      q : r.form ≡ ψ
      q = same_form_lem r.form ψ (and_r (same_form h.form φ) (same_form r.form ψ) t)

      held : T (holds φ (value_in (outs ψ va f)))
      held = subst (λ (χ : Form). T (holds φ (value_in (outs χ va f)))) q (subst (λ (χ : Form). T (holds χ z)) p v)

  pub pair_outs : T (same_operands h r) → T (suits h z) → outs h.form va f ≡ outs r.form va f
  unfolding same_operands suits
  pair_outs t u =
      ⊎_elim (λ y. ap (λ (φ : Form). outs φ va f) (same_form_lem h.form r.form y)) li
      (or_e (same_form h.form r.form) (eqb h.kind kind.li && (b₁ || b₂)) t)
    where
      b₁ : Bool
      b₁ = same_form h.form rt_imm && same_form r.form rt_uimm

      b₂ : Bool
      b₂ = same_form h.form rt_uimm && same_form r.form rt_imm

      li : T (eqb h.kind kind.li && (b₁ || b₂)) → outs h.form va f ≡ outs r.form va f
      li y =
          let v : T (holds h.form z) = implied (eqb h.kind kind.li) (holds h.form z) u (and_l (eqb h.kind kind.li) (b₁ || b₂) y) in
          ⊎_elim (λ s. by_forms rt_imm rt_uimm s v (signed_for_unsigned va f fit)) (λ s. by_forms rt_uimm rt_imm s v (unsigned_for_signed va f fit))
          (or_e b₁ b₂ (and_r (eqb h.kind kind.li) (b₁ || b₂) y))

plain_match : (p : Pat) (a : ℕ) → T (is_plain p) → T (is_read p) → T (match p a)
unfolding match is_read
plain_match (is v) a t u = absurd u
plain_match read a t u = tt
plain_match (read_but v) a t u = absurd t
plain_match zeros a t u = absurd u
plain_match extra a t u = absurd u
plain_match (skip_but v) a t u = absurd u
plain_match (low v) a t u = absurd u

-- no word of h with r's operands is above r's
before_le : (h r : Row) → Sound h → (f : Fields) → Fit f → T (takes r f) → T (before h r) → word (lift h f) ≤ word f
unfolding before
before_le h r ok f fit t b = ⊎_elim smaller_op no_larger (or_e smaller same_or_smaller b)
  where
    smaller : Bool
    smaller = not (is_read h.pop) && ltb (least h.pop) (least r.pop)

    same_or_smaller : Bool
    same_or_smaller = six (λ x. leb (base h x) (base r x))

    least_at : (x : Field) → base r x ≤ f x
    least_at x = least_le (pat_of r x) (f x) (takes_at r f t x)

    smaller_op : T smaller → word (lift h f) ≤ word f
    smaller_op u =
        let e : lift h f op ≡ least h.pop = lift_unread h ok f op (T_not (is_read h.pop) (and_l (not (is_read h.pop)) _ u)) in
        let l : least h.pop < least r.pop = ltb→lt (least h.pop) (least r.pop) (and_r (not (is_read h.pop)) _ u) in
        word_op (lift h f) f (lift_fit h ok f fit) (omega (arith, e, l, least_at op))

    no_larger : T same_or_smaller → word (lift h f) ≤ word f
    no_larger u =
        word_mono (lift h f) f
        (λ x. lift_le h ok f x (le_trans (leb→le (base h x) (base r x) (six_at (λ y. leb (base h y) (base r y)) u x)) (least_at x)))

pub no_nops : (nops : Bool) (w : ℕ) → T (not nops) → after_nops nops w ≡ w
unfolding after_nops
no_nops true w n = absurd n
no_nops false w n = refl

not_both : (a b : Bool) → T (not a) → T (not (a && b))
not_both true b t = absurd t
not_both false b t = tt

-- THE LAW of twins
pub twin_within : (h r : Row) → Sound h → Pair h r → (va : ℕ) (f : Fields) → Fit f → T (takes r f) → T (suits h (value_in (outs r.form va f))) →
    Within h va (outs r.form va f) f (candidate h va (length (outs r.form va f)) (nth (outs r.form va f)))
unfolding candidate
twin_within h r ok p va f fit t u = subst (Within h va (outs r.form va f) f) (sym is) lifted
  where
    same : outs h.form va f ≡ outs r.form va f
    same = pair_outs h r va f fit p.forms u

    is : after_nops h.nops (word (base h) + filled h.form va (length (outs r.form va f)) (nth (outs r.form va f))) ≡ word (lift h f)
    is =
        no_nops h.nops _ p.nops
        ∙ (ap (λ (os : List Op). word (base h) + filled h.form va (length os) (nth os)) (sym same) ∙ lift_word h ok f va fit)

    lifted : Within h va (outs r.form va f) f (word (lift h f))
    lifted =
        record {
          fields = lift h f;
          are = refl;
          fit = lift_fit h ok f fit;
          taken = takes_make h (lift h f) (lift_match h ok f (λ x v. plain_match (pat_of h x) (f x) (p.plain x) v)) (not_both h.nops _ p.nops);
          operands = same_read h ok f va (lift h f) (lift_read h ok f) ∙ same;
          le = before_le h r ok f fit t p.order;
        }
