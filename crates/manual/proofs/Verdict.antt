-- What the walk tests at its end: the line of the manual, the row, the number of a refusal and the exceptions that are left for a word.
-- And what a passed test says of the word.
use Prim.Native.Nat.{ℕ, ◌%◌, ◌^◌, ◌<◌, ◌≤◌}
use Prim.Native.String.{String}
use mathlib.Core.Path.{◌≡◌, refl, sym, ◌∙◌, ap, ap₂, subst}
use mathlib.Core.Bool.{Bool, true, false, not, ◌&&◌, ◌||◌}
use mathlib.Core.List.{List, [], ◌∷◌, map, map-id}
use mathlib.Core.Option.{Option, none, some, none-ne-some, some-injective}
use mathlib.Core.Logic.{inl, inr, ⊎_elim}
use native.Mathlib.Omega.{arith}
use borrow.Author.Tests.{leb-true, leb-false}
use lib.Dec.{T, T_not, eqb, leb, eqb→eq}
use lib.Text.{eqt, eqt→eq, eqt_refl}
use Rattle.word.specs.Word.{Fields}
use Rattle.reading.specs.declared.Op.{Op}
use Rattle.reading.specs.declared.Op.TheVariants.{Reg, FReg, Imm, Mem, Addr, Cop0}
use Rattle.reading.specs.Names.{name_of}
use Rattle.classes.specs.Row.{Code, reg, freg, cop0, num, size, s16, u16, mem, br, jmp, Form, end, ◌▸◌, pos_size, link}
use Rattle.classes.specs.Row.{Row}
use Rattle.classes.specs.Meaning.{out, outs, target_in, reading, meaning}
use Rattle.laws.specs.Lists.{elem}
use Rattle.classes.specs.Refusals.{meets}
use Rattle.reading.specs.Reading.{accepted_as}
use Rattle.laws.proofs.Tests.{and_l, and_r, or_e, at_true}
use Rattle.classes.specs.Private.Same.{same_form}
use Rattle.classes.proofs.Tests.{same_form_lem}
use Rattle.classes.proofs.Operands.{known, known_most, in_use}
use Rattle.manual.specs.Page.{Arg, gpr, fpr, fcr, hwr, cp0, cp2, unsigned, signed16, plus, span, offset_base}
use Rattle.manual.specs.Page.{index_base, pc_relative}
use Rattle.manual.specs.Page.{in_region}
use Rattle.manual.specs.Page.{Name, Meant, GPR, FPR, FCR, HWR, CP0, CP2, number, memory, indexed, address}
use Rattle.manual.specs.Page.{meant_by, meant_in, value, Rules}
use Rattle.manual.specs.Page.{Line, pc_bits, meant, without, whole}
use Rattle.manual.specs.Exceptions.{Sort, Answer, refused, reads, drops, Difference}
use Rattle.manual.specs.Agreement.{line_for, used, shows, target_among, Reads, held, held_target, past, any_past}
use Rattle.manual.specs.Agreement.{Names, OneOf, Dropped, Answered}
use Rattle.manual.proofs.Same.{same_numbers, numbers_same}
use Rattle.manual.proofs.Slots.{same_operands, operands_meant}

-- ── the operands in use ──

pub used_meaning : (r : Row) (va : ℕ) (f : Fields) → T (known r) → used (meaning r va f) ≡ outs r.form va f
unfolding meaning reading
used_meaning r va f t = in_use (λ o. o) (outs r.form va f) (known_most r t va f) ∙ map-id (outs r.form va f)

target_among_lem : (os : List Op) → target_in os ≡ target_among (map shows os)
unfolding target_in target_among
target_among_lem [] = refl
target_among_lem (Reg n ∷ os) = target_among_lem os
target_among_lem (FReg n ∷ os) = target_among_lem os
target_among_lem (Imm z ∷ os) = target_among_lem os
target_among_lem (Mem z n ∷ os) = target_among_lem os
target_among_lem (Addr a ∷ os) = refl
target_among_lem (Cop0 n ∷ os) = target_among_lem os

-- ── what the PC holds ──

-- an address that it holds, and one that it does not
held_address : (wide : Bool) (a : ℕ) → leb (2 ^ pc_bits wide) a ≡ false → a % 2 ^ pc_bits wide ≡ a
held_address true a e = let l : a < 2 ^ 64 = leb-false (2 ^ 64) a e in omega arith
held_address false a e = let l : a < 2 ^ 32 = leb-false (2 ^ 32) a e in omega arith

past_address : (wide : Bool) (a : ℕ) → leb (2 ^ pc_bits wide) a ≡ true → ¬ (a ≡ a % 2 ^ pc_bits wide)
past_address true a e d = let l : 2 ^ 64 ≤ a = leb-true (2 ^ 64) a e in absurd (omega arith)
past_address false a e d = let l : 2 ^ 32 ≤ a = leb-true (2 ^ 32) a e in absurd (omega arith)

held_op : (wide : Bool) (o : Op) → past wide o ≡ false → held wide (shows o) ≡ shows o
held_op wide (Reg n) e = refl
held_op wide (FReg n) e = refl
held_op wide (Imm z) e = refl
held_op wide (Mem z n) e = refl
held_op wide (Addr a) e = ap address (held_address wide a e)
held_op wide (Cop0 n) e = refl

past_op : (wide : Bool) (o : Op) → past wide o ≡ true → ¬ (shows o ≡ held wide (shows o))
past_op wide (Reg n) e d = absurd (at_true e)
past_op wide (FReg n) e d = absurd (at_true e)
past_op wide (Imm z) e d = absurd (at_true e)
past_op wide (Mem z n) e d = absurd (at_true e)
past_op wide (Addr a) e d = past_address wide a e (cc)
past_op wide (Cop0 n) e d = absurd (at_true e)

pub held_all : (wide : Bool) (os : List Op) → any_past wide os ≡ false → map (held wide) (map shows os) ≡ map shows os
unfolding any_past
held_all wide [] e = refl
held_all wide (o ∷ os) e = go (past wide o) refl e (held_all wide os)
  where
    go : (b : Bool) → past wide o ≡ b → (b || any_past wide os) ≡ false → (any_past wide os ≡ false → map (held wide) (map shows os) ≡ map shows os) →
        held wide (shows o) ∷ map (held wide) (map shows os) ≡ shows o ∷ map shows os
    go true q d rec = absurd (subst T d tt)
    go false q d rec = ap₂ (λ (m : Meant) (ms : List Meant). m ∷ ms) (held_op wide o q) (rec d)

pub past_some : (wide : Bool) (os : List Op) → any_past wide os ≡ true → ¬ (map shows os ≡ map (held wide) (map shows os))
unfolding any_past
past_some wide [] e d = absurd (at_true e)
past_some wide (o ∷ os) e d = go (past wide o) refl e (past_some wide os)
  where
    first : shows o ≡ held wide (shows o)
    first = cc

    rest : map shows os ≡ map (held wide) (map shows os)
    rest = cc

    go : (b : Bool) → past wide o ≡ b → (b || any_past wide os) ≡ true → (any_past wide os ≡ true → ¬ (map shows os ≡ map (held wide) (map shows os))) → ⊥
    go true q c rec = past_op wide o q first
    go false q c rec = rec c rest

target_held : (wide : Bool) (ms : List Meant) → held_target wide (target_among ms) ≡ target_among (map (held wide) ms)
unfolding target_among
target_held wide [] = refl
target_held wide (GPR n ∷ ms) = target_held wide ms
target_held wide (FPR n ∷ ms) = target_held wide ms
target_held wide (FCR n ∷ ms) = target_held wide ms
target_held wide (HWR n ∷ ms) = target_held wide ms
target_held wide (CP0 n ∷ ms) = target_held wide ms
target_held wide (CP2 n ∷ ms) = target_held wide ms
target_held wide (number z ∷ ms) = target_held wide ms
target_held wide (memory z n ∷ ms) = target_held wide ms
target_held wide (indexed m n ∷ ms) = target_held wide ms
target_held wide (address a ∷ ms) = refl

-- ── a line and a row that agree ──

-- the line's name, and these of its operands
unfoldable pub named_as : Line → List Arg → Row → Bool
named_as ℓ xs r = eqt (name_of r.kind) ℓ.name && same_operands ℓ.page ℓ.when xs r.form

module _ (ℓ : Line) (r : Row) (s : T (known r)) (wide : Bool) (va : ℕ) (f : Fields) (w : T (meets ℓ.when f)) where
  pub named_reads : (xs : List Arg) → T (named_as ℓ xs r) → Names ℓ xs wide va f (meaning r va f)
  unfolding named_as meaning reading
  named_reads xs t =
      record {
        name = eqt→eq (name_of r.kind) ℓ.name (and_l (eqt (name_of r.kind) ℓ.name) _ t);
        operands = ap (λ (os : List Op). map (held wide) (map shows os)) (used_meaning r va f s) ∙ same;
        target = ap (held_target wide) (target_among_lem (outs r.form va f)) ∙ (target_held wide (map shows (outs r.form va f)) ∙ ap target_among same);
      }
    where
      same : map (held wide) (map shows (outs r.form va f)) ≡ meant_in ℓ.page xs wide va f
      same =
          operands_meant ℓ.page ℓ.when xs r.form (and_r (eqt (name_of r.kind) ℓ.name) (same_operands ℓ.page ℓ.when xs r.form) t) wide va f w

unfoldable pub matches : Line → Row → Bool
matches ℓ r = named_as ℓ ℓ.args r && whole ℓ

module _ (ℓ : Line) (r : Row) (s : T (known r)) (t : T (matches ℓ r)) (wide : Bool) (va : ℕ) (f : Fields) (w : T (meets ℓ.when f)) where
  pub matches_named : Names ℓ ℓ.args wide va f (meaning r va f) × T (whole ℓ)
  unfolding matches
  matches_named = (
    named_reads ℓ r s wide va f w ℓ.args (and_l (named_as ℓ ℓ.args r) (whole ℓ) t),
    and_r (named_as ℓ ℓ.args r) (whole ℓ) t,
  )

  abbrev os : List Op
  os = used (meaning r va f)

  pub matches_reads : any_past wide (used (meaning r va f)) ≡ false → Reads ℓ wide va f (meaning r va f)
  unfolding meaning reading meant
  matches_reads e =
      record {
        name = matches_named.0.name;
        operands = sym (held_all wide os e) ∙ matches_named.0.operands;
        target =
            target_among_lem (outs r.form va f)
            ∙ ap target_among (ap (map shows) (sym (used_meaning r va f s)) ∙ (sym (held_all wide os e) ∙ matches_named.0.operands));
        whole = matches_named.1;
      }

  -- an address that the PC does not hold is another one to the manual
  pub matches_past : any_past wide (used (meaning r va f)) ≡ true → ¬ Reads ℓ wide va f (meaning r va f)
  unfolding meant
  matches_past e reads-it = past_some wide os e (reads-it.operands ∙ sym matches_named.0.operands)

-- ── a line and a row that do not ──

-- a number for each sort of operand
abbrev sort_of : Meant → ℕ
sort_of (GPR n) = 0
sort_of (FPR n) = 1
sort_of (FCR n) = 2
sort_of (HWR n) = 3
sort_of (CP0 n) = 4
sort_of (CP2 n) = 5
sort_of (number z) = 6
sort_of (memory z n) = 7
sort_of (indexed m n) = 8
sort_of (address a) = 9

unfoldable pub arg_sort : Arg → ℕ
arg_sort (gpr n) = 0
arg_sort (fpr n) = 1
arg_sort (fcr n) = 2
arg_sort (hwr n) = 3
arg_sort (cp0 n) = 4
arg_sort (cp2 n) = 5
arg_sort (unsigned n) = 6
arg_sort (signed16 n) = 6
arg_sort (plus k n) = 6
arg_sort (span k m l) = 6
arg_sort offset_base = 7
arg_sort index_base = 8
arg_sort pc_relative = 9
arg_sort in_region = 9

unfoldable pub code_sort : Code → ℕ
code_sort (reg x) = 0
code_sort (freg x) = 1
code_sort (cop0 x) = 4
code_sort (num x) = 6
code_sort size = 6
code_sort s16 = 6
code_sort u16 = 6
code_sort mem = 7
code_sort br = 9
code_sort jmp = 9

abbrev and_sort : ℕ → Option (List ℕ) → Option (List ℕ)
and_sort n none = none
and_sort n (some l) = some (n ∷ l)

-- none for `link`, whose number of operands is not fixed
unfoldable pub form_sorts : Form → Option (List ℕ)
form_sorts end = some []
form_sorts (c ▸ φ) = and_sort (code_sort c) (form_sorts φ)
form_sorts pos_size = some (6 ∷ 6 ∷ [])
form_sorts link = none

arg_sort_lem : (a : Arg) (wide : Bool) (va : ℕ) (v : Name → ℕ) → sort_of (meant_by a wide va v) ≡ arg_sort a
unfolding meant_by arg_sort
arg_sort_lem (gpr n) wide va v = refl
arg_sort_lem (fpr n) wide va v = refl
arg_sort_lem (fcr n) wide va v = refl
arg_sort_lem (hwr n) wide va v = refl
arg_sort_lem (cp0 n) wide va v = refl
arg_sort_lem (cp2 n) wide va v = refl
arg_sort_lem (unsigned n) wide va v = refl
arg_sort_lem (signed16 n) wide va v = refl
arg_sort_lem (plus k n) wide va v = refl
arg_sort_lem (span k m l) wide va v = refl
arg_sort_lem offset_base wide va v = refl
arg_sort_lem index_base wide va v = refl
arg_sort_lem pc_relative wide va v = refl
arg_sort_lem in_region wide va v = refl

args_sorts : (xs : List Arg) (wide : Bool) (va : ℕ) (v : Name → ℕ) → map sort_of (map (λ a. meant_by a wide va v) xs) ≡ map arg_sort xs
args_sorts [] wide va v = refl
args_sorts (a ∷ xs) wide va v = ap₂ (λ (n : ℕ) (l : List ℕ). n ∷ l) (arg_sort_lem a wide va v) (args_sorts xs wide va v)

code_sort_lem : (c : Code) (va : ℕ) (f : Fields) → sort_of (shows (out c va f)) ≡ code_sort c
unfolding out code_sort
code_sort_lem (reg x) va f = refl
code_sort_lem (freg x) va f = refl
code_sort_lem (cop0 x) va f = refl
code_sort_lem (num x) va f = refl
code_sort_lem size va f = refl
code_sort_lem s16 va f = refl
code_sort_lem u16 va f = refl
code_sort_lem mem va f = refl
code_sort_lem br va f = refl
code_sort_lem jmp va f = refl

form_sorts_lem : (φ : Form) (l : List ℕ) → form_sorts φ ≡ some l → (va : ℕ) (f : Fields) → map sort_of (map shows (outs φ va f)) ≡ l
unfolding form_sorts outs
form_sorts_lem end l e va f = some-injective [] l e
form_sorts_lem (c ▸ φ) l e va f = go (form_sorts φ) refl e (λ k d. form_sorts_lem φ k d va f)
  where
    go : (o : Option (List ℕ)) → form_sorts φ ≡ o → and_sort (code_sort c) o ≡ some l →
        ((k : List ℕ) → form_sorts φ ≡ some k → map sort_of (map shows (outs φ va f)) ≡ k) →
        sort_of (shows (out c va f)) ∷ map sort_of (map shows (outs φ va f)) ≡ l
    go none d h rec = absurd (none-ne-some l h)
    go (some k) d h rec = ap₂ (λ (n : ℕ) (r : List ℕ). n ∷ r) (code_sort_lem c va f) (rec k d) ∙ some-injective (code_sort c ∷ k) l h
form_sorts_lem pos_size l e va f = some-injective (6 ∷ 6 ∷ []) l e
form_sorts_lem link l e va f = absurd (none-ne-some l e)

abbrev other_sorts : List ℕ → Option (List ℕ) → Bool
other_sorts k none = false
other_sorts k (some l) = not (same_numbers k l)

-- another name, a field left out, or operands of other sorts or another number of them
unfoldable pub clashes : Line → Row → Bool
clashes ℓ r = not (eqt (name_of r.kind) ℓ.name) || (not (whole ℓ) || other_sorts (map arg_sort ℓ.args) (form_sorts r.form))

pub clashes_reads : (ℓ : Line) (r : Row) → T (known r) → T (clashes ℓ r) → (wide : Bool) (va : ℕ) (f : Fields) → ¬ Reads ℓ wide va f (meaning r va f)
unfolding clashes meaning reading meant
clashes_reads ℓ r s t wide va f reads-it =
    ⊎_elim (λ n. T_not (eqt (name_of r.kind) ℓ.name) n names)
    (λ u. ⊎_elim (λ n. T_not (whole ℓ) n reads-it.whole) (λ o. sorts (form_sorts r.form) refl o) (or_e (not (whole ℓ)) other u))
    (or_e (not (eqt (name_of r.kind) ℓ.name)) (not (whole ℓ) || other) t)
  where
    other : Bool
    other = other_sorts (map arg_sort ℓ.args) (form_sorts r.form)

    names : T (eqt (name_of r.kind) ℓ.name)
    names = subst (λ (n : String). T (eqt (name_of r.kind) n)) reads-it.name (eqt_refl (name_of r.kind))

    meant_sorts : map arg_sort ℓ.args ≡ map sort_of (map shows (outs r.form va f))
    meant_sorts =
        sym (args_sorts ℓ.args wide va (value ℓ.page f))
        ∙ ap (map sort_of) (sym reads-it.operands ∙ ap (map shows) (used_meaning r va f s))

    sorts : (o : Option (List ℕ)) → form_sorts r.form ≡ o → T (other_sorts (map arg_sort ℓ.args) o) → ⊥
    sorts none e n = n
    sorts (some l) e n =
        T_not (same_numbers (map arg_sort ℓ.args) l) n
        (subst (λ (k : List ℕ). T (same_numbers (map arg_sort ℓ.args) k)) (meant_sorts ∙ form_sorts_lem r.form l e va f) (numbers_same (map arg_sort ℓ.args)))

-- ── what an exception says of a row, and of a number ──

unfoldable pub sorted : Row → List Sort → Bool
sorted r [] = false
sorted r (s ∷ ss) = (elem r.kind s.kinds && same_form r.form s.form) || sorted r ss

abbrev pub dropped_as : Option Line → Row → Name → Bool
dropped_as none r n = false
dropped_as (some ℓ) r n = named_as ℓ (without n ℓ.args) r

unfoldable pub read_as : Option Line → Row → Answer → Bool
read_as o r (refused n) = false
read_as o r (reads ss) = sorted r ss
read_as o r (drops n) = dropped_as o r n

unfoldable pub refused_as : ℕ → Answer → Bool
refused_as n (refused k) = eqb n k
refused_as n (reads ss) = false
refused_as n (drops m) = false

sorted_one : (r : Row) (va : ℕ) (f : Fields) → T (known r) → (ss : List Sort) → T (sorted r ss) → OneOf ss va f (meaning r va f)
unfolding sorted meaning reading
sorted_one r va f h [] t = absurd t
sorted_one r va f h (s ∷ ss) t = go (elem r.kind s.kinds && same_form r.form s.form) refl t (sorted_one r va f h ss)
  where
    here : T (elem r.kind s.kinds && same_form r.form s.form) → T (elem r.kind s.kinds) × (used (meaning r va f) ≡ outs s.form va f)
    here u = (
      and_l (elem r.kind s.kinds) _ u,
      used_meaning r va f h ∙ ap (λ (φ : Form). outs φ va f) (same_form_lem r.form s.form (and_r (elem r.kind s.kinds) _ u)),
    )

    go : (b : Bool) → (elem r.kind s.kinds && same_form r.form s.form) ≡ b → T (b || sorted r ss) → (T (sorted r ss) → OneOf ss va f (meaning r va f)) →
        OneOf (s ∷ ss) va f (meaning r va f)
    go true e u rec = inl (here (subst T (sym e) tt))
    go false e u rec = inr (rec u)

-- the line for the word, if it has one, is for it
abbrev pub Meets : Option Line → Fields → Type 0
Meets none f = Unit {0}
Meets (some ℓ) f = T (meets ℓ.when f)

dropped_named : (o : Option Line) (r : Row) (n : Name) → T (known r) → T (dropped_as o r n) → (wide : Bool) (va : ℕ) (f : Fields) → Meets o f →
    Dropped n o wide va f (meaning r va f)
dropped_named none r n h t wide va f w = t
dropped_named (some ℓ) r n h t wide va f w = named_reads ℓ r h wide va f w (without n ℓ.args) t

pub read_answered : (wide : Bool) (r : Row) (a : Answer) (va : ℕ) (f : Fields) → T (known r) → Meets (line_for wide f) f → T (read_as (line_for wide f) r a) →
    Answered a wide va f (accepted_as (meaning r va f))
unfolding read_as
read_answered wide r (refused n) va f h w t = absurd t
read_answered wide r (reads ss) va f h w t = (refl, sorted_one r va f h ss t)
read_answered wide r (drops n) va f h w t = (refl, dropped_named (line_for wide f) r n h t wide va f w)

pub refused_answered : (n : ℕ) (a : Answer) → T (refused_as n a) → (P : Answer → Type 0) → ((k : ℕ) → n ≡ k → P (refused k)) → P a
unfolding refused_as
refused_answered n (refused k) t P h = h k (eqb→eq n k t)
refused_answered n (reads ss) t P h = absurd t
refused_answered n (drops m) t P h = absurd t

-- ── the verdict ──

-- an exception, and one set of words that it covers
abbrev pub Part : Type 0
Part = Difference × Rules

unfoldable pub each : (Difference → Bool) → List Part → Bool
each q [] = true
each q (p ∷ ps) = q p.0 && each q ps

abbrev pub read_by : Option Line → Row → Difference → Bool
read_by o r d = read_as o r d.answer

abbrev pub refused_by : ℕ → Difference → Bool
refused_by n d = refused_as n d.answer

unfoldable pub verdict : Option Line → Option Row → ℕ → List Part → Bool
verdict none none n [] = true
verdict none none n (p ∷ ps) = false
verdict none (some r) n [] = false
verdict none (some r) n (p ∷ ps) = each (read_by none r) (p ∷ ps)
verdict (some ℓ) none n [] = false
verdict (some ℓ) none n (p ∷ ps) = each (refused_by n) (p ∷ ps)
verdict (some ℓ) (some r) n [] = matches ℓ r
verdict (some ℓ) (some r) n (p ∷ ps) = clashes ℓ r && each (read_by (some ℓ) r) (p ∷ ps)

-- they are sets of words of one exception, which its example tells from others
abbrev pub shown_by : ℕ → Difference → Bool
shown_by k d = eqb d.example.word k

unfoldable pub together : List Part → Bool
together [] = true
together (p ∷ ps) = each (shown_by p.0.example.word) (p ∷ ps)
