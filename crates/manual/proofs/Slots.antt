-- Operands of the manual and of a row side by side: what a Format line's operand is made of, in the row's words, and that the two then
-- mean the same for every word.
use Prim.Native.Nat.{ℕ, ◌+◌, ◌*◌, ◌%◌, ◌^◌}
use mathlib.Core.Path.{◌≡◌, refl, sym, ◌∙◌, ap, ap₂, subst}
use mathlib.Core.Bool.{Bool, true, false, not, cond, ◌&&◌, ◌||◌}
use mathlib.Core.List.{List, [], ◌∷◌, map, cons-ne-nil}
use mathlib.Core.Option.{Option, none, some, none-ne-some, some-injective}
use native.Mathlib.Omega.{arith}
use lib.Dec.{T, eqb, eqb→eq}
use lib.IntN.{pos}
use Rattle.word.specs.Word.{Field, same_field, Field_discrete, op, rs, rt, rd, sa, funct, Fields, room}
use Rattle.word.specs.Numbers.{imm, index, signed, branch_to, jump_to, size_of}
use Rattle.reading.specs.declared.Op.{Op}
use Rattle.reading.specs.declared.Op.TheVariants.{Reg, Imm}
use Rattle.classes.specs.Row.{Code, Code-discrete, reg, freg, cop0, num, size, s16, u16, mem, br, jmp, Form, end, ◌▸◌}
use Rattle.classes.specs.Row.{pos_size, link}
use Rattle.classes.specs.Meaning.{out, outs}
use Rattle.laws.specs.Lists.{elem}
use Rattle.classes.specs.Refusals.{Test, ◌one_of◌, ◌none_of◌, holds, meets}
use Rattle.laws.proofs.Tests.{and_l, and_r, decided}
use Rattle.classes.proofs.Tests.{same_field_lem}
use Rattle.manual.specs.Page.{Name, Base, Offset, InstrIndex, same_name, Column, is, box, over, under, part, Page}
use Rattle.manual.specs.Page.{column_of, value}
use Rattle.manual.specs.Page.{Arg, gpr, fpr, fcr, hwr, cp0, cp2, unsigned, signed16, plus, span, offset_base}
use Rattle.manual.specs.Page.{index_base, pc_relative}
use Rattle.manual.specs.Page.{in_region, pc_bits, Meant, GPR, FPR, CP0, number, memory, address, meant_by, meant_in}
use Rattle.manual.specs.Agreement.{shows, held}
use Rattle.manual.proofs.Same.{same_list, same_list_lem, same_fields, same_fields_lem}

-- ── where a field of a page stands ──

abbrev full : Name → Column → Bool
full n (is v) = false
full n (box m) = same_name n m
full n (over m k v) = false
full n (under v k m) = false

-- a part of a column
abbrev partly : Name → Column → Bool
partly n (is v) = false
partly n (box m) = false
partly n (over m k v) = same_name n m
partly n (under v k m) = same_name n m

abbrev pub columns : List Field
columns = op ∷ rs ∷ rt ∷ rd ∷ sa ∷ funct ∷ []

unfoldable pub full_in : Page → Name → List Field → List Field
full_in p n [] = []
full_in p n (x ∷ xs) = cond (full n (column_of p x)) (x ∷ full_in p n xs) (full_in p n xs)

unfoldable pub partly_in : Page → Name → List Field → Bool
partly_in p n [] = false
partly_in p n (x ∷ xs) = partly n (column_of p x) || partly_in p n xs

-- the columns of a field that has whole columns; none if it has not
unfoldable pub spots : Page → Name → List Field
spots p n = cond (partly_in p n columns) [] (full_in p n columns)

-- fields side by side
unfoldable pub side : Fields → List Field → ℕ → ℕ
side f [] s = s
side f (x ∷ xs) s = side f xs (s * room x + f x)

unfoldable pub parts : Page → Fields → Name → List Field → ℕ → ℕ
parts p f n [] s = s
parts p f n (x ∷ xs) s = parts p f n xs (part n (column_of p x) (room x) (f x) s)

parts_side : (p : Page) (f : Fields) (n : Name) (xs : List Field) (s : ℕ) → partly_in p n xs ≡ false → parts p f n xs s ≡ side f (full_in p n xs) s
unfolding parts side full_in partly_in part
parts_side p f n [] s e = refl
parts_side p f n (x ∷ xs) s e = go (column_of p x) e (λ k d. parts_side p f n xs k d)
  where
    boxed : (b : Bool) → ((k : ℕ) → parts p f n xs k ≡ side f (full_in p n xs) k) →
        parts p f n xs (cond b (s * room x + f x) s) ≡ side f (cond b (x ∷ full_in p n xs) (full_in p n xs)) s
    boxed true rec = rec (s * room x + f x)
    boxed false rec = rec s

    cut : (b : Bool) (k : ℕ) → (b || partly_in p n xs) ≡ false → ((k : ℕ) → partly_in p n xs ≡ false → parts p f n xs k ≡ side f (full_in p n xs) k) →
        parts p f n xs (cond b k s) ≡ side f (full_in p n xs) s
    cut true k d rec = absurd (subst T d tt)
    cut false k d rec = rec s d

    go : (c : Column) → (partly n c || partly_in p n xs) ≡ false → ((k : ℕ) → partly_in p n xs ≡ false → parts p f n xs k ≡ side f (full_in p n xs) k) →
        parts p f n xs (part n c (room x) (f x) s) ≡ side f (cond (full n c) (x ∷ full_in p n xs) (full_in p n xs)) s
    go (is v) d rec = rec s d
    go (box m) d rec = boxed (same_name n m) (λ k. rec k d)
    go (over m k v) d rec = cut (same_name n m) _ d rec
    go (under v k m) d rec = cut (same_name n m) _ d rec

-- the value of a field that has whole columns
value_side : (p : Page) (f : Fields) (n : Name) (x : Field) (xs : List Field) → spots p n ≡ x ∷ xs → value p f n ≡ side f (x ∷ xs) 0
unfolding value spots part parts
value_side p f n x xs e = go (partly_in p n columns) refl e
  where
    go : (b : Bool) → partly_in p n columns ≡ b → cond b [] (full_in p n columns) ≡ x ∷ xs → parts p f n columns 0 ≡ side f (x ∷ xs) 0
    go true d c = absurd (cons-ne-nil x xs (sym c))
    go false d c = parts_side p f n columns 0 d ∙ ap (λ (l : List Field). side f l 0) c

value_at : (p : Page) (f : Fields) (n : Name) (x : Field) → spots p n ≡ x ∷ [] → value p f n ≡ f x
unfolding side
value_at p f n x e = omega (arith, value_side p f n x [] e)

abbrev low16 : List Field
low16 = rd ∷ sa ∷ funct ∷ []

abbrev low26 : List Field
low26 = rs ∷ rt ∷ rd ∷ sa ∷ funct ∷ []

value_low16 : (p : Page) (f : Fields) (n : Name) → spots p n ≡ low16 → value p f n ≡ imm f
unfolding side imm
value_low16 p f n e = omega (arith, value_side p f n rd (sa ∷ funct ∷ []) e)

value_low26 : (p : Page) (f : Fields) (n : Name) → spots p n ≡ low26 → value p f n ≡ index f
unfolding side index
value_low26 p f n e = omega (arith, value_side p f n rs (rt ∷ rd ∷ sa ∷ funct ∷ []) e)

-- ── operands ──

-- an operand of a row, one by one: the codes of a row, and the size of `ins`
pub data Slot : Type 0 where
  plain : Code → Slot
  ins_size : Slot
  deriving Discrete as Slot_discrete

abbrev pub same_slot : Slot → Slot → Bool
same_slot s t = elim (Slot_discrete (Code-discrete Field_discrete) s t) [ yes e ↦ true | no d ↦ false ]

unfoldable pub slot_out : Slot → ℕ → Fields → Op
slot_out (plain c) va f = out c va f
slot_out ins_size va f = Imm (size_of (f rd) (f sa))

-- the only column of a field
abbrev on_column : (Field → Slot) → List Field → Option Slot
on_column k [] = none
on_column k (x ∷ []) = some (k x)
on_column k (x ∷ y ∷ xs) = none

abbrev when_true : Bool → Slot → Option Slot
when_true b s = cond b (some s) none

unfoldable pub slot_of : Page → Arg → Option Slot
slot_of p (gpr n) = on_column (λ x. plain (reg x)) (spots p n)
slot_of p (fpr n) = on_column (λ x. plain (freg x)) (spots p n)
slot_of p (fcr n) = none
slot_of p (hwr n) = none
slot_of p (cp0 n) = on_column (λ x. plain (cop0 x)) (spots p n)
slot_of p (cp2 n) = none
slot_of p (unsigned n) = cond (same_fields (spots p n) low16) (some (plain u16)) (on_column (λ x. plain (num x)) (spots p n))
slot_of p (signed16 n) = when_true (same_fields (spots p n) low16) (plain s16)
slot_of p (plus k n) = when_true (eqb k 1 && same_fields (spots p n) (rd ∷ [])) (plain size)
slot_of p (span k m l) = when_true (eqb k 0 && (same_fields (spots p m) (rd ∷ []) && same_fields (spots p l) (sa ∷ []))) ins_size
slot_of p offset_base = when_true (same_fields (spots p Offset) low16 && same_fields (spots p Base) (rs ∷ [])) (plain mem)
slot_of p index_base = none
slot_of p pc_relative = when_true (same_fields (spots p Offset) low16) (plain br)
slot_of p in_region = when_true (same_fields (spots p InstrIndex) low26) (plain jmp)

-- an answer that a test gives: the test is true
when_some : {A : Type 0} (b : Bool) (a k : A) → cond b (some a) none ≡ some k → T b × (a ≡ k)
when_some true a k e = (tt, some-injective a k e)
when_some false a k e = absurd (none-ne-some k e)

on_column_lem : (k : Field → Slot) (l : List Field) (s : Slot) → on_column k l ≡ some s → (P : Slot → Type 0) → ((x : Field) → l ≡ x ∷ [] → P (k x)) → P s
on_column_lem k [] s e P h = absurd (none-ne-some s e)
on_column_lem k (x ∷ []) s e P h = subst P (some-injective (k x) s e) (h x refl)
on_column_lem k (x ∷ y ∷ xs) s e P h = absurd (none-ne-some s e)

-- what the operand of the Format line means is what the row's operand shows, as far as the PC holds it
pub slot_meant : (p : Page) (a : Arg) (s : Slot) → slot_of p a ≡ some s → (wide : Bool) (va : ℕ) (f : Fields) →
    meant_by a wide va (value p f) ≡ held wide (shows (slot_out s va f))
unfolding slot_of meant_by slot_out out
slot_meant p (gpr n) s e wide va f = on_column_lem _ (spots p n) s e (λ t. GPR (value p f n) ≡ held wide (shows (slot_out t va f))) (λ x d. ap GPR (value_at p f n x d))
slot_meant p (fpr n) s e wide va f = on_column_lem _ (spots p n) s e (λ t. FPR (value p f n) ≡ held wide (shows (slot_out t va f))) (λ x d. ap FPR (value_at p f n x d))
slot_meant p (fcr n) s e wide va f = absurd (none-ne-some s e)
slot_meant p (hwr n) s e wide va f = absurd (none-ne-some s e)
slot_meant p (cp0 n) s e wide va f = on_column_lem _ (spots p n) s e (λ t. CP0 (value p f n) ≡ held wide (shows (slot_out t va f))) (λ x d. ap CP0 (value_at p f n x d))
slot_meant p (cp2 n) s e wide va f = absurd (none-ne-some s e)
slot_meant p (unsigned n) s e wide va f = go (same_fields (spots p n) low16) refl e
  where
    go : (b : Bool) → same_fields (spots p n) low16 ≡ b → cond b (some (plain u16)) (on_column (λ x. plain (num x)) (spots p n)) ≡ some s →
        number (pos (value p f n)) ≡ held wide (shows (slot_out s va f))
    go true d c = subst (λ (t : Slot). number (pos (value p f n)) ≡ held wide (shows (slot_out t va f))) (some-injective (plain u16) s c)
        (ap (λ (k : ℕ). number (pos k)) (value_low16 p f n (same_fields_lem (spots p n) low16 (subst T (sym d) tt))))
    go false d c = on_column_lem _ (spots p n) s c (λ t. number (pos (value p f n)) ≡ held wide (shows (slot_out t va f))) (λ x h. ap (λ (k : ℕ). number (pos k)) (value_at p f n x h))
slot_meant p (signed16 n) s e wide va f =
    let r = when_some (same_fields (spots p n) low16) (plain s16) s e in
    subst (λ (t : Slot). number (signed 16 (value p f n)) ≡ held wide (shows (slot_out t va f))) r.1
    (ap (λ (k : ℕ). number (signed 16 k)) (value_low16 p f n (same_fields_lem (spots p n) low16 r.0)))
slot_meant p (plus k n) s e wide va f =
    let r = when_some (eqb k 1 && same_fields (spots p n) (rd ∷ [])) (plain size) s e in
    subst (λ (t : Slot). number (pos (value p f n + k)) ≡ held wide (shows (slot_out t va f))) r.1
    (ap₂ (λ (i j : ℕ). number (pos (i + j))) (value_at p f n rd (same_fields_lem (spots p n) (rd ∷ []) (and_r (eqb k 1) _ r.0)))
    (eqb→eq k 1 (and_l (eqb k 1) _ r.0)))
slot_meant p (span k m l) s e wide va f =
    let r = when_some (eqb k 0 && (same_fields (spots p m) (rd ∷ []) && same_fields (spots p l) (sa ∷ []))) ins_size s e in
    let none_added : k ≡ 0 = eqb→eq k 0 (and_l (eqb k 0) _ r.0) in
    let last : value p f m ≡ f rd = value_at p f m rd (same_fields_lem (spots p m) (rd ∷ []) (and_l (same_fields (spots p m) (rd ∷ [])) _ (and_r (eqb k 0) _ r.0))) in
    let first : value p f l ≡ f sa = value_at p f l sa (same_fields_lem (spots p l) (sa ∷ []) (and_r (same_fields (spots p m) (rd ∷ [])) _ (and_r (eqb k 0) _ r.0))) in
    let sum : value p f m + k ≡ f rd = omega (arith, none_added, last) in
    subst (λ (t : Slot). number (size_of (value p f m + k) (value p f l)) ≡ held wide (shows (slot_out t va f))) r.1 (ap₂ (λ (i j : ℕ). number (size_of i j)) sum first)
slot_meant p offset_base s e wide va f =
    let r = when_some (same_fields (spots p Offset) low16 && same_fields (spots p Base) (rs ∷ [])) (plain mem) s e in
    subst (λ (t : Slot). memory (signed 16 (value p f Offset)) (value p f Base) ≡ held wide (shows (slot_out t va f))) r.1
    (ap₂ (λ (i j : ℕ). memory (signed 16 i) j) (value_low16 p f Offset (same_fields_lem (spots p Offset) low16 (and_l (same_fields (spots p Offset) low16) _ r.0)))
    (value_at p f Base rs (same_fields_lem (spots p Base) (rs ∷ []) (and_r (same_fields (spots p Offset) low16) _ r.0))))
slot_meant p index_base s e wide va f = absurd (none-ne-some s e)
slot_meant p pc_relative s e wide va f =
    let r = when_some (same_fields (spots p Offset) low16) (plain br) s e in
    subst (λ (t : Slot). address (branch_to va (value p f Offset) % 2 ^ pc_bits wide) ≡ held wide (shows (slot_out t va f))) r.1
    (ap (λ (k : ℕ). address (branch_to va k % 2 ^ pc_bits wide)) (value_low16 p f Offset (same_fields_lem (spots p Offset) low16 r.0)))
slot_meant p in_region s e wide va f =
    let r = when_some (same_fields (spots p InstrIndex) low26) (plain jmp) s e in
    subst (λ (t : Slot). address (jump_to va (value p f InstrIndex) % 2 ^ pc_bits wide) ≡ held wide (shows (slot_out t va f))) r.1
    (ap (λ (k : ℕ). address (jump_to va k % 2 ^ pc_bits wide)) (value_low26 p f InstrIndex (same_fields_lem (spots p InstrIndex) low26 r.0)))

-- ── the operands of a row ──

abbrev with_first : Slot → Option (List Slot) → Option (List Slot)
with_first s none = none
with_first s (some l) = some (s ∷ l)

abbrev is31 : List ℕ → Bool
is31 [] = false
is31 (v ∷ []) = eqb v 31
is31 (v ∷ u ∷ vs) = false

-- `link` by what the line asks of rd: that it is 31, or that it is not
abbrev pub link_slots : List Test → Option (List Slot)
link_slots [] = none
link_slots (x one_of vs ∷ []) = cond (same_field x rd && is31 vs) (some (plain (reg rs) ∷ [])) none
link_slots (x none_of vs ∷ []) = cond (same_field x rd && is31 vs) (some (plain (reg rd) ∷ plain (reg rs) ∷ [])) none
link_slots (t ∷ u ∷ ts) = none

unfoldable pub form_slots : List Test → Form → Option (List Slot)
form_slots ts end = some []
form_slots ts (c ▸ φ) = with_first (plain c) (form_slots ts φ)
form_slots ts pos_size = some (plain (num sa) ∷ ins_size ∷ [])
form_slots ts link = link_slots ts

abbrev pub slot_outs : ℕ → Fields → List Slot → List Op
slot_outs va f l = map (λ (s : Slot). slot_out s va f) l

or_false : (b : Bool) → (b || false) ≡ b
or_false true = refl
or_false false = refl

is_31 : (vs : List ℕ) (a : ℕ) → T (is31 vs) → elem a vs ≡ eqb a 31
unfolding elem
is_31 [] a t = absurd t
is_31 (v ∷ []) a t = or_false (eqb a v) ∙ ap (λ (k : ℕ). eqb a k) (eqb→eq v 31 t)
is_31 (v ∷ u ∷ vs) a t = absurd t

-- rd is tested for 31
tested : (x : Field) (vs : List ℕ) (f : Fields) → T (same_field x rd && is31 vs) → elem (f x) vs ≡ eqb (f rd) 31
tested x vs f t =
    is_31 vs (f x) (and_r (same_field x rd) (is31 vs) t) ∙ ap (λ (y : Field). eqb (f y) 31) (same_field_lem x rd (and_l (same_field x rd) (is31 vs) t))

link_outs : (ts : List Test) (l : List Slot) → link_slots ts ≡ some l → (va : ℕ) (f : Fields) → T (meets ts f) → outs link va f ≡ slot_outs va f l
unfolding meets holds outs slot_out out
link_outs [] l e va f t = absurd (none-ne-some l e)
link_outs (x one_of vs ∷ []) l e va f t =
    let r = when_some (same_field x rd && is31 vs) (plain (reg rs) ∷ []) l e in
    at_31 (eqb (f rd) 31) (subst T (tested x vs f r.0) (and_l (elem (f x) vs) true t)) ∙ ap (slot_outs va f) r.1
  where
    at_31 : (b : Bool) → T b → cond b (Reg (f rs) ∷ []) (Reg (f rd) ∷ Reg (f rs) ∷ []) ≡ Reg (f rs) ∷ []
    at_31 true s = refl
    at_31 false s = absurd s
link_outs (x none_of vs ∷ []) l e va f t =
    let r = when_some (same_field x rd && is31 vs) (plain (reg rd) ∷ plain (reg rs) ∷ []) l e in
    elsewhere (eqb (f rd) 31) (subst (λ (b : Bool). T (not b)) (tested x vs f r.0) (and_l (not (elem (f x) vs)) true t)) ∙ ap (slot_outs va f) r.1
  where
    elsewhere : (b : Bool) → T (not b) → cond b (Reg (f rs) ∷ []) (Reg (f rd) ∷ Reg (f rs) ∷ []) ≡ Reg (f rd) ∷ Reg (f rs) ∷ []
    elsewhere true s = absurd s
    elsewhere false s = refl
link_outs (u ∷ w ∷ ts) l e va f t = absurd (none-ne-some l e)

pub form_outs : (ts : List Test) (φ : Form) (l : List Slot) → form_slots ts φ ≡ some l → (va : ℕ) (f : Fields) → T (meets ts f) → outs φ va f ≡ slot_outs va f l
unfolding form_slots outs slot_out out
form_outs ts end l e va f t = ap (slot_outs va f) (some-injective [] l e)
form_outs ts (c ▸ φ) l e va f t = go (form_slots ts φ) refl e (λ k d. form_outs ts φ k d va f t)
  where
    go : (o : Option (List Slot)) → form_slots ts φ ≡ o → with_first (plain c) o ≡ some l →
        ((k : List Slot) → form_slots ts φ ≡ some k → outs φ va f ≡ slot_outs va f k) →
        out c va f ∷ outs φ va f ≡ slot_outs va f l
    go none d h rec = absurd (none-ne-some l h)
    go (some k) d h rec = ap (λ (os : List Op). out c va f ∷ os) (rec k d) ∙ ap (slot_outs va f) (some-injective (plain c ∷ k) l h)
form_outs ts pos_size l e va f t = ap (slot_outs va f) (some-injective (plain (num sa) ∷ ins_size ∷ []) l e)
form_outs ts link l e va f t = link_outs ts l e va f t

-- ── a Format line and a row ──

unfoldable pub line_slots : Page → List Arg → Option (List Slot)
line_slots p [] = some []
line_slots p (a ∷ xs) = elim (slot_of p a) [ none ↦ none | some s ↦ with_first s (line_slots p xs) ]

pub line_meant : (p : Page) (xs : List Arg) (l : List Slot) → line_slots p xs ≡ some l → (wide : Bool) (va : ℕ) (f : Fields) →
    meant_in p xs wide va f ≡ map (held wide) (map shows (slot_outs va f l))
unfolding line_slots
line_meant p [] l e wide va f = ap (λ (k : List Slot). map (held wide) (map shows (slot_outs va f k))) (some-injective [] l e)
line_meant p (a ∷ xs) l e wide va f = go (slot_of p a) refl (line_slots p xs) refl e (λ k d. line_meant p xs k d wide va f)
  where
    go : (o : Option Slot) → slot_of p a ≡ o → (q : Option (List Slot)) → line_slots p xs ≡ q → elim o [ none ↦ none | some s ↦ with_first s q ] ≡ some l →
        ((k : List Slot) → line_slots p xs ≡ some k → meant_in p xs wide va f ≡ map (held wide) (map shows (slot_outs va f k))) →
        meant_by a wide va (value p f) ∷ meant_in p xs wide va f ≡ map (held wide) (map shows (slot_outs va f l))
    go none d q c h rec = absurd (none-ne-some l h)
    go (some s) d none c h rec = absurd (none-ne-some l h)
    go (some s) d (some k) c h rec =
        ap₂ (λ (m : Meant) (ms : List Meant). m ∷ ms) (slot_meant p a s d wide va f) (rec k c)
        ∙ ap (λ (j : List Slot). map (held wide) (map shows (slot_outs va f j))) (some-injective (s ∷ k) l h)

abbrev same_slots : List Slot → List Slot → Bool
same_slots k l = same_list same_slot k l

same_slots_lem : (k l : List Slot) → T (same_slots k l) → k ≡ l
same_slots_lem k l t = same_list_lem same_slot (λ a b. decided (Slot_discrete (Code-discrete Field_discrete) a b)) k l t

-- THE TEST: a line's operands are a row's
abbrev same_lists : Option (List Slot) → Option (List Slot) → Bool
same_lists none o = false
same_lists (some k) none = false
same_lists (some k) (some l) = same_slots k l

unfoldable pub same_operands : Page → List Test → List Arg → Form → Bool
same_operands p ts xs φ = same_lists (line_slots p xs) (form_slots ts φ)

pub operands_meant : (p : Page) (ts : List Test) (xs : List Arg) (φ : Form) → T (same_operands p ts xs φ) → (wide : Bool) (va : ℕ) (f : Fields) →
    T (meets ts f) → map (held wide) (map shows (outs φ va f)) ≡ meant_in p xs wide va f
unfolding same_operands
operands_meant p ts xs φ h wide va f t = go (line_slots p xs) refl (form_slots ts φ) refl h
  where
    go : (o : Option (List Slot)) → line_slots p xs ≡ o → (q : Option (List Slot)) → form_slots ts φ ≡ q → T (same_lists o q) →
        map (held wide) (map shows (outs φ va f)) ≡ meant_in p xs wide va f
    go none d q c w = absurd w
    go (some k) d none c w = absurd w
    go (some k) d (some l) c w =
        ap (λ (os : List Op). map (held wide) (map shows os)) (form_outs ts φ l c va f t)
        ∙ (ap (λ (j : List Slot). map (held wide) (map shows (slot_outs va f j))) (sym (same_slots_lem k l w)) ∙ sym (line_meant p xs k d wide va f))
