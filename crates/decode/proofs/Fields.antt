-- What a word has, by the fields that an arm knows, in the form that the search applies: equations of `decoded_of`. The
-- check finds every arm by those of its group, which the function's attribute names (`.._arms`, at the end).
-- How: `by_funct` and its like put the word's own fields for the values of the facts. At an arm these are numerals, and
-- the row computes; so does its reading, since `row_reads` opens all of it. A `rest_..` has the arm `_` of a group,
-- which knows that a field has none of the values listed, the last arm's first.
use Prim.Native.Nat.{ℕ, ◌%◌, ◌<◌}
use mathlib.Core.Path.{◌≡◌, refl, sym}
use mathlib.Core.Bool.{Bool, not}
use mathlib.Core.List.{List, [], ◌∷◌}
use lib.Dec.{T, eqb}
use mathlib.Core.Option.{Option, none, some}
use Rattle.refusal.specs.Numbers as refusal
use Rattle.word.specs.Word.{op, rs, rt, rd, sa, funct, Fields, fields_of, words}
use Rattle.reading.specs.declared.Decoded.{Decoded}
use Rattle.reading.specs.Reading.{refused_of, accepted_as}
use Rattle.classes.specs.Row.{Row}
use Rattle.classes.specs.Meaning.{meaning, reading, outs, flow_of, target_in, mark_of, effect_of}
use Rattle.classes.specs.Decoded.{decoded_of}
use Rattle.decode.specs.Private.Groups.{NoneOf, Behind, single, double, word, long}
use Rattle.decode.specs.Private.Groups.{grouped, branches, immediates, shifts, moves, arithmetics}
use Rattle.decode.proofs.Facts.{Fact, ◌≐◌, ◌≠◌, ◌is_none_of◌, ◌lowIs◌, ◌low_is_none_of◌, busy, Known}
use Rattle.decode.proofs.Arms.{row_by, number_by, accepts, refuses, known_busy}

-- what the row that the facts leave reads, if they leave one
unfoldable pub row_reads : List Fact → Bool → ℕ → Fields → Decoded → Decoded
unfolding row_by meaning reading outs flow_of target_in mark_of effect_of
row_reads ks wide va f d = elim (row_by ks wide) [ some r ↦ accepted_as (meaning r va f) | none ↦ d ]

reads : (ks : List Fact) (w va : ℕ) (wide : Bool) → Known (fields_of w) ks →
    decoded_of w va wide ≡ row_reads ks wide va (fields_of w) (decoded_of w va wide)
unfolding row_reads
reads ks w va wide h = go (row_by ks wide) refl
  where
    go : (o : Option Row) → row_by ks wide ≡ o → decoded_of w va wide ≡
        elim o [ some r ↦ accepted_as (meaning r va (fields_of w)) | none ↦ decoded_of w va wide ]
    go (some r) e = sym (accepts ks w va wide h e refl)
    go none e = refl

abbrev Reads : ℕ → List Fact → Type 0
Reads w ks = (va : ℕ) (wide : Bool) →
    decoded_of w va wide ≡ row_reads ks wide va (fields_of w) (decoded_of w va wide)

abbrev Refuses : ℕ → ℕ → Type 0
Refuses w n = (va : ℕ) (wide : Bool) → decoded_of w va wide ≡ refused_of n

-- ── by the values of these fields ──

pub by_op : (w : ℕ) → Reads w (op ≐ fields_of w op ∷ [])
by_op w va wide = reads _ w va wide (refl, tt)

pub by_funct : (w : ℕ) → Reads w (op ≐ fields_of w op ∷ funct ≐ fields_of w funct ∷ [])
by_funct w va wide = reads _ w va wide (refl, (refl, tt))

pub by_rs : (w : ℕ) → Reads w (op ≐ fields_of w op ∷ rs ≐ fields_of w rs ∷ [])
by_rs w va wide = reads _ w va wide (refl, (refl, tt))

pub by_rt : (w : ℕ) → Reads w (op ≐ fields_of w op ∷ rt ≐ fields_of w rt ∷ [])
by_rt w va wide = reads _ w va wide (refl, (refl, tt))

pub by_rt_rs : (w : ℕ) → Reads w (op ≐ fields_of w op ∷ rt ≐ fields_of w rt ∷ rs ≐ fields_of w rs ∷ [])
by_rt_rs w va wide = reads _ w va wide (refl, (refl, (refl, tt)))

pub by_funct_rs : (w : ℕ) → Reads w (op ≐ fields_of w op ∷ funct ≐ fields_of w funct ∷ rs ≐ fields_of w rs ∷ [])
by_funct_rs w va wide = reads _ w va wide (refl, (refl, (refl, tt)))

pub by_funct_rt : (w : ℕ) → Reads w (op ≐ fields_of w op ∷ funct ≐ fields_of w funct ∷ rt ≐ fields_of w rt ∷ [])
by_funct_rt w va wide = reads _ w va wide (refl, (refl, (refl, tt)))

pub by_funct_sa : (w : ℕ) → Reads w (op ≐ fields_of w op ∷ funct ≐ fields_of w funct ∷ sa ≐ fields_of w sa ∷ [])
by_funct_sa w va wide = reads _ w va wide (refl, (refl, (refl, tt)))

pub by_low_bits : (w : ℕ) →
    Reads w (op ≐ fields_of w op ∷ rs ≐ fields_of w rs ∷ rt lowIs (fields_of w rt % 4) ∷ [])
by_low_bits w va wide = reads _ w va wide (refl, (refl, (refl, tt)))

-- ── where the last has another value ──

pub other_rs : (w : ℕ) → ¬ (fields_of w rs ≡ 0) → Reads w (op ≐ fields_of w op ∷ rs ≠ 0 ∷ [])
other_rs w n va wide = reads _ w va wide (refl, (n, tt))

pub other_rt : (w : ℕ) → ¬ (fields_of w rt ≡ 0) → Reads w (op ≐ fields_of w op ∷ rt ≠ 0 ∷ [])
other_rt w n va wide = reads _ w va wide (refl, (n, tt))

pub other_rt_rs : (w : ℕ) → ¬ (fields_of w rs ≡ 0) →
    Reads w (op ≐ fields_of w op ∷ rt ≐ fields_of w rt ∷ rs ≠ 0 ∷ [])
other_rt_rs w n va wide = reads _ w va wide (refl, (refl, (n, tt)))

pub other_funct_rs : (w : ℕ) → ¬ (fields_of w rs ≡ 0) →
    Reads w (op ≐ fields_of w op ∷ funct ≐ fields_of w funct ∷ rs ≠ 0 ∷ [])
other_funct_rs w n va wide = reads _ w va wide (refl, (refl, (n, tt)))

pub other_funct_rs1 : (w : ℕ) → ¬ (fields_of w rs ≡ 1) →
    Reads w (op ≐ fields_of w op ∷ funct ≐ fields_of w funct ∷ rs ≠ 1 ∷ [])
other_funct_rs1 w n va wide = reads _ w va wide (refl, (refl, (n, tt)))

pub other_funct_rt : (w : ℕ) → ¬ (fields_of w rt ≡ 0) →
    Reads w (op ≐ fields_of w op ∷ funct ≐ fields_of w funct ∷ rt ≠ 0 ∷ [])
other_funct_rt w n va wide = reads _ w va wide (refl, (refl, (n, tt)))

pub other_low_bits : (w : ℕ) → NoneOf (fields_of w rt % 4) (2 ∷ 1 ∷ 0 ∷ []) →
    Reads w (op ≐ fields_of w op ∷ rs ≐ fields_of w rs ∷ rt low_is_none_of (2 ∷ 1 ∷ 0 ∷ []) ∷ [])
other_low_bits w n va wide = reads _ w va wide (refl, (refl, (n, tt)))

-- ── words that the code compares with as a whole ──

abbrev nop_but : ℕ → List Fact
nop_but k = op ≐ 0 ∷ rs ≐ 0 ∷ rt ≐ 0 ∷ rd ≐ 0 ∷ sa ≐ k ∷ funct ≐ 0 ∷ []

pub by_nop : (w : ℕ) → w ≡ 0 → Reads w (nop_but 0)
unfolding fields_of
by_nop w e va wide = reads (nop_but 0) w va wide (rw e (refl, (refl, (refl, (refl, (refl, (refl, tt)))))))

pub by_ssnop : (w : ℕ) → w ≡ 64 → Reads w (nop_but 1)
unfolding fields_of
by_ssnop w e va wide = reads (nop_but 1) w va wide (rw e (refl, (refl, (refl, (refl, (refl, (refl, tt)))))))

pub by_sll : (w : ℕ) → w < words → fields_of w op ≡ 0 → fields_of w funct ≡ 0 → ¬ (w ≡ 0) → ¬ (w ≡ 64) →
    Reads w (op ≐ 0 ∷ funct ≐ 0 ∷ busy ∷ [])
by_sll w small o k a b va wide = reads _ w va wide (o, (k, (known_busy w small o k a b, tt)))

-- ── what no arm has ──

refused : (ks : List Fact) (w : ℕ) {n : ℕ} → Known (fields_of w) ks → number_by ks ≡ some n → T (not (eqb n 0)) →
    Refuses w n
refused ks w h e z va wide = sym (refuses ks w va wide h e z refl)

abbrev doublewords : List ℕ
doublewords = 54 ∷ 52 ∷ 51 ∷ 50 ∷ 49 ∷ 48 ∷ 47 ∷ 46 ∷ 45 ∷ 44 ∷ []

abbrev no_special : List Fact
no_special =
    op ≐ 0 ∷ funct is_none_of doublewords ∷ funct is_none_of arithmetics ∷ funct is_none_of moves ∷
    funct is_none_of shifts ∷ []

pub rest_special : (w : ℕ) → Known (fields_of w) no_special → Refuses w refusal.special
unfolding number_by
rest_special w h = refused no_special w h refl tt

abbrev no_regimm : List Fact
no_regimm = op ≐ 1 ∷ rt is_none_of (17 ∷ 16 ∷ 3 ∷ 2 ∷ 1 ∷ 0 ∷ []) ∷ []

pub rest_regimm : (w : ℕ) → Known (fields_of w) no_regimm → Refuses w refusal.regimm
unfolding number_by
rest_regimm w h = refused no_regimm w h refl tt

abbrev memory : List ℕ
memory =
    61 ∷ 57 ∷ 53 ∷ 49 ∷ 63 ∷ 60 ∷ 56 ∷ 55 ∷ 52 ∷ 51 ∷ 48 ∷ 47 ∷ 46 ∷ 45 ∷
    44 ∷ 43 ∷ 42 ∷ 41 ∷ 40 ∷ 27 ∷ 26 ∷ 39 ∷ 38 ∷ 37 ∷ 36 ∷ 35 ∷ 34 ∷ 33 ∷ 32 ∷ []

abbrev no_op : List Fact
no_op = op is_none_of memory ∷ op is_none_of immediates ∷ op is_none_of branches ∷ op is_none_of grouped ∷ []

pub rest_op : (w : ℕ) → Known (fields_of w) no_op → Refuses w refusal.op
unfolding number_by
rest_op w h = refused no_op w h refl tt

abbrev no_cop0 : List Fact
no_cop0 = op ≐ 16 ∷ rs is_none_of (16 ∷ 4 ∷ 0 ∷ []) ∷ []

pub rest_cop0 : (w : ℕ) → Known (fields_of w) no_cop0 → Refuses w refusal.cop0
unfolding number_by
rest_cop0 w h = refused no_cop0 w h refl tt

abbrev no_cop0_funct : List Fact
no_cop0_funct = op ≐ 16 ∷ rs ≐ 16 ∷ funct is_none_of (32 ∷ 24 ∷ []) ∷ []

pub rest_cop0_funct : (w : ℕ) → Known (fields_of w) no_cop0_funct → Refuses w refusal.cop0
unfolding number_by
rest_cop0_funct w h = refused no_cop0_funct w h refl tt

abbrev no_special2 : List Fact
no_special2 = op ≐ 28 ∷ funct is_none_of (33 ∷ 32 ∷ 4 ∷ 2 ∷ 1 ∷ 0 ∷ []) ∷ []

pub rest_special2 : (w : ℕ) → Known (fields_of w) no_special2 → Refuses w refusal.special2
unfolding number_by
rest_special2 w h = refused no_special2 w h refl tt

abbrev no_special3 : List Fact
no_special3 = op ≐ 31 ∷ funct is_none_of (59 ∷ 32 ∷ 4 ∷ 0 ∷ []) ∷ []

pub rest_special3 : (w : ℕ) → Known (fields_of w) no_special3 → Refuses w refusal.special3
unfolding number_by
rest_special3 w h = refused no_special3 w h refl tt

abbrev no_special3_sa : List Fact
no_special3_sa = op ≐ 31 ∷ funct ≐ 32 ∷ sa is_none_of (24 ∷ 16 ∷ 2 ∷ []) ∷ []

pub rest_special3_sa : (w : ℕ) → Known (fields_of w) no_special3_sa → Refuses w refusal.special3
unfolding number_by
rest_special3_sa w h = refused no_special3_sa w h refl tt

abbrev no_cop1 : List Fact
no_cop1 = op ≐ 17 ∷ rs is_none_of (21 ∷ 20 ∷ 17 ∷ 16 ∷ 8 ∷ 6 ∷ 5 ∷ 4 ∷ 2 ∷ 1 ∷ 0 ∷ []) ∷ []

pub rest_cop1 : (w : ℕ) → Known (fields_of w) no_cop1 → Refuses w refusal.cop1
unfolding number_by
rest_cop1 w h = refused no_cop1 w h refl tt

-- in each format
abbrev no_float : ℕ → List Fact
no_float x =
    op ≐ 17 ∷ rs ≐ x ∷
    funct is_none_of (62 ∷ 60 ∷ 50 ∷ 37 ∷ 36 ∷ 33 ∷ 32 ∷ 13 ∷ 7 ∷ 6 ∷ 5 ∷ 4 ∷ 3 ∷ 2 ∷ 1 ∷ 0 ∷ []) ∷ []

pub rest_float : (w f : ℕ) → Behind (fields_of w rs) f → Known (fields_of w) (no_float (fields_of w rs)) →
    Refuses w refusal.cop1
unfolding number_by
rest_float w f b h = refused (no_float (fields_of w rs)) w h (number (fields_of w rs) f b) tt
  where
    number : (x f : ℕ) → Behind x f → number_by (no_float x) ≡ some refusal.cop1
    number x f (single i j) = rw i refl
    number x f (double i j) = rw i refl
    number x f (word i j) = rw i refl
    number x f (long i j) = rw i refl

-- ── what the search has at the arms of a group ──

pub ruleset shift_arms = (by_funct, by_funct_rs, other_funct_rs1, by_nop, by_ssnop, by_sll)

pub ruleset special_arms = (by_funct, by_funct_rs, by_funct_rt, other_funct_rs, other_funct_rt, rest_special)

pub ruleset regimm_arms = (by_rt, by_rt_rs, other_rt_rs, rest_regimm)

pub ruleset op_arms = (by_op, by_rs, by_rt, by_rt_rs, other_rs, other_rt, other_rt_rs)

pub ruleset cop0_arms = (by_rs, by_funct_rs, rest_cop0, rest_cop0_funct)

pub ruleset special2_arms = (by_funct, rest_special2)

pub ruleset special3_arms = (by_funct, by_funct_sa, rest_special3, rest_special3_sa)

-- all of `op_arms` would be too many here: the search gives up at its limit
pub ruleset memory_arms = (by_op, rest_op)

-- the last four name the format that `float` is handed
pub ruleset cop1_arms = (by_rs, rest_cop1, single, double, word, long)

pub ruleset bc1_arms = (by_low_bits, other_low_bits)

pub ruleset float_arms = (by_funct_rs, rest_float)
