-- The words of a body: the four bytes of each, what there is past the last, and how many are refused.
use Rattle.std.proofs.lemmas.Grind.{common_steps}
use Rattle.std.proofs.Common.{◌≡◌, ℕ, zero, suc, ◌+◌, ◌-◌, ◌*◌, ◌<◌, ◌≤◌, Bool, true, false, cond}
use Rattle.std.proofs.Common.{List, [], ◌∷◌, length, get_or, take, drop, Result, Ok, Err, is_err}
use Rattle.std.proofs.Common.{refl, zero-add, arith, length-drop, lt-ltb}
use native.Mathlib.Nat.{sub-zero}
use Rattle.refusal.specs.declared.Refusal.{Refusal}
use Rattle.refusal.proofs.One.{number_above_0}
use Rattle.reading.specs.declared.Insn.{Insn}
use Rattle.reading.specs.Reading.{refused_of, answer_of}
use Rattle.decode.specs.Bytes.{decoded_in}
use Rattle.buffers.proofs.Laws.{bytes_at}
use Rattle.body.specs.declared.View.{View}
use Rattle.body.specs.Body.{words_in, address_at, word_at, word_or_zero, decoded_at}
use Rattle.body.specs.Body.{is_refused, refused_from, refused_in}

pub four : (body : List ℕ) (n : ℕ) → n < words_in body →
    take 4 (drop (4 * n) body) ≡
    get_or body (4 * n) 0 ∷ get_or body (4 * n + 1) 0 ∷ get_or body (4 * n + 2) 0 ∷ get_or body (4 * n + 3) 0 ∷ []
four body n h = bytes_at 3 (4 * n) body (omega arith)

-- a word that is there
pub there : (v : View) (body : List ℕ) (n : ℕ) → n < words_in body → word_or_zero v body n ≡ word_at v body n
unfolding word_or_zero
there v body n h = rw (lt-ltb n (words_in body) h)

-- fewer than four bytes are not a word
too_short : (l : List ℕ) (va : ℕ) (big wide : Bool) → length l < 4 → decoded_in l va big wide ≡ refused_of 1
too_short [] va big wide h = refl
too_short (a ∷ []) va big wide h = refl
too_short (a ∷ b ∷ []) va big wide h = refl
too_short (a ∷ b ∷ c ∷ []) va big wide h = refl
too_short (a ∷ b ∷ c ∷ d ∷ l) va big wide h = absurd (omega arith)

pub past_last : (v : View) (body : List ℕ) (n : ℕ) → words_in body ≤ n → decoded_at v body n ≡ refused_of 1
unfolding decoded_at
past_last v body n h =
    too_short (drop (4 * n) body) (address_at v n) v.big_endian v.wide (simp length-drop (omega arith))

at_most_one : (b : Bool) → cond b 1 0 ≤ 1
at_most_one true = omega arith
at_most_one false = omega arith

-- no more words are refused than there are
refused_from_lem : (v : View) (body : List ℕ) (k n : ℕ) → refused_from v body k n ≤ k
unfolding refused_from
refused_from_lem v body zero n = omega arith
refused_from_lem v body (suc k) n =
    omega (arith, at_most_one (is_refused (decoded_at v body n)), refused_from_lem v body k (n + 1))

pub refused_most : (v : View) (body : List ℕ) → refused_in v body ≤ words_in body
unfolding refused_in
refused_most v body = refused_from_lem v body (words_in body) 0

-- every refusal has a number
pub refused_is : (r : Result Insn Refusal) → is_refused (answer_of r) ≡ is_err r
refused_is (Ok i) = refl
refused_is (Err r) = grind (arith, common_steps, number_above_0 r)

-- after n words, `found` of them are refused
pub record Counting (v : View) (body : List ℕ) (n found : ℕ) : Type 0 where
  pub high : n ≤ words_in body
  pub few : found ≤ n
  pub sum : found + refused_from v body (words_in body - n) n ≡ refused_in v body

module _ (v : View) (body : List ℕ) where
  pub none_yet : Counting v body 0 0
  unfolding refused_in
  none_yet = record { high = omega arith; few = omega arith; sum = simp (sub-zero, zero-add) }

  module _ (n found : ℕ) (c : Counting v body n found) where
    pub all_counted : words_in body ≤ n → found ≡ refused_in v body
    unfolding refused_from
    all_counted h =
        let e : words_in body - n ≡ 0 = omega arith in
        let z : refused_from v body (words_in body - n) n ≡ 0 = rw e in
        omega (arith, z, c.sum)

    -- one word more, which is refused or not
    pub one_more : {b : Bool} {m : ℕ} → n < words_in body → is_refused (decoded_at v body n) ≡ b →
        m ≡ found + cond b 1 0 → Counting v body (n + 1) m
    unfolding refused_from
    one_more {b} h r f =
        let left : words_in body - n ≡ suc (words_in body - (n + 1)) = omega arith in
        let e : refused_from v body (words_in body - n) n ≡
        cond b 1 0 + refused_from v body (words_in body - (n + 1)) (n + 1) = rw (left, r) in
        record { high = omega arith; few = omega (arith, c.few, at_most_one b, f); sum = omega (arith, c.sum, e, f) }
