-- What specs/Theorems.antt states, proved.
-- How: a row of writes, each right after the one before, is one write of all their bytes (`next_at`, `then_at`,
-- Laws.antt of crate `buffers`). Unpacking reads each part by its number and then compares every byte but the name's
-- with what the reading would be packed to; the name was compared when its kind was found.
use Rattle.std.proofs.Common.{◌≡◌, ℕ, zero, suc, ◌<◌, ◌≤◌, Bool, true, false, cond, ltb, List, [], ◌++◌, length, take, sym, refl, ap, ◌∙◌, subst, arith, length-append, take_at, le-ltb}
use Rattle.refusal.specs.Numbers as refusal
use Rattle.reading.specs.declared.Insn.{Insn}
use Rattle.reading.specs.declared.Decoded.{Decoded}
use Rattle.reading.specs.Kind.{many}
use Rattle.reading.specs.Reading.{refused_of, accepted_as}
use Rattle.classes.specs.Decoded.{decoded_of}
use Rattle.classes.proofs.Accepts.{accepted_insn}
use Rattle.record.specs.Record.{size, insn_bytes, bytes_by, record_of}
use Rattle.record.specs.Unpacked.{insn_in, is_record, unpacked}
use Rattle.record.specs.Theorems.{Proper, Theorems}
use Rattle.record.proofs.Back.{insn_long, insn_back}
use Rattle.record.proofs.Accepted.{proper}
use Rattle.record.proofs.Whole.{is_record_lem, record_bytes}

bytes_long : (n : ℕ) (i : Insn) → length (bytes_by n i) ≡ size
bytes_long zero i = insn_long i
bytes_long (suc n) i = refl

pub record_long : (d : Decoded) → length (record_of d) ≡ size
unfolding record_of
record_long d = bytes_long d.number d.insn

as_insn : (i : Insn) → Proper i → (after : List ℕ) → insn_in (record_of (accepted_as i) ++ after) ≡ i
unfolding record_of
as_insn i q after = insn_back i q after

as_bytes : (i : Insn) → record_of (accepted_as i) ≡ insn_bytes i
unfolding record_of
as_bytes i = refl

pub back : (i : Insn) → Proper i → (after : List ℕ) → unpacked (record_of (accepted_as i) ++ after) ≡ accepted_as i
back i q after =
    let r : List ℕ = record_of (accepted_as i) in
    let l : List ℕ = r ++ after in
    let e : insn_in l ≡ i = as_insn i q after in
    let h : size ≤ length l = rw (length-append r after) (omega (arith, record_long (accepted_as i))) in
    let known : (insn_in l).mnemonic < many = subst (λ (x : Insn). x.mnemonic < many) (sym e) q.known in
    let bytes : insn_bytes (insn_in l) ≡ take size l =
    ap insn_bytes e ∙ sym (as_bytes i) ∙ sym (take_at r after size (record_long (accepted_as i))) in
    rw (le-ltb (length l) size h, is_record_lem l known bytes) (ap accepted_as e)

forth : (l : List ℕ) (i : Insn) → unpacked l ≡ accepted_as i → record_of (accepted_as i) ≡ take size l
forth l i e = go (ltb (length l) size) (is_record l) refl e
  where
    answer : Bool → Bool → Decoded
    answer s t =
        cond s (refused_of refusal.short_record) (cond t (accepted_as (insn_in l)) (refused_of refusal.no_word))

    number : Decoded → ℕ
    number d = d.number

    go : (s t : Bool) → is_record l ≡ t → answer s t ≡ accepted_as i → record_of (accepted_as i) ≡ take size l
    go true t p f = absurd (let z : refusal.short_record ≡ 0 = ap number f in omega (arith, z))
    go false false p f = absurd (let z : refusal.no_word ≡ 0 = ap number f in omega (arith, z))
    go false true p f = as_bytes i ∙ ap (λ (d : Decoded). insn_bytes d.insn) (sym f) ∙ record_bytes l p

-- what was packed is what comes back
pub answer_back : (d : Decoded) → d.number ≡ 0 → Proper d.insn → (after : List ℕ) →
    unpacked (record_of d ++ after) ≡ d
answer_back d e q after =
    ap (λ (x : Decoded). unpacked (record_of x ++ after)) (accepted_insn d e) ∙ back d.insn q after
    ∙ sym (accepted_insn d e)

one : (w v va ua : ℕ) (wide broad : Bool) →
    (decoded_of w va wide).number ≡ 0 → (decoded_of v ua broad).number ≡ 0 →
    record_of (decoded_of w va wide) ≡ record_of (decoded_of v ua broad) →
    (decoded_of w va wide).insn ≡ (decoded_of v ua broad).insn
one w v va ua wide broad p q e =
    ap (λ (d : Decoded). d.insn)
    (sym (answer_back (decoded_of w va wide) p (proper w va wide) [])
    ∙ ap (λ (l : List ℕ). unpacked (l ++ [])) e
    ∙ answer_back (decoded_of v ua broad) q (proper v ua broad) [])

pub theorems : Theorems
theorems = record { long = record_long; back = back; forth = forth; proper = proper; one = one }
