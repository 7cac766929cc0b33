use Rattle.std.proofs.Common.{◌≡◌, List, ℕ, ◌≤◌, length, take, ◌∙◌, sym, ap, subst, length-take-le, arith, rules}
use Rattle.std.proofs.lemmas.Bool.{false≢true}
use Rattle.reading.specs.declared.Insn.{Insn}
use Rattle.reading.specs.Reading.{accepted_as}
use Rattle.names.specs.Names.{kind_named, no_kind}
use Rattle.record.specs.Record.{size}
use Rattle.record.specs.Unpacked.{insn_in}
use Rattle.record.specs.Private.Steps.{part, Holds}
use Rattle.record.proofs.Whole.{kind_some, kind_none, accepts, refuses, holds_record, no_name, not_record}
use Rattle.record.proofs.unpack.Goals as goal
use Rattle.record.proofs.unpack.Goals.{In_ok-record, In_ok-mnemonic}

-- eighty bytes are there
module _ (w : In_ok-record) where
  enough : size ≤ length w.args.b.now
  enough = (rw w.in_ok-record.ensures.ok_part at w.first_chunk.ensures.cases).enough

  first : w.in_ok-record.«record».now ≡ take size w.args.b.now
  first = (rw w.in_ok-record.ensures.ok_part at w.first_chunk.ensures.cases).same

-- and a name in them
module _ (w : In_ok-mnemonic) where
  abbrev r : List ℕ
  r = w.in_ok-record.«record».now

  kind : (w.in_ok-mnemonic.mnemonic ≡ (insn_in r).mnemonic) × ((insn_in r).mnemonic ≡ no_kind → ⊥)
  unfolding insn_in
  kind =
      kind_some (part 64 16 r) w.in_ok-mnemonic.mnemonic
      (ap kind_named (sym w.name_in.ensures) ∙ sym w.kind_of.ensures ∙ w.in_ok-mnemonic.ensures.ok_part)

pub returns-in_err-mnemonic : goal.returns-in_err-mnemonic
unfolding insn_in
returns-in_err-mnemonic c =
    let w = (goal.at.returns-in_err-mnemonic c).In_ok-record in
    let l = c.in_ok-record.«record».now in
    let none : (insn_in l).mnemonic ≡ no_kind =
    kind_none (part 64 16 l)
    (ap kind_named (sym c.name_in.ensures) ∙ sym c.kind_of.ensures ∙ c.in_err-mnemonic.ensures.ok_part) in
    rw (refuses c.args.b.now (enough w) l (first w) (no_name l none)) (search rules)

pub insn_in-i-requires : goal.insn_in-i-requires
insn_in-i-requires c = (kind (goal.at.insn_in-i-requires c).In_ok-mnemonic).0

pub returns-then-is_record : goal.returns-then-is_record
returns-then-is_record c =
    let w = (goal.at.returns-then-is_record c).In_ok-record in
    let n = (goal.at.returns-then-is_record c).In_ok-mnemonic in
    let l = c.in_ok-record.«record».now in
    let e = c.insn_in-i.ensures in
    let held = subst (λ (i : Insn). Holds i l) e (c.is_record.ensures.0 c.if-is_record.true) in
    ap accepted_as e ∙ sym (accepts c.args.b.now (enough w) l (first w) (holds_record l (kind n).1 held))

pub returns-else-is_record : goal.returns-else-is_record
returns-else-is_record c =
    let w = (goal.at.returns-else-is_record c).In_ok-record in
    let l = c.in_ok-record.«record».now in
    let long : size ≤ length l =
    omega (arith, ap length (first w), length-take-le size c.args.b.now (enough w)) in
    let held = subst (λ (i : Insn). Holds i l) (sym c.insn_in-i.ensures) in
    sym (refuses c.args.b.now (enough w) l (first w)
    (not_record l long (λ h. false≢true (sym c.if-is_record.false ∙ c.is_record.ensures.1 (held h)))))
