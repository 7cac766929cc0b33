-- `line::fill` meets its contract: after k turns the mnemonic and k operands are written.
use Rattle.std.proofs.Common.{List, ap, ◌∙◌, subst, add-one, drop-cons, drop_of_length-le, rules}
use Rattle.reading.specs.declared.Operand.{Operand}
use Rattle.text.specs.Text.{letter, letters, text_of, before_zero}
use Rattle.line.specs.Line.{plain, used}
use Rattle.line.specs.Private.Steps.{separator}
use Rattle.line.proofs.Names.{mnemonic_name, mnemonic_most}
use Rattle.line.proofs.Drafts.{named}
use Rattle.line.proofs.Operands.{Turn, begins, turn, in_bounds, size, ends}
use Rattle.line.proofs.fill.Goals as goal

pub loop-slot-init : goal.loop-slot-init
unfolding text_of letters letter
loop-slot-init c =
    let k = c.args.i.now.mnemonic in
    begins plain c.args.i.now c.requires.1 (search rules) (search rules) c.requires.0
    (named (ap before_zero c.name_of.ensures ∙ mnemonic_name k) (mnemonic_most k) c.push_name.ensures)

pub loop-slot-preserved : goal.loop-slot-preserved
unfolding text_of letters letter
loop-slot-preserved c =
    let l = c.loop-slot in
    let next = drop-cons (used c.args.i.now) l.slot-index _ c.loop-slot-test.true in
    let t = subst (λ (os : List Operand). Turn plain c.args.i.now c.push_name.new.self l.line (separator l.is_first) os) next l.invariant in
    rw add-one (turn t c.push_separator.ensures c.push_operand.ensures)

pub returns : goal.returns
returns c =
    let l = c.loop-slot in
    let none = drop_of_length-le (used c.args.i.now) {i = l.slot-index} c.loop-slot-test.false in
    let t = subst (λ (os : List Operand). Turn plain c.args.i.now c.push_name.new.self l.line (separator l.is_first) os) none l.invariant in
    ((ends t).1, ((in_bounds t).1, size t))
