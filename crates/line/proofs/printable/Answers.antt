use Rattle.std.proofs.Common.{◌∙◌, rules, tests, le-ltb, lt-ltb, le-leb}
use Rattle.std.proofs.lemmas.Bool.{lt-leb}
use Rattle.std.proofs.lemmas.Iterator.{YieldsList-from_slice}
use Rattle.std.proofs.lemmas.Iterator.Search.{all_from_yields_List}
use Rattle.reading.specs.Kind.{many}
use Rattle.reading.specs.declared.Operand.{Operand}
use Rattle.line.specs.Line.{registered, used, printable}
use Rattle.line.proofs.Operands.{all_registered_lem}
use Rattle.line.proofs.printable.Goals as goal
use Rattle.line.proofs.printable.Goals.{then-i-ge-MANY-via-then-i-ge-MANY}
use Rattle.line.proofs.printable.Goals.{then-i-ge-MANY-via-else-i-ge-MANY+then-i-gt-OPERANDS}

pub returns-then-i-ge-MANY : goal.returns-then-i-ge-MANY
unfolding printable
returns-then-i-ge-MANY c =
    let i = c.args.i.now in
    elim c.then-i-ge-MANY.branch [
      | then-i-ge-MANY-via-then-i-ge-MANY w ↦ rw (le-ltb i.mnemonic many w.if-i-ge-MANY.true)
      | then-i-ge-MANY-via-else-i-ge-MANY+then-i-gt-OPERANDS w ↦
          rw (lt-ltb i.mnemonic many w.if-i-ge-MANY.false, lt-leb i.count 4 w.if-i-gt-OPERANDS.true)
    ]

pub returns : goal.returns
unfolding printable
returns c =
    let i = c.args.i.now in
    let all = all_from_yields_List (λ (o : Operand). registered o.op) _ _ _ c.all.ensures.ran
    (YieldsList-from_slice (used i) cc) (λ x b q k. search (rules, tests)) in
    rw (lt-ltb i.mnemonic many c.if-i-ge-MANY.false, le-leb i.count 4 c.if-i-gt-OPERANDS.false)
    (all ∙ all_registered_lem (used i))
