use Rattle.std.proofs.Common.{ℕ, ◌≡◌, ◌∙◌, ap, List, length, arith}
use Rattle.reading.specs.Reading.{accepted_as}
use Rattle.buffers.specs.Bytes.{over}
use Rattle.text.proofs.Lengths.{numeral_most}
use Rattle.line.specs.Line.{Printed, plain, line_of}
use Rattle.pages.specs.Page.{answer_text}
use Rattle.pages.proofs.Pieces.{refused_written, printed_whole}
use Rattle.pages.proofs.put_text.Goals as goal
use Rattle.pages.proofs.put_text.Goals.{After-unwrap}

pub overflow_add-result : goal.overflow_add-result
overflow_add-result c = omega (arith, c.count.ensures.value, numeral_most 10 c.from-in-Err.result)

-- the line of the reading
lined : (c : After-unwrap) →
    let line = line_of plain c.in-Ok.i in
    (c.unwrap.result ≡ length line) × (c.print.new.out ≡ over line c.args.out.now)
lined c =
    let o = c.args.out.now in
    let line = printed_whole plain (accepted_as c.in-Ok.i) (length o) (rw c.in-Ok.is at c.requires.0) c.requires.1 in
    let number = rw c.unwrap.ensures at c.print.ensures.value in (
      ap (λ (p : Printed). p.length) number ∙ ap length line,
      c.print.ensures.out_after ∙ ap (λ (l : List ℕ). over l o) line,
    )

pub returns-in-Ok-clause-value : goal.returns-in-Ok-clause-value
unfolding answer_text
returns-in-Ok-clause-value c = rw c.in-Ok.is (lined c).0

pub returns-in-Ok-clause-out_after : goal.returns-in-Ok-clause-out_after
unfolding answer_text
returns-in-Ok-clause-out_after c = rw c.in-Ok.is (lined c).1

pub returns-in-Err-clause-value : goal.returns-in-Err-clause-value
returns-in-Err-clause-value c =
    rw c.in-Err.is
    (refused_written plain c.in-Err.refusal c.args.out.now c.requires.1 (c.from-in-Err.ensures ∙ c.from.ensures)
    c.put.ensures c.count.ensures.value c.count.ensures.out_after).0

pub returns-in-Err-clause-out_after : goal.returns-in-Err-clause-out_after
returns-in-Err-clause-out_after c =
    rw c.in-Err.is
    (refused_written plain c.in-Err.refusal c.args.out.now c.requires.1 (c.from-in-Err.ensures ∙ c.from.ensures)
    c.put.ensures c.count.ensures.value c.count.ensures.out_after).1
