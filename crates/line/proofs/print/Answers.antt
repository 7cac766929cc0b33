-- `line::print` meets its contract: no line, no room, and a line that fits.
use Rattle.std.proofs.Common.{◌≡◌, ◌≤◌, true, length, sym, refl, ap, ◌∙◌, arith}
use lib.Seq.{length-take-le}
use Rattle.buffers.proofs.Laws.{first_at, at_start}
use Rattle.line.specs.Line.{plain, line_of, printable}
use Rattle.line.proofs.Answers.{few, answer, no_line, no_room, fits}
use Rattle.line.proofs.print.Goals as goal
use Rattle.line.proofs.print.Goals.{After-fill}

pub returns-then-not-printable-clause-value : goal.returns-then-not-printable-clause-value
returns-then-not-printable-clause-value c =
    answer (no_line plain c.args.i (length c.args.out.now) (sym c.printable.ensures ∙ c.if-not-printable.true)) refl

pub returns-then-not-printable-clause-out_after : goal.returns-then-not-printable-clause-out_after
returns-then-not-printable-clause-out_after c =
    rw (no_line plain c.args.i (length c.args.out.now) (sym c.printable.ensures ∙ c.if-not-printable.true)).bytes

pub fill-requires : goal.fill-requires
fill-requires c = (refl, few c.args.i (sym c.printable.ensures ∙ c.if-not-printable.false))

-- a line was written, and this long
module _ (w : After-fill) where
  has : printable w.args.i ≡ true
  has = sym w.printable.ensures ∙ w.if-not-printable.false

  long : w.fill.new.line.end ≡ length (line_of plain w.args.i)
  long =
      let d = w.fill.new.line in
      sym (length-take-le d.end d.bytes (omega (arith, w.fill.ensures.1)))
      ∙ ap length w.fill.ensures.0

pub returns-then-out-line-clause-value : goal.returns-then-out-line-clause-value
returns-then-out-line-clause-value c =
    let w = (goal.at.returns-then-out-line-clause-value c).After-fill in
    answer (no_room plain c.args.i (length c.args.out.now) (has w) (omega (arith, long w, c.if-out-line.true))) refl

pub returns-then-out-line-clause-out_after : goal.returns-then-out-line-clause-out_after
returns-then-out-line-clause-out_after c =
    let w = (goal.at.returns-then-out-line-clause-out_after c).After-fill in
    rw (no_room plain c.args.i (length c.args.out.now) (has w) (omega (arith, long w, c.if-out-line.true))).bytes

pub returns-clause-value : goal.returns-clause-value
returns-clause-value c =
    let w = (goal.at.returns-clause-value c).After-fill in
    answer (fits plain c.args.i (length c.args.out.now) (has w) (omega (arith, long w, c.if-out-line.false))) (long w)

pub returns-clause-out_after : goal.returns-clause-out_after
returns-clause-out_after c =
    let w = (goal.at.returns-clause-out_after c).After-fill in
    let d = c.args.out.now in
    let l = line_of plain c.args.i in
    let room : length l ≤ length d = omega (arith, long w, c.if-out-line.false) in
    let a = fits plain c.args.i (length d) (has w) room in
    rw a.bytes (first_at 0 l d (omega (arith, room)) c.fill.ensures.0 c.put.ensures ∙ at_start l d)
