use Rattle.std.proofs.Common.{rules}
use Rattle.line.specs.Line.{plain}
use Rattle.line.proofs.Short.{within}
use Rattle.pages.proofs.Pieces.{line_written}
use Rattle.pages.proofs.Answers.{answers, answer_most}
use Rattle.pages.proofs.line_of.Goals as goal

pub put_text-end-requires : goal.put_text-end-requires
put_text-end-requires c =
    let a = c.args in
    (rw c.decoded.ensures (answers within a.v a.body.now a.n), search rules)

pub returns : goal.returns
returns c =
    let a = c.args in
    let d = c.decoded.ensures in
    line_written plain a.v a.body.now a.n a.out.now c.requires.1
    (answer_most within a.v a.body.now a.n) c.put_columns.ensures
    (rw d at c.put_text-end.ensures.value) (rw d at c.put_text-end.ensures.out_after) c.put1.ensures
