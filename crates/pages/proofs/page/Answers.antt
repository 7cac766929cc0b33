use Rattle.std.proofs.Common.{◌<◌, ◌≤◌, ◌∙◌, sym, length, arith}
use Rattle.body.specs.Body.{words_in}
use Rattle.line.specs.Line.{plain}
use Rattle.pages.proofs.Sheets.{no_index, past_end, number_0, answers_15, answers_11, untouched}
use Rattle.pages.proofs.page.Goals as goal

pub returns-then-count-n-clause-value : goal.returns-then-count-n-clause-value
returns-then-count-n-clause-value c =
    let a = c.args in
    answers_15 plain a.v a.body.now a.n (length a.out.now) a.place (omega (arith, c.count.ensures, c.if-count-n.true))

pub returns-then-count-n-clause-out_after : goal.returns-then-count-n-clause-out_after
returns-then-count-n-clause-out_after c =
    let a = c.args in
    let b = a.body.now in
    let h : words_in b ≤ a.n = omega (arith, c.count.ensures, c.if-count-n.true) in
    untouched plain a.v b a.n a.place a.out.now (no_index plain a.v b a.n (length a.out.now) a.place h)

pub returns-then-out-place-clause-value : goal.returns-then-out-place-clause-value
returns-then-out-place-clause-value c =
    let a = c.args in
    let b = a.body.now in
    let s = length a.out.now in
    let h : a.n < words_in b = omega (arith, c.count.ensures, c.if-count-n.false) in
    answers_11 plain a.v b a.n s a.place h (past_end plain a.v b a.n s a.place h c.if-out-place.true)

pub returns-then-out-place-clause-out_after : goal.returns-then-out-place-clause-out_after
returns-then-out-place-clause-out_after c =
    let a = c.args in
    let b = a.body.now in
    let h : a.n < words_in b = omega (arith, c.count.ensures, c.if-count-n.false) in
    let s = length a.out.now in
    untouched plain a.v b a.n a.place a.out.now (past_end plain a.v b a.n s a.place h c.if-out-place.true)

pub returns-then-page-eq0-clause-value : goal.returns-then-page-eq0-clause-value
returns-then-page-eq0-clause-value c =
    let a = c.args in
    let h : a.n < words_in a.body.now = omega (arith, c.count.ensures, c.if-count-n.false) in
    let z = sym c.lines-page.ensures.value.0 ∙ c.if-page-eq0.true in
    answers_11 plain a.v a.body.now a.n (length a.out.now) a.place h z

pub returns-clause-value : goal.returns-clause-value
returns-clause-value c =
    let a = c.args in
    let q = c.lines-page.ensures.value in
    let h : a.n < words_in a.body.now = omega (arith, c.count.ensures, c.if-count-n.false) in
    let e = number_0 plain a.v a.body.now a.n (length a.out.now) a.place h (λ z. c.if-page-eq0.false (q.0 ∙ z)) in
    rw (e, ← q.0, ← q.1)
