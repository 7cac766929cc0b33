use Rattle.std.proofs.Common.{arith}
use Rattle.listing.proofs.Sums.{words_most}
use Rattle.listing.proofs.Texts.{head_some}
use Rattle.listing.proofs.Ranges.{head_at, lines_are, ran_none, page_is, words_few, ran_head}
use Rattle.listing.proofs.first_run.Goals as goal

pub returns-then-size-eq0 : goal.returns-then-size-eq0
returns-then-size-eq0 c =
    let a = c.args in
    let f = a.file.now in
    let e = head_at f a.n c.requires in
    ran_none f a.n 0 a.out.now (rw e c.head-size.ensures) (omega (arith, lines_are f a.n c.requires))
    (rw e (head_some f a.n)) c.if-size-eq0.true

pub overflow_add-result : goal.overflow_add-result
overflow_add-result c =
    let a = c.args in
    let p = page_is c.page.result c.unwrap_or_default-p.result c.unwrap_or_default-p.ensures in
    let few =
    words_few a.file.now a.n c.requires a.out.now c.head-size.ensures c.if-size-eq0.false c.view.ensures
    c.body.ensures.result_value (c.page.ensures.value, c.page.ensures.out_after) in
    omega (arith, p.0, few, words_most a.file.now a.n)

pub returns : goal.returns
returns c =
    let a = c.args in
    let p = page_is c.page.result c.unwrap_or_default-p.result c.unwrap_or_default-p.ensures in
    rw (p.0, p.1)
    (ran_head a.file.now a.n c.requires a.out.now c.head-size.ensures c.if-size-eq0.false c.view.ensures
    c.body.ensures.result_value (c.page.ensures.value, c.page.ensures.out_after))
