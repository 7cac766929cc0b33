use Rattle.std.proofs.Common.{◌<◌, arith}
use Rattle.section.specs.Section.{count_of}
use Rattle.listing.proofs.Ranges.{only_last, page_is, ran_words}
use Rattle.listing.proofs.run_from.Goals as goal

pub returns-then-count-n : goal.returns-then-count-n
returns-then-count-n c =
    let a = c.args in
    let e = only_last a.file.now a.n a.j c.requires (omega (arith, c.if-count-n.true, c.count.ensures)) in
    rw (e.0, e.1) c.last_run.ensures

pub returns : goal.returns
returns c =
    let a = c.args in
    let f = a.file.now in
    let there : a.n < count_of f = omega (arith, c.if-count-n.false, c.count.ensures) in
    let p = page_is c.page.result c.unwrap_or_default-p.result c.unwrap_or_default-p.ensures in
    rw (p.0, p.1)
    (ran_words f a.n there a.j (omega (arith, c.if-j-eq0.false)) a.out.now c.view.ensures c.body.ensures.result_value
    (c.page.ensures.value, c.page.ensures.out_after))
