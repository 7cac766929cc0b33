use Rattle.std.proofs.Common.{◌<◌, ◌≤◌, ◌≡◌, arith}
use Rattle.section.proofs.Answers.{count_most}
use Rattle.section.specs.Section.{count_of}
use Rattle.listing.specs.Swept.{word_count, refused_count}
use Rattle.listing.proofs.Sums.{more, all, words_most, refused_most}
use Rattle.listing.proofs.count_all.Goals as goal

pub overflow_add-all : goal.overflow_add-all
overflow_add-all c =
    let f = c.args.file.now in
    let l = c.loop-n in
    let h : l.n < count_of f = omega (arith, c.loop-n-test.true, c.count-n-end.ensures) in
    omega (arith, h, c.words.ensures, words_most f l.n, l.invariant.0.few, count_most f)

pub overflow_add-all-in-loop-n : goal.overflow_add-all-in-loop-n
overflow_add-all-in-loop-n c =
    let f = c.args.file.now in
    let l = c.loop-n in
    let refused : c.refusals.result ≡ refused_count f l.n =
    rw (c.view.ensures, c.body.ensures.result_value) at c.refusals.ensures in
    let h : l.n < count_of f = omega (arith, c.loop-n-test.true, c.count-n-end.ensures) in
    omega (arith, h, refused, refused_most f l.n, l.invariant.1.few, count_most f)

pub loop-n-preserved : goal.loop-n-preserved
loop-n-preserved c =
    let f = c.args.file.now in
    let l = c.loop-n in
    let count = count_of f in
    let refused : c.refusals.result ≡ refused_count f l.n =
    rw (c.view.ensures, c.body.ensures.result_value) at c.refusals.ensures in
    let h : l.n < count = omega (arith, c.loop-n-test.true, c.count-n-end.ensures) in (
      rw c.words.ensures (more (word_count f) count l.n l.all.words l.invariant.0 (words_most f l.n) h),
      rw refused (more (refused_count f) count l.n l.all.refused l.invariant.1 (refused_most f l.n) h),
    )

pub returns : goal.returns
returns c =
    let f = c.args.file.now in
    let l = c.loop-n in
    let h : count_of f ≤ l.n = omega (arith, c.loop-n-test.false, c.count-n-end.ensures) in
    record {
      words_are = all (word_count f) (count_of f) l.n l.all.words l.invariant.0 h;
      refused_are = all (refused_count f) (count_of f) l.n l.all.refused l.invariant.1 h;
    }
