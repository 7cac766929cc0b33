use Rattle.std.proofs.Common.{◌+◌, ◌-◌, ◌≡◌}
use Rattle.line.specs.Line.{plain}
use Rattle.body.specs.Body.{words_in}
use Rattle.pages.specs.Page.{word_line}
use Rattle.pages.proofs.Loop.{Turn}
use Rattle.pages.proofs.lines.Given as goal

abbrev pub invariant-loop-k : goal.invariant-loop-k
invariant-loop-k l =
    (l.page.words ≡ l.k - l.n) ×
    Turn (word_line plain l.v l.body) l.n l.place (words_in l.body) l.initial.out l.out l.k (l.place + l.page.bytes)
