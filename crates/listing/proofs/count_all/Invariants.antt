use Rattle.section.specs.Section.{count_of}
use Rattle.listing.specs.Swept.{word_count, refused_count}
use Rattle.listing.proofs.Sums.{Sum}
use Rattle.listing.proofs.count_all.Given as goal

abbrev pub invariant-loop-n : goal.invariant-loop-n
invariant-loop-n l =
    let count = count_of l.file in
    Sum (word_count l.file) count l.n l.all.words × Sum (refused_count l.file) count l.n l.all.refused
