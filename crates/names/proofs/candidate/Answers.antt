-- `names::candidate` meets its contract: computed tests of SHIFTS and KINDS.
use Rattle.std.proofs.Common.{refl}
use lib.ListN.{get_or}
use Rattle.reading.specs.Names.{mnemonics, name_of}
use Rattle.text.specs.Text.{letter, letters, padded}
use Rattle.names.specs.Names.{name_bytes}
use Rattle.laws.proofs.Tests.{all_below}
use Rattle.names.proofs.Tables.{AtPlace, complete, only_kinds, at_place, candidate_is, no_candidate}
use Rattle.names.proofs.candidate.Goals as goal
use Rattle.names.proofs.candidate.Goals.{After-entry_in-kind}

place : (c : After-entry_in-kind) → AtPlace c.args.name c.entry_in-kind.result
unfolding complete only_kinds all_below name_bytes name_of mnemonics padded letters letter
place c =
    let n = c.get8-letters in
    let s = c.entry_in-shift in
    let ninth = get_or c.args.name 8 0 in
    at_place n.result ninth s.result n.ensures.value refl s.ensures refl c.entry_in-kind.ensures tt tt

pub returns-then-kind : goal.returns-then-kind
returns-then-kind c = no_candidate (place c.before) c.if-kind.true

pub returns-else-kind : goal.returns-else-kind
returns-else-kind c = candidate_is (place c.before) c.if-kind.false
