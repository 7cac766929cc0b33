-- What the private functions answer.
use Rattle.std.specs.Prelude.{ℕ, ◌+◌, cond, List, Option, None, Some}
use Rattle.reading.specs.Ends.{ending_of}
use Rattle.body.specs.declared.View.{View}
use Rattle.body.specs.Body.{decoded_at, is_refused}
use Rattle.blocks.specs.declared.extent.Block.{Block}
use Rattle.blocks.specs.Block.{Ended, end_refused, end_here, block, ended_as, slot_end, by_ending}

-- what word n, with k words after it, does to a block: kind 0 and one word if it does not end there
unfoldable pub step_of : View → List ℕ → ℕ → ℕ → Ended
step_of v body k n =
    cond (is_refused (decoded_at v body n)) (block 0 end_refused 0)
    (by_ending (ending_of (decoded_at v body n).insn) (block 0 0 1) (slot_end v body k (n + 1)) (block 0 end_here 1))

-- the code's answer in that kind and words
abbrev pub step_in : Option Block → Ended
step_in None = block 0 0 1
step_in (Some b) = ended_as b
