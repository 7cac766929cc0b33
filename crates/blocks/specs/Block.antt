-- A BLOCK: it runs to the first word that ends it, and takes the next word too if that is in the delay slot.
use Rattle.std.specs.Prelude.{ℕ, zero, suc, ◌+◌, ◌-◌, cond, List, ltb, Result, Ok, Err}
use Rattle.refusal.specs.Numbers as refusal
use Rattle.refusal.specs.declared.Refusal.{Refusal}
use Rattle.refusal.specs.Refusals.{number_of}
use Rattle.reading.specs.declared.Ending.{Ending}
use Rattle.reading.specs.declared.Ending.TheVariants.{On, Slot, Here}
use Rattle.reading.specs.Ends.{ending_of}
use Rattle.body.specs.declared.View.{View}
use Rattle.body.specs.Body.{words_in, decoded_at, is_refused}
use Rattle.blocks.specs.declared.End.{End}
use Rattle.blocks.specs.declared.End.TheVariants as end
use Rattle.blocks.specs.declared.extent.Block.{Block}

-- ── the end kinds ──

-- the slot is taken; it is refused, and not counted, or absent
abbrev pub end_slot : ℕ
end_slot = 1

abbrev pub end_no_slot : ℕ
end_no_slot = 2

-- a refused word, which is not counted
abbrev pub end_refused : ℕ
end_refused = 3

-- the body ended
abbrev pub end_body : ℕ
end_body = 4

-- a word that ends the block by itself; no reading does, so that no block has this kind
abbrev pub end_here : ℕ
end_here = 5

abbrev pub kind_of : End → ℕ
kind_of end.Slot = end_slot
kind_of end.NoSlot = end_no_slot
kind_of end.Refused = end_refused
kind_of end.Body = end_body
kind_of end.Here = end_here

-- ── blocks ──

-- 0, how the block ends and how many words it has; or the number, kind 0 and no words
pub record Ended : Type 0 where
  pub number : ℕ
  pub kind : ℕ
  pub words : ℕ

-- number, end kind and words
abbrev pub block : ℕ → ℕ → ℕ → Ended
block number kind words = record { number = number; kind = kind; words = words }

abbrev pub ended_as : Block → Ended
ended_as b = block 0 (kind_of b.end) b.words

-- an answer in that number, kind and words
abbrev pub ended_of : Result Block Refusal → Ended
ended_of (Ok b) = ended_as b
ended_of (Err r) = block (number_of r) 0 0

abbrev pub with_one_more : Ended → Ended
with_one_more b = block b.number b.kind (b.words + 1)

-- word n is the slot of a word with a mark, and k words are there from it on
unfoldable pub slot_end : View → List ℕ → ℕ → ℕ → Ended
slot_end v body zero n = block 0 end_no_slot 1
slot_end v body (suc k) n = cond (is_refused (decoded_at v body n)) (block 0 end_no_slot 1) (block 0 end_slot 2)

-- one of three by what a word does to its block: it goes on, ends with the next word, or ends here
abbrev pub by_ending : Ending → Ended → Ended → Ended → Ended
by_ending On on slot here = on
by_ending Slot on slot here = slot
by_ending Here on slot here = here

-- k words are there from word n on
unfoldable pub block_from : View → List ℕ → ℕ → ℕ → Ended
block_from v body zero n = block 0 end_body 0
block_from v body (suc k) n =
    cond (is_refused (decoded_at v body n)) (block 0 end_refused 0)
    (by_ending (ending_of (decoded_at v body n).insn)
    (with_one_more (block_from v body k (n + 1))) (slot_end v body k (n + 1)) (block 0 end_here 1))

-- refused for an index not below the word count
unfoldable pub block_of : View → List ℕ → ℕ → Ended
block_of v body n = cond (ltb n (words_in body)) (block_from v body (words_in body - n) n) (block refusal.no_index 0 0)
