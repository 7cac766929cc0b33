-- WHAT IS PROVED OF BLOCKS. The proofs are in proofs/Proved.antt.
use Rattle.std.specs.Prelude.{ℕ, ◌-◌, ◌≤◌, ◌≡◌, List}
use Rattle.body.specs.declared.View.{View}
use Rattle.body.specs.Body.{words_in}
use Rattle.blocks.specs.Block.{block_of}

pub record Theorems : Type 0 where
  -- a block has no more words than there are from its index on
  pub counted : (v : View) (body : List ℕ) (n : ℕ) → (block_of v body n).words ≤ words_in body - n
  -- one that is not refused ends in one of the four ways
  pub ended : (v : View) (body : List ℕ) (n : ℕ) → (block_of v body n).number ≡ 0 →
      (1 ≤ (block_of v body n).kind) × ((block_of v body n).kind ≤ 4)
