-- WHAT IS PROVED OF THE WORDS OF A BODY. The proofs are in proofs/Proved.antt.
use Rattle.std.specs.Prelude.{ℕ, ◌≤◌, List}
use Rattle.body.specs.declared.View.{View}
use Rattle.body.specs.Body.{words_in, refused_in}

pub record Theorems : Type 0 where
  -- no more words are refused than there are
  pub few : (v : View) (body : List ℕ) → refused_in v body ≤ words_in body
