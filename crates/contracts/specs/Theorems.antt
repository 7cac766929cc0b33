-- THE CONTRACT OF EVERY PUBLIC FUNCTION FIXES ITS ANSWER: a file for each library crate that has functions, a field for
-- each function.
use Rattle.contracts.specs.Refusal.{Refusal}
use Rattle.contracts.specs.Word.{Word}
use Rattle.contracts.specs.Reading.{Reading}
use Rattle.contracts.specs.Forms.{Forms}
use Rattle.contracts.specs.Decode.{Decode}
use Rattle.contracts.specs.Encode.{Encode}
use Rattle.contracts.specs.Buffers.{Buffers}
use Rattle.contracts.specs.Names.{Names}
use Rattle.contracts.specs.Record.{Record}
use Rattle.contracts.specs.Text.{Text}
use Rattle.contracts.specs.Line.{Line}
use Rattle.contracts.specs.Section.{Section}
use Rattle.contracts.specs.Body.{Body}
use Rattle.contracts.specs.Blocks.{Blocks}
use Rattle.contracts.specs.Pages.{Pages}
use Rattle.contracts.specs.Listing.{Listing}
use Rattle.contracts.specs.Calmuredda.{Calmuredda}

pub record Theorems : Type 2 where
  pub in_refusal : Refusal
  pub in_word : Word
  pub in_reading : Reading
  pub in_forms : Forms
  pub in_decode : Decode
  pub in_encode : Encode
  pub in_buffers : Buffers
  pub in_names : Names
  pub in_record : Record
  pub in_text : Text
  pub in_line : Line
  pub in_section : Section
  pub in_body : Body
  pub in_blocks : Blocks
  pub in_pages : Pages
  pub in_listing : Listing
  pub in_calmuredda : Calmuredda
