-- What specs/Theorems.antt states, proved.
use mathlib.Core.Path.{◌≡◌, refl}
use mathlib.Core.Bool.{true}
use lib.ListN.{length}
use Rattle.word.specs.Word.{fields_of}
use Rattle.word.specs.Numbers.{imm, index, signed, branch_to, jump_to, size_of}
use Rattle.reading.specs.Names.{mnemonics, name_of}
use Rattle.classes.specs.Meaning.{match, six, nop_like, takes, find, out, outs, reading, meaning}
use Rattle.classes.specs.Table.{common, by_width, table}
use Rattle.classes.specs.Decoded.{decoded_by, decoded_of}
use Rattle.names.specs.Names.{registers}
use Rattle.text.specs.Text.{letter, letters, text_of, last_of, numeral_of, decimal_of, address_of}
use Rattle.line.specs.Line.{register_name, plain, op_text, listed, line_of, all_registered, printable, longest}
use Rattle.line.specs.Theorems.{long_reading, Examples, Theorems}
use Rattle.line.proofs.Readable.{readable}
use Rattle.line.proofs.Short.{short, within}
use Rattle.line.proofs.Unbroken.{unbroken, plain_unbroken}

tight : (printable long_reading ≡ true) × (length (line_of plain long_reading) ≡ longest)
unfolding printable all_registered line_of listed op_text register_name registers text_of letters letter
    name_of mnemonics decimal_of numeral_of last_of
tight = (refl, refl)

examples : Examples
unfolding decoded_of decoded_by table common by_width find takes six match nop_like fields_of meaning reading outs out
    imm index signed branch_to jump_to size_of line_of listed op_text register_name registers text_of letters letter
    name_of mnemonics decimal_of address_of numeral_of last_of
examples = record { lui = λ va. refl; jal = refl; lw = λ va. refl; jr = λ va. refl; nop = λ va. refl; ins = λ va. refl }

pub theorems : Theorems
theorems =
    record {
      readable = readable;
      short = λ σ. short;
      within = within;
      tight = tight;
      unbroken = λ σ. unbroken;
      plain_unbroken = plain_unbroken;
      examples = examples;
    }
