-- Whether two forms are the same, as a test.
use Rattle.std.specs.Prelude.{Bool, true, false}
use Rattle.word.specs.Word.{Field_discrete}
use Rattle.classes.specs.Row.{Code-discrete, Form, Form-discrete}

abbrev pub same_form : Form → Form → Bool
same_form φ ψ = elim (Form-discrete (Code-discrete Field_discrete) φ ψ) [ yes e ↦ true | no d ↦ false ]
