-- THE TEXT OF EACH REFUSAL, as `{}` prints it.
use Rattle.std.specs.Prelude.{ℕ, List, codes}
use Rattle.refusal.specs.declared.Refusal.{Refusal}
use Rattle.refusal.specs.declared.Refusal.TheVariants as refusal

abbrev pub text_of : Refusal → List ℕ
text_of refusal.Short = codes "fewer than four bytes to decode"
text_of refusal.Op = codes "no such op"
text_of refusal.Special = codes "no such word of SPECIAL"
text_of refusal.Regimm = codes "no such word of REGIMM"
text_of refusal.Cop0 = codes "no such word of COP0"
text_of refusal.Cop1 = codes "no such word of COP1"
text_of refusal.Special2 = codes "no such word of SPECIAL2"
text_of refusal.Special3 = codes "no such word of SPECIAL3"
text_of refusal.NoWord = codes "no word has the reading"
text_of refusal.NoLine = codes "the reading has no line"
text_of refusal.NoRoom = codes "no room for the line"
text_of refusal.BadHeader = codes "a bad header of a section file"
text_of refusal.BadRecord = codes "a bad entry of a section file"
text_of refusal.NoSection = codes "no section of that number"
text_of refusal.NoIndex = codes "no word of that index"
text_of refusal.ShortRecord = codes "fewer than 80 bytes for a record"
