-- THE NUMBER OF EACH REFUSAL, and of an answer that may be one.
use Rattle.std.specs.Prelude.{ℕ, Result, Ok, Err}
use Rattle.refusal.specs.Numbers as number
use Rattle.refusal.specs.declared.Refusal.{Refusal}
use Rattle.refusal.specs.declared.Refusal.TheVariants as refusal

abbrev pub number_of : Refusal → ℕ
number_of refusal.Short = number.short
number_of refusal.Op = number.op
number_of refusal.Special = number.special
number_of refusal.Regimm = number.regimm
number_of refusal.Cop0 = number.cop0
number_of refusal.Cop1 = number.cop1
number_of refusal.Special2 = number.special2
number_of refusal.Special3 = number.special3
number_of refusal.NoWord = number.no_word
number_of refusal.NoLine = number.no_line
number_of refusal.NoRoom = number.no_room
number_of refusal.BadHeader = number.bad_header
number_of refusal.BadRecord = number.bad_record
number_of refusal.NoSection = number.no_section
number_of refusal.NoIndex = number.no_index
number_of refusal.ShortRecord = number.short_record

-- 0 is accepted
abbrev pub number_in : {A : Type 0} → Result A Refusal → ℕ
number_in (Ok a) = 0
number_in (Err r) = number_of r
