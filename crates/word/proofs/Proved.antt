-- What specs/Facts.antt states, proved.
use Rattle.std.proofs.Common.{refl}
use Rattle.word.specs.Numbers.{signed, upper, size_of}
use Rattle.word.specs.Facts.{Bijection, Runs, TwosComplement, Ends}
use Rattle.word.proofs.Fields.{fields_fit, word_small, word_fields, fields_word, imm_is, index_is}
use Rattle.word.proofs.Signed.{twos_complement}

pub bijection : Bijection
bijection = record { fit = fields_fit; small = word_small; back = word_fields; forth = fields_word }

pub runs : Runs
runs = record { imm_bits = imm_is; index_bits = index_is }

pub sixteen : TwosComplement 16
sixteen = twos_complement 16 refl

pub thirty_two : TwosComplement 32
thirty_two = twos_complement 32 refl

pub sixty_four : TwosComplement 64
sixty_four = twos_complement 64 refl

pub ends : Ends
unfolding signed upper size_of
ends =
    record {
      last_imm = refl;
      first_imm = refl;
      minus_one_imm = refl;
      last_upper = refl;
      first_upper = refl;
      minus_one_upper = refl;
      largest_size = refl;
      least_size = refl;
    }
