-- The contracts of crate `decode`, the decoder.
use Rattle.contracts.specs.Exact.{Exact}
use Rattle.decode.proofs.decode.Kinds as decode-kinds
use Rattle.decode.proofs.decode.Reads as decode
use Rattle.decode.proofs.decode_word.Kinds as decode-word-kinds
use Rattle.decode.proofs.decode_word.Reads as decode_word

pub record Decode : Type 0 where
  pub decode : Exact decode-kinds.ps decode-kinds.r decode.Asked decode.Learnt
  pub decode_word : Exact decode-word-kinds.ps decode-word-kinds.r decode_word.Asked decode_word.Learnt
