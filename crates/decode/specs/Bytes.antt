-- WHAT BYTES MEAN: the first four are the word; fewer than four are refused.
use Rattle.std.specs.Prelude.{ℕ, Bool, List, [], ◌∷◌}
use Rattle.refusal.specs.Numbers as refusal
use Rattle.word.specs.Numbers.{word_in}
use Rattle.reading.specs.declared.Decoded.{Decoded}
use Rattle.reading.specs.Reading.{refused_of}
use Rattle.classes.specs.Decoded.{decoded_of}

abbrev pub decoded_in : List ℕ → ℕ → Bool → Bool → Decoded
decoded_in (a ∷ b ∷ c ∷ d ∷ rest) va big wide = decoded_of (word_in big (a ∷ b ∷ c ∷ d ∷ [])) va wide
decoded_in (a ∷ b ∷ c ∷ []) va big wide = refused_of refusal.short
decoded_in (a ∷ b ∷ []) va big wide = refused_of refusal.short
decoded_in (a ∷ []) va big wide = refused_of refusal.short
decoded_in [] va big wide = refused_of refusal.short
