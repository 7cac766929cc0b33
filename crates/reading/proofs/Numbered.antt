-- The 212 kinds are the numbers from 0 on, each once.
use mathlib.Core.Path.{refl}
use Rattle.reading.specs.Kind.{kinds, from, Numbered}

pub numbered : Numbered
unfolding kinds from
numbered = refl
