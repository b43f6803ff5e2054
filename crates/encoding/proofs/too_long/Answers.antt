use mathlib.Core.Path.{ap}
use lib.Dec.{ltb}
use Rattle.format.specs.Reader.{size_limit}
use Rattle.encoding.proofs.too_long.Goals as goal

pub encoded_length-requires : goal.encoded_length-requires
encoded_length-requires c = c.requires

pub returns : goal.returns
returns c = λ d h. ap (ltb size_limit) (c.encoded_length.ensures d h)
