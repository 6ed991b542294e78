-- The prefix of a text that the call `cut` returns (RFC 6570, section 2.4.1).
use Rattle.std.specs.Prelude.{Bool, true, false}
use Rattle.text_model.specs.declared.writing.Writing.{Writing}
use Rattle.text_model.specs.declared.writing.Writing.TheVariants.{U, UR}

-- the encoding under which whole triplets are items, or the one under which they are not
abbrev pub writing_of : Bool → Writing
writing_of false = U
writing_of true = UR
