-- What an output has received of a text that was not written completely.
use Rattle.std.specs.Prelude.{◌≡◌, ℕ, List, ◌++◌, Option}
use Rattle.std.specs.Io.KnownBytes.{Appends}
use Rattle.text_model.specs.Texts.{Text}

-- the writer's bytes, if they are known, have grown by the beginning of the text
pub record IsWrittenInPart (old new : Option (List ℕ)) (whole : Text) : Type 0 where
  pub done : Text
  pub rest : Text
  pub in_order : whole ≡ done ++ rest
  pub written : Appends old new done
