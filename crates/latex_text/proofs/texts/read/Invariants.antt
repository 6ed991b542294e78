use Rattle.std.proofs.Common.{◌≡◌, ◌≤◌, [], take, length}
use Rattle.text_model.specs.Texts.{Text}
use Rattle.latex_text.specs.Texts as spec
use Rattle.latex_text.specs.declared.places.Place.TheVariants.{Start}
use Rattle.latex_text.proofs.texts.read.Given as goal

-- what is still to be read is the beginning of the text
pub record IsRead (text rest read : Text) : Type 0 where
  pub same : spec.read_before Start rest read ≡ spec.read_before Start text []
  pub is : rest ≡ take (length rest) text
  pub within : length rest ≤ length text

abbrev pub invariant-loop-rest : goal.invariant-loop-rest
invariant-loop-rest l = IsRead l.text l.rest l.read.items

abbrev pub decreases-loop-rest : goal.decreases-loop-rest
decreases-loop-rest l = length l.rest
