-- The entry of a target in a menu.
use Rattle.text_model.specs.Texts.{Text}
use Rattle.menu.specs.declared.entry.Resolution.{Resolution}

-- the name of a target, and its link or the reason why it has none
pub record MenuEntry : Type 0 where
  pub name : Text
  pub resolution : Resolution
