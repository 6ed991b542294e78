-- The file of the same code in version 2.
use Rattle.std.specs.Prelude.{Result, Ok, Err}
use Rattle.text_model.specs.Texts.{Text}
use Rattle.code_model.specs.Code.{Code, upgraded as upgraded_code}
use Rattle.code_file.specs.Grammar.{IsCodeFile}
use Rattle.answers.specs.Reading.{IsNoCodeFile}
use Rattle.answers.specs.declared.refusal.Refusal.{Refusal}
use Rattle.answers.specs.declared.refusal.Refusal.TheVariants.{Memory}

-- the upgraded file, or the first reason why there is none
pub data IsUpgradeOf (bytes : Text) : Result Text Refusal → Type 0 where
  no_memory : (code : Code) → IsCodeFile bytes code → IsUpgradeOf bytes (Err Memory)
  no_code : (e : Refusal) → IsNoCodeFile bytes e → IsUpgradeOf bytes (Err e)
  upgraded : (code : Code) (file : Text) → IsCodeFile bytes code → IsCodeFile file (upgraded_code code) → IsUpgradeOf bytes (Ok file)
