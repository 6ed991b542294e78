-- The listing of a code file.
use Rattle.std.specs.Prelude.{◌≡◌, Result, Ok, Err}
use Rattle.text_model.specs.Texts.{Text}
use Rattle.code_model.specs.Code.{Code}
use Rattle.code_file.specs.Grammar.{IsCodeFile}
use Rattle.code_file.specs.Listing.{listing}
use Rattle.answers.specs.Reading.{IsNoCodeFile}
use Rattle.answers.specs.declared.refusal.Refusal.{Refusal}
use Rattle.answers.specs.declared.refusal.Refusal.TheVariants.{Memory}

-- the listing of the code of a file, or the first reason why there is none
pub data IsListingOf (bytes : Text) : Result Text Refusal → Type 0 where
  no_memory : (code : Code) → IsCodeFile bytes code → IsListingOf bytes (Err Memory)
  no_code : (e : Refusal) → IsNoCodeFile bytes e → IsListingOf bytes (Err e)
  listed : (code : Code) (text : Text) → IsCodeFile bytes code → text ≡ listing code → IsListingOf bytes (Ok text)
