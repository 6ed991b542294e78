use Rattle.title_markup.proofs.ReferencesRead.{reference_read, ampersand_read, letter_read, decimal_read, hexadecimal_read}
use Rattle.title_markup.proofs.laws.references_are_characters.Goals as goal

pub returns-clause-anywhere : goal.returns-clause-anywhere
returns-clause-anywhere c = reference_read

pub returns-clause-ampersand : goal.returns-clause-ampersand
returns-clause-ampersand c = ampersand_read

pub returns-clause-letter : goal.returns-clause-letter
returns-clause-letter c = letter_read

pub returns-clause-decimal : goal.returns-clause-decimal
returns-clause-decimal c = decimal_read

pub returns-clause-hexadecimal : goal.returns-clause-hexadecimal
returns-clause-hexadecimal c = hexadecimal_read
