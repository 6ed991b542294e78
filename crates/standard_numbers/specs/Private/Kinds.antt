-- Which numbers are searched.
use Rattle.std.specs.Prelude.{ℕ, Option}
use Rattle.text_model.specs.Texts.{Text}
use Rattle.standard_numbers.specs.Issn.{issn_length}
use Rattle.standard_numbers.specs.Isbn.{isbn_length}
use Rattle.standard_numbers.specs.declared.spellings.Kind.{Kind}
use Rattle.standard_numbers.specs.declared.spellings.Kind.TheVariants.{Issn, Isbn}

-- the length of the number of that kind with which a text begins, after the byte before
abbrev pub length_at : Kind → ℕ → Text → Option ℕ
length_at Issn = issn_length
length_at Isbn = isbn_length
