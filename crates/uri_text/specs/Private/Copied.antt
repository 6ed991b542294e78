-- Which first bytes are copied. For private contracts.
use Rattle.std.specs.Prelude.{Bool, ◌||◌, slice_index}
use Rattle.text_model.specs.Texts.{Text, begins_with_triplet, is_unreserved}
use Rattle.text_model.specs.Writing.{is_unreserved_or_reserved}
use Rattle.text_model.specs.declared.writing.Writing.{Writing}
use Rattle.text_model.specs.declared.writing.Writing.TheVariants.{U, UR}

-- the first byte may stay or, by UR, begins a triplet
abbrev pub is_copied : Writing → Text → Bool
is_copied U t = is_unreserved (slice_index t 0)
is_copied UR t = is_unreserved_or_reserved (slice_index t 0) || begins_with_triplet t
