-- The triplets that the crate `percent_encoding` makes.
use Rattle.std.proofs.Common.{◌≡◌, ℕ, refl}
use Rattle.percent_encoding.specs.Percent.{percent_encode_byte}
use Rattle.text_model.specs.Writing.{triplet_of}

pub percent_encode_byte_triplet : (b : ℕ) → percent_encode_byte b ≡ triplet_of b
unfolding percent_encode_byte
percent_encode_byte_triplet b = refl
