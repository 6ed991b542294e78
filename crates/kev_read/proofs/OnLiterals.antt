-- Computing with literals.
use Rattle.std.specs.Prelude.{⊤}
use Rattle.std.specs.Str.Lossy.{utf8_lossy, utf8_valid_len, utf8_error_len}
use Rattle.std.specs.Str.{chars, is_utf8}
use lib.Utf8.{encode}
use Rattle.form_urlencoded.proofs.OnLiterals.{form_urlencoded_on_literals}
use Rattle.environment_model.specs.Environment.{look_up, with_member}

-- what is unfolded to compute this crate's definitions on literals
unfoldable pub kev_read_on_literals : ⊤
unfolding form_urlencoded_on_literals utf8_lossy utf8_valid_len utf8_error_len chars is_utf8 encode look_up with_member
kev_read_on_literals = tt
