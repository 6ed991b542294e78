-- Bytes of a query that stand for themselves.
use Rattle.std.specs.Prelude.{ℕ, ◌<◌, ◌≢◌, Bool, ◌==◌, nat_le, bit_or, if◌then◌else◌}
use Rattle.form_urlencoded.specs.Form.{IsPlain, ampersand, equals_sign}

-- the byte is ASCII and none of `&`, `=`, `+` and `%`
pub record IsOrdinary (byte : ℕ) : Type 0 where
  pub ascii : byte < 128
  pub in_pair : byte ≢ ampersand
  pub in_part : byte ≢ equals_sign
  pub plain : IsPlain byte

-- all bits if the lane has the byte, and none otherwise
abbrev pub all_bits_at : ℕ → ℕ → ℕ
all_bits_at byte lane = if lane == byte then 255 else 0

-- a lane whose top bit is set unless its byte is ordinary
abbrev pub special_lane : ℕ → ℕ
special_lane lane =
    bit_or (bit_or (bit_or (all_bits_at 38 lane) (all_bits_at 61 lane)) (bit_or (all_bits_at 43 lane) (all_bits_at 37 lane))) lane

abbrev pub is_special : ℕ → Bool
is_special lane = nat_le 128 (special_lane lane)
