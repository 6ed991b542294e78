-- How far the head of a request is read.
use Rattle.std.specs.Prelude.{◌≡◌, ℕ, ◌<◌, ◌≤◌, ◌⊎◌, List, length, true, false}
use Rattle.http_streams.specs.Closing.{is_closed}
use Rattle.http_streams.specs.Streams.{InputState, Receives, IsAtEnd, after_failed_read}

-- the bytes were read, and reading is complete: an empty line ends the head, or there are as many bytes as may be read, or the input has ended
pub record IsReadWhole (most : ℕ) (old : InputState) (bytes : List ℕ) (new : InputState) : Type 0 where
  pub read : Receives old bytes (length bytes) new
  pub limit : length bytes ≤ most
  pub stopped : (is_closed bytes ≡ true) ⊎ (length bytes ≡ most) ⊎ IsAtEnd new.left

-- the bytes were read, and then the next read failed: no empty line has ended the head, and there are fewer bytes than may be read
pub record IsReadInPart (most : ℕ) (old : InputState) (bytes : List ℕ) (new : InputState) : Type 0 where
  pub before : InputState
  pub read : Receives old bytes (length bytes) before
  pub failed : new ≡ after_failed_read before
  pub limit : length bytes < most
  pub open_so_far : is_closed bytes ≡ false
