-- Bytes that close a head still close it when more bytes follow.
use Rattle.std.proofs.Common.{◌≡◌, ℕ, Bool, true, false, ◌&&◌, ◌||◌, List, [], ◌∷◌, ◌++◌, refl}
use Rattle.std.specs.Prelude.{◌==◌, if◌then◌else◌}
use Rattle.std.proofs.lemmas.Bool.{false≢true}
use Rattle.http_streams.specs.Closing.{begins_with_empty_line, begins_with_lf, carriage_return, has_empty_line, is_closed, line_feed}

or_more : (a b c d : Bool) → (a ≡ true → c ≡ true) → (b ≡ true → d ≡ true) → (a || b) ≡ true → (c || d) ≡ true
or_more true b true d x y h = refl
or_more true b false d x y h = absurd (false≢true (x refl))
or_more false b true d x y h = refl
or_more false b false d x y h = y h

and_more : (a b c : Bool) → (b ≡ true → c ≡ true) → (a && b) ≡ true → (a && c) ≡ true
and_more true b c x h = x h
and_more false b c x h = h

lf_more : (bytes more : List ℕ) → begins_with_lf bytes ≡ true → begins_with_lf (bytes ++ more) ≡ true
lf_more [] more h = absurd (false≢true h)
lf_more (b ∷ bytes) more h = h

empty_line_more : (bytes more : List ℕ) → begins_with_empty_line bytes ≡ true → begins_with_empty_line (bytes ++ more) ≡ true
empty_line_more [] more h = absurd (false≢true h)
empty_line_more (b ∷ bytes) more h =
    or_more (b == line_feed) ((b == carriage_return) && begins_with_lf bytes) (b == line_feed) ((b == carriage_return) && begins_with_lf (bytes ++ more))
    (λ x. x) (and_more (b == carriage_return) (begins_with_lf bytes) (begins_with_lf (bytes ++ more)) (lf_more bytes more)) h

line_more : (bytes more : List ℕ) → has_empty_line bytes ≡ true → has_empty_line (bytes ++ more) ≡ true
line_more [] more h = absurd (false≢true h)
line_more (b ∷ bytes) more h =
    or_more ((b == line_feed) && begins_with_empty_line bytes) (has_empty_line bytes) ((b == line_feed) && begins_with_empty_line (bytes ++ more))
    (has_empty_line (bytes ++ more))
    (and_more (b == line_feed) (begins_with_empty_line bytes) (begins_with_empty_line (bytes ++ more)) (empty_line_more bytes more)) (line_more bytes more) h

pub closed_more : (bytes more : List ℕ) → is_closed bytes ≡ true → is_closed (bytes ++ more) ≡ true
closed_more [] more h = absurd (false≢true h)
closed_more (b ∷ bytes) more h = by_test ((b == line_feed) || (b == carriage_return)) (closed_more bytes more) (line_more bytes more) h
  where
    by_test : (x : Bool) → (is_closed bytes ≡ true → is_closed (bytes ++ more) ≡ true) → (has_empty_line bytes ≡ true → has_empty_line (bytes ++ more) ≡ true)
        → (if x then is_closed bytes else has_empty_line bytes) ≡ true
        → (if x then is_closed (bytes ++ more) else has_empty_line (bytes ++ more)) ≡ true
    by_test true closed line h = closed h
    by_test false closed line h = line h
