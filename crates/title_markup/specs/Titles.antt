-- Titles without markup.
use Rattle.std.specs.Prelude.{◌≡◌, ℕ, zero, suc, ◌-◌, nat_le, Bool, [], ◌∷◌, ◌++◌, length, take, encode_utf8, Option, None, if◌then◌else◌}
use Rattle.std.specs.List.{list_all}
use Rattle.std.specs.Option.{option_map, unwrap_or}
use Rattle.text_model.specs.Texts.{Text}
use Rattle.title_markup.specs.declared.references.Reference.{Reference}
use Rattle.title_markup.specs.Endings.{or_other}
use Rattle.title_markup.specs.Tags.{tag_length}
use Rattle.title_markup.specs.References.{reference_ending}

abbrev pub before_tag : Text → Option Text
before_tag t = option_map (λ n. take (length t - n) t) (tag_length t)

-- with the character that the reference at the end denotes in its place
abbrev pub before_reference : Text → Option Text
before_reference t = option_map (λ (r : Reference). take (length t - r.len) t ++ encode_utf8 r.character) (reference_ending t)

-- a text without the tag, or with the character for the reference, with which it ends, if it ends with one
unfoldable pub shortened : Text → Option Text
shortened t = or_other (before_tag t) (before_reference t)

-- a text in which no markup ends at any place
abbrev pub IsMarkupFree : Text → Type 0
IsMarkupFree t = (k : ℕ) → shortened (take k t) ≡ None

-- the same, again and again, at most that many times
abbrev pub settled_in : ℕ → Text → Text
settled_in zero t = t
settled_in (suc n) t = unwrap_or (option_map (settled_in n) (shortened t)) t

unfoldable pub settled : Text → Text
settled t = settled_in (length t) t

-- one byte after another; markup goes as soon as it is complete
abbrev pub read_after : Text → Text → Text
read_after front [] = front
read_after front (b ∷ t) = read_after (settled (front ++ b ∷ [])) t

unfoldable pub read : Text → Text
read t = read_after [] t

-- spaces and control characters alone
abbrev pub is_blank : Text → Bool
is_blank t = list_all (λ b. nat_le b 0x20) t

-- the title without markup; one of which nothing would be left stays
abbrev pub without_markup : Text → Text
without_markup title = if is_blank (read title) then title else read title
