-- Titles without remarks.
use Rattle.std.specs.Prelude.{◌≡◌, ℕ, zero, suc, ◌||◌, nat_le, Bool, false, List, [], ◌∷◌, ◌++◌, codes, length, Option, Some, None, if◌then◌else◌}
use Rattle.std.specs.List.{list_all}
use Rattle.std.specs.Option.{option_map, unwrap_or}
use Rattle.text_model.specs.Texts.{Text}
use Rattle.uri_text.specs.AnyCase.{begins_in_any_case}
use Rattle.retraction_remarks.specs.declared.remarks.Form.{Form}
use Rattle.retraction_remarks.specs.declared.remarks.Form.TheVariants.{InBrackets, Translated, Plain, After}
use Rattle.retraction_remarks.specs.Parts.{after_parts}
use Rattle.retraction_remarks.specs.Remarks.{in_brackets, translated, plain, is_remark, before_place, without_bracket}

-- what is left of a title without a remark of a form
unfoldable pub left : Form → Text → Option Text
left InBrackets title = after_parts in_brackets title
left Translated title = option_map without_bracket (after_parts translated title)
left Plain title = after_parts plain title
left After title = before_place is_remark title

-- spaces and control characters alone
abbrev pub is_blank : Text → Bool
is_blank t = list_all (λ b. nat_le b 0x20) t

-- what is left, unless it is blank
abbrev pub filled : Option Text → Option Text
filled None = None
filled (Some t) = if is_blank t then None else Some t

abbrev pub or_other : Option Text → Option Text → Option Text
or_other None other = other
or_other (Some t) other = Some t

-- by the first of these forms that leaves something
abbrev pub first_left : List Form → Text → Option Text
first_left [] title = None
first_left (form ∷ forms) title = or_other (filled (left form title)) (first_left forms title)

abbrev pub forms : List Form
forms = InBrackets ∷ Translated ∷ Plain ∷ After ∷ []

-- the title without one remark
unfoldable pub without_one : Text → Option Text
without_one title = first_left forms title

-- a title in which there is no remark, or nothing else
abbrev pub IsRemarkFree : Text → Type 0
IsRemarkFree title = without_one title ≡ None

-- without one remark, and so on, at most that many times
abbrev pub after_some : ℕ → Text → Text
after_some zero title = title
after_some (suc n) title = unwrap_or (option_map (after_some n) (without_one title)) title

-- the title without remarks
unfoldable pub without_remarks : Text → Text
without_remarks title = after_some (length title) title

-- ---- for laws

-- some bytes of a text
abbrev pub IsPartOf : Text → Text → Type 0
IsPartOf text part = (front back : Text) × (text ≡ front ++ part ++ back)

-- `retracted` is in the text, in capital or small letters
abbrev pub has_word : Text → Bool
has_word [] = false
has_word (b ∷ t) = begins_in_any_case (b ∷ t) (codes "retracted") || has_word t
