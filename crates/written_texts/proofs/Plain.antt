-- One reading: a text in which there is nothing to read stays, and a text in UTF-8 is read as UTF-8.
use Rattle.std.proofs.Common.{◌≡◌, ℕ, ◌==◌, ◌&&◌, ◌||◌, not, Bool, true, false, [], ◌∷◌, refl, sym, ap, ◌∙◌, subst, arith}
use Rattle.std.specs.List.{All, slice_split}
use Rattle.std.specs.Str.{IsUtf8}
use Rattle.std.proofs.lemmas.Bool.{cond_both, cond-false}
use Rattle.std.proofs.lemmas.List.Elements.{All-cons}
use Rattle.std.proofs.lemmas.List.Splits.{slice_split_none}
use Rattle.text_model.specs.Texts.{Text, percent}
use Rattle.latex_text.specs.Places as latex
use Rattle.latex_text.specs.Texts.{without_latex}
use Rattle.request_encodings.specs.declared.encoding.Encoding.{Encoding}
use Rattle.request_encodings.specs.declared.encoding.Encoding.TheVariants.{Utf8}
use Rattle.request_encodings.specs.Texts.{text_in, value_in}
use Rattle.retraction_remarks.specs.Titles.{has_word, without_remarks}
use Rattle.title_markup.specs.Endings as markup
use Rattle.title_markup.specs.Spaces.{has_single_spaces, plain_title}
use Rattle.written_numbers.specs.Numbers as numbers
use Rattle.written_numbers.specs.Numbers.{number_text}
use Rattle.written_numbers.specs.Identifiers as identifiers
use Rattle.written_numbers.specs.Identifiers.{identifier_text}
use Rattle.written_texts.specs.declared.readings.Role.{Role}
use Rattle.written_texts.specs.declared.readings.Role.TheVariants.{Title, Other, Number, Identifier}
use Rattle.written_texts.specs.Encoded.{decoded_again, ends_as_word, has, has_space, has_three_words, has_whole_escapes, is_encoded, plus}
use Rattle.written_texts.specs.Encoded.{is_escaped, unescaped}
use Rattle.written_texts.specs.Readings.{IsPlain, IsPlainNumber, IsPlainIdentifier, plain_text, read_once}

-- ---- UTF-8

-- what the laws say
abbrev pub IsUtf8Kept : (Text → Text) → Type 0
IsUtf8Kept f = (t : Text) → IsUtf8 t → IsUtf8 (f t)

abbrev pub AreTexts : Type 0
AreTexts = (encoding : Encoding) (bytes : Text) → IsUtf8 (text_in encoding bytes)

decoded_utf8 : AreTexts → IsUtf8Kept decoded_again
decoded_utf8 texts t utf8 = cond_both (is_encoded t) (value_in Utf8 t) t IsUtf8 (λ e. texts Utf8 _) (λ e. utf8)

unescaped_utf8 : AreTexts → IsUtf8Kept unescaped
unescaped_utf8 texts t utf8 = cond_both (is_escaped t) (value_in Utf8 t) t IsUtf8 (λ e. texts Utf8 _) (λ e. utf8)

-- what each part of a reading keeps
pub record AreKept : Type 0 where
  pub texts : AreTexts
  pub latex : IsUtf8Kept without_latex
  pub markup : IsUtf8Kept plain_title
  pub remarks : IsUtf8Kept without_remarks
  pub numbers : IsUtf8Kept number_text
  pub identifiers : IsUtf8Kept identifier_text

plain_utf8 : AreKept → IsUtf8Kept plain_text
plain_utf8 kept t utf8 = kept.markup _ (kept.latex _ (decoded_utf8 kept.texts t utf8))

pub once_utf8 : AreKept → (role : Role) → IsUtf8Kept (read_once role)
unfolding read_once
once_utf8 kept Title t utf8 = kept.remarks _ (plain_utf8 kept t utf8)
once_utf8 kept Other t utf8 = plain_utf8 kept t utf8
once_utf8 kept Number t utf8 = kept.numbers _ (decoded_utf8 kept.texts t utf8)
once_utf8 kept Identifier t utf8 = kept.identifiers _ (unescaped_utf8 kept.texts t utf8)

-- what bytes are read as, if they are a reading of a text in UTF-8
pub text_read : (role : Role) (t bytes once : Text) → bytes ≡ read_once role t → (IsUtf8 bytes → once ≡ bytes) → IsUtf8Kept (read_once role) → IsUtf8 t
    → once ≡ read_once role t
text_read role t bytes once e same reads utf8 = same (subst IsUtf8 (sym e) (reads t utf8)) ∙ e

pub title_once : (t plain : Text) → plain ≡ plain_text t → without_remarks plain ≡ read_once Title t
unfolding read_once
title_once t plain e = ap without_remarks e

pub name_once : (t plain : Text) → plain ≡ plain_text t → plain ≡ read_once Other t
unfolding read_once
name_once t plain e = e

-- ---- texts in which there is nothing to read

none_are : (mark : ℕ) (t : Text) → has mark t ≡ false → All (λ b. (b == mark) ≡ false) t
none_are mark [] h = λ k d g. absurd (omega arith)
none_are mark (b ∷ t) h = by_test (b == mark) refl h (none_are mark t)
  where
    by_test : (x : Bool) → (b == mark) ≡ x → (x || has mark t) ≡ false → (has mark t ≡ false → All (λ b. (b == mark) ≡ false) t)
        → All (λ b. (b == mark) ≡ false) (b ∷ t)
    by_test true e g rest = cc
    by_test false e g rest = All-cons (λ b. (b == mark) ≡ false) b t e (rest g)

not_joined : (t : Text) → has plus t ≡ false → has_three_words (slice_split (λ b. b == plus) t) ≡ false
not_joined t h = ap has_three_words (slice_split_none (λ b. b == plus) t (none_are plus t h)) ∙ alone (ends_as_word t)
  where
    alone : (b : Bool) → (b && false) || false ≡ false
    alone true = refl
    alone false = refl

pub decoded_stays : (t : Text) → has percent t ≡ false → has plus t ≡ false → decoded_again t ≡ t
decoded_stays t percent plus =
    cond-false (is_encoded t) (value_in Utf8 t) t
    (not_encoded (not (has_space t) && has_whole_escapes t) _ _ percent (not_joined t plus))
  where
    not_encoded : (a b c : Bool) → b ≡ false → c ≡ false → (a && (b || c)) ≡ false
    not_encoded true false false h g = refl
    not_encoded false false false h g = refl
    not_encoded a true c h g = cc
    not_encoded a false true h g = cc

abbrev pub LatexStays : Type 0
LatexStays = (t : Text) → latex.has latex.backslash t ≡ false → latex.has latex.opening t ≡ false → without_latex t ≡ t

abbrev pub MarkupStays : Type 0
MarkupStays = (t : Text) → markup.has markup.opening t ≡ false → markup.has markup.ampersand t ≡ false → has_single_spaces t ≡ true
    → plain_title t ≡ t

pub plain_stays : LatexStays → MarkupStays → (t : Text) → IsPlain t → plain_title (without_latex (decoded_again t)) ≡ t
plain_stays latex markup t plain =
    ap (λ u. plain_title (without_latex u)) (decoded_stays t plain.no_percent plain.no_plus)
    ∙ ap (λ u. plain_title u) (latex t plain.no_command plain.no_group) ∙ markup t plain.no_tag plain.no_reference plain.single_spaces

pub other_stays : LatexStays → MarkupStays → (t : Text) → IsPlain t → read_once Other t ≡ t
unfolding read_once
other_stays latex markup t plain = plain_stays latex markup t plain

pub title_stays : LatexStays → MarkupStays → ((t : Text) → has_word t ≡ false → without_remarks t ≡ t) → (t : Text) → IsPlain t → has_word t ≡ false
    → read_once Title t ≡ t
unfolding read_once
title_stays latex markup remarks t plain wordless = ap without_remarks (plain_stays latex markup t plain) ∙ remarks t wordless

-- ---- numbers and identifiers

pub number_stays : ((t : Text) → numbers.is_plain t ≡ true → number_text t ≡ t) → (t : Text) → IsPlainNumber t → read_once Number t ≡ t
unfolding read_once
number_stays stays t plain = ap (λ u. number_text u) (decoded_stays t plain.no_percent plain.no_plus) ∙ stays t plain.ascii

unescaped_stays : (t : Text) → has percent t ≡ false → unescaped t ≡ t
unescaped_stays t none =
    cond-false (is_escaped t) (value_in Utf8 t) t (not_escaped (has_whole_escapes t) _ (not (has plus t)) none)
  where
    not_escaped : (a b c : Bool) → b ≡ false → (a && b && c) ≡ false
    not_escaped true false c h = refl
    not_escaped false false c h = refl
    not_escaped a true c h = cc

pub identifier_stays : ((t : Text) → identifiers.is_plain t ≡ true → identifier_text t ≡ t) → (t : Text) → IsPlainIdentifier t
    → read_once Identifier t ≡ t
unfolding read_once
identifier_stays stays t plain = ap (λ u. identifier_text u) (unescaped_stays t plain.no_percent) ∙ stays t plain.ascii
