-- The forms of references. A form is a list of groups, and a group a list of parts.
use Rattle.std.specs.Prelude.{ℕ, List, [], ◌∷◌, map, Option, Some, None}
use Rattle.std.specs.Borrow.{Bor}
use Rattle.std.specs.Option.{option_and_then}
use Rattle.text_model.specs.Texts.{Text}
use Rattle.journal_references.specs.declared.words.Word.TheVariants.{OfVolume, OfIssue, OfPages}
use Rattle.journal_references.specs.declared.pieces.Piece.TheVariants.{Volume, Plain, Issue, PlainIssue, Inner, Pages, Year, Days}
use Rattle.journal_references.specs.declared.parts.Part.{Part}
use Rattle.journal_references.specs.declared.parts.Part.TheVariants.{Sign, Mark, Closing, Title, Month, Date, NoDay, Needed, Maybe, Read}
use Rattle.journal_references.specs.declared.groups.Group.{Group}
use Rattle.journal_references.specs.declared.groups.Group.TheVariants.{AnyVolume, NamedVolume, PlainVolume}
use Rattle.journal_references.specs.declared.groups.Group.TheVariants.{InBrackets, NamedIssue, CommaIssue, PointIssue}
use Rattle.journal_references.specs.declared.groups.Group.TheVariants.{YearInBrackets, YearAfterComma, YearAndDays, YearAndComma, YearAndMark}
use Rattle.journal_references.specs.declared.groups.Group.TheVariants.{AnyPages, NamedPages, CommaPages, ColonPages, PagesAfterTitle}
use Rattle.journal_references.specs.Parts.{Match, unread, match_parts}

abbrev pub comma : ℕ
comma = 0x2c

abbrev pub opening : ℕ
opening = 0x28

abbrev pub closing : ℕ
closing = 0x29

abbrev pub parts : Group → List Part
parts AnyVolume = Maybe OfVolume ∷ Read Volume ∷ []
parts NamedVolume = Needed OfVolume ∷ Read Volume ∷ []
parts PlainVolume = Maybe OfVolume ∷ Read Plain ∷ []
parts InBrackets = Sign opening ∷ Maybe OfIssue ∷ Read Inner ∷ Sign closing ∷ []
parts NamedIssue = Mark ∷ Needed OfIssue ∷ Read Issue ∷ []
parts CommaIssue = Sign comma ∷ Read PlainIssue ∷ []
parts PointIssue = Sign 0x2e ∷ Read Issue ∷ []
parts YearInBrackets = Mark ∷ Sign opening ∷ Month ∷ Read Year ∷ Read Days ∷ Sign closing ∷ []
parts YearAfterComma = Sign comma ∷ Month ∷ Read Year ∷ []
parts YearAndDays = Date ∷ Read Year ∷ Read Days ∷ Sign 0x3b ∷ []
parts YearAndComma = Date ∷ Read Year ∷ Sign comma ∷ []
parts YearAndMark = Date ∷ Read Year ∷ Mark ∷ Date ∷ Closing ∷ Mark ∷ []
parts AnyPages = Mark ∷ NoDay ∷ Maybe OfPages ∷ Maybe OfIssue ∷ Read Pages ∷ []
parts NamedPages = Mark ∷ Needed OfPages ∷ Maybe OfIssue ∷ Read Pages ∷ []
parts CommaPages = Sign comma ∷ NoDay ∷ Maybe OfPages ∷ Read Pages ∷ []
parts ColonPages = Sign 0x3a ∷ Maybe OfPages ∷ Read Pages ∷ []
parts PagesAfterTitle = Sign 0x3a ∷ Title ∷ Sign 0x3b ∷ NoDay ∷ Maybe OfPages ∷ Read Pages ∷ []

-- of the forms with which a text begins, the first one in this list counts
abbrev pub forms : List (List Group)
forms =
    -- 12(3) (2012) 45-67 · 12(3), 2012: 45-67
    (AnyVolume ∷ InBrackets ∷ YearInBrackets ∷ AnyPages ∷ []) ∷
    (AnyVolume ∷ InBrackets ∷ YearAfterComma ∷ AnyPages ∷ []) ∷
    -- 12(3), 45-67 (2012) · 12(3):45-67, March 2012 · 12(3), 2012 · 12(3), 45-67 · 12(3):45-67
    (AnyVolume ∷ InBrackets ∷ AnyPages ∷ YearInBrackets ∷ []) ∷
    (AnyVolume ∷ InBrackets ∷ AnyPages ∷ YearAfterComma ∷ []) ∷
    (AnyVolume ∷ InBrackets ∷ YearAfterComma ∷ []) ∷
    (AnyVolume ∷ InBrackets ∷ AnyPages ∷ []) ∷
    -- 12(3) (2012) · 12(3) (2012 Mar 5)
    (AnyVolume ∷ InBrackets ∷ YearInBrackets ∷ []) ∷
    -- 12 (2012), no. 3, pp. 45-67 · 12 (2012), no. 3 · 12 (2012) 45-67
    (AnyVolume ∷ YearInBrackets ∷ NamedIssue ∷ AnyPages ∷ []) ∷
    (AnyVolume ∷ YearInBrackets ∷ NamedIssue ∷ []) ∷
    (AnyVolume ∷ YearInBrackets ∷ AnyPages ∷ []) ∷
    -- 12, no. 3 (2012): 45-67 · vol. 12, no. 3, 2012, pp. 45-67 · Vol. 12 No. 3 (2012): Silt; 45-67 · vol. 12, no. 3 (2012) ·
    -- vol. 12, no. 3, 2012
    (AnyVolume ∷ NamedIssue ∷ YearInBrackets ∷ AnyPages ∷ []) ∷
    (AnyVolume ∷ NamedIssue ∷ YearAfterComma ∷ AnyPages ∷ []) ∷
    (AnyVolume ∷ NamedIssue ∷ YearInBrackets ∷ PagesAfterTitle ∷ []) ∷
    (AnyVolume ∷ NamedIssue ∷ YearInBrackets ∷ []) ∷
    (AnyVolume ∷ NamedIssue ∷ YearAfterComma ∷ []) ∷
    -- vol. 12, no. 3, pp. 45-67 (2012) · vol. 12, no. 3, pp. 45-67, Mar. 2012 · Vol. 12, No. 3, pp. 45-67 · vol. 12, no. 3
    (AnyVolume ∷ NamedIssue ∷ AnyPages ∷ YearInBrackets ∷ []) ∷
    (AnyVolume ∷ NamedIssue ∷ AnyPages ∷ YearAfterComma ∷ []) ∷
    (AnyVolume ∷ NamedIssue ∷ AnyPages ∷ []) ∷
    (AnyVolume ∷ NamedIssue ∷ []) ∷
    -- 2012 Mar 5;12(3):45-67 · 2012;12, no. 3, pp. 45-67 · 2012;12.3:45-67 · 5 March 2012;12:45-67 · 2012;12(3)
    (YearAndDays ∷ AnyVolume ∷ InBrackets ∷ AnyPages ∷ []) ∷
    (YearAndDays ∷ AnyVolume ∷ NamedIssue ∷ AnyPages ∷ []) ∷
    (YearAndDays ∷ AnyVolume ∷ NamedIssue ∷ []) ∷
    (YearAndDays ∷ PlainVolume ∷ PointIssue ∷ AnyPages ∷ []) ∷
    (YearAndDays ∷ AnyVolume ∷ AnyPages ∷ []) ∷
    (YearAndDays ∷ AnyVolume ∷ InBrackets ∷ []) ∷
    -- 2012, 12(3), 45-67 · (2012) 12(3) · Mar2012, vol. 12, no. 3, pp. 45-67 · 2012. Vol. 12, no. 3 · 2012, vol. 12, pp. 45-67
    (YearAndMark ∷ AnyVolume ∷ InBrackets ∷ AnyPages ∷ []) ∷
    (YearAndMark ∷ AnyVolume ∷ InBrackets ∷ []) ∷
    (YearAndMark ∷ AnyVolume ∷ NamedIssue ∷ AnyPages ∷ []) ∷
    (YearAndMark ∷ AnyVolume ∷ NamedIssue ∷ []) ∷
    (YearAndMark ∷ NamedVolume ∷ NamedPages ∷ []) ∷
    -- 2012, 12, 3, 45-67 · 2012, 12, 45-67
    (YearAndComma ∷ PlainVolume ∷ CommaIssue ∷ CommaPages ∷ []) ∷
    (YearAndComma ∷ PlainVolume ∷ CommaPages ∷ []) ∷
    -- 12.3 (2012): 45-67 · 12, 3 (March 2012), 45-67
    (PlainVolume ∷ PointIssue ∷ YearInBrackets ∷ AnyPages ∷ []) ∷
    (PlainVolume ∷ CommaIssue ∷ YearInBrackets ∷ AnyPages ∷ []) ∷
    -- 12, 3, 45-67 (2012) · 12, 3. Article 45 (2012) · 12, 3, Article 45, 2012 · 12, 3, Article 45
    (PlainVolume ∷ CommaIssue ∷ CommaPages ∷ YearInBrackets ∷ []) ∷
    (PlainVolume ∷ CommaIssue ∷ YearAfterComma ∷ NamedPages ∷ []) ∷
    (PlainVolume ∷ CommaIssue ∷ NamedPages ∷ YearInBrackets ∷ []) ∷
    (PlainVolume ∷ CommaIssue ∷ NamedPages ∷ YearAfterComma ∷ []) ∷
    (PlainVolume ∷ CommaIssue ∷ NamedPages ∷ []) ∷
    -- 12, 45-67 (2012) · 12:45-67 (2012)
    (PlainVolume ∷ CommaPages ∷ YearInBrackets ∷ []) ∷
    (PlainVolume ∷ ColonPages ∷ YearInBrackets ∷ []) ∷
    -- vol. 12, 2012, pp. 45-67 · vol. 12, pp. 45-67 (2012) · vol. 12, pp. 45-67, 2012 · vol. 12, pp. 45-67 · vol. 12(3)
    (NamedVolume ∷ YearAfterComma ∷ NamedPages ∷ []) ∷
    (NamedVolume ∷ NamedPages ∷ YearInBrackets ∷ []) ∷
    (NamedVolume ∷ NamedPages ∷ YearAfterComma ∷ []) ∷
    (NamedVolume ∷ NamedPages ∷ []) ∷
    (NamedVolume ∷ InBrackets ∷ []) ∷ []

-- the forms that references point to
abbrev pub forms_of : List (Bor (List Group)) → List (List Group)
forms_of references = map (λ reference. reference.now) references

abbrev pub match_groups : List Group → Match → Option Match
match_groups [] found = Some found
match_groups (group ∷ groups) found = option_and_then (match_groups groups) (match_parts (parts group) found)

abbrev pub or_other : Option Match → Option Match → Option Match
or_other None other = other
or_other (Some found) other = Some found

-- by the first of these forms with which a text begins
abbrev pub first_match : List (List Group) → Text → Option Match
first_match [] t = None
first_match (form ∷ others) t = or_other (match_groups form (unread t)) (first_match others t)

abbrev pub match_form : Text → Option Match
match_form t = first_match forms t
