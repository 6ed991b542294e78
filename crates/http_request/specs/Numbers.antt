-- The numbers of a title in a path: ISSNs (ISO 3297) and ISBNs (ISO 2108), with commas between them.
use Rattle.std.specs.Prelude.{ℕ, ◌==◌, Bool, ◌&&◌, ◌||◌, not, nat_eq, nat_le, List, Option, Some, None, codes, count_by, drop, length, if◌then◌else◌}
use Rattle.std.specs.Char.{is_ascii_digit}
use Rattle.std.specs.List.{list_all, slice_split, starts_with}
use Rattle.http_request.specs.declared.numbers.TheConstants.{MAX_NUMBERS}

abbrev pub is_comma : ℕ → Bool
is_comma b = b == 0x2c

abbrev pub is_hyphen : ℕ → Bool
is_hyphen b = b == 0x2d

-- a digit, the check digit X, a hyphen, or the comma between two numbers
abbrev pub is_number_byte : ℕ → Bool
is_number_byte b = is_ascii_digit b || b == 0x58 || is_hyphen b || is_comma b

-- without hyphens an ISSN has 8 characters, and an ISBN has 10 or 13
abbrev pub has_number_length : List ℕ → Bool
has_number_length number =
    let characters = count_by (λ b. not (is_hyphen b)) number in (characters == 8) || (characters == 10) || (characters == 13)

-- what is between the commas
abbrev pub numbers_of : List ℕ → List (List ℕ)
numbers_of text = slice_split is_comma text

-- at most that many, each as long as a number is
abbrev pub are_few : ℕ → List ℕ → Bool
are_few most text = nat_le (length (numbers_of text)) most && list_all has_number_length (numbers_of text)

abbrev pub are_numbers : List ℕ → Bool
are_numbers text = list_all is_number_byte text && are_few MAX_NUMBERS text

-- ---- in a path

abbrev pub before_numbers : List ℕ
before_numbers = codes "/menu.json/"

abbrev pub numbers_if : List ℕ → Option (List ℕ)
numbers_if text = if are_numbers text then Some text else None

-- the numbers at the end of a path
abbrev pub numbers_in : List ℕ → Option (List ℕ)
numbers_in path = if starts_with nat_eq path before_numbers then numbers_if (drop (length before_numbers) path) else None
