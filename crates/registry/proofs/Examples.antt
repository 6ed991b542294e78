-- The definitions computed: small targets and requests are written out here, and the checker compares.
use Rattle.std.proofs.Common.{ℕ, ◌≡◌, true, false, List, [], ◌∷◌, Some, refl, codes, length, arith, lit<}
use Rattle.std.specs.Prelude.{map}
use Rattle.kbart_rows.specs.Hashing.{keys_of}
use Rattle.text_model.specs.Texts.{Text}
use Rattle.environment_model.specs.Environment.{byte_count, look_up, members_of, text_of, with_member}
use Rattle.code_model.specs.Code.{Code, row}
use Rattle.kev_read.specs.Pairs.{KeyValue}
use Rattle.kbart_rows.specs.Cells.{Holdings}
use Rattle.menu.specs.declared.entry.Resolution.{Resolution}
use Rattle.menu.specs.declared.entry.Resolution.TheVariants as resolution
use Rattle.registry.specs.Targets.{TargetValue, has_name}
use Rattle.registry.specs.Refusals.{IsAddRefusal}
use Rattle.registry.specs.declared.error.AddErrorKind.TheVariants.{BadTargetName, NoMemory}
use Rattle.row_scope.specs.RowEnvironments.{entries_of_row}
use Rattle.registry.specs.RowEnvironments.{row_environment}
use Rattle.verified_runs.specs.Fates.{OverBudget, Link, NoLink}
use Rattle.registry.specs.Entries.{chosen, resolution_by}

-- ---- what is chosen

second_row_has_a_link : chosen resolution.NoRow (resolution.NoLink ∷ resolution.Link 1 (codes "http://a") ∷ resolution.Link 2 (codes "http://b") ∷ [])
    ≡ resolution.Link 1 (codes "http://a")
second_row_has_a_link = refl

no_row_has_a_link : chosen resolution.NoRow (resolution.NoLink ∷ resolution.NotAWebLink ∷ []) ≡ resolution.NotAWebLink
no_row_has_a_link = refl

-- a row without a web link does not end the search
last_row_has_a_link : chosen resolution.NoRow (resolution.NotAWebLink ∷ resolution.OverBudget 1202100 ∷ resolution.NoLink ∷ resolution.Link 3
    (codes "http://a") ∷ [])
    ≡ resolution.Link 3 (codes "http://a")
last_row_has_a_link = refl

no_row_matches : chosen resolution.NoRow [] ≡ resolution.NoRow
no_row_matches = refl

resolutions : List Resolution
resolutions = resolution_by 3 (Link (codes "HTTPS://e.org")) ∷ resolution_by 3 (Link (codes "javascript:x")) ∷ resolution_by 3 NoLink ∷ resolution_by 3
    (OverBudget 1202100) ∷ []

resolutions_of_fates : resolutions ≡ resolution.Link 3 (codes "HTTPS://e.org") ∷ resolution.NotAWebLink ∷ resolution.NoLink ∷ resolution.OverBudget 1202100 ∷ []
unfolding resolutions
resolutions_of_fates = refl

-- ---- a table with two rows

abbrev table : Holdings
table =
    record {
      header = codes "print_identifier" ∷ codes "title_url" ∷ codes "date_first_issue_online" ∷ codes "date_last_issue_online" ∷ [];
      rows = (codes "1234-567X" ∷ codes "http://e.org/a" ∷ codes "1990" ∷ codes "1995" ∷ []) ∷ (codes "1234-567X" ∷ codes "http://e.org/b" ∷ codes
          "2000" ∷ [] ∷ []) ∷ [];
      keys = keys_of 0 0;
    }

-- EMIT of a text and HALT; `list` is read as a list
abbrev printing : Text → Code
printing text =
    record {
      version = 1;
      names = record { list = true; text = codes "list" } ∷ [];
      literals = record { compared = false; bytes = text } ∷ [];
      instrs = row 13 0 0 0 0 ∷ row 1 0 0 0 0 ∷ [];
    }

abbrev target : Text → Code → TargetValue
target name code = record { name = name; code = code; table = table }

abbrev alpha : TargetValue
alpha = target (codes "alpha") (printing (codes "http://e.org/"))

abbrev pair : Text → Text → KeyValue
pair key value = record { key = key; value = value }

abbrev request : List KeyValue
request = pair (codes "rft.issn") (codes "1234567x") ∷ pair (codes "title_url") (codes "http://evil.example") ∷ pair (codes "list") (codes "a") ∷ pair
    (codes "list") (codes "b") ∷ []

-- the row of the example, the one after the first
abbrev later_row : ℕ
later_row = 1

bytes_of_a_row : byte_count (entries_of_row alpha.table later_row) ≡ 27
unfolding look_up
bytes_of_a_row = refl

row_before_request : text_of (row_environment alpha request later_row) (codes "title_url") ≡ Some (codes "http://e.org/b")
unfolding look_up with_member
row_before_request = refl

list_of_the_request : members_of (row_environment alpha request later_row) (codes "list") ≡ codes "a" ∷ codes "b" ∷ []
unfolding look_up with_member
list_of_the_request = refl

-- ---- names of targets

-- two names are the same only if all their bytes are
names_of_alpha : map (has_name (alpha ∷ [])) (codes "alpha" ∷ codes "Alpha" ∷ codes "alph" ∷ codes "alphabet" ∷ [] ∷ [])
    ≡ true ∷ false ∷ false ∷ false ∷ false ∷ []
names_of_alpha = refl

-- each of the targets is compared
names_of_two : map (has_name (alpha ∷ target (codes "beta") (printing []) ∷ [])) (codes "alpha" ∷ codes "beta" ∷ codes "gamma" ∷ []) ≡ true ∷ true ∷ false ∷ []
names_of_two = refl

-- a full registry is full, whatever the name
full_before_names : (targets : List TargetValue) → length targets ≡ 256 → IsAddRefusal targets (codes "a b") BadTargetName → ⊥
full_before_names targets many refused = omega (arith, many, refused.0)

names_before_memory : IsAddRefusal [] (codes "a b") NoMemory → ⊥
names_before_memory may = absurd (cc (may.1.is_name.characters 1 0 (lit< tt)))
