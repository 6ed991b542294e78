-- The menus of small registries computed, from the query to the resolution of each target.
use Rattle.std.proofs.Common.{◌≡◌, false, List, [], ◌∷◌, refl, codes}
use Rattle.std.specs.Prelude.{⊤, map}
use Rattle.kbart_rows.specs.Hashing.{keys_of}
use Rattle.text_model.specs.Texts.{Text, is_unreserved, is_reserved}
use Rattle.text_model.specs.Writing.{written_u, written_ur}
use Rattle.code_model.specs.Code.{Code, row, reading}
use Rattle.machine_model.specs.Form.{body_at}
use Rattle.machine_model.specs.Budget.{longest_compared, is_kept, total}
use Rattle.machine_model.specs.Operands.{has_right_operands}
use Rattle.machine_model.specs.Next.{course_from}
use Rattle.kev_read.specs.Pairs.{pairs_of}
use Rattle.kbart_rows.specs.Cells.{Row}
use Rattle.kbart_rows.proofs.OnLiterals.{kbart_rows_on_literals}
use Rattle.menu.specs.Entries.{MenuEntry}
use Rattle.menu.specs.declared.entry.Resolution.{Resolution}
use Rattle.menu.specs.declared.entry.Resolution.TheVariants as resolution
use Rattle.registry.specs.Targets.{TargetValue}
use Rattle.verified_runs.specs.Fates.{fate_in}
use Rattle.registry.specs.Entries.{menu_of, resolution_of}

-- what is unfolded to compute budgets and runs
unfoldable run_on_literals : ⊤
unfolding total longest_compared is_kept body_at reading course_from has_right_operands is_unreserved is_reserved written_u written_ur
run_on_literals = tt

-- ---- targets

-- TEXT r0 n0, UNDEF r0 4, PUT r0 UR, HALT, FAIL: the link is the row's URL
abbrev url_code : Code
url_code =
    record {
      version = 1;
      names = record { list = false; text = codes "title_url" } ∷ [];
      literals = [];
      instrs = row 4 0 0 0 0 ∷ row 8 0 0 0 4 ∷ row 14 0 0 1 0 ∷ row 1 0 0 0 0 ∷ row 2 0 0 0 0 ∷ [];
    }

abbrev target : Text → List Row → TargetValue
target name rows =
    record {
      name = name;
      code = url_code;
      table = record { header = codes "print_identifier" ∷ codes "title_url" ∷ []; rows = rows; keys = keys_of 0 0 };
    }

-- rows without a URL, with one that is not a web link, and with a web link
abbrev journals : List Row
journals =
    (codes "1" ∷ codes "http://e.org/0" ∷ [])
    ∷ (codes "2" ∷ [] ∷ [])
    ∷ (codes "2" ∷ codes "ftp://e.org/2" ∷ [])
    ∷ (codes "2" ∷ codes "http://e.org/3" ∷ [])
    ∷ (codes "2" ∷ codes "https://e.org/4" ∷ [])
    ∷ (codes "3" ∷ codes "ftp://e.org/5" ∷ [])
    ∷ (codes "3" ∷ [] ∷ [])
    ∷ (codes "4" ∷ [] ∷ [])
    ∷ (codes "4" ∷ codes "ftp://e.org/8" ∷ [])
    ∷ []

-- ---- the resolution of a target

-- the first matching row with a web link decides, and without one the last matching row; all rows are counted, from 0
reason_by_matching_rows : map (λ query. resolution_of (target (codes "a") journals) (pairs_of query))
    (codes "rft.issn=1" ∷ codes "rft.issn=2" ∷ codes "rft.issn=3" ∷ codes "rft.issn=4" ∷ codes "rft.issn=5" ∷ codes "title_url=http://e" ∷ [] ∷ [])
    ≡ resolution.Link 0 (codes "http://e.org/0") ∷ resolution.Link 3 (codes "http://e.org/3") ∷ resolution.NoLink ∷ resolution.NotAWebLink
    ∷ resolution.NoRow ∷ resolution.NoRow ∷ resolution.NoRow ∷ []
unfolding kbart_rows_on_literals run_on_literals fate_in
reason_by_matching_rows = refl

-- ---- all targets

abbrev entry : Text → Resolution → MenuEntry
entry name resolution = record { name = name; resolution = resolution }

-- each target has an entry, in the order of the targets
entries_in_order : map (λ query. menu_of (target (codes "z") journals ∷ target (codes "a") [] ∷ []) (pairs_of query))
    (codes "rft.isbn=1" ∷ codes "rft.issn=5" ∷ [])
    ≡ (entry (codes "z") (resolution.Link 0 (codes "http://e.org/0")) ∷ entry (codes "a") resolution.NoRow ∷ [])
    ∷ (entry (codes "z") resolution.NoRow ∷ entry (codes "a") resolution.NoRow ∷ []) ∷ []
unfolding kbart_rows_on_literals run_on_literals fate_in
entries_in_order = refl

without_targets : menu_of [] (pairs_of (codes "rft.issn=1")) ≡ []
without_targets = refl
