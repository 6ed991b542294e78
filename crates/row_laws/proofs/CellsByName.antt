-- The entries of a row, name by name: the defined cell of the name's first column.
use Rattle.std.proofs.Common.{◌≡◌, ℕ, ◌+◌, ◌<◌, ◌≤◌, ◌==◌, zero, suc, true, false, [], ◌∷◌, length, get_or, Option, Some, None, is_some, bytes_eq}
use Rattle.std.proofs.Common.{nat_lt, refl, sym, ap, ◌∙◌, arith, ⊎_elim, if◌then◌else◌}
use Rattle.std.proofs.lemmas.Bool.{cases_lt, cases_order, lt-ltb, le-ltb, eq-eqb, eqb-true}
use Rattle.std.proofs.lemmas.List.Quantifiers.{position-Some}
use Rattle.std.proofs.lemmas.List.Sums.{fails_before_first}
use Rattle.std.proofs.lemmas.Slice.Eq.{bytes_eq-Decides}
use Rattle.std.specs.Option.{option_map_or}
use Rattle.text_model.specs.Texts.{Text}
use Rattle.environment_model.specs.Environment.{Environment, Meaning, Single, look_up, text_of}
use Rattle.environment_model.proofs.Environments.{look_up-empty}
use Rattle.kbart_rows.specs.Cells.{Row, cell_of, column_of, defined, is_first, name_cell, named_cell, named_cells}
use Rattle.kbart_rows.specs.Filling.{with_defined}
use Rattle.row_laws.specs.Shadowing.{row_of}
use Rattle.row_laws.proofs.Columns.{entries_of, entries_more}
use Rattle.environment_model.proofs.NameTests.{differs_back}
use Rattle.environment_model.proofs.OtherNames.{with_text-differs}
use Rattle.row_laws.proofs.RequestedEntries.{grown, with_text-same}

abbrev single : Option Text → Option Meaning
single None = None
single (Some t) = Some (Single t)

-- what the columns before n give for a name, given its first column
abbrev pub before : Row → ℕ → Option ℕ → Option Meaning
before cells n None = None
before cells n (Some k) = if nat_lt k n then single (defined (get_or cells k [])) else None

pub nothing_before : (cells : Row) (n : ℕ) → before cells n (Some n) ≡ None
nothing_before cells n = ap (λ b. if b then single (defined (get_or cells n [])) else None) (le-ltb n n (omega arith))

-- ---- one column

-- a cell under another name
other_cell : (env : Environment) (name column_name cell : Text) → bytes_eq column_name name ≡ false
    → look_up (with_defined env (name_cell column_name cell)) name ≡ look_up env name
other_cell env name column_name [] differs = refl
other_cell env name column_name (b ∷ text) differs = with_text-differs env column_name (b ∷ text) name differs

other_column : (env : Environment) (header cells : Row) (n : ℕ) (name : Text) → bytes_eq (get_or header n []) name ≡ false
    → look_up (with_defined env (named_cell header cells n)) name ≡ look_up env name
other_column env header cells n name differs = grind (arith, other_cell)

later_column : (env : Environment) (header cells : Row) (n : ℕ) (name : Text) → is_first header n ≡ false
    → look_up (with_defined env (named_cell header cells n)) name ≡ look_up env name
later_column env header cells n name later =
    ap (λ b. look_up (with_defined env (if b then name_cell (get_or header n []) (get_or cells n []) else None)) name) later

own_cell : (env : Environment) (name cell : Text) → look_up env name ≡ None → look_up (with_defined env (name_cell name cell)) name ≡ single (defined cell)
own_cell env name [] none = none
own_cell env name (b ∷ text) none = with_text-same env name (b ∷ text) ∙ ap (grown ((b ∷ text) ∷ []) false) none

own_column : (env : Environment) (header cells : Row) (n : ℕ) (name : Text) → is_first header n ≡ true → get_or header n [] ≡ name → look_up env name ≡ None
    → look_up (with_defined env (named_cell header cells n)) name ≡ single (defined (get_or cells n []))
own_column env header cells n name first is none =
    ap (λ b. look_up (with_defined env (if b then name_cell (get_or header n []) (get_or cells n []) else None)) name) first
    ∙ ap (λ x. look_up (with_defined env (name_cell x (get_or cells n []))) name) is
    ∙ own_cell env name (get_or cells n []) none

-- ---- where the first column of a name is

no_column : (header : Row) (name : Text) (n : ℕ) → column_of header name ≡ None → n < length header → bytes_eq name (get_or header n []) ≡ false
no_column header name n none within = grind (arith, fails_before_first, cases_lt)

-- whether a column with the name is the first one
first_is : (header : Row) (name : Text) (n k : ℕ) → get_or header n [] ≡ name → column_of header name ≡ Some k → is_first header n ≡ (k == n)
first_is header name n k is found =
    ap (λ x. option_map_or (λ first. first == n) (column_of header x) false) is ∙ ap (λ o. option_map_or (λ first. first == n) o false) found

-- ---- column by column

step : (env : Environment) (header cells : Row) (n : ℕ) (name : Text) (found : Option ℕ) → column_of header name ≡ found → n < length header
    → look_up env name ≡ before cells n found
    → look_up (with_defined env (named_cell header cells n)) name ≡ before cells (n + 1) found
step env header cells n name None none within so_far =
    other_column env header cells n name (differs_back name (get_or header n []) (no_column header name n none within)) ∙ so_far
step env header cells n name (Some k) found within so_far =
    ⊎_elim at_first (λ apart. ⊎_elim earlier later apart) (cases_order n k)
  where
    at : (k < length header) × (bytes_eq name (get_or header k []) ≡ true) × ((i : ℕ) → i < k → bytes_eq name (get_or header i []) ≡ false)
    at = position-Some (bytes_eq name) header k [] found

    Goal : Type 0
    Goal = look_up (with_defined env (named_cell header cells n)) name ≡ before cells (n + 1) (Some k)

    at_first : n ≡ k → Goal
    at_first same =
        let is : get_or header n [] ≡ name = ap (λ i. get_or header i []) same ∙ sym ((bytes_eq-Decides name (get_or header k [])).0 at.1) in
        let first : is_first header n ≡ true = first_is header name n k is found ∙ eq-eqb k n (sym same) in
        let none : look_up env name ≡ None = so_far ∙ ap (λ b. if b then single (defined (get_or cells k [])) else None) (le-ltb k n (omega arith)) in
        let now : nat_lt k (n + 1) ≡ true = lt-ltb k (n + 1) (omega arith) in
        own_column env header cells n name first is none
        ∙ ap (λ i. single (defined (get_or cells i []))) same
        ∙ sym (ap (λ b. if b then single (defined (get_or cells k [])) else None) now)

    earlier : n < k → Goal
    earlier lt =
        let differs = differs_back name (get_or header n []) (at.2 n lt) in
        let was = ap (λ b. if b then single (defined (get_or cells k [])) else None) (le-ltb k n (omega (arith, lt))) in
        let now = ap (λ b. if b then single (defined (get_or cells k [])) else None) (le-ltb k (n + 1) (omega (arith, lt))) in
        other_column env header cells n name differs ∙ so_far ∙ was ∙ sym now

    later : k < n → Goal
    later lt = grind (arith, lt-ltb, other_column, bytes_eq-Decides, later_column, eqb-true)

pub up_to : (header cells : Row) (name : Text) (n : ℕ) → n ≤ length header → look_up (entries_of header cells n) name ≡ before cells n (column_of header name)
up_to header cells name zero within = grind (arith, look_up-empty)
up_to header cells name (suc n) within =
    let so_far = up_to header cells name n (omega (arith, within)) in
    let one : suc n ≡ n + 1 = omega arith in
    ap (λ es. look_up es name) (entries_more header cells n)
    ∙ step (entries_of header cells n) header cells n name (column_of header name) refl (omega (arith, within)) so_far
    ∙ ap (λ m. before cells m (column_of header name)) (sym one)

pub text_of_row : (header cells : Row) (name : Text) → text_of (row_of (named_cells header cells)) name ≡ cell_of header cells name
text_of_row header cells name = grind (arith, up_to)

pub in_row : (header cells : Row) (name : Text) → is_some (look_up (row_of (named_cells header cells)) name) ≡ is_some (cell_of header cells name)
in_row header cells name = grind (arith, up_to)
