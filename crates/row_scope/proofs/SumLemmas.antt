-- How many bytes and members a request has, depending on the lists that are declared.
use Rattle.std.proofs.Common.{◌≡◌, ℕ, ◌+◌, ◌<◌, ◌≤◌, List, [], ◌∷◌, ◌++◌, length, take, get_or, refl, sym, ap, ◌∙◌, arith}
use Rattle.std.proofs.lemmas.Grind.{common_steps}
use Rattle.std.proofs.lemmas.List.{take_more, map_push}
use Rattle.std.proofs.lemmas.List.Filters.{sum_by-filter_both}
use Rattle.text_model.specs.Texts.{Text}
use Rattle.environment_model.specs.Environment.{Environment, Entry, byte_count, member_count, meaning_bytes, meaning_members}
use Rattle.environment_model.specs.Lists.{is_list}
use Rattle.code_model.specs.Code.{Code}
use Rattle.machine_model.specs.Operands.{name_at}
use Rattle.row_laws.specs.Shadowing.{hidden, is_hidden, is_visible}
use Rattle.row_scope.specs.NameColumns.{names_at}

-- ---- a row hides at most everything

pub hidden_bytes_le : (row env : Environment) → byte_count (hidden row env) ≤ byte_count env
hidden_bytes_le row env = omega (arith, sum_by-filter_both (is_hidden row) (is_visible row) (λ e. refl) (λ (e : Entry). meaning_bytes e.meaning) env)

pub hidden_members_le : (row env : Environment) → member_count (hidden row env) ≤ member_count env
hidden_members_le row env = omega (arith, sum_by-filter_both (is_hidden row) (is_visible row) (λ e. refl) (λ (e : Entry). meaning_members e.meaning) env)

-- ---- one more list

-- the order of the declared lists does not matter
last_is_first : (l : Text) (lists : List Text) (key : Text) → is_list (l ∷ lists) key ≡ is_list (lists ++ l ∷ []) key
last_is_first l lists key = grind (arith, common_steps)

pub names_more : (code : Code) (numbers : List ℕ) (k d : ℕ) → k < length numbers → names_at code (take (k + 1) numbers) ≡ names_at code (take k numbers)
    ++ name_at code (get_or numbers k d) ∷ []
names_more code numbers k d within = ap (names_at code) (take_more numbers k d within) ∙ map_push (name_at code) (take k numbers) (get_or numbers k d)

pub one_name_more : (code : Code) (numbers : List ℕ) (k d : ℕ) → k < length numbers
    → (key : Text) → is_list (name_at code (get_or numbers k d) ∷ names_at code (take k numbers)) key ≡ is_list (names_at code (take (k + 1) numbers)) key
one_name_more code numbers k d within key =
    last_is_first (name_at code (get_or numbers k d)) (names_at code (take k numbers)) key
    ∙ ap (λ names. is_list names key) (sym (names_more code numbers k d within))
