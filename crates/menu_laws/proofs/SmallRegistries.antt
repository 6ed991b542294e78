-- Two small registries whose codes are accepted.
use Rattle.std.proofs.Common.{◌≡◌, ◌≢◌, ◌≤◌, ℕ, zero, suc, true, false, List, [], ◌∷◌, None, refl, codes, arith, length}
use Rattle.std.specs.Prelude.{⊤}
use Rattle.kbart_rows.specs.Hashing.{keys_of}
use Rattle.std.specs.List.{AllPairs, list_all}
use Rattle.std.proofs.lemmas.Bool.{false≢true}
use Rattle.std.proofs.lemmas.Bool.Decides.{Decides-by_and}
use Rattle.std.proofs.lemmas.List.Elements.{All-cons, All-nil}
use Rattle.std.proofs.lemmas.Slice.Eq.{bytes_eq-Decides}
use Rattle.text_model.specs.Texts.{Text, is_unreserved, is_reserved}
use Rattle.text_model.specs.Writing.{written_u, written_ur}
use Rattle.code_model.specs.Code.{Code, reading, row}
use Rattle.machine_model.specs.Budget.{longest_compared, is_kept, total}
use Rattle.machine_model.specs.First.{first_below}
use Rattle.machine_model.specs.Form.{body_at, fault_at, first_form_fault}
use Rattle.machine_model.specs.Mismatch.{first_mismatch, mismatch_at}
use Rattle.machine_model.specs.Next.{course_from}
use Rattle.machine_model.specs.Operands.{has_right_operands}
use Rattle.machine_model.specs.Passes.{carried, is_closed, is_within, row_join, listed, none_reached, pass, passes, table_in}
use Rattle.machine_model.specs.Safe.{IsFileCode, IsSafe}
use Rattle.machine_model.proofs.Faults.{form_decided}
use Rattle.machine_laws.proofs.Least.{least_decides, mismatch_decides}
use Rattle.machine_laws.proofs.PassLemmas.{passes_least}
use Rattle.machine_laws.proofs.OutputBounds.{safe}
use Rattle.kev_read.specs.Pairs.{KeyValue, pairs_of}
use Rattle.kbart_rows.specs.Cells.{Holdings, Row}
use Rattle.menu.specs.Contained.{IsTargetName, is_target_name_character}
use Rattle.registry.specs.Targets.{TargetValue, IsRegistry}

-- what is unfolded to compute runs
unfoldable pub run_on_literals : ⊤
unfolding total longest_compared is_kept body_at reading course_from has_right_operands is_unreserved is_reserved written_u written_ur
run_on_literals = tt

-- ---- accepted code

-- TEXT r0 n0, UNDEF r0 4, PUT r0 UR, HALT, FAIL: the link is the row's URL
abbrev pub url_code : Code
url_code =
    record {
      version = 1;
      names = record { list = false; text = codes "title_url" } ∷ [];
      literals = [];
      instrs = row 4 0 0 0 0 ∷ row 8 0 0 0 4 ∷ row 14 0 0 1 0 ∷ row 1 0 0 0 0 ∷ row 2 0 0 0 0 ∷ [];
    }

-- FAIL: no link
abbrev spoilt_code : Code
spoilt_code = record { version = 1; names = []; literals = []; instrs = row 2 0 0 0 0 ∷ [] }

accepted : (c : Code) (n : ℕ) → IsFileCode c → first_form_fault c ≡ None → is_closed c (length c.instrs) (passes c n) ≡ true
    → first_mismatch c (table_in (passes c n)) ≡ None
    → IsSafe c
accepted c n file form closed needs =
    let good = (form_decided c).1 form in
    let least = passes_least c good n closed in
    safe c file good ((least_decides c (table_in (passes c n)) least).0 ((mismatch_decides c (table_in (passes c n))).1 needs))

url_code_is_safe : IsSafe url_code
unfolding first_below fault_at body_at reading listed row_join is_within none_reached carried pass passes is_closed mismatch_at
url_code_is_safe = accepted url_code 5 (record { some = omega arith; links = λ n is. absurd (false≢true is) }) refl refl refl

spoilt_code_is_safe : IsSafe spoilt_code
unfolding first_below fault_at body_at reading listed row_join is_within none_reached carried pass passes is_closed mismatch_at
spoilt_code_is_safe = accepted spoilt_code 1 (record { some = omega arith; links = λ n is. absurd (false≢true is) }) refl refl refl

-- ---- registries

abbrev pub table : List Row → Holdings
table rows = record { header = codes "print_identifier" ∷ codes "title_url" ∷ []; rows = rows; keys = keys_of 0 0 }

abbrev target : Text → Code → List Row → TargetValue
target name code rows = record { name = name; code = code; table = table rows }

abbrev pub beta : TargetValue
beta = target (codes "beta") url_code ((codes "2" ∷ codes "http://e.org/x" ∷ []) ∷ (codes "1" ∷ codes "http://e.org/b" ∷ []) ∷ [])

abbrev pub alpha : TargetValue
alpha = target (codes "alpha") url_code ((codes "1" ∷ codes "http://e.org/a" ∷ []) ∷ [])

-- the same name, with other code and another table
abbrev pub spoilt_alpha : TargetValue
spoilt_alpha = target (codes "alpha") spoilt_code ((codes "1" ∷ codes "ftp://e.org" ∷ []) ∷ [])

abbrev pub registry : List TargetValue
registry = alpha ∷ beta ∷ []

abbrev pub spoilt_registry : List TargetValue
spoilt_registry = spoilt_alpha ∷ beta ∷ []

is_name : (name : Text) → 1 ≤ length name → length name ≤ 64 → list_all is_target_name_character name ≡ true → IsTargetName name
is_name name some few all =
    record {
      some = some;
      few = few;
      characters =
          (Decides-by_and is_target_name_character (λ b. is_target_name_character b ≡ true) (list_all is_target_name_character) (λ _. (λ x. x, λ x. x)) refl
          (λ _ _. refl) name).0
          all;
    }

two_names : (a b : TargetValue) → a.name ≢ b.name → AllPairs (λ (x y : TargetValue). x.name ≢ y.name) (a ∷ b ∷ [])
two_names a b differ zero zero d before within = absurd (omega (arith, before))
two_names a b differ zero (suc zero) d before within = differ
two_names a b differ zero (suc (suc j)) d before within = absurd (omega (arith, within))
two_names a b differ (suc i) zero d before within = absurd (omega (arith, before))
two_names a b differ (suc i) (suc zero) d before within = absurd (omega (arith, before))
two_names a b differ (suc i) (suc (suc j)) d before within = absurd (omega (arith, within))

alpha_or_beta : codes "alpha" ≢ codes "beta"
alpha_or_beta same = false≢true ((bytes_eq-Decides (codes "alpha") (codes "beta")).1 same)

two_targets : (code : Code) (rows : List Row) → IsSafe code → IsRegistry (target (codes "alpha") code rows ∷ beta ∷ [])
two_targets code rows safe =
    let first = target (codes "alpha") code rows in
    record {
      few = omega arith;
      named = All-cons (λ (t : TargetValue). IsTargetName t.name) first (beta ∷ []) (is_name (codes "alpha") (omega arith) (omega arith) refl)
          (All-cons (λ (t : TargetValue). IsTargetName t.name) beta [] (is_name (codes "beta") (omega arith) (omega arith) refl)
          (All-nil (λ (t : TargetValue). IsTargetName t.name)));
      safe = All-cons (λ (t : TargetValue). IsSafe t.code) first (beta ∷ []) safe
          (All-cons (λ (t : TargetValue). IsSafe t.code) beta [] url_code_is_safe (All-nil (λ (t : TargetValue). IsSafe t.code)));
      once = two_names first beta alpha_or_beta;
    }

pub registry_is_one : IsRegistry registry
registry_is_one = two_targets url_code ((codes "1" ∷ codes "http://e.org/a" ∷ []) ∷ []) url_code_is_safe

pub spoilt_registry_is_one : IsRegistry spoilt_registry
spoilt_registry_is_one = two_targets spoilt_code ((codes "1" ∷ codes "ftp://e.org" ∷ []) ∷ []) spoilt_code_is_safe

abbrev pub request : List KeyValue
request = pairs_of (codes "rft.issn=1")
