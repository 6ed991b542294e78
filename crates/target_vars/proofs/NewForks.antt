-- The fork of a new name.

use Rattle.std.proofs.Common.{◌≡◌, ℕ, ◌+◌, ◌<◌, ◌≤◌, ◌⊎◌, List, [], length, drop, get_or, slice_get, Some, sym, ap, ◌∙◌, arith, ⊎_elim}
use Rattle.std.proofs.lemmas.Grind.{common_steps}
use Rattle.std.specs.Prelude.{◌==◌, ◌/◌, ◌%◌, ◌^◌, slice_range}
use Rattle.std.specs.Option.{option_map, option_map_or}
use Rattle.std.proofs.Math.ListN.{drop_of_length-le}
use Rattle.std.proofs.Math.Nat.{pow-suc, div-div-eq-div-mul, div-eq_of_lt}
use Rattle.std.proofs.Math.Numerals.{add-one}
use Rattle.std.proofs.lemmas.Bool.{cases_lt}
use Rattle.std.proofs.lemmas.List.{length-map, drop_more}
use Rattle.std.proofs.lemmas.List.Folds.{list_any_at}
use Rattle.std.proofs.lemmas.Option.{slice_get-get_or, slice_get_past}
use Rattle.std.proofs.lemmas.Slice.Eq.{bytes_eq-Decides}
use Rattle.text_model.specs.Texts.{Text}
use Rattle.target_vars.specs.Private.NamesValue.{NamesValue, placed_names, code_at, is_set, branch_of, branch_at, AreNames, IsGap, Separates}
use Rattle.target_vars.specs.declared.names.NamePlace.{NamePlace}
use Rattle.target_vars.specs.declared.names.forks.Fork.{Fork}
use Rattle.target_vars.specs.declared.names.forks.Branch.{Branch}
use Rattle.target_vars.specs.declared.names.forks.Branch.TheVariants.{Further, Ends}
use Rattle.target_vars.proofs.NameForks.{ends_there, fork_there}

-- no search ends at a fork past the last one
none_listed : (v : NamesValue) (name : Text) (gap : ℕ) → IsGap v name gap → length v.forks ≤ gap → length v.listed ≡ 0
none_listed v name gap is past = grind (arith, fork_there, ends_there)

pub first_separates : (v : NamesValue) (name : Text) (gap : ℕ) (fork : Fork) → IsGap v name gap → length v.forks ≤ gap
    → ((text : Text) → branch_of fork text ≡ Ends 0) → Separates v name gap fork
first_separates v name gap fork is past first =
    let none = none_listed v name gap is past in
    grind (arith, fork_there)

-- a fork that is read, and where the search for a name continues after it
pub fork_read : (v : NamesValue) (forks : List Fork) (gap : ℕ) (last : Fork) → forks ≡ v.forks → gap < length forks → last ≡ get_or forks gap last
    → slice_get v.forks gap ≡ Some last
fork_read v forks gap last same below read = ap (λ fs. slice_get fs gap) (sym same) ∙ slice_get-get_or forks gap last below ∙ ap Some (sym read)

pub each_fork : (bytes : Text) (places : List NamePlace) (forks : List Fork) → AreNames bytes places forks → length (placed_names bytes places) ≡ length forks
each_fork bytes places forks are = length-map places (λ (p : NamePlace). slice_range bytes p.start p.end) ∙ sym are.one_each

pub gap_branch : (forks : List Fork) (name : Text) (gap : ℕ) (last : Fork) (branch : Branch) → slice_get forks gap ≡ Some last → branch ≡ branch_of last name
    → branch_at forks name gap ≡ Some branch
gap_branch forks name gap last branch there is = ap (option_map (λ (f : Fork). branch_of f name)) there ∙ ap Some (sym is)

-- the number with which the search ends at the gap
gap_number : (v : NamesValue) (name : Text) (gap : ℕ) (branch : Branch) → length v.listed ≡ length v.forks → IsGap v name gap
    → branch_at v.forks name gap ≡ Some branch → (number : ℕ) × (number < length v.listed) × (branch ≡ Ends number)
gap_number v name gap branch each is there = grind (arith, fork_there, ends_there)

pub no_further : (v : NamesValue) (name : Text) (gap next : ℕ) → length v.listed ≡ length v.forks → IsGap v name gap
    → branch_at v.forks name gap ≡ Some (Further next) → ⊥
no_further v name gap next each is there = let number = gap_number v name gap (Further next) each is there in let same = number.2 in cc

pub gap_known : (v : NamesValue) (name : Text) (gap number : ℕ) → length v.listed ≡ length v.forks → IsGap v name gap
    → branch_at v.forks name gap ≡ Some (Ends number) → number < length v.listed
gap_known v name gap number each is there = grind (arith, gap_number)

pub another : (v : NamesValue) (name : Text) (gap number : ℕ) → IsGap v name gap → number < length v.listed → name ≡ get_or v.listed number [] → ⊥
another v name gap number is below same = grind (arith, list_any_at, bytes_eq-Decides)

pub between_separates : (v : NamesValue) (name other : Text) (gap number count : ℕ) (fork : Fork) → length v.listed ≡ length v.forks → IsGap v name gap
    → branch_at v.forks name gap ≡ Some (Ends number) → count ≡ length v.listed → other ≡ get_or v.listed number []
    → branch_of fork name ≡ Ends count → branch_of fork other ≡ Ends number
    → ((text : Text) → (branch_of fork text ≡ Ends count) ⊎ (branch_of fork text ≡ Ends number)) → Separates v name gap fork
between_separates v name other gap number count fork each is there all nearest own others ends =
    let below = gap_known v name gap number each is there in
    record {
      own = own ∙ ap Ends all;
      other = grind (arith, common_steps);
      ends = λ text. ⊎_elim (λ to. (count, omega arith, to)) (λ to. (number, omega arith, to)) (ends text);
    }

-- ---- where two names differ

code_within : (t : Text) (at : ℕ) → at < length t → code_at t at ≡ get_or t at 0 + 1
code_within t at below = ap (λ o. option_map_or (λ byte. byte + 1) o 0) (slice_get-get_or t at 0 below)

code_past : (t : Text) (at : ℕ) → length t ≤ at → code_at t at ≡ 0
code_past t at past = ap (λ o. option_map_or (λ byte. byte + 1) o 0) (slice_get_past t at past)

pub same_code : (a b : Text) (at : ℕ) → (drop at a ≡ drop at b → ⊥) → code_at a at ≡ code_at b at → (at < length a) × (drop (at + 1) a ≡ drop (at + 1) b → ⊥)
same_code a b at differ same = grind (arith, code_within, drop_more, code_past, drop_of_length-le)

halved : (x bit : ℕ) → x / 2 ^ (bit + 1) ≡ x / 2 ^ bit / 2
halved x bit = ap (λ n. x / 2 ^ n) (add-one bit) ∙ ap (λ n. x / n) (pow-suc 2 bit) ∙ sym (div-div-eq-div-mul x (2 ^ bit) 2)

same_parity : (m n : ℕ) → (m % 2 == 1) ≡ (n % 2 == 1) → m % 2 ≡ n % 2
same_parity m n same = grind (arith, common_steps)

pub same_bit : (x y bit : ℕ) → x < 2 ^ 16 → y < 2 ^ 16 → bit < 16 → (x / 2 ^ bit ≡ y / 2 ^ bit → ⊥) → is_set x bit ≡ is_set y bit
    → (bit + 1 < 16) × (x / 2 ^ (bit + 1) ≡ y / 2 ^ (bit + 1) → ⊥)
same_bit x y bit xs ys few differ same = grind (arith, same_parity, halved, div-eq_of_lt, cases_lt)
