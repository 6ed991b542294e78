-- What filling an environment adds to it, and where it stops.
use Rattle.std.proofs.Common.{◌≡◌, ◌↔◌, ◌⊎◌, ℕ, ◌+◌, ◌≤◌, ◌<◌, Bool, true, false, MatchBool, List, [], ◌∷◌, ◌++◌, length, take, drop, slice_get, Some}
use Rattle.std.proofs.Common.{Result, Ok, Err, OnOk, IfErr, IsErrAnd, subst, refl, sym, ap, ◌∙◌, arith, length-append, append-nil}
use Rattle.std.proofs.Math.Logic.{⊎_elim}
use Rattle.std.proofs.lemmas.List.{take-append-drop, drop_more}
use Rattle.std.proofs.lemmas.Option.{slice_get-map, slice_get_within, get_or_from_slice_get}
use Rattle.std.proofs.lemmas.List.Sums.{sum_by-cons, sum_by-append, fold_more}
use Rattle.std.specs.Option.{option_map, option_map_or}
use Rattle.std.proofs.lemmas.Grind.{common_steps}
use Rattle.text_model.specs.Texts.{Text}
use Rattle.environment_model.specs.Environment.{Environment, byte_count, member_count}
use Rattle.environment_model.specs.Lists.{is_list}
use Rattle.environment_model.proofs.Environments.{member_count-with_text}
use Rattle.environment_model.proofs.EnvironmentGrowth.{byte_count-with_text-le, byte_count-with_member-le, member_count-with_member-le}
use Rattle.target_vars.specs.declared.env.TheConstants.{MAX_BYTES, MAX_MEMBERS}
use Rattle.target_vars.specs.declared.error.VarsError.{VarsError}
use Rattle.target_vars.specs.declared.error.VarsError.TheVariants.{TooLarge, NoMemory}
use Rattle.kev_read.specs.Pairs.{KeyValue, value_bytes}
use Rattle.kev_read.specs.Private.KeyOrder.{passes_at}
use Rattle.kev_read.specs.Filling.{fill_one, filled, is_added, MemberIsTooLarge, TextIsTooLarge, IsTooLarge, StopsAtPair}

-- the test of the key of the pair at an index
pub passes_there : (test : Text → Bool) (pairs : List KeyValue) (index : ℕ) (pair : KeyValue) → slice_get pairs index ≡ Some pair
    → passes_at test pairs index ≡ test pair.key
passes_there test pairs index pair is =
    ap (λ key. option_map_or test key false) (slice_get-map (λ (p : KeyValue). p.key) pairs index ∙ ap (option_map (λ (p : KeyValue). p.key)) is)

-- ---- growth

fill_one_bytes : (lists : List Text) (env : Environment) (pair : KeyValue) → byte_count (fill_one lists env pair) ≤ byte_count env + length pair.value
fill_one_bytes lists env pair = grind (arith, byte_count-with_member-le, byte_count-with_text-le)

fill_one_members : (lists : List Text) (env : Environment) (pair : KeyValue) → member_count (fill_one lists env pair) ≤ member_count env + 1
fill_one_members lists env pair = grind (arith, member_count-with_member-le, member_count-with_text)

value_bytes-cons : (pair : KeyValue) (pairs : List KeyValue) → value_bytes (pair ∷ pairs) ≡ length pair.value + value_bytes pairs
value_bytes-cons pair pairs = sum_by-cons (λ (p : KeyValue). length p.value) pair pairs

pub filled_bytes : (lists : List Text) (env : Environment) (pairs : List KeyValue) → byte_count (filled lists env pairs) ≤ byte_count env + value_bytes pairs
filled_bytes lists env [] = omega arith
filled_bytes lists env (pair ∷ pairs) =
    omega (arith, filled_bytes lists (fill_one lists env pair) pairs, fill_one_bytes lists env pair, value_bytes-cons pair pairs)

pub filled_members : (lists : List Text) (env : Environment) (pairs : List KeyValue) → member_count (filled lists env pairs) ≤ member_count env + length pairs
filled_members lists env [] = omega arith
filled_members lists env (pair ∷ pairs) =
    omega (arith, filled_members lists (fill_one lists env pair) pairs, fill_one_members lists env pair)

-- ---- where it stops

-- one more pair
pub filled_more : (lists : List Text) (old : Environment) (pairs : List KeyValue) (index : ℕ) (pair : KeyValue) → slice_get pairs index ≡ Some pair
    → filled lists old (take (index + 1) pairs) ≡ fill_one lists (filled lists old (take index pairs)) pair
filled_more lists old pairs index pair is =
    fold_more (fill_one lists) old pairs index pair (slice_get_within pairs index pair is)
    ∙ ap (fill_one lists (filled lists old (take index pairs))) (get_or_from_slice_get pairs index pair pair is)

-- a pair is rejected after those before it were added
pub stops_at : (lists : List Text) (old now new : Environment) (pairs : List KeyValue) (index : ℕ) (pair : KeyValue) (list : Bool) (e : VarsError)
    → slice_get pairs index ≡ Some pair → list ≡ is_list lists pair.key → now ≡ filled lists old (take index pairs) → new ≡ now → is_added list now pair ≡ true
    → ((◌≡◌ {A = Result (Unit {0}) VarsError} (Err e) (Err TooLarge)) ↔ IsTooLarge list now pair) → StopsAtPair lists old pairs new e
stops_at lists old now new pairs index pair list e is marked so_far unchanged added too_large = record {
  before = take index pairs;
  refused = pair;
  after = drop (index + 1) pairs;
  in_order = sym (take-append-drop index pairs)
      ∙ ap (λ rest. take index pairs ++ rest) (drop_more pairs index pair (slice_get_within pairs index pair is)
      ∙ ap (λ p. p ∷ drop (index + 1) pairs) (get_or_from_slice_get pairs index pair pair is));
  reached = unchanged ∙ so_far;
  is_added = rw (unchanged, ← marked) added;
  too_large = rw (unchanged, ← marked) ((λ same. too_large.0 (ap Err same)), (λ over. let same = too_large.1 over in cc));
}

-- what holds for an error that `?` passes on holds for the error that the function returns
pub IfErr_passed_on : {T E : Type 0} (P : E → Type 0) (r : Result T E) (e : E) → IsErrAnd r (λ passed. passed ≡ e) → P e → IfErr r P
IfErr_passed_on P (Ok x) e is holds = tt
IfErr_passed_on P (Err passed) e is holds = subst P (sym is) holds

-- ---- what follows from how far the filling came

-- the environment is as the first pairs left it
pub record Reaches (lists : List Text) (old : Environment) (pairs : List KeyValue) (new : Environment) : Type 0 where
  pub before : List KeyValue
  pub after : List KeyValue
  pub in_order : pairs ≡ before ++ after
  pub reached : new ≡ filled lists old before

pub reaches : {T : Type 0} (lists : List Text) (old : Environment) (pairs : List KeyValue) (new : Environment) (r : Result T VarsError)
    → OnOk r (new ≡ filled lists old pairs) → IfErr r (StopsAtPair lists old pairs new) → Reaches lists old pairs new
reaches lists old pairs new (Ok x) ok err = record { before = pairs; after = []; in_order = sym (append-nil pairs); reached = ok }
reaches lists old pairs new (Err e) ok err = record { before = err.before; after = err.refused ∷ err.after; in_order = err.in_order; reached = err.reached }

value_bytes-parts : (pairs before after : List KeyValue) → pairs ≡ before ++ after → value_bytes pairs ≡ value_bytes before + value_bytes after
value_bytes-parts pairs before after parts = ap value_bytes parts ∙ sum_by-append (λ (p : KeyValue). length p.value) before after

pub reached_bytes : (lists : List Text) (old : Environment) (pairs : List KeyValue) (new : Environment) → Reaches lists old pairs new
    → byte_count new ≤ byte_count old + value_bytes pairs
reached_bytes lists old pairs new h =
    omega (arith, ap byte_count h.reached, filled_bytes lists old h.before, value_bytes-parts pairs h.before h.after h.in_order)

pub reached_members : (lists : List Text) (old : Environment) (pairs : List KeyValue) (new : Environment) → Reaches lists old pairs new
    → member_count new ≤ member_count old + length pairs
reached_members lists old pairs new h =
    omega (arith, ap member_count h.reached, filled_members lists old h.before, ap length h.in_order, length-append h.before h.after)

passes_limit : (list : Bool) (env : Environment) (pair : KeyValue) → MatchBool list (MemberIsTooLarge env pair) (TextIsTooLarge env pair)
    → (MAX_BYTES < byte_count env + length pair.value) ⊎ (MAX_MEMBERS < member_count env + 1)
passes_limit list env pair h = grind (arith, common_steps)

-- no pair exceeds a limit if all of them fit
pub only_memory : {T : Type 0} (lists : List Text) (old : Environment) (pairs : List KeyValue) (new : Environment) (r : Result T VarsError)
    → IfErr r (StopsAtPair lists old pairs new) → byte_count old + value_bytes pairs ≤ MAX_BYTES → member_count old + length pairs ≤ MAX_MEMBERS
    → IfErr r (λ e. e ≡ NoMemory)
only_memory lists old pairs new (Ok x) err few_bytes few_members = tt
only_memory lists old pairs new (Err NoMemory) err few_bytes few_members = refl
only_memory lists old pairs new (Err TooLarge) err few_bytes few_members =
    let bytes = value_bytes-parts pairs err.before (err.refused ∷ err.after) err.in_order in
    let bytes_here = value_bytes-cons err.refused err.after in
    let members = ap length err.in_order ∙ length-append err.before (err.refused ∷ err.after) in
    let filled_so_far = filled_bytes lists old err.before in
    let members_so_far = filled_members lists old err.before in
    let new_bytes = ap byte_count err.reached in
    let new_members = ap member_count err.reached in
    absurd (⊎_elim (λ over. omega arith) (λ over. omega arith) (passes_limit (is_list lists err.refused.key) new err.refused (err.too_large.0 refl)))
