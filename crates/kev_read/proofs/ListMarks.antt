-- Which pairs are marked: those of a standard list, and those of a declared one.
use Rattle.std.proofs.Common.{arith, ◌≡◌, ℕ, Bool, false, ◌||◌, List, Option, get_or, replicate}
use Rattle.std.proofs.lemmas.Grind.{common_steps}
use Rattle.std.specs.Option.{option_map_or}
use Rattle.text_model.specs.Texts.{Text}
use Rattle.environment_model.specs.Environment.{is_among}
use Rattle.environment_model.specs.Lists.{standard_lists, is_list}
use Rattle.kev_read.specs.Pairs.{KeyValue}
use Rattle.kev_read.specs.Private.KeyOrder.{passes_at}

-- a key that names a list is the name of a standard list or of a declared one
is_list_parts : (declared : List Text) (key : Option Text)
    → option_map_or (is_list declared) key false
    ≡ (option_map_or (λ k. is_among k standard_lists) key false || option_map_or (λ k. is_among k declared) key false)
is_list_parts declared key = grind (arith, common_steps)

pub marked_twice : (declared : List Text) (pairs : List KeyValue) (index : ℕ) (none first second : Bool) → none ≡ false
    → first ≡ (none || passes_at (λ key. is_among key standard_lists) pairs index) → second ≡ (first || passes_at (λ key. is_among key declared) pairs index)
    → second ≡ passes_at (is_list declared) pairs index
marked_twice declared pairs index none first second unmarked standard all = grind (arith, is_list_parts)

pub unmarked : (count index : ℕ) → get_or (replicate count false) index false ≡ false
unmarked count index = grind (arith, common_steps)
