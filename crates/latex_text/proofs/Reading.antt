-- Texts, read from their last byte on.
use Rattle.std.proofs.Common.{◌≡◌, ℕ, suc, ◌+◌, ◌-◌, ◌≤◌, [], ◌∷◌, ◌++◌, Bool, true, false, cond, Option, Some, None, length, get_or, take, drop}
use Rattle.std.proofs.Common.{refl, sym, ap, ◌∙◌, subst, append_assoc, arith}
use Rattle.std.specs.Prelude.{◌==◌, ◌||◌, nat_lt}
use Rattle.std.specs.Option.{option_map, unwrap_or}
use Rattle.std.specs.Str.{IsUtf8}
use Rattle.std.proofs.lemmas.Bool.{cond_both, cond-false, cond-true, eqb-true, or_parts}
use Rattle.std.proofs.lemmas.List.{length-append, length-drop, take_more, take_all}
use Rattle.std.proofs.lemmas.Option.{same_Some}
use Rattle.std.proofs.lemmas.Str.{IsUtf8-append}
use Rattle.text_model.specs.Texts.{Text}
use Rattle.latex_text.specs.declared.commands.Command.{Command}
use Rattle.latex_text.specs.declared.places.Place.{Place}
use Rattle.latex_text.specs.declared.places.Place.TheVariants.{Start}
use Rattle.latex_text.specs.Places.{has, backslash, opening, next, place_after, has_commands, has_groups, follows_initial}
use Rattle.latex_text.specs.Groups.{opened, ungrouped}
use Rattle.latex_text.specs.Commands.{command_of, written}
use Rattle.latex_text.specs.Texts.{done, changed, put, read_before, read, is_blank, without_latex, IsFree}
use Rattle.latex_text.proofs.Cuts.{IsOpened, opened_is, ungrouped_short, ungrouped_utf8, cut_at, AreCut}
use Rattle.latex_text.proofs.PlaceSteps.{groups_commands, escaped_next, group_next}
use Rattle.latex_text.proofs.Frees.{as_command, as_either, changed_is, ordinary_none}
use Rattle.latex_text.proofs.Settled.{opened_free}
use Rattle.latex_text.proofs.TakenCommands.{IsTaken}
use Rattle.latex_text.proofs.Taken.{taken}

-- ---- one byte

-- what a byte is read as, by its kind
record IsChanged (s : Place) (b : ℕ) (t u : Text) : Type 0 where
  pub short : length u ≤ suc (length t)
  pub free : IsFree (next s b) t → IsFree s u
  pub utf8 : (front : Text) → IsUtf8 (front ++ b ∷ t) → IsUtf8 (front ++ u)

command_changed : (s : Place) (t : Text) (p : Command) → has_commands s ≡ true → command_of (follows_initial s) t ≡ Some p
    → IsChanged s backslash t (done t p)
command_changed s t p o h =
    let it : IsTaken t p = taken (follows_initial s) t p h in
    let within = it.within in
    let short = it.short in
    let left = length-drop p.len t in
    let rest = ungrouped_short (drop p.len t) in
    let all = length-append (written p.character) (ungrouped (drop p.len t)) in
    record {
      short = omega (arith, within, short, left, rest, all);
      free = λ free. it.free s o (subst (λ r. IsFree r t) (escaped_next s o) free);
      utf8 = λ front utf8.
          let cut : AreCut front t = cut_at front backslash t (omega arith) utf8 in
          IsUtf8-append front (done t p) cut.before
          (IsUtf8-append (written p.character) (ungrouped (drop p.len t)) it.character (ungrouped_utf8 (drop p.len t) (it.utf8 cut.after)));
    }

group_changed : (s : Place) (t u : Text) → has_groups s ≡ true → opened t ≡ Some u → IsChanged s opening t u
group_changed s t u g h =
    let it : IsOpened t u = opened_is t u h in
    let short = it.short in
    record {
      short = omega (arith, short);
      free = λ free. opened_free s t u (groups_commands s g) h (subst (λ r. IsFree r t) (group_next s g) free);
      utf8 = λ front utf8.
          let cut : AreCut front t = cut_at front opening t (omega arith) utf8 in
          IsUtf8-append front u cut.before (it.utf8 cut.after);
    }

is_changed : (s : Place) (b : ℕ) (t u : Text) → changed s b t ≡ Some u → IsChanged s b t u
is_changed s b t u h = by_backslash (b == backslash) refl (sym (changed_is s b t) ∙ h)
  where
    by_command : (o : Option Command) → command_of (follows_initial s) t ≡ o → has_commands s ≡ true → option_map (done t) o ≡ Some u
        → IsChanged s backslash t u
    by_command None e o g = cc
    by_command (Some p) e o g = subst (IsChanged s backslash t) (same_Some (done t p) u g) (command_changed s t p o e)

    by_open : (x : Bool) → has_commands s ≡ x → as_command x (follows_initial s) t ≡ Some u → IsChanged s backslash t u
    by_open true e g = by_command (command_of (follows_initial s) t) refl e g
    by_open false e g = cc

    by_groups : (x : Bool) → has_groups s ≡ x → cond x (opened t) None ≡ Some u → IsChanged s opening t u
    by_groups true e g = group_changed s t u e g
    by_groups false e g = cc

    by_opening : (y : Bool) → (b == opening) ≡ y → cond y (cond (has_groups s) (opened t) None) None ≡ Some u → IsChanged s b t u
    by_opening true e g = subst (λ k. IsChanged s k t u) (sym (eqb-true b opening e)) (by_groups (has_groups s) refl g)
    by_opening false e g = cc

    by_backslash : (x : Bool) → (b == backslash) ≡ x
        → as_either x (b == opening) (has_commands s) (follows_initial s) (has_groups s) t ≡ Some u → IsChanged s b t u
    by_backslash true e g = subst (λ k. IsChanged s k t u) (sym (eqb-true b backslash e)) (by_open (has_commands s) refl g)
    by_backslash false e g = by_opening (b == opening) refl g

is_put : (s : Place) (b : ℕ) (t : Text) → IsChanged s b t (put s b t)
is_put s b t = by_change (changed s b t) refl
  where
    by_change : (o : Option Text) → changed s b t ≡ o → IsChanged s b t (unwrap_or o (b ∷ t))
    by_change None e = record { short = omega arith; free = λ free. (e, free); utf8 = λ front utf8. utf8 }
    by_change (Some u) e = is_changed s b t u e

-- ---- one byte after another

pub read_free : (s : Place) (t rest : Text) → IsFree (place_after s t) rest → IsFree s (read_before s t rest)
read_free s [] rest free = free
read_free s (b ∷ t) rest free = (is_put s b (read_before (next s b) t rest)).free (read_free (next s b) t rest free)

read_short : (s : Place) (t rest : Text) → length (read_before s t rest) ≤ length t + length rest
read_short s [] rest = omega arith
read_short s (b ∷ t) rest =
    let one = (is_put s b (read_before (next s b) t rest)).short in
    let others = read_short (next s b) t rest in
    omega (arith, one, others)

read_utf8 : (s : Place) (front t : Text) → IsUtf8 (front ++ t) → IsUtf8 (front ++ read_before s t [])
read_utf8 s front [] utf8 = utf8
read_utf8 s front (b ∷ t) utf8 =
    let rest = read_before (next s b) t [] in
    let longer : IsUtf8 ((front ++ b ∷ []) ++ rest) =
    read_utf8 (next s b) (front ++ b ∷ []) t (subst IsUtf8 (sym (append_assoc front (b ∷ []) t)) utf8) in
    (is_put s b rest).utf8 front (subst IsUtf8 (append_assoc front (b ∷ []) rest) longer)

pub put_stays : (s : Place) (b : ℕ) (t : Text) → changed s b t ≡ None → put s b t ≡ b ∷ t
put_stays s b t h = ap (λ o. unwrap_or o (b ∷ t)) h

free_same : (s : Place) (t : Text) → IsFree s t → read_before s t [] ≡ t
free_same s [] free = refl
free_same s (b ∷ t) free = ap (put s b) (free_same (next s b) t free.1) ∙ put_stays s b t free.0

unmarked_free : (s : Place) (t : Text) → has backslash t ≡ false → has opening t ≡ false → IsFree s t
unmarked_free s [] h g = tt
unmarked_free s (b ∷ t) h g =
    let first = or_parts (b == backslash) (has backslash t) h in
    let second = or_parts (b == opening) (has opening t) g in
    (ordinary_none s b t first.0 second.0, unmarked_free (next s b) t first.1 second.1)

-- ---- the last byte is read first

pub read_in_turn : (s : Place) (t u rest : Text) → read_before s (t ++ u) rest ≡ read_before s t (read_before (place_after s t) u rest)
read_in_turn s [] u rest = refl
read_in_turn s (b ∷ t) u rest = ap (put s b) (read_in_turn (next s b) t u rest)

-- one byte less of a text that is still to be read
pub last_read : (r rest more : Text) (s : Place) → 1 ≤ length r → s ≡ place_after Start (take (length r - 1) r)
    → more ≡ put s (get_or r (length r - 1) 0) rest → read_before Start (take (length r - 1) r) more ≡ read_before Start r rest
last_read r rest more s some is e =
    let k = length r - 1 in
    let count : k + 1 ≡ length r = omega (arith, some) in
    let split : take k r ++ get_or r k 0 ∷ [] ≡ r =
    sym (take_more r k 0 (omega (arith, some))) ∙ ap (λ n. take n r) count ∙ take_all (length r) r (omega arith) in
    ap (λ u. read_before Start (take k r) u) (e ∙ ap (λ p. put p (get_or r k 0) rest) is)
    ∙ sym (read_in_turn Start (take k r) (get_or r k 0 ∷ []) rest) ∙ ap (λ t. read_before Start t rest) split

-- ---- whole texts

pub all_free : (t : Text) → IsFree Start (read t)
unfolding read
all_free t = read_free Start t [] tt

pub read_same : (t : Text) → IsFree Start t → read t ≡ t
unfolding read
read_same t free = free_same Start t free

either : (P : Text → Type 0) (t : Text) → P t → P (read t) → P (without_latex t)
either P t same other = cond_both (nat_lt 2000 (length t) || is_blank (read t)) t (read t) P (λ _. same) (λ _. other)

pub free_stays : (t : Text) → IsFree Start t → without_latex t ≡ t
free_stays t free = either (λ u. u ≡ t) t refl (read_same t free)

pub unmarked_stays : (t : Text) → has backslash t ≡ false → has opening t ≡ false → without_latex t ≡ t
unmarked_stays t h g = free_stays t (unmarked_free Start t h g)

pub once : (t : Text) → without_latex (without_latex t) ≡ without_latex t
once t = by_kept (nat_lt 2000 (length t) || is_blank (read t)) refl
  where
    by_kept : (b : Bool) → (nat_lt 2000 (length t) || is_blank (read t)) ≡ b → without_latex (without_latex t) ≡ without_latex t
    by_kept true e =
        let same : without_latex t ≡ t = cond-true (nat_lt 2000 (length t) || is_blank (read t)) t (read t) e in ap (λ u. without_latex u) same
    by_kept false e =
        let other : without_latex t ≡ read t = cond-false (nat_lt 2000 (length t) || is_blank (read t)) t (read t) e in
        ap (λ u. without_latex u) other ∙ free_stays (read t) (all_free t) ∙ sym other

read_less : (t : Text) → length (read t) ≤ length t
unfolding read
read_less t = omega (arith, read_short Start t [])

pub short : (t : Text) → length (without_latex t) ≤ length t
short t = either (λ u. length u ≤ length t) t (omega arith) (read_less t)

all_utf8 : (t : Text) → IsUtf8 t → IsUtf8 (read t)
unfolding read
all_utf8 t utf8 = read_utf8 Start [] t utf8

pub is_utf8 : (t : Text) → IsUtf8 t → IsUtf8 (without_latex t)
is_utf8 t utf8 = either IsUtf8 t utf8 (all_utf8 t utf8)

pub is_filled : (t : Text) → is_blank t ≡ false → is_blank (without_latex t) ≡ false
is_filled t filled =
    cond_both (nat_lt 2000 (length t) || is_blank (read t)) t (read t) (λ u. is_blank u ≡ false) (λ _. filled)
    (λ e. (or_parts (nat_lt 2000 (length t)) (is_blank (read t)) e).1)
