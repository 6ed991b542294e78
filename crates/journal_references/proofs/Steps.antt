-- One form more, and one place more.
use Rattle.std.proofs.Common.{◌≡◌, ℕ, suc, ◌+◌, ◌-◌, ◌<◌, ◌≤◌, List, false, cond, Option, Some, None, length, get_or, take, drop, sym, ap, ◌∙◌, arith}
use Rattle.std.specs.Borrow.{Bor}
use Rattle.std.specs.Option.{option_and_then, option_map}
use Rattle.std.proofs.lemmas.List.{at_drop_more}
use Rattle.text_model.specs.Texts.{Text}
use Rattle.journal_references.specs.declared.groups.Group.{Group}
use Rattle.journal_references.specs.Pieces.{last}
use Rattle.journal_references.specs.Parts.{Match, match_parts, unread}
use Rattle.journal_references.specs.Forms.{forms_of, parts, match_groups, first_match}
use Rattle.journal_references.specs.Forms as forms
use Rattle.journal_references.specs.References.{Reference, reference_at, first_reference}
use Rattle.journal_references.specs.References as references

-- ---- forms

pub form_here : (t : Text) (m : Match) (fs : List (Bor (List Group))) (i : ℕ) (d : Bor (List Group)) → i < length fs
    → Some m ≡ match_groups (get_or fs i d).now (unread t) → first_match (forms_of (drop i fs)) t ≡ Some m
form_here t m fs i d h e =
    at_drop_more (λ l. first_match (forms_of l) t) fs i d h
    ∙ ap (λ o. forms.or_other o (first_match (forms_of (drop (i + 1) fs)) t)) (sym e)

pub form_later : (t : Text) (fs : List (Bor (List Group))) (i : ℕ) (d : Bor (List Group)) → i < length fs
    → None ≡ match_groups (get_or fs i d).now (unread t)
    → first_match (forms_of (drop (i + 1) fs)) t ≡ first_match (forms_of (drop i fs)) t
form_later t fs i d h e =
    sym (at_drop_more (λ l. first_match (forms_of l) t) fs i d h
    ∙ ap (λ o. forms.or_other o (first_match (forms_of (drop (i + 1) fs)) t)) (sym e))

pub ruleset form_steps = (form_here, form_later)

-- ---- places

pub match_later : (t front rest : Text) (n : ℕ) (o : Option Match) → front ≡ take n t → rest ≡ drop n t
    → references.is_inside (last front) ≡ false → o ≡ forms.match_form rest → o ≡ references.match_at t n
match_later t front rest n o before after outside e =
    e ∙ ap (λ x. forms.match_form x) after
    ∙ sym (ap (λ x. cond (references.is_inside (last x)) None (forms.match_form (drop n t))) (sym before)
    ∙ ap (λ b. cond b None (forms.match_form (drop n t))) outside)

pub match_some : (t name : Text) (n : ℕ) (m : Match) → name ≡ references.tight (take n t) → Some m ≡ references.match_at t n
    → Some (references.reference_of name m) ≡ reference_at t n
match_some t name n m is e =
    ap (λ x. Some (references.reference_of x m)) is ∙ ap (λ o. option_map (references.reference_of (references.tight (take n t))) o) e

pub match_none : (t : Text) (n : ℕ) → None ≡ references.match_at t n → None ≡ reference_at t n
match_none t n e = ap (λ o. option_map (references.reference_of (references.tight (take n t))) o) e

pub ruleset match_steps = (match_some, match_none)

left_more : (t : Text) (n : ℕ) → n < length t → length t - n ≡ suc (length t - (n + 1))
left_more t n h = omega arith

pub place_here : (t : Text) (r : Reference) (n : ℕ) → n < length t → Some r ≡ reference_at t n
    → first_reference t n (length t - n) ≡ Some r
place_here t r n h e =
    ap (first_reference t n) (left_more t n h)
    ∙ ap (λ o. references.or_other o (first_reference t (n + 1) (length t - (n + 1)))) (sym e)

pub place_later : (t : Text) (n : ℕ) → n < length t → None ≡ reference_at t n
    → first_reference t (n + 1) (length t - (n + 1)) ≡ first_reference t n (length t - n)
place_later t n h e =
    sym (ap (first_reference t n) (left_more t n h)
    ∙ ap (λ o. references.or_other o (first_reference t (n + 1) (length t - (n + 1)))) (sym e))

pub place_last : (t : Text) (n : ℕ) → length t ≤ n → first_reference t n (length t - n) ≡ None
place_last t n h = ap (first_reference t n) (none_left (length t) n h)
  where
    none_left : (m n : ℕ) → m ≤ n → m - n ≡ 0
    none_left m n h = omega arith

pub ruleset place_steps = (place_here, place_later, place_last)

-- ---- groups

pub group_more : (groups : List Group) (i : ℕ) (d : Group) (m n : Match) (all : Option Match) → i < length groups
    → Some n ≡ match_parts (parts (get_or groups i d)) m → match_groups (drop i groups) m ≡ all → match_groups (drop (i + 1) groups) n ≡ all
group_more groups i d m n all h e so_far =
    ap (option_and_then (match_groups (drop (i + 1) groups))) e ∙ sym (at_drop_more (λ l. match_groups l m) groups i d h) ∙ so_far

pub group_fails : (groups : List Group) (i : ℕ) (d : Group) (m : Match) (all : Option Match) → i < length groups
    → None ≡ match_parts (parts (get_or groups i d)) m → match_groups (drop i groups) m ≡ all → None ≡ all
group_fails groups i d m all h e so_far =
    ap (option_and_then (match_groups (drop (i + 1) groups))) e ∙ sym (at_drop_more (λ l. match_groups l m) groups i d h) ∙ so_far
