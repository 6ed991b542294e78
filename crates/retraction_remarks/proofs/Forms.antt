-- One form more.
use Rattle.std.proofs.Common.{◌≡◌, ℕ, ◌+◌, ◌<◌, List, Some, None, length, get_or, drop, sym, ap, ◌∙◌}
use Rattle.std.proofs.lemmas.List.{at_drop_more}
use Rattle.text_model.specs.Texts.{Text}
use Rattle.retraction_remarks.specs.declared.remarks.Form.{Form}
use Rattle.retraction_remarks.specs.Titles.{left, filled, or_other, first_left}

pub form_here : (t u : Text) (fs : List Form) (i : ℕ) (d : Form) → i < length fs → Some u ≡ filled (left (get_or fs i d) t)
    → first_left (drop i fs) t ≡ Some u
form_here t u fs i d h e = at_drop_more (λ l. first_left l t) fs i d h ∙ ap (λ o. or_other o (first_left (drop (i + 1) fs) t)) (sym e)

pub form_later : (t : Text) (fs : List Form) (i : ℕ) (d : Form) → i < length fs → None ≡ filled (left (get_or fs i d) t)
    → first_left (drop (i + 1) fs) t ≡ first_left (drop i fs) t
form_later t fs i d h e =
    sym (at_drop_more (λ l. first_left l t) fs i d h ∙ ap (λ o. or_other o (first_left (drop (i + 1) fs) t)) (sym e))

pub ruleset form_steps = (form_here, form_later)
