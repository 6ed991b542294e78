-- Bindings of names in a request without a row, and in a row over it.
use Rattle.std.proofs.Common.{◌≡◌, ℕ, ◌+◌, ◌<◌, ◌≤◌, true, [], ◌∷◌, All, length, take, drop, Option, Some, None, is_some, refl, sym, ap, ◌∙◌, subst, arith}
use Rattle.std.proofs.lemmas.Grind.{common_steps}
use Rattle.std.proofs.Common.{inr, length-append, if◌then◌else◌}
use Rattle.std.proofs.lemmas.List.Elements.{All-weaker, All-take, All-drop}
use Rattle.text_model.specs.Texts.{Text}
use Rattle.environment_model.specs.Environment.{Environment, Meaning, Single, Several, look_up, is_there, text_in, text_of, members_in}
use Rattle.target_vars.specs.EnvValue.{EnvValue, IsWithin, piece_at}
use Rattle.kbart_rows.specs.Cells.{Row, cell_of, defined}
use Rattle.row_scope.specs.Bindings.{IsBound, laid_in, laid_over}
use Rattle.row_scope.specs.declared.binding.Binding.{Binding}
use Rattle.row_scope.specs.declared.binding.Binding.TheVariants as binding
use Rattle.row_scope.proofs.Pieces.{piece_length, line_piece, front_pieces}

pub defined_text : (t : Text) → 0 < length t → defined t ≡ Some t
defined_text [] some = absurd (omega (arith, some))
defined_text (b ∷ t) some = refl

pub undefined_text : (t : Text) → length t ≡ 0 → defined t ≡ None
undefined_text [] none = refl
undefined_text (b ∷ t) none = absurd (omega (arith, none))

no_members : (o : Option Meaning) (t : Text) → text_in o ≡ Some t → members_in o ≡ []
no_members None t is = refl
no_members (Some (Single u)) t is = refl
no_members (Some (Several us)) t is = absurd (cc)

-- what a row over a request has under a name: the row's cell, or else what the request has
module _ (values : EnvValue) (line : Text) (row requested full : Environment) (header cells : Row) (name : Text)
    (shadow : look_up full name ≡ (if is_there row name then look_up row name else look_up requested name))
    (by_name : text_of row name ≡ cell_of header cells name) (there : is_there row name ≡ is_some (cell_of header cells name)) where
  -- the cell is this piece of the line
  pub bound_by_row : (start len : ℕ) → start + len ≤ length line → cell_of header cells name ≡ defined (piece_at line (start, len)) → 0 < len
      → IsBound (laid_over values line full) name (binding.Text (length values.buffer + start) len)
  bound_by_row start len within cell some =
      let t = piece_at line (start, len) in
      let found : cell_of header cells name ≡ Some t = cell ∙ defined_text t (subst (λ n. 0 < n) (sym (piece_length line (start, len) within)) some) in
      let here : is_there row name ≡ true = there ∙ ap is_some found in
      let same : look_up full name ≡ look_up row name = shadow ∙ ap (λ b. if b then look_up row name else look_up requested name) here in
      let is : text_of row name ≡ Some t = by_name ∙ found in
      let long = length-append values.buffer line in (
        record {
          within = record { inside = omega (arith, long, within); one_side = inr (omega arith) };
          is = ap text_in same ∙ is ∙ ap Some (sym (line_piece values.buffer line start len));
        },
        ap members_in same ∙ no_members (look_up row name) t is,
      )

  pub not_hidden : cell_of header cells name ≡ None → look_up full name ≡ look_up requested name
  not_hidden nothing = shadow ∙ ap (λ b. if b then look_up row name else look_up requested name) (there ∙ ap is_some nothing)

  pub bound_by_request : All (IsWithin values) values.spans → (b : Binding) → cell_of header cells name ≡ None → IsBound (laid_in values requested) name b
      → IsBound (laid_over values line full) name b
  bound_by_request inside binding.Nothing nothing h =
      let same = not_hidden nothing in
      (ap text_in same ∙ h.0, ap members_in same ∙ h.1)
  bound_by_request inside (binding.Text start len) nothing h = grind (arith, common_steps)
  bound_by_request inside (binding.List first count) nothing h =
      let same = not_hidden nothing in
      let within : All (λ at. at.0 + at.1 ≤ length values.buffer) values.spans = All-weaker (IsWithin values) _ (λ at w. w.inside) values.spans inside in
      let own = All-take (λ (at : ℕ × ℕ). at.0 + at.1 ≤ length values.buffer) count (drop first values.spans)
      (All-drop (λ (at : ℕ × ℕ). at.0 + at.1 ≤ length values.buffer) first values.spans within) in (
        ap text_in same ∙ h.0,
        record {
          within = h.1.within;
          are = ap members_in same ∙ h.1.are
              ∙ sym (front_pieces values.buffer line (take count (drop first values.spans)) own);
        },
      )
