-- Whatever a request has, a link of which nothing is found has the host that the row gives alone.
use Rattle.std.proofs.Common.{◌≡◌, ℕ, ◌<◌, ◌==◌, Bool, true, false, not, ◌&&◌, ◌||◌, cond, List, [], ◌∷◌, ◌++◌, Option, Some, filter, length}
use Rattle.std.proofs.Common.{refl, sym, ap, ◌∙◌, subst, subst₂, append_assoc, append-nil, eqb-true, arith, inl, inr}
use Rattle.std.specs.List.{AllByRecursion, cons_option, filter_map}
use Rattle.std.proofs.lemmas.Bool.{and_parts, both_ways, or_cases}
use Rattle.std.proofs.lemmas.Grind.{common_steps}
use Rattle.text_model.specs.Texts.{Text}
use Rattle.environment_model.specs.Environment.{LookUp, Meaning}
use Rattle.uri_grammar.specs.declared.parts.Op.{Op}
use Rattle.uri_grammar.specs.declared.parts.Op.TheVariants as operator
use Rattle.uri_grammar.specs.declared.parts.Spec.{Spec}
use Rattle.uri_grammar.specs.declared.parts.Part.{Part}
use Rattle.uri_grammar.specs.declared.parts.Part.TheVariants.{Literal, Expression}
use Rattle.uri_grammar.specs.Promises.{IsSoundPart}
use Rattle.uri_template.specs.Expansion.{Style, expansion, led, part_text, piece, pieces, style_of}
use Rattle.kbart_rows.specs.Cells.{Holdings, Row}
use Rattle.rule_parser.specs.Rules.{RuleSet}
use Rattle.rule_lint.specs.declared.host_state.HostState.{HostState}
use Rattle.rule_lint.specs.declared.host_state.HostState.TheVariants.{Outside, Inside, Past, Lost}
use Rattle.rule_lint.specs.HostStates.{after_byte, after_text, after_texts, is_hostless, is_inside, is_past, state_of}
use Rattle.rule_lint.specs.Host.{after_own, after_part, after_parts, after_whole_cells, are_rows_own, cells_of_name, ends_next, host_names}
use Rattle.rule_lint.specs.Host.{is_ended, is_specs_own, leads_past_host, letter, may_be_hostless, names_of, open_among, open_names_after}
use Rattle.lint_laws.proofs.CellStates.{written_state}
use Rattle.lint_laws.proofs.HostEnds.{host_plain}
use Rattle.lint_laws.proofs.HostPairs.{HaveOneHost, both_ended, both_past, covered_inside, covered_past, dot_style, end_more, expression_ends}
use Rattle.lint_laws.proofs.HostPairs.{first_is_end, no_first, none_of_both, parts_end}
use Rattle.lint_laws.proofs.HostStates.{IsCovered, after_append, covered_text, past_stays, plain_state}
use Rattle.lint_laws.proofs.PieceLemmas.{AreTexts, IsPlainStyle, LedText, expression_plain, has_text, led_text}
use Rattle.lint_laws.proofs.RowLooks.{RowLooks}

module _ (rules : RuleSet) (table : Holdings) (row : ℕ) (cells : Row) (look alone : LookUp) (looks : RowLooks rules table cells look alone)
    (in_rows : (f : Row → Option Text) (s : HostState) (cell : Text) → f cells ≡ Some cell
    → IsCovered (after_text s cell) (after_texts s (filter_map f table.rows))) where
  -- ---- an expression that the row decides

  own_texts : (specs : List Spec) → are_rows_own rules table specs ≡ true → AreTexts alone specs
  own_texts [] e = tt
  own_texts (spec ∷ specs) e =
      let own = and_parts (is_specs_own rules table spec) (are_rows_own rules table specs) e in
      let cell = looks.own spec.name own.0 in
      ((cell.text, cell.means), own_texts specs own.1)

  -- it is the same for every request
  same_pieces : (style : Style) (specs : List Spec) → are_rows_own rules table specs ≡ true → pieces look style specs ≡ pieces alone style specs
  same_pieces style [] e = refl
  same_pieces style (spec ∷ specs) e =
      let own = and_parts (is_specs_own rules table spec) (are_rows_own rules table specs) e in
      ap (λ (m : Option Meaning). cons_option (piece style spec m) (pieces look style specs)) (looks.same spec.name own.0)
      ∙ ap (cons_option (piece style spec (alone spec.name))) (same_pieces style specs own.1)

  own_text : (style : Style) (specs : List Spec) → 0 < length specs → are_rows_own rules table specs ≡ true
      → LedText style (led style (pieces alone style specs))
  own_text style [] some e = absurd (omega arith)
  own_text style (spec ∷ specs) some e = grind (arith, led_text)

  module _ (specs : List Spec) (some : 0 < length specs) (own : are_rows_own rules table specs ≡ true) where
    -- values without reserved characters
    plain_expression : (s : HostState) (op : Op) → IsPlainStyle (style_of op)
        → after_text s (part_text alone (Expression op specs)) ≡ after_byte s letter
    plain_expression s op plain =
        let text = own_text (style_of op) specs some own in
        plain_state s (part_text alone (Expression op specs)) (has_text (style_of op) (part_text alone (Expression op specs)) text)
        (expression_plain (style_of op) plain alone specs (own_texts specs own))

    -- a character that ends the host
    past_expression : (op : Op) → leads_past_host op ≡ true → after_text Inside (part_text alone (Expression op specs)) ≡ Past
    past_expression op ends =
        let text = own_text (style_of op) specs some own in
        let first = first_is_end op ends in
        ap (after_text Inside) (text.is ∙ ap (λ (x : Text). x ++ text.more) first.1)
        ∙ (ap (λ (x : Bool). after_text (cond x Past (cond (first.0 == 0x40) Lost Inside)) text.more) first.2 ∙ past_stays text.more)

  -- the whole cell
  cell_expression : (s : HostState) (spec : Spec) → are_rows_own rules table (spec ∷ []) ≡ true → spec.cut ≡ 0
      → IsCovered (after_text s (part_text alone (Expression operator.Plus (spec ∷ [])))) (after_texts s (cells_of_name table spec.name))
  cell_expression s spec e uncut = grind (arith, and_parts, append-nil, written_state)

  whole_cells : (s : HostState) (specs : List Spec) → are_rows_own rules table specs ≡ true
      → IsCovered (after_text s (part_text alone (Expression operator.Plus specs))) (after_whole_cells table s specs)
  whole_cells s specs own = grind (arith, cell_expression, eqb-true)

  -- its state is covered by what is known of it
  own_state : (s : HostState) (op : Op) (specs : List Spec) → 0 < length specs → are_rows_own rules table specs ≡ true
      → IsCovered (after_text s (part_text alone (Expression op specs))) (after_own table s op specs)
  own_state s op specs some own = grind (arith, past_stays, plain_expression, dot_style, whole_cells, past_expression)

  own_covered : (c a : HostState) (op : Op) (specs : List Spec) → IsCovered c a → 0 < length specs → are_rows_own rules table specs ≡ true
      → IsCovered (after_text c (part_text alone (Expression op specs))) (after_own table a op specs)
  own_covered c a op specs h some own = grind (arith, own_state)

  -- ---- an expression that it does not decide

  -- it has an open name
  open_is_some : (specs : List Spec) → are_rows_own rules table specs ≡ false → open_among rules table specs ≡ [] → ⊥
  open_is_some [] e f = both_ways true e refl
  open_is_some (spec ∷ specs) e f = by_spec (is_specs_own rules table spec) e f (open_is_some specs)
    where
      others : List Spec
      others = filter (λ (other : Spec). not (is_specs_own rules table other)) specs

      by_spec : (own : Bool) → (own && are_rows_own rules table specs) ≡ false → names_of (cond (not own) (spec ∷ others) others) ≡ []
          → (are_rows_own rules table specs ≡ false → names_of others ≡ [] → ⊥) → ⊥
      by_spec own e f later = grind (arith, common_steps)

  -- ---- all parts

  -- where the host is found or there is none
  end_of_parts : (c a : HostState) (t : Text) → state_of t ≡ c → IsCovered c a → is_hostless a ≡ false → HaveOneHost (t ++ []) (t ++ [])
  end_of_parts c a t is h found = grind (arith, append-nil, host_plain)

  -- the parts after a text that is the same for every request
  walk : (a : HostState) (t : Text) (parts : List Part) → AllByRecursion IsSoundPart parts → IsCovered (state_of t) a
      → open_names_after rules table a parts ≡ [] → is_hostless (after_parts rules table a parts) ≡ false
      → HaveOneHost (t ++ expansion look parts) (t ++ expansion alone parts)
  walk a t [] sound h none found = end_of_parts (state_of t) a t refl h found
  walk a t (Literal text ∷ parts) sound h none found =
      subst₂ HaveOneHost (append_assoc t text (expansion look parts)) (append_assoc t text (expansion alone parts))
      (walk (after_text a text) (t ++ text) parts sound.1
      (subst (λ (s : HostState). IsCovered s (after_text a text)) (sym (after_append Outside t text)) (covered_text (state_of t) a text h)) none found)
  walk a t (Expression op specs ∷ parts) sound h none found =
      by_own (are_rows_own rules table specs) refl
      (λ next more k n f. walk next (t ++ more) parts sound.1 k n f)
    where
      part : Part
      part = Expression op specs

      Later : Type 0
      Later = (next : HostState) (more : Text) → IsCovered (state_of (t ++ more)) next → open_names_after rules table next parts ≡ []
          → is_hostless (after_parts rules table next parts) ≡ false → HaveOneHost ((t ++ more) ++ expansion look parts) ((t ++ more) ++ expansion alone parts)

      -- the state that is found
      state_is : (next : HostState) → after_part rules table a part parts ≡ next
          → (open_names_after rules table next parts ≡ []) × (is_hostless (after_parts rules table next parts) ≡ false)
      state_is next e = grind (arith, none_of_both)

      ended_here : (is_past a || is_ended a op parts) ≡ true → HaveOneHost (t ++ (part_text look part ++ expansion look parts))
          (t ++ (part_text alone part ++ expansion alone parts))
      ended_here e = elim (or_cases (is_past a) (is_ended a op parts) e) [
        | inl past ↦ both_past t _ _ (covered_past (state_of t) a past h)
        | inr ended ↦
            let inside = and_parts (is_inside a) (leads_past_host op && ends_next parts) ended in
            let next = and_parts (leads_past_host op) (ends_next parts) inside.1 in
            both_ended t _ _ (covered_inside (state_of t) a inside.0 h)
            (end_more (part_text look part) (expansion look parts) (expression_ends op (pieces look (style_of op) specs) next.0)
            (parts_end look parts next.1))
            (end_more (part_text alone part) (expansion alone parts) (expression_ends op (pieces alone (style_of op) specs) next.0)
            (parts_end alone parts next.1))
      ]

      by_own : (own : Bool) → are_rows_own rules table specs ≡ own → Later
          → HaveOneHost (t ++ (part_text look part ++ expansion look parts)) (t ++ (part_text alone part ++ expansion alone parts))
      by_own true own later =
          let next = after_own table a op specs in
          let more = part_text alone part in
          let same : part_text look part ≡ more = ap (led (style_of op)) (same_pieces (style_of op) specs own) in
          let rest = state_is next (ap (λ (b : Bool). cond b next (cond (is_ended a op parts) Past a)) own) in
          subst (λ (x : Text). HaveOneHost (t ++ (x ++ expansion look parts)) (t ++ (more ++ expansion alone parts))) (sym same)
          (subst₂ HaveOneHost (append_assoc t more (expansion look parts)) (append_assoc t more (expansion alone parts))
          (later next more
          (subst (λ (s : HostState). IsCovered s next) (sym (after_append Outside t more)) (own_covered (state_of t) a op specs h sound.0.0 own))
          rest.0 rest.1))
      by_own false own later = grind (arith, none_of_both, ended_here, open_is_some)

  -- ---- a template

  pub template_hosts : (parts : List Part) → AllByRecursion IsSoundPart parts → host_names rules table parts ≡ []
      → may_be_hostless rules table parts ≡ false → HaveOneHost (expansion look parts) (expansion alone parts)
  template_hosts parts sound none found =
      walk Outside [] parts sound (inr (inl refl)) (no_first (open_names_after rules table Outside parts) none) found
