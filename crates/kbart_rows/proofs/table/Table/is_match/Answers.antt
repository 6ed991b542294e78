use Rattle.std.proofs.Common.{◌≡◌, ◌∙◌, ◌+◌, ◌∷◌, ◌||◌, Bool, List, [], Option, ℕ, ap, arith, drop, get_or, refl, sym}
use Rattle.std.proofs.lemmas.List.{get_or-drop}
use Rattle.std.specs.List.{cons_option, list_any}
use Rattle.std.specs.Str.{bytes_eq}
use Rattle.std.proofs.lemmas.Grind.{common_steps}
use Rattle.text_model.specs.Texts.{Text}
use Rattle.kbart_rows.specs.Cells.{Holdings, Row}
use Rattle.kbart_rows.specs.Identifiers.{identifier_columns, identifier_in, is_match}
use Rattle.kbart_rows.specs.Lines.{cells_in}
use Rattle.kbart_rows.specs.Private.Kept.{holdings_of, is_id}
use Rattle.kbart_rows.specs.declared.keys.Keys.{Keys}
use Rattle.kbart_rows.specs.Private.Runs.{matches}
use Rattle.kbart_rows.proofs.table.Table.is_match.Goals as goal

-- one identifier or the other is among the ids
either : (a b : Option Text) (ids : List Text) → list_any (λ id. list_any (bytes_eq id) (cons_option a (cons_option b []))) ids
    ≡ (list_any (λ id. is_id id a) ids || list_any (λ id. is_id id b) ids)
either a b [] = refl
either a b (id ∷ ids) = grind (arith, common_steps, either a b ids)

-- both columns decide
both : (lines : List Row) (table : Holdings) (keys : Keys) (print online : Option ℕ) (ids : List Text) (row : ℕ) (line : Text) → holdings_of lines keys ≡ table
    → print ∷ online ∷ [] ≡ identifier_columns (get_or lines 0 []) → cells_in line ≡ get_or lines (row + 1) []
    → matches table ids row ≡ (list_any (λ id. is_id id (identifier_in (cells_in line) print)) ids || list_any (λ id. is_id id (identifier_in
    (cells_in line) online)) ids)
both lines table keys print online ids row line view identified cells =
    let next : row + 1 ≡ 1 + row = omega arith in
    let at : cells_in line ≡ get_or (drop 1 lines) row [] = cells ∙ ap (λ place. get_or lines place []) next ∙ sym (get_or-drop 1 lines row []) in
    ap (λ table. matches table ids row) (sym view)
    ∙ ap (λ columns. is_match columns ids (get_or (drop 1 lines) row [])) (sym identified)
    ∙ ap (λ cells. is_match (print ∷ online ∷ []) ids cells) (sym at)
    ∙ either (identifier_in (cells_in line) print) (identifier_in (cells_in line) online) ids

pub returns-then-has_one : goal.returns-then-has_one
returns-then-has_one c =
    let second = list_any (λ (id : Text). is_id id (identifier_in (cells_in c.line-line.result.now) c.self.inside.online)) c.args.ids.now in
    let both = both c.self.inside.lines c.args.self.now _ c.self.inside.print c.self.inside.online c.args.ids.now c.args.row c.line-line.result.now
    c.self.view_is
    c.self.invariant.identified c.line-line.ensures.cells in
    c.if-has_one.true ∙ sym (both ∙ ap (λ (first : Bool). first || second) (sym c.has_one.ensures ∙ c.if-has_one.true))

pub returns-else-has_one : goal.returns-else-has_one
returns-else-has_one c =
    let second = list_any (λ (id : Text). is_id id (identifier_in (cells_in c.line-line.result.now) c.self.inside.online)) c.args.ids.now in
    let both = both c.self.inside.lines c.args.self.now _ c.self.inside.print c.self.inside.online c.args.ids.now c.args.row c.line-line.result.now
    c.self.view_is
    c.self.invariant.identified c.line-line.ensures.cells in
    c.has_one-else-has_one.ensures ∙ sym (both ∙ ap (λ (first : Bool). first || second) (sym c.has_one.ensures ∙ c.if-has_one.false))
