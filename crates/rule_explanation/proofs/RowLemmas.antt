-- A row's text from its pieces, and its environment with the names that the rules return as lists.
use Rattle.std.proofs.Common.{◌≡◌, ◌++◌, ◌∷◌, [], ℕ, ◌+◌, ◌<◌, List, Bool, true, false, ◌||◌, length, take, get_or, refl, ap, ◌∙◌, codes, append_assoc}
use Rattle.std.specs.Borrow.{Bor}
use Rattle.std.proofs.lemmas.List.{map-append, take_more}
use Rattle.std.proofs.lemmas.List.Folds.{list_any-append}
use Rattle.std.specs.Fmt.{decimal}
use Rattle.std.specs.Str.{bytes_eq}
use Rattle.text_model.specs.Texts.{Text, texts_of}
use Rattle.row_laws.proofs.OneMoreList.{same_filled}
use Rattle.environment_model.specs.Environment.{Environment, is_among}
use Rattle.environment_model.specs.Lists.{is_list, list_names}
use Rattle.kev_read.specs.Pairs.{KeyValue}
use Rattle.kev_read.specs.Filling.{filled}
use Rattle.kbart_rows.specs.Cells.{Holdings}
use Rattle.rule_parser.specs.Names.{each_once}
use Rattle.rule_parser.specs.Rules.{RuleSet}
use Rattle.rule_parser.proofs.NameLemmas.{among_each_once}
use Rattle.rule_explanation.specs.Explanation.{is_detailed, row_text, tried_row_text}
use Rattle.rule_explanation.specs.Rows.{environment_of_row, gives_web_link}
use Rattle.rule_explanation.specs.Private.Seen.{RulesRequestValue}

pub row_lines : (row : ℕ) (start out lines : Text) → start ≡ codes "row " ++ (decimal row ++ codes "\n") → out ≡ start ++ lines
    → out ≡ codes "row " ++ (decimal row ++ (codes "\n" ++ lines))
row_lines row start out lines begin rest =
    rest ∙ ap (λ (t : Text). t ++ lines) begin ∙ append_assoc (codes "row ") (decimal row ++ codes "\n") lines
    ∙ ap (λ (t : Text). codes "row " ++ t) (append_assoc (decimal row) (codes "\n") lines)

absorbed : (a b c : Bool) → (a || (b || (a || (b || c)))) ≡ (a || (b || c))
absorbed true b c = refl
absorbed false true c = refl
absorbed false false c = refl

same_list : (lists : List Text) (key : Text) → is_list (each_once (list_names lists)) key ≡ is_list lists key
same_list lists key =
    ap (λ b. bytes_eq (codes "rft.au") key || (bytes_eq (codes "rft_id") key || b)) (among_each_once key (list_names lists))
    ∙ absorbed (bytes_eq (codes "rft.au") key) (bytes_eq (codes "rft_id") key) (is_among key lists)

pub same_environment : (names lists : List Text) (env : Environment) (pairs : List KeyValue) → names ≡ each_once (list_names lists)
    → filled names env pairs ≡ filled lists env pairs
same_environment names lists env pairs is =
    ap (λ ns. filled ns env pairs) is ∙ same_filled (each_once (list_names lists)) lists env pairs (same_list lists)

or_nothing : (b : Bool) → (b || false) ≡ b
or_nothing true = refl
or_nothing false = refl

pub one_more_name : (names : List (Bor Text)) (i : ℕ) (d : Bor Text) (other : Text) → i < length names
    → is_among other (texts_of (take (i + 1) names)) ≡ (is_among other (texts_of (take i names)) || bytes_eq (get_or names i d).now other)
one_more_name names i d other within =
    ap (λ (ns : List (Bor Text)). is_among other (texts_of ns)) (take_more names i d within)
    ∙ ap (is_among other) (map-append (λ reference. reference.now) (take i names) (get_or names i d ∷ []))
    ∙ list_any-append (λ n. bytes_eq n other) (texts_of (take i names)) ((get_or names i d).now ∷ [])
    ∙ ap (λ (b : Bool). is_among other (texts_of (take i names)) || b) (or_nothing (bytes_eq (get_or names i d).now other))

pub same_names : (name : Text) (names lists : List Text) → names ≡ each_once (list_names lists) → is_among name names ≡ is_list lists name
same_names name names lists is = ap (is_among name) is ∙ among_each_once name (list_names lists)

-- ---- a row of a request at a target

pub text_of_row : (r : RulesRequestValue) (rules : RuleSet) (table : Holdings) (pairs : List KeyValue) (place row : ℕ) (text : Text)
    → r ≡ record { rules = rules; table = table; pairs = pairs }
    → text ≡ row_text r.rules (environment_of_row r.rules r.table r.pairs row) (is_detailed place) row
    → text ≡ tried_row_text rules table pairs (place, row)
text_of_row r rules table pairs place row text same is =
    is ∙ ap (λ (v : RulesRequestValue). row_text v.rules (environment_of_row v.rules v.table v.pairs row) (is_detailed place) row) same

pub web_of_row : (r : RulesRequestValue) (rules : RuleSet) (table : Holdings) (pairs : List KeyValue) (row : ℕ) (found : Bool)
    → r ≡ record { rules = rules; table = table; pairs = pairs } → found ≡ gives_web_link r.rules r.table r.pairs row
    → found ≡ gives_web_link rules table pairs row
web_of_row r rules table pairs row found same is = is ∙ ap (λ (v : RulesRequestValue). gives_web_link v.rules v.table v.pairs row) same
