-- Lines that were read.
use Rattle.std.proofs.Common.{◌≡◌, ℕ, ◌+◌, ◌<◌, ◌≤◌, zero, suc, List, [], ◌∷◌, ◌++◌, true, false, Option, Some, IfSome, Result, Ok, Err, IfOk, IfErr, Bor}
use Rattle.std.proofs.lemmas.Grind.{common_steps}
use Rattle.std.proofs.Common.{◌⊎◌, inl, inr, map, length, get_or, take, refl, ap, subst, sym, ◌∙◌, arith}
use Rattle.std.proofs.lemmas.List.{append-nil, map-append, length-map, take_more, take_all}
use Rattle.std.proofs.lemmas.List.Elements.{All-nil}
use Rattle.text_model.specs.Texts.{Text}
use Rattle.rule_parser.specs.declared.error.RuleError.{RuleError}
use Rattle.rule_parser.specs.declared.error.RuleErrorKind.TheVariants as kind
use Rattle.rule_parser.specs.declared.error.RuleErrorKind.{RuleErrorKind}
use Rattle.rule_parser.specs.declared.error.TheConstants.{NO_MEMORY}
use Rattle.rule_parser.specs.declared.reader.Reader.{Reader}
use Rattle.rule_parser.specs.declared.rule.Guard.{Guard}
use Rattle.uri_grammar.specs.Names.{IsName}
use Rattle.rule_parser.specs.Rules.{RuleSet, IsSound, IsSoundRule}
use Rattle.rule_parser.specs.Statements.{line_of, statements}
use Rattle.std.specs.Prelude.{IsUtf8}
use Rattle.std.specs.Str.Lines.{lines}
use Rattle.rule_parser.specs.declared.rules.TheConstants.{MAX_BYTES}
use Rattle.rule_parser.specs.Grammar.{is_significant, significant, IsRuleText}
use Rattle.rule_parser.specs.Faults.{AreSoundSoFar, statements_so_far, statements_of_guards, IsFirstRuleError, EndsRule, IsRefused}
use Rattle.rule_parser.specs.Private.Progress.{so_far_of, no_rules, Continues, IsNumbered, KeepsLine, IsStepFault}
use Rattle.rule_parser.proofs.LineNumbers.{line_number, split_at, significant_around, number_is, line_fault, open_rule, first_fault}
use Rattle.rule_parser.proofs.ReaderLemmas.{guards_from}

-- ---- lines that were read

-- the first i lines, read by a reader
pub record AreRead (ls : List Text) (i : ℕ) (reader : Reader) : Type 0 where
  pub spelled : significant (take i ls) ≡ map line_of (statements_so_far (so_far_of reader))
  pub sound : AreSoundSoFar (so_far_of reader)
  pub numbered : IsNumbered (line_number ls) reader

pub no_rules_are_sound : AreSoundSoFar no_rules
no_rules_are_sound = record { whole = record { names = All-nil IsName; rules = All-nil (IsSoundRule []) }; guards = tt }

pub line_read : (ls : List Text) (i : ℕ) (reader new : Reader) (line : Text) → AreRead ls i reader → i < length ls → get_or ls i line ≡ line
    → is_significant line ≡ true → Continues (so_far_of reader) (so_far_of new) line → KeepsLine reader new (i + 1) → AreRead ls (i + 1) new
line_read ls i reader new line r h e x proceeds keeps = record {
  spelled =
      ap significant (take_more ls i line h ∙ ap (λ y. take i ls ++ y ∷ []) e) ∙ significant_around _ (take i ls) [] line refl x
      ∙ ap (λ l. l ++ line ∷ []) r.spelled ∙ ap (λ y. map line_of (statements_so_far (so_far_of reader)) ++ y ∷ []) proceeds.spelled
      ∙ sym (map-append line_of (statements_so_far (so_far_of reader)) (proceeds.statement ∷ [])) ∙ sym (ap (map line_of) proceeds.longer);
  sound = proceeds.sound;
  numbered = keeps (line_number ls) (number_is ls i (statements_so_far (so_far_of reader)) line h e x r.spelled) r.numbered;
}

pub line_skipped : (ls : List Text) (i : ℕ) (reader : Reader) (line : Text) → AreRead ls i reader → i < length ls → get_or ls i line ≡ line
    → is_significant line ≡ false → AreRead ls (i + 1) reader
line_skipped ls i reader line r h e x = grind (arith, common_steps)

-- ---- errors

-- the rule whose link has not been read has none
no_link_found : (ls : List Text) (whole : RuleSet) (guards : List Guard) (rule_line : Option ℕ) (at : ℕ) (k : RuleErrorKind) (rest : List Text)
    → rule_line ≡ Some at → k ≡ kind.NoLink → AreSoundSoFar (record { whole = whole; guards = guards_from rule_line guards })
    → significant ls ≡ map line_of (statements whole ++ statements_of_guards (guards_from rule_line guards)) ++ rest → EndsRule rest
    → IfSome rule_line (λ line. line ≡ line_number ls (length (statements whole))) → IsFirstRuleError ls k at
no_link_found ls whole guards rule_line at k rest a b s e r n = grind (arith, first_fault, open_rule)

pub line_refused : (ls : List Text) (i : ℕ) (reader : Reader) (line : Text) (e : RuleError) → AreRead ls i reader → i < length ls → get_or ls i line ≡ line
    → is_significant line ≡ true → IsStepFault reader (i + 1) line e → (e ≡ NO_MEMORY) ⊎ IsFirstRuleError ls e.kind e.line
line_refused ls i reader line e r h g x (inl m) = inl m
line_refused ls i reader line e r h g x (inr (inl f)) =
    let split = split_at ls i line h g in
    let spelled = significant_around ls (take i ls) split.0 line split.1 x ∙ ap (λ l. l ++ line ∷ significant split.0) r.spelled in
    inr
    (subst (IsFirstRuleError ls e.kind) (number_is ls i (statements_so_far (so_far_of reader)) line h g x r.spelled ∙ sym f.1)
    (first_fault ls _ _ (line_fault ls (so_far_of reader) line (significant split.0) e.kind r.sound spelled f.0)))
line_refused ls i reader line e r h g x (inr (inr f)) =
    let split = split_at ls i line h g in
    let spelled = significant_around ls (take i ls) split.0 line split.1 x ∙ ap (λ l. l ++ line ∷ significant split.0) r.spelled in
    inr (no_link_found ls (so_far_of reader).whole reader.guards.items reader.rule_line e.line e.kind (line ∷ significant split.0) f.2 f.0 r.sound spelled f.1
    r.numbered)

pub end_refused : (ls : List Text) (i : ℕ) (reader : Reader) (e : RuleError) → AreRead ls i reader → length ls ≤ i → e.kind ≡ kind.NoLink
    → reader.rule_line ≡ Some e.line → IsFirstRuleError ls e.kind e.line
end_refused ls i reader e r h k a =
    no_link_found ls (so_far_of reader).whole reader.guards.items reader.rule_line e.line e.kind [] a k r.sound
    (ap significant (sym (take_all i ls h)) ∙ r.spelled ∙ sym (append-nil (map line_of (statements_so_far (so_far_of reader))))) tt r.numbered

-- ---- results

-- an element of borrowed lines
pub line_at : (ls : List (Bor Text)) (i : ℕ) (d : Bor Text) → i < length ls
    → (i < length (map (λ (x : Bor Text). x.now) ls)) × (get_or (map (λ (x : Bor Text). x.now) ls) i (get_or ls i d).now ≡ (get_or ls i d).now)
line_at [] i d h = absurd (omega arith)
line_at (x ∷ xs) zero d h = (omega arith, refl)
line_at (x ∷ xs) (suc i) d h = let r = line_at xs i d (omega arith) in (omega (arith, r.0), r.1)

pub all_lines : (ls : List (Bor Text)) (i : ℕ) → length ls ≤ i → length (map (λ (x : Bor Text). x.now) ls) ≤ i
all_lines ls i h = omega (arith, length-map ls (λ (x : Bor Text). x.now))

pub end_result : (ls : List Text) (i : ℕ) (reader : Reader) (r : Result RuleSet RuleError) → AreRead ls i reader → length ls ≤ i
    → IfErr r (λ (e : RuleError). (e.kind ≡ kind.NoLink) × (reader.rule_line ≡ Some e.line))
    → IfErr r (λ (e : RuleError). (e ≡ NO_MEMORY) ⊎ IsFirstRuleError ls e.kind e.line)
end_result ls i reader (Ok rules) a h f = tt
end_result ls i reader (Err e) a h f = inr (end_refused ls i reader e a h f.0 f.1)

pub text_result : (bytes : Text) (ls : List Text) (r : Result RuleSet RuleError) → length bytes ≤ MAX_BYTES → IsUtf8 bytes → ls ≡ lines bytes
    → IfOk r IsSound → IfOk r (λ rules. significant ls ≡ map line_of (statements rules)) → IfOk r (IsRuleText bytes)
text_result bytes ls (Ok rules) short utf8 e s h = record { short = short; utf8 = utf8; spelled = ap significant (sym e) ∙ h; sound = s }
text_result bytes ls (Err f) short utf8 e s h = tt

pub refused_result : (bytes : Text) (ls : List Text) (r : Result RuleSet RuleError) → length bytes ≤ MAX_BYTES → IsUtf8 bytes → ls ≡ lines bytes
    → IfErr r (λ (e : RuleError). (e ≡ NO_MEMORY) ⊎ IsFirstRuleError ls e.kind e.line)
    → IfErr r (λ (e : RuleError). (e ≡ NO_MEMORY) ⊎ IsRefused bytes e.kind e.line)
refused_result bytes ls (Ok rules) short utf8 e h = tt
refused_result bytes ls (Err f) short utf8 e (inl m) = inl m
refused_result bytes ls (Err f) short utf8 e (inr h) = inr (inr (inr (short, utf8, subst (λ l. IsFirstRuleError l f.kind f.line) e h)))
