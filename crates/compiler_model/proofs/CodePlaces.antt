-- The code of rules contains their lines one after another, and ends with what the rules mean.
use Rattle.std.proofs.Common.{◌≡◌, ℕ, suc, ◌+◌, List, [], ◌∷◌, ◌++◌, length, map, Option, Some, None, Bool, true, false, refl, sym, ap, ◌∙◌, subst, arith}
use Rattle.std.specs.Prelude.{slice_get, if◌then◌else◌}
use Rattle.std.specs.List.{AllByRecursion, list_any, filter_map, position_or_len, flat_map}
use Rattle.std.specs.Bool.{Decides}
use Rattle.std.proofs.lemmas.List.{append_assoc}
use Rattle.std.proofs.lemmas.List.Elements.{filter_map-append}
use Rattle.std.proofs.lemmas.Grind.{common_steps}
use Rattle.text_model.specs.Texts.{Text}
use Rattle.text_model.proofs.Lists.{all_append}
use Rattle.environment_model.specs.Environment.{Environment}
use Rattle.code_model.specs.Code.{Name, Literal, Code, spelling}
use Rattle.code_model.specs.declared.code.Instruction.{Instruction}
use Rattle.machine_model.specs.States.{Running, Ended, start}
use Rattle.machine_model.specs.Runs.{After, HasOutcome}
use Rattle.rule_parser.specs.declared.rule.Rule.{Rule}
use Rattle.rule_parser.specs.Rules.{RuleSet, IsSound}
use Rattle.rule_parser.specs.Meaning.{meaning}
use Rattle.compiler_model.specs.declared.lines.Action.TheVariants.{LoadText, LoadList, LoadConst, CountMembers, Emits, Separates, Puts, Cuts}
use Rattle.compiler_model.specs.declared.lines.Line.{Line}
use Rattle.compiler_model.specs.declared.lines.Line.TheVariants.{Acts, Tests, Jumps, Begins, Turns, Halts, Fails}
use Rattle.compiler_model.specs.Tables.{name_entry, literal_entry, is_same_name, is_same_literal, name_used, literal_used, firsts, names_of, literals_of}
use Rattle.compiler_model.specs.Compiled.{rule_lines, all_lines, instructions_from, rules_instructions, has_counts, code_of}
use Rattle.compiler_model.specs.Answer.{answer}
use Rattle.compiler_model.proofs.Places.{ArePlaced, finishes_after}
use Rattle.compiler_model.proofs.Entries.{same_names, same_literals, among_firsts, at_index, among_itself}
use Rattle.compiler_model.proofs.Formed.{TreesAreSound, AreFormed, rules_formed}
use Rattle.compiler_model.proofs.Placement.{IsFormedLine, HasEntries, lines_formed, placed}
use Rattle.compiler_model.proofs.RuleRuns.{AreRulesPlaced, end_of, rules_finish}

pub all_front : {X : Type 0} (P : X → Type 0) (a b : List X) → AllByRecursion P (a ++ b) → AllByRecursion P a
all_front P [] b h = tt
all_front P (x ∷ a) b h = (h.0, all_front P a b h.1)

pub all_back : {X : Type 0} (P : X → Type 0) (a b : List X) → AllByRecursion P (a ++ b) → AllByRecursion P b
all_back P [] b h = h
all_back P (x ∷ a) b h = all_back P a b h.1

-- ---- instructions of a code from a place on

abbrev pub AreStored : Code → ℕ → List Instruction → Type 0
AreStored c place [] = Unit {0}
AreStored c place (i ∷ is) = (slice_get c.instrs place ≡ Some (spelling i)) × AreStored c (place + 1) is

pub instructions_stored : (c : Code) (is : List Instruction) (place : ℕ) → ((n : ℕ) → slice_get c.instrs (place + n) ≡ slice_get (map spelling is) n)
    → AreStored c place is
instructions_stored c [] place h = tt
instructions_stored c (i ∷ is) place h =
    let here : place + 0 ≡ place = omega arith in (
      subst (λ n. slice_get c.instrs n ≡ Some (spelling i)) here (h 0),
      instructions_stored c is (place + 1) (λ n. let next : place + 1 + n ≡ place + suc n = omega arith in ap (slice_get c.instrs) next ∙ h (suc n)),
    )

pub stored_both : (c : Code) (place : ℕ) (a b : List Instruction) → AreStored c place (a ++ b) → AreStored c place a × AreStored c (place + length a) b
stored_both c place [] b h = (tt, let e : place + 0 ≡ place = omega arith in subst (λ p. AreStored c p b) (sym e) h)
stored_both c place (x ∷ a) b h =
    let both = stored_both c (place + 1) a b h.1 in
    let e : place + 1 + length a ≡ place + length (x ∷ a) = omega arith in
    ((h.0, both.0), subst (λ p. AreStored c p b) e both.1)

pub length-instructions_from : (names : List Name) (literals : List Literal) (away place : ℕ) (ls : List Line)
    → length (instructions_from names literals away place ls) ≡ length ls
length-instructions_from names literals away place [] = refl
length-instructions_from names literals away place (l ∷ ls) = ap suc (length-instructions_from names literals away (place + 1) ls)

module _ (c : Code) where
  -- what has to hold for a line wherever it is
  pub record IsFounded (line : Line) : Type 0 where
    pub formed : IsFormedLine c.version line
    pub entries : HasEntries c line

  lines_placed : (away place : ℕ) (ls : List Line) → AllByRecursion IsFounded ls → AreStored c place (instructions_from c.names c.literals away place ls)
      → ArePlaced c away place ls
  lines_placed away place [] f h = tt
  lines_placed away place (l ∷ ls) f h = (placed c away place l f.0.formed f.0.entries h.0, lines_placed away (place + 1) ls f.1 h.1)

  rules_placed : (lists : List Text) (rules : List Rule) (place : ℕ) → AllByRecursion IsFounded (flat_map (rule_lines lists) rules ++ Fails ∷ [])
      → AreStored c place (rules_instructions c.names c.literals lists place rules) → AreRulesPlaced c lists place rules
  rules_placed lists [] place f h = (placed c place place Fails f.0.formed f.0.entries h.0).reads
  rules_placed lists (rule ∷ rules) place f h =
      let ls = rule_lines lists rule in
      let away = place + length ls in
      let both = stored_both c place (instructions_from c.names c.literals away place ls) (rules_instructions c.names c.literals lists away rules) h in
      let f2 = subst (AllByRecursion IsFounded) (append_assoc ls (flat_map (rule_lines lists) rules) (Fails ∷ [])) f in (
        lines_placed away place ls (all_front IsFounded ls _ f2) both.0,
        rules_placed lists rules away (all_back IsFounded ls _ f2)
            (subst (λ n. AreStored c (place + n) (rules_instructions c.names c.literals lists away rules))
            (length-instructions_from c.names c.literals away place ls) both.1),
      )

-- ---- entries

table_has : {X : Type 0} (same : X → X → Bool) (decides : (x y : X) → Decides (same x y) (x ≡ y)) (used : Line → Option X) (pre : List Line) (line : Line)
    (post : List Line) (x : X) → used line ≡ Some x
    → slice_get (firsts same (filter_map used (pre ++ line ∷ post))) (position_or_len (same x) (firsts same (filter_map used (pre ++ line ∷ post)))) ≡ Some x
table_has {X = X} same decides used pre line post x e =
    let split : filter_map used (pre ++ line ∷ post) ≡ filter_map used pre ++ x ∷ filter_map used post = grind (arith, filter_map-append) in
    at_index same decides x _
    (among_firsts same decides x _
    (subst (λ xs. list_any (same x) xs ≡ true) (sym split) (among_itself same decides (filter_map used pre) x (filter_map used post))))

-- a code with the tables of some lines has the entries of each
line_has_entries : (c : Code) (pre : List Line) (line : Line) (post : List Line) → c.names ≡ names_of (pre ++ line ∷ post)
    → c.literals ≡ literals_of (pre ++ line ∷ post) → HasEntries c line
line_has_entries c pre line post n l = rw (n, l) (by_line line)
  where
    by_line : (line : Line)
        → HasEntries (record { version = c.version; names = names_of (pre ++ line ∷ post); literals = literals_of (pre ++ line ∷ post); instrs = c.instrs })
        line
    by_line (Acts (LoadText a name)) = table_has is_same_name same_names name_used pre _ post (name_entry false name) refl
    by_line (Acts (LoadList a name)) = table_has is_same_name same_names name_used pre _ post (name_entry true name) refl
    by_line (Acts (LoadConst a t)) = table_has is_same_literal same_literals literal_used pre _ post (literal_entry true t) refl
    by_line (Acts (Emits t)) = table_has is_same_literal same_literals literal_used pre _ post (literal_entry false t) refl
    by_line (Acts (Separates t)) = table_has is_same_literal same_literals literal_used pre _ post (literal_entry false t) refl
    by_line (Acts (CountMembers a b)) = tt
    by_line (Acts (Puts a w)) = tt
    by_line (Acts (Cuts a i w)) = tt
    by_line (Tests t g) = tt
    by_line (Jumps g) = tt
    by_line (Begins a b i) = tt
    by_line Turns = tt
    by_line Halts = tt
    by_line Fails = tt

all_have_entries : (c : Code) (pre post : List Line) → c.names ≡ names_of (pre ++ post) → c.literals ≡ literals_of (pre ++ post)
    → AllByRecursion (HasEntries c) post
all_have_entries c pre [] n l = tt
all_have_entries c pre (line ∷ post) n l =
    let moved : pre ++ line ∷ post ≡ (pre ++ line ∷ []) ++ post = sym (append_assoc pre (line ∷ []) post) in
    (line_has_entries c pre line post n l, all_have_entries c (pre ++ line ∷ []) post (n ∙ ap names_of moved) (l ∙ ap literals_of moved))

-- ---- the code of rules

lines_of_rules_formed : (version : ℕ) (lists : List Text) (rules : List Rule) → AreFormed version lists rules
    → AllByRecursion (IsFormedLine version) (flat_map (rule_lines lists) rules ++ Fails ∷ [])
lines_of_rules_formed version lists [] h = (tt, tt)
lines_of_rules_formed version lists (rule ∷ rules) h =
    let here : AllByRecursion (IsFormedLine version) (rule_lines lists rule) = grind (arith, all_append, lines_formed) in
    subst (AllByRecursion (IsFormedLine version)) (sym (append_assoc (rule_lines lists rule) (flat_map (rule_lines lists) rules) (Fails ∷ [])))
    (all_append _ (rule_lines lists rule) _ here (lines_of_rules_formed version lists rules h.1))

both_of : (c : Code) (ls : List Line) → AllByRecursion (IsFormedLine c.version) ls → AllByRecursion (HasEntries c) ls → AllByRecursion (IsFounded c) ls
both_of c [] f h = tt
both_of c (l ∷ ls) f h = (record { formed = f.0; entries = h.0 }, both_of c ls f.1 h.1)

abbrev version_of : Bool → ℕ
version_of b = if b then 2 else 1

second_version : (b : Bool) → b ≡ true → version_of b ≡ 2
second_version b e = grind (arith, common_steps)

module _ (trees : TreesAreSound) (rules : RuleSet) (sound : IsSound rules) where
  pub code_formed : AreFormed (code_of rules).version rules.lists rules.rules
  code_formed = rules_formed (code_of rules).version trees rules.lists rules.rules sound.rules (λ t. second_version (has_counts rules) t)

  pub founded : AllByRecursion (IsFounded (code_of rules)) (all_lines rules)
  founded =
      both_of (code_of rules) (all_lines rules)
      (lines_of_rules_formed (code_of rules).version rules.lists rules.rules code_formed)
      (all_have_entries (code_of rules) [] (all_lines rules) refl refl)

  pub code_placed : AreRulesPlaced (code_of rules) rules.lists 0 rules.rules
  code_placed = grind (arith, rules_placed, founded, instructions_stored)

  started : (c : Code) (v : Environment) → After c v 0 (Running start)
  unfolding After
  started c v = refl

  ended : (c : Code) (v : Environment) (k : ℕ) (link : Option Text) → After c v k (Ended (end_of link)) → HasOutcome c v (answer link)
  ended c v k None h = (k, h)
  ended c v k (Some text) h = (k, h)

  pub code_means : (v : Environment) → HasOutcome (code_of rules) v (answer (meaning rules v))
  code_means v =
      let c = code_of rules in
      let f = rules_finish c v rules.lists rules.rules sound.rules 0 (record { registers = start.registers; output = [] }) refl code_placed in
      let done = finishes_after c v _ _ f 0 (started c v) in
      ended c v done.0 (meaning rules v) done.1
