-- A rule text, its code file and a table, whose facts are computed.
use Rattle.std.proofs.Common.{◌≡◌, ℕ, inl, Bool, true, false, ◌&&◌, List, [], ◌∷◌, ◌++◌, length, refl, arith, codes}
use Rattle.std.specs.Prelude.{All, IsUtf8, nat_le, nat_lt}
use Rattle.std.specs.Char.{encode_utf8}
use Rattle.kbart_rows.specs.Hashing.{keys_of}
use Rattle.std.specs.List.{list_all}
use Rattle.std.proofs.lemmas.Bool.{and_parts, leb-true, ltb-true}
use Rattle.std.proofs.lemmas.List.Elements.{All-cons, All-nil}
use Rattle.std.proofs.lemmas.Str.{IsUtf8-from_is_utf8}
use Rattle.csv.specs.Reading.{Reached}
use Rattle.text_model.specs.Texts.{Text, is_reserved, is_unreserved}
use Rattle.text_model.specs.Writing.{written_ur}
use Rattle.code_model.specs.Code as code
use Rattle.code_model.specs.declared.code.Instr.{Instr}
use Rattle.machine_model.proofs.Faults.{form_decided}
use Rattle.machine_laws.proofs.Least.{mismatch_untypable}
use Rattle.machine_laws.proofs.OutputBounds.{safe}
use Rattle.code_file.specs.Grammar.{IsCode, IsCodeFile, IsInstr, IsLiteral, IsCodeName, IsNameByte, IsTextOf, spelled}
use Rattle.code_file.proofs.FileLaws.{file_no_fault, file_one_code}
use Rattle.verifier.specs.Accepted.{IsAcceptedFile}
use Rattle.verifier.proofs.Faultless.{AreLaws, has_no_fault}
use Rattle.kbart_rows.specs.Cells.{Holdings, Row}
use Rattle.kbart_rows.specs.Reading.{IsTable}
use Rattle.kbart_rows.specs.declared.keys.Keys.{Keys}
use Rattle.kbart_rows.proofs.OnLiterals.{kbart_rows_on_literals}
use Rattle.kbart_rows.proofs.ReadingExamples.{fits}
use Rattle.uri_grammar.specs.Characters.{close_brace, comma}
use Rattle.uri_grammar.specs.Literals.{is_literal_character}
use Rattle.uri_grammar.specs.Specs.{SpellsSpecs, no_modifier}
use Rattle.uri_grammar.specs.Texts.{IsTemplate}
use Rattle.uri_grammar.specs.declared.parts.Op.TheVariants as operator
use Rattle.uri_grammar.specs.declared.parts.Part.{Part}
use Rattle.uri_grammar.specs.declared.parts.Part.TheVariants.{Literal, Expression}
use Rattle.uri_grammar.specs.declared.parts.Spec.{Spec}
use Rattle.uri_grammar.proofs.Examples.{characters, lacks, no_operator, word}
use Rattle.uri_grammar.proofs.PromiseLemmas.{template_sound}
use Rattle.rule_parser.specs.Grammar.{IsRuleText}
use Rattle.rule_parser.specs.Rules.{IsSound, IsSoundGuard, IsSoundRule, RuleSet}
use Rattle.compiler_model.specs.Compiled.{code_of}
use Rattle.compiler_model.proofs.CodeForm.{code_good, code_is_file}
use Rattle.compiler_model.proofs.RuleKinds.{code_typable}

-- what a test says of each element
pub all_of : {X : Type 0} (P : X → Type 0) (test : X → Bool) → ((x : X) → test x ≡ true → P x) → (xs : List X) → list_all test xs ≡ true
    → All P xs
all_of P test holds [] t = All-nil P
all_of P test holds (x ∷ xs) t =
    let tests = and_parts (test x) (list_all test xs) t in
    All-cons P x xs (holds x tests.0) (all_of P test holds xs tests.1)

-- ---- a rule text: `link http://e.org/{title_id}`

abbrev pub template_text : Text
template_text = codes "http://e.org/{title_id}"

abbrev spec : Spec
spec = record { name = codes "title_id"; cut = 0; explode = false }

abbrev parts : List Part
parts = Literal (codes "http://e.org/") ∷ Expression operator.Simple (spec ∷ []) ∷ []

is_template : IsTemplate template_text parts
unfolding encode_utf8 is_unreserved is_reserved written_ur is_literal_character
is_template =
    let specs : SpellsSpecs (codes "title_id" ++ comma ∷ []) (spec ∷ []) = (
      [],
      record {
        piece = codes "title_id";
        whole = refl;
        lacks = lacks comma (codes "title_id") refl;
        is_spec = record { after = []; whole = refl; is_name = (word 0x74 (codes "itle_id") refl refl, omega arith); modified = no_modifier };
      },
      refl,
    ) in (
      omega arith,
      template_text,
      refl,
      (
        codes "{title_id}",
        record {
          raw = codes "http://e.org/";
          whole = refl;
          some = omega arith;
          are_literals = characters (codes "http://e.org/") refl;
          is_written = refl;
        },
        tt,
        (
          [],
          record {
            body = codes "title_id";
            whole = refl;
            lacks = lacks close_brace (codes "title_id") refl;
            is_body = (codes "title_id", no_operator (codes "title_id") refl refl, specs);
          },
          refl,
        ),
      ),
    )

abbrev pub rules : RuleSet
rules = record { lists = []; rules = record { guards = []; template = record { text = template_text; parts = parts } } ∷ [] }

rules_are_sound : IsSound rules
rules_are_sound = record {
  names = All-nil _;
  rules = All-cons (IsSoundRule []) _ [] (record { guards = All-nil (IsSoundGuard []); template = is_template; kinds = refl }) (All-nil (IsSoundRule []));
}

abbrev pub rule_text : Text
rule_text = codes "# One rule\nrule\nlink http://e.org/{title_id}\n"

pub is_rule_text : IsRuleText rule_text rules
unfolding kbart_rows_on_literals
is_rule_text = record { short = omega arith; utf8 = IsUtf8-from_is_utf8 _ refl; spelled = refl; sound = rules_are_sound }

-- ---- its code file

is_small : Instr → Bool
is_small i = nat_lt i.op 256 && (nat_lt i.a 256 && (nat_lt i.b 65536 && (nat_lt i.c 65536 && nat_lt i.d 65536)))

small : (i : Instr) → is_small i ≡ true → IsInstr i
unfolding is_small
small i t =
    let op = and_parts (nat_lt i.op 256) _ t in
    let a = and_parts (nat_lt i.a 256) _ op.1 in
    let b = and_parts (nat_lt i.b 65536) _ a.1 in
    let c = and_parts (nat_lt i.c 65536) (nat_lt i.d 65536) b.1 in
    record { op = ltb-true _ _ op.0; a = ltb-true _ _ a.0; b = ltb-true _ _ b.0; c = ltb-true _ _ c.0; d = ltb-true _ _ c.1 }

visible : (b : ℕ) → (nat_le 0x21 b && nat_le b 0x7E) ≡ true → IsNameByte b
visible b t =
    let both = and_parts (nat_le 0x21 b) (nat_le b 0x7E) t in
    (leb-true _ _ both.0, leb-true _ _ both.1)

abbrev pub code_file : Text
code_file = spelled (code_of rules)

texts_are_utf8 : IsUtf8 [] × IsUtf8 (codes "1")
unfolding kbart_rows_on_literals
texts_are_utf8 = (IsUtf8-from_is_utf8 [] refl, IsUtf8-from_is_utf8 (codes "1") refl)

is_literal : (l : code.Literal) → nat_lt (length l.bytes) 65536 ≡ true → IsTextOf l.compared l.bytes → IsLiteral l
is_literal l short text = record { short = ltb-true _ _ short; text = text }

-- the site, the empty text and `1`, with which it is said whether a value was printed, and a comma between values
abbrev link_text : Text → code.Literal
link_text bytes = record { compared = false; bytes = bytes }

abbrev compared_text : Text → code.Literal
compared_text bytes = record { compared = true; bytes = bytes }

abbrev after_comma : List code.Literal
after_comma = compared_text (codes "1") ∷ []

abbrev after_empty : List code.Literal
after_empty = link_text (codes ",") ∷ after_comma

abbrev after_site : List code.Literal
after_site = compared_text [] ∷ after_empty

is_code : IsCode (code_of rules)
is_code =
    let links = (code_is_file template_sound rules rules_are_sound).links in
    record {
      header = record { version = inl refl; names = omega arith; literals = omega arith; some = omega arith; instrs = omega arith };
      names = All-cons IsCodeName _ [] (record { some = omega arith; short = omega arith; visible = all_of IsNameByte _ visible (codes "title_id") refl })
          (All-nil IsCodeName);
      literals = All-cons IsLiteral (link_text (codes "http://e.org/")) after_site (is_literal _ refl (links 0 refl))
          (All-cons IsLiteral (compared_text []) after_empty (is_literal _ refl texts_are_utf8.0)
          (All-cons IsLiteral (link_text (codes ",")) after_comma (is_literal _ refl (links 2 refl))
          (All-cons IsLiteral (compared_text (codes "1")) [] (is_literal _ refl texts_are_utf8.1) (All-nil IsLiteral))));
      short = omega arith;
    }

pub is_code_file : IsCodeFile code_file (code_of rules)
unfolding is_small
is_code_file = record { is_code = is_code; fields = all_of IsInstr is_small small (code_of rules).instrs refl; spells = refl }

pub code_is_accepted : IsAcceptedFile code_file (code_of rules)
code_is_accepted =
    let file = code_is_file template_sound rules rules_are_sound in
    let form = code_good template_sound rules rules_are_sound in
    let typable = code_typable template_sound rules rules_are_sound in
    let laws : AreLaws = record { no_fault = file_no_fault; one_code = file_one_code; form = form_decided; untypable = mismatch_untypable } in
    record {
      is_file = is_code_file;
      accepted = record { is_code = is_code; form = form; typable = typable; file = file; safe = safe (code_of rules) file form typable };
      no_fault = has_no_fault laws code_file (code_of rules) is_code_file form typable;
    }

-- ---- its table

abbrev header : Row
header = codes "print_identifier" ∷ codes "title_id" ∷ []

abbrev second : List Row
second = (codes "1" ∷ codes "b" ∷ []) ∷ []

abbrev rows : List Row
rows = (codes "2" ∷ codes "a" ∷ []) ∷ second

abbrev pub keys : Keys
keys = keys_of 0 0

abbrev pub table : Holdings
table = record { header = header; rows = rows; keys = keys }

abbrev pub table_text : Text
table_text = codes "print_identifier\ttitle_id\n2\ta\n1\tb\n"

pub is_table : IsTable table_text table
unfolding kbart_rows_on_literals Reached
is_table = record {
  text = (omega arith, IsUtf8-from_is_utf8 _ refl);
  lines = (_, _, (_, refl, refl, (_, refl, refl, (_, refl, refl, (refl, refl)))), refl);
  few = omega arith;
  fit = fits header rows (omega arith)
      (fits (codes "2" ∷ codes "a" ∷ []) second (omega arith) (fits (codes "1" ∷ codes "b" ∷ []) [] (omega arith) (All-nil _)));
}
