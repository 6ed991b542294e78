-- The limits of code, each reached and exceeded by one.
use Rattle.std.proofs.Common.{◌≡◌, ℕ, List, [], ◌∷◌, ◌++◌, Option, Some, None, map, flat_map, replicate, codes, refl}
use Rattle.uri_grammar.specs.declared.parts.Part.{Part}
use Rattle.uri_grammar.specs.declared.parts.Part.TheVariants.{Literal}
use Rattle.rule_parser.specs.Rules.{RuleSet}
use Rattle.compiler_model.proofs.ExampleRules.{one_rule, variable}
use Rattle.compiler.specs.Limits.{first_passed, limit_passed}
use Rattle.compiler.specs.declared.error.CompileError.{CompileError}
use Rattle.compiler.specs.declared.error.CompileError.TheVariants.{TooManyNames, TooManyLiterals, TooManyInstructions, FileTooLong}

-- ---- the first limit that is exceeded, for each number at its limit and one above it

abbrev by_bytes : ℕ → ℕ → ℕ → List (Option CompileError)
by_bytes names literals instrs = map (first_passed names literals instrs) (65536 ∷ 65537 ∷ [])

abbrev by_instructions : ℕ → ℕ → List (Option CompileError)
by_instructions names literals = flat_map (by_bytes names literals) (4096 ∷ 4097 ∷ [])

within_tables : by_instructions 256 1024 ≡ None ∷ Some FileTooLong ∷ Some TooManyInstructions ∷ Some TooManyInstructions ∷ []
within_tables = refl

past_literals : by_instructions 256 1025 ≡ replicate 4 (Some TooManyLiterals)
past_literals = refl

past_names : flat_map (by_instructions 257) (1024 ∷ 1025 ∷ []) ≡ replicate 8 (Some TooManyNames)
past_names = refl

-- ---- rules at a limit and past it

-- a rule whose link is `b{a}` a number of times and then `{a}` another number of times
abbrev repeated : ℕ → ℕ → RuleSet
repeated with_text alone =
    one_rule [] (flat_map (λ (part : Part). Literal (codes "b") ∷ part ∷ []) (replicate with_text (variable (codes "a"))) ++ replicate alone
    (variable (codes "a")))

-- one instruction for a text, seven for `{a}`, HALT and FAIL
instructions_at_the_limit : limit_passed (repeated 6 578) ≡ None
instructions_at_the_limit = refl

one_instruction_more : limit_passed (repeated 7 577) ≡ Some TooManyInstructions
one_instruction_more = refl
