-- The expansion of a template for a query, and why there is none.
use Rattle.std.specs.Prelude.{◌≡◌, List, [], ◌∷◌, ◌++◌, None, Result, Ok, Err}
use Rattle.text_model.specs.Texts.{Text}
use Rattle.environment_model.specs.Environment.{look_up}
use Rattle.uri_grammar.specs.Texts.{IsTemplate}
use Rattle.uri_grammar.specs.declared.parts.Part.{Part}
use Rattle.uri_template.specs.Expansion.{expansion}
use Rattle.kev_read.specs.Pairs.{pairs_of}
use Rattle.kev_read.specs.Refusal.{refusal}
use Rattle.kev_read.specs.Filling.{filled}
use Rattle.answers.specs.Reading.{IsNoTemplate, IsNoRequest}
use Rattle.answers.specs.declared.refusal.Refusal.{Refusal}
use Rattle.answers.specs.declared.refusal.Refusal.TheVariants.{Memory}

-- the names in options, each of which is two texts: `--list` and a name
abbrev pub names_of : List Text → List Text
names_of [] = []
names_of (option ∷ []) = []
names_of (option ∷ name ∷ options) = name ∷ names_of options

-- the line of the expansion, in which these names are lists, or the first reason why there is none; an allocation is reported to have failed only for a
-- template and a request
pub data IsExpansionOf (lists : List Text) (template query : Text) : Result Text Refusal → Type 0 where
  no_memory : (parts : List Part) → IsTemplate template parts → refusal query ≡ None → IsExpansionOf lists template query (Err Memory)
  no_template : (e : Refusal) → IsNoTemplate template e → IsExpansionOf lists template query (Err e)
  no_request : (parts : List Part) (e : Refusal) → IsTemplate template parts → IsNoRequest query e → IsExpansionOf lists template query (Err e)
  expanded : (parts : List Part) (line : Text) → IsTemplate template parts → refusal query ≡ None
      → line ≡ expansion (look_up (filled lists [] (pairs_of query))) parts ++ 10 ∷ [] → IsExpansionOf lists template query (Ok line)
