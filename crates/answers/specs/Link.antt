-- The link that rules give for a query, and why they give none.
use Rattle.std.specs.Prelude.{◌≡◌, [], ◌∷◌, ◌++◌, Option, Some, None, Result, Ok, Err}
use Rattle.text_model.specs.Texts.{Text}
use Rattle.environment_model.specs.Lists.{list_names}
use Rattle.kev_read.specs.Pairs.{pairs_of}
use Rattle.kev_read.specs.Refusal.{refusal}
use Rattle.kev_read.specs.Filling.{filled}
use Rattle.rule_parser.specs.Rules.{RuleSet}
use Rattle.rule_parser.specs.Grammar.{IsRuleText}
use Rattle.rule_parser.specs.Names.{each_once}
use Rattle.rule_parser.specs.Meaning.{meaning}
use Rattle.answers.specs.Reading.{IsNoRules, IsNoRequest}
use Rattle.answers.specs.declared.refusal.Refusal.{Refusal}
use Rattle.answers.specs.declared.refusal.Refusal.TheVariants.{NoLink, Memory}

-- what the rules mean in the environment of the query's pairs, in which the names that they declare are lists
pub record Means (rules : RuleSet) (query : Text) (link : Option Text) : Type 0 where
  pub request : refusal query ≡ None
  pub meant : link ≡ meaning rules (filled (each_once (list_names rules.lists)) [] (pairs_of query))

-- the line of the link that the rules give, or the first reason why there is none; an allocation is reported to have failed only for a request
pub data IsLinkFor (rules : RuleSet) (query : Text) : Result Text Refusal → Type 0 where
  no_memory : refusal query ≡ None → IsLinkFor rules query (Err Memory)
  no_request : (e : Refusal) → IsNoRequest query e → IsLinkFor rules query (Err e)
  no_link : Means rules query None → IsLinkFor rules query (Err NoLink)
  linked : (link line : Text) → Means rules query (Some link) → line ≡ link ++ 10 ∷ [] → IsLinkFor rules query (Ok line)

-- the line of the link of a rule text, or the first reason why there is none
pub data IsLinkOf (bytes query : Text) : Result Text Refusal → Type 0 where
  no_rules : (e : Refusal) → IsNoRules bytes e → IsLinkOf bytes query (Err e)
  parsed : (rules : RuleSet) (end : Result Text Refusal) → IsRuleText bytes rules → IsLinkFor rules query end → IsLinkOf bytes query end
