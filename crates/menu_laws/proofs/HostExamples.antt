-- A target that meets the premises of `no_open_redirect`, its link for a request that has an address of its own, and targets about which `lint` warns.
use Rattle.std.proofs.Common.{◌≡◌, Bool, true, false, List, [], ◌∷◌, ◌++◌, map, refl, arith}
use Rattle.std.proofs.Common.{codes}
use Rattle.std.specs.Char.{encode_utf8}
use Rattle.std.specs.Str.{chars}
use Rattle.std.proofs.lemmas.List.Elements.{All-cons, All-nil}
use Rattle.environment_model.specs.Environment.{look_up, with_member}
use Rattle.kev_read.specs.Pairs.{KeyValue}
use Rattle.kbart_rows.specs.Cells.{Row}
use Rattle.kbart_rows.proofs.OnLiterals.{kbart_rows_on_literals}
use Rattle.uri_grammar.specs.Characters.{close_brace, comma}
use Rattle.uri_grammar.specs.Names.{IsVarname, first_varchar, character_varchar}
use Rattle.uri_grammar.specs.Specs.{no_modifier, SpellsSpecs}
use Rattle.uri_grammar.specs.Texts.{IsTemplate}
use Rattle.uri_grammar.specs.declared.parts.Op.TheVariants as operator
use Rattle.uri_grammar.specs.declared.parts.Part.{Part}
use Rattle.uri_grammar.specs.declared.parts.Part.TheVariants.{Expression}
use Rattle.uri_grammar.specs.declared.parts.Spec.{Spec}
use Rattle.uri_grammar.proofs.Examples.{lacks, word_more}
use Rattle.rule_parser.specs.Rules.{IsSound, IsSoundGuard, IsSoundRule, RuleSet}
use Rattle.menu.specs.Links.{links}
use Rattle.verified_runs.specs.Fates.{fate_in}
use Rattle.registry.specs.Entries.{menu_of}
use Rattle.rule_menus.specs.RuleMenus.{HasSoundRules, RuleTarget, coded}
use Rattle.lint_laws.specs.RowLinks.{has_open_hosts}
use Rattle.menu_laws.specs.Hosts.{HasClosedHosts}
use Rattle.menu_laws.proofs.SmallRegistries.{run_on_literals, table}

-- ---- the template `{+title_url}`

abbrev url_spec : Spec
url_spec = record { name = codes "title_url"; cut = 0; explode = false }

abbrev url_parts : List Part
url_parts = Expression operator.Plus (url_spec ∷ []) ∷ []

url_name : IsVarname (codes "title_url")
url_name = word_more (codes "t") (codes "itle_url") (first_varchar (codes "t") (character_varchar 0x74 refl)) refl

url_template : IsTemplate (codes "{+title_url}") url_parts
unfolding encode_utf8
url_template =
    let specs : SpellsSpecs (codes "title_url" ++ comma ∷ []) (url_spec ∷ []) = (
      [],
      record {
        piece = codes "title_url";
        whole = refl;
        lacks = lacks comma (codes "title_url") refl;
        is_spec = record { after = []; whole = refl; is_name = (url_name, omega arith); modified = no_modifier };
      },
      refl,
    ) in (
      omega arith,
      codes "{+title_url}",
      refl,
      (
        [],
        record {
          body = codes "+title_url";
          whole = refl;
          lacks = lacks close_brace (codes "+title_url") refl;
          is_body = (
            codes "title_url",
            record { whole = refl; not_reserved = refl; chosen = λ e. absurd (let never : ⊥ = cc in never) },
            specs,
          );
        },
        refl,
      ),
    )

-- ---- a target

abbrev rules : RuleSet
rules = record { lists = []; rules = record { guards = []; template = record { text = codes "{+title_url}"; parts = url_parts } } ∷ [] }

rules_are_sound : IsSound rules
rules_are_sound = record {
  names = All-nil _;
  rules = All-cons (IsSoundRule []) _ [] (record { guards = All-nil (IsSoundGuard []); template = url_template; kinds = refl }) (All-nil (IsSoundRule []));
}

abbrev target : List Row → RuleTarget
target rows = record { name = codes "alpha"; rules = rules; table = table rows }

abbrev alpha : RuleTarget
alpha = target ((codes "2" ∷ codes "http://e.org/x" ∷ []) ∷ (codes "1" ∷ codes "http://f.org:80" ∷ []) ∷ [])

alpha_is_sound : HasSoundRules alpha
alpha_is_sound = rules_are_sound

alpha_is_closed : HasClosedHosts alpha
alpha_is_closed = refl

-- the request has an address of its own
abbrev request : List KeyValue
request = record { key = codes "rft.issn"; value = codes "1" } ∷ record { key = codes "title_url"; value = codes "http://evil.org/" } ∷ []

link_of_the_row : links (menu_of (map coded (alpha ∷ [])) request) ≡ record { name = codes "alpha"; link = codes "http://f.org:80" } ∷ []
unfolding kbart_rows_on_literals run_on_literals fate_in look_up with_member chars encode_utf8
link_of_the_row = refl

-- ---- targets about which `lint` warns

abbrev open_hosts : List Row → Bool
open_hosts rows = has_open_hosts rules (table rows)

warnings : map open_hosts (
    ((codes "1" ∷ codes "http://e.org/" ∷ []) ∷ (codes "1" ∷ [] ∷ []) ∷ [])
    ∷ ((codes "1" ∷ codes "http://me@e.org/" ∷ []) ∷ [])
    ∷ ((codes "1" ∷ codes "http:///e.org/" ∷ []) ∷ [])
    ∷ ((codes "1" ∷ codes "not an address" ∷ []) ∷ [])
    ∷ [])
    ≡ true ∷ true ∷ true ∷ false ∷ []
warnings = refl
