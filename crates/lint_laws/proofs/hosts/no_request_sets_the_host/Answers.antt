use Rattle.std.proofs.Common.{◌+◌, [], get_or, length, ◌∙◌, subst, ap}
use Rattle.environment_model.specs.Environment.{LookUp}
use Rattle.menu.specs.WebLink.{is_web_link}
use Rattle.rule_parser.specs.Meaning.{guards_hold, seen}
use Rattle.rule_lint.specs.declared.place.Place.TheVariants as place
use Rattle.lint_laws.proofs.PrintedHosts.{closed_link, found_first, sound_rule, taken_rule}
use Rattle.lint_laws.proofs.RowHosts.{template_hosts_on_row}
use Rattle.lint_laws.proofs.RowLooks.{RowLaws}
use Rattle.lint_laws.specs.RowLinks.{IsHostOfRow, environment_of_cells}
use Rattle.lint_laws.proofs.hosts.no_request_sets_the_host.Goals as goal

pub returns : goal.returns
returns c =
    let laws : RowLaws = record { shadow = c.rows_shadow_requests.ensures.look_up; cell = c.rows_by_names.ensures.text } in
    let hosts = template_hosts_on_row laws c.expansion_is_uri_text.ensures c.trees_are_sound.ensures in
    record {
      link = hosts;
      meaning = λ rules table row pairs link sound closed within means web.
          let look : LookUp = seen rules (environment_of_cells rules table (get_or table.rows row []) pairs) in
          let taken = taken_rule rules look link means in
          let first = found_first (guards_hold look) rules.rules taken.rule taken.found in
          let is = (sound_rule rules look taken.rule sound first).template in
          let closed_here = closed_link rules table look taken.rule closed first in
          record {
            there = within;
            rule = taken.rule;
            taken = taken.found;
            gives = taken.gives;
            host = subst (IsHostOfRow rules table taken.rule.template.parts row) taken.gives
                (hosts rules table (place.Link (0 + length first.before + 1)) taken.rule.template.text taken.rule.template.parts row pairs is closed_here within
                (ap is_web_link taken.gives ∙ web));
          };
    }
