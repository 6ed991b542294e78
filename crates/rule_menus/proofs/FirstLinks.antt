-- The resolution by rules is a link exactly if there is a first row on which the rules give a web link, and then it is that link.
use Rattle.std.proofs.Common.{◌≡◌, ℕ, ◌≤◌, List, Option, Some, Bool, true, length, nat_lt, refl, ap, arith}
use Rattle.std.specs.Prelude.{◌↔◌, if◌then◌else◌}
use Rattle.std.proofs.lemmas.Grind.{common_steps}
use Rattle.std.proofs.lemmas.Bool.Decides.{nat_tests}
use Rattle.text_model.specs.Texts.{Text}
use Rattle.kev_read.specs.Pairs.{KeyValue}
use Rattle.rule_parser.specs.Meaning.{meaning}
use Rattle.verified_runs.specs.declared.run.TheConstants.{MAX_LINK_BYTES}
use Rattle.menu.specs.Links.{is_link}
use Rattle.menu.specs.WebLink.{is_web_link}
use Rattle.menu.specs.declared.entry.Resolution.{Resolution}
use Rattle.menu.specs.declared.entry.Resolution.TheVariants as resolution
use Rattle.verified_runs.specs.Fates.{OverBudget}
use Rattle.registry.specs.Entries.{resolution_by}
use Rattle.rule_menus.specs.RuleMenus.{RuleTarget, environment_by_rules, most_bytes_of_row, fate_of_meaning, resolution_of_row_by_rules, resolution_by_rules}
use Rattle.rule_menus.specs.FirstLinks.{is_cited_row, MeansWebLink, IsFirstWebLink}
use Rattle.rule_menus.proofs.FirstRows.{IsFirstFrom, first_if_chosen, chosen_if_first}

-- the parts of a resolution that is a link
link_parts : (r : Resolution) → is_link r ≡ true → (row : ℕ) × (link : Text) × (r ≡ resolution.Link row link)
link_parts r is = grind (arith, common_steps)

module _ (target : RuleTarget) (pairs : List KeyValue) where
  abbrev f : ℕ → Resolution
  f row = resolution_of_row_by_rules target pairs row

  abbrev most : ℕ → ℕ
  most row = most_bytes_of_row target pairs row

  abbrev meant : ℕ → Option Text
  meant row = meaning target.rules (environment_by_rules target pairs row)

  -- what is known if a row gives a link
  record IsLinkOf (row place : ℕ) (link : Text) : Type 0 where
    own : place ≡ row
    within : most row ≤ MAX_LINK_BYTES
    means : meant row ≡ Some link
    web : is_web_link link ≡ true

  read_link : (row place : ℕ) (link : Text) → f row ≡ resolution.Link place link → IsLinkOf row place link
  read_link row place link is = by_test (nat_lt MAX_LINK_BYTES (most row)) refl is
    where
      by_web : (w : Bool) (text : Text) → is_web_link text ≡ w → most row ≤ MAX_LINK_BYTES → meant row ≡ Some text
          → (if w then resolution.Link row text else resolution.NotAWebLink) ≡ resolution.Link place link → IsLinkOf row place link
      by_web w text web within means is = grind (arith, common_steps)

      by_meaning : (o : Option Text) → meant row ≡ o → most row ≤ MAX_LINK_BYTES → resolution_by row (fate_of_meaning o) ≡ resolution.Link place link
          → IsLinkOf row place link
      by_meaning o means within is = grind (arith, means, within, by_web)

      by_test : (b : Bool) → nat_lt MAX_LINK_BYTES (most row) ≡ b
          → resolution_by row (if b then OverBudget (most row) else fate_of_meaning (meant row)) ≡ resolution.Link place link → IsLinkOf row place link
      by_test b over is = grind (arith, by_meaning, nat_tests)

  gives_link : (row : ℕ) (link : Text) → MeansWebLink target pairs row link → f row ≡ resolution.Link row link
  gives_link row link h = grind (arith, common_steps)

  own_number : (row place : ℕ) (link : Text) → f row ≡ resolution.Link place link → place ≡ row
  own_number row place link is = (read_link row place link is).own

  abbrev IsFirst : ℕ → Text → Type 0
  IsFirst row link = IsFirstFrom f (is_cited_row target pairs) own_number 0 (length target.table.rows) row link

  from_first : (row : ℕ) (link : Text) → IsFirst row link → IsFirstWebLink target pairs row link
  from_first row link h =
      let known = read_link row row link h.links in
      record {
        here = record { there = omega (arith, h.there); cited = h.passes; within = known.within; means = known.means; web = known.web };
        first = λ other before m. h.first other (omega arith) (omega (arith, m.there)) m.cited (ap is_link (gives_link other before m));
      }

  to_first : (row : ℕ) (link : Text) → IsFirstWebLink target pairs row link → IsFirst row link
  to_first row link h =
      record {
        after = omega arith;
        there = omega (arith, h.here.there);
        passes = h.here.cited;
        links = gives_link row link h.here;
        first = λ other low high passes links.
            let parts = link_parts (f other) links in
            let known = read_link other parts.0 parts.1 parts.2 in
            h.first other parts.1 (record { there = omega arith; cited = passes; within = known.within; means = known.means; web = known.web });
      }

  pub first_link : (row : ℕ) (link : Text) → (resolution_by_rules target pairs ≡ resolution.Link row link) ↔ IsFirstWebLink target pairs row link
  first_link row link = (
    λ is. from_first row link (first_if_chosen f (is_cited_row target pairs) own_number (length target.table.rows) 0 resolution.NoRow row link refl is),
    λ h. chosen_if_first f (is_cited_row target pairs) own_number (length target.table.rows) 0 resolution.NoRow row link (to_first row link h),
  )
