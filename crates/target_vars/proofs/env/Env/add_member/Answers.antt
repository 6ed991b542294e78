use Rattle.std.proofs.Common.{arith, rules, ◌≡◌, ◌++◌, length, string_bytes, refl, ap, ◌∙◌, subst, inl, inr}
use Rattle.std.proofs.lemmas.Str.{IsUtf8-string_bytes}
use Rattle.std.proofs.lemmas.Grind.{common_steps}
use Rattle.environment_model.specs.Environment.{with_member}
use Rattle.environment_model.proofs.Environments.{with_member-text}
use Rattle.target_vars.specs.EnvValue.{EnvValue}
use Rattle.target_vars.specs.Layout.{IsPutLast}
use Rattle.target_vars.specs.declared.place.Span.{Span}
use Rattle.target_vars.proofs.Additions.{add_is, laid_add}
use Rattle.target_vars.proofs.Facts.{text_there, no_text, fits, few, span_put}
use Rattle.target_vars.proofs.env.Env.add_member.Goals as goal
use Rattle.target_vars.proofs.env.Env.add_member.Goals.{then-is_too_long-via-then-is_too_long, then-is_too_long-via-else-is_too_long+then-is_full}
use Rattle.target_vars.specs.Private.ListPlaces.{IsListPlace}

pub returns-in_default-clause-answer : goal.returns-in_default-clause-answer
returns-in_default-clause-answer c = grind (arith, text_there, c.self.view_is, c.in_default.ensures)

pub returns-in_default-clause-ok : goal.returns-in_default-clause-ok
returns-in_default-clause-ok c = grind (arith, text_there, c.self.view_is, c.in_default.ensures, with_member-text)

pub returns-in_default-clause-too_large : goal.returns-in_default-clause-too_large
returns-in_default-clause-too_large c = grind (arith, text_there, c.self.view_is, c.in_default.ensures)

pub returns-then-is_too_long-clause-known : goal.returns-then-is_too_long-clause-known
returns-then-is_too_long-clause-known c = grind (arith, no_text, c.self.view_is, c.in-Some.ensures)

pub returns-then-is_too_long-clause-too_large : goal.returns-then-is_too_long-clause-too_large
returns-then-is_too_long-clause-too_large c =
    let text =
    no_text c.self.inside c.args.self.now c.args.name.now _ c.in-Some.found c.self.invariant c.self.view_is c.deref.ensures.value c.in-Some.ensures in (
      λ is. (
        text,
        elim c.then-is_too_long.branch [
          | then-is_too_long-via-then-is_too_long w ↦ inl (c.is_too_long.ensures.0 w.if-is_too_long.true)
          | then-is_too_long-via-else-is_too_long+then-is_full w ↦ inr (w.is_full.ensures.0 w.if-is_full.true)
        ],
      ),
      λ h. refl,
    )

pub returns-in_err-reserve-clause-known : goal.returns-in_err-reserve-clause-known
returns-in_err-reserve-clause-known c = grind (arith, no_text, c.self.view_is, c.in-Some.ensures)

pub returns-in_err-reserve-2-clause-known : goal.returns-in_err-reserve-2-clause-known
returns-in_err-reserve-2-clause-known c = grind (arith, no_text, c.self.view_is, c.in-Some.ensures)

pub list_of-requires-clause-found : goal.list_of-requires-clause-found
list_of-requires-clause-found c =
    subst (λ ps. IsListPlace c.self.inside.names ps c.args.name.now c.in-Some.found) c.deref.ensures.value c.in-Some.ensures

pub returns-in_err-list-clause-known : goal.returns-in_err-list-clause-known
returns-in_err-list-clause-known c = grind (arith, no_text, c.self.view_is, c.in-Some.ensures)

pub invariant_of-self-2 : goal.invariant_of-self-2
invariant_of-self-2 c =
    let r = c.self.inside in
    let b = string_bytes r.buffer in
    let s : Span = record { list = c.in_ok-list.list; part = c.at_end-part.result } in
    let buffer : string_bytes c.push_str.new.self ≡ b ++ c.args.text.now = search rules in
    let start : s.part.start ≡ length b = search rules in
    let put : IsPutLast r.spans.items s c.put_last.new.spans.items = grind (arith, common_steps) in
    let short = fits r c.args.self.now c.args.text.now c.is_too_long.result c.self.invariant c.self.view_is c.is_too_long.ensures.1 c.if-is_too_long.false in
    let room = few r c.args.self.now c.is_full.result c.self.invariant c.self.view_is c.is_full.ensures.1 c.if-is_full.false in
    rw buffer (laid_add b c.args.text.now r.spans.items r.names.listed r.places.items c.args.name.now c.list_of.new.names.listed c.list_of.new.places.items s
    c.put_last.new.spans.items (IsUtf8-string_bytes r.buffer) c.utf8.text c.self.invariant c.in_ok-list.ensures.ok put start c.at_end-part.ensures.len
    short room)

pub returns-clause-answer : goal.returns-clause-answer
returns-clause-answer c = grind (arith, no_text, c.self.view_is, c.in-Some.ensures)

pub returns-clause-ok : goal.returns-clause-ok
returns-clause-ok c =
    let r = c.self.inside in
    let b = string_bytes r.buffer in
    let s : Span = record { list = c.in_ok-list.list; part = c.at_end-part.result } in
    let buffer : string_bytes c.push_str.new.self ≡ b ++ c.args.text.now = search rules in
    let start : s.part.start ≡ length b = search rules in
    let put : IsPutLast r.spans.items s c.put_last.new.spans.items = grind (arith, c.put_last.ensures) in
    let is = add_is b c.args.text.now r.spans.items r.names.listed r.places.items c.args.name.now c.list_of.new.names.listed c.list_of.new.places.items s
    c.put_last.new.spans.items c.self.invariant c.in_ok-list.ensures.ok put start c.at_end-part.ensures.len in
    rw buffer (is ∙ ap (λ (v : EnvValue). with_member v.entries c.args.name.now c.args.text.now) c.self.view_is)

pub returns-clause-known : goal.returns-clause-known
returns-clause-known c = grind (arith, no_text, c.self.view_is, c.in-Some.ensures)

pub returns-clause-span : goal.returns-clause-span
returns-clause-span c =
    let r = c.self.inside in
    let b = string_bytes r.buffer in
    let s : Span = record { list = c.in_ok-list.list; part = c.at_end-part.result } in
    let start : s.part.start ≡ length b = search rules in
    let put : IsPutLast r.spans.items s c.put_last.new.spans.items =
    subst (λ xs. IsPutLast xs s c.put_last.new.spans.items) c.reserve-2.ensures.items c.put_last.ensures in
    λ is. span_put r c.args.self.now s c.put_last.new.spans.items (length c.args.text.now) c.self.view_is put start c.at_end-part.ensures.len
