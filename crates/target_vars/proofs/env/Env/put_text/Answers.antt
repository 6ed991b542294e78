use Rattle.std.proofs.Common.{arith, rules, ◌≡◌, ◌++◌, length, string_bytes, refl, ap, ◌∙◌}
use Rattle.std.proofs.lemmas.Str.{IsUtf8-string_bytes}
use Rattle.environment_model.specs.Environment.{with_text}
use Rattle.environment_model.proofs.Environments.{with_text-known}
use Rattle.target_vars.specs.EnvValue.{EnvValue}
use Rattle.target_vars.proofs.Additions.{put_is, laid_put}
use Rattle.target_vars.proofs.Facts.{known, lacking, fits}
use Rattle.target_vars.proofs.env.Env.put_text.Goals as goal

pub returns-in_default-clause-answer : goal.returns-in_default-clause-answer
returns-in_default-clause-answer c = grind (arith, known, c.self.view_is, c.in_default.ensures)

pub returns-in_default-clause-ok : goal.returns-in_default-clause-ok
returns-in_default-clause-ok c = grind (arith, known, c.self.view_is, c.in_default.ensures, with_text-known)

pub returns-in_default-clause-too_large : goal.returns-in_default-clause-too_large
returns-in_default-clause-too_large c = grind (arith, known, c.self.view_is, c.in_default.ensures)

pub returns-then-is_too_long-clause-known : goal.returns-then-is_too_long-clause-known
returns-then-is_too_long-clause-known c = grind (arith, lacking, c.self.view_is, c.in-Err.ensures.lacks)

pub returns-then-is_too_long-clause-too_large : goal.returns-then-is_too_long-clause-too_large
returns-then-is_too_long-clause-too_large c =
    let absent = lacking c.self.inside c.args.self.now c.args.name.now c.self.invariant c.self.view_is c.in-Err.ensures.lacks in
    (λ is. (absent, c.is_too_long.ensures.0 c.if-is_too_long.true), λ h. refl)

pub returns-in_err-reserve-clause-known : goal.returns-in_err-reserve-clause-known
returns-in_err-reserve-clause-known c = grind (arith, lacking, c.self.view_is, c.in-Err.ensures.lacks)

pub returns-in_err-enter-clause-known : goal.returns-in_err-enter-clause-known
returns-in_err-enter-clause-known c = grind (arith, lacking, c.self.view_is, c.in-Err.ensures.lacks)

pub invariant_of-self-2 : goal.invariant_of-self-2
invariant_of-self-2 c =
    let r = c.self.inside in
    let b = string_bytes r.buffer in
    let part = c.at_end-part.result in
    let buffer : string_bytes c.push_str.new.self ≡ b ++ c.args.text.now = search rules in
    let start : part.start ≡ length b = search rules in
    let short = fits r c.args.self.now c.args.text.now c.is_too_long.result c.self.invariant c.self.view_is c.is_too_long.ensures.1 c.if-is_too_long.false in
    rw (buffer, c.in_ok-enter.ensures.names, c.in_ok-enter.ensures.places)
    (laid_put b c.args.text.now r.spans.items r.names.listed r.places.items c.args.name.now part (IsUtf8-string_bytes r.buffer) c.utf8.text
    c.self.invariant c.in-Err.ensures.lacks start c.at_end-part.ensures.len short)

pub returns-clause-answer : goal.returns-clause-answer
returns-clause-answer c = grind (arith, lacking, c.self.view_is, c.in-Err.ensures.lacks)

pub returns-clause-ok : goal.returns-clause-ok
returns-clause-ok c =
    let r = c.self.inside in
    let b = string_bytes r.buffer in
    let part = c.at_end-part.result in
    let buffer : string_bytes c.push_str.new.self ≡ b ++ c.args.text.now = search rules in
    let start : part.start ≡ length b = search rules in
    let is = put_is b c.args.text.now r.spans.items r.names.listed r.places.items c.args.name.now part c.self.invariant c.in-Err.ensures.lacks start
    c.at_end-part.ensures.len in
    rw (buffer, c.in_ok-enter.ensures.names, c.in_ok-enter.ensures.places)
    (is ∙ ap (λ (v : EnvValue). with_text v.entries c.args.name.now c.args.text.now) c.self.view_is)

pub returns-clause-known : goal.returns-clause-known
returns-clause-known c = grind (arith, lacking, c.self.view_is, c.in-Err.ensures.lacks)
