-- What the fields of an `Env` say about its value in contracts.
use Rattle.std.proofs.Common.{◌≡◌, ℕ, ◌+◌, ◌<◌, ◌≤◌, List, insert, IsTrue, Bool, true, false, length, slice_get, get_or, Some, is_some}
use Rattle.std.proofs.lemmas.Grind.{common_steps}
use Rattle.std.proofs.Common.{Result, Ok, Err, string_bytes, sym, ap, ◌∙◌, subst, arith}
use Rattle.std.proofs.lemmas.Option.{slice_get-get_or, slice_get_within}
use Rattle.text_model.specs.Texts.{Text}
use Rattle.environment_model.specs.Environment.{is_there, is_among, text_in, byte_count, member_count}
use Rattle.target_vars.specs.EnvValue.{EnvValue, denotes_text}
use Rattle.target_vars.specs.Private.ListPlaces.{HasText, IsListPlace}
use Rattle.target_vars.specs.Layout.{at, laid_spans, IsLaid, IsPutLast}
use Rattle.target_vars.specs.declared.env.Env.TheInside.{Inside}
use Rattle.target_vars.specs.declared.env.TheConstants.{MAX_BYTES, MAX_MEMBERS}
use Rattle.target_vars.specs.declared.place.Span.{Span}
use Rattle.target_vars.specs.declared.place.Place.{Place}
use Rattle.target_vars.specs.declared.place.Place.TheVariants.{One, Many}
use Rattle.std.proofs.lemmas.List.{length-map, map-append, take-map, drop-map}
use Rattle.target_vars.proofs.Laid.{seen, is_there-laid, look_up-lacking, look_up-laid}

abbrev pub held : Inside → EnvValue
held r = seen (string_bytes r.buffer) r.spans.items r.names.listed r.places.items

abbrev pub IsHeld : Inside → Type 0
IsHeld r = IsLaid (string_bytes r.buffer) r.spans.items r.names.listed r.places.items

-- ---- a name

pub lacking : (r : Inside) (v : EnvValue) (name : Text) → IsHeld r → held r ≡ v → is_among name r.names.listed ≡ false → is_there v.entries name ≡ false
lacking r v name laid is lacks = ap (λ (x : EnvValue). is_there x.entries name) (sym is) ∙ is_there-laid (string_bytes r.buffer) r.spans.items r.names.listed
    r.places.items name laid ∙ lacks

-- the place of a number that was found
pub found_place : (r : Inside) (name : Text) (k : ℕ) → IsHeld r → slice_get r.names.listed k ≡ Some name → (p : Place) × (slice_get r.places.items k ≡ Some p)
found_place r name k laid named = (
  get_or r.places.items k Many,
  (let one_each = laid.one_each in let below = slice_get_within r.names.listed k name named in
      slice_get-get_or r.places.items k Many (omega arith)),
)

pub known : (r : Inside) (v : EnvValue) (name : Text) (k : ℕ) → IsHeld r → held r ≡ v → slice_get r.names.listed k ≡ Some name → is_there v.entries name ≡ true
known r v name k laid is named =
    let p = found_place r name k laid named in
    ap (λ (x : EnvValue). is_there x.entries name) (sym is)
    ∙ ap is_some (look_up-laid (string_bytes r.buffer) r.spans.items r.names.listed r.places.items name k p.0 laid named p.1)

-- ---- what it denotes

pub text_there : (r : Inside) (v : EnvValue) (name : Text) (places : List Place) → IsHeld r → held r ≡ v → places ≡ r.places.items
    → HasText r.names places name → denotes_text v.entries name ≡ true
text_there r v name places laid is same (number, part, named, placed) =
    ap (λ (x : EnvValue). denotes_text x.entries name) (sym is)
    ∙ ap (λ o. is_some (text_in o)) (look_up-laid (string_bytes r.buffer) r.spans.items r.names.listed r.places.items name number (One part) laid named
    (subst (λ ps. slice_get ps number ≡ Some (One part)) same placed))

pub no_text : (r : Inside) (v : EnvValue) (name : Text) (places : List Place) (found : Result ℕ ℕ) → IsHeld r → held r ≡ v → places ≡ r.places.items
    → IsListPlace r.names places name found → denotes_text v.entries name ≡ false
no_text r v name places (Ok number) laid is same at =
    ap (λ (x : EnvValue). denotes_text x.entries name) (sym is)
    ∙ ap (λ o. is_some (text_in o)) (look_up-laid (string_bytes r.buffer) r.spans.items r.names.listed r.places.items name number Many laid at.0
    (subst (λ ps. slice_get ps number ≡ Some Many) same at.1))
no_text r v name places (Err gap) laid is same at = grind (arith, look_up-lacking)

-- ---- the limits

pub fits : (r : Inside) (v : EnvValue) (t : Text) (long : Bool) → IsHeld r → held r ≡ v → (MAX_BYTES < byte_count v.entries + length t → IsTrue long)
    → long ≡ false → length (string_bytes r.buffer) + length t ≤ MAX_BYTES
fits r v t long laid is says none = grind (arith, common_steps)

pub few : (r : Inside) (v : EnvValue) (full : Bool) → IsHeld r → held r ≡ v → (MAX_MEMBERS < member_count v.entries + 1 → IsTrue full) → full ≡ false
    → length r.spans.items + 1 ≤ MAX_MEMBERS
few r v full laid is says none = grind (arith, common_steps)

-- ---- one more span

laid_insert : (spans : List Span) (place : ℕ) (s : Span) → laid_spans (insert spans place s) ≡ insert (laid_spans spans) place (at s.part)
laid_insert spans place s = grind (arith, map-append, take-map, drop-map)

pub span_put : (r : Inside) (v : EnvValue) (s : Span) (new : List Span) (n : ℕ) → held r ≡ v → IsPutLast r.spans.items s new
    → s.part.start ≡ length (string_bytes r.buffer) → s.part.len ≡ n
    → (place : ℕ) × (place ≤ length v.spans) × (laid_spans new ≡ insert v.spans place (length v.buffer, n))
span_put r v s new n is put start len = grind (arith, length-map, string_bytes, insert, laid_insert)
