-- Pairs count, are of the request and are short after the steps of a reference in a source.
use Rattle.std.proofs.Common.{◌≡◌, ◌≤◌, List, Option, Some, true, refl, sym, subst, length, drop, arith, get_or}
use Rattle.std.specs.Prelude.{codes, Contains, IfSome}
use Rattle.std.specs.List.{All, flat_map}
use Rattle.std.proofs.lemmas.List.{length-take, length-drop}
use Rattle.std.proofs.lemmas.List.Elements.{All-contains}
use Rattle.std.proofs.lemmas.List.Sums.{AllPass-from_list_all}
use Rattle.text_model.specs.Texts.{Text}
use Rattle.kev_read.specs.Pairs.{KeyValue, all_of}
use Rattle.journal_references.specs.References.{Reference, EachPiece, IsPartOf, reference_in}
use Rattle.written_texts.specs.declared.readings.Role.TheVariants.{Title}
use Rattle.written_texts.specs.Readings.{written}
use Rattle.openurl_reading.specs.Citations.{in_title}
use Rattle.openurl_reading.specs.Counting.{is_accepted}
use Rattle.openurl_reading.specs.DublinCore.{is_core, creator, is_typed, core_type, core_source, core_parts, core_titles, core_steps}
use Rattle.openurl_reading.specs.Origins.{parts_of}
use Rattle.openurl_reading.specs.OldKeys.{copying}
use Rattle.openurl_reading.specs.Steps.{taken, after}
use Rattle.openurl_reading.proofs.ArticlesFound.{IsNotBlank}
use Rattle.openurl_reading.proofs.Cited.{cited_keys}
use Rattle.openurl_reading.proofs.Copied.{copy_of_passes}
use Rattle.openurl_reading.proofs.CoreCopied.{creator-is, type-is, titles-is}
use Rattle.openurl_reading.proofs.Passing.{AreAccepted}
use Rattle.openurl_reading.proofs.Sourced.{source_passes}
use Rattle.openurl_reading.proofs.PartsSourced.{EachPlace, IsPlaced, ArePlacedLight, reference_has, each_parts, short, in_flat, parts_listed}
use Rattle.openurl_reading.proofs.TextsPass.{filled_passes, is_open, one_of_has}

pub parts_pass : (pairs : List KeyValue) → AreAccepted pairs → AreAccepted (after core_parts pairs)
parts_pass pairs all =
    each_parts (λ pair. is_accepted pair ≡ true) IsNotBlank
    (λ key v may blank. filled_passes key v (one_of_has (λ k. is_open k ≡ true) cited_keys key may (AllPass-from_list_all is_open cited_keys refl)) blank)
    pairs (λ found e. record { volume = λ n g b. b; issue = λ n g b. b; pages = λ n g b. b; year = λ n g b. b }) all

-- each part of a reference is one of those in these values
pub parts_found : (known : List Text) (pairs : List KeyValue) → All (Contains known) (all_of pairs (codes "rft.source"))
    → IsPlaced (Contains (flat_map (λ value. parts_of (in_title value)) known)) pairs
parts_found known pairs each =
    reference_has (EachPlace (Contains (flat_map f known))) pairs
    (λ k d h found e.
    let v = get_or (all_of pairs (codes "rft.source")) k d in
    let listed = parts_listed found in
    let within : (n : Text) → Contains (parts_of (Some found)) n → Contains (flat_map f known) n =
    λ n c. All-contains (λ x. Contains (f x) n → Contains (flat_map f known) n) known v (in_flat f n known) (each k d h)
    (subst (λ o. Contains (parts_of o) n) (sym e) c) in
    record {
      volume = λ n g b. within n (listed.volume n g b);
      issue = λ n g b. within n (listed.issue n g b);
      pages = λ n g b. within n (listed.pages n g b);
      year = λ n g b. within n (listed.year n g b);
    })
  where
    f : Text → List Text
    f value = parts_of (in_title value)

pub parts_short : ((text : Text) (found : Reference) → reference_in text ≡ Some found → EachPiece (IsPartOf text) found)
    → ArePlacedLight (λ n. length n) 500
parts_short pieces pairs =
    reference_has (EachPlace (λ n. length n ≤ 500)) pairs
    (λ k d h found e.
    let text = written Title (get_or (all_of pairs (codes "rft.source")) k d) in
    let fits = short text found e in
    let parts = pieces text found e in
    let part : (p : Option Text) → IfSome p (IsPartOf text) → (n : Text) → p ≡ Some n → length n ≤ 500 =
    λ p h n g. let is : IsPartOf text n = subst (λ o. IfSome o (IsPartOf text)) g h in
    subst (λ t. length t ≤ 500) (sym is.2) (omega (arith, length-take is.1 (drop is.0 text), length-drop is.0 text, fits)) in
    record {
      volume = λ n g b. part found.volume parts.volume n g;
      issue = λ n g b. part found.issue parts.issue n g;
      pages = λ n g b. part found.pages parts.pages n g;
      year = λ n g b. part found.year parts.year n g;
    })

pub core_pass : (pairs : List KeyValue) → AreAccepted pairs → AreAccepted (after core_steps pairs)
core_pass pairs all =
    let first = taken pairs (copying is_core creator) in
    let second = taken first (copying is_typed core_type) in
    let third = taken second core_source in
    let fourth = after core_parts third in
    copy_of_passes (codes "rft.title") fourth (after core_titles fourth) (titles-is fourth)
    (parts_pass third
    (source_passes second
    (copy_of_passes (codes "rft.type") first second (type-is first) (copy_of_passes (codes "rft.creator") pairs first (creator-is pairs) all))))
