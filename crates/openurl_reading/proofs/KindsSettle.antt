-- After all steps, those that ask for the kind change nothing: numbers among identifiers, the elements of Dublin Core, the titles, and then the format.
use Rattle.std.proofs.Common.{◌≡◌, List, [], ◌∷◌, ◌++◌, false, refl}
use Rattle.std.specs.Prelude.{codes}
use Rattle.std.specs.List.{All}
use Rattle.std.specs.Str.{bytes_eq}
use Rattle.std.proofs.lemmas.List.Elements.{All-append, All-cons}
use Rattle.kev_read.specs.Pairs.{KeyValue}
use Rattle.openurl_reading.specs.declared.kinds.Kind.{Kind}
use Rattle.openurl_reading.specs.declared.kinds.Kind.TheVariants.{Book, Dissertation, Journal}
use Rattle.openurl_reading.specs.IdentifiedNumbers.{identified_steps}
use Rattle.openurl_reading.specs.DublinCore.{core_steps}
use Rattle.openurl_reading.specs.Formats.{format_step}
use Rattle.openurl_reading.specs.Steps.{Step, unchanged, taken, after}
use Rattle.openurl_reading.specs.Titles.{title_key, title_keys, of_title, titlings}
use Rattle.openurl_reading.proofs.CoreSettles.{core_settles}
use Rattle.openurl_reading.proofs.Each.{one_has}
use Rattle.openurl_reading.proofs.Filled.{KeepsKey, all_keep_filled}
use Rattle.openurl_reading.proofs.Formatted.{format_settles}
use Rattle.openurl_reading.proofs.Identified.{AreIdentified}
use Rattle.openurl_reading.proofs.IdentifiedSettle.{identified_settle}
use Rattle.openurl_reading.proofs.FoundAgain.{AreFoundAgain}
use Rattle.openurl_reading.proofs.KeysSettle.{apart, format_keeps, last_keep}
use Rattle.openurl_reading.proofs.Stages.{kind_steps, titled_steps, last_steps}
use Rattle.openurl_reading.proofs.Titled.{all_unchanged, titlings_fill}

pub kinds_settle : AreFoundAgain → AreIdentified → (before : List KeyValue)
    → All (λ step. step.change (after last_steps (after kind_steps before)) ≡ unchanged) kind_steps
kinds_settle laws identified before =
    let numbered = after identified_steps before in
    let core = after core_steps numbered in
    let titled = after titlings core in
    let now = after last_steps (taken titled format_step) in
    let one = titlings_fill core in
    let key = of_title (title_key one.0) in
    let P : Step → Type 0 = λ step. step.change now ≡ unchanged in
    All-append P identified_steps titled_steps (identified_settle identified before)
    (All-append P core_steps (titlings ++ format_step ∷ []) (core_settles laws numbered)
    (All-append P titlings (format_step ∷ [])
    (all_unchanged title_keys one.0 now
    (all_keep_filled key (format_step ∷ last_steps) titled (apart (format_step ∷ last_steps) (codes "title") refl)
    (All-cons (KeepsKey key.new) format_step last_steps (format_keeps key.new) (last_keep key.new (date_apart one.0))) one.1))
    (one_has P format_step (format_settles titled))))
  where
    date_apart : (kind : Kind) → bytes_eq (codes "rft.date") (title_key kind) ≡ false
    date_apart Book = refl
    date_apart Dissertation = refl
    date_apart Journal = refl
