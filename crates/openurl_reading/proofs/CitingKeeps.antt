-- The steps that fill a key keep its values, as those of a reference do.
use Rattle.std.proofs.Common.{List, [], ◌∷◌, Option, inr, inl}
use Rattle.std.specs.Prelude.{codes}
use Rattle.std.specs.List.{All}
use Rattle.std.specs.Option.{option_map}
use Rattle.std.proofs.lemmas.List.Elements.{All-cons}
use Rattle.text_model.specs.Texts.{Text}
use Rattle.kev_read.specs.Pairs.{KeyValue, all_of, first_of}
use Rattle.journal_references.specs.References.{Reference}
use Rattle.openurl_reading.specs.Citations.{citation, cited, citing, without_date, citing_year, citing_name, citing_steps}
use Rattle.openurl_reading.specs.Dates.{date_keys, first_date}
use Rattle.openurl_reading.specs.Steps.{Step}
use Rattle.openurl_reading.specs.Volumes.{without_own, filling}
use Rattle.openurl_reading.proofs.Each.{one_has}
use Rattle.openurl_reading.proofs.Filled.{KeepsKey}
use Rattle.openurl_reading.proofs.Led.{led-keeps}

-- the five steps
abbrev pub of_volume : Step
of_volume = citing (codes "rft.volume") (λ found. found.volume)

abbrev pub of_issue : Step
of_issue = citing (codes "rft.issue") (λ found. found.issue)

abbrev pub of_pages : Step
of_pages = citing (codes "rft.pages") (λ found. found.pages)

-- what holds of each of them
pub each_citing : (P : Step → Type 0) → P of_volume → P of_issue → P of_pages → P citing_year → P citing_name → All P citing_steps
each_citing P a b c d e =
    All-cons P of_volume (of_issue ∷ of_pages ∷ citing_year ∷ citing_name ∷ []) a
    (All-cons P of_issue (of_pages ∷ citing_year ∷ citing_name ∷ []) b
    (All-cons P of_pages (citing_year ∷ citing_name ∷ []) c (All-cons P citing_year (citing_name ∷ []) d (one_has P citing_name e))))

pub filling_keeps : (key own : Text) (find : List KeyValue → Option Text) → KeepsKey key (filling own find)
filling_keeps key own find = inr (λ p. inl (led-keeps (without_own (all_of p own) (find p)) (first_of p own)))

citing_keeps : (key own : Text) (part : Reference → Option Text) → KeepsKey key (citing own part)
citing_keeps key own part = filling_keeps key own (cited part)

pub citing_keep : (key : Text) → All (KeepsKey key) citing_steps
citing_keep key =
    each_citing (KeepsKey key) (citing_keeps key (codes "rft.volume") (λ found. found.volume))
    (citing_keeps key (codes "rft.issue") (λ found. found.issue)) (citing_keeps key (codes "rft.pages") (λ found. found.pages))
    (inr (λ p. inl (led-keeps (without_date (first_date date_keys p) (cited (λ found. found.year) p)) (first_of p (codes "rft.date")))))
    (inr (λ p. inl (led-keeps (option_map (λ found. found.name) (citation p)) (first_of p (codes "rft.jtitle")))))
