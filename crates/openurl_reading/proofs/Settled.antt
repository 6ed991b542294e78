-- Pairs that no step changes.
use Rattle.std.proofs.Common.{◌≡◌, List, [], ◌∷◌, map, filter, false, Option, Some, None, refl, ap, ◌∙◌, inl, inr, ◌⊎◌}
use Rattle.std.specs.Prelude.{codes, slice_get}
use Rattle.std.specs.List.{All}
use Rattle.std.proofs.lemmas.List.Elements.{All-head, All-tail}
use Rattle.text_model.specs.Texts.{Text}
use Rattle.kev_read.specs.Pairs.{KeyValue, has_key, all_of, first_of}
use Rattle.openurl_reading.specs.Steps.{Change, Step, unchanged, replacing, others, changed, taken, after}
use Rattle.openurl_reading.specs.Values.{led}
use Rattle.openurl_reading.specs.Versions.{version, encoding, is_other, correction}
use Rattle.openurl_reading.specs.Fields.{fields}
use Rattle.openurl_reading.specs.OldKeys.{OldKey, old_keys, filled, copied, copy, copies}
use Rattle.openurl_reading.specs.Citations.{citing_steps}
use Rattle.openurl_reading.specs.Texts.{text_steps}
use Rattle.openurl_reading.specs.Referrers.{referred, referrer_step}
use Rattle.openurl_reading.specs.Numbers.{first_issn, first_eissn, first_isbn, issn_step, eissn_step, isbn_step}
use Rattle.openurl_reading.specs.Dates.{date_keys, first_date, led_or_none, date_step}
use Rattle.work_identifiers.specs.declared.namespace.Namespace.{Namespace}
use Rattle.work_identifiers.specs.declared.namespace.Namespace.TheVariants.{Doi, Pmid, Oclc, Pmc, Arxiv}
use Rattle.openurl_reading.specs.Identifiers.{nameable, named, naming, namings}
use Rattle.openurl_reading.specs.Pages.{first_page, last_page, first_page_step, last_page_step, page_steps}
use Rattle.openurl_reading.specs.Volumes.{without_own, issue_after_volume, volume_before_issue, volume_among, issue_in}
use Rattle.openurl_reading.specs.Volumes.{added_issue_step, volume_step, issue_step, volume_steps}
use Rattle.openurl_reading.specs.Reading.{normal_form}
use Rattle.openurl_reading.proofs.Firsts.{not_first, of_first}
use Rattle.openurl_reading.proofs.Others.{bytes_eq-same}
use Rattle.openurl_reading.proofs.Stages.{after_dates, after_volumes, kind_steps, led_steps, with_versions, normal_form-led}

-- the change of the date leaves all values
abbrev pub IsDateSettled : Change → List Text → Type 0
IsDateSettled change values = (change ≡ unchanged) ⊎ ((change ≡ replacing []) × (values ≡ []))

-- what the step of the namespace names has its URI in `rft_id`, if there is one
abbrev pub IsNamed : List KeyValue → Namespace → Type 0
IsNamed pairs namespace = named namespace (nameable namespace pairs) (all_of pairs (codes "rft_id")) ≡ unchanged

-- the values of issues and of volumes stay
pub record AreVolumesSettled (issues volumes : List Text) : Type 0 where
  pub added : led (without_own issues (of_first issue_after_volume volumes)) (slice_get issues 0) ≡ unchanged
  pub volume : led (volume_among volumes (of_first volume_before_issue issues)) (slice_get volumes 0) ≡ unchanged
  pub issue : led (of_first (issue_in (slice_get volumes 0)) issues) (slice_get issues 0) ≡ unchanged

pub record IsSettled (pairs : List KeyValue) : Type 0 where
  pub context : is_other version (first_of pairs (codes "ctx_ver")) ≡ false
  pub transport : is_other version (first_of pairs (codes "url_ver")) ≡ false
  pub encoding : is_other encoding (first_of pairs (codes "ctx_enc")) ≡ false
  pub fields : All (λ step. step.change pairs ≡ unchanged) fields
  pub copies : All (λ key. copied key pairs ≡ unchanged) old_keys
  pub kinds : All (λ step. step.change pairs ≡ unchanged) kind_steps
  pub cited : All (λ step. step.change pairs ≡ unchanged) citing_steps
  pub texts : All (λ step. step.change pairs ≡ unchanged) text_steps
  pub referrer : referred pairs ≡ unchanged
  pub issn : led (first_issn pairs) (first_of pairs (codes "rft.issn")) ≡ unchanged
  pub eissn : led (first_eissn pairs) (first_of pairs (codes "rft.eissn")) ≡ unchanged
  pub isbn : led (first_isbn pairs) (first_of pairs (codes "rft.isbn")) ≡ unchanged
  pub date : IsDateSettled (led_or_none (first_date date_keys pairs) (first_of pairs (codes "rft.date"))) (all_of pairs (codes "rft.date"))
  pub volumes : AreVolumesSettled (all_of pairs (codes "rft.issue")) (all_of pairs (codes "rft.volume"))
  pub last_page : led (last_page pairs) (first_of pairs (codes "rft.epage")) ≡ unchanged
  pub first_page : led (first_page pairs) (first_of pairs (codes "rft.spage")) ≡ unchanged
  pub works : (namespace : Namespace) → IsNamed pairs namespace

pub led-same : (first : Option Text) → led first first ≡ unchanged
led-same None = refl
led-same (Some t) = rw (bytes_eq-same t) refl

pub filled-none : (values : List Text) → filled [] values ≡ unchanged
filled-none [] = refl
filled-none (v ∷ vs) = refl

-- ---- each step, where nothing is put first and all is kept, or nothing has the key

pub stays-unchanged : (step : Step) (pairs : List KeyValue) → step.change pairs ≡ unchanged → taken pairs step ≡ pairs
stays-unchanged step pairs h = ap (λ change. changed step.key change pairs) h

pub steps-stay : (steps : List Step) (pairs : List KeyValue) → All (λ step. step.change pairs ≡ unchanged) steps → after steps pairs ≡ pairs
steps-stay [] pairs all = refl
steps-stay (step ∷ steps) pairs all =
    let P : Step → Type 0 = λ step. step.change pairs ≡ unchanged in
    ap (after steps) (stays-unchanged step pairs (All-head P step steps all)) ∙ steps-stay steps pairs (All-tail P step steps all)

others-none : (key : Text) (pairs : List KeyValue) → all_of pairs key ≡ [] → others key pairs ≡ pairs
others-none key [] h = refl
others-none key (pair ∷ pairs) h =
    let parts = not_first pair (filter (has_key key) pairs) (has_key key pair) h in
    rw parts.0 (ap (λ rest. pair ∷ rest) (others-none key pairs parts.1))

stays-replaced : (step : Step) (pairs : List KeyValue) → step.change pairs ≡ replacing [] → all_of pairs step.key ≡ [] → taken pairs step ≡ pairs
stays-replaced step pairs h none = ap (λ change. changed step.key change pairs) h ∙ others-none step.key pairs none

correction-stays : (key value : Text) (pairs : List KeyValue) → is_other value (first_of pairs key) ≡ false → taken pairs (correction key value) ≡ pairs
correction-stays key value pairs h = stays-unchanged (correction key value) pairs (rw h refl)

copies-stay : (keys : List OldKey) (pairs : List KeyValue) → All (λ key. copied key pairs ≡ unchanged) keys → after (map copy keys) pairs ≡ pairs
copies-stay [] pairs all = refl
copies-stay (key ∷ keys) pairs all =
    let P : OldKey → Type 0 = λ key. copied key pairs ≡ unchanged in
    ap (λ p. after (map copy keys) p) (stays-unchanged (copy key) pairs (All-head P key keys all))
    ∙ copies-stay keys pairs (All-tail P key keys all)

date-stays : (pairs : List KeyValue) → IsSettled pairs → taken pairs date_step ≡ pairs
date-stays pairs is =
    elim is.date [
      | inl same ↦ stays-unchanged date_step pairs same
      | inr none ↦ stays-replaced date_step pairs none.0 none.1
    ]

works-stay : (pairs : List KeyValue) → IsSettled pairs → after namings pairs ≡ pairs
works-stay pairs is =
    ap (after (naming Pmc ∷ naming Pmid ∷ naming Arxiv ∷ naming Doi ∷ [])) (stays-unchanged (naming Oclc) pairs (is.works Oclc))
    ∙ ap (after (naming Pmid ∷ naming Arxiv ∷ naming Doi ∷ [])) (stays-unchanged (naming Pmc) pairs (is.works Pmc))
    ∙ ap (after (naming Arxiv ∷ naming Doi ∷ [])) (stays-unchanged (naming Pmid) pairs (is.works Pmid))
    ∙ ap (after (naming Doi ∷ [])) (stays-unchanged (naming Arxiv) pairs (is.works Arxiv)) ∙ stays-unchanged (naming Doi) pairs (is.works Doi)

volumes-stay : (pairs : List KeyValue) → IsSettled pairs → after volume_steps pairs ≡ pairs
volumes-stay pairs is =
    ap (after (volume_step ∷ issue_step ∷ [])) (stays-unchanged added_issue_step pairs is.volumes.added)
    ∙ ap (after (issue_step ∷ [])) (stays-unchanged volume_step pairs is.volumes.volume) ∙ stays-unchanged issue_step pairs is.volumes.issue

pages-stay : (pairs : List KeyValue) → IsSettled pairs → after page_steps pairs ≡ pairs
pages-stay pairs is =
    ap (after (first_page_step ∷ [])) (stays-unchanged last_page_step pairs is.last_page) ∙ stays-unchanged first_page_step pairs is.first_page

led-stay : (pairs : List KeyValue) → IsSettled pairs → after led_steps pairs ≡ pairs
led-stay pairs is =
    ap (after (issn_step ∷ eissn_step ∷ isbn_step ∷ date_step ∷ after_dates)) (stays-unchanged referrer_step pairs is.referrer)
    ∙ ap (after (eissn_step ∷ isbn_step ∷ date_step ∷ after_dates)) (stays-unchanged issn_step pairs is.issn)
    ∙ ap (after (isbn_step ∷ date_step ∷ after_dates)) (stays-unchanged eissn_step pairs is.eissn)
    ∙ ap (after (date_step ∷ after_dates)) (stays-unchanged isbn_step pairs is.isbn)
    ∙ ap (after after_dates) (date-stays pairs is)
    ∙ ap (after after_volumes) (volumes-stay pairs is)
    ∙ ap (after namings) (pages-stay pairs is)
    ∙ works-stay pairs is

pub settled_stays : (pairs : List KeyValue) → IsSettled pairs → normal_form pairs ≡ pairs
settled_stays pairs is =
    let first : with_versions pairs ≡ pairs =
    ap (after (correction (codes "url_ver") version ∷ correction (codes "ctx_enc") encoding ∷ []))
    (correction-stays (codes "ctx_ver") version pairs is.context)
    ∙ ap (after (correction (codes "ctx_enc") encoding ∷ [])) (correction-stays (codes "url_ver") version pairs is.transport)
    ∙ correction-stays (codes "ctx_enc") encoding pairs is.encoding in
    normal_form-led pairs ∙ ap (λ p. after led_steps (after text_steps (after citing_steps (after kind_steps (after copies (after fields p)))))) first
    ∙ ap (λ p. after led_steps (after text_steps (after citing_steps (after kind_steps (after copies p))))) (steps-stay fields pairs is.fields)
    ∙ ap (λ p. after led_steps (after text_steps (after citing_steps (after kind_steps p)))) (copies-stay old_keys pairs is.copies)
    ∙ ap (λ p. after led_steps (after text_steps (after citing_steps p))) (steps-stay kind_steps pairs is.kinds)
    ∙ ap (λ p. after led_steps (after text_steps p)) (steps-stay citing_steps pairs is.cited)
    ∙ ap (after led_steps) (steps-stay text_steps pairs is.texts) ∙ led-stay pairs is
