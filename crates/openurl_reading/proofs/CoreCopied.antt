-- What the elements of Dublin Core copy.
use Rattle.std.proofs.Common.{◌≡◌, List, Bool, true, false, not, ◌&&◌, ◌||◌, refl, sym, ap, ◌∙◌, subst}
use Rattle.std.specs.Prelude.{codes, slice_get}
use Rattle.std.specs.Option.{option_map_or, is_some}
use Rattle.text_model.specs.Texts.{Text}
use Rattle.kev_read.specs.Pairs.{KeyValue, all_of}
use Rattle.openurl_reading.specs.DublinCore.{is_core_format, is_core, creator, core_type, is_typed, of_core_title}
use Rattle.openurl_reading.specs.DublinCore.{is_in_journal, is_book, is_of_core_book, core_titles}
use Rattle.openurl_reading.specs.Kinds.{has, kind_of}
use Rattle.openurl_reading.specs.OldKeys.{OldKey, copy, copying}
use Rattle.openurl_reading.specs.Steps.{taken, after}
use Rattle.openurl_reading.proofs.Copied.{IsCopyOf, one_copy, copying-is, copying-made, not_copied}
use Rattle.openurl_reading.proofs.Values.{all_of-taken}

-- ---- what they copy

pub creator-is : (pairs : List KeyValue) → IsCopyOf (codes "rft.creator") pairs (taken pairs (copying is_core creator))
creator-is pairs = copying-is is_core (codes "rft.creator") (codes "rft.au") pairs refl

pub type-is : (pairs : List KeyValue) → IsCopyOf (codes "rft.type") pairs (taken pairs (copying is_typed core_type))
type-is pairs = copying-is is_typed (codes "rft.type") (codes "rft.genre") pairs refl

in_journal : (core some : Bool) (rest : Bool) → core && some ≡ true → core && (not some && rest) ≡ false
in_journal true true rest h = refl
in_journal true false rest h = cc
in_journal false some rest h = cc

-- by the values of the keys that say it
abbrev pub core_by : (formats creators sources identifiers : List Text) → Bool
core_by formats creators sources identifiers =
    option_map_or is_core_format (slice_get formats 0)
    (is_some (slice_get creators 0) || is_some (slice_get sources 0) || is_some (slice_get identifiers 0))

pub same_core : (f f' c c' s s' i i' : List Text) → f ≡ f' → c ≡ c' → s ≡ s' → i ≡ i' → core_by f c s i ≡ core_by f' c' s' i'
same_core f f' c c' s s' i i' a b d e = rw (a, b, d, e) refl

core_still : (pairs : List KeyValue) → is_core (taken pairs (copying is_in_journal (of_core_title (codes "rft.atitle")))) ≡ is_core pairs
core_still pairs =
    let step = copying is_in_journal (of_core_title (codes "rft.atitle")) in
    same_core _ _ _ _ _ _ _ _ (all_of-taken step pairs (codes "rft_val_fmt") refl) (all_of-taken step pairs (codes "rft.creator") refl)
    (all_of-taken step pairs (codes "rft.source") refl) (all_of-taken step pairs (codes "rft.identifier") refl)

pub titles-is : (pairs : List KeyValue) → IsCopyOf (codes "rft.title") pairs (after core_titles pairs)
titles-is pairs = by_test (is_in_journal pairs) refl
  where
    article : OldKey
    article = of_core_title (codes "rft.atitle")

    book : OldKey
    book = of_core_title (codes "rft.btitle")

    by_test : (b : Bool) → is_in_journal pairs ≡ b → IsCopyOf (codes "rft.title") pairs (after core_titles pairs)
    by_test true e =
        let next = taken pairs (copying is_in_journal article) in
        let one : next ≡ taken pairs (copy article) = copying-made is_in_journal article pairs e in
        let journals : all_of next (codes "rft.jtitle") ≡ all_of pairs (codes "rft.jtitle") =
        all_of-taken (copying is_in_journal article) pairs (codes "rft.jtitle") refl in
        let still : is_in_journal next ≡ true =
        ap (λ b. b && has next (codes "rft.jtitle")) (core_still pairs)
        ∙ ap (λ vs. is_core pairs && is_some (slice_get vs 0)) journals ∙ e in
        one_copy (codes "rft.atitle") refl
        (not_copied is_of_core_book book next (in_journal (is_core next) (has next (codes "rft.jtitle")) (is_book (kind_of next)) still) ∙ one)
    by_test false e =
        subst (λ p. IsCopyOf (codes "rft.title") pairs (taken p (copying is_of_core_book book))) (sym (not_copied is_in_journal article pairs e))
        (copying-is is_of_core_book (codes "rft.title") (codes "rft.btitle") pairs refl)
