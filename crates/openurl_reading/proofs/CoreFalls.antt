-- What does not become Dublin Core by the steps after it, and what these do to titles.
use Rattle.std.proofs.Common.{◌≡◌, List, [], ◌∷◌, Bool, true, false, not, ◌&&◌, ◌||◌, refl, sym, ap, ◌∙◌, subst, inl, inr, ◌⊎◌}
use Rattle.std.specs.Prelude.{codes, slice_get}
use Rattle.std.specs.List.{list_all}
use Rattle.std.specs.Option.{option_map_or, is_some}
use Rattle.std.specs.Str.{bytes_eq}
use Rattle.std.proofs.lemmas.Bool.{and_parts}
use Rattle.text_model.specs.Texts.{Text}
use Rattle.kev_read.specs.Pairs.{KeyValue, all_of}
use Rattle.openurl_reading.specs.declared.kinds.Kind.{Kind}
use Rattle.openurl_reading.specs.declared.kinds.Kind.TheVariants.{Book, Dissertation, Journal}
use Rattle.openurl_reading.specs.DublinCore.{is_core_format, has_element, is_core}
use Rattle.openurl_reading.specs.Formats.{format_of, format_step}
use Rattle.openurl_reading.specs.Kinds.{kind_of}
use Rattle.openurl_reading.specs.OldKeys.{filled, copy}
use Rattle.openurl_reading.specs.Steps.{Step, taken, after}
use Rattle.openurl_reading.specs.Titles.{is_titled, title_key, of_title, titlings}
use Rattle.openurl_reading.proofs.KeysSettle.{same_after}
use Rattle.openurl_reading.proofs.KindStays.{AreKindsSame, kinds_after}
use Rattle.openurl_reading.proofs.Stages.{last_steps}
use Rattle.openurl_reading.proofs.Titled.{titlings_stay, titlings_copy}
use Rattle.openurl_reading.proofs.Values.{values_after, all_of-taken, all_of-taken-own}
use Rattle.openurl_reading.proofs.CoreCopied.{same_core}

-- ---- a request that is not Dublin Core is none after all steps

-- the format stays, or is the one that the kind has
abbrev IsFormatKept : List Text → List Text → Type 0
IsFormatKept before now = (now ≡ before) ⊎ ((kind : Kind) × (now ≡ format_of kind ∷ []))

filled_format : (kind : Kind) (known : List Text) → IsFormatKept known (values_after (filled (format_of kind ∷ []) known) known)
filled_format kind [] = inr (kind, refl)
filled_format kind (v ∷ vs) = inl refl

format_kept : (pairs : List KeyValue) → IsFormatKept (all_of pairs (codes "rft_val_fmt")) (all_of (taken pairs format_step) (codes "rft_val_fmt"))
format_kept [] = inl refl
format_kept (pair ∷ pairs) =
    let all = pair ∷ pairs in
    subst (IsFormatKept (all_of all (codes "rft_val_fmt"))) (sym (all_of-taken-own format_step all))
    (filled_format (kind_of all) (all_of all (codes "rft_val_fmt")))

no_core_format : (kind : Kind) → is_core_format (format_of kind) ≡ false
no_core_format Book = refl
no_core_format Dissertation = refl
no_core_format Journal = refl

core_by_format : (formats now : List Text) (b : Bool) → IsFormatKept formats now → option_map_or is_core_format (slice_get formats 0) b ≡ false
    → option_map_or is_core_format (slice_get now 0) b ≡ false
core_by_format formats now b (inl same) h = ap (λ vs. option_map_or is_core_format (slice_get vs 0) b) same ∙ h
core_by_format formats now b (inr (kind, is)) h = ap (λ vs. option_map_or is_core_format (slice_get vs 0) b) is ∙ no_core_format kind

-- from the steps before the titles on
pub core_falls : (between : List Step) (pairs : List KeyValue)
    → list_all (λ key. list_all (λ step. not (bytes_eq step.key key)) between)
    (codes "rft_val_fmt" ∷ codes "rft.creator" ∷ codes "rft.source" ∷ codes "rft.identifier" ∷ []) ≡ true
    → is_core pairs ≡ false → is_core (after last_steps (taken (after between pairs) format_step)) ≡ false
core_falls between pairs h fails =
    let titled = after between pairs in
    let now = after last_steps (taken titled format_step) in
    let formats : all_of now (codes "rft_val_fmt") ≡ all_of (taken titled format_step) (codes "rft_val_fmt") =
    same_after last_steps (taken titled format_step) (codes "rft_val_fmt") refl in
    let parts = and_parts _ _ h in
    let kept : IsFormatKept (all_of pairs (codes "rft_val_fmt")) (all_of now (codes "rft_val_fmt")) =
    subst (λ vs. IsFormatKept vs (all_of now (codes "rft_val_fmt"))) (same_after between pairs (codes "rft_val_fmt") parts.0)
    (subst (IsFormatKept (all_of titled (codes "rft_val_fmt"))) (sym formats) (format_kept titled)) in
    let rest = and_parts _ _ parts.1 in
    let last = and_parts _ _ rest.1 in
    let creators = same_after (format_step ∷ last_steps) titled (codes "rft.creator") refl ∙ same_after between pairs (codes "rft.creator") rest.0 in
    let sources = same_after (format_step ∷ last_steps) titled (codes "rft.source") refl ∙ same_after between pairs (codes "rft.source") last.0 in
    let identifiers = same_after (format_step ∷ last_steps) titled (codes "rft.identifier") refl
    ∙ same_after between pairs (codes "rft.identifier") (and_parts _ _ last.1).0 in
    let now_formats = all_of now (codes "rft_val_fmt") in
    same_core now_formats now_formats (all_of now (codes "rft.creator")) (all_of pairs (codes "rft.creator"))
    (all_of now (codes "rft.source")) (all_of pairs (codes "rft.source")) (all_of now (codes "rft.identifier")) (all_of pairs (codes "rft.identifier"))
    refl creators sources identifiers
    ∙ core_by_format (all_of pairs (codes "rft_val_fmt")) now_formats (has_element pairs) kept fails

pub and-false : (b : Bool) → b && false ≡ false
and-false true = refl
and-false false = refl

pub and_falls : (a a' b b' : Bool) → (a ≡ false → a' ≡ false) → b' ≡ b → a && b ≡ false → a' && b' ≡ false
and_falls false a' b b' f e h = ap (λ c. c && b') (f refl)
and_falls true a' true b' f e h = cc
and_falls true a' false b' f e h = ap (λ c. a' && c) e ∙ and-false a'

-- ---- the titles, after the steps of titles

-- they do nothing, or nothing to `rft.title`, or give it that of a dissertation
pub data IsTitleApart (before now : List KeyValue) : Type 0 where
  all_kept : now ≡ before → IsTitleApart before now
  no_title : all_of now (codes "rft.title") ≡ [] → IsTitleApart before now
  of_dissertation : AreKindsSame now before → kind_of before ≡ Dissertation → all_of before (codes "rft.jtitle") ≡ [] → IsTitleApart before now

no_titles : (a b c : List Text) → is_some (slice_get a 0) || (is_some (slice_get b 0) || (is_some (slice_get c 0) || false)) ≡ false → (b ≡ []) × (c ≡ [])
no_titles [] (v ∷ vs) c h = cc
no_titles (x ∷ xs) (v ∷ vs) c h = cc
no_titles [] [] (w ∷ ws) h = cc
no_titles (x ∷ xs) [] (w ∷ ws) h = cc
no_titles a [] [] h = (refl, refl)

pub title_apart : (before : List KeyValue) → IsTitleApart before (after titlings before)
title_apart before = by_test (is_titled before) refl
  where
    titled : List KeyValue
    titled = after titlings before

    by_kind : (kind : Kind) → kind_of before ≡ kind → titled ≡ taken before (copy (of_title (title_key kind))) → all_of before (codes "rft.title") ≡ []
        → all_of before (codes "rft.jtitle") ≡ [] → IsTitleApart before titled
    by_kind Book e is none journal =
        no_title (ap (λ p. all_of p (codes "rft.title")) is ∙ all_of-taken (copy (of_title (codes "rft.btitle"))) before (codes "rft.title") refl ∙ none)
    by_kind Journal e is none journal =
        no_title (ap (λ p. all_of p (codes "rft.title")) is ∙ all_of-taken (copy (of_title (codes "rft.jtitle"))) before (codes "rft.title") refl ∙ none)
    by_kind Dissertation e is none journal =
        of_dissertation (subst (λ p. AreKindsSame p before) (sym is) (kinds_after (copy (of_title (codes "rft.title")) ∷ []) before refl)) e journal

    by_test : (b : Bool) → is_titled before ≡ b → IsTitleApart before titled
    by_test true e = all_kept (titlings_stay before e)
    by_test false e =
        let none = no_titles (all_of before (codes "rft.btitle")) (all_of before (codes "rft.title")) (all_of before (codes "rft.jtitle")) e in
        by_kind (kind_of before) refl (titlings_copy before e) none.0 none.1
