-- The numbers in a text are words of it.
use Rattle.std.proofs.Common.{◌≡◌, List, [], ◌∷◌, true, cond, not, ◌&&◌, Bool, Option, Some, None, get_or, refl, subst}
use Rattle.std.specs.List.{All}
use Rattle.std.proofs.lemmas.Bool.{cond_both, and_parts}
use Rattle.std.proofs.lemmas.List.Elements.{All-head, All-tail}
use Rattle.text_model.specs.Texts.{Text}
use Rattle.article_places.specs.Labels.{is_label, is_issue_word, is_supplement_word}
use Rattle.article_places.specs.Words.{is_open, is_number, words}
use Rattle.article_places.specs.Enumerations as spec
use Rattle.article_places.specs.Enumerations.{Numbers}

-- what holds of the text, if there is one
unfoldable pub Holds : (Text → Type 0) → Option Text → Type 0
Holds P None = Unit {0}
Holds P (Some t) = P t

pub holds : (P : Text → Type 0) (o : Option Text) (t : Text) → Holds P o → o ≡ Some t → P t
unfolding Holds
holds P o t h e = subst (Holds P) e h

-- a number of which P holds
pub record IsNumberOf (P : Text → Type 0) (t : Text) : Type 0 where
  pub is : P t
  pub number : is_number t ≡ true

-- nothing, or which supplement it is
abbrev pub is_found_mark : Text → Bool
is_found_mark [] = true
is_found_mark (b ∷ t) = spec.is_mark (b ∷ t) && not (is_issue_word (b ∷ t))

found_mark : (t : Text) → (spec.is_mark t && not (is_issue_word t)) ≡ true → is_found_mark t ≡ true
found_mark [] h = refl
found_mark (b ∷ t) h = h

-- of which P holds
pub record IsMarkOf (P : Text → Type 0) (t : Text) : Type 0 where
  pub is : P t
  pub mark : is_found_mark t ≡ true

-- there is a first number if there is an issue
unfoldable pub AreOrdered : Option Text → Option Text → Type 0
AreOrdered None (Some issue) = ⊥
AreOrdered first issue = Unit {0}

pub record AreOf (P : Text → Type 0) (n : Numbers) : Type 0 where
  pub first : Holds (IsNumberOf P) n.first
  pub issue : Holds (IsNumberOf P) n.issue
  pub supplement : Holds (IsMarkOf P) n.supplement
  pub ordered : AreOrdered n.first n.issue

pub AreIf : (Text → Type 0) → Option Numbers → Type 0
AreIf P None = Unit {0}
AreIf P (Some n) = AreOf P n

-- ---- the end

supplement_is : (P : Text → Type 0) → P [] → (ws : List Text) → All P ws → Holds (IsMarkOf P) (spec.supplement ws)
unfolding Holds
supplement_is P empty [] all = record { is = empty; mark = refl }
supplement_is P empty (mark ∷ []) all =
    cond_both (spec.is_mark mark && not (is_issue_word mark)) (Some mark) None (Holds (IsMarkOf P))
    (λ h. record { is = All-head P mark [] all; mark = found_mark mark h }) (λ _. tt)
supplement_is P empty (mark ∷ word ∷ ws) all = tt

with_supplement_are : (P : Text → Type 0) (first issue mark : Option Text) → Holds (IsNumberOf P) first → Holds (IsNumberOf P) issue
    → AreOrdered first issue → Holds (IsMarkOf P) mark → AreIf P (spec.with_supplement first issue mark)
unfolding Holds AreIf
with_supplement_are P first issue None f i o m = tt
with_supplement_are P first issue (Some mark) f i o m = record { first = f; issue = i; supplement = m; ordered = o }

after_issue_word_are : (P : Text → Type 0) (ws : List Text) → All P ws → All P (spec.after_issue_word ws)
after_issue_word_are P [] all = all
after_issue_word_are P (word ∷ ws) all = cond_both (is_issue_word word) ws (word ∷ ws) (All P) (λ _. All-tail P word ws all) (λ _. all)

ended_are : (P : Text → Type 0) → P [] → (first issue : Option Text) → Holds (IsNumberOf P) first → Holds (IsNumberOf P) issue
    → AreOrdered first issue → (ws : List Text) → All P ws → AreIf P (spec.ended first issue ws)
unfolding Holds AreIf
ended_are P empty first issue f i o [] all = record { first = f; issue = i; supplement = tt; ordered = o }
ended_are P empty first issue f i o (word ∷ ws) all =
    let rest = spec.after_issue_word ws in
    cond_both (is_supplement_word word) (spec.with_supplement first issue (spec.supplement rest)) None (AreIf P)
    (λ _. with_supplement_are P first issue (spec.supplement rest) f i o
    (supplement_is P empty rest (after_issue_word_are P ws (All-tail P word ws all))))
    (λ _. tt)

-- ---- the numbers

after_year_are : (P : Text → Type 0) (ws : List Text) → All P ws → All P (spec.after_year ws)
after_year_are P [] all = all
after_year_are P (word ∷ []) all = all
after_year_are P (bracket ∷ word ∷ ws) all =
    cond_both (is_open (get_or bracket 0 0) && spec.is_year word) ws (bracket ∷ word ∷ ws) (All P)
    (λ _. All-tail P word ws (All-tail P bracket (word ∷ ws) all)) (λ _. all)

with_issue_are : (P : Text → Type 0) → P [] → (first : Text) → IsNumberOf P first → (ws : List Text) → All P ws → AreIf P (spec.with_issue first ws)
unfolding Holds AreOrdered
with_issue_are P empty first f [] all = ended_are P empty (Some first) None f tt tt [] all
with_issue_are P empty first f (word ∷ ws) all =
    let rest = spec.after_issue_word (spec.after_year ws) in
    cond_both (is_number word) (spec.ended (Some first) (Some word) rest) (spec.ended (Some first) None (word ∷ ws)) (AreIf P)
    (λ h. ended_are P empty (Some first) (Some word) f (record { is = All-head P word ws all; number = h }) tt rest
    (after_issue_word_are P (spec.after_year ws) (after_year_are P ws (All-tail P word ws all))))
    (λ _. ended_are P empty (Some first) None f tt tt (word ∷ ws) all)

after_first_are : (P : Text → Type 0) → P [] → (first : Text) → IsNumberOf P first → (ws : List Text) → All P ws → AreIf P (spec.after_first first ws)
unfolding Holds AreOrdered
after_first_are P empty first f [] all = ended_are P empty (Some first) None f tt tt [] all
after_first_are P empty first f (word ∷ ws) all =
    let rest = spec.after_issue_word ws in
    cond_both (is_issue_word word) (spec.with_issue first rest)
    (cond (spec.is_s_number word) (spec.ended (Some first) (Some word) ws) (spec.ended (Some first) None (word ∷ ws))) (AreIf P)
    (λ _. with_issue_are P empty first f rest (after_issue_word_are P ws (All-tail P word ws all)))
    (λ _. cond_both (spec.is_s_number word) (spec.ended (Some first) (Some word) ws) (spec.ended (Some first) None (word ∷ ws)) (AreIf P)
    (λ h. ended_are P empty (Some first) (Some word) f (record { is = All-head P word ws all; number = (and_parts _ _ h).1 }) tt ws
    (All-tail P word ws all))
    (λ _. ended_are P empty (Some first) None f tt tt (word ∷ ws) all))

from_first_are : (P : Text → Type 0) → P [] → (ws : List Text) → All P ws → AreIf P (spec.from_first ws)
unfolding Holds AreOrdered
from_first_are P empty [] all = ended_are P empty None None tt tt tt [] all
from_first_are P empty (word ∷ ws) all =
    cond_both (is_number word) (spec.after_first word (spec.after_year ws)) (spec.ended None None (word ∷ ws)) (AreIf P)
    (λ h. after_first_are P empty word (record { is = All-head P word ws all; number = h }) (spec.after_year ws)
    (after_year_are P ws (All-tail P word ws all)))
    (λ _. ended_are P empty None None tt tt tt (word ∷ ws) all)

after_label_are : (P : Text → Type 0) (ws : List Text) → All P ws → All P (spec.after_label ws)
after_label_are P [] all = all
after_label_are P (word ∷ ws) all = cond_both (is_label word) ws (word ∷ ws) (All P) (λ _. All-tail P word ws all) (λ _. all)

pub numbers_are : (P : Text → Type 0) → P [] → (text : Text) → All P (words text) → (n : Numbers) → spec.numbers_in text ≡ Some n → AreOf P n
unfolding AreIf
numbers_are P empty text all n e =
    subst (AreIf P) e (from_first_are P empty (spec.after_label (words text)) (after_label_are P (words text) all))
