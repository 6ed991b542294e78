-- A text is a name or not: its bytes are read once, keeping track of what may come next.
use Rattle.std.proofs.Common.{◌≡◌, ◌≢◌, ℕ, [], ◌∷◌, ◌++◌, Bool, true, false, ◌==◌, ◌⊎◌, inl, inr, length, fold, if◌then◌else◌, refl, ap, subst, sym, ◌∙◌, arith}
use Rattle.std.proofs.lemmas.Grind.{common_steps}
use Rattle.std.specs.Prelude.{nat_le}
use Rattle.std.proofs.lemmas.Bool.{and_from, cases_lt, leb-true, eqb-true}
use Rattle.std.proofs.lemmas.List.{append-nil, append_assoc}
use Rattle.std.proofs.lemmas.List.Sums.{fold-append}
use Rattle.text_model.specs.Texts.{Text, is_hexadecimal}
use Rattle.uri_grammar.specs.Names.{IsVarchar, IsVarname, IsName, is_name_character, character_varchar, triplet_varchar, first_varchar, next_varchar}
use Rattle.uri_grammar.specs.Names.{dotted_varchar}

-- what may come after the bytes so far: more or nothing, if they are a name; a varchar; two digits of a triplet, or one; nothing valid
pub data Stage : Type 0 where
  Named : Stage
  Wanting : Stage
  TwoDigits : Stage
  OneDigit : Stage
  Lost : Stage

abbrev pub started_by : ℕ → Stage
started_by b = if is_name_character b then Named else (if b == 37 then TwoDigits else Lost)

abbrev pub step : Stage → ℕ → Stage
step Named b = if b == 46 then Wanting else started_by b
step Wanting b = started_by b
step TwoDigits b = if is_hexadecimal b then OneDigit else Lost
step OneDigit b = if is_hexadecimal b then Named else Lost
step Lost b = Lost

abbrev pub after : Stage → Text → Stage
after stage text = fold step stage text

-- ---- bytes that were accepted are the beginning of a name

abbrev IsAtStage : Stage → Text → Type 0
IsAtStage Named front = IsVarname front
IsAtStage Wanting front = (v : Text) → IsVarchar v → IsVarname (front ++ v)
IsAtStage TwoDigits front = (high low : ℕ) → is_hexadecimal high ≡ true → is_hexadecimal low ≡ true → IsVarname (front ++ high ∷ low ∷ [])
IsAtStage OneDigit front = (low : ℕ) → is_hexadecimal low ≡ true → IsVarname (front ++ low ∷ [])
IsAtStage Lost front = Unit {0}

varchar_at_stage : (front : Text) → IsAtStage Wanting front → (b : ℕ) → IsAtStage (started_by b) (front ++ b ∷ [])
varchar_at_stage front w b = by_case (is_name_character b) (b == 37) refl refl
  where
    by_case : (x y : Bool) → is_name_character b ≡ x → (b == 37) ≡ y → IsAtStage (if x then Named else (if y then TwoDigits else Lost)) (front ++ b ∷ [])
    by_case true y e f = w (b ∷ []) (character_varchar b e)
    by_case false true e f = λ high low h l.
        subst IsVarname (sym (append_assoc front (b ∷ []) (high ∷ low ∷ [])))
        (w (b ∷ high ∷ low ∷ []) (triplet_varchar b high low (and_from _ _ f (and_from _ _ h l))))
    by_case false false e f = tt

step_at_stage : (stage : Stage) (front : Text) → IsAtStage stage front → (b : ℕ) → IsAtStage (step stage b) (front ++ b ∷ [])
step_at_stage Named front h b = by_case (b == 46) refl
  where
    by_case : (x : Bool) → (b == 46) ≡ x → IsAtStage (if x then Wanting else started_by b) (front ++ b ∷ [])
    by_case true e = λ v k.
        subst IsVarname (sym (append_assoc front (b ∷ []) v)) (subst (λ c. IsVarname (front ++ c ∷ v)) (sym (eqb-true b 46 e)) (dotted_varchar front v h k))
    by_case false e = varchar_at_stage front (λ v k. next_varchar front v h k) b
step_at_stage Wanting front h b = varchar_at_stage front h b
step_at_stage TwoDigits front h b = grind (arith, common_steps)
step_at_stage OneDigit front h b = grind (arith, common_steps)
step_at_stage Lost front h b = tt

text_at_stage : (text front : Text) (stage : Stage) → IsAtStage stage front → IsAtStage (after stage text) (front ++ text)
text_at_stage [] front stage h = subst (IsAtStage stage) (sym (append-nil front)) h
text_at_stage (b ∷ text) front stage h =
    subst (IsAtStage (after (step stage b) text)) (append_assoc front (b ∷ []) text)
    (text_at_stage text (front ++ b ∷ []) (step stage b) (step_at_stage stage front h b))

abbrev pub is_named : Stage → Bool
is_named Named = true
is_named stage = false

-- a name by computation
pub name_from : (text : Text) → is_named (after Wanting text) ≡ true → nat_le (length text) 255 ≡ true → IsName text
name_from text e l = (by_stage (after Wanting text) (text_at_stage text [] Wanting (λ v h. first_varchar v h)) e, leb-true (length text) 255 l)
  where
    by_stage : (stage : Stage) → IsAtStage stage text → is_named stage ≡ true → IsVarname text
    by_stage stage h f = grind (arith, common_steps)

-- ---- a name is accepted

varchar_ends_named : (v : Text) → IsVarchar v → after Wanting v ≡ Named
varchar_ends_named v (character_varchar c h) = ap (λ x. if x then Named else (if c == 37 then TwoDigits else Lost)) h
varchar_ends_named v (triplet_varchar c high low h) = grind (arith, common_steps)

-- a varchar does not begin with a dot
varchar_continues : (v : Text) → IsVarchar v → after Named v ≡ after Wanting v
varchar_continues v (character_varchar c h) = grind (arith, common_steps)
varchar_continues v (triplet_varchar c high low h) = grind (arith, eqb-true)

name_ends_named : (name : Text) → IsVarname name → after Wanting name ≡ Named
name_ends_named name (first_varchar v h) = varchar_ends_named v h
name_ends_named name (next_varchar m v h k) =
    fold-append step Wanting m v ∙ ap (λ s. after s v) (name_ends_named m h) ∙ varchar_continues v k ∙ varchar_ends_named v k
name_ends_named name (dotted_varchar m v h k) =
    fold-append step Wanting m (46 ∷ v) ∙ ap (λ s. after s (46 ∷ v)) (name_ends_named m h) ∙ varchar_ends_named v k

-- ---- the choice

stage_choice : (stage : Stage) → (stage ≡ Named) ⊎ (stage ≢ Named)
stage_choice stage = grind (arith, common_steps)

pub name_choice : (text : Text) → IsName text ⊎ (IsName text → ⊥)
name_choice text =
    elim (stage_choice (after Wanting text)) [
      | inl e ↦ elim (cases_lt 255 (length text)) [
        | inl long ↦ inr (λ h. omega (arith, long, h.1))
        | inr short ↦ inl (subst (λ s. IsAtStage s text) e (text_at_stage text [] Wanting (λ v h. first_varchar v h)), short)
      ]
      | inr n ↦ inr (λ h. n (name_ends_named text h.0))
    ]
