-- What the state of a text says of the text's host.
use Rattle.std.proofs.Common.{◌≡◌, ◌≢◌, ℕ, ◌+◌, ◌==◌, Bool, true, false, not, ◌&&◌, ◌||◌, cond, [], ◌∷◌, ◌++◌, take, Option, Some, None, refl, sym, ap, ◌∙◌}
use Rattle.std.proofs.lemmas.Grind.{common_steps}
use Rattle.std.proofs.Common.{subst, ◌⊎◌, inl, inr, arith}
use Rattle.std.specs.List.{before_first, prefix_len, list_any}
use Rattle.std.proofs.lemmas.Bool.{or_from}
use Rattle.text_model.specs.Texts.{Text}
use Rattle.rule_lint.specs.declared.host_state.HostState.{HostState}
use Rattle.rule_lint.specs.declared.host_state.HostState.TheVariants.{Outside, Slash, Opened, Inside, Past, Lost}
use Rattle.rule_lint.specs.HostStates.{after_byte, after_text, at_sign, ends_host, slash, state_of}
use Rattle.rule_lint.specs.Host.{after_slashes, host_after, host_of}
use Rattle.lint_laws.specs.Browsers.{is_at_sign}
use Rattle.lint_laws.specs.RowLinks.{IsPlainHost}
use Rattle.lint_laws.proofs.HostStates.{lost_stays}

-- ---- the first part of a text, up to the byte that ends the host

abbrev pub first_part : Text → Text
first_part t = before_first ends_host t

pub part_ends : (b : ℕ) (t : Text) → ends_host b ≡ true → first_part (b ∷ t) ≡ []
part_ends b t e = ap (λ (ends : Bool). take (cond (not ends) (1 + prefix_len (λ x. not (ends_host x)) t) 0) (b ∷ t)) e

pub part_continues : (b : ℕ) (t : Text) → ends_host b ≡ false → first_part (b ∷ t) ≡ b ∷ first_part t
part_continues b t e = grind (arith, common_steps)

-- what comes after it does not change it if it begins with a byte that ends the host
abbrev pub IsEnd : Text → Type 0
IsEnd [] = Unit {0}
IsEnd (b ∷ t) = ends_host b ≡ true

part_ended : (t more : Text) → IsEnd more → first_part (t ++ more) ≡ first_part t
part_ended [] [] h = refl
part_ended [] (c ∷ more) h = part_ends c more h
part_ended (b ∷ t) more h = grind (arith, part_continues, part_ended t more h)

-- ---- states in which a host has begun

-- it has begun, and it may have ended
abbrev pub IsFound : HostState → Type 0
IsFound Inside = Unit {0}
IsFound Past = Unit {0}
IsFound s = ⊥

abbrev IsOpen : HostState → Type 0
IsOpen Opened = Unit {0}
IsOpen Inside = Unit {0}
IsOpen s = ⊥

lost_not_found : (t : Text) → IsFound (after_text Lost t) → ⊥
lost_not_found t h = subst IsFound (lost_stays t) h

-- the state after one more byte of a host that is not yet ended
after_open : (s : HostState) (b : ℕ) → IsOpen s → ends_host b ≡ false → (b == at_sign) ≡ false → after_byte s b ≡ Inside
after_open s b o e f = grind (arith, common_steps)

after_at_sign : (s : HostState) (b : ℕ) → IsOpen s → ends_host b ≡ false → (b == at_sign) ≡ true → after_byte s b ≡ Lost
after_at_sign s b o e f = grind (arith, common_steps)

-- such a state is found only without an `@`
no_user : (s : HostState) (t : Text) → IsOpen s → IsFound (after_text s t) → list_any is_at_sign (first_part t) ≡ false
no_user s [] o h = refl
no_user s (b ∷ t) o h = by_end (ends_host b) (b == at_sign) refl refl h (no_user Inside t tt)
  where
    by_end : (ends is : Bool) → ends_host b ≡ ends → (b == at_sign) ≡ is → IsFound (after_text (after_byte s b) t)
        → (IsFound (after_text Inside t) → list_any is_at_sign (first_part t) ≡ false) → list_any is_at_sign (first_part (b ∷ t)) ≡ false
    by_end ends is e f h later = grind (arith, lost_not_found, after_at_sign, part_continues, or_from, after_open)

-- and only if there is a host
not_empty : (t : Text) → IsFound (after_text Opened t) → first_part t ≢ []
not_empty [] h = absurd h
not_empty (b ∷ t) h = grind (arith, lost_not_found, part_continues)

-- a host that has ended stays as it is
part_past : (s : HostState) (t more : Text) → IsOpen s → after_text s t ≡ Past → first_part (t ++ more) ≡ first_part t
part_past s [] more o h = absurd (subst IsOpen h o)
part_past s (b ∷ t) more o h = by_end (ends_host b) (b == at_sign) refl refl h (part_past Inside t more tt)
  where
    by_end : (ends is : Bool) → ends_host b ≡ ends → (b == at_sign) ≡ is → after_text (after_byte s b) t ≡ Past
        → (after_text Inside t ≡ Past → first_part (t ++ more) ≡ first_part t) → first_part (b ∷ (t ++ more)) ≡ first_part (b ∷ t)
    by_end ends is e f h later = grind (arith, part_ends, lost_not_found, part_continues, after_open)

-- ---- the host of a text

slashes_stay : (t more rest : Text) → after_slashes t ≡ Some rest → after_slashes (t ++ more) ≡ Some (rest ++ more)
slashes_stay [] more rest e = absurd (cc)
slashes_stay (b ∷ []) more rest e = absurd (cc)
slashes_stay (b ∷ c ∷ t) more rest e = two (b == slash && c == slash) e (slashes_stay (c ∷ t) more rest)
  where
    two : (are : Bool) → cond are (Some t) (after_slashes (c ∷ t)) ≡ Some rest
        → (after_slashes (c ∷ t) ≡ Some rest → after_slashes (c ∷ (t ++ more)) ≡ Some (rest ++ more))
        → cond are (Some (t ++ more)) (after_slashes (c ∷ (t ++ more))) ≡ Some (rest ++ more)
    two are e later = grind (arith, common_steps)

-- what follows the first `//` leads on from there; without one, the state is one of the first two
abbrev IsBefore : HostState → Type 0
IsBefore Outside = Unit {0}
IsBefore Slash = Unit {0}
IsBefore s = ⊥

abbrev LeadsTo : Option Text → HostState → Type 0
LeadsTo None s = IsBefore s
LeadsTo (Some rest) s = s ≡ after_text Opened rest

leads : (t : Text) → LeadsTo (after_slashes t) (state_of t)
leads [] = tt
leads (b ∷ []) = grind (arith, common_steps)
leads (b ∷ c ∷ t) = grind (arith, common_steps, leads (c ∷ t))

-- the slashes are there if the host has begun
pub record Started (t : Text) : Type 0 where
  rest : Text
  found : after_slashes t ≡ Some rest
  state : state_of t ≡ after_text Opened rest

started : (t : Text) → (IsBefore (state_of t) → ⊥) → Started t
started t h = by (after_slashes t) refl (leads t)
  where
    by : (after : Option Text) → after_slashes t ≡ after → LeadsTo after (state_of t) → Started t
    by after e f = grind (arith, common_steps)

found_is_late : (s : HostState) → IsFound s → IsBefore s → ⊥
found_is_late s h k = grind (arith, common_steps)

begun : (t : Text) → IsFound (state_of t) → Started t
begun t h = started t (found_is_late (state_of t) h)

host_is : (t : Text) (b : Started t) → host_of t ≡ first_part b.rest
host_is t b = ap host_after b.found

host_more : (t more : Text) (b : Started t) → host_of (t ++ more) ≡ first_part (b.rest ++ more)
host_more t more b = ap host_after (slashes_stay t more b.rest b.found)

-- what comes after a host that has ended does not change it
pub host_past : (t more : Text) → state_of t ≡ Past → host_of (t ++ more) ≡ host_of t
host_past t more h =
    let b = begun t (subst IsFound (sym h) tt) in
    host_more t more b ∙ (part_past Opened b.rest more tt (sym b.state ∙ h) ∙ sym (host_is t b))

-- nor does what begins with a byte that ends it
pub host_ended : (t more : Text) → IsFound (state_of t) → IsEnd more → host_of (t ++ more) ≡ host_of t
host_ended t more h e =
    let b = begun t h in
    host_more t more b ∙ (part_ended b.rest more e ∙ sym (host_is t b))

pub host_plain : (t : Text) → IsFound (state_of t) → IsPlainHost (host_of t)
host_plain t h =
    let b = begun t h in
    let found : IsFound (after_text Opened b.rest) = subst IsFound b.state h in
    record {
      some = λ none. not_empty b.rest found (sym (host_is t b) ∙ none);
      no_user = ap (list_any is_at_sign) (host_is t b) ∙ no_user Opened b.rest tt found;
    }

-- ---- texts without slashes

-- there is no `//` in a text that ends before it
pub no_slashes : (t : Text) → (state_of t ≡ Outside) ⊎ (state_of t ≡ Slash) → after_slashes t ≡ None
no_slashes t h = by (after_slashes t) refl (leads t)
  where
    opened_later : (s : HostState) (u : Text) → (IsBefore s → ⊥) → IsBefore (after_text s u) → ⊥
    opened_later s [] early h = early h
    opened_later Outside (b ∷ u) early h = absurd (early tt)
    opened_later Slash (b ∷ u) early h = absurd (early tt)
    opened_later Opened (b ∷ u) early h = opened_later (after_byte Opened b) u (by_test (ends_host b || (b == at_sign))) h
      where
        by_test : (x : Bool) → IsBefore (cond x Lost Inside) → ⊥
        by_test x k = grind (arith, common_steps)
    opened_later Inside (b ∷ u) early h = opened_later (after_byte Inside b) u (by_tests (ends_host b) (b == at_sign)) h
      where
        by_tests : (x y : Bool) → IsBefore (cond x Past (cond y Lost Inside)) → ⊥
        by_tests x y k = grind (arith, common_steps)
    opened_later Past (b ∷ u) early h = opened_later Past u (λ k. k) h
    opened_later Lost (b ∷ u) early h = opened_later Lost u (λ k. k) h

    before : IsBefore (state_of t)
    before = elim h [ inl e ↦ subst IsBefore (sym e) tt | inr e ↦ subst IsBefore (sym e) tt ]

    by : (after : Option Text) → after_slashes t ≡ after → LeadsTo after (state_of t) → after_slashes t ≡ None
    by None e f = e
    by (Some rest) e f = absurd (opened_later Opened rest (λ k. k) (subst IsBefore f before))
