-- Every text has a tree or a first error: read from the left, item by item.

use Rattle.std.proofs.Common.{◌≡◌, ◌≢◌, ℕ, zero, suc, ◌+◌, ◌-◌, ◌<◌, ◌≤◌, Bool, true, false, ◌⊎◌, ⊎_elim, inl, inr, List, [], ◌∷◌, ◌++◌, length, take, drop}
use Rattle.std.proofs.Common.{refl, ap, ◌∙◌, sym, arith, append_assoc, take-append-drop, length-append, length-drop, ◌==◌, Option, Some, None}
use Rattle.std.proofs.lemmas.Bool.{cases_Bool, eqb-true, eq-eqb, both_ways}
use Rattle.std.proofs.lemmas.List.Elements.{All-nil, All-cons}
use Rattle.std.proofs.lemmas.Grind.{common_steps}
use Rattle.uri_grammar.specs.Characters.{comma}
use Rattle.uri_grammar.specs.declared.error.TemplateErrorKind.{TemplateErrorKind}
use Rattle.uri_grammar.specs.declared.error.TemplateErrorKind.TheVariants as kind
use Rattle.uri_grammar.specs.declared.parts.Spec.{Spec}
use Rattle.uri_grammar.specs.declared.names.TheConstants.{MAX_NAME_BYTES}
use Rattle.uri_grammar.specs.Private.Lengths.{literal_item_len, varchar_len, next_len}
use Rattle.uri_grammar.specs.Literals.{AreLiterals, no_literals}
use Rattle.uri_grammar.specs.Names.{IsVarname, BeginsWithVarname}
use Rattle.uri_grammar.specs.Specs.{IsModifier, IsSpec, Lacks, SpellsSpecs}
use Rattle.uri_grammar.specs.Faults.{begins_with_modifier, IsNamed, IsSpecFault, bad_name, bad_modifier, IsListFault}
use Rattle.uri_grammar.specs.Private.Reading.{modifier_of}
use Rattle.uri_grammar.proofs.LiteralLemmas.{AreLiterals-append, AreLiterals-item}
use Rattle.uri_grammar.proofs.NameLemmas.{ended_varname, IsVarname-front, IsVarname-next}
use Rattle.uri_grammar.proofs.SpecLemmas.{modifier_of-some, modifier_of-none, no_name, long_name, bad_follower}

-- ---- numbers and characters

pub none_or_some : (n : ℕ) → (n ≡ 0) ⊎ (0 < n)
none_or_some zero = inl refl
none_or_some (suc n) = inr (omega arith)

-- a text does not have a character, or is split at its first place
pub lacks_or_cut : (c : ℕ) (cs : List ℕ) → Lacks c cs ⊎ ((front : List ℕ) × (rest : List ℕ) × (cs ≡ front ++ c ∷ rest) × Lacks c front)
lacks_or_cut c [] = inl (All-nil (λ x. x ≢ c))
lacks_or_cut c (x ∷ xs) = by_test (cases_Bool (x == c)) (lacks_or_cut c xs)
  where
    by_test : (((x == c) ≡ true) ⊎ ((x == c) ≡ false)) → (Lacks c xs ⊎ ((front : List ℕ) × (rest : List ℕ) × (xs ≡ front ++ c ∷ rest) × Lacks c front))
        → Lacks c (x ∷ xs) ⊎ ((front : List ℕ) × (rest : List ℕ) × (x ∷ xs ≡ front ++ c ∷ rest) × Lacks c front)
    by_test t more =
        ⊎_elim
        (λ h. inr ([], xs, ap (λ (y : ℕ). y ∷ xs) (eqb-true x c h), All-nil (λ y. y ≢ c)))
        (λ h. ⊎_elim
        (λ lacks. inl (All-cons (λ y. y ≢ c) x xs (λ e. both_ways (x == c) h (eq-eqb x c e)) lacks))
        (λ cut. inr (x ∷ cut.0, cut.1, ap (λ (t : List ℕ). x ∷ t) cut.2, All-cons (λ y. y ≢ c) x cut.0 (λ e. both_ways (x == c) h (eq-eqb x c e)) cut.3))
        more)
        t

-- ---- runs

-- a property that is kept by each further item holds for the longest run of items
longest : (item : List ℕ → ℕ) (P : List ℕ → Type 0) → item [] ≡ 0 → ((front rest : List ℕ) → P front → 0 < item rest → P (front ++ take (item rest) rest))
    → (n : ℕ) (front rest : List ℕ) → length rest < n → P front → (all : List ℕ) × (after : List ℕ) × (front ++ rest ≡ all ++ after) × P all × (item after ≡ 0)
longest item P ends grows zero front rest l h = absurd (omega arith)
longest item P ends grows (suc n) front [] l h = (front, [], refl, h, ends)
longest item P ends grows (suc n) front (x ∷ xs) l h =
    ⊎_elim
    (λ z. (front, x ∷ xs, refl, h, z))
    (λ some.
    let len = item (x ∷ xs) in
    let shorter : length (drop len (x ∷ xs)) < n = omega (arith, length-drop len (x ∷ xs), some) in
    let more = longest item P ends grows n (front ++ take len (x ∷ xs)) (drop len (x ∷ xs)) shorter (grows front (x ∷ xs) h some) in (
      more.0,
      more.1,
      ap (λ (t : List ℕ). front ++ t) (sym (take-append-drop len (x ∷ xs)))
          ∙ (sym (append_assoc front (take len (x ∷ xs)) (drop len (x ∷ xs))) ∙ more.2),
      more.3,
      more.4,
    ))
    (none_or_some (item (x ∷ xs)))

pub longest_literals : (cs : List ℕ) → (raw : List ℕ) × (after : List ℕ) × (cs ≡ raw ++ after) × AreLiterals raw × (literal_item_len after ≡ 0)
longest_literals cs =
    longest literal_item_len AreLiterals refl (λ front rest h some. AreLiterals-append front (take (literal_item_len rest) rest) h (AreLiterals-item rest))
    (suc (length cs)) [] cs (omega arith) no_literals

longest_varname : (cs : List ℕ) → 0 < varchar_len cs → (name : List ℕ) × (after : List ℕ) × BeginsWithVarname cs name after
longest_varname cs some =
    let len = varchar_len cs in
    let run = longest next_len IsVarname refl (λ front rest h more. IsVarname-next front rest h more) (suc (length (drop len cs))) (take len cs) (drop len cs)
    (omega arith) (IsVarname-front cs some) in
    (run.0, run.1, ended_varname cs run.0 run.1 (sym (take-append-drop len cs) ∙ run.2) run.3 run.4)

-- ---- specs

modifier_or_not : (after : List ℕ) → ((m : ℕ) × (x : Bool) × IsModifier after m x) ⊎ ((m : ℕ) (x : Bool) → IsModifier after m x → ⊥)
modifier_or_not after = by_option (modifier_of after) refl
  where
    by_option : (o : Option (ℕ × Bool)) → o ≡ modifier_of after → ((m : ℕ) × (x : Bool) × IsModifier after m x)
        ⊎ ((m : ℕ) (x : Bool) → IsModifier after m x → ⊥)
    by_option None e = inr (modifier_of-none after e)
    by_option (Some p) e = inl (p.0, p.1, modifier_of-some after p e)

abbrev SpecOrFault : List ℕ → Type 0
SpecOrFault cs = ((spec : Spec) × IsSpec cs spec) ⊎ ((k : TemplateErrorKind) × (d : ℕ) × IsSpecFault cs k d)

named_or_fault : (cs name after : List ℕ) → IsNamed cs name after → SpecOrFault cs
named_or_fault cs name after is =
    ⊎_elim
    (λ m. inl (
      record { name = name; cut = m.0; explode = m.1 },
      record {
        after = after;
        whole = is.begins.whole;
        is_name = (is.begins.is_varname, is.short);
        modified = m.2;
      },
    ))
    (λ never. inr (kind.BadModifier, length name, bad_modifier cs name after is never))
    (modifier_or_not after)

short_or_fault : (cs name after : List ℕ) → BeginsWithVarname cs name after → length name ≤ MAX_NAME_BYTES → SpecOrFault cs
short_or_fault cs name [] h l = named_or_fault cs name [] (record { begins = h; short = l; follows = inl refl })
short_or_fault cs name (c ∷ after) h l =
    ⊎_elim
    (λ t. named_or_fault cs name (c ∷ after) (record { begins = h; short = l; follows = inr t }))
    (λ f. inr (kind.BadName, 0, bad_name cs (bad_follower cs name (c ∷ after) h (omega arith) f)))
    (cases_Bool (begins_with_modifier (c ∷ after)))

spec_or_fault : (cs : List ℕ) → SpecOrFault cs
spec_or_fault cs =
    ⊎_elim
    (λ z. inr (kind.BadName, 0, bad_name cs (no_name cs z)))
    (λ some.
    let v = longest_varname cs some in
    ⊎_elim
    (λ z. short_or_fault cs v.0 v.1 v.2 (omega (arith, z)))
    (λ long. inr (kind.BadName, 0, bad_name cs (long_name cs v.0 v.1 v.2 (omega (arith, long)))))
    (none_or_some (length v.0 - MAX_NAME_BYTES)))
    (none_or_some (varchar_len cs))

-- ---- lists of specs

abbrev SpecsOrFault : List ℕ → Type 0
SpecsOrFault list = ((ss : List Spec) × SpellsSpecs (list ++ comma ∷ []) ss) ⊎ ((k : TemplateErrorKind) × (d : ℕ) × IsListFault list k d)

-- the first piece of a list is not a spec
first_fault : (list piece after : List ℕ) (k : TemplateErrorKind) (d : ℕ) → list ++ comma ∷ [] ≡ piece ++ comma ∷ after → Lacks comma piece
    → IsSpecFault piece k d → IsListFault list k d
first_fault list piece after k d e lacks f = record {
  front = [];
  specs = [];
  piece = piece;
  after = after;
  distance = d;
  whole = e;
  spelled = refl;
  lacks = lacks;
  fault = f;
  place = omega arith;
}

last_or_fault : (list : List ℕ) → Lacks comma list → SpecsOrFault list
last_or_fault list lacks =
    ⊎_elim
    (λ s. inl (s.0 ∷ [], ([], record { piece = list; whole = refl; lacks = lacks; is_spec = s.1 }, refl)))
    (λ f. inr (f.0, f.1, first_fault list list [] f.0 f.1 refl lacks f.2))
    (spec_or_fault list)

-- a comma after a list, as the rest after its first piece
comma_after : (list piece rest : List ℕ) → list ≡ piece ++ comma ∷ rest → list ++ comma ∷ [] ≡ piece ++ comma ∷ (rest ++ comma ∷ [])
comma_after list piece rest e = ap (λ (t : List ℕ). t ++ comma ∷ []) e ∙ append_assoc piece (comma ∷ rest) (comma ∷ [])

first_or_fault : (list piece rest : List ℕ) → list ≡ piece ++ comma ∷ rest → Lacks comma piece → SpecsOrFault rest → SpecsOrFault list
first_or_fault list piece rest e lacks more =
    ⊎_elim
    (λ s. ⊎_elim
    (λ ss. inl (s.0 ∷ ss.0, (rest ++ comma ∷ [], record { piece = piece; whole = comma_after list piece rest e; lacks = lacks; is_spec = s.1 }, ss.1)))
    (λ f.
    let l = f.2 in
    inr (
      f.0,
      length (piece ++ comma ∷ l.front) + l.distance,
      record {
        front = piece ++ comma ∷ l.front;
        specs = s.0 ∷ l.specs;
        piece = l.piece;
        after = l.after;
        distance = l.distance;
        whole = grind (arith, common_steps);
        spelled = (l.front, record { piece = piece; whole = refl; lacks = lacks; is_spec = s.1 }, l.spelled);
        lacks = l.lacks;
        fault = l.fault;
        place = refl;
      },
    ))
    more)
    (λ f. inr (f.0, f.1, first_fault list piece (rest ++ comma ∷ []) f.0 f.1 (comma_after list piece rest e) lacks f.2))
    (spec_or_fault piece)

pub specs_or_fault : (n : ℕ) (list : List ℕ) → length list < n → SpecsOrFault list
specs_or_fault zero list l = absurd (omega arith)
specs_or_fault (suc n) list l =
    ⊎_elim
    (λ lacks. last_or_fault list lacks)
    (λ cut.
    let shorter : length cut.1 < n = omega (arith, ap length cut.2, length-append cut.0 (comma ∷ cut.1), l) in
    first_or_fault list cut.0 cut.1 cut.2 cut.3 (specs_or_fault n cut.1 shorter))
    (lacks_or_cut comma list)
