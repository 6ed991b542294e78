-- A block in a code has the effect that `Brings` describes: the machine goes from its first place to the place after it, or leaves the rule.
use Rattle.std.proofs.Common.{◌≡◌, ℕ, ◌+◌, ◌<◌, ◌≤◌, List, [], ◌∷◌, length, Option, Some, None, Bool, true, false, refl, sym, ap, ◌∙◌, subst, arith, ◌⊎◌, inl}
use Rattle.std.proofs.Common.{inr}
use Rattle.std.proofs.lemmas.List.{length-append}
use Rattle.std.proofs.lemmas.Grind.{common_steps}
use Rattle.text_model.specs.Texts.{Text}
use Rattle.text_model.specs.Writing.{written}
use Rattle.text_model.specs.Cut.{cut}
use Rattle.text_model.specs.Number.{leading_number}
use Rattle.text_model.specs.declared.writing.Writing.{Writing}
use Rattle.environment_model.specs.Environment.{Environment, text_of, members_of}
use Rattle.code_model.specs.Code.{Code}
use Rattle.machine_model.specs.Operands.{writing_of}
use Rattle.machine_model.specs.Values.{text_or_undefined}
use Rattle.machine_model.specs.Values as value
use Rattle.machine_model.specs.States.{Loop, End}
use Rattle.machine_model.specs.Step as step
use Rattle.machine_model.specs.Step.{IsInside}
use Rattle.compiler_model.specs.declared.lines.Action.{Action}
use Rattle.compiler_model.specs.declared.lines.Action.TheVariants.{LoadText, LoadList, LoadConst, CountMembers, Emits, Separates, Puts, Cuts}
use Rattle.compiler_model.specs.declared.lines.Test.{Test}
use Rattle.compiler_model.specs.declared.lines.Test.TheVariants.{IsUndefined, IsEmpty, HasNoMember, HasNoNumber, Differs, IsLess}
use Rattle.compiler_model.specs.declared.lines.Target.{Target}
use Rattle.compiler_model.specs.declared.lines.Target.TheVariants.{Ahead}
use Rattle.compiler_model.specs.declared.lines.Line.TheVariants.{Acts, Tests, Jumps, Begins, Turns}
use Rattle.compiler_model.specs.Blocks.{Block, Nothing, Does, Then, Unless, Either, ForEach, LeaveIf, Leave, lines}
use Rattle.compiler_model.specs.Compiled.{mode_of, place_of}
use Rattle.compiler_model.proofs.Effects.{Store, keeping, saying, Claim, Acted, Separated, Tested, InTurns, Brings}
use Rattle.compiler_model.proofs.Places.{IsPlaced, ArePlaced, placed_both, Finishes, at_place, onward, again, same_place}

writing_of-mode_of : (w : Writing) → writing_of (mode_of w) ≡ w
writing_of-mode_of w = grind (arith, common_steps)

-- whether the turn of a loop is its first
abbrev pub turn_of : Option Loop → Option Bool
turn_of None = None
turn_of (Some l) = Some l.first

-- the places after p up to q are in the loop's body, if a loop runs
abbrev pub Around : Option Loop → ℕ → ℕ → Type 0
Around l p q = (x : ℕ) → p < x → x ≤ q → IsInside l x

module _ (c : Code) (v : Environment) (e : End) where
  abbrev Ends : ℕ → Option Loop → Store → Type 0
  Ends p l s = Finishes c v e (at_place p l s)

  -- ---- one line

  acts : (a : Action) (away p : ℕ) (l : Option Loop) (s : Store) (Q : Claim) → IsPlaced c away p (Acts a) → IsInside l (p + 1) → Acted v (turn_of l) a s Q
      → ((t : Store) → Q t → Ends (p + 1) l t) → Ends p l s
  acts (LoadText a name) away p l s Q h i b k =
      onward c v e (at_place p l s) _ _ h.reads (step.text a _) (omega arith) i
      (subst (λ n. Finishes c v e (at_place (p + 1) l (keeping a (text_or_undefined (text_of v n)) s))) (sym h.text) (k _ b))
  acts (LoadList a name) away p l s Q h i b k =
      onward c v e (at_place p l s) _ _ h.reads (step.list a _) (omega arith) i
      (subst (λ n. Finishes c v e (at_place (p + 1) l (keeping a (value.List (members_of v n)) s))) (sym h.text) (k _ b))
  acts (LoadConst a t) away p l s Q h i b k =
      onward c v e (at_place p l s) _ _ h.reads (step.const a _) (omega arith) i
      (subst (λ n. Finishes c v e (at_place (p + 1) l (keeping a (value.Text n) s))) (sym h.text) (k _ b))
  acts (CountMembers a x) away p l s Q h i b k =
      onward c v e (at_place p l s) _ _ h.reads (step.count a x b.0 b.1) (omega arith) i (k _ b.2)
  acts (Emits t) away p l s Q h i b k =
      onward c v e (at_place p l s) _ _ h.reads (step.emit _) (omega arith) i
      (subst (λ n. Finishes c v e (at_place (p + 1) l (saying n s))) (sym h.text) (k _ b))
  acts (Separates t) away p None s Q h i b k = absurd b
  acts (Separates t) away p (Some l) s Q h i b k = by_turn l.first refl b
    where
      by_turn : (first : Bool) → l.first ≡ first → Separated (Some first) t s Q → Finishes c v e (at_place p (Some l) s)
      by_turn true f b = onward c v e (at_place p (Some l) s) _ _ h.reads (step.first_turn _ l refl f) (omega arith) i (k s b)
      by_turn false f b =
          onward c v e (at_place p (Some l) s) _ _ h.reads (step.later_turn _ l refl f) (omega arith) i
          (subst (λ n. Finishes c v e (at_place (p + 1) (Some l) (saying n s))) (sym h.text) (k _ b))
  acts (Puts a w) away p l s Q h i b k =
      onward c v e (at_place p l s) _ _ h.reads (step.put_text a _ b.0 b.1) (omega arith) i
      (subst (λ x. Finishes c v e (at_place (p + 1) l (saying (written x b.0) s))) (sym (writing_of-mode_of w)) (k _ b.2))
  acts (Cuts a n w) away p l s Q h i b k =
      onward c v e (at_place p l s) _ _ h.reads (step.cut_text a n _ b.0 b.1) (omega arith) i
      (subst (λ x. Finishes c v e (at_place (p + 1) l (saying (written x (cut x b.0 n)) s))) (sym (writing_of-mode_of w)) (k _ b.2))

  -- a test leads to the place d, or to the next place
  tests : (t : Test) (g : Target) (away p d : ℕ) (l : Option Loop) (s : Store) (J : Type 0) (Q : Claim) → IsPlaced c away p (Tests t g) → place_of away p g ≡ d
      → p < d → IsInside l (p + 1) → Tested t s J Q → (J → IsInside l d × Ends d l s) → ((n : Store) → Q n → Ends (p + 1) l n) → Ends p l s
  tests (IsUndefined a) g away p d l s J Q h eq lt i (inl b) j k =
      let at = j b.1 in
      onward c v e (at_place p l s) _ _ h.reads (step.undefined a _ b.0) (rw eq lt) (rw eq at.0) (rw eq at.1)
  tests (IsUndefined a) g away p d l s J Q h eq lt i (inr b) j k =
      onward c v e (at_place p l s) _ _ h.reads (step.defined a _ b.0 b.1) (omega arith) i (k s b.2)
  tests (IsEmpty a) g away p d l s J Q h eq lt i (inl b) j k =
      let at = j b.1 in
      onward c v e (at_place p l s) _ _ h.reads (step.empty a _ b.0) (rw eq lt) (rw eq at.0) (rw eq at.1)
  tests (IsEmpty a) g away p d l s J Q h eq lt i (inr b) j k =
      onward c v e (at_place p l s) _ _ h.reads (step.not_empty a _ b.0 b.1 b.2) (omega arith) i (k s b.3)
  tests (HasNoMember a) g away p d l s J Q h eq lt i (inl b) j k =
      let at = j b.1 in
      onward c v e (at_place p l s) _ _ h.reads (step.no_member a _ b.0) (rw eq lt) (rw eq at.0) (rw eq at.1)
  tests (HasNoMember a) g away p d l s J Q h eq lt i (inr b) j k =
      onward c v e (at_place p l s) _ _ h.reads (step.a_member a _ b.0 b.1 b.2) (omega arith) i (k s b.3)
  tests (HasNoNumber a x) g away p d l s J Q h eq lt i b j k = by_number b.2
    where
      by_number : ((leading_number b.0 ≡ None) × J) ⊎ ((n : ℕ) × (leading_number b.0 ≡ Some n) × Q (keeping a (value.Number n) s))
          → Finishes c v e (at_place p l s)
      by_number (inl n) =
          let at = j n.1 in
          onward c v e (at_place p l s) _ _ h.reads (step.no_number a x _ b.0 b.1 n.0) (rw eq lt) (rw eq at.0) (rw eq at.1)
      by_number (inr n) = onward c v e (at_place p l s) _ _ h.reads (step.number a x _ n.0 b.0 b.1 n.1) (omega arith) i (k _ n.2)
  tests (Differs a x) g away p d l s J Q h eq lt i b j k = by_texts b.4
    where
      by_texts : ((b.0 ≡ b.1 → ⊥) × J) ⊎ ((b.0 ≡ b.1) × Q s) → Finishes c v e (at_place p l s)
      by_texts (inl n) =
          let at = j n.1 in
          onward c v e (at_place p l s) _ _ h.reads (step.different a x _ b.0 b.1 b.2 b.3 n.0) (rw eq lt) (rw eq at.0) (rw eq at.1)
      by_texts (inr n) =
          onward c v e (at_place p l s) _ _ h.reads (step.equal a x _ b.0 b.2 (b.3 ∙ ap value.Text (sym n.0))) (omega arith) i (k s n.1)
  tests (IsLess a x) g away p d l s J Q h eq lt i b j k = by_numbers b.4
    where
      by_numbers : ((b.0 < b.1) × J) ⊎ ((b.1 ≤ b.0) × Q s) → Finishes c v e (at_place p l s)
      by_numbers (inl n) =
          let at = j n.1 in
          onward c v e (at_place p l s) _ _ h.reads (step.less a x _ b.0 b.1 b.2 b.3 n.0) (rw eq lt) (rw eq at.0) (rw eq at.1)
      by_numbers (inr n) = onward c v e (at_place p l s) _ _ h.reads (step.not_less a x _ b.0 b.1 b.2 b.3 n.0) (omega arith) i (k s n.1)

  -- ---- loops: the body is from p + 1 to before q, where NEXT is

  abbrev loop_at : ℕ → ℕ → ℕ → List Text → Bool → Loop
  loop_at p q a ts first = record { start = p + 1; end = q + 1; element = a; left = ts; first = first }

  -- the body goes from its first place to NEXT, whatever is left of the list
  abbrev RunsBody : ℕ → ℕ → ℕ → (Bool → Store → Claim → Type 0) → Type 1
  RunsBody p q a turn =
      (ts : List Text) (first : Bool) (s : Store) (Q : Claim) → turn first s Q → ((n : Store) → Q n → Ends q (Some (loop_at p q a ts first)) n)
      → Ends (p + 1) (Some (loop_at p q a ts first)) s

  -- the run from NEXT on, with these members left
  turns : (away p q a : ℕ) (turn : Bool → Store → Claim → Type 0) → RunsBody p q a turn → IsPlaced c away q Turns
      → (ts : List Text) (first : Bool) (s : Store) (Q : Claim) → InTurns turn a ts false s Q → ((n : Store) → Q n → Ends (q + 1) None n)
      → Ends q (Some (loop_at p q a ts first)) s
  turns away p q a turn body next [] first s Q b k =
      onward c v e (at_place q (Some (loop_at p q a [] first)) s) _ _ next.reads (step.leave _ refl refl refl) (omega arith) tt (k s b)
  turns away p q a turn body next (t ∷ ts) first s Q b k =
      again c v e (at_place q (Some (loop_at p q a (t ∷ ts) first)) s) _ _ next.reads (step.next_member _ t ts refl refl refl)
      (body ts false (keeping a (value.Text t) s) _ b (λ n later. turns away p q a turn body next ts false n Q later k))

  each : (away p q a b : ℕ) (turn : Bool → Store → Claim → Type 0) → RunsBody p q a turn → p < q → (places : ℕ) → p + places ≡ q + 1
      → IsPlaced c away p (Begins a b places) → IsPlaced c away q Turns → (ts : List Text) (s : Store) (Q : Claim) → s.registers b ≡ value.List ts
      → InTurns turn a ts true s Q → ((n : Store) → Q n → Ends (q + 1) None n) → Ends p None s
  each away p q a b turn body lt places eq here next [] s Q r h k =
      onward c v e (at_place p None s) _ _ here.reads (step.no_turn a b _ refl (omega (arith, eq, lt)) r) (omega (arith, eq, lt)) tt (rw eq (k s h))
  each away p q a b turn body lt places eq here next (t ∷ ts) s Q r h k =
      onward c v e (at_place p None s) _ _ here.reads (step.enter a b _ t ts refl (omega (arith, eq, lt)) r) (omega arith) (omega arith, omega (arith, eq, lt))
      (rw eq (body ts true (keeping a (value.Text t) s) _ h (λ n later. turns away p q a turn body next ts true n Q later k)))

  -- ---- blocks

  -- a block goes from p to q, or leaves the rule
  abbrev MovesTo : ℕ → ℕ → ℕ → Option Loop → Block → Type 1
  MovesTo away p q l b =
      (s : Store) (Q R : Claim) → Brings v (turn_of l) b s Q R → ((n : Store) → Q n → Ends q l n)
      → ((n : Store) → R n → IsInside l away × Ends away l n) → Ends p l s

  none_of : (l : Option Loop) → turn_of l ≡ None → l ≡ None
  none_of l h = grind (arith, common_steps)

  pub moves : (b : Block) (away p q : ℕ) (l : Option Loop) → ArePlaced c away p (lines b) → p + length (lines b) ≡ q → q ≤ away → Around l p q
      → MovesTo away p q l b
  moves Nothing away p q l h eq le i s Q R b k m = same_place c v e p q l s (omega (arith, eq)) (k s b)
  moves (Does a) away p q l h eq le i s Q R b k m =
      let next : p + 1 ≡ q = eq in
      acts a away p l s Q h.0 (i (p + 1) (omega arith) (omega (arith, eq))) b (λ n x. same_place c v e (p + 1) q l n next (k n x))
  moves (Then x y) away p q l h eq le i s Q R b k m =
      let mid = p + length (lines x) in
      let both = placed_both c away p (lines x) (lines y) h in
      let eq2 : mid + length (lines y) ≡ q = omega (arith, eq, length-append (lines x) (lines y)) in
      moves x away p mid l both.0 refl (omega (arith, eq2, le)) (λ n low high. i n low (omega (arith, high, eq2))) s _ R b
      (λ n later. moves y away mid q l both.1 eq2 le (λ z low high. i z (omega (arith, low)) high) n Q R later k m) m
  moves (Unless t x) away p q l h eq le i s Q R b k m =
      let eq2 : p + 1 + length (lines x) ≡ q = omega (arith, eq) in
      tests t _ away p q l s (Q s) _ h.0 (omega (arith, eq)) (omega (arith, eq)) (i (p + 1) (omega arith) (omega (arith, eq))) b
      (λ done. (i q (omega (arith, eq)) (omega arith), k s done))
      (λ n later. moves x away (p + 1) q l h.1 eq2 le (λ z low high. i z (omega (arith, low)) high) n Q R later k m)
  moves (Either t x y) away p q l h eq le i s Q R b k m =
      let mid = p + 1 + length (lines x) in
      let both = placed_both c away (p + 1) (lines x) (Jumps (Ahead (length (lines y) + 1)) ∷ lines y) h.1 in
      let whole : p + 1 + length (lines x) + 1 + length (lines y) ≡ q = grind (arith, common_steps) in
      let over : mid + (length (lines y) + 1) ≡ q = omega (arith, whole) in
      tests t _ away p (mid + 1) l s _ _ h.0 (omega arith) (omega arith) (i (p + 1) (omega arith) (omega (arith, whole))) b
      (λ done. (
        i (mid + 1) (omega arith) (omega (arith, whole)),
        moves y away (mid + 1) q l both.1.1 whole le (λ z low high. i z (omega (arith, low)) high) s Q
            R done k m,
      ))
      (λ n later. moves x away (p + 1) mid l both.0 refl (omega (arith, whole, le)) (λ z low high. i z (omega (arith, low)) (omega (arith, high, whole))) n Q R
      later
      (λ o done. onward c v e (at_place mid l o) _ _ both.1.0.reads (step.jump _) (omega arith) (rw over (i q (omega (arith, whole)) (omega arith)))
      (rw over (k o done))) m)
  moves (ForEach a x body) away p q l h eq le i s Q R b k m =
      let last = p + 1 + length (lines body) in
      let both = placed_both c away (p + 1) (lines body) (Turns ∷ []) h.1 in
      let whole : last + 1 ≡ q = omega (arith, eq, length-append (lines body) (Turns ∷ [])) in
      let none = none_of l b.0 in
      rw none (each away p last a x _ (λ ts first n Claimed now rest. moves body away (p + 1) last (Some (loop_at p last a ts first)) both.0 refl
      (omega (arith, whole, le)) (around p last a ts first) n Claimed (λ never. ⊥) now rest (λ o never. absurd never)) (omega arith) _ (omega arith)
      h.0 both.1.0 b.1 s Q b.2 b.3
      (λ n done. same_place c v e (last + 1) q None n whole (subst (λ o. Finishes c v e (at_place q o n)) none (k n done))))
    where
      around : (p last a : ℕ) (ts : List Text) (first : Bool) → Around (Some (loop_at p last a ts first)) (p + 1) last
      around p last a ts first z low high = (omega (arith, low), omega (arith, high))
  moves (LeaveIf t) away p q l h eq le i s Q R b k m =
      tests t _ away p away l s (R s) Q h.0 refl (omega (arith, eq, le)) (i (p + 1) (omega arith) (omega (arith, eq))) b (m s)
      (λ n done. same_place c v e (p + 1) q l n eq (k n done))
  moves Leave away p q l h eq le i s Q R b k m =
      let at = m s b in
      onward c v e (at_place p l s) _ _ h.0.reads (step.jump _) (omega (arith, eq, le)) at.0 at.1
