-- A typable code of good form never gets stuck.

use Rattle.std.proofs.Common.{◌≡◌, ℕ, ◌+◌, ◌<◌, List, [], ◌∷◌, length, Option, Some, None, Bool, true, false, refl, sym, ap, ◌∙◌, subst, arith, add-one, ⊎_elim}
use Rattle.std.specs.Prelude.{nat_lt, ◌||◌, not, option_map, bytes_eq}
use Rattle.std.specs.List.{AllByRecursion}
use Rattle.std.proofs.lemmas.Bool.{eqb-true, ltb-true, false≢true, cases_lt}
use Rattle.std.proofs.lemmas.Slice.Eq.{bytes_eq-Decides}
use Rattle.std.proofs.lemmas.Option.{same_Some}
use Rattle.std.proofs.lemmas.Grind.{common_steps}
use Rattle.text_model.specs.Texts.{Text}
use Rattle.text_model.specs.Number.{leading_number}
use Rattle.environment_model.specs.Environment.{Environment, text_of, members_of}
use Rattle.code_model.specs.Code.{Code}
use Rattle.code_model.specs.declared.code.Instruction.{Instruction}
use Rattle.code_model.specs.declared.code.Instruction.TheVariants.{Halt, Fail, Jump, Text as LoadText, List as LoadList, Const, Number, Undef, Empty, NoList}
use Rattle.code_model.specs.declared.code.Instruction.TheVariants.{Differ, Less, Emit, Put, Cut, Each, Sep, Next, Count}
use Rattle.machine_model.specs.declared.form.Body.{Body}
use Rattle.machine_model.specs.declared.kind.Kind.TheVariants.{Any, OptText, Text as TextKind, List as ListKind, Number as NumberKind}
use Rattle.machine_model.specs.Operands.{name_at, literal_at}
use Rattle.machine_model.specs.Values.{Value, Text as TextValue, List as ListValue, Number as NumberValue}
use Rattle.machine_model.specs.States.{Loop, Frame, Link, NoLink, State, Running, Ended, put, at}
use Rattle.machine_model.specs.Step.{Move, Ends, MovesTo, Does, halt, fail, jump, text, list, const, number, no_number, undefined, defined, empty, not_empty}
use Rattle.machine_model.specs.Step.{no_member, a_member, equal, different, less, not_less, emit, put_text, cut_text, no_turn, enter, first_turn, later_turn}
use Rattle.machine_model.specs.Step.{next_member, leave, count, IsInside, Leads}
use Rattle.machine_model.specs.Form.{is_next, body_at, is_in_body, is_same_body, ends_body, target, goes_to, is_each, ends_run}
use Rattle.machine_model.specs.Kinds.{kind_le, Kinds, needs, Edge, edge, edges}
use Rattle.machine_model.specs.Typable.{Table, Holds, IsMet}
use Rattle.machine_model.proofs.Bodies.{is_in, body_off, end_out, body_suc, same_bodies}
use Rattle.machine_model.proofs.GoodPlaces.{IsGood, body_same}
use Rattle.machine_model.specs.Fitting.{kind_of, Fits, body_of, Conforms}
use Rattle.machine_model.proofs.Fitting.{is_text, is_opt_text, is_list, is_number, text_or_undefined-kind}
use Rattle.machine_model.proofs.Fitting.{fits_put, fits_any, fits_known, fits_below, fits_need}

module _ (c : Code) (t : Table) where
  abbrev pub StateConforms : State → Type 0
  StateConforms (Running s) = Conforms c t s
  StateConforms (Ended e) = Unit {0}

  -- some step leads to a state that the table describes
  abbrev pub Continues : Environment → Frame → Instruction → Type 0
  Continues v s op = (m : Move) × (new : State) × Does c v s op m × Leads c s.place m new × StateConforms new

  inside_of : (p : ℕ) (l : Option Loop) → option_map body_of l ≡ body_at c p → IsInside l p
  inside_of p None e = tt
  inside_of p (Some l) e = let i = is_in c p (body_of l) (sym e) in (i.low, i.high)

  -- along an edge to a later place
  pub along : (v : Environment) (s : Frame) (op : Instruction) (e : Edge) (regs : ℕ → Value) (turn : Option Loop) (out : Text)
      → Does c v s op (MovesTo (record { place = e.to; registers = regs; loop = turn; output = out })) → Holds t e → Fits e.kinds regs → s.place < e.to
      → e.to < length c.instrs → option_map body_of turn ≡ body_at c e.to → Continues v s op
  along v s op e regs turn out d h f lt within b = grind (arith, within, inside_of, fits_below)

  module _ (v : Environment) (s : Frame) (k : Conforms c t s) where
    -- to the next place
    fall : (op : Instruction) (ks : Kinds) (regs : ℕ → Value) (out : Text) → IsGood c s.place op → ends_run op ≡ false → is_each op ≡ false
        → is_next (Some op) ≡ false → Does c v s op (MovesTo (record { place = s.place + 1; registers = regs; loop = s.loop; output = out }))
        → Holds t (edge (s.place + 1) ks) → Fits ks regs → Continues v s op
    fall op ks regs out g nl ne nn d h f =
        let more : s.place + 1 < length c.instrs = grind (arith, common_steps) in
        along v s op (edge (s.place + 1) ks) regs s.loop out d h f (omega arith) more (k.body ∙ sym (body_same c s.place op g ne nn))

    -- to the target of a jump
    jumps : (op : Instruction) (to : ℕ) (ks : Kinds) → IsGood c s.place op → target op ≡ Some to → is_each op ≡ false → Does c v s op (MovesTo (at to s))
        → Holds t (edge to ks) → Fits ks s.registers → Continues v s op
    jumps op to ks g e ne d h f =
        let lt : goes_to (λ d. nat_lt s.place d) (Some to) ≡ true = rw e at g.placed.forward in
        let within : goes_to (λ d. nat_lt d (length c.instrs)) (Some to) ≡ true = rw e at g.placed.within in
        let cross : (is_each op || goes_to (λ d. is_same_body (body_at c s.place) (body_at c d)) (Some to)) ≡ true =
        subst (λ o. (is_each op || goes_to (λ d. is_same_body (body_at c s.place) (body_at c d)) o) ≡ true) e g.placed.crosses in
        let cross' : (false || is_same_body (body_at c s.place) (body_at c to)) ≡ true =
        subst (λ b. (b || is_same_body (body_at c s.place) (body_at c to)) ≡ true) ne cross in
        along v s op (edge to ks) s.registers s.loop s.output d h f (ltb-true s.place to lt) (ltb-true to (length c.instrs) within)
        (k.body ∙ same_bodies c s.place to (body_at c s.place) (body_at c to) refl refl cross')

    -- an instruction whose needs are met makes a step along one of its edges
    pub moves : (op : Instruction) → IsGood c s.place op → AllByRecursion (IsMet k.kinds) (needs op)
        → AllByRecursion (Holds t) (edges s.place k.kinds (body_at c s.place) op) → Continues v s op
    moves Halt g n h = (Ends (Link s.output), Ended (Link s.output), halt, refl, tt)
    moves Fail g n h = (Ends NoLink, Ended NoLink, fail, refl, tt)
    moves (Jump d) g n h = jumps (Jump d) d k.kinds g refl refl (jump d) h.0 k.fits
    moves (LoadText a b) g n h =
        fall (LoadText a b) _ _ _ g refl refl refl (text a b) h.0
        (fits_put k.kinds s.registers a OptText _ k.fits (text_or_undefined-kind (text_of v (name_at c b))))
    moves (LoadList a b) g n h =
        fall (LoadList a b) _ _ _ g refl refl refl (list a b) h.0 (fits_put k.kinds s.registers a ListKind (ListValue (members_of v (name_at c b))) k.fits refl)
    moves (Const a b) g n h =
        fall (Const a b) _ _ _ g refl refl refl (const a b) h.0 (fits_put k.kinds s.registers a TextKind (TextValue (literal_at c b)) k.fits refl)
    moves (Number a b d) g n h =
        let x = is_text (s.registers b) (fits_need k.kinds s.registers b TextKind k.fits n.0) in
        by_number x.0 x.1 (leading_number x.0) refl
      where
        by_number : (u : Text) → s.registers b ≡ TextValue u → (o : Option ℕ) → leading_number u ≡ o → Continues v s (Number a b d)
        by_number u e None e' = jumps (Number a b d) d k.kinds g refl refl (no_number a b d u e e') h.1.0 k.fits
        by_number u e (Some m) e' =
            fall (Number a b d) _ _ _ g refl refl refl (number a b d m u e e') h.0 (fits_put k.kinds s.registers a NumberKind (NumberValue m) k.fits refl)
    moves (Undef a d) g n h =
        let m = fits_need k.kinds s.registers a OptText k.fits n.0 in
        ⊎_elim
        (λ e. jumps (Undef a d) d k.kinds g refl refl (undefined a d e) h.1.0 k.fits)
        (λ x. fall (Undef a d) _ _ _ g refl refl refl (defined a d x.0 x.1) h.0
        (fits_known k.kinds s.registers a TextKind k.fits (ap (λ y. kind_le (kind_of y) TextKind) x.1)))
        (is_opt_text (s.registers a) m)
    moves (Empty a d) g n h =
        let x = is_text (s.registers a) (fits_need k.kinds s.registers a TextKind k.fits n.0) in by_text x.0 x.1
      where
        by_text : (u : Text) → s.registers a ≡ TextValue u → Continues v s (Empty a d)
        by_text [] e = jumps (Empty a d) d k.kinds g refl refl (empty a d e) h.1.0 k.fits
        by_text (y ∷ u) e = fall (Empty a d) _ _ _ g refl refl refl (not_empty a d y u e) h.0 k.fits
    moves (NoList a d) g n h =
        let x = is_list (s.registers a) (fits_need k.kinds s.registers a ListKind k.fits n.0) in by_list x.0 x.1
      where
        by_list : (u : List Text) → s.registers a ≡ ListValue u → Continues v s (NoList a d)
        by_list [] e = jumps (NoList a d) d k.kinds g refl refl (no_member a d e) h.1.0 k.fits
        by_list (y ∷ u) e = fall (NoList a d) _ _ _ g refl refl refl (a_member a d y u e) h.0 k.fits
    moves (Differ a b d) g n h =
        let x = is_text (s.registers a) (fits_need k.kinds s.registers a TextKind k.fits n.0) in
        let y = is_text (s.registers b) (fits_need k.kinds s.registers b TextKind k.fits n.1.0) in
        by_test (bytes_eq x.0 y.0) refl x.1 y.1
      where
        by_test : {x y : Text} (e : Bool) → bytes_eq x y ≡ e → s.registers a ≡ TextValue x → s.registers b ≡ TextValue y → Continues v s (Differ a b d)
        by_test {x} {y} true e hx hy = fall (Differ a b d) _ _ _ g refl refl refl (equal a b d x hx (hy ∙ ap TextValue (sym ((bytes_eq-Decides x y).0 e)))) h.0
            k.fits
        by_test {x} {y} false e hx hy =
            jumps (Differ a b d) d k.kinds g refl refl (different a b d x y hx hy (λ same. false≢true (sym e ∙ (bytes_eq-Decides x y).1 same))) h.1.0 k.fits
    moves (Less a b d) g n h =
        let x = is_number (s.registers a) (fits_need k.kinds s.registers a NumberKind k.fits n.0) in
        let y = is_number (s.registers b) (fits_need k.kinds s.registers b NumberKind k.fits n.1.0) in
        ⊎_elim (λ lt. jumps (Less a b d) d k.kinds g refl refl (less a b d x.0 y.0 x.1 y.1 lt) h.1.0 k.fits)
        (λ le. fall (Less a b d) _ _ _ g refl refl refl (not_less a b d x.0 y.0 x.1 y.1 le) h.0 k.fits) (cases_lt x.0 y.0)
    moves (Emit b) g n h = fall (Emit b) _ _ _ g refl refl refl (emit b) h.0 k.fits
    moves (Put a m) g n h = let x = is_text (s.registers a) (fits_need k.kinds s.registers a TextKind k.fits n.0) in
        fall (Put a m) _ _ _ g refl refl refl (put_text a m x.0 x.1) h.0 k.fits
    moves (Cut a i m) g n h = let x = is_text (s.registers a) (fits_need k.kinds s.registers a TextKind k.fits n.0) in
        fall (Cut a i m) _ _ _ g refl refl refl (cut_text a i m x.0 x.1) h.0 k.fits
    moves (Each a b d) g n h =
        let x = is_list (s.registers b) (fits_need k.kinds s.registers b ListKind k.fits n.0) in
        by_turn s.loop refl (body_at c s.place) refl k.body g.placed.nested x.0 x.1
      where
        lt : s.place < d
        lt = ltb-true s.place d g.placed.forward

        within : d < length c.instrs
        within = ltb-true d (length c.instrs) g.placed.within

        further : s.place + 1 < d
        further = grind (arith, cases_lt)

        opened : body_at c s.place ≡ None → body_at c (s.place + 1) ≡ Some (record { start = s.place + 1; end = d; element = a })
        opened e = rw add-one (rw (body_suc c s.place, e, g.read, g.placed.forward, g.placed.within, g.placed.looped) refl)

        by_turn : (l : Option Loop) → s.loop ≡ l → (o : Option Body) → body_at c s.place ≡ o → option_map body_of l ≡ o → not (is_in_body o) ≡ true
            → (ts : List Text) → s.registers b ≡ ListValue ts → Continues v s (Each a b d)
        by_turn None e None eo same out [] hr =
            let f : body_at c d ≡ None = end_out c (s.place + 1) _ (opened eo) in
            along v s (Each a b d) (edge d (put k.kinds a Any)) s.registers s.loop s.output (no_turn a b d e further hr) h.1.0
            (fits_any k.kinds s.registers a k.fits) lt within (ap (option_map body_of) e ∙ sym f)
        by_turn None e None eo same out (y ∷ ts) hr =
            along v s (Each a b d) (edge (s.place + 1) (put k.kinds a TextKind)) _ _ _ (enter a b d y ts e further hr) h.0
            (fits_put k.kinds s.registers a TextKind (TextValue y) k.fits refl) (omega arith) (omega (arith, within, further)) (sym (opened eo))
        by_turn _ e _ eo same out ts hr = absurd (cc)
    moves (Sep b) g n h = by_turn s.loop refl (body_at c s.place) k.body g.placed.sep_in
      where
        by_first : (l : Loop) → s.loop ≡ Some l → (f : Bool) → l.first ≡ f → Continues v s (Sep b)
        by_first l e true f = fall (Sep b) _ _ _ g refl refl refl (first_turn b l e f) h.0 k.fits
        by_first l e false f = fall (Sep b) _ _ _ g refl refl refl (later_turn b l e f) h.0 k.fits

        by_turn : (l : Option Loop) → s.loop ≡ l → (o : Option Body) → option_map body_of l ≡ o → is_in_body o ≡ true → Continues v s (Sep b)
        by_turn None e None same i = absurd (cc)
        by_turn None e (Some o) same i = absurd (cc)
        by_turn (Some l) e o same i = by_first l e l.first refl
    moves Next g n h = by_turn s.loop refl (body_at c s.place) refl k.body g.placed.next_last
      where
        more : s.place + 1 < length c.instrs
        more = grind (arith, common_steps)

        by_left : (l : Loop) → s.loop ≡ Some l → body_at c s.place ≡ Some (body_of l) → s.place + 1 ≡ l.end → (ts : List Text) → l.left ≡ ts
            → Continues v s Next
        by_left l e eo last [] hl =
            let h' = subst (λ o. AllByRecursion (Holds t) (edges s.place k.kinds o Next)) eo h in
            let f : body_at c (s.place + 1) ≡ None = rw add-one (body_off c s.place (body_of l) eo (omega arith)) in
            along v s Next (edge (s.place + 1) (put k.kinds l.element Any)) s.registers None s.output (leave l e last hl) h'.1.0
            (fits_any k.kinds s.registers l.element k.fits) (omega arith) more (sym f)
        by_left l e eo last (y ∷ ts) hl =
            let h' = subst (λ o. AllByRecursion (Holds t) (edges s.place k.kinds o Next)) eo h in
            let i = is_in c s.place (body_of l) eo in
            let ks = put k.kinds l.element TextKind in
            let regs = put s.registers l.element (TextValue y) in
            let f = fits_put k.kinds s.registers l.element TextKind (TextValue y) k.fits refl in
            let w : s.place < length c.instrs = k.within in (
              _,
              _,
              next_member l y ts e last hl,
              refl,
              record { kinds = h'.0.0; known = h'.0.1; fits = fits_below ks h'.0.0 regs h'.0.2 f; within = omega arith; body = sym i.first },
            )

        by_turn : (l : Option Loop) → s.loop ≡ l → (o : Option Body) → body_at c s.place ≡ o → option_map body_of l ≡ o → (not true || ends_body s.place o)
            ≡ true → Continues v s Next
        by_turn None e None eo same i = absurd (cc)
        by_turn None e (Some o) eo same i = absurd (cc)
        by_turn (Some l) e None eo same i = absurd (cc)
        by_turn (Some l) e (Some o) eo same i =
            let same' : body_of l ≡ o = same_Some _ _ same in
            by_left l e (eo ∙ ap Some (sym same')) (eqb-true (s.place + 1) o.end i ∙ ap (λ (x : Body). x.end) (sym same')) l.left refl
    moves (Count a b) g n h = let x = is_list (s.registers b) (fits_need k.kinds s.registers b ListKind k.fits n.0) in
        fall (Count a b) _ _ _ g refl refl refl (count a b x.0 x.1) h.0 (fits_put k.kinds s.registers a NumberKind (NumberValue (length x.0)) k.fits refl)
